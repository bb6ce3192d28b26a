-- Two calls of the exports in a row: octets that one call wrote, given to the next. The next one never says of them that they spell no value.
-- A call stands here for the contract that its entry ensures: the number that it gave, and the octets before and after it.
use Rattle.std.specs.Prelude.{◌≡◌, Bool, true, false, ◌||◌, List, [], ℕ, eqb}
use Rattle.sender.specs.TryNew.{offer_of}
use Rattle.codec_c.specs.Codes.{code_of, short, misspelled, unnamed}
use Rattle.image.specs.Segments.{segment_ok}
use Rattle.image_link.specs.Responses.{response_ok}
use Rattle.sender_image.specs.Images.{record_of}
use Rattle.plan_c.specs.Calls.{plan_call, plan_message_call, plan_even_call, part_call, plan_segment_call, try_from_frozen_call, convert_call}
use Rattle.receiver_c.specs.Calls as receiver
use Rattle.train_c.specs.Calls as train
use Rattle.sender_c.specs.Calls as sender

-- ---- what is claimed of plans, of receivers and of senders alike

-- one of the three numbers that the exports give for themselves, beside which nothing is changed
abbrev pub own_number : ℕ → Bool
own_number n = eqb n (code_of short) || (eqb n (code_of misspelled) || eqb n (code_of unnamed))

-- `Makes before n l`: a call that makes a value was given the octets `before`, gave n and left l in their place. `Call others before n l`: a call
-- that reads a value did; `others` says whether what else it reads as a value spells one

-- octets that calls wrote: a call that makes a value gave 0; a call that reads one went past the exports' own tests; or such octets were given to
-- any call of either sort, whatever it gave: also to one that was refused, or to a planner that gave 1
pub data Written (Makes : List ℕ → ℕ → List ℕ → Type 0) (Call : Bool → List ℕ → ℕ → List ℕ → Type 0) : List ℕ → Type 0 where
  made : (before l : List ℕ) → Makes before 0 l → Written Makes Call l
  passed : (others : Bool) (before : List ℕ) (n : ℕ) (l : List ℕ) → own_number n ≡ false → Call others before n l → Written Makes Call l
  kept : (others : Bool) (before : List ℕ) (n : ℕ) (l : List ℕ) → Written Makes Call before → Call others before n l → Written Makes Call l
  kept_making : (before : List ℕ) (n : ℕ) (l : List ℕ) → Written Makes Call before → Makes before n l → Written Makes Call l

-- no call that is given such octets, and that reads nothing else that spells no value, says that octets spell no value
abbrev pub NeverMisspelled : (List ℕ → ℕ → List ℕ → Type 0) → (Bool → List ℕ → ℕ → List ℕ → Type 0) → Type 0
NeverMisspelled Makes Call = (l : List ℕ) → Written Makes Call l → (n : ℕ) (after : List ℕ) → Call true l n after → n ≡ code_of misspelled → ⊥

-- ---- plans

-- catkhize_plan_message, catkhize_plan_even, catkhize_try_from_frozen and catkhize_convert
pub data PlanMade (before : List ℕ) (n : ℕ) (plan : List ℕ) : Type 0 where
  planned : (message : List ℕ) (budget transaction window version ceiling : ℕ)
      → plan_call n plan ≡ plan_message_call message budget transaction window version ceiling before → PlanMade before n plan
  evenly : (message : List ℕ) (budget transaction window version ceiling : ℕ)
      → plan_call n plan ≡ plan_even_call message budget transaction window version ceiling before → PlanMade before n plan
  checked : (heads : List ℕ) (count : ℕ) (joined message : List ℕ) (budget version ceiling : ℕ)
      → plan_call n plan ≡ try_from_frozen_call heads count joined message budget version ceiling before → PlanMade before n plan
  converted : (heads : List ℕ) (count : ℕ) (joined message : List ℕ) (budget version ceiling dialect : ℕ)
      → plan_call n plan ≡ convert_call heads count joined message budget version ceiling dialect before → PlanMade before n plan

-- catkhize_plan_segment and catkhize_sender_new: both only read the plan, and nothing else as a value
pub data PlanRead (others : Bool) (before : List ℕ) (n : ℕ) (after : List ℕ) : Type 0 where
  segment : (index : ℕ) (answer answer' : List ℕ) → after ≡ before → part_call n answer' ≡ plan_segment_call before index answer → PlanRead others before n after
  sender_new : (image : List ℕ) (kind width value protocol octet : ℕ) (message : List ℕ) (version profile number reading : ℕ) (image' : List ℕ) → after ≡ before
      → sender.NewMet (sender.new_tests image protocol before) image (sender.new_step (sender.terms_of kind width value protocol octet version profile number) before message reading)
      (sender.call n image' [])
      → PlanRead others before n after

-- ---- a receiver's record

-- catkhize_receiver_new
pub data ReceiverMade (before : List ℕ) (n : ℕ) (image : List ℕ) : Type 0 where
  receiver_new : (kind width value protocol octet transaction version profile maximum reading : ℕ)
      → receiver.call n image [] [] [] ≡ receiver.new_call before kind width value protocol octet transaction version profile maximum reading
      → ReceiverMade before n image

-- catkhize_receiver_receive, _advance, _cancel, _release and _train; a receive reads a segment too
pub data ReceiverCall (others : Bool) (before : List ℕ) (n : ℕ) (after : List ℕ) : Type 0 where
  receive : (store output : List ℕ) (kind width value protocol octet : ℕ) (segment octets : List ℕ) (unparsed reading : ℕ) (answer store' output' answer' : List ℕ)
      → segment_ok segment ≡ others
      → receiver.call n after store' output' answer'
      ≡ receiver.receive_call before store output kind width value protocol octet segment octets unparsed reading answer
      → ReceiverCall others before n after
  advance : (store : List ℕ) (reading : ℕ) (answer store' answer' : List ℕ)
      → receiver.call n after store' [] answer' ≡ receiver.advance_call before store reading answer → ReceiverCall others before n after
  cancel : (store : List ℕ) (reading : ℕ) (store' : List ℕ) → receiver.call n after store' [] [] ≡ receiver.cancel_call before store reading → ReceiverCall others before n after
  release : (store : List ℕ) (reading : ℕ) (store' : List ℕ) → receiver.call n after store' [] [] ≡ receiver.release_call before store reading → ReceiverCall others before n after
  walk : (a : train.Asked) (store' output' answer' : List ℕ) → a.image ≡ before → train.Met a (train.call n after store' output' answer') → ReceiverCall others before n after

-- ---- a sender's record

-- catkhize_sender_new
pub data SenderMade (before : List ℕ) (n : ℕ) (image : List ℕ) : Type 0 where
  sender_new : (kind width value protocol octet : ℕ) (plan message : List ℕ) (version profile number reading : ℕ)
      → sender.NewMet (sender.new_tests before protocol plan) before (sender.new_step (sender.terms_of kind width value protocol octet version profile number) plan message reading)
      (sender.call n image [])
      → SenderMade before n image

-- the other entries of the sender; a receive_response reads a response too
pub data SenderCall (others : Bool) (before : List ℕ) (n : ℕ) (after : List ℕ) : Type 0 where
  advance : (reading : ℕ) (answer answer' : List ℕ)
      → sender.Met (sender.state_tests before answer) before answer (sender.advance_step before reading) (sender.call n after answer') → SenderCall others before n after
  cancel : (reading : ℕ) (answer answer' : List ℕ)
      → sender.Met (sender.state_tests before answer) before answer (sender.cancel_step before reading) (sender.call n after answer') → SenderCall others before n after
  submitted : (number ticket queued observed : ℕ) (answer answer' : List ℕ)
      → sender.Met (sender.state_tests before answer) before answer (sender.submitted_step before number ticket queued observed) (sender.call n after answer')
      → SenderCall others before n after
  accepted : (number ticket reading : ℕ) (answer answer' : List ℕ)
      → sender.Met (sender.state_tests before answer) before answer (sender.accepted_step before number ticket reading) (sender.call n after answer')
      → SenderCall others before n after
  lower_failed : (number ticket failure cause reading : ℕ) (answer answer' : List ℕ)
      → sender.Met (sender.failed_tests before failure answer) before answer (sender.failed_step before number ticket failure cause reading) (sender.call n after answer')
      → SenderCall others before n after
  receive_response : (kind width value protocol octet : ℕ) (response : List ℕ) (unparsed reading : ℕ) (answer answer' : List ℕ) → response_ok response ≡ others
      → sender.Met (sender.response_tests before protocol response answer) before answer
      (sender.response_step before (sender.arrival_of kind width value protocol octet response unparsed reading))
      (sender.call n after answer')
      → SenderCall others before n after
  submission : (answer answer' : List ℕ) → after ≡ before
      → sender.call n before answer' ≡ sender.offer_call (sender.offer_tests before answer) before answer (offer_of (record_of before)) → SenderCall others before n after

-- ---- the law

abbrev pub NextIsSpelled : Type 0
NextIsSpelled = NeverMisspelled PlanMade PlanRead × NeverMisspelled ReceiverMade ReceiverCall × NeverMisspelled SenderMade SenderCall
