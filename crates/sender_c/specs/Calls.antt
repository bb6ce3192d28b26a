-- What the sender's exports give, and what they leave in each lent buffer: the exports' own tests first, which change nothing, and then
-- what the sender's own definition says of the record that the buffer spells.
use Rattle.std.specs.Prelude.{◌≡◌, Bool, true, not, List, [], ◌∷◌, ◌++◌, ℕ, ltb, length, Option, Some, None, Result, Ok, Err}
use Rattle.sender.specs.declared.Offered.{Offered}
use Rattle.std.proofs.lemmas.List.Edits.{sets}
use Rattle.tsar.specs.Rows.{Refusal, refusal}
use Rattle.link.specs.declared.MobileIdentity.{MobileIdentity}
use Rattle.response.specs.declared.Response.{Response}
use Rattle.sender.specs.declared.SenderState.{SenderState}
use Rattle.sender.specs.declared.Terms.{Terms}
use Rattle.sender.specs.declared.Arrival.{Arrival}
use Rattle.sender.specs.declared.Sender.{Sender}
use Rattle.sender.specs.declared.Sent.{Sent}
use Rattle.sender.specs.Record.{interval_of}
use Rattle.sender.specs.Calls.{Answer, refused, answered, Step, advance_of, cancel_of, submitted_of, accepted_of, lower_failed_of, receive_response_of}
use Rattle.sender.specs.Says.{sent}
use Rattle.sender.specs.TryNew.{try_new_of}
use Rattle.image.specs.Cases.{protocol_of}
use Rattle.image_link.specs.Responses.{response_of, response_ok}
use Rattle.plan_image.specs.Plans.{plan_of, plan_ok}
use Rattle.sender_image.specs.Images.{image_of, record_of, image_ok}
use Rattle.sender_image.specs.States.{state_image}
use Rattle.codec_c.specs.Codes.{short, misspelled, unnamed, unless_refused, code_of}
use Rattle.sender_answers.specs.Answers.{answer_code, offer_code, offer_octets, failure_of}

-- ---- a call

-- the number that a call gives, and the record's octets and the answer after it
pub record Call : Type 0 where
  pub code : ℕ
  pub image : List ℕ
  pub answer : List ℕ

abbrev pub call : ℕ → List ℕ → List ℕ → Call
call n image answer = record { code = n; image = image; answer = answer }

-- a call that the tests refuse leaves both buffers as they were; else it is done
abbrev pub call_of : List (Bool × Refusal) → List ℕ → List ℕ → Call → Call
call_of tests image answer done = unless_refused (refusal tests) (λ n. call n image answer) done

-- what a call writes to its answer: nothing beside a refusal, else STATE
abbrev pub state_octets : Answer → List ℕ
state_octets (refused n) = []
state_octets (answered s) = state_image s

-- the call of a step: its number, its record, and what it writes to the answer
abbrev pub step_call : List ℕ → List ℕ → Step → Call
step_call image answer s = call (answer_code s.answer) (sets image 0 (image_of s.sender)) (sets answer 0 (state_octets s.answer))

-- the call of an export that answers STATE: its tests, then the step
unfoldable pub sender_call : List (Bool × Refusal) → List ℕ → List ℕ → Step → Call
sender_call tests image answer step = call_of tests image answer (step_call image answer step)

-- octets that spell a sender
pub record Spelled (image : List ℕ) (s : Sender) : Type 0 where
  pub whole : image_ok image ≡ true
  pub next : record_of image ≡ s

-- a call that no test refuses leaves octets that spell the sender that the step leaves, also beside a refusal
abbrev pub Spells : List (Bool × Refusal) → List ℕ → Step → Type 0
Spells tests image step = refusal tests ≡ None → Spelled image step.sender

-- what is shown of an export that answers STATE: the call is what the definition says, and the octets spell what the step leaves
abbrev pub Met : List (Bool × Refusal) → List ℕ → List ℕ → Step → Call → Type 0
Met tests image answer step c = (c ≡ sender_call tests image answer step) × Spells tests c.image step

-- ---- what numbers name

abbrev pub peer_of : ℕ → ℕ → ℕ → MobileIdentity
peer_of kind width value = record { kind = kind; width = width; value = value }

-- ---- catkhize_sender_advance, catkhize_sender_cancel, catkhize_sender_submitted, catkhize_sender_accepted

-- a sender is 6,131 octets and a state 4
abbrev pub state_tests : List ℕ → List ℕ → List (Bool × Refusal)
state_tests image answer = (ltb (length image) 6131, short) ∷ (ltb (length answer) 4, short) ∷ (not (image_ok image), misspelled) ∷ []

abbrev pub advance_step : List ℕ → ℕ → Step
advance_step image reading = advance_of (record_of image) reading

abbrev pub cancel_step : List ℕ → ℕ → Step
cancel_step image reading = cancel_of (record_of image) reading

abbrev pub submitted_step : List ℕ → ℕ → ℕ → ℕ → ℕ → Step
submitted_step image number ticket queued observed = submitted_of (interval_of (record_of image)) (record_of image) number ticket queued observed

abbrev pub accepted_step : List ℕ → ℕ → ℕ → ℕ → Step
accepted_step image number ticket reading = accepted_of (record_of image) number ticket reading

-- ---- what code hands to a step, and what it does with what the step gives

-- a sender is 6,131 octets, and an answer as many as are asked for
abbrev pub front_tests : List ℕ → List ℕ → ℕ → List (Bool × Refusal)
front_tests image answer octets = (ltb (length image) 6131, short) ∷ (ltb (length answer) octets, short) ∷ (not (image_ok image), misspelled) ∷ []

-- the number of the first test that holds, or a value
abbrev pub tested : {A : Type 0} → List (Bool × Refusal) → A → Result A ℕ
tested tests x = unless_refused (refusal tests) Err (Ok x)

abbrev pub read_of : List ℕ → List ℕ → ℕ → Result Sender ℕ
read_of image answer octets = tested (front_tests image answer octets) (record_of image)

-- what a step gave
abbrev pub stepped : Result Sent ℕ → Result Step ℕ
stepped (Ok s) = Ok (sent s)
stepped (Err n) = Err n

-- a call that hands the record's sender to a step, of whose results P holds: if these are what tests of its own and a definition say, so is the call
abbrev pub Steps : (Sender → Result Sent ℕ → Type 0) → List ℕ → List ℕ → Call → Type 0
Steps P image answer c =
    (tests : List (Bool × Refusal)) (step : Step) → ((r : Result Sent ℕ) → P (record_of image) r → stepped r ≡ tested tests step)
    → Met (state_tests image answer ++ tests) image answer step c

-- a call that hands the record's sender to a step that refuses by no number, of whose results P holds: if these are what a definition says, behind
-- tests that none refuses, so is the call
abbrev pub Moves : (Sender → Sent → Type 0) → List ℕ → List ℕ → Call → Type 0
Moves P image answer c =
    (tests : List (Bool × Refusal)) (step : Step) → refusal tests ≡ None → ((x : Sent) → P (record_of image) x → sent x ≡ step)
    → Met (state_tests image answer ++ tests) image answer step c

-- the result of a step that a number refuses, whatever sender it is handed
abbrev pub refused_by : ℕ → Sender → Result Sent ℕ → Type 0
refused_by n s r = r ≡ Err n

-- ---- catkhize_sender_lower_failed

-- its own test
abbrev pub failed_own : ℕ → List (Bool × Refusal)
failed_own failure = (ltb 2 failure, unnamed) ∷ []

abbrev pub failed_tests : List ℕ → ℕ → List ℕ → List (Bool × Refusal)
failed_tests image failure answer =
    (ltb (length image) 6131, short) ∷ (ltb (length answer) 4, short) ∷ (not (image_ok image), misspelled) ∷ (ltb 2 failure, unnamed) ∷ []

abbrev pub failed_step : List ℕ → ℕ → ℕ → ℕ → ℕ → ℕ → Step
failed_step image number ticket failure cause reading = lower_failed_of (record_of image) number ticket (failure_of failure cause) reading

-- ---- catkhize_sender_receive_response

abbrev pub response_tests : List ℕ → ℕ → List ℕ → List ℕ → List (Bool × Refusal)
response_tests image protocol response answer =
    (ltb (length image) 6131, short)
    ∷ (ltb (length response) 41, short)
    ∷ (ltb (length answer) 4, short)
    ∷ (not (image_ok image), misspelled)
    ∷ (not (response_ok response), misspelled)
    ∷ (ltb 2 protocol, unnamed)
    ∷ []

-- its own tests behind those of the record
abbrev pub response_own : Bool → ℕ → List (Bool × Refusal)
response_own ok protocol = (not ok, misspelled) ∷ (ltb 2 protocol, unnamed) ∷ []

-- what a step answers where a response was read, and where none was, as these tests say
abbrev pub brought_by : Option Response → ℕ → (Response → Step) → Result Step ℕ
brought_by None protocol step = Err (code_of misspelled)
brought_by (Some r) protocol step = tested ((ltb 2 protocol, unnamed) ∷ []) (step r)

-- what a response brings, by its numbers
abbrev pub arrival_of : ℕ → ℕ → ℕ → ℕ → ℕ → List ℕ → ℕ → ℕ → Arrival
arrival_of kind width value protocol octet response unparsed reading =
    record { peer = peer_of kind width value; protocol = protocol_of protocol octet; response = response_of response; unparsed = unparsed; reading = reading }

abbrev pub response_step : List ℕ → Arrival → Step
response_step image a = receive_response_of (record_of image) a

-- ---- catkhize_sender_new

-- a plan is 5,958 octets
abbrev pub new_tests : List ℕ → ℕ → List ℕ → List (Bool × Refusal)
new_tests image protocol plan = (ltb (length image) 6131, short) ∷ (ltb (length plan) 5958, short) ∷ (not (plan_ok plan), misspelled) ∷ (ltb 2 protocol, unnamed) ∷ []

abbrev pub terms_of : ℕ → ℕ → ℕ → ℕ → ℕ → ℕ → ℕ → ℕ → Terms
terms_of kind width value protocol octet version profile number =
    record { peer = peer_of kind width value; protocol = protocol_of protocol octet; version = version; profile = profile; number = number }

abbrev pub new_step : Terms → List ℕ → List ℕ → ℕ → Step
new_step t plan message reading = try_new_of t (plan_of plan) message reading

-- a refused try_new leaves the buffer as it was
abbrev pub made_image : Answer → List ℕ → Sender → List ℕ
made_image (refused n) image s = image
made_image (answered x) image s = sets image 0 (image_of s)

abbrev pub made_call : List ℕ → Step → Call
made_call image s = call (answer_code s.answer) (made_image s.answer image s.sender) []

unfoldable pub new_call : List (Bool × Refusal) → List ℕ → Step → Call
new_call tests image step = call_of tests image [] (made_call image step)

-- one that is made leaves octets that spell its sender
abbrev pub MadeSpells : List ℕ → Step → Type 0
MadeSpells image s = (x : SenderState) → s.answer ≡ answered x → Spelled image s.sender

abbrev pub NewSpells : List (Bool × Refusal) → List ℕ → Step → Type 0
NewSpells tests image step = refusal tests ≡ None → MadeSpells image step

abbrev pub NewMet : List (Bool × Refusal) → List ℕ → Step → Call → Type 0
NewMet tests image step c = (c ≡ new_call tests image step) × NewSpells tests c.image step

-- ---- catkhize_sender_submission

-- a submission is 48 octets
abbrev pub offer_tests : List ℕ → List ℕ → List (Bool × Refusal)
offer_tests image answer = (ltb (length image) 6131, short) ∷ (ltb (length answer) 48, short) ∷ (not (image_ok image), misspelled) ∷ []

-- the record is only read
abbrev pub offered_call : List ℕ → List ℕ → Option Offered → Call
offered_call image answer o = call (offer_code o) image (sets answer 0 (offer_octets o))

unfoldable pub offer_call : List (Bool × Refusal) → List ℕ → List ℕ → Option Offered → Call
offer_call tests image answer o = call_of tests image answer (offered_call image answer o)
