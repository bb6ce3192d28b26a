-- What catkhize_receiver_new, _receive, _advance, _cancel and _release give and leave in each lent buffer: the exports' own tests, then the receiver's
-- definitions. Each call's arguments stand in the order of the export.
use denote.Ref.{MutBor}
use Rattle.std.specs.Prelude.{◌≡◌, Bool, not, cond, List, [], ◌∷◌, ℕ, ltb, length, Option, Some, None, Result, Ok, Err}
use Rattle.std.proofs.lemmas.List.Edits.{sets}
use Rattle.tsar.specs.Rows.{Refusal, refusal}
use Rattle.receiver.specs.declared.Receiver.{Receiver}
use Rattle.receiver.specs.declared.Call.{Call as Calls}
use Rattle.receiver.specs.Answers.{Answer, Step}
use Rattle.receiver.specs.Says.{canceled}
use Rattle.receiver.specs.Record.{interval_of}
use Rattle.receiver.specs.Receive.{receive_of}
use Rattle.receiver.specs.Advance.{Made, try_new_of, advance_of, cancel_of, release_of}
use Rattle.codec_c.specs.Codes.{code_of, short, misspelled, unnamed, unless_refused}
use Rattle.image.specs.Segments.{segment_of, segment_ok}
use Rattle.image.specs.Cases.{protocol_of}
use Rattle.receiver_image.specs.Images.{image_of, record_of, image_ok}
use Rattle.receiver_answers.specs.Answers.{answer_code, reply_octets, reception_octets, no_octets}

-- ---- a call

-- the number that it gives; the record's octets after it, and the receiver that these spell; the store, the output and the answer after it
pub record Call : Type 0 where
  pub code : ℕ
  pub image : List ℕ
  pub receiver : Option Receiver
  pub store : List ℕ
  pub output : List ℕ
  pub answer : List ℕ

-- the receiver that octets spell, if they spell one
unfoldable pub spelled_by : List ℕ → Option Receiver
spelled_by image = cond (image_ok image) (Some (record_of image)) None

-- a call as code makes it; what it is not lent is []
abbrev pub call : ℕ → List ℕ → List ℕ → List ℕ → List ℕ → Call
call n image store output answer =
    record {
      code = n;
      image = image;
      receiver = spelled_by image;
      store = store;
      output = output;
      answer = answer;
    }

-- the receiver's step s as a call: its receiver is put into the record, also beside a refusal, and the answer's octets are written
abbrev pub step_call : (Answer → List ℕ) → List ℕ → List ℕ → Step → Call
step_call octets image answer s =
    record {
      code = answer_code s.answer;
      image = sets image 0 (image_of s.receiver);
      receiver = Some s.receiver;
      store = s.store;
      output = s.output;
      answer = sets answer 0 (octets s.answer);
    }

-- ---- what code reads, and what it does with what a step gives

-- a record is 3931 octets, and an answer as many as are asked for
abbrev pub front_tests : List ℕ → List ℕ → ℕ → List (Bool × Refusal)
front_tests image answer octets = (ltb (length image) 3931, short) ∷ (ltb (length answer) octets, short) ∷ (not (image_ok image), misspelled) ∷ []

-- the receiver that a record spells, or the number of the first test that holds
abbrev pub read_of : List ℕ → List ℕ → ℕ → Result Receiver ℕ
read_of image answer octets = unless_refused (refusal (front_tests image answer octets)) Err (Ok (record_of image))

-- ---- catkhize_receiver_receive

-- a record is 3931 octets, a segment 15 and an answer 55; the protocols are 0 to 2
abbrev pub receive_tests : List ℕ → ℕ → List ℕ → List ℕ → List (Bool × Refusal)
receive_tests image protocol segment answer =
    (ltb (length image) 3931, short)
    ∷ (ltb (length segment) 15, short)
    ∷ (ltb (length answer) 55, short)
    ∷ (not (image_ok image), misspelled)
    ∷ (not (segment_ok segment), misspelled)
    ∷ (ltb 2 protocol, unnamed)
    ∷ []

-- the interval is that of the receiver which the record spells
unfoldable pub receive_call : (image store output : List ℕ) (kind width value protocol octet : ℕ) (segment octets : List ℕ) (unparsed reading : ℕ) (answer : List ℕ) → Call
receive_call image store output kind width value protocol octet segment octets unparsed reading answer =
    unless_refused (refusal (receive_tests image protocol segment answer)) (λ n. call n image store output answer)
    (step_call reception_octets image answer
    (receive_of (interval_of (record_of image)) (record_of image)
    (record {
      peer = record { kind = kind; width = width; value = value };
      protocol = protocol_of protocol octet;
      segment = segment_of segment;
      octets = octets;
      unparsed = unparsed;
      reading = reading;
    })
    store output))

-- ---- catkhize_receiver_advance

-- a record is 3931 octets and an answer 46
abbrev pub advance_tests : List ℕ → List ℕ → List (Bool × Refusal)
advance_tests image answer = (ltb (length image) 3931, short) ∷ (ltb (length answer) 46, short) ∷ (not (image_ok image), misspelled) ∷ []

unfoldable pub advance_call : (image store : List ℕ) (reading : ℕ) (answer : List ℕ) → Call
advance_call image store reading answer =
    unless_refused (refusal (advance_tests image answer)) (λ n. call n image store [] answer)
    (step_call reply_octets image answer (advance_of (record_of image) store reading))

-- ---- catkhize_receiver_cancel and catkhize_receiver_release

-- a record is 3931 octets
abbrev pub closing_tests : List ℕ → List (Bool × Refusal)
closing_tests image = (ltb (length image) 3931, short) ∷ (not (image_ok image), misspelled) ∷ []

-- either, by the step that it makes; neither is lent an answer
abbrev pub closing_call : (Receiver → List ℕ → ℕ → Step) → (image store : List ℕ) (reading : ℕ) → Call
closing_call step image store reading =
    unless_refused (refusal (closing_tests image)) (λ n. call n image store [] [])
    (step_call no_octets image [] (step (record_of image) store reading))

-- a call that hands the record's receiver to a step, of whose results P holds: if these are what a definition says, so is the call
abbrev pub Closes : (Receiver → ℕ → MutBor (List ℕ) → Calls Unit → MutBor (List ℕ) → Type 0) → (image store : List ℕ) (reading : ℕ) → Call → Type 0
Closes P image store reading c =
    (step : Receiver → List ℕ → ℕ → Step) → ((r : Receiver) (s : MutBor (List ℕ)) (x : Calls Unit) (t : MutBor (List ℕ)) → P r reading s x t → canceled x t.now ≡ step r s.now reading)
    → c ≡ closing_call step image store reading

unfoldable pub cancel_call : (image store : List ℕ) (reading : ℕ) → Call
cancel_call image store reading = closing_call cancel_of image store reading

unfoldable pub release_call : (image store : List ℕ) (reading : ℕ) → Call
release_call image store reading = closing_call release_of image store reading

-- ---- catkhize_receiver_new

-- a record is 3931 octets, and the protocols are 0 to 2
abbrev pub new_tests : List ℕ → ℕ → List (Bool × Refusal)
new_tests image protocol = (ltb (length image) 3931, short) ∷ (ltb 2 protocol, unnamed) ∷ []

-- what try_new gives, as a call: its receiver is put into the record, and beside a refusal nothing is
abbrev pub made_call : List ℕ → Option Refusal → Receiver → Call
made_call image (Some n) r = call (code_of n) image [] [] []
made_call image None r =
    record {
      code = 0;
      image = sets image 0 (image_of r);
      receiver = Some r;
      store = [];
      output = [];
      answer = [];
    }

abbrev pub new_gives : List ℕ → Made → Call
new_gives image m = made_call image m.refused m.receiver

unfoldable pub new_call : (image : List ℕ) (kind width value protocol octet transaction version profile maximum reading : ℕ) → Call
new_call image kind width value protocol octet transaction version profile maximum reading =
    unless_refused (refusal (new_tests image protocol)) (λ n. call n image [] [] [])
    (new_gives image
    (try_new_of
    (record {
      peer = record { kind = kind; width = width; value = value };
      protocol = protocol_of protocol octet;
      transaction_id = transaction;
      version = version;
      profile = profile;
      maximum_message_octets = maximum;
    })
    reading))
