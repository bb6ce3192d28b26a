-- What catkhize_receiver_train gives, and what it leaves in each lent buffer: the exports' own tests first, which change nothing, and then the
-- train, from the record that the buffer spells.
use Rattle.std.specs.Prelude.{◌≡◌, Bool, true, not, List, [], ◌∷◌, ◌++◌, ℕ, ◌/◌, ltb, length, Option, None}
use Rattle.std.proofs.lemmas.List.Edits.{sets}
use Rattle.tsar.specs.Rows.{Refusal, refusal}
use Rattle.link.specs.declared.MobileIdentity.{MobileIdentity}
use Rattle.receiver.specs.declared.Reported.{Reported}
use Rattle.codec_c.specs.Codes.{short, misspelled, unnamed, unless_refused}
use Rattle.image.specs.Numbers.{spell}
use Rattle.image.specs.Cases.{protocol_of}
use Rattle.receiver_image.specs.Images.{image_of, record_of, image_ok}
use Rattle.receiver_answers.specs.Answers.{reception_image}
use Rattle.train_c.specs.Walk.{Train, segments_of, start_of, train_of}

-- the octets that the buffers hold before the call, and its numbers
pub record Asked : Type 0 where
  pub image : List ℕ
  pub store : List ℕ
  pub output : List ℕ
  pub peer : MobileIdentity
  pub protocol : ℕ
  pub octet : ℕ
  pub octets : List ℕ
  pub lengths : List ℕ
  pub reading : ℕ
  pub answer : List ℕ

-- the number that the call gives, and the record's octets, the store, the output and the answer after it
pub record Call : Type 0 where
  pub code : ℕ
  pub image : List ℕ
  pub store : List ℕ
  pub output : List ℕ
  pub answer : List ℕ

abbrev pub call : ℕ → List ℕ → List ℕ → List ℕ → List ℕ → Call
call n image store output answer = record { code = n; image = image; store = store; output = output; answer = answer }

-- a record is 3,931 octets and an answer 63, and protocols are 0 to 2
abbrev pub train_tests : Asked → List (Bool × Refusal)
train_tests a =
    (ltb (length a.image) 3931, short)
    ∷ (ltb (length a.answer) 63, short)
    ∷ (not (image_ok a.image), misspelled)
    ∷ (ltb 2 a.protocol, unnamed)
    ∷ []

-- the train from the record that the octets spell. Two octets are a length: an odd last one is none
abbrev pub train_asked : Asked → Train
train_asked a =
    train_of a.peer (protocol_of a.protocol a.octet) a.reading (segments_of (length a.lengths / 2) a.lengths a.octets)
    (start_of (record_of a.image) a.store a.output)

-- TRAIN: how many segments were received, and the reception of the last
unfoldable pub train_image : ℕ → Option Reported → Option ℕ → List ℕ
train_image n response message = spell 8 n ++ reception_image response message

-- a train that is done or stopped: record and answer are written either way
abbrev pub train_done : Asked → Train → Call
train_done a t =
    call t.code (sets a.image 0 (image_of t.receiver)) t.store t.output (sets a.answer 0 (train_image t.received t.response t.message))

unfoldable pub train_call : Asked → Call
train_call a = unless_refused (refusal (train_tests a)) (λ n. call n a.image a.store a.output a.answer) (train_done a (train_asked a))

-- past the tests the record's octets spell the receiver that the train leaves
pub record Spells (a : Asked) (image : List ℕ) : Type 0 where
  pub whole : refusal (train_tests a) ≡ None → image_ok image ≡ true
  pub next : refusal (train_tests a) ≡ None → record_of image ≡ (train_asked a).receiver

-- what the export ensures
abbrev pub Met : Asked → Call → Type 0
Met a c = (c ≡ train_call a) × Spells a c.image
