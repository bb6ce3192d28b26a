-- The ways in which an export returns: its own tests refuse it, or they let it pass. Assumes nothing.
use Rattle.std.specs.Prelude.{◌≡◌, refl, Bool, cond, ℕ, ◌≤◌, length, Option, Some, None, Result, Ok, Err}
use Rattle.std.proofs.Common.{sym, ◌∙◌, arith}
use Rattle.std.proofs.Math.Path.{ap}
use mathlib.Core.List.{List, []}
use Rattle.std.proofs.lemmas.List.Edits.{sets}
use Rattle.tsar.specs.Rows.{Refusal, refusal, refusal_none}
use Rattle.tsar.specs.declared.Segment.{Segment}
use Rattle.link.specs.declared.HigherLayerProtocol.{HigherLayerProtocol}
use Rattle.receiver.specs.declared.Receiver.{Receiver}
use Rattle.receiver.specs.Answers.{Answer, Step}
use Rattle.receiver.specs.Record.{interval_of}
use Rattle.receiver.specs.Receive.{receive_of}
use Rattle.receiver.specs.Advance.{Made, try_new_of, advance_of, cancel_of, release_of}
use Rattle.codec_c.specs.Codes.{code_of, unless_refused}
use Rattle.std.proofs.lemmas.Bool.{ltb-false}
use Rattle.image.specs.Spelling.{put_spells}
use Rattle.image.specs.Segments.{segment_of}
use Rattle.image.specs.Cases.{protocol_of}
use Rattle.receiver_image.specs.Images.{image_of, record_of, ReceiverFits, receiver_layout}
use Rattle.receiver_answers.specs.Answers.{answer_code, reply_octets, reception_octets, no_octets}
use Rattle.receiver_c.specs.Calls.{spelled_by, call, step_call, front_tests, read_of, receive_tests, receive_call, advance_tests, advance_call, closing_tests, closing_call, cancel_call, release_call, new_tests, new_gives, new_call}

apart : {r : Receiver} {n : ℕ} → ◌≡◌ {A = Result Receiver ℕ} (Ok r) (Err n) → ⊥
apart p = let z : ◌≡◌ {A = ℕ} 0 1 = cc in omega arith

same_ok : {r s : Receiver} → ◌≡◌ {A = Result Receiver ℕ} (Ok r) (Ok s) → r ≡ s
same_ok p = cc

-- ---- tests

module _ {A : Type 0} (left : ℕ → A) (done : A) where
  pub when_refused : {o : Option Refusal} (x : Refusal) → o ≡ Some x → left (code_of x) ≡ unless_refused o left done
  when_refused x e = ap (λ (p : Option Refusal). unless_refused p left done) (sym e)

  pub when_passed : {o : Option Refusal} → o ≡ None → done ≡ unless_refused o left done
  when_passed e = ap (λ (p : Option Refusal). unless_refused p left done) (sym e)

-- where reading gives a receiver the tests pass, and it is the one that the record spells
module _ (image answer : List ℕ) (octets : ℕ) (r : Receiver) (e : read_of image answer octets ≡ Ok r) where
  pub read_none : refusal (front_tests image answer octets) ≡ None
  read_none = go (refusal (front_tests image answer octets)) refl e
    where
      go : (o : Option Refusal) → refusal (front_tests image answer octets) ≡ o → ◌≡◌ {A = Result Receiver ℕ} (unless_refused o Err (Ok (record_of image))) (Ok r)
          → refusal (front_tests image answer octets) ≡ None
      go (Some x) p q = absurd (apart (sym q))
      go None p q = p

  pub read_same : r ≡ record_of image
  read_same = sym (same_ok (ap (λ (o : Option Refusal). unless_refused o Err (Ok (record_of image))) (sym read_none) ∙ e))

  pub read_room : 3931 ≤ length image
  read_room = ltb-false (length image) 3931 (refusal_none (front_tests image answer octets) read_none 0)

-- ---- records

-- octets into whose front a receiver is put spell it
pub spelled : (image i : List ℕ) (r : Receiver) → 3931 ≤ length image → ReceiverFits r → i ≡ sets image 0 (image_of r) → spelled_by i ≡ Some r
unfolding spelled_by
spelled image i r room fits e =
    let w = put_spells receiver_layout image r i room fits e in
    ap (λ (b : Bool). cond b (Some (record_of i)) None) w.1 ∙ ap Some w.0

-- a step whose receiver is put into the record and whose answer is written is the call of the step
pub steps : (octets : Answer → List ℕ) (image answer : List ℕ) (s : Step) (n : ℕ) (i a : List ℕ) → 3931 ≤ length image → ReceiverFits s.receiver
    → n ≡ answer_code s.answer → i ≡ sets image 0 (image_of s.receiver) → a ≡ sets answer 0 (octets s.answer)
    → call n i s.store s.output a ≡ step_call octets image answer s
steps octets image answer s n i a room fits p q v =
    let w = spelled image i s.receiver room fits q in
    λ k. record { code = p k; image = q k; receiver = w k; store = s.store; output = s.output; answer = v k }

-- ---- catkhize_receiver_receive

module _ (image store output : List ℕ) (kind width value protocol octet : ℕ) (segment octets : List ℕ) (unparsed reading : ℕ) (answer : List ℕ) where
  pub receive_refused : (x : Refusal) → refusal (receive_tests image protocol segment answer) ≡ Some x
      → call (code_of x) image store output answer ≡ receive_call image store output kind width value protocol octet segment octets unparsed reading answer
  unfolding receive_call
  receive_refused x e = when_refused (λ n. call n image store output answer) _ x e

  -- by what the octets and numbers stand for
  pub receive_passed : (r : Receiver) (p : HigherLayerProtocol) (s : Segment) → refusal (receive_tests image protocol segment answer) ≡ None
      → r ≡ record_of image → p ≡ protocol_of protocol octet → s ≡ segment_of segment
      → step_call reception_octets image answer
      (receive_of (interval_of r) r (record { peer = record { kind = kind; width = width; value = value }; protocol = p; segment = s; octets = octets; unparsed = unparsed; reading = reading }) store output)
      ≡ receive_call image store output kind width value protocol octet segment octets unparsed reading answer
  unfolding receive_call
  receive_passed r p s e a b d =
      (λ i.
      step_call reception_octets image answer
      (receive_of (interval_of (a i)) (a i) (record { peer = record { kind = kind; width = width; value = value }; protocol = b i; segment = d i; octets = octets; unparsed = unparsed; reading = reading }) store output))
      ∙ when_passed (λ n. call n image store output answer) _ e

-- ---- catkhize_receiver_advance

module _ (image store : List ℕ) (reading : ℕ) (answer : List ℕ) where
  pub advance_refused : (x : Refusal) → refusal (advance_tests image answer) ≡ Some x → call (code_of x) image store [] answer ≡ advance_call image store reading answer
  unfolding advance_call
  advance_refused x e = when_refused (λ n. call n image store [] answer) _ x e

  pub advance_passed : (r : Receiver) → refusal (advance_tests image answer) ≡ None → r ≡ record_of image
      → step_call reply_octets image answer (advance_of r store reading) ≡ advance_call image store reading answer
  unfolding advance_call
  advance_passed r e a = ap (λ (x : Receiver). step_call reply_octets image answer (advance_of x store reading)) a ∙ when_passed (λ n. call n image store [] answer) _ e

-- ---- catkhize_receiver_cancel and catkhize_receiver_release

-- either, by the step that it makes
module _ (step : Receiver → List ℕ → ℕ → Step) (image store : List ℕ) (reading : ℕ) where
  closing_refused : (x : Refusal) → refusal (closing_tests image) ≡ Some x → call (code_of x) image store [] [] ≡ closing_call step image store reading
  closing_refused x e = when_refused (λ n. call n image store [] []) _ x e

  pub closing_passed : (r : Receiver) → refusal (closing_tests image) ≡ None → r ≡ record_of image
      → step_call no_octets image [] (step r store reading) ≡ closing_call step image store reading
  closing_passed r e a = ap (λ (x : Receiver). step_call no_octets image [] (step x store reading)) a ∙ when_passed (λ n. call n image store [] []) _ e

module _ (image store : List ℕ) (reading : ℕ) where
  pub cancel_refused : (x : Refusal) → refusal (closing_tests image) ≡ Some x → call (code_of x) image store [] [] ≡ cancel_call image store reading
  unfolding cancel_call
  cancel_refused x e = closing_refused cancel_of image store reading x e

  pub cancel_passed : (r : Receiver) → refusal (closing_tests image) ≡ None → r ≡ record_of image
      → step_call no_octets image [] (cancel_of r store reading) ≡ cancel_call image store reading
  unfolding cancel_call
  cancel_passed r e a = closing_passed cancel_of image store reading r e a

  pub release_refused : (x : Refusal) → refusal (closing_tests image) ≡ Some x → call (code_of x) image store [] [] ≡ release_call image store reading
  unfolding release_call
  release_refused x e = closing_refused release_of image store reading x e

  pub release_passed : (r : Receiver) → refusal (closing_tests image) ≡ None → r ≡ record_of image
      → step_call no_octets image [] (release_of r store reading) ≡ release_call image store reading
  unfolding release_call
  release_passed r e a = closing_passed release_of image store reading r e a

-- ---- catkhize_receiver_new

-- a receiver that is made and put into the record
pub makes : (image i : List ℕ) (m : Made) (r : Receiver) → 3931 ≤ length image → ReceiverFits r → i ≡ sets image 0 (image_of r) → record { refused = None; receiver = r } ≡ m
    → call 0 i [] [] [] ≡ new_gives image m
makes image i m r room fits q e =
    let w = spelled image i r room fits q in
    let done : call 0 i [] [] [] ≡ new_gives image (record { refused = None; receiver = r }) = λ k. record { code = 0; image = q k; receiver = w k; store = []; output = []; answer = [] } in
    done ∙ ap (new_gives image) e

module _ (image : List ℕ) (kind width value protocol octet transaction version profile maximum reading : ℕ) where
  pub new_refused : (x : Refusal) → refusal (new_tests image protocol) ≡ Some x
      → call (code_of x) image [] [] [] ≡ new_call image kind width value protocol octet transaction version profile maximum reading
  unfolding new_call
  new_refused x e = when_refused (λ n. call n image [] [] []) _ x e

  pub new_passed : (p : HigherLayerProtocol) → refusal (new_tests image protocol) ≡ None → p ≡ protocol_of protocol octet
      → new_gives image
      (try_new_of (record { peer = record { kind = kind; width = width; value = value }; protocol = p; transaction_id = transaction; version = version; profile = profile; maximum_message_octets = maximum }) reading)
      ≡ new_call image kind width value protocol octet transaction version profile maximum reading
  unfolding new_call
  new_passed p e b =
      (λ i.
      new_gives image
      (try_new_of (record { peer = record { kind = kind; width = width; value = value }; protocol = b i; transaction_id = transaction; version = version; profile = profile; maximum_message_octets = maximum }) reading))
      ∙ when_passed (λ n. call n image [] [] []) _ e
