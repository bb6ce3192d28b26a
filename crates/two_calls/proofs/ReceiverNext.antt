-- The law of a receiver's record: what catkhize_receiver_new or any later call of the receiver, a train too, left, given to the next. Assumes nothing.
use mathlib.Core.Path.{◌≡◌, refl, sym, ap, subst, ◌∙◌}
use mathlib.Core.Bool.{Bool, true}
use mathlib.Core.List.{List, []}
use Rattle.std.specs.Prelude.{Option, Some, None}
use Prim.Native.Nat.{ℕ, ◌/◌}
use lib.ListN.{length}
use Rattle.tsar.specs.Rows.{Refusal, refusal, refusal_none}
use Rattle.receiver.specs.declared.Receiver.{Receiver}
use Rattle.receiver.specs.declared.Terms.{Terms}
use Rattle.receiver.specs.Record.{interval_of}
use Rattle.receiver.specs.Answers.{Answer, Step}
use Rattle.receiver.specs.Receive.{Arrival, receive_of}
use Rattle.receiver.specs.Advance.{Made, try_new_of, advance_of, cancel_of, release_of}
use Rattle.image.specs.Segments.{segment_of, segment_ok}
use Rattle.image.specs.Cases.{protocol_of}
use Rattle.codec_c.specs.Codes.{unless_refused}
use Rattle.receiver_image.specs.Images.{record_of, image_ok}
use Rattle.receiver_answers.specs.Answers.{reply_octets, reception_octets, no_octets}
use Rattle.receiver_c.specs.Calls.{Call, spelled_by, call, step_call, receive_tests, receive_call, advance_tests, advance_call, closing_tests, closing_call, cancel_call, release_call, new_tests, made_call, new_gives, new_call}
use Rattle.train_c.specs.Walk.{segments_of, start_of}
use Rattle.train_c.specs.Calls as train
use Rattle.two_calls.specs.TwoCalls.{NeverMisspelled, ReceiverMade, receiver_new, ReceiverCall, receive, advance, cancel, release, walk}
use Rattle.two_calls.proofs.Passing.{both, twice, not_false_is, is_some, cond_some, all_pass, refusal_passes, passes, other_refusal, own, not_done, fine, fine_not_done, call_done}
use Rattle.two_calls.proofs.Numbers.{fine_answer, answer_other, receiver_new_fine, receive_fine, advance_fine, cancel_fine, release_fine, train_other}
use Rattle.two_calls.proofs.Behaving.{Making, Behaves, never_misspelled, unchanged_by, by_contract}

spelled_some : (image : List ℕ) → is_some (spelled_by image) ≡ image_ok image
unfolding spelled_by
spelled_some image = cond_some (image_ok image) (record_of image)

-- ---- catkhize_receiver_new

made_spells : (image : List ℕ) (o : Option Refusal) (r : Receiver) → passes fine o ≡ true → (made_call image o r).code ≡ 0 → is_some (made_call image o r).receiver ≡ true
made_spells image None r f e = refl
made_spells image (Some x) r f e = absurd (fine_not_done x f e)

made_left : (image : List ℕ) (o : Option Refusal) (r : Receiver) → ((made_call image o r).code ≡ 0 → ⊥) → (made_call image o r).image ≡ image
made_left image None r z = absurd (z refl)
made_left image (Some x) r z = refl

new_done : (before : List ℕ) (kind width value protocol octet transaction version profile maximum reading : ℕ) (image : List ℕ)
    → call 0 image [] [] [] ≡ new_call before kind width value protocol octet transaction version profile maximum reading → image_ok image ≡ true
unfolding new_call
new_done before kind width value protocol octet transaction version profile maximum reading image e =
    let tests : List (Bool × Refusal) = new_tests before protocol in
    let t : Terms =
    record {
      peer = record { kind = kind; width = width; value = value };
      protocol = protocol_of protocol octet;
      transaction_id = transaction;
      version = version;
      profile = profile;
      maximum_message_octets = maximum;
    } in
    let m : Made = try_new_of t reading in
    let z = call_done (λ (c : Call). c.code) (λ n. call n before [] [] []) (new_gives before m) (λ n. refl) (refusal tests) (refusal_passes not_done tests refl) (sym (ap (λ (c : Call). c.code) e)) in
    sym (spelled_some image) ∙ ap (λ (c : Call). is_some c.receiver) e
    ∙ ap (λ (o : Option Refusal). is_some (unless_refused o (λ n. call n before [] [] []) (new_gives before m)).receiver) z.0
    ∙ made_spells before m.refused m.receiver (receiver_new_fine t reading) z.1

new_left : (before : List ℕ) (kind width value protocol octet transaction version profile maximum reading : ℕ) (n : ℕ) (image : List ℕ)
    → call n image [] [] [] ≡ new_call before kind width value protocol octet transaction version profile maximum reading → (n ≡ 0 → ⊥) → image ≡ before
unfolding new_call
new_left before kind width value protocol octet transaction version profile maximum reading n image e =
    let t : Terms =
    record {
      peer = record { kind = kind; width = width; value = value };
      protocol = protocol_of protocol octet;
      transaction_id = transaction;
      version = version;
      profile = profile;
      maximum_message_octets = maximum;
    } in
    let m : Made = try_new_of t reading in
    unchanged_by before (λ (c : Call). c.code) (λ (c : Call). c.image) (λ k. call k before [] [] []) (new_gives before m) (λ k. refl) (refusal (new_tests before protocol))
    (call n image [] [] []) e (made_left before m.refused m.receiver)

making : (before : List ℕ) (n : ℕ) (image : List ℕ) → ReceiverMade before n image → Making image_ok before n image
making before n image (receiver_new kind width value protocol octet transaction version profile maximum reading e) =
    record {
      made_ok = λ z. new_done before kind width value protocol octet transaction version profile maximum reading image (ap (λ (k : ℕ). call k image [] [] []) (sym z) ∙ e);
      unchanged = new_left before kind width value protocol octet transaction version profile maximum reading n image e;
    }

-- ---- a step of the receiver behind the exports' tests, of which the row k is that of the record

step_behaves : (others : Bool) (octets : Answer → List ℕ) (image store output answer : List ℕ) (s : Step) (tests : List (Bool × Refusal)) (n : ℕ) (image' store' output' answer' : List ℕ)
    → call n image' store' output' answer' ≡ unless_refused (refusal tests) (λ m. call m image store output answer) (step_call octets image answer s)
    → all_pass own tests ≡ true → (refusal tests ≡ None → image_ok image ≡ true) → (others ≡ true → image_ok image ≡ true → all_pass other_refusal tests ≡ true)
    → fine_answer s.answer ≡ true → Behaves image_ok others image n image'
step_behaves others octets image store output answer s tests n image' store' output' answer' e all reads fits f =
    let writes : refusal tests ≡ None → image_ok image' ≡ true =
    λ h.
    sym (spelled_some image') ∙ ap (λ (c : Call). is_some c.receiver) e
    ∙ ap (λ (o : Option Refusal). is_some (unless_refused o (λ m. call m image store output answer) (step_call octets image answer s)).receiver) h in
    by_contract image_ok image tests (λ (c : Call). c.code) (λ (c : Call). c.image) (λ m. call m image store output answer) (step_call octets image answer s) (λ m. refl) (λ m. refl)
    (call n image' store' output' answer') e others all reads fits (answer_other s.answer f) writes

receive_behaves : (others : Bool) (image : List ℕ) (n : ℕ) (image' store output : List ℕ) (kind width value protocol octet : ℕ) (segment octets : List ℕ) (unparsed reading : ℕ)
    (answer store' output' answer' : List ℕ) → segment_ok segment ≡ others
    → call n image' store' output' answer' ≡ receive_call image store output kind width value protocol octet segment octets unparsed reading answer → Behaves image_ok others image n image'
unfolding receive_call
receive_behaves others image n image' store output kind width value protocol octet segment octets unparsed reading answer store' output' answer' q e =
    let tests : List (Bool × Refusal) = receive_tests image protocol segment answer in
    let a : Arrival =
    record {
      peer = record { kind = kind; width = width; value = value };
      protocol = protocol_of protocol octet;
      segment = segment_of segment;
      octets = octets;
      unparsed = unparsed;
      reading = reading;
    } in
    step_behaves others reception_octets image store output answer (receive_of (interval_of (record_of image)) (record_of image) a store output) tests n image' store' output' answer' e refl
    (λ h. not_false_is (image_ok image) (refusal_none tests h 3))
    (λ o p. both _ _ (twice p) (both _ _ (twice (q ∙ o)) refl))
    (receive_fine (interval_of (record_of image)) (record_of image) a store output)

advance_behaves : (others : Bool) (image : List ℕ) (n : ℕ) (image' store : List ℕ) (reading : ℕ) (answer store' answer' : List ℕ)
    → call n image' store' [] answer' ≡ advance_call image store reading answer → Behaves image_ok others image n image'
unfolding advance_call
advance_behaves others image n image' store reading answer store' answer' e =
    let tests : List (Bool × Refusal) = advance_tests image answer in
    step_behaves others reply_octets image store [] answer (advance_of (record_of image) store reading) tests n image' store' [] answer' e refl
    (λ h. not_false_is (image_ok image) (refusal_none tests h 2))
    (λ o p. both _ _ (twice p) refl)
    (advance_fine (record_of image) store reading)

-- cancel and release, by the step that they make
closing_behaves : (step : Receiver → List ℕ → ℕ → Step) (others : Bool) (image : List ℕ) (n : ℕ) (image' store : List ℕ) (reading : ℕ) (store' : List ℕ)
    → call n image' store' [] [] ≡ closing_call step image store reading → fine_answer (step (record_of image) store reading).answer ≡ true
    → Behaves image_ok others image n image'
closing_behaves step others image n image' store reading store' e f =
    let tests : List (Bool × Refusal) = closing_tests image in
    step_behaves others no_octets image store [] [] (step (record_of image) store reading) tests n image' store' [] [] e refl
    (λ h. not_false_is (image_ok image) (refusal_none tests h 1))
    (λ o p. both _ _ (twice p) refl)
    f

cancel_behaves : (others : Bool) (image : List ℕ) (n : ℕ) (image' store : List ℕ) (reading : ℕ) (store' : List ℕ)
    → call n image' store' [] [] ≡ cancel_call image store reading → Behaves image_ok others image n image'
unfolding cancel_call
cancel_behaves others image n image' store reading store' e =
    closing_behaves cancel_of others image n image' store reading store' e (cancel_fine (record_of image) store reading)

release_behaves : (others : Bool) (image : List ℕ) (n : ℕ) (image' store : List ℕ) (reading : ℕ) (store' : List ℕ)
    → call n image' store' [] [] ≡ release_call image store reading → Behaves image_ok others image n image'
unfolding release_call
release_behaves others image n image' store reading store' e =
    closing_behaves release_of others image n image' store reading store' e (release_fine (record_of image) store reading)

-- ---- catkhize_receiver_train

train_behaves : (others : Bool) (a : train.Asked) (n : ℕ) (image' store' output' answer' : List ℕ) → train.Met a (train.call n image' store' output' answer')
    → Behaves image_ok others a.image n image'
unfolding train.train_call
train_behaves others a n image' store' output' answer' m =
    let tests : List (Bool × Refusal) = train.train_tests a in
    by_contract image_ok a.image tests (λ (c : train.Call). c.code) (λ (c : train.Call). c.image) (λ k. train.call k a.image a.store a.output a.answer)
    (train.train_done a (train.train_asked a)) (λ k. refl) (λ k. refl)
    (train.call n image' store' output' answer') m.0 others refl
    (λ h. not_false_is (image_ok a.image) (refusal_none tests h 2))
    (λ o p. both _ _ (twice p) refl)
    (train_other a.peer (protocol_of a.protocol a.octet) a.reading (segments_of (length a.lengths / 2) a.lengths a.octets) (start_of (record_of a.image) a.store a.output) refl)
    m.1.whole

-- ---- the law

behaves : (others : Bool) (before : List ℕ) (n : ℕ) (after : List ℕ) → ReceiverCall others before n after → Behaves image_ok others before n after
behaves others before n after (receive store output kind width value protocol octet segment octets unparsed reading answer store' output' answer' q e) =
    receive_behaves others before n after store output kind width value protocol octet segment octets unparsed reading answer store' output' answer' q e
behaves others before n after (advance store reading answer store' answer' e) = advance_behaves others before n after store reading answer store' answer' e
behaves others before n after (cancel store reading store' e) = cancel_behaves others before n after store reading store' e
behaves others before n after (release store reading store' e) = release_behaves others before n after store reading store' e
behaves others before n after (walk a store' output' answer' p m) =
    subst (λ (l : List ℕ). Behaves image_ok others l n after) p (train_behaves others a n after store' output' answer' m)

pub receiver_next : NeverMisspelled ReceiverMade ReceiverCall
receiver_next = never_misspelled ReceiverMade ReceiverCall image_ok making behaves
