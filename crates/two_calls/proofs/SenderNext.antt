-- The law of a sender's record: what catkhize_sender_new or any later call of the sender left, given to the next. Assumes nothing.
use mathlib.Core.Path.{◌≡◌, refl, sym, ap, subst, ◌∙◌}
use mathlib.Core.Bool.{Bool, true}
use mathlib.Core.List.{List, []}
use Rattle.std.specs.Prelude.{Option, Some, None}
use Rattle.sender.specs.declared.Offered.{Offered}
use Prim.Native.Nat.{ℕ}
use Rattle.tsar.specs.Rows.{Refusal, refusal, refusal_none}
use Rattle.sender.specs.declared.SenderState.{SenderState}
use Rattle.sender.specs.declared.Terms.{Terms}
use Rattle.sender.specs.declared.Sender.{Sender}
use Rattle.sender.specs.Record.{interval_of}
use Rattle.sender.specs.Calls.{Answer, refused, answered, Step}
use Rattle.sender.specs.TryNew.{offer_of}
use Rattle.plan_image.specs.Plans.{plan_of}
use Rattle.sender_image.specs.Images.{record_of, image_ok}
use Rattle.sender_answers.specs.Answers.{answer_code, offer_code, failure_of}
use Rattle.sender_c.specs.Calls.{Call, call, step_call, sender_call, Met, state_tests, advance_step, cancel_step, submitted_step, accepted_step, failed_tests, failed_step, response_tests, arrival_of, response_step, new_tests, terms_of, new_step, made_image, made_call, new_call, NewMet, offer_tests, offered_call, offer_call}
use Rattle.two_calls.specs.TwoCalls.{NeverMisspelled, SenderMade, sender_new, SenderCall, advance, cancel, submitted, accepted, lower_failed, receive_response, submission}
use Rattle.two_calls.proofs.Passing.{both, twice, not_false_is, all_pass, refusal_passes, other, other_refusal, own, not_done, fine_not_done, call_done}
use Rattle.two_calls.proofs.SenderNumbers.{fine_answer, answer_other, sender_new_fine, advance_fine, cancel_fine, submitted_fine, accepted_fine, lower_failed_fine, response_fine}
use Rattle.two_calls.proofs.Behaving.{Making, Behaves, never_misspelled, unchanged_by, by_contract}

-- ---- catkhize_sender_new

answer_made : (a : Answer) (P : Type 0) → fine_answer a ≡ true → answer_code a ≡ 0 → ((x : SenderState) → a ≡ answered x → P) → P
answer_made (refused x) P f e w = absurd (fine_not_done x f e)
answer_made (answered x) P f e w = w x refl

new_done : (tests : List (Bool × Refusal)) (before image : List ℕ) (s : Step) → all_pass not_done tests ≡ true → fine_answer s.answer ≡ true → NewMet tests before s (call 0 image [])
    → image_ok image ≡ true
unfolding new_call
new_done tests before image s all f m =
    let z = call_done (λ (c : Call). c.code) (λ n. call n before []) (made_call before s) (λ n. refl) (refusal tests) (refusal_passes not_done tests all) (sym (ap (λ (c : Call). c.code) m.0)) in
    answer_made s.answer (image_ok image ≡ true) f z.1 (λ x p. (m.1 z.0 x p).whole)

image_left : (a : Answer) (image : List ℕ) (s : Sender) → (answer_code a ≡ 0 → ⊥) → made_image a image s ≡ image
image_left (refused x) image s z = refl
image_left (answered x) image s z = absurd (z refl)

new_left : (tests : List (Bool × Refusal)) (before : List ℕ) (n : ℕ) (image : List ℕ) (s : Step) → call n image [] ≡ new_call tests before s → (n ≡ 0 → ⊥) → image ≡ before
unfolding new_call
new_left tests before n image s e =
    unchanged_by before (λ (c : Call). c.code) (λ (c : Call). c.image) (λ k. call k before []) (made_call before s) (λ k. refl) (refusal tests) (call n image []) e
    (image_left s.answer before s.sender)

making : (before : List ℕ) (n : ℕ) (image : List ℕ) → SenderMade before n image → Making image_ok before n image
making before n image (sender_new kind width value protocol octet plan message version profile number reading m) =
    let tests : List (Bool × Refusal) = new_tests before protocol plan in
    let terms : Terms = terms_of kind width value protocol octet version profile number in
    let s : Step = new_step terms plan message reading in
    record {
      made_ok = λ z. new_done tests before image s refl (sender_new_fine terms (plan_of plan) message reading) (subst (λ (k : ℕ). NewMet tests before s (call k image [])) z m);
      unchanged = new_left tests before n image s m.0;
    }

-- ---- the calls that answer STATE

step_behaves : (others : Bool) (image : List ℕ) (n : ℕ) (image' answer answer' : List ℕ) (s : Step) (tests : List (Bool × Refusal)) → Met tests image answer s (call n image' answer')
    → all_pass own tests ≡ true → (refusal tests ≡ None → image_ok image ≡ true) → (others ≡ true → image_ok image ≡ true → all_pass other_refusal tests ≡ true)
    → fine_answer s.answer ≡ true → Behaves image_ok others image n image'
unfolding sender_call
step_behaves others image n image' answer answer' s tests m all reads fits f =
    by_contract image_ok image tests (λ (c : Call). c.code) (λ (c : Call). c.image) (λ k. call k image answer) (step_call image answer s) (λ k. refl) (λ k. refl)
    (call n image' answer') m.0 others all reads fits (answer_other s.answer f) (λ h. (m.1 h).whole)

-- ---- catkhize_sender_submission

offer_other : (o : Option Offered) → other (offer_code o) ≡ true
offer_other None = refl
offer_other (Some x) = refl

offer_behaves : (others : Bool) (image : List ℕ) (n : ℕ) (answer answer' : List ℕ)
    → call n image answer' ≡ offer_call (offer_tests image answer) image answer (offer_of (record_of image)) → Behaves image_ok others image n image
unfolding offer_call
offer_behaves others image n answer answer' e =
    let tests : List (Bool × Refusal) = offer_tests image answer in
    let reads : refusal tests ≡ None → image_ok image ≡ true = λ h. not_false_is (image_ok image) (refusal_none tests h 2) in
    by_contract image_ok image tests (λ (c : Call). c.code) (λ (c : Call). c.image) (λ k. call k image answer) (offered_call image answer (offer_of (record_of image))) (λ k. refl) (λ k. refl)
    (call n image answer') e others refl reads (λ o p. both _ _ (twice p) refl) (offer_other (offer_of (record_of image))) reads

-- ---- the law

state_reads : (image answer : List ℕ) → refusal (state_tests image answer) ≡ None → image_ok image ≡ true
state_reads image answer h = not_false_is (image_ok image) (refusal_none (state_tests image answer) h 2)

state_behaves : (others : Bool) (image : List ℕ) (n : ℕ) (image' answer answer' : List ℕ) (s : Step) → Met (state_tests image answer) image answer s (call n image' answer')
    → fine_answer s.answer ≡ true → Behaves image_ok others image n image'
state_behaves others image n image' answer answer' s m f =
    step_behaves others image n image' answer answer' s (state_tests image answer) m refl (state_reads image answer) (λ o p. both _ _ (twice p) refl) f

behaves : (others : Bool) (before : List ℕ) (n : ℕ) (after : List ℕ) → SenderCall others before n after → Behaves image_ok others before n after
behaves others before n after (advance reading answer answer' m) =
    state_behaves others before n after answer answer' (advance_step before reading) m (advance_fine (record_of before) reading)
behaves others before n after (cancel reading answer answer' m) =
    state_behaves others before n after answer answer' (cancel_step before reading) m (cancel_fine (record_of before) reading)
behaves others before n after (submitted number ticket queued observed answer answer' m) =
    state_behaves others before n after answer answer' (submitted_step before number ticket queued observed) m (submitted_fine (interval_of (record_of before)) (record_of before) number ticket queued observed)
behaves others before n after (accepted number ticket reading answer answer' m) =
    state_behaves others before n after answer answer' (accepted_step before number ticket reading) m (accepted_fine (record_of before) number ticket reading)
behaves others before n after (lower_failed number ticket failure cause reading answer answer' m) =
    step_behaves others before n after answer answer' (failed_step before number ticket failure cause reading) (failed_tests before failure answer) m refl
    (λ h. not_false_is (image_ok before) (refusal_none (failed_tests before failure answer) h 2))
    (λ o p. both _ _ (twice p) refl)
    (lower_failed_fine (record_of before) number ticket (failure_of failure cause) reading)
behaves others before n after (receive_response kind width value protocol octet response unparsed reading answer answer' q m) =
    let a = arrival_of kind width value protocol octet response unparsed reading in
    step_behaves others before n after answer answer' (response_step before a) (response_tests before protocol response answer) m refl
    (λ h. not_false_is (image_ok before) (refusal_none (response_tests before protocol response answer) h 3))
    (λ o p. both _ _ (twice p) (both _ _ (twice (q ∙ o)) refl))
    (response_fine (record_of before) a)
behaves others before n after (submission answer answer' p e) =
    subst (λ (l : List ℕ). Behaves image_ok others before n l) (sym p) (offer_behaves others before n answer answer' e)

pub sender_next : NeverMisspelled SenderMade SenderCall
sender_next = never_misspelled SenderMade SenderCall image_ok making behaves
