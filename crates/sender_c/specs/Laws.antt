-- The ways in which an export returns: a test refuses it, or it is done. Assumes nothing.
use Rattle.std.specs.Prelude.{◌≡◌, refl, Bool, true, false, ℕ, ◌≤◌, length, Option, Some, None, cond, ◌<◌, ltb, ◌++◌, drop, Result, Ok, Err}
use Rattle.std.specs.Bool.{then_some}
use Rattle.std.proofs.Common.{sym, ◌∙◌, arith}
use Rattle.std.proofs.Math.Path.{ap, subst}
use mathlib.Core.List.{List, []}
use Rattle.sender.specs.declared.Offered.{Offered}
use Rattle.std.proofs.lemmas.List.Edits.{sets}
use Rattle.tsar.specs.Rows.{Refusal, refusal, refusal_append, or_else}
use Rattle.link.specs.declared.MobileIdentity.{MobileIdentity}
use Rattle.link.specs.declared.HigherLayerProtocol.{HigherLayerProtocol}
use Rattle.response.specs.declared.Response.{Response}
use Rattle.sender.specs.declared.Plan.{Plan}
use Rattle.sender.specs.declared.Sender.{Sender}
use Rattle.sender.specs.Calls.{Answer, refused, answered, Step, receive_response_of}
use Rattle.sender.specs.TryNew.{try_new_of}
use Rattle.image.specs.Spelling.{put_spells}
use Rattle.sender_image.specs.Images.{image_of, SenderFits, sender_layout, record_of}
use Rattle.codec_c.specs.Codes.{code_of, unless_refused, short}
use Rattle.sender_answers.specs.Answers.{answer_code, is_refused, offer_code, offer_octets}
use Rattle.sender_c.specs.Calls.{Call, call, call_of, state_octets, step_call, sender_call, Spelled, Met, made_image, made_call, new_call, MadeSpells, NewMet, offered_call, offer_call, state_tests, read_of, stepped, tested, Steps, response_tests, response_own, brought_by}
use Rattle.std.specs.Result.{MatchResult}
use borrow.Author.Tests.{lt-ltb, le-ltb}
use Rattle.sender.specs.declared.Sent.{Sent}
use Rattle.image_link.specs.Responses.{response_ok}

apart : {A : Type 0} {o : Option A} {x : A} → o ≡ Some x → o ≡ None → ⊥
apart p q = let z : ◌≡◌ {A = ℕ} 0 1 = cc in omega arith

apart_bools : ◌≡◌ {A = Bool} true false → ⊥
apart_bools p = let z : ◌≡◌ {A = ℕ} 0 1 = cc in omega arith

-- ---- any call

module _ (tests : List (Bool × Refusal)) (image answer : List ℕ) (done : Call) where
  pub call_refused : (x : Refusal) → refusal tests ≡ Some x → call (code_of x) image answer ≡ call_of tests image answer done
  call_refused x e = ap (λ (o : Option Refusal). unless_refused o (λ n. call n image answer) done) (sym e)

  pub call_done : refusal tests ≡ None → done ≡ call_of tests image answer done
  call_done e = ap (λ (o : Option Refusal). unless_refused o (λ n. call n image answer) done) (sym e)

-- ---- what code puts back

module _ (image : List ℕ) (s : Step) where
  spelled_by_lem : 6131 ≤ length image → SenderFits s.sender → (i : List ℕ) → i ≡ sets image 0 (image_of s.sender) → Spelled i s.sender
  spelled_by_lem room f i u = let w = put_spells sender_layout image s.sender i room f u in record { whole = w.1; next = w.0 }

  -- the sender and its state
  pub step_put : (answer i a : List ℕ) (n : ℕ) → n ≡ answer_code s.answer → i ≡ sets image 0 (image_of s.sender) → a ≡ sets answer 0 (state_octets s.answer) → 6131 ≤ length image
      → SenderFits s.sender → (call n i a ≡ step_call image answer s) × Spelled i s.sender
  step_put answer i a n q u v room f = (λ k. call (q k) (u k) (v k), spelled_by_lem room f i u)

  -- a new sender
  pub made_put : (i : List ℕ) → is_refused s.answer ≡ false → i ≡ sets image 0 (image_of s.sender) → 6131 ≤ length image → SenderFits s.sender
      → (call 0 i [] ≡ made_call image s) × MadeSpells i s
  made_put i e u room f = (ap (λ (l : List ℕ). call 0 l []) u ∙ go s.answer e, λ y p. spelled_by_lem room f i u)
    where
      go : (a : Answer) → is_refused a ≡ false → call 0 (sets image 0 (image_of s.sender)) [] ≡ call (answer_code a) (made_image a image s.sender) []
      go (refused x) h = cc
      go (answered x) h = refl

  -- and none
  pub made_none : (n : ℕ) → is_refused s.answer ≡ true → n ≡ answer_code s.answer → (call n image [] ≡ made_call image s) × MadeSpells image s
  made_none n e q = (
    ap (λ (k : ℕ). call k image []) q ∙ go s.answer e,
    λ y p. let z : ◌≡◌ {A = Bool} true false = sym e ∙ ap is_refused p in absurd (apart_bools z),
  )
    where
      go : (a : Answer) → is_refused a ≡ true → call (answer_code a) image [] ≡ call (answer_code a) (made_image a image s.sender) []
      go (refused x) h = refl
      go (answered x) h = cc

-- what is offered
pub offer_put : (image answer : List ℕ) (o : Option Offered) (n : ℕ) (a : List ℕ) → n ≡ offer_code o → a ≡ sets answer 0 (offer_octets o) → call n image a ≡ offered_call image answer o
offer_put image answer o n a p q = λ i. call (p i) image (q i)

-- ---- by the values that octets and numbers stand for

pub same_new : (peer : MobileIdentity) (version profile number reading : ℕ) (message : List ℕ) (p p' : HigherLayerProtocol) (q q' : Plan) → p ≡ p' → q ≡ q'
    → try_new_of (record { peer = peer; protocol = p; version = version; profile = profile; number = number }) q message reading
    ≡ try_new_of (record { peer = peer; protocol = p'; version = version; profile = profile; number = number }) q' message reading
same_new peer version profile number reading message p p' q q' a b =
    λ i. try_new_of (record { peer = peer; protocol = a i; version = version; profile = profile; number = number }) (b i) message reading

pub same_response : (peer : MobileIdentity) (unparsed reading : ℕ) (s s' : Sender) (p p' : HigherLayerProtocol) (r r' : Response) → s ≡ s' → p ≡ p' → r ≡ r'
    → receive_response_of s (record { peer = peer; protocol = p; response = r; unparsed = unparsed; reading = reading })
    ≡ receive_response_of s' (record { peer = peer; protocol = p'; response = r'; unparsed = unparsed; reading = reading })
same_response peer unparsed reading s s' p p' r r' a b c =
    λ i. receive_response_of (a i) (record { peer = peer; protocol = b i; response = c i; unparsed = unparsed; reading = reading })

-- ---- the exports that answer STATE

module _ (tests : List (Bool × Refusal)) (image answer : List ℕ) (step : Step) where
  pub refuses : (x : Refusal) → refusal tests ≡ Some x → Met tests image answer step (call (code_of x) image answer)
  unfolding sender_call
  refuses x e = (call_refused tests image answer (step_call image answer step) x e, λ p. absurd (apart e p))

  pub does : refusal tests ≡ None → (s : Step) → s ≡ step → (c : Call) → c ≡ step_call image answer s → Spelled c.image s.sender → Met tests image answer step c
  unfolding sender_call
  does e s p c q w = (
    q ∙ ap (step_call image answer) p ∙ call_done tests image answer (step_call image answer step) e,
    λ z. subst (λ (x : Step). Spelled c.image x.sender) p w,
  )

-- ---- what comes of a result: its number alone, or what is done with its value

abbrev pub by_result : {A : Type 0} → (ℕ → Call) → (A → Call) → Result A ℕ → Call
by_result left done (Err n) = left n
by_result left done (Ok x) = done x

gives : {A : Type 0} (left : ℕ → Call) (done : A → Call) (o : Option Refusal) (x : A) (q : Result A ℕ) → q ≡ unless_refused o Err (Ok x)
    → by_result left done q ≡ unless_refused o left (done x)
gives left done (Some n) x q e = ap (by_result left done) e
gives left done None x q e = ap (by_result left done) e

-- ---- the exports that answer STATE, each by a step that is handed the record's sender

abbrev pub Spells_result : List ℕ → Result Step ℕ → Type 0
Spells_result image (Err n) = Unit
Spells_result image (Ok s) = Spelled image s.sender

-- what is left of what a step gave
abbrev pub Left : List ℕ → List ℕ → Result Step ℕ → Call → Type 0
Left image answer q c = (c ≡ by_result (λ n. call n image answer) (step_call image answer) q) × Spells_result c.image q

module _ (image answer : List ℕ) (step : Step) where
  met_by : (tests : List (Bool × Refusal)) (q : Result Step ℕ) (c : Call) → q ≡ tested tests step → Left image answer q c → Met tests image answer step c
  unfolding sender_call
  met_by tests q c e u = (
    u.0 ∙ gives (λ n. call n image answer) (step_call image answer) (refusal tests) step q e,
    λ p. subst (Spells_result c.image) (e ∙ ap (λ (o : Option Refusal). unless_refused o Err (Ok step)) p) u.1,
  )

  -- a step that is handed the sender decides behind the front's tests
  handed : (P : Sender → Result Sent ℕ → Type 0) (tests : List (Bool × Refusal)) (q : Result Sender ℕ) (r : Result Sent ℕ) → q ≡ read_of image answer 4
      → MatchResult q (λ x. P x r) (λ e. r ≡ Err e) → ((r : Result Sent ℕ) → P (record_of image) r → stepped r ≡ tested tests step)
      → stepped r ≡ tested (state_tests image answer ++ tests) step
  handed P tests q r e m h =
      go (refusal (state_tests image answer)) e ∙ ap (λ (o : Option Refusal). unless_refused o Err (Ok step)) (sym (refusal_append (state_tests image answer) tests))
    where
      go : (o : Option Refusal) → q ≡ unless_refused o Err (Ok (record_of image)) → stepped r ≡ unless_refused (or_else o (refusal tests)) Err (Ok step)
      go (Some x) e = ap stepped (subst (λ (q : Result Sender ℕ). MatchResult q (λ x. P x r) (λ e. r ≡ Err e)) e m)
      go None e = h r (subst (λ (q : Result Sender ℕ). MatchResult q (λ x. P x r) (λ e. r ≡ Err e)) e m)

-- the call is what the tests of both and the step say
pub hands : (image answer : List ℕ) (P : Sender → Result Sent ℕ → Type 0) (q : Result Sender ℕ) (r : Result Sent ℕ) (c : Call) → q ≡ read_of image answer 4
    → MatchResult q (λ x. P x r) (λ e. r ≡ Err e) → Left image answer (stepped r) c → Steps P image answer c
hands image answer P q r c e m u tests step h = met_by image answer step (state_tests image answer ++ tests) (stepped r) c (handed image answer step P tests q r e m h) u

-- ---- catkhize_sender_receive_response: its second test gives the number of the first and the third

module _ (image : List ℕ) (protocol : ℕ) (response answer : List ℕ) where
  response_short : length response < 41 → refusal (response_tests image protocol response answer) ≡ Some short
  response_short l = go (ltb (length image) 6131) (lt-ltb (length response) 41 l)
    where
      go : (b : Bool) {d : Bool} → d ≡ true → cond b (Some short) (cond d (Some short) (refusal (drop 2 (response_tests image protocol response answer)))) ≡ Some short
      go true e = refl
      go false e = ap (λ (d : Bool). cond d (Some short) (refusal (drop 2 (response_tests image protocol response answer)))) e

  pub response_long : 41 ≤ length response → refusal (state_tests image answer ++ response_own (response_ok response) protocol) ≡ refusal (response_tests image protocol response answer)
  response_long l =
      ap (λ (b : Bool). cond (ltb (length image) 6131) (Some short) (cond b (Some short) (refusal (drop 2 (response_tests image protocol response answer)))))
      (sym (le-ltb (length response) 41 l))

  pub response_refused : (step : Step) → length response < 41 → Met (response_tests image protocol response answer) image answer step (call (code_of short) image answer)
  response_refused step l =
      met_by image answer step (response_tests image protocol response answer) (Err (code_of short)) (call (code_of short) image answer)
      (ap (λ (o : Option Refusal). unless_refused o Err (Ok step)) (sym (response_short l))) (refl, tt)

-- rows that refuse alike
module _ (tests others : List (Bool × Refusal)) (image answer : List ℕ) (step : Step) (c : Call) where
  pub met_alike : refusal tests ≡ refusal others → Met tests image answer step c → Met others image answer step c
  unfolding sender_call
  met_alike e m = (
    m.0 ∙ ap (λ (o : Option Refusal). unless_refused o (λ n. call n image answer) (step_call image answer step)) e,
    λ p. m.1 (e ∙ p),
  )

-- ---- catkhize_sender_new

module _ (tests : List (Bool × Refusal)) (image : List ℕ) (step : Step) where
  pub new_refuses : (x : Refusal) → refusal tests ≡ Some x → NewMet tests image step (call (code_of x) image [])
  unfolding new_call
  new_refuses x e = (call_refused tests image [] (made_call image step) x e, λ p. absurd (apart e p))

  pub new_does : refusal tests ≡ None → (s : Step) → s ≡ step → (c : Call) → c ≡ made_call image s → MadeSpells c.image s → NewMet tests image step c
  unfolding new_call
  new_does e s p c q w = (
    q ∙ ap (made_call image) p ∙ call_done tests image [] (made_call image step) e,
    λ z. subst (λ (x : Step). MadeSpells c.image x) p w,
  )

-- ---- catkhize_sender_submission

module _ (tests : List (Bool × Refusal)) (image answer : List ℕ) (o : Option Offered) where
  pub offer_refuses : (x : Refusal) → refusal tests ≡ Some x → call (code_of x) image answer ≡ offer_call tests image answer o
  unfolding offer_call
  offer_refuses x e = call_refused tests image answer (offered_call image answer o) x e

  pub offer_does : refusal tests ≡ None → (p : Option Offered) → p ≡ o → (c : Call) → c ≡ offered_call image answer p → c ≡ offer_call tests image answer o
  unfolding offer_call
  offer_does e p q c r = r ∙ ap (offered_call image answer) q ∙ call_done tests image answer (offered_call image answer o) e

-- what a strictly read response gives a step is what the tests of its octets do
pub brought_tested : (ok : Bool) (r : Response) (protocol : ℕ) (step : Response → Step) → brought_by (then_some ok r) protocol step ≡ tested (response_own ok protocol) (step r)
brought_tested true r protocol step = refl
brought_tested false r protocol step = refl
