-- What tests of its own and a step say, of a step that refuses by no number and of a number that refuses. Assumes nothing.
use Rattle.std.specs.Prelude.{◌≡◌, refl, Bool, true, false, ℕ, Option, None, Some, Result, Ok, Err}
use Rattle.std.specs.Bool.{then_some}
use Rattle.std.proofs.Common.{sym, ◌∙◌}
use Rattle.std.proofs.Math.Path.{ap}
use mathlib.Core.List.{List}
use Rattle.tsar.specs.Rows.{Refusal, refusal}
use Rattle.sender.specs.declared.Sender.{Sender}
use Rattle.sender.specs.declared.Sent.{Sent}
use Rattle.sender.specs.Calls.{Step}
use Rattle.sender.specs.Says.{sent}
use Rattle.codec_c.specs.Codes.{code_of, unless_refused}
use Rattle.sender_c.specs.Calls.{stepped, tested, refused_by}

-- the results of a step that refuses by no number
abbrev pub given_by : (Sender → Sent → Type 0) → Sender → Result Sent ℕ → Type 0
given_by P s (Ok x) = P s x
given_by P s (Err n) = ⊥

module _ (tests : List (Bool × Refusal)) (step : Step) where
  pub given : (P : Sender → Sent → Type 0) (s : Sender) → refusal tests ≡ None → ((x : Sent) → P s x → sent x ≡ step)
      → (r : Result Sent ℕ) → given_by P s r → stepped r ≡ tested tests step
  given P s e h (Ok x) p = ap {B = Result Step ℕ} Ok (h x p) ∙ ap (λ (o : Option Refusal). unless_refused o Err (Ok step)) (sym e)
  given P s e h (Err n) p = absurd p

  pub refused : (x : Refusal) (s : Sender) → refusal tests ≡ Some x → (r : Result Sent ℕ) → refused_by (code_of x) s r → stepped r ≡ tested tests step
  refused x s e r p = ap stepped p ∙ ap (λ (o : Option Refusal). unless_refused o Err (Ok step)) (sym e)

-- where a test decides whether there is a value
pub none_fails : {A : Type 0} (b : Bool) (x : A) → then_some b x ≡ None → b ≡ false
none_fails true x e = cc
none_fails false x e = refl

pub some_holds : {A : Type 0} (b : Bool) (x y : A) → then_some b x ≡ Some y → (b ≡ true) × (x ≡ y)
some_holds true x y e = (refl, cc)
some_holds false x y e = (cc, cc)
