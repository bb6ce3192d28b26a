-- What makes the law hold of calls whose octets pass a test `ok`: a call that makes a value leaves octets that pass, or those that it was given;
-- each other call asks for octets that pass, leaves such where it was given such, and says of none that pass that they spell no value. Assumes
-- nothing.
use mathlib.Core.Path.{◌≡◌, refl, sym, ap, ◌∙◌}
use mathlib.Core.Bool.{Bool, true, false}
use mathlib.Core.List.{List}
use Rattle.std.specs.Prelude.{Option, Some, None}
use Prim.Native.Nat.{ℕ, zero, suc}
use native.Mathlib.Omega.{arith}
use Rattle.tsar.specs.Rows.{Refusal, refusal}
use Rattle.codec_c.specs.Codes.{code_of, unless_refused}
use Rattle.two_calls.specs.TwoCalls.{own_number, Written, made, passed, kept, kept_making, NeverMisspelled}
use Rattle.two_calls.proofs.Passing.{all_pass, refusal_passes, other, other_refusal, own, not_misspelled, call_other, call_passed}

pub record Behaves (ok : List ℕ → Bool) (others : Bool) (before : List ℕ) (n : ℕ) (after : List ℕ) : Type 0 where
  pub passed_ok : own_number n ≡ false → ok before ≡ true
  pub kept_ok : ok before ≡ true → ok after ≡ true
  pub says_other : others ≡ true → ok before ≡ true → other n ≡ true

-- a call that makes a value: with 0 its octets pass, and with another number they are as before
pub record Making (ok : List ℕ → Bool) (before : List ℕ) (n : ℕ) (after : List ℕ) : Type 0 where
  pub made_ok : n ≡ 0 → ok after ≡ true
  pub unchanged : (n ≡ 0 → ⊥) → after ≡ before

module _ (Makes : List ℕ → ℕ → List ℕ → Type 0) (Call : Bool → List ℕ → ℕ → List ℕ → Type 0) (ok : List ℕ → Bool)
    (making : (before : List ℕ) (n : ℕ) (l : List ℕ) → Makes before n l → Making ok before n l)
    (behaves : (others : Bool) (before : List ℕ) (n : ℕ) (l : List ℕ) → Call others before n l → Behaves ok others before n l) where
  making_ok : (before : List ℕ) (n : ℕ) (l : List ℕ) → ok before ≡ true → Making ok before n l → ok l ≡ true
  making_ok before zero l p m = m.made_ok refl
  making_ok before (suc n) l p m = ap ok (m.unchanged (λ e. omega (arith, e))) ∙ p

  written_ok : (l : List ℕ) → Written Makes Call l → ok l ≡ true
  written_ok _ (made before l m) = (making before 0 l m).made_ok refl
  written_ok _ (passed others before n l p c) = let b = behaves others before n l c in b.kept_ok (b.passed_ok p)
  written_ok _ (kept others before n l w c) = (behaves others before n l c).kept_ok (written_ok before w)
  written_ok _ (kept_making before n l w m) = making_ok before n l (written_ok before w) (making before n l m)

  pub never_misspelled : NeverMisspelled Makes Call
  never_misspelled l w n after c = not_misspelled n ((behaves true l n after c).says_other refl (written_ok l w))

-- a call behind the exports' own tests that is refused, or that does nothing, leaves its octets as they were
module _ (before : List ℕ) {A : Type 0} (code : A → ℕ) (image : A → List ℕ) (left : ℕ → A) (done : A) (same : (n : ℕ) → image (left n) ≡ before) where
  undone : (o : Option Refusal) → ((code done ≡ 0 → ⊥) → image done ≡ before) → (code (unless_refused o left done) ≡ 0 → ⊥)
      → image (unless_refused o left done) ≡ before
  undone (Some x) w p = same (code_of x)
  undone None w p = w p

  pub unchanged_by : (o : Option Refusal) (c : A) → c ≡ unless_refused o left done → ((code done ≡ 0 → ⊥) → image done ≡ before) → (code c ≡ 0 → ⊥) → image c ≡ before
  unchanged_by o c e w p = ap image e ∙ undone o w (λ z. p (ap code e ∙ z))

-- a call behind the exports' own tests, by its contract
module _ (ok : List ℕ → Bool) (before : List ℕ) (tests : List (Bool × Refusal)) {A : Type 0} (code : A → ℕ) (image : A → List ℕ) (left : ℕ → A) (done : A)
    (sees : (n : ℕ) → code (left n) ≡ n) (same : (n : ℕ) → image (left n) ≡ before) where
  stays : (c : A) → c ≡ unless_refused (refusal tests) left done → (refusal tests ≡ None → ok (image c) ≡ true) → ok before ≡ true
      → (o : Option Refusal) → refusal tests ≡ o → ok (image c) ≡ true
  stays c e w p None h = w h
  stays c e w p (Some x) h = ap (λ (a : A). ok (image a)) (e ∙ ap (λ (o : Option Refusal). unless_refused o left done) h) ∙ ap ok (same (code_of x)) ∙ p

  pub by_contract : (c : A) → c ≡ unless_refused (refusal tests) left done → (others : Bool) → all_pass own tests ≡ true → (refusal tests ≡ None → ok before ≡ true)
      → (others ≡ true → ok before ≡ true → all_pass other_refusal tests ≡ true) → other (code done) ≡ true → (refusal tests ≡ None → ok (image c) ≡ true)
      → Behaves ok others before (code c) (image c)
  by_contract c e others all reads fits does writes =
      record {
        passed_ok = λ p. reads (call_passed code left done sees (refusal tests) (refusal_passes own tests all) (ap (λ (a : A). own_number (code a)) (sym e) ∙ p));
        kept_ok = λ p. stays c e writes p (refusal tests) refl;
        says_other = λ q p.
            ap (λ (a : A). other (code a)) e ∙ call_other code left done sees (refusal tests) (refusal_passes other_refusal tests (fits q p)) does;
      }
