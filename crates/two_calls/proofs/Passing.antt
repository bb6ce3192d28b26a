-- Ordered tests of which every row that holds says what passes: so does what they answer. A row whose value passes by itself needs no test, so
-- that of rows with constant values the claim is found by computing. Assumes nothing.
use mathlib.Core.Path.{◌≡◌, refl, sym, ap, ◌∙◌}
use mathlib.Core.Bool.{Bool, true, false, cond, not, ◌&&◌, ◌||◌, true≢false}
use mathlib.Core.List.{List, [], ◌∷◌}
use Rattle.std.specs.Prelude.{Option, Some, None}
use Prim.Native.Nat.{ℕ}
use lib.Dec.{eqb}
use Rattle.tsar.specs.Rows.{Refusal, first_of, refusal}
use Rattle.codec_c.specs.Codes.{code_of, misspelled, unless_refused}
use Rattle.two_calls.specs.TwoCalls.{own_number}

-- ---- bools

pub and_left : (a b : Bool) → (a && b) ≡ true → a ≡ true
and_left true b e = refl
and_left false b e = e

pub and_right : (a b : Bool) → (a && b) ≡ true → b ≡ true
and_right true b e = e
and_right false b e = absurd (true≢false (sym e))

pub both : (a b : Bool) → a ≡ true → b ≡ true → (a && b) ≡ true
both a b p q = ap (λ (x : Bool). x && b) p ∙ q

pub either_left : (a b : Bool) → a ≡ true → (a || b) ≡ true
either_left a b e = ap (λ (x : Bool). x || b) e

or_left : (a : Bool) → (a || false) ≡ true → a ≡ true
or_left true e = refl
or_left false e = e

pub twice : {a : Bool} → a ≡ true → not (not a) ≡ true
twice e = ap (λ (x : Bool). not (not x)) e

pub not_false_is : (a : Bool) → not a ≡ false → a ≡ true
not_false_is true e = refl
not_false_is false e = absurd (true≢false e)

-- ---- what octets spell, if they spell anything

abbrev pub is_some : {A : Type 0} → Option A → Bool
is_some None = false
is_some (Some x) = true

pub cond_some : {A : Type 0} (b : Bool) (x : A) → is_some (cond b (Some x) None) ≡ b
cond_some true x = refl
cond_some false x = refl

-- ---- rows

abbrev pub all_pass : {A : Type 0} → (A → Bool) → List (Bool × A) → Bool
all_pass g [] = true
all_pass g (c ∷ cs) = (g c.1 || not c.0) && all_pass g cs

module _ {A : Type 0} (g : A → Bool) where
  row : (t : Bool) (v d : A) (rest : Bool) → ((g v || not t) && rest) ≡ true → (rest ≡ true → g d ≡ true) → g (cond t v d) ≡ true
  row true v d rest p f = or_left (g v) (and_left (g v || false) rest p)
  row false v d rest p f = f (and_right (g v || true) rest p)

  pub first_passes : (cs : List (Bool × A)) (d : A) → all_pass g cs ≡ true → g d ≡ true → g (first_of cs d) ≡ true
  first_passes [] d p q = q
  first_passes (c ∷ cs) d p q = row c.0 c.1 (first_of cs d) (all_pass g cs) p (λ r. first_passes cs d r q)

  -- of what is refused
  abbrev pub passes : Option A → Bool
  passes None = true
  passes (Some x) = g x

  row_refused : (t : Bool) (v : A) (o : Option A) (rest : Bool) → ((g v || not t) && rest) ≡ true → (rest ≡ true → passes o ≡ true) → passes (cond t (Some v) o) ≡ true
  row_refused true v o rest p f = or_left (g v) (and_left (g v || false) rest p)
  row_refused false v o rest p f = f (and_right (g v || true) rest p)

  pub refusal_passes : (cs : List (Bool × A)) → all_pass g cs ≡ true → passes (refusal cs) ≡ true
  refusal_passes [] p = refl
  refusal_passes (c ∷ cs) p = row_refused c.0 c.1 (refusal cs) (all_pass g cs) p (refusal_passes cs)

-- ---- numbers

-- a number is not that of octets that spell no value
abbrev pub other : ℕ → Bool
other n = not (eqb n (code_of misspelled))

-- that of a refusal
abbrev pub other_refusal : Refusal → Bool
other_refusal x = other (code_of x)

-- it is not 0, with which a call says that it is done
abbrev pub not_done : Refusal → Bool
not_done x = not (eqb (code_of x) 0)

-- neither
abbrev pub fine : Refusal → Bool
fine x = other_refusal x && not_done x

-- one of the exports' own
abbrev pub own : Refusal → Bool
own x = own_number (code_of x)

pub not_misspelled : (n : ℕ) → other n ≡ true → n ≡ code_of misspelled → ⊥
not_misspelled n p e = true≢false (sym p ∙ ap other e)

pub not_done_lem : (x : Refusal) → not_done x ≡ true → code_of x ≡ 0 → ⊥
not_done_lem x p e = true≢false (sym p ∙ ap (λ (n : ℕ). not (eqb n 0)) e)

pub fine_not_done : (x : Refusal) → fine x ≡ true → code_of x ≡ 0 → ⊥
fine_not_done x p e = not_done_lem x (and_right (other_refusal x) (not_done x) p) e

-- ---- a call behind the exports' own tests

module _ {A : Type 0} (code : A → ℕ) (left : ℕ → A) (done : A) (sees : (n : ℕ) → code (left n) ≡ n) where
  -- its number is another where those of the rows that hold and of what it does are
  pub call_other : (o : Option Refusal) → passes other_refusal o ≡ true → other (code done) ≡ true → other (code (unless_refused o left done)) ≡ true
  call_other (Some x) p q = ap other (sees (code_of x)) ∙ p
  call_other None p q = q

  -- where its number is not one of the exports' own, they refused nothing
  pub call_passed : (o : Option Refusal) → passes own o ≡ true → own_number (code (unless_refused o left done)) ≡ false → o ≡ None
  call_passed (Some x) p q = absurd (true≢false (sym p ∙ ap own_number (sym (sees (code_of x))) ∙ q))
  call_passed None p q = refl

  -- nor where it is 0
  pub call_done : (o : Option Refusal) → passes not_done o ≡ true → code (unless_refused o left done) ≡ 0 → (o ≡ None) × (code done ≡ 0)
  call_done (Some x) p q = absurd (not_done_lem x p (sym (sees (code_of x)) ∙ q))
  call_done None p q = (refl, q)
