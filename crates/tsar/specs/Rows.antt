-- Ordered tests: the first that holds decides. Document 01's refusals are lists of such rows, in its order.
use Rattle.std.specs.Prelude.{◌≡◌, refl, List, [], ◌∷◌, ◌++◌, Bool, true, false, cond, ◌||◌, ℕ, zero, suc, drop, get_or, Option, Some, None}
use Rattle.std.proofs.Common.{◌∙◌}

-- a refusal n/m of document 01: its number n and its field m, 0 where it has none
abbrev pub Refusal : Type 0
Refusal = ℕ × ℕ

-- what the first test that holds says, and what is left if none holds
abbrev pub first_of : {A : Type 0} → List (Bool × A) → A → A
first_of [] d = d
first_of (c ∷ cs) d = cond c.0 c.1 (first_of cs d)

-- the refusal of the first test that holds
abbrev pub refusal : {A : Type 0} → List (Bool × A) → Option A
refusal [] = None
refusal (c ∷ cs) = cond c.0 (Some c.1) (refusal cs)

-- some test of a list holds
abbrev pub any_of : List Bool → Bool
any_of [] = false
any_of (b ∷ bs) = b || any_of bs

-- ---- laws

-- the n-th test, counted from 0
abbrev pub test : {A : Type 0} → List (Bool × A) → ℕ → Bool
test [] n = false
test (c ∷ cs) zero = c.0
test (c ∷ cs) (suc n) = test cs n

-- what the n-th row says
abbrev pub value : {A : Type 0} → List (Bool × A) → A → ℕ → A
value [] d k = d
value (c ∷ cs) d zero = c.1
value (c ∷ cs) d (suc k) = value cs d k

-- a claim on both answers of a test is one on what it picks
pub either : {A : Type 0} (P : A → Type 0) (t : Bool) (a b : A) → (t ≡ true → P a) → (t ≡ false → P b) → P (cond t a b)
either P true a b x y = x refl
either P false a b x y = y refl

-- what is to be shown row by row: of each row where its test holds and none before it does, and of what is left
abbrev pub ByRows : {A : Type 0} → (A → Type 0) → List (Bool × A) → A → Type 0
ByRows P [] d = P d
ByRows P (c ∷ cs) d = (c.0 ≡ true → P c.1) × (c.0 ≡ false → ByRows P cs d)

pub by_rows : {A : Type 0} (P : A → Type 0) (cs : List (Bool × A)) (d : A) → ByRows P cs d → P (first_of cs d)
by_rows P [] d p = p
by_rows P (c ∷ cs) d p = either P c.0 c.1 (first_of cs d) p.0 (λ q. by_rows P cs d (p.1 q))

-- tests none of which holds
abbrev pub AllFalse : {A : Type 0} → List (Bool × A) → Type 0
AllFalse [] = Unit
AllFalse (c ∷ cs) = (c.0 ≡ false) × AllFalse cs

pub refusal_pass : {A : Type 0} (cs : List (Bool × A)) → AllFalse cs → refusal cs ≡ None
refusal_pass [] p = refl
refusal_pass (c ∷ cs) p = rw p.0 (refusal_pass cs p.1)

-- where nothing is refused no test holds
pub refusal_none : {A : Type 0} (cs : List (Bool × A)) → refusal cs ≡ None → (n : ℕ) → test cs n ≡ false
refusal_none [] e n = refl
refusal_none (c ∷ cs) e zero = go c.0 refl
  where
    go : (b : Bool) → c.0 ≡ b → c.0 ≡ false
    go true q = cc
    go false q = q
refusal_none (c ∷ cs) e (suc n) = refusal_none cs (go c.0 refl) n
  where
    go : (b : Bool) → c.0 ≡ b → refusal cs ≡ None
    go true q = cc
    go false q = cc

-- rows after rows: those behind decide where none in front holds
abbrev pub or_else : {A : Type 0} → Option A → Option A → Option A
or_else (Some a) o = Some a
or_else None o = o

pub refusal_append : {A : Type 0} (cs ds : List (Bool × A)) → refusal (cs ++ ds) ≡ or_else (refusal cs) (refusal ds)
refusal_append [] ds = refl
refusal_append (c ∷ cs) ds = go c.0 (refusal_append cs ds)
  where
    go : (b : Bool) → refusal (cs ++ ds) ≡ or_else (refusal cs) (refusal ds) → cond b (Some c.1) (refusal (cs ++ ds)) ≡ or_else (cond b (Some c.1) (refusal cs)) (refusal ds)
    go true e = refl
    go false e = e

-- ---- one row at a time, for code: a row whose test fails is skipped, the first whose test holds decides

-- the first k tests do not hold
pub record Passed {A : Type 0} (cs : List (Bool × A)) (k : ℕ) : Type 0 where
  pub rest : refusal cs ≡ refusal (drop k cs)

past : {A : Type 0} (cs : List (Bool × A)) (k : ℕ) → test cs k ≡ false → refusal (drop k cs) ≡ refusal (drop (suc k) cs)
past [] zero e = refl
past [] (suc k) e = refl
past (c ∷ cs) zero e = rw e
past (c ∷ cs) (suc k) e = past cs k e

here : {A : Type 0} (cs : List (Bool × A)) (d : A) (k : ℕ) → test cs k ≡ true → refusal (drop k cs) ≡ Some (value cs d k)
here [] d zero e = cc
here [] d (suc k) e = cc
here (c ∷ cs) d zero e = rw e
here (c ∷ cs) d (suc k) e = here cs d k e

pub start : {A : Type 0} (cs : List (Bool × A)) → Passed cs 0
start cs = record { rest = refl }

pub skip : {A : Type 0} {cs : List (Bool × A)} {k : ℕ} → Passed cs k → test cs k ≡ false → Passed cs (suc k)
skip {cs = cs} {k = k} p e = record { rest = p.rest ∙ past cs k e }

pub stop : {A : Type 0} {cs : List (Bool × A)} {k : ℕ} (d : A) → Passed cs k → test cs k ≡ true → refusal cs ≡ Some (value cs d k)
stop {cs = cs} {k = k} d p e = p.rest ∙ here cs d k e

-- the same of first_of
pub record Past {A : Type 0} (cs : List (Bool × A)) (d : A) (k : ℕ) : Type 0 where
  pub rest : first_of cs d ≡ first_of (drop k cs) d

past_first : {A : Type 0} (cs : List (Bool × A)) (d : A) (k : ℕ) → test cs k ≡ false → first_of (drop k cs) d ≡ first_of (drop (suc k) cs) d
past_first [] d zero e = refl
past_first [] d (suc k) e = refl
past_first (c ∷ cs) d zero e = rw e
past_first (c ∷ cs) d (suc k) e = past_first cs d k e

here_first : {A : Type 0} (cs : List (Bool × A)) (d : A) (k : ℕ) → test cs k ≡ true → first_of (drop k cs) d ≡ value cs d k
here_first [] d zero e = refl
here_first [] d (suc k) e = refl
here_first (c ∷ cs) d zero e = rw e
here_first (c ∷ cs) d (suc k) e = here_first cs d k e

pub first_start : {A : Type 0} (cs : List (Bool × A)) (d : A) → Past cs d 0
first_start cs d = record { rest = refl }

pub first_skip : {A : Type 0} {cs : List (Bool × A)} {d : A} {k : ℕ} → Past cs d k → test cs k ≡ false → Past cs d (suc k)
first_skip {cs = cs} {d = d} {k = k} p e = record { rest = p.rest ∙ past_first cs d k e }

pub first_stop : {A : Type 0} {cs : List (Bool × A)} {d : A} {k : ℕ} → Past cs d k → test cs k ≡ true → first_of cs d ≡ value cs d k
first_stop {cs = cs} {d = d} {k = k} p e = p.rest ∙ here_first cs d k e

-- ---- lists of tests

-- where no test of a list holds each fails, and the other way round
pub any_none : (bs : List Bool) → any_of bs ≡ false → (n : ℕ) → get_or bs n false ≡ false
any_none [] e n = refl
any_none (b ∷ bs) e zero = go b e
  where
    go : (b : Bool) → (b || any_of bs) ≡ false → b ≡ false
    go true e = e
    go false e = refl
any_none (b ∷ bs) e (suc n) = any_none bs (go b e) n
  where
    go : (b : Bool) → (b || any_of bs) ≡ false → any_of bs ≡ false
    go true e = cc
    go false e = e

abbrev pub NoneHolds : List Bool → Type 0
NoneHolds [] = Unit
NoneHolds (b ∷ bs) = (b ≡ false) × NoneHolds bs

pub any_pass : (bs : List Bool) → NoneHolds bs → any_of bs ≡ false
any_pass [] p = refl
any_pass (b ∷ bs) p = rw p.0 (any_pass bs p.1)
