-- 63 step by step: what a step leaves, unless a new submission would need ticket 2^64. The code stops at the first such step; since a ticket only
-- grows within a call, that is what the definitions say, which count in ℕ and look at the last ticket at the end.
use Rattle.std.specs.Prelude.{ℕ, ◌-◌, ◌^◌, ◌<◌, ◌≤◌, ◌≡◌, refl, Bool, true, false, cond, ltb, Option, Some, None}
use Rattle.std.proofs.Common.{arith, ltb-true, ltb-false, lt-ltb, le-ltb}
use Rattle.tsar.specs.Rows.{Refusal}
use Rattle.sender.specs.declared.Progress.{Progress}
use Rattle.sender.specs.Calls.{Turn, refuses, left, or_tickets}

abbrev pub within : Progress → Option Progress
within p = cond (ltb (2 ^ 64 - 1) p.last_ticket) None (Some p)

-- what a call leaves of what a step gave: 63 changes nothing
abbrev pub left_by : Progress → Option Progress → Turn
left_by p None = refuses (63, 0) p
left_by p (Some q) = left q

abbrev pub refused_by : Refusal → Progress → Option Progress → Turn
refused_by n p None = refuses (63, 0) p
refused_by n p (Some q) = refuses n q

-- ---- laws

-- 63 at the end is 63 at the step
pub left_within : (p q : Progress) → left_by p (within q) ≡ or_tickets p (left q)
left_within p q = go (ltb (2 ^ 64 - 1) q.last_ticket)
  where
    go : (b : Bool) → left_by p (cond b None (Some q)) ≡ cond b (refuses (63, 0) p) (left q)
    go true = refl
    go false = refl

pub refused_within : (n : Refusal) (p q : Progress) → refused_by n p (within q) ≡ or_tickets p (refuses n q)
refused_within n p q = go (ltb (2 ^ 64 - 1) q.last_ticket)
  where
    go : (b : Bool) → refused_by n p (cond b None (Some q)) ≡ cond b (refuses (63, 0) p) (refuses n q)
    go true = refl
    go false = refl

-- a progress whose ticket is one of 64 bits
pub within_fits : (p : Progress) → p.last_ticket < 2 ^ 64 → within p ≡ Some p
within_fits p h = rw (le-ltb (2 ^ 64 - 1) p.last_ticket (omega arith))

pub tickets_fit : (p : Progress) (t : Turn) → t.progress.last_ticket < 2 ^ 64 → or_tickets p t ≡ t
tickets_fit p t h = rw (le-ltb (2 ^ 64 - 1) t.progress.last_ticket (omega arith))

-- what a step gave is the step, and its ticket is one of 64 bits
pub to_is : (p q : Progress) → Some p ≡ within q → p ≡ q
to_is p q e = go (ltb (2 ^ 64 - 1) q.last_ticket) e
  where
    go : (b : Bool) → Some p ≡ cond b None (Some q) → p ≡ q
    go true e = cc
    go false e = cc

pub to_fits : (p q : Progress) → Some p ≡ within q → q.last_ticket < 2 ^ 64
to_fits p q e = go (ltb (2 ^ 64 - 1) q.last_ticket) refl e
  where
    go : (b : Bool) → ltb (2 ^ 64 - 1) q.last_ticket ≡ b → Some p ≡ cond b None (Some q) → q.last_ticket < 2 ^ 64
    go true h e = absurd (let z : ◌≡◌ {A = ℕ} 0 1 = cc in omega arith)
    go false h e = let l = ltb-false (2 ^ 64 - 1) q.last_ticket h in omega arith

-- where there was no ticket for a step there is none for what comes after it
pub no_ticket : (p q : Progress) → None ≡ within p → p.last_ticket ≤ q.last_ticket → within q ≡ None
no_ticket p q e l = go (ltb (2 ^ 64 - 1) p.last_ticket) refl e
  where
    go : (b : Bool) → ltb (2 ^ 64 - 1) p.last_ticket ≡ b → None ≡ cond b None (Some p) → within q ≡ None
    go true h e =
        let m = ltb-true (2 ^ 64 - 1) p.last_ticket h in
        rw (lt-ltb (2 ^ 64 - 1) q.last_ticket (omega arith))
    go false h e = absurd (let z : ◌≡◌ {A = ℕ} 0 1 = cc in omega arith)
