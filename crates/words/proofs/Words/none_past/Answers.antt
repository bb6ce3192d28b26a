-- `words::Words::none_past` meets its contract: the marks that are not below e + 1 are those past e, the marks of each step being read as they
-- were written. Assumes nothing.
use Prim.Native.Nat.{ℕ, ◌+◌, ◌≤◌, ◌<◌}
use mathlib.Core.Path.{◌≡◌, sym, ap, ◌∙◌}
use mathlib.Core.Logic.{⊎_elim}
use mathlib.Core.Bool.{Bool, not, ◌&&◌, and_comm}
use native.Mathlib.Omega.{arith}
use borrow.Author.Tests.{lt-ltb, le-ltb}
use lib.Dec.{ltb}
use Rattle.words.specs.Marks.{marked}
use Rattle.words.specs.Search.{lt_or_le, all_below_ext}
use Rattle.words.specs.Laws.{all_below_read}
use Rattle.words.proofs.Words.none_past.Goals as goal

-- not below e + 1 is past e
past : (j e : ℕ) → not (ltb j (e + 1)) ≡ ltb e j
past j e =
    ⊎_elim (λ (h : e < j). ap not (le-ltb j (e + 1) (omega arith)) ∙ sym (lt-ltb e j h))
    (λ (h : j ≤ e). ap not (lt-ltb j (e + 1) (omega arith)) ∙ sym (le-ltb e j h)) (lt_or_le e j)

pub returns : goal.returns
returns c =
    let x = c.args in
    let b = c.below in
    let m = c.minus in
    c.is_none.ensures ∙ all_below_read m.result (λ j. marked x.self j && not (marked b.result j)) m.ensures (λ (j : ℕ) (t : Bool). not t)
    ∙ all_below_read b.result (λ j. ltb j (x.e + 1)) b.ensures (λ (j : ℕ) (t : Bool). not (marked x.self j && not t))
    ∙ all_below_ext 256 (λ j. not (marked x.self j && not (ltb j (x.e + 1)))) (λ j. not (ltb x.e j && marked x.self j))
    (λ j l. ap not (and_comm (marked x.self j) (not (ltb j (x.e + 1))) ∙ ap (λ (t : Bool). t && marked x.self j) (past j x.e)))
