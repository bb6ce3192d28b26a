-- `sender_answers::put_submission` meets its contract: the five parts are written one behind the other over 48 octets, which are then copied.
-- Assumes nothing.
use native.Mathlib.Omega.{arith}
use mathlib.Core.Path.{refl, ap, ◌∙◌}
use Prim.Native.Nat.{ℕ}
use lib.ListN.{set, length-set, replicate, length-replicate}
use lib.Seq.{sets}
use Rattle.sender_answers.specs.Laws.{submission_spelled}
use Rattle.sender_answers.proofs.put_submission.Goals as goal

pub put_head-requires : goal.put_head-requires
put_head-requires c = simp length-set (omega arith)

pub returns : goal.returns
returns c =
    let x = c.args in
    let u = c.put in
    let v = c.put-2 in
    let h = c.put_head in
    let n = c.put-3 in
    c.put-4.ensures
    ∙ ap (sets x.answer.now 0)
    (submission_spelled x.o (replicate 48 0) u.new.dst v.new.dst (set v.new.dst 16 x.o.index) h.new.dst n.new.dst (length-replicate {A = ℕ} 48 0) h.ensures.1 u.ensures.0 v.ensures.0 refl h.ensures.0 n.ensures.0)
