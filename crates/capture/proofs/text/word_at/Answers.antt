-- A word passed is one place less to go.
use Rattle.std.proofs.Common.{◌≡◌, ◌-◌, ◌+◌, suc, List, ℕ, sym, ap, ◌∙◌, arith}
use Rattle.capture.specs.Text.{word_at}
use Rattle.capture.proofs.text.word_at.Goals as goal

pub loop-preserved : goal.loop-preserved
unfolding word_at
loop-preserved c =
    let l = c.loop in
    let e : c.args.i - l.counter ≡ suc (c.args.i - (l.counter + 1)) = omega arith in
    ap (λ (t : List ℕ). word_at t (c.args.i - (l.counter + 1))) c.after-t.ensures ∙ sym (ap (word_at l.t.now) e) ∙ l.invariant
