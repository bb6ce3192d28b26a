-- A character that waits, or one that ends an octet for which there is room, leaves what is left to read as it goes on.
use Rattle.std.proofs.Common.{◌≡◌, ◌+◌, ℕ, suc, List, Result, Ok, get_or, length, subst, ◌∙◌, arith, rules}
use Rattle.std.proofs.Math.Numerals.{add-one}
use Rattle.std.proofs.Math.ListN.{length-set}
use Rattle.capture.specs.declared.octet.BadOctets.{BadOctets}
use Rattle.capture.specs.declared.octet.Step.TheVariants as step
use Rattle.capture.specs.Hexadecimal.{step_of}
use Rattle.capture.specs.HexadecimalLaws.{on_wait, on_octet}
use Rattle.capture.proofs.octet.spelled.Invariants.{Goes}
use Rattle.capture.proofs.octet.spelled.Goals as goal
use Rattle.capture.proofs.octet.spelled.Goals.{in-Wait, in-Octet+else-out-n}

pub loop-i-preserved : goal.loop-i-preserved
loop-i-preserved c =
    let l = c.loop-i in
    let i = l.i-counter in
    let at = c.args.at in
    let o = c.args.out.now in
    let rest = c.from-rest.result.now in
    let next : at + (i + 1) ≡ suc (at + i) = omega arith in
    elim c.match-branch-2.branch [
      | in-Wait w ↦
          let e : step_of l.high (get_or rest i 0) ≡ Ok (step.Wait w.in-Wait.h) = search rules in
          let g = subst (λ (q : Result ℕ BadOctets × List ℕ). Goes rest at o l.out l.n q) (on_wait (length o) l.high l.n (at + i) i rest _ (omega arith) e) l.invariant.2 in
          rw (w.out-is, w.high-is, w.n-is, next, add-one) (l.invariant.0, l.invariant.1, g)
      | in-Octet+else-out-n w ↦
          let e : step_of l.high (get_or rest i 0) ≡ Ok (step.Octet w.in-Octet.octet) = search rules in
          let g = subst (λ (q : Result ℕ BadOctets × List ℕ). Goes rest at o l.out l.n q) (on_octet (length o) l.high l.n (at + i) i rest _ (omega arith) (omega (arith, l.invariant.0)) e) l.invariant.2 in
          rw (w.out-is, w.high-is, w.n-is, next, add-one l.n, add-one i) (length-set l.out l.n _ ∙ l.invariant.0, omega (arith, l.invariant.0), g)
    ]
