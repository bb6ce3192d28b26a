-- Each piece goes behind those before it: the data of slots 0 to t stand at the front of the output.
use Rattle.std.specs.Prelude.{ℕ, ◌+◌, ◌*◌, ◌≤◌, ◌≡◌, List, length, get_or, take, drop}
use Rattle.std.proofs.Common.{arith, sym, ap, ap₂, ◌∙◌, add-one, length-take}
use Rattle.std.proofs.lemmas.List.Edits.{sets}
use Rattle.receiver.proofs.JoinedData.{joined_none, length_more, sets_more}
use Rattle.receiver.specs.Record.{part}
use Rattle.receiver.proofs.turns.join.Goals as goal
use Rattle.receiver.proofs.turns.join.Goals.{After-part-piece}

piece_was : (c : After-part-piece) → c.part-piece.result.now ≡ part c.args.store.now c.loop-t.t (get_or c.args.lengths.now c.loop-t.t 0)
piece_was c = c.part-piece.ensures ∙ ap (λ (n : ℕ). take n (drop (255 * c.loop-t.t) c.args.store.now)) c.from.ensures

piece_short : (c : After-part-piece) → length c.part-piece.result.now ≤ 65535
piece_short c =
    omega (arith, ap length c.part-piece.ensures, length-take c.from.result (drop (255 * c.loop-t.t) c.args.store.now), c.from.ensures, c.fits-lengths c.loop-t.t)

pub loop-t-init : goal.loop-t-init
loop-t-init c =
    let x = c.args in
    let none = joined_none x.lengths.now x.store.now in
    (omega arith, sym (ap length none), sym (ap (sets x.output.now 0) none))

pub overflow_add-at : goal.overflow_add-at
overflow_add-at c = omega (arith, piece_short (goal.at.overflow_add-at c).After-part-piece)

pub loop-t-preserved : goal.loop-t-preserved
loop-t-preserved c =
    let x = c.args in
    let l = c.loop-t in
    let L = x.lengths.now in
    let S = x.store.now in
    let p = piece_was (goal.at.loop-t-preserved c).After-part-piece in (
      omega (arith, piece_short (goal.at.loop-t-preserved c).After-part-piece),
      rw add-one (ap₂ (λ (a b : ℕ). a + b) l.invariant.1 (ap length p) ∙ sym (length_more L S l.t)),
      rw add-one (c.put.ensures ∙ ap (λ (k : List ℕ). sets l.output l.at k) p
          ∙ ap (λ (o : List ℕ). sets o l.at (part S l.t (get_or L l.t 0))) l.invariant.2 ∙ sets_more x.output.now L S l.t l.at l.invariant.1),
    )
