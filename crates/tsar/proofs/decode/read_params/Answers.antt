-- `tsar::decode::read_params` meets its contract. The loop's offset is the reader's own, and its octets stay the same. The loop's invariant: what is left to run from the offset on, with as much fuel as
-- there are octets left, gives what running from the start gives; `taken_within` says that a step takes some octet and none past the end.
-- The measure is what is left of the octets. Assumes nothing.
use Prim.Native.Nat.{ℕ, suc, pred, ◌+◌, ◌≤◌, ◌<◌}
use mathlib.Core.Path.{◌≡◌, refl, sym, ap, ◌∙◌}
use mathlib.Core.List.{List}
use native.Mathlib.Omega.{arith}
use lib.ListN.{length, drop, length-drop}
use lib.Seq.{drop-drop}
use Rattle.tsar.specs.declared.decode.Params.{Params}
use Rattle.std.specs.Prelude.{Err, Option, Result, Some, Ok}
use Rattle.tsar.specs.declared.Error.{Error}
use Rattle.tsar.specs.Reading.{step_of, offset_after, no_params, run_params}
use Rattle.std.proofs.lemmas.Result.{err_from_is_err_and}
use Rattle.tsar.proofs.Loop.{taken_within, on_taken, on_stop, on_refused}
use Rattle.tsar.proofs.decode.read_params.Goals as goal
use Rattle.tsar.proofs.decode.read_params.Goals.{After-take-took}

-- what is left of the octets at the loop's start
l : (c : After-take-took) → List ℕ
l c = drop c.loop-next.reader.offset c.args.bytes.now

-- what the step gave, and the reader's offset after it
stepped : (c : After-take-took) (s : Result (Option (Params × ℕ)) Error) → c.take-took.result.step ≡ s → step_of c.args.kind c.loop-next.params (l c) ≡ s
unfolding l
stepped c s e = ap (λ (b : List ℕ). step_of c.args.kind c.loop-next.params (drop c.loop-next.reader.offset b)) (sym c.loop-next.invariant.same) ∙ sym c.take-took.ensures.step ∙ e

moved : (c : After-take-took) (s : Result (Option (Params × ℕ)) Error) → c.take-took.result.step ≡ s → c.take-took.result.reader.offset ≡ offset_after s c.loop-next.reader.offset
moved c s e = c.take-took.ensures.after ∙ ap (λ (t : Result (Option (Params × ℕ)) Error). offset_after t c.loop-next.reader.offset) e

-- a parameter that was taken takes some octet, and none past the end
bounds : (c : After-take-took) (p : Params) (n : ℕ) → c.take-took.result.step ≡ (Ok (Some (p, n))) → (0 < n) × (n + c.loop-next.reader.offset ≤ length c.args.bytes.now)
unfolding l
bounds c p n e =
    let w = taken_within _ _ (l c) _ _ (stepped c _ e) in
    (w.0, omega (arith, w.1, length-drop c.loop-next.reader.offset c.args.bytes.now, c.loop-next.invariant.within))

pub loop-next-init : goal.loop-next-init
loop-next-init c =
    let a = c.args in
    let l = drop a.start a.bytes.now in
    let h = c.default-params.ensures in
    let e : c.default-params.result ≡ no_params = λ i. record { message_length = h.0 i; services = h.1.0 i; crc = h.1.1 i } in
    record {
      same = refl;
      within = c.requires;
      left = (suc (length l), omega (arith, length-drop a.start a.bytes.now), ap (λ (p : Params). run_params (suc (length l)) a.kind p a.start l) e);
    }

pub loop-next-smaller : goal.loop-next-smaller
loop-next-smaller c =
    let b = (goal.at.loop-next-smaller c).After-take-took in
    let w = bounds b _ _ (c.in_ok-next.was ∙ ap Ok c.in-Some.is) in
    omega (arith, moved b _ (c.in_ok-next.was ∙ ap Ok c.in-Some.is), w.0, w.1)

pub loop-next-preserved : goal.loop-next-preserved
unfolding l
loop-next-preserved c =
    let b = (goal.at.loop-next-preserved c).After-take-took in
    let g = c.loop-next.invariant.left in
    let a = c.args in
    let at = c.loop-next.reader.offset in
    let n = c.in-Some.field-0-1 in
    let e = c.in_ok-next.was ∙ ap Ok c.in-Some.is in
    let w = bounds b _ _ e in
    let past : c.take-took.result.reader.offset ≡ at + n = moved b _ e in
    let m : length (l b) < g.0 = omega (arith, length-drop at a.bytes.now, g.1) in
    record {
      same = ap (λ r. r.now) c.take-took.ensures.octets ∙ c.loop-next.invariant.same;
      within = omega (arith, past, w.1);
      left = (
        pred g.0,
        omega (arith, past, w.0, g.1, m),
        ap (λ (k : ℕ). run_params (pred g.0) a.kind c.in-Some.next k (drop k a.bytes.now)) past
            ∙ ap (run_params (pred g.0) a.kind _ (at + n)) (sym (drop-drop n at a.bytes.now)) ∙ sym (on_taken a.kind _ at (l b) g.0 _ n m (stepped b _ e)) ∙ g.2,
      );
    }

pub returns-in_err-next : goal.returns-in_err-next
unfolding l
returns-in_err-next c =
    let b = (goal.at.returns-in_err-next c).After-take-took in
    let g = c.loop-next.invariant.left in
    let at = c.loop-next.reader.offset in
    let m : length (l b) < g.0 = omega (arith, length-drop at c.args.bytes.now, g.1) in
    let q = err_from_is_err_and c.from_residual.result c.from_residual.ensures.1 in
    q.1 ∙ ap Err q.2 ∙ sym (on_refused c.args.kind _ at (l b) g.0 _ m (stepped b _ c.in_err-next.was)) ∙ g.2

pub returns : goal.returns
unfolding l
returns c =
    let b = (goal.at.returns c).After-take-took in
    let g = c.loop-next.invariant.left in
    let at = c.loop-next.reader.offset in
    let e = c.in_ok-next.was ∙ ap Ok c.in-None.is in
    let still : c.take-took.result.reader.offset ≡ at = omega (arith, moved b _ e) in
    ap (λ (k : ℕ). Ok (record { params = c.loop-next.params; at = k })) still ∙ sym (on_stop c.args.kind _ at (l b) g.0 (stepped b _ e)) ∙ g.2
