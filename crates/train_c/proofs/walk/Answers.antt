-- `train_c::walk` meets its contract. The loop's invariant: what is left of the train from segment i on, whose octets begin at `at`, makes the same
-- whole train from where it stands now. A turn whose reception ends the train returns what the definition says of it; any other lets it go on.
-- Assumes nothing.
use borrow.Author.Rules.{rules}
use mathlib.Core.Path.{◌≡◌, refl, ap, sym, ◌∙◌}
use Prim.Native.Nat.{ℕ, ◌+◌, ◌*◌, ◌/◌, ◌-◌, ◌≤◌, min}
use native.Mathlib.Nat.{sub-zero}
use native.Mathlib.Omega.{arith}
use lib.ListN.{length, take, drop}
use Rattle.tsar.specs.Numbers.{number}
use Rattle.tsar.proofs.Told.{told_within}
use Rattle.receiver.specs.Answers.{Step, refuses}
use Rattle.receiver.specs.Says.{receive_says, received}
use Rattle.train_c.specs.Walk.{Train, train, segments_of, start_of, train_step, train_of, after}
use Rattle.train_c.specs.Laws.{step_refused, step_decoded, train_ends, train_turn, train_stops, train_carries, train_goes}
use Rattle.train_c.proofs.walk.Goals as goal
use Rattle.train_c.proofs.walk.Goals.{After-part-segment, After-receive-out, At-loop-i, In-Ok, Start}

-- where the train stands at a turn, the whole train, and what is left of it after a turn
abbrev stands : At-loop-i → Train
stands a = train 0 a.loop-i.receiver a.loop-i.store a.loop-i.output a.loop-i.i a.loop-i.reception.response a.loop-i.reception.message

abbrev whole_train : Start → Train
whole_train s =
    train_of s.args.peer s.args.protocol s.args.reading (segments_of (length s.args.lengths.now / 2) s.args.lengths.now s.args.octets.now) (start_of s.args.receiver s.args.store.now s.args.output.now)

abbrev left : After-part-segment → Train → Train
left w =
    let x = w.args in
    let l = w.loop-i in
    train_of x.peer x.protocol x.reading
    (segments_of (length x.lengths.now / 2 - (l.i + 1)) (drop (2 * (l.i + 1)) x.lengths.now) (drop (min (l.at + w.from-n.result) (length x.octets.now)) x.octets.now))

-- a turn: what the step of its segment makes of the train
abbrev Turns : After-part-segment → Step → Type 0
Turns b s =
    after (left b) (train 0 b.loop-i.receiver b.loop-i.store b.loop-i.output b.loop-i.i b.loop-i.reception.response b.loop-i.reception.message) s.answer s.receiver s.store s.output
    ≡ train_of b.args.peer b.args.protocol b.args.reading (segments_of (length b.args.lengths.now / 2) b.args.lengths.now b.args.octets.now) (start_of b.args.receiver b.args.store.now b.args.output.now)

turn : (b : After-part-segment) (s : Step) → s ≡ train_step b.args.peer b.args.protocol b.args.reading b.loop-i.receiver b.part-segment.result.now b.loop-i.store b.loop-i.output → Turns b s
turn b s q =
    let x = b.args in
    let l = b.loop-i in
    train_turn x.peer x.protocol x.reading x.lengths.now x.octets.now (length x.lengths.now / 2) l.i l.at b.from-n.result b.part-segment.result.now (train 0 l.receiver l.store l.output l.i l.reception.response l.reception.message) s
    (train_of x.peer x.protocol x.reading (segments_of (length x.lengths.now / 2) x.lengths.now x.octets.now) (start_of x.receiver x.store.now x.output.now)) b.loop-i-test.true (b.from-n.ensures ∙ b.read-length.ensures.reads) b.part-segment.ensures q l.invariant.2

-- the step of a segment that is decoded
abbrev step : After-receive-out → Step
step b = received b.receive-out.result b.receive-out.new.store b.receive-out.new.output

stepped : (b : After-receive-out) → step b ≡ train_step b.args.peer b.args.protocol b.args.reading b.loop-i.receiver b.part-segment.result.now b.loop-i.store b.loop-i.output
stepped b =
    let x = b.args in
    let l = b.loop-i in
    let o = b.part-segment.result.now in
    let n = b.in-Ok.decoded.head.segment_data_length in
    let k : 3 + n - 3 ≡ n = omega arith in
    b.receive-out.ensures
    ∙ step_decoded x.peer x.protocol x.reading l.receiver o l.store l.output b.decode_segment.result b.in-Ok.decoded (take (3 + n - 3) (drop 3 o)) b.in-Ok.is b.decode_segment.ensures
    (ap (λ (m : ℕ). take m (drop 3 o)) k)

-- the data of a segment that was decoded lie within its octets
data_there : (c : In-Ok) → 3 + c.in-Ok.decoded.head.segment_data_length ≤ length c.part-segment.result.now
data_there c = told_within c.loop-i.receiver.terms.version c.part-segment.result.now c.decode_segment.result c.in-Ok.decoded c.decode_segment.ensures c.in-Ok.is

pub loop-i-init : goal.loop-i-init
loop-i-init c =
    let x = c.args in
    (refl, search rules, ap (λ (k : ℕ). train_of x.peer x.protocol x.reading (segments_of k x.lengths.now x.octets.now) (start_of x.receiver x.store.now x.output.now)) (sub-zero (length x.lengths.now / 2)))

pub returns-in-Err : goal.returns-in-Err
returns-in-Err c =
    let x = c.args in
    let l = c.loop-i in
    let e = c.in-Err.e in
    let w = (goal.at.returns-in-Err c).After-part-segment in
    let s = refuses (number e) l.receiver l.store l.output in
    train_stops (left w) (stands (goal.at.returns-in-Err c).At-loop-i) s (whole_train (goal.at.returns-in-Err c).Start) (number e) c.error_code.result
    (turn w s (step_refused x.peer x.protocol x.reading l.receiver c.part-segment.result.now l.store l.output c.decode_segment.result e c.in-Err.is c.decode_segment.ensures)) refl c.error_code.ensures

pub overflow_add-end : goal.overflow_add-end
overflow_add-end c = omega (arith, data_there (goal.at.overflow_add-end c).In-Ok)

pub slice_bounds-receive-end : goal.slice_bounds-receive-end
slice_bounds-receive-end c = data_there (goal.at.slice_bounds-receive-end c).In-Ok

pub returns-in-Err-answer : goal.returns-in-Err-answer
returns-in-Err-answer c =
    let w = (goal.at.returns-in-Err-answer c).After-part-segment in
    let b = (goal.at.returns-in-Err-answer c).After-receive-out in
    train_stops (left w) (stands (goal.at.returns-in-Err-answer c).At-loop-i) (step b) (whole_train (goal.at.returns-in-Err-answer c).Start) _ c.error_code-in-Err-answer.result (turn w (step b) (stepped b)) (ap receive_says c.in-Err-answer.is) c.error_code-in-Err-answer.ensures

pub returns-then-stops : goal.returns-then-stops
returns-then-stops c =
    let w = (goal.at.returns-then-stops c).After-part-segment in
    let b = (goal.at.returns-then-stops c).After-receive-out in
    let m = c.in-Ok-answer.last in
    train_carries (left w) (stands (goal.at.returns-then-stops c).At-loop-i) (step b) (whole_train (goal.at.returns-then-stops c).Start) m.response m.message (turn w (step b) (stepped b)) (ap receive_says c.in-Ok-answer.is) (sym c.stops.ensures ∙ c.if-stops.true)

pub loop-i-preserved : goal.loop-i-preserved
loop-i-preserved c =
    let x = c.args in
    let l = c.loop-i in
    let w = (goal.at.loop-i-preserved c).After-part-segment in
    let b = (goal.at.loop-i-preserved c).After-receive-out in
    let s = step b in
    let m = c.in-Ok-answer.last in (
      l.invariant.0,
      l.invariant.1,
      ap
          (λ (k : ℕ).
          train_of x.peer x.protocol x.reading
          (segments_of (length x.lengths.now / 2 - (l.i + 1)) (drop (2 * (l.i + 1)) x.lengths.now) (drop k x.octets.now))
          (train 0 s.receiver s.store s.output (l.i + 1) m.response m.message))
          c.next-at.ensures
          ∙ train_goes (left w) (stands (goal.at.loop-i-preserved c).At-loop-i) s (whole_train (goal.at.loop-i-preserved c).Start) m.response m.message (turn w s (stepped b)) (ap receive_says c.in-Ok-answer.is) (sym c.stops.ensures ∙ c.if-stops.false),
    )

-- no segment is left
all : (count i : ℕ) → count ≤ i → i ≤ count → count ≡ i
all count i h k = omega arith

pub returns : goal.returns
returns c =
    let x = c.args in
    let l = c.loop-i in
    let e : length x.lengths.now / 2 - l.i ≡ 0 = omega (arith, c.loop-i-test.false) in
    ap (λ (k : ℕ). train 0 l.receiver l.store l.output k l.reception.response l.reception.message) (all (length x.lengths.now / 2) l.i c.loop-i-test.false c.loop-i.auto.i-end)
    ∙ sym (train_ends x.peer x.protocol x.reading (length x.lengths.now / 2 - l.i) (drop (2 * l.i) x.lengths.now) (drop l.at x.octets.now) (stands (goal.at.returns c).At-loop-i) e) ∙ l.invariant.2
