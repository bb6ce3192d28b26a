-- `tsar::Segment::write` meets its contract. A segment that passed the tests fits the layout, so its octets are the runs of
-- `written_runs`: three stores, the data, the length and what is behind it, each where the one before ends. Assumes nothing.
use Rattle.std.proofs.Common.{◌≡◌, ℕ, ◌+◌, ◌*◌, List, ◌++◌, length, set, refl, sym, ap, ap₂, ◌∙◌, arith}
use Rattle.std.proofs.lemmas.List.Edits.{sets}
use Rattle.tsar.specs.Layout.{WholeSegment, whole, length_param, written, number_of_type}
use Rattle.tsar.specs.Octets.{params_octets}
use Rattle.tsar.specs.Spells.{Fits}
use Rattle.tsar.specs.Writing.{wrote, Written, length_in, rest_params}
use Rattle.tsar.proofs.Passes.{writable_fits}
use Rattle.tsar.proofs.Writes.{written_runs, runs_size, three_runs, no_room, with_room}
use Rattle.tsar.proofs.Segment.write.Goals as goal
use Rattle.tsar.proofs.Segment.write.Goals.{After-rest_octets}

-- past the tests the segment fits the layout: the types say the rest
abbrev seg : (c : After-rest_octets) → WholeSegment
seg c = whole c.args.self c.args.«data».now

fits : (c : After-rest_octets) → Fits (seg c)
fits c =
    writable_fits c.args.self c.args.«data».now
    (record {
      sequence_typed = omega (arith, c.well_formed.0);
      data_typed = λ j. omega (arith, c.type_inv.«data» j);
      crc_typed = c.rest_octets.ensures.typed;
    })
    c.requires

-- the octets that were counted
sizes : (c : After-rest_octets) → 3 + length c.args.«data».now + c.length_octets.result + c.rest_octets.result ≡ length (written (seg c))
sizes c = omega (arith, ap length (written_runs (seg c) (fits c)), runs_size (seg c), c.rest_octets.ensures.size, c.length_octets.ensures)

pub returns-then-output-total : goal.returns-then-output-total
returns-then-output-total c =
    let r = (goal.at.returns-then-output-total c).After-rest_octets in
    sym (no_room (written (seg r)) c.args.output.now (omega (arith, sizes r, c.if-output-total.true)))

pub returns : goal.returns
returns c =
    let r = (goal.at.returns c).After-rest_octets in
    let a = c.args in
    let s = seg r in
    let n = sizes r in
    let after = 3 + length a.«data».now in
    let end = after + c.length_octets.result in
    let first = set (set (set a.output.now 0 (c.from.result * 8 + a.self.transaction_id)) 1 a.self.sequence_number) 2 (length a.«data».now) in
    let stated = params_octets (length_param (length_in a.self.kind)) in
    let rest = params_octets (rest_params a.self.kind) in
    ap₂ {C = Written} (λ (m : ℕ) (l : List ℕ). record { answer = wrote m; output = l }) n
    (c.put_rest.ensures
    ∙ ap (λ (l : List ℕ). sets l end rest) (c.put_length.ensures ∙ ap₂ {C = List ℕ} (λ (l : List ℕ) m. sets l after (params_octets (length_param m))) c.put.ensures c.message_length.ensures)
    ∙ three_runs first a.«data».now stated rest after end refl (ap (λ (m : ℕ). after + m) c.length_octets.ensures)
    ∙ ap (λ (t : ℕ). sets (set (set (set a.output.now 0 (t * 8 + a.self.transaction_id)) 1 a.self.sequence_number) 2 (length a.«data».now)) 3 (a.«data».now ++ (stated ++ rest)))
    (c.from.ensures ∙ ap number_of_type c.segment_type.ensures)
    ∙ ap (sets a.output.now 0) (sym (written_runs s (fits r))))
    ∙ sym (with_room (written s) a.output.now (omega (arith, n, c.if-output-total.false)))
