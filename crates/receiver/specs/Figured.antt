-- Document 02, 2026-01: every answer that carries a response carries the figures of that response's own map. A law of each call, over any record,
-- segment, store, reading and interval; and, where the end that a record knows and the sequence number are octets, what these figures say of the
-- map. Assumes nothing.
use Rattle.std.specs.Prelude.{ℕ, ◌+◌, ◌<◌, ◌≡◌, refl, List, Bool, cond, ◌&&◌, eqb, leb, Option, Some, None}
use Rattle.std.proofs.Math.Bool.{true, false}
use Rattle.std.proofs.Common.{arith}
use Rattle.words.specs.Marks.{marked, highest_of}
use Rattle.words.specs.Search.{highest_is}
use Rattle.words.specs.declared.Words.{Words}
use Rattle.tsar.specs.Rows.{Refusal, refusal, first_of, either}
use Rattle.tsar.specs.Kinds.{prohibited}
use Rattle.tsar.specs.declared.SegmentKind.{SegmentKind}
use Rattle.tsar.specs.declared.SegmentKind.TheVariants.{Begin, Continue, End}
use Rattle.tsar.specs.declared.Segment.{Segment}
use Rattle.response.specs.Responses.{status_number, figures_of}
use Rattle.response.specs.MissingEntries.{AreFigures, are_figures}
use Rattle.response.specs.declared.Status.{Status}
use Rattle.response.specs.declared.Status.TheVariants as status
use Rattle.receiver.specs.declared.ReceiverState.TheVariants.{Receiving, Complete}
use Rattle.receiver.specs.declared.Receiver.{Receiver}
use Rattle.receiver.specs.declared.Reported.{Reported}
use Rattle.receiver.specs.Record.{complete, due, late}
use Rattle.receiver.specs.Answers.{Answer, refused, answered, found_or0, highest, last_entry, respond, required, required_response, listed, listed_in, fail_response}
use Rattle.receiver.specs.Receive.{Arrival, kind, sequence, Stage, before, begun, noted, keeping, Outcome, fails, repeats, closes, keeps, finishes, end_of, slot_rules, receive_rows, kept, at_stage, settle, late_or, receive_after, receive_of}
use Rattle.receiver.specs.Advance.{clock_rows, cancel_rows, release_rows, fires, advance_after, advance_of, cancel_after, cancel_of, release_of}

-- ---- what is said of an answer

-- something of its response, where it has one
abbrev pub Carried : (Reported → Type 0) → Option Reported → Type 0
Carried P None = Unit {0}
Carried P (Some x) = P x

abbrev pub CarriedIn : (Reported → Type 0) → Answer → Type 0
CarriedIn P (refused n) = Unit {0}
CarriedIn P (answered x m) = Carried P x

-- the figures beside a response are those of its own map
abbrev pub OwnFigures : Reported → Type 0
OwnFigures x = x.missing ≡ figures_of x.response.acknowledgments

-- they say how many of its entries are missing, and the first
abbrev pub Figured : Reported → Type 0
Figured x = AreFigures x.response.acknowledgments x.missing

-- an end that is known is an octet, as in every record of the code
abbrev pub OctetEnd : Option ℕ → Type 0
OctetEnd None = Unit {0}
OctetEnd (Some e) = e < 256

-- ---- every answer's response is one that `respond` makes, with or without the support list

module _ (P : Reported → Type 0) (Good : Option ℕ → Type 0) (responds : (r : Receiver) (s : Status) (next : Bool) → Good r.progress.end_sequence → Carried P (respond r s next)) (lists : (x : Reported) → P x → P (listed true x)) where
  requires_it : (r : Receiver) (x : Segment) (s : Status) → Good r.progress.end_sequence → Carried P (required_response r x s)
  requires_it r x s g = either (Carried P) (required r x s) (respond r s false) None (λ e. responds r s false g) (λ e. tt)

  lists_it : (b : Bool) (y : Option Reported) → Carried P y → Carried P (listed_in b y)
  lists_it b None h = tt
  lists_it true (Some y) h = lists y h
  lists_it false (Some y) h = h

  fails_with : (r : Receiver) (s : Status) → Good r.progress.end_sequence → Carried P (fail_response r s)
  fails_with r s g = lists_it (eqb (status_number s) 13 && leb 5 r.terms.version) (respond r s false) (responds r s false g)

  module _ (interval : ℕ) (r : Receiver) (a : Arrival) (store out : List ℕ) (g : Good r.progress.end_sequence) (k : Good (end_of r.progress.end_sequence (kind a) (sequence a))) where
    staged : (st : Stage) → Good (at_stage r a st).progress.end_sequence
    staged before = g
    staged begun = g
    staged noted = g
    staged keeping = k

    settles : (o : Outcome) → CarriedIn P (settle interval o r a store out).answer
    settles (fails st s) = fails_with (at_stage r a st) s (staged st)
    settles repeats = requires_it r a.segment (cond (complete r.progress.state) status.Received status.Continuing) g
    settles closes = tt
    settles keeps = requires_it (kept r a Receiving (Some (a.reading + interval))) a.segment status.Continuing k
    settles finishes = requires_it (kept r a Complete None) a.segment status.Received k

    in_time : (t p : Bool) → CarriedIn P (late_or interval t p r a store out).answer
    in_time true true = tt
    in_time true false = tt
    in_time false p = settles (first_of (slot_rules r a store) keeps)

    pub receives : CarriedIn P (receive_of interval r a store out).answer
    unfolding receive_of
    receives = go (refusal (receive_rows interval r a store out))
      where
        go : (o : Option Refusal) → CarriedIn P (receive_after interval o r a store out).answer
        go (Some n) = tt
        go None = in_time (late r.progress.deadline_monotonic_ms a.reading) (prohibited r.progress.services.acknowledgment_window)

  pub advances : (r : Receiver) (store : List ℕ) (now' : ℕ) → Good r.progress.end_sequence → CarriedIn P (advance_of r store now').answer
  unfolding advance_of
  advances r store now' g = go (refusal (clock_rows r store now'))
    where
      fired : (b p : Bool) → CarriedIn P (fires b p r store now').answer
      fired false p = tt
      fired true true = tt
      fired true false = responds r status.InterSegmentTimeout true g

      go : (o : Option Refusal) → CarriedIn P (advance_after o r store now').answer
      go (Some n) = tt
      go None = fired (due r.progress.deadline_monotonic_ms now') (prohibited r.progress.services.acknowledgment_window)

-- ---- the figures are its own map's

abbrev Any : Option ℕ → Type 0
Any e = Unit {0}

own_responds : (r : Receiver) (s : Status) (next : Bool) → Any r.progress.end_sequence → Carried OwnFigures (respond r s next)
own_responds r s next g = either (Carried OwnFigures) (prohibited r.progress.services.acknowledgment_window) None (Some _) (λ e. tt) (λ e. refl)

pub receive_own : (interval : ℕ) (r : Receiver) (a : Arrival) (store out : List ℕ) → CarriedIn OwnFigures (receive_of interval r a store out).answer
receive_own interval r a store out = receives OwnFigures Any own_responds (λ x h. h) interval r a store out tt tt

pub advance_own : (r : Receiver) (store : List ℕ) (now' : ℕ) → CarriedIn OwnFigures (advance_of r store now').answer
advance_own r store now' = advances OwnFigures Any own_responds (λ x h. h) r store now' tt

-- a cancel carries none, nor does a release
closing_none : (o : Option Refusal) (r : Receiver) (store : List ℕ) (now' : ℕ) → CarriedIn (λ x. ⊥) (cancel_after o r store now').answer
closing_none (Some n) r store now' = tt
closing_none None r store now' = tt

pub cancel_none : (r : Receiver) (store : List ℕ) (now' : ℕ) → CarriedIn (λ x. ⊥) (cancel_of r store now').answer
unfolding cancel_of
cancel_none r store now' = closing_none (refusal (cancel_rows r store now')) r store now'

pub release_none : (r : Receiver) (store : List ℕ) (now' : ℕ) → CarriedIn (λ x. ⊥) (release_of r store now').answer
unfolding release_of
release_none r store now' = closing_none (refusal (release_rows r store now')) r store now'

-- ---- and they say of it what they should

highest_octet : (held : Words) → highest held < 256
highest_octet held = go (highest_of (marked held) 256) refl
  where
    go : (x : Option ℕ) → highest_of (marked held) 256 ≡ x → found_or0 x < 256
    go None e = omega arith
    go (Some s) e = (highest_is (marked held) 256 s e).within

last_octet : (next : Bool) (held : Words) (e : Option ℕ) → OctetEnd e → last_entry next held e < 256
last_octet next held (Some e) h = h
last_octet true held None h = omega arith
last_octet false held None h = highest_octet held

said_responds : (r : Receiver) (s : Status) (next : Bool) → OctetEnd r.progress.end_sequence → Carried Figured (respond r s next)
said_responds r s next g =
    let l : last_entry next r.held r.progress.end_sequence < 256 = last_octet next r.held r.progress.end_sequence g in
    either (Carried Figured) (prohibited r.progress.services.acknowledgment_window) None (Some _) (λ e. tt) (λ e. are_figures _ (omega arith))

end_octet : (old : Option ℕ) (k : SegmentKind) (q : ℕ) → OctetEnd old → q < 256 → OctetEnd (end_of old k q)
end_octet old (Begin n s) q g h = g
end_octet old (Continue n) q g h = g
end_octet old (End n c) q g h = h

-- of a reception
pub receive_figured : (interval : ℕ) (r : Receiver) (a : Arrival) (store out : List ℕ) → OctetEnd r.progress.end_sequence → sequence a < 256
    → CarriedIn Figured (receive_of interval r a store out).answer
receive_figured interval r a store out g h =
    receives Figured OctetEnd said_responds (λ x p. p) interval r a store out g (end_octet r.progress.end_sequence (kind a) (sequence a) g h)

-- of a timeout answer
pub advance_figured : (r : Receiver) (store : List ℕ) (now' : ℕ) → OctetEnd r.progress.end_sequence → CarriedIn Figured (advance_of r store now').answer
advance_figured r store now' g = advances Figured OctetEnd said_responds (λ x p. p) r store now' g
