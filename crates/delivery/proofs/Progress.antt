-- A train that is delivered under the conditions: what holds after each of its calls, and that an advance keeps it.
use Rattle.std.specs.Prelude.{ℕ, ◌≤◌, ◌≡◌, refl, List, [], ◌∷◌, Bool, true, false, length, Option, Some, None}
use Rattle.std.proofs.Common.{sym, ap, ◌∙◌, arith}
use Rattle.std.proofs.lemmas.Bool.{false≢true, lt-leb}
use Rattle.tsar.specs.Rows.{Refusal, refusal}
use Rattle.tsar.specs.Kinds.{prohibited}
use Rattle.receiver.specs.declared.ReceiverState.TheVariants.{AwaitingBegin}
use Rattle.receiver.specs.declared.Receiver.{Receiver}
use Rattle.receiver.specs.Record.{receiving, due, store_octets}
use Rattle.receiver.specs.Advance.{clock_rows, fires, advance_after, advance_of, empty}
use Rattle.delivery.specs.Calls.{Call, advance, Left, absent, step_of, start, taken, then}
use Rattle.delivery.specs.Delivery.{AllHaveCome}
use Rattle.delivery.specs.Lists.{never, sum_to_zero}
use Rattle.delivery.specs.Train.{Train, octets_at}
use Rattle.delivery.specs.Progress.{Timely, Phase, SetBy, Holding, HoldingOf, Quiet, waiting, going, done}

-- before the first call
pub holding_start : (T : Train) (store : List ℕ) → store_octets ≤ length store → HoldingOf T (start (empty T.terms AwaitingBegin T.made) store) []
holding_start T store room = record {
  terms_are = refl;
  read_by = omega arith;
  set_by = λ e. never false refl e;
  off = λ e. refl;
  room = room;
  has = λ s x f. absurd (false≢true (ap absent (sym f)));
  seen = λ s h c. absurd c;
  shown = λ s x f. absurd (false≢true (ap absent (sym f)));
  counted = sym (sum_to_zero T.count (octets_at []) (λ i h. refl));
  agrees = refl;
  no_end = λ f. refl;
  at_end = λ f. absurd (false≢true (sym f));
  phase = waiting refl refl refl refl;
}

-- while it receives, a segment is still to come
lacks : (T : Train) (w : Left) (calls : List Call) → HoldingOf T w calls → receiving w.receiver.progress.state ≡ true → AllHaveCome T.count T.segment calls → ⊥
lacks T w calls k e all = go k.phase
  where
    go : Phase T w.receiver.progress.state w.accepted w.handed calls → ⊥
    go (waiting s f g d) = never _ (rw s) e
    go (going s f j l g) = never _ (k.seen j l (all j l)) (rw g)
    go (done s f n m g) = never _ (rw s) e

-- no deadline has come by a reading that meets the conditions
pub not_due : (T : Train) (w : Left) (calls : List Call) (now' : ℕ) → HoldingOf T w calls → Timely T calls now' → due w.receiver.progress.deadline_monotonic_ms now' ≡ false
not_due T w calls now' k t = go (receiving w.receiver.progress.state) refl
  where
    go : (b : Bool) → receiving w.receiver.progress.state ≡ b → due w.receiver.progress.deadline_monotonic_ms now' ≡ false
    go true e =
        let s = k.set_by e in
        rw s.set (lt-leb _ _ (t.in_time s.at s.delivered (lacks T w calls k e)))
    go false e = rw (k.off e)

module _ (T : Train) (w : Left) (calls : List Call) (now' : ℕ) (k : HoldingOf T w calls) where
  abbrev r : Receiver
  r = w.receiver

  module _ (calls' : List Call) (q : Quiet T calls now' calls') where
    -- it leaves the phase
    same_phase : Phase T r.progress.state w.accepted w.handed calls → Phase T r.progress.state w.accepted w.handed calls'
    same_phase (waiting s f g d) = waiting s f g (q.delivered ∙ d)
    same_phase (going s f j l g) = going s f j l g
    same_phase (done s f n m g) = done s f n m g

    -- and what set the deadline
    same_set : SetBy T.interval r.progress.deadline_monotonic_ms calls → SetBy T.interval r.progress.deadline_monotonic_ms calls'
    same_set s = record { at = s.at; delivered = q.delivered ∙ s.delivered; set = s.set }

    -- all of it holds with another reading
    pub same : (n : ℕ) → n ≤ now'
        → Holding T r.terms r.progress.state r.progress.end_sequence r.progress.message_length r.progress.stored_octets r.progress.deadline_monotonic_ms n w.store w.accepted w.handed calls'
    same n l = record {
      terms_are = k.terms_are;
      read_by = omega (arith, l, q.taken_at);
      set_by = λ e. same_set (k.set_by e);
      off = k.off;
      room = k.room;
      has = k.has;
      seen = λ s h c. k.seen s h (q.before (T.segment s) c);
      shown = λ s x f. q.after (T.segment s) (k.shown s x f);
      counted = k.counted;
      agrees = k.agrees;
      no_end = k.no_end;
      at_end = k.at_end;
      phase = same_phase k.phase;
    }

  -- an advance brings nothing
  quiet_advance : Quiet T calls now' (advance now' ∷ calls)
  quiet_advance = record { taken_at = refl; delivered = refl; before = λ x c. c; after = λ x c. c }

  module _ (t : Timely T calls now') where
    -- no deadline fires
    fired : (b p : Bool) → b ≡ false → HoldingOf T (taken w (advance now') (fires b p r w.store now')) (advance now' ∷ calls)
    fired false p e = same (advance now' ∷ calls) quiet_advance now' (omega arith)
    fired true p e = absurd (false≢true (sym e))

    -- an advance keeps it
    pub advanced : HoldingOf T (then (step_of T.interval) w (advance now')) (advance now' ∷ calls)
    unfolding advance_of
    advanced = go (refusal (clock_rows r w.store now'))
      where
        go : (v : Option Refusal) → HoldingOf T (taken w (advance now') (advance_after v r w.store now')) (advance now' ∷ calls)
        go (Some n) = same (advance now' ∷ calls) quiet_advance r.progress.last_monotonic_ms (omega (arith, k.read_by, t.never_falls))
        go None = fired (due r.progress.deadline_monotonic_ms now') (prohibited r.progress.services.acknowledgment_window) (not_due T w calls now' k t)
