-- A whole list of calls under the delivery conditions: what holds after it, and that the message is handed over once every segment has come.
use Rattle.std.specs.Prelude.{ℕ, ◌≡◌, ◌⊎◌, Bool, Option, Some, None}
use Rattle.std.proofs.Math.Path.{refl}
use Rattle.std.proofs.Common.{ap, ◌∙◌, subst, inl, inr, arith}
use mathlib.Core.List.{List, [], ◌∷◌, ◌++◌}
use Rattle.std.proofs.Math.Bool.{true, false}
use Rattle.tsar.specs.Rows.{Refusal, first_of, refusal, by_rows}
use Rattle.tsar.specs.Kinds.{prohibited}
use Rattle.receiver.specs.Record.{late, impossible}
use Rattle.receiver.specs.Receive.{Arrival, receive_rows, slot_rules, keeps, settle, late_or, receive_after, receive_of}
use Rattle.delivery.specs.Calls.{Call, receive, advance, cancel, release, Left, StepFunction, step_of, then, after, FitsTypes, AllFitTypes, AfterTheList, AllOfAccepted}
use Rattle.delivery.specs.Delivery.{DeliveryConditions, DeliveryMeets}
use Rattle.delivery.specs.Lists.{never}
use Rattle.delivery.specs.Train.{Train}
use Rattle.delivery.specs.Progress.{HoldingOf}
use Rattle.delivery.proofs.Progress.{advanced}
use Rattle.delivery.specs.ProgressReleased.{ReleasedTrain}
use Rattle.delivery.proofs.ProgressReleased.{delivered_whole, delivered_only, released, released_then, delivered_octet}
use Rattle.delivery.specs.ProgressPasses.{Arrived, Next}
use Rattle.delivery.proofs.ProgressPasses.{◌⨾◌, number_small, passes, in_time}
use Rattle.delivery.proofs.ProgressRepeat.{no_other_length, no_other_content, again}
use Rattle.delivery.proofs.ProgressNew.{not_complete, not_at_255, is_served, crc_absent, end_in_place, not_past, lengths_agree, not_too_long, not_over, right_length, hands_over, goes_on}
use Rattle.delivery.specs.ProgressAll.{latest_first, Known, Delivered}

-- ---- a delivery

module _ (T : Train) (C : Arrived T) where
  -- what the slots decide keeps it: a repeat, the last segment, or one more
  settled : Next T C (settle T.interval (first_of (slot_rules C.w.receiver C.a C.w.store) keeps) C.w.receiver C.a C.w.store C.out)
  settled =
      by_rows (λ o. Next T C (settle T.interval o C.w.receiver C.a C.w.store C.out)) (slot_rules C.w.receiver C.a C.w.store) keeps
      (never _ (no_other_length T C) ⨾ λ f0.
      never _ (no_other_content T C) ⨾ λ f1.
      again T C ⨾ λ free.
      never _ (not_complete T C free) ⨾ λ f3.
      never _ (not_at_255 T C free) ⨾ λ f4.
      never _ (is_served T C free) ⨾ λ f5.
      never _ (crc_absent T C free) ⨾ λ f6.
      never _ (end_in_place T C free) ⨾ λ f7.
      never _ (not_past T C free) ⨾ λ f8.
      never _ (lengths_agree T C free) ⨾ λ f9.
      never _ (not_too_long T C free) ⨾ λ f10.
      never _ (not_over T C free) ⨾ λ f11.
      never _ (right_length T C free) ⨾ λ f12.
      hands_over T C free ⨾ goes_on T C free)

  -- so a delivery keeps it
  pub received : HoldingOf T (then (step_of T.interval) C.w (receive C.a C.out)) (receive C.a C.out ∷ C.calls)
  unfolding receive_of
  received = go (refusal (receive_rows T.interval C.w.receiver C.a C.w.store C.out)) (passes T C)
    where
      taken_in_time : (b p : Bool) → b ≡ false → Next T C (late_or T.interval b p C.w.receiver C.a C.w.store C.out)
      taken_in_time true p e = never true e refl
      taken_in_time false p e = settled

      go : (v : Option Refusal) → v ≡ None → Next T C (receive_after T.interval v C.w.receiver C.a C.w.store C.out)
      go (Some n) e = absurd (let z : ◌≡◌ {A = ℕ} 0 1 = cc in omega arith)
      go None e = taken_in_time (late C.w.receiver.progress.deadline_monotonic_ms C.a.reading) (prohibited C.w.receiver.progress.services.acknowledgment_window) (in_time T C)

-- calls after calls
pub after_append : (step : StepFunction) (w : Left) (cs ds : List Call) → after step w (cs ++ ds) ≡ after step (after step w cs) ds
after_append step w [] ds = refl
after_append step w (c ∷ cs) ds = after_append step (then step w c) cs ds

-- one more that fits
fit_append : (cs : List Call) (c : Call) → AllFitTypes cs → FitsTypes c → AllFitTypes (cs ++ (c ∷ []))
fit_append [] c f g = (g, tt)
fit_append (d ∷ cs) c f g = (f.0, fit_append cs c f.1 g)

-- w is what some list of calls leaves
record Reached (T : Train) (w₀ w : Left) : Type 0 where
  by : List Call
  fit : AllFitTypes by
  is : after (step_of T.interval) w₀ by ≡ w

module _ (T : Train) (w₀ : Left) (known : Known T w₀) where
  -- a call more
  reached_then : (w : Left) (c : Call) → Reached T w₀ w → FitsTypes c → Reached T w₀ (then (step_of T.interval) w c)
  reached_then w c R f = record {
    by = R.by ++ (c ∷ []);
    fit = fit_append R.by c R.fit f;
    is = after_append (step_of T.interval) w₀ R.by (c ∷ []) ∙ ap (λ (v : Left). then (step_of T.interval) v c) R.is;
  }

  -- what was handed over is of what was accepted
  right_of : (w : Left) → Reached T w₀ w → AllOfAccepted w.handed
  right_of w R = subst (λ (v : Left). AllOfAccepted v.handed) R.is (known.listed R.by R.fit).messages

  -- a delivery to what calls left
  arrives : (w : Left) (calls : List Call) → Reached T w₀ w → HoldingOf T w calls → (a : Arrival) (out : List ℕ)
      → DeliveryMeets T.interval T.terms T.made T.count T.segment calls a out → Arrived T
  arrives w calls R k a out m = record {
    w = w;
    calls = calls;
    listed = subst (AfterTheList T.terms.maximum_message_octets) R.is (known.listed R.by R.fit);
    possible = subst (λ (v : Left). impossible v.receiver ≡ false) R.is (known.possible R.by R.fit);
    holding = k;
    a = a;
    out = out;
    meets = m;
  }

  -- it holds after every list of calls, or the receiver was released after the hand-over
  all_the_way : (w : Left) (calls cs : List Call) → Reached T w₀ w → HoldingOf T w calls ⊎ ReleasedTrain T w calls
      → DeliveryConditions T.interval T.terms T.made T.count T.segment calls cs
      → Reached T w₀ (after (step_of T.interval) w cs)
      × (HoldingOf T (after (step_of T.interval) w cs) (latest_first calls cs) ⊎ ReleasedTrain T (after (step_of T.interval) w cs) (latest_first calls cs))
  unfolding arrives
  all_the_way w calls [] R k D = (R, k)
  all_the_way w calls (receive a out ∷ cs) R (inl k) D =
      let C = arrives w calls R k a out D.0 in
      all_the_way (then (step_of T.interval) w (receive a out)) (receive a out ∷ calls) cs (reached_then w (receive a out) R (number_small T C)) (inl (received T C)) D.1
  all_the_way w calls (receive a out ∷ cs) R (inr z) D =
      all_the_way (then (step_of T.interval) w (receive a out)) (receive a out ∷ calls) cs (reached_then w (receive a out) R (delivered_octet T calls a out D.0))
      (inr (released_then T w calls (receive a out) z)) D.1
  all_the_way w calls (advance n ∷ cs) R (inl k) D =
      all_the_way (then (step_of T.interval) w (advance n)) (advance n ∷ calls) cs (reached_then w (advance n) R tt) (inl (advanced T w calls n k D.0)) D.1
  all_the_way w calls (advance n ∷ cs) R (inr z) D =
      all_the_way (then (step_of T.interval) w (advance n)) (advance n ∷ calls) cs (reached_then w (advance n) R tt) (inr (released_then T w calls (advance n) z)) D.1
  all_the_way w calls (cancel n ∷ cs) R k D = absurd D.0
  all_the_way w calls (release n ∷ cs) R (inl k) D =
      all_the_way (then (step_of T.interval) w (release n)) (release n ∷ calls) cs (reached_then w (release n) R tt) (released T w calls n (right_of w R) k D.0) D.1
  all_the_way w calls (release n ∷ cs) R (inr z) D =
      all_the_way (then (step_of T.interval) w (release n)) (release n ∷ calls) cs (reached_then w (release n) R tt) (inr (released_then T w calls (release n) z)) D.1

module _ (T : Train) (w : Left) (calls : List Call) (right : AllOfAccepted w.handed) where
  -- released or not
  delivered : HoldingOf T w calls ⊎ ReleasedTrain T w calls → Delivered T w calls
  delivered (inl k) = record { whole = delivered_whole T w calls right k; only = delivered_only T w calls right k; right = right }
  delivered (inr z) = record { whole = λ c. z.message_is; only = λ h hs q. z.come; right = right }

-- after every list of calls under the conditions the message was handed over exactly where every segment has come
pub train_delivered : (T : Train) (w₀ : Left) → Known T w₀ → HoldingOf T w₀ [] → (cs : List Call) → DeliveryConditions T.interval T.terms T.made T.count T.segment [] cs
    → Delivered T (after (step_of T.interval) w₀ cs) (latest_first [] cs)
train_delivered T w₀ known k cs D =
    let e = all_the_way T w₀ known w₀ [] cs (record { by = []; fit = tt; is = refl }) (inl k) D in
    let w = after (step_of T.interval) w₀ cs in
    delivered T w (latest_first [] cs) (right_of T w₀ known w e.0) e.1
