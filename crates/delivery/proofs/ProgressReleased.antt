-- A receiver that was released after the hand-over: it stays closed and hands nothing over again. What was handed over while a train is delivered.
use Rattle.std.specs.Prelude.{ℕ, ◌<◌, ◌≡◌, refl, ◌⊎◌, Bool, true, false, Option}
use Rattle.std.proofs.Common.{sym, ap, ◌∙◌, subst, inl, inr, arith}
use mathlib.Core.List.{List, [], ◌∷◌, map, nil≢cons}
use Rattle.tsar.specs.Layout.{WholeSegment}
use Rattle.receiver.specs.Record.{taking, complete}
use Rattle.receiver.specs.Answers.{Step}
use Rattle.receiver.specs.Receive.{Arrival, sequence}
use Rattle.receiver.specs.Advance.{fires}
use Rattle.receiver.specs.declared.Receiver.{Receiver}
use Rattle.delivery.specs.Calls.{Call, receive, advance, cancel, release, Left, HandOver, find, absent, step_of, then, after, taken, add_accepted, add_handed, AllOfAccepted}
use Rattle.delivery.specs.Delivery.{HasCome, AllHaveCome, DeliveryMeets}
use Rattle.delivery.specs.Lists.{never, present}
use Rattle.delivery.specs.Rules.{by_receive, by_advance, by_cancel, by_release}
use Rattle.delivery.specs.Train.{Train, train_message}
use Rattle.delivery.specs.Progress.{Phase, waiting, going, done, HoldingOf, Timely}
use Rattle.delivery.proofs.Progress.{same}
use Rattle.delivery.specs.ProgressReleased.{Stays, messages_of, ReleasedTrain}

-- whatever the call is
pub stays_closed : (interval : ℕ) (r : Receiver) (store : List ℕ) (c : Call) → taking r.progress.state ≡ false → Stays (step_of interval r store c)
stays_closed interval r store (receive a o) f =
    by_receive Stays interval r a store o (λ n e. (f, refl)) (λ A. never _ f A.takes) (f, refl) (λ A. never _ f A.takes)
stays_closed interval r store (advance now') f = by_advance Stays r store now' (λ n e. (f, refl)) (λ K b p e g. fired b p)
  where
    fired : (b p : Bool) → Stays (fires b p r store now')
    fired false p = (f, refl)
    fired true true = (refl, refl)
    fired true false = (f, refl)
stays_closed interval r store (cancel now') f = by_cancel Stays r store now' (λ n e. (f, refl)) (λ K s. (refl, refl))
stays_closed interval r store (release now') f = by_release Stays r store now' (λ n e. (f, refl)) (λ K s. (refl, refl))

-- nor does any list of calls open it, or hand anything over
pub stay_closed : (interval : ℕ) (w : Left) (cs : List Call) → taking w.receiver.progress.state ≡ false
    → (taking (after (step_of interval) w cs).receiver.progress.state ≡ false) × ((after (step_of interval) w cs).handed ≡ w.handed)
stay_closed interval w [] f = (f, refl)
stay_closed interval w (c ∷ cs) f =
    let st = step_of interval w.receiver w.store c in
    let s = stays_closed interval w.receiver w.store c f in
    let e = stay_closed interval (then (step_of interval) w c) cs s.0 in
    (e.0, e.1 ∙ ap (λ (m : Option ℕ). add_handed m st.output (add_accepted c st w.accepted) w.handed) s.1)

module _ (T : Train) (w : Left) (calls : List Call) (right : AllOfAccepted w.handed) (k : HoldingOf T w calls) where
  -- where every segment has come the message was handed over
  pub delivered_whole : AllHaveCome T.count T.segment calls → messages_of w ≡ T.message ∷ []
  delivered_whole c = go k.phase
    where
      go : Phase T w.receiver.progress.state w.accepted w.handed calls → messages_of w ≡ T.message ∷ []
      go (waiting e f g d) =
          let z : 0 < T.count = omega (arith, T.cutting.at_least) in
          never _ (k.seen 0 z (c 0 z)) (ap (λ (l : List WholeSegment). absent (find 0 l)) f)
      go (going e f j l g) = never _ (k.seen j l (c j l)) (ap absent g)
      go (done e f n m g) =
          ap (map (λ (h : HandOver). h.message)) g
          ∙ ap (λ (l : List ℕ). l ∷ []) (train_message T.cutting (record { count = n; message = m; accepted = w.accepted }) (subst AllOfAccepted g right).0 k.has)

  -- and where something was handed over every segment has come
  pub delivered_only : (h : HandOver) (hs : List HandOver) → w.handed ≡ h ∷ hs → AllHaveCome T.count T.segment calls
  delivered_only h hs q i l = go k.phase
    where
      go : Phase T w.receiver.progress.state w.accepted w.handed calls → HasCome (T.segment i) calls
      go (waiting e f g d) = absurd (nil≢cons (sym g ∙ q))
      go (going e f j b g) = absurd (nil≢cons (sym f ∙ q))
      go (done e f n m g) = let x = present (find i w.accepted) (f i l) in k.shown i x.0 x.1

-- what has come has come by a call more
come_more : (x : WholeSegment) (c : Call) (calls : List Call) → HasCome x calls → HasCome x (c ∷ calls)
come_more x (receive a out) calls h = inr h
come_more x (advance n) calls h = h
come_more x (cancel n) calls h = h
come_more x (release n) calls h = h

-- it stays so, whatever the call is
pub released_then : (T : Train) (w : Left) (calls : List Call) (c : Call) → ReleasedTrain T w calls → ReleasedTrain T (then (step_of T.interval) w c) (c ∷ calls)
released_then T w calls c z =
    let st = step_of T.interval w.receiver w.store c in
    let s = stays_closed T.interval w.receiver w.store c z.shut in
    record {
      shut = s.0;
      message_is =
          ap (λ (m : Option ℕ). map (λ (h : HandOver). h.message) (add_handed m st.output (add_accepted c st w.accepted) w.handed)) s.1
          ∙ z.message_is;
      come = λ i l. come_more (T.segment i) c calls (z.come i l);
    }

-- the number of a delivery is an octet
pub delivered_octet : (T : Train) (calls : List Call) (a : Arrival) (out : List ℕ) → DeliveryMeets T.interval T.terms T.made T.count T.segment calls a out → sequence a < 256
delivered_octet T calls a out m = omega (arith, m.brings.same_sequence, T.cutting.numbered m.index m.in_train, m.in_train, T.cutting.at_most)

module _ (T : Train) (w : Left) (calls : List Call) (now' : ℕ) (right : AllOfAccepted w.handed) (k : HoldingOf T w calls) (t : Timely T calls now') where
  abbrev Next : Step → Type 0
  Next st = HoldingOf T (taken w (release now') st) (release now' ∷ calls) ⊎ ReleasedTrain T (taken w (release now') st) (release now' ∷ calls)

  -- a release of a Complete receiver comes after the hand-over
  handed_before : Phase T w.receiver.progress.state w.accepted w.handed calls → complete w.receiver.progress.state ≡ true → AllHaveCome T.count T.segment calls
  handed_before (waiting e f g d) c = never _ (rw e) c
  handed_before (going e f j l g) c = never _ (rw e) c
  handed_before (done e f n m g) c = delivered_only T w calls right k (record { count = n; message = m; accepted = w.accepted }) [] g

  -- a release leaves all as it was, or a released receiver
  pub released : HoldingOf T (then (step_of T.interval) w (release now')) (release now' ∷ calls) ⊎ ReleasedTrain T (then (step_of T.interval) w (release now')) (release now' ∷ calls)
  released =
      by_release Next w.receiver w.store now'
      (λ n e.
      inl (same T w calls now' k (release now' ∷ calls) (record { taken_at = refl; delivered = refl; before = λ x c. c; after = λ x c. c })
      w.receiver.progress.last_monotonic_ms (omega (arith, k.read_by, t.never_falls))))
      (λ K c.
      let all = handed_before k.phase c in
      inr (record { shut = refl; message_is = delivered_whole T w calls right k all; come = all }))
