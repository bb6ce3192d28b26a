-- Demand 3 holds of the receiver, for any interval and so for that of each profile, and none of its calls is refused with 62.
use Rattle.std.specs.Prelude.{ℕ, ◌≤◌, ◌<◌, ◌≡◌, refl, ◌⊎◌, length, take, drop, Option, Some, None}
use Rattle.std.proofs.Common.{sym, ap, ◌∙◌, subst, inl, inr, arith, length-drop, length-take-le}
use mathlib.Core.List.{List, [], ◌∷◌, ◌++◌, map, nil≢cons, cons≢nil, head-eq_of_cons-eq, tail-eq_of_cons-eq}
use Rattle.segmentation.specs.declared.PlannedPart.{PlannedPart}
use Rattle.link.specs.Profile.{receiver_interval}
use Rattle.tsar.specs.Rows.{refusal}
use Rattle.tsar.specs.Layout.{WholeSegment}
use Rattle.tsar.specs.Writing.{codec_rows}
use Rattle.link.specs.declared.HigherLayerProtocol.TheVariants.{Segmented}
use Rattle.tsar.specs.declared.AcknowledgmentWindow.{AcknowledgmentWindow}
use Rattle.segmentation.specs.Plan.{segmented, planned_whole, planned_head, part_start, part_length}
use Rattle.segmentation.specs.Joined.{cutting_cong}
use Rattle.segmentation.specs.Planned.{Spread, full, even, planning}
use Rattle.segmentation.proofs.Planned.{plan_segment, plan_range, plan_codec, plan_cutting}
use Rattle.segmentation.specs.declared.SegmentedMessage.{SegmentedMessage}
use Rattle.receiver.specs.declared.Terms.{Terms}
use Rattle.receiver.specs.declared.Receiver.{Receiver}
use Rattle.receiver.specs.Record.{store_octets}
use Rattle.receiver.specs.Answers.{Step}
use Rattle.receiver.specs.Advance.{try_new_of}
use Rattle.delivery.specs.Calls.{Call, receive, advance, cancel, release, Left, HandOver, start, after, then, step_of, ours, carried, add_accepted, add_handed, AllOfAccepted}
use Rattle.delivery.specs.Delivery.{HasCome, AllHaveCome, DeliveryConditions, HandsOver, HandsOverExactly}
use Rattle.delivery.specs.Demand.{Demand3, SecondHalf, NoneRefusedWith62, step_after, given_segment, train_of, frozen_train_of, TrainFor, planned, evenly, frozen}
use Rattle.tsar.specs.Layout.{whole}
use Rattle.segmentation.specs.Cutting.{Cutting}
use Rattle.segmentation.specs.Frozen.{Proposal, proposed, head_at, data_before, frozen_refusal, frozen_of}
use Rattle.segmentation.specs.Accepted.{Acceptable, frozen_acceptable, joined_message, cut_within, frozen_segment}
use Rattle.delivery.specs.Invariant.{made_is, start_inv, after_the_list}
use Rattle.delivery.specs.Possible.{start_ready, after_both, profile_known, possible, never_62}
use Rattle.delivery.specs.Own.{own_first_half, one_interval_step, made_interval}
use Rattle.delivery.specs.Train.{Train, head_of}
use Rattle.delivery.specs.Progress.{HoldingOf}
use Rattle.delivery.proofs.Progress.{holding_start}
use Rattle.delivery.specs.ProgressAll.{Known, Delivered, latest_first}
use Rattle.delivery.proofs.ProgressAll.{after_append, train_delivered}

-- ---- what has come does not depend on the calls' order

-- to the latest first
come_first : (x : WholeSegment) (before cs : List Call) → HasCome x before ⊎ HasCome x cs → HasCome x (latest_first before cs)
come_first x before [] (inl h) = h
come_first x before [] (inr h) = absurd h
come_first x before (receive a out ∷ cs) (inl h) = come_first x (receive a out ∷ before) cs (inl (inr h))
come_first x before (receive a out ∷ cs) (inr (inl b)) = come_first x (receive a out ∷ before) cs (inl (inl b))
come_first x before (receive a out ∷ cs) (inr (inr h)) = come_first x (receive a out ∷ before) cs (inr h)
come_first x before (advance n ∷ cs) (inl h) = come_first x (advance n ∷ before) cs (inl h)
come_first x before (advance n ∷ cs) (inr h) = come_first x (advance n ∷ before) cs (inr h)
come_first x before (cancel n ∷ cs) (inl h) = come_first x (cancel n ∷ before) cs (inl h)
come_first x before (cancel n ∷ cs) (inr h) = come_first x (cancel n ∷ before) cs (inr h)
come_first x before (release n ∷ cs) (inl h) = come_first x (release n ∷ before) cs (inl h)
come_first x before (release n ∷ cs) (inr h) = come_first x (release n ∷ before) cs (inr h)

-- and back
first_come : (x : WholeSegment) (before cs : List Call) → HasCome x (latest_first before cs) → HasCome x before ⊎ HasCome x cs
first_come x before [] h = inl h
first_come x before (receive a out ∷ cs) h = go (first_come x (receive a out ∷ before) cs h)
  where
    go : HasCome x (receive a out ∷ before) ⊎ HasCome x cs → HasCome x before ⊎ HasCome x (receive a out ∷ cs)
    go (inl (inl b)) = inr (inl b)
    go (inl (inr k)) = inl k
    go (inr k) = inr (inr k)
first_come x before (advance n ∷ cs) h = first_come x (advance n ∷ before) cs h
first_come x before (cancel n ∷ cs) h = first_come x (cancel n ∷ before) cs h
first_come x before (release n ∷ cs) h = first_come x (release n ∷ before) cs h

module _ (count : ℕ) (segment : ℕ → WholeSegment) where
  -- every segment, to the latest first
  to_latest : (cs : List Call) → AllHaveCome count segment cs → AllHaveCome count segment (latest_first [] cs)
  to_latest cs f i h = come_first (segment i) [] cs (inr (f i h))

  -- and back
  from_latest : (cs : List Call) → AllHaveCome count segment (latest_first [] cs) → AllHaveCome count segment cs
  from_latest cs f i h = go (first_come (segment i) [] cs (f i h))
    where
      go : ⊥ ⊎ HasCome (segment i) cs → HasCome (segment i) cs
      go (inl b) = absurd b
      go (inr k) = k

-- ---- one call, from what was handed over before it and after it

abbrev messages : List HandOver → List (List ℕ)
messages hs = map (λ (h : HandOver). h.message) hs

-- a call after which the message alone was handed over, and nothing before it, hands it over
told : (message : List ℕ) (m : Option ℕ) (out : List ℕ) (acc : List WholeSegment) (hs : List HandOver) → hs ≡ [] → messages (add_handed m out acc hs) ≡ message ∷ []
    → AllOfAccepted (add_handed m out acc hs) → (m ≡ Some (length message)) × (take (length message) out ≡ message)
told message None out acc hs e f R = absurd (nil≢cons (ap messages (sym e) ∙ f))
told message (Some n) out acc hs e f R =
    let g : take n out ≡ message = head-eq_of_cons-eq f in
    let q : n ≡ length message = sym R.0.long_as_counted ∙ ap length g in
    (ap {B = Option ℕ} Some q, subst (λ (k : ℕ). take k out ≡ message) q g)

module _ (T : Train) (w : Left) (cs : List Call) (c : Call) (before : Delivered T w (latest_first [] cs))
    (with_it : Delivered T (then (step_of T.interval) w c) (latest_first [] (cs ++ (c ∷ [])))) where
  abbrev All : List Call → Type 0
  All ds = AllHaveCome T.count T.segment ds

  abbrev st : Step
  st = step_after (step_of T.interval) w c

  abbrev acc : List WholeSegment
  acc = add_accepted c (step_after (step_of T.interval) w c) w.accepted

  -- before every segment has come nothing was handed over
  nothing_yet : (hs : List HandOver) → w.handed ≡ hs → (All cs → ⊥) → w.handed ≡ []
  nothing_yet [] e n = e
  nothing_yet (h ∷ hs) e n = absurd (n (from_latest T.count T.segment cs (before.only h hs e)))

  -- with the last it is the message
  hands : All (cs ++ (c ∷ [])) → (All cs → ⊥) → HandsOver st T.message
  hands all not_before =
      told T.message (carried st.answer) st.output acc w.handed (nothing_yet w.handed refl not_before)
      (with_it.whole (to_latest T.count T.segment (cs ++ (c ∷ [])) all)) with_it.right

  -- it hands over exactly when it is the first by which every segment has come
  exactly : HandsOverExactly T.count T.segment T.message cs c st
  exactly = record {
    when = hands;
    only_when = λ n e.
        let p : add_handed (carried st.answer) st.output acc w.handed ≡ record { count = n; message = take n st.output; accepted = acc } ∷ w.handed = ap (λ (m : Option ℕ). add_handed m st.output acc w.handed) e in
        let all = with_it.only _ _ p in
        let f : messages (record { count = n; message = take n st.output; accepted = acc } ∷ w.handed) ≡ T.message ∷ [] = ap messages (sym p) ∙ with_it.whole all in
        let not_before : All cs → ⊥ = λ b. cons≢nil (sym (before.whole (to_latest T.count T.segment cs b)) ∙ tail-eq_of_cons-eq f) in
        let all' = from_latest T.count T.segment (cs ++ (c ∷ [])) all in
        (all', not_before, hands all' not_before);
  }

-- ---- the train of a plan, of either planner

module _ (interval : ℕ) (t : Terms) (made : ℕ) (x : Spread) (message : List ℕ) (budget ceiling : ℕ) (w : AcknowledgmentWindow) (p : SegmentedMessage)
    (ok : planning x (length message) budget t.transaction_id w t.version ceiling ≡ segmented p) (fits : length message ≤ t.maximum_message_octets) where
  -- segment i of the public call is the plan's
  given : (i : ℕ) → i < p.count → planned_whole p message i ≡ train_of p message i
  given i h = ap (λ (s : Option PlannedPart). given_segment s message) (sym (plan_segment x (length message) budget t.transaction_id w t.version ceiling p ok i h))

  -- its data are as long as its head says
  planned_length : (i : ℕ) → i < p.count → length (take (part_length p i) (drop (part_start p i) message)) ≡ part_length p i
  planned_length i h =
      length-take-le (part_length p i) (drop (part_start p i) message)
      (rw length-drop (omega (arith, plan_range x (length message) budget t.transaction_id w t.version ceiling p ok i h)))

  -- the codec takes it
  codec_takes : (i : ℕ) → i < p.count → refusal (codec_rows t.version (head_of (train_of p message i)) (length (train_of p message i).segment_data)) ≡ None
  codec_takes i h =
      subst (λ (s : WholeSegment). refusal (codec_rows t.version (head_of s) (length s.segment_data)) ≡ None) (given i h)
      (subst (λ (n : ℕ). refusal (codec_rows t.version (planned_head p i).segment n) ≡ None) (sym (planned_length i h))
      (plan_codec x (length message) budget t.transaction_id w t.version ceiling p ok i))

  -- so they are a train
  abbrev plan_train : Train
  plan_train = record {
    interval = interval;
    terms = t;
    made = made;
    message = message;
    count = p.count;
    segment = train_of p message;
    cutting = cutting_cong (train_of p message) given (plan_cutting x (length message) budget t.transaction_id w t.version ceiling p ok message refl);
    codec = codec_takes;
    fits = fits;
  }

-- ---- the train of a frozen plan

module _ (interval : ℕ) (t : Terms) (made : ℕ) (q : Proposal) (same_transaction : (head_at q.heads 0).segment.transaction_id ≡ t.transaction_id) (same_version : q.version ≡ t.version)
    (ok : frozen_refusal q ≡ None) (within : length q.message ≤ t.maximum_message_octets) where
  abbrev ok_all : Acceptable q
  ok_all = frozen_acceptable q ok

  -- segment i of the public call is the proposed one
  frozen_given : (i : ℕ) → i < q.count → proposed q i ≡ frozen_train_of (frozen_of q) q.message i
  frozen_given i h =
      ap (λ (l : List ℕ). whole (head_at q.heads i).segment (take (head_at q.heads i).segment_data_length (drop (data_before q.heads i) l))) (joined_message q ok_all.sums ok_all.cutting)
      ∙ ap (λ (s : Option PlannedPart). given_segment s q.message) (sym (frozen_segment q ok i h))

  -- its data are as long as its head says
  frozen_length : (i : ℕ) → i < q.count → length (proposed q i).segment_data ≡ (head_at q.heads i).segment_data_length
  frozen_length i h =
      length-take-le (head_at q.heads i).segment_data_length (drop (data_before q.heads i) q.joined)
      (rw length-drop (omega (arith, cut_within q ok_all.sums ok_all.cutting i h, ap length (joined_message q ok_all.sums ok_all.cutting))))

  frozen_codec : (i : ℕ) → i < q.count → refusal (codec_rows t.version (head_of (frozen_train_of (frozen_of q) q.message i)) (length (frozen_train_of (frozen_of q) q.message i).segment_data)) ≡ None
  frozen_codec i h =
      subst (λ (x : WholeSegment). refusal (codec_rows t.version (head_of x) (length x.segment_data)) ≡ None) (frozen_given i h)
      (subst (λ (n : ℕ). refusal (codec_rows t.version (head_at q.heads i).segment n) ≡ None) (sym (frozen_length i h))
      (subst (λ (v : ℕ). refusal (codec_rows v (head_at q.heads i).segment (head_at q.heads i).segment_data_length) ≡ None) same_version (ok_all.codec i h)))

  abbrev frozen_train : Train
  frozen_train = record {
    interval = interval;
    terms = t;
    made = made;
    message = q.message;
    count = q.count;
    segment = frozen_train_of (frozen_of q) q.message;
    cutting = subst (λ (n : ℕ). Cutting q.message n q.count (frozen_train_of (frozen_of q) q.message)) same_transaction
        (cutting_cong (frozen_train_of (frozen_of q) q.message) frozen_given ok_all.cutting);
    codec = frozen_codec;
    fits = within;
  }

-- ---- the theorem

-- the conditions hold of the first calls of a list
conditions_front : (interval : ℕ) (t : Terms) (made count : ℕ) (segment : ℕ → WholeSegment) (before cs ds : List Call)
    → DeliveryConditions interval t made count segment before (cs ++ ds) → DeliveryConditions interval t made count segment before cs
conditions_front interval t made count segment before [] ds D = tt
conditions_front interval t made count segment before (c ∷ cs) ds D = (D.0, conditions_front interval t made count segment (c ∷ before) cs ds D.1)

-- what is known of every list of calls on a receiver that try_new gave
known : (T : Train) → (try_new_of T.terms T.made).refused ≡ None → (store : List ℕ) → Known T (start (try_new_of T.terms T.made).receiver store)
known T e store =
    let w₀ = start (try_new_of T.terms T.made).receiver store in
    record {
      listed = after_the_list T.interval T.terms T.made e store;
      possible = λ cs f.
          let b = after_both T.interval T.terms w₀ cs f (start_inv T.terms T.made e store) (start_ready T.terms T.made e) in
          possible T.terms (after (step_of T.interval) w₀ cs) b.0 b.1 (profile_known T.terms T.made e);
    }

-- for every train, plan_message's or another
pub train_exactly : (T : Train) → (try_new_of T.terms T.made).refused ≡ None → (store : List ℕ) → store_octets ≤ length store → (cs : List Call) (c : Call)
    → DeliveryConditions T.interval T.terms T.made T.count T.segment [] (cs ++ (c ∷ []))
    → HandsOverExactly T.count T.segment T.message cs c (step_after (step_of T.interval) (after (step_of T.interval) (start (try_new_of T.terms T.made).receiver store) cs) c)
train_exactly T e store room cs c D =
    let w₀ = start (try_new_of T.terms T.made).receiver store in
    let k : HoldingOf T w₀ [] = subst (λ (r : Receiver). HoldingOf T (start r store) []) (sym (made_is T.terms T.made e)) (holding_start T store room) in
    exactly T (after (step_of T.interval) w₀ cs) cs c
    (train_delivered T w₀ (known T e store) k cs (conditions_front T.interval T.terms T.made T.count T.segment [] cs (c ∷ []) D))
    (subst (λ (v : Left). Delivered T v (latest_first [] (cs ++ (c ∷ [])))) (after_append (step_of T.interval) w₀ cs (c ∷ [])) (train_delivered T w₀ (known T e store) k (cs ++ (c ∷ [])) D))

-- of every train that is given
given_exactly : (interval : ℕ) (t : Terms) (made : ℕ) → (try_new_of t made).refused ≡ None → (store message : List ℕ) (count : ℕ) (segment : ℕ → WholeSegment)
    → TrainFor t.transaction_id t.version message count segment → length message ≤ t.maximum_message_octets → store_octets ≤ length store → (cs : List Call) (c : Call)
    → DeliveryConditions interval t made count segment [] (cs ++ (c ∷ []))
    → HandsOverExactly count segment message cs c (step_after (step_of interval) (after (step_of interval) (start (try_new_of t made).receiver store) cs) c)
given_exactly interval t made e store message _ _ (planned budget ceiling w p ok) fits room cs c D =
    train_exactly (plan_train interval t made full message budget ceiling w p ok fits) e store room cs c D
given_exactly interval t made e store message _ _ (evenly budget ceiling w p ok) fits room cs c D =
    train_exactly (plan_train interval t made even message budget ceiling w p ok fits) e store room cs c D
given_exactly interval t made e store message _ _ (frozen heads count joined budget ceiling same ok) fits room cs c D =
    train_exactly (frozen_train interval t made (record { heads = heads; count = count; joined = joined; message = message; budget = budget; version = t.version; ceiling = ceiling }) same refl ok fits) e store room cs c D

-- each is a true cutting of its message: that of some terms that hold it
pub given_cutting : (transaction version : ℕ) (message : List ℕ) (count : ℕ) (segment : ℕ → WholeSegment) → TrainFor transaction version message count segment → Cutting message transaction count segment
given_cutting transaction version message _ _ T = go T
  where
    terms : Terms
    terms =
        record {
          peer = record { kind = 0; width = 0; value = 0 };
          protocol = Segmented 0;
          transaction_id = transaction;
          version = version;
          profile = 1;
          maximum_message_octets = length message;
        }

    go : {count : ℕ} {segment : ℕ → WholeSegment} → TrainFor transaction version message count segment → Cutting message transaction count segment
    go (planned budget ceiling w p ok) = (plan_train 0 terms 0 full message budget ceiling w p ok (omega arith)).cutting
    go (evenly budget ceiling w p ok) = (plan_train 0 terms 0 even message budget ceiling w p ok (omega arith)).cutting
    go (frozen heads count joined budget ceiling same ok) =
        (frozen_train 0 terms 0 (record { heads = heads; count = count; joined = joined; message = message; budget = budget; version = version; ceiling = ceiling }) same refl ok (omega arith)).cutting

-- a receiver with one interval for all its calls meets demand 3, whatever that is
pub demand3_at : (interval : ℕ) → Demand3 (λ t. interval) try_new_of (step_of interval)
demand3_at interval = record {
  first_half = after_the_list interval;
  second_half = given_exactly interval;
}

-- ours, at the interval of the terms that try_new is given
second : SecondHalf (λ t. receiver_interval t.profile) try_new_of ours
second t made e store message count segment given fits room cs c D =
    let n = receiver_interval t.profile in
    subst (λ (st : Step). HandsOverExactly count segment message cs c st)
    (sym (one_interval_step n (start (try_new_of t made).receiver store) cs c (made_interval t made e)))
    ((demand3_at n).second_half t made e store message count segment given fits room cs c D)

-- the receiver meets demand 3, with its profile's interval in the delivery conditions
pub demand3 : Demand3 (λ t. receiver_interval t.profile) try_new_of ours
demand3 = record { first_half = own_first_half; second_half = second }

-- and none of its calls is refused with 62
pub none_refused_with_62_at : (interval : ℕ) → NoneRefusedWith62 try_new_of (step_of interval)
none_refused_with_62_at = never_62

pub none_refused_with_62 : NoneRefusedWith62 try_new_of ours
none_refused_with_62 t made e store cs h c f =
    let n = receiver_interval t.profile in
    never_62 n t made e store cs h c
    (ap (λ (st : Step). st.answer) (sym (one_interval_step n (start (try_new_of t made).receiver store) cs c (made_interval t made e))) ∙ f)
