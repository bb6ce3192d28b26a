-- A delivery of a segment that is not held yet: none of the slots' tests fails it; it is held, and with the last one the message is handed over.
use Rattle.std.specs.Prelude.{ℕ, suc, ◌+◌, ◌-◌, ◌*◌, ◌≤◌, ◌<◌, ◌≡◌, refl, ◌⊎◌, List, [], ◌∷◌, Bool, true, false, cond, not, ◌&&◌, ◌||◌, length, take, set, eqb, ltb, Option, Some, None}
use Rattle.std.proofs.Common.{sym, ap, ◌∙◌, subst, inl, inr, arith, eqb-true, le-ltb, ne_eqb}
use Rattle.std.proofs.Math.Bool.{and-false}
use Rattle.std.proofs.lemmas.List.Edits.{sets}
use Rattle.std.proofs.Math.Seq.{length-sets}
use Rattle.std.proofs.lemmas.Bool.{eqb-false}
use Rattle.words.specs.Marks.{marked, words_of}
use Rattle.words.specs.Search.{all_below_true, all_below_all, all_below_false}
use Rattle.tsar.specs.Layout.{WholeSegment}
use Rattle.tsar.specs.Kinds.{is_begin, is_continue, is_end, compresses, selects_crc, has_crc, states_other}
use Rattle.tsar.specs.Writing.{length_in, crc_in}
use Rattle.tsar.specs.declared.SegmentKind.{SegmentKind}
use Rattle.tsar.specs.declared.SegmentKind.TheVariants.{Begin, Continue, End}
use Rattle.receiver.specs.declared.ReceiverState.{ReceiverState}
use Rattle.receiver.specs.declared.ReceiverState.TheVariants.{Receiving, Complete}
use Rattle.receiver.specs.declared.Terms.{Terms}
use Rattle.receiver.specs.declared.Progress.{Progress}
use Rattle.receiver.specs.declared.Receiver.{Receiver}
use Rattle.receiver.specs.Record.{receiving, complete, past_end, other_end, clash, states_above, states_below, clear_past, full_with, is_held, slot_octets, sum_to, joined}
use Rattle.receiver.specs.Answers.{last_entry}
use Rattle.receiver.specs.Receive.{Arrival, sequence, kind, services_of, stated_of, end_of, keeps, finishes, settle}
use Rattle.delivery.specs.Calls.{Call, receive, HandOver, find, absent, brought}
use Rattle.delivery.specs.Delivery.{HasCome, Brings}
use Rattle.delivery.specs.Lists.{never, or_left, or_right, find_new, find_here, find_present, missing}
use Rattle.delivery.specs.Same.{no_clash, still_states, not_above, not_below}
use Rattle.delivery.specs.Train.{Train, last_of, OfTrain, octets_at, octets_grown, octets_below, octets_all, of_train_more, end_is_last, last_ends, no_continue_at_255, served, no_crc, states_length}
use Rattle.delivery.specs.Progress.{Phase, waiting, going, done, Holding}
use Rattle.delivery.specs.ProgressPasses.{Arrived, Next}
use Rattle.delivery.proofs.ProgressPasses.{number, number_small, brings_here, held_accepted, free_unaccepted, held_in}

-- two tests of which neither holds
neither : (a b : Bool) → a ≡ false → b ≡ false → (a || b) ≡ false
neither a b p q = rw (p, q)

-- the end with a segment: its number where it is an End, else the one there is
end_of_lem : (P : Option ℕ → Type 0) (old : Option ℕ) (k : SegmentKind) (q : ℕ) → (is_end k ≡ true → P (Some q)) → (is_end k ≡ false → P old) → P (end_of old k q)
end_of_lem P old (Begin n s) q new same = same refl
end_of_lem P old (Continue n) q new same = same refl
end_of_lem P old (End n c) q new same = new refl

-- what is not there among one more was not there
find_less : (x : WholeSegment) (acc : List WholeSegment) (s : ℕ) → find s (x ∷ acc) ≡ None → find s acc ≡ None
find_less x acc s f = go (eqb x.sequence_number s) refl f
  where
    go : (b : Bool) → eqb x.sequence_number s ≡ b → cond b (Some x) (find s acc) ≡ None → find s acc ≡ None
    go true e g = cc
    go false e g = g

module _ (T : Train) (C : Arrived T) (free : is_held C.w.receiver (sequence C.a) ≡ false) where
  abbrev r : Receiver
  r = C.w.receiver

  abbrev p : Progress
  p = C.w.receiver.progress

  abbrev a : Arrival
  a = C.a

  abbrev acc : List WholeSegment
  acc = C.w.accepted

  abbrev i : ℕ
  i = C.meets.index

  abbrev Here : Type 0
  Here = Phase T p.state acc C.w.handed C.calls

  -- the segment is one of the train
  in_train : i < T.count
  in_train = C.meets.in_train

  -- its number
  is_number : sequence a ≡ i
  is_number = number T C

  -- is an octet
  small : sequence a < 256
  small = number_small T C

  -- its kind is the segment's
  kind_is : kind a ≡ (T.segment i).kind
  kind_is = C.meets.brings.same_kind_lem

  -- none was accepted with its number
  unfound : find (sequence a) acc ≡ None
  unfound = free_unaccepted T C (sequence a) small free

  -- that is, with the segment's
  unfound_i : find i acc ≡ None
  unfound_i = ap (λ (n : ℕ). find n acc) (sym is_number) ∙ unfound

  -- ---- it fails none of the tests

  -- while it is not there not all are
  pub not_complete : complete p.state ≡ false
  not_complete = go C.holding.phase
    where
      go : Here → complete p.state ≡ false
      go (waiting e f g d) = rw e
      go (going e f j l g) = rw e
      go (done e f n m g) = never _ (f i in_train) (ap absent unfound_i)

  -- and nothing was handed over
  nothing_handed : C.w.handed ≡ []
  nothing_handed = go C.holding.phase
    where
      go : Here → C.w.handed ≡ []
      go (waiting e f g d) = g
      go (going e f j l g) = f
      go (done e f n m g) = never _ (f i in_train) (ap absent unfound_i)

  -- a Continue is not at 255
  pub not_at_255 : (is_continue (kind a) && eqb (sequence a) 255) ≡ false
  not_at_255 = go (is_continue (kind a)) refl
    where
      go : (b : Bool) → is_continue (kind a) ≡ b → (b && eqb (sequence a) 255) ≡ false
      go true e = ne_eqb (sequence a) 255 (λ z. no_continue_at_255 T.cutting i in_train (ap is_continue (sym kind_is) ∙ e) (sym is_number ∙ z))
      go false e = refl

  -- a Begin's services are served
  pub is_served : (is_begin (kind a) && (compresses (services_of p.services (kind a)).compression || selects_crc (services_of p.services (kind a)).crc_status)) ≡ false
  is_served =
      subst (λ (k : SegmentKind). (is_begin k && (compresses (services_of p.services k).compression || selects_crc (services_of p.services k).crc_status)) ≡ false)
      (sym kind_is) (served T.cutting i in_train p.services)

  -- an End has no CRC
  pub crc_absent : has_crc (crc_in (kind a)) ≡ false
  crc_absent = ap (λ (k : SegmentKind). has_crc (crc_in k)) kind_is ∙ no_crc T.cutting i in_train

  -- an End is the last
  is_last : is_end (kind a) ≡ true → suc i ≡ T.count
  is_last e = end_is_last T.cutting i in_train (ap is_end (sym kind_is) ∙ e)

  -- and nothing past it is held
  clear : is_end (kind a) ≡ true → clear_past r.held (sequence a) ≡ true
  clear e = all_below_all 256 (λ t. not (ltb (sequence a) t && marked r.held t)) (λ t h. go t h (marked r.held t) refl)
    where
      go : (t : ℕ) → t < 256 → (b : Bool) → marked r.held t ≡ b → not (ltb (sequence a) t && b) ≡ true
      go t h true q = rw (le-ltb (sequence a) t (omega (arith, is_number, is_last e, held_in T C t h q)))
      go t h false q = ap not (and-false (ltb (sequence a) t))

  -- nor was an End accepted yet
  last_unfound : is_end (kind a) ≡ true → find (last_of T) acc ≡ None
  last_unfound e =
      let z : i ≡ last_of T = omega (arith, is_last e) in
      ap (λ (n : ℕ). find n acc) (sym z) ∙ unfound_i

  -- so it is in its place
  pub end_in_place : (is_end (kind a) && (eqb (sequence a) 0 || other_end p.end_sequence (sequence a) || not (clear_past r.held (sequence a)))) ≡ false
  end_in_place = go (is_end (kind a)) refl
    where
      go : (b : Bool) → is_end (kind a) ≡ b → (b && (eqb (sequence a) 0 || other_end p.end_sequence (sequence a) || not (clear_past r.held (sequence a)))) ≡ false
      go true e =
          neither _ _
          (neither _ _ (ne_eqb (sequence a) 0 (λ z. omega (arith, is_number, is_last e, T.cutting.at_least)))
          (ap (λ (v : Option ℕ). other_end v (sequence a)) (C.holding.no_end (last_unfound e))))
          (ap not (clear e))
      go false e = refl

  -- an end that is known is the train's
  end_is : (p.end_sequence ≡ None) ⊎ (p.end_sequence ≡ Some (last_of T))
  end_is = go (find (last_of T) acc) refl
    where
      go : (o : Option WholeSegment) → find (last_of T) acc ≡ o → (p.end_sequence ≡ None) ⊎ (p.end_sequence ≡ Some (last_of T))
      go None e = inl (C.holding.no_end e)
      go (Some y) e = inr (C.holding.at_end (ap absent e))

  -- and the segment is not past it
  pub not_past : past_end p.end_sequence (sequence a) ≡ false
  not_past = go end_is
    where
      go : (p.end_sequence ≡ None) ⊎ (p.end_sequence ≡ Some (last_of T)) → past_end p.end_sequence (sequence a) ≡ false
      go (inl e) = ap (λ (v : Option ℕ). past_end v (sequence a)) e
      go (inr e) = ap (λ (v : Option ℕ). past_end v (sequence a)) e ∙ le-ltb (last_of T) (sequence a) (omega (arith, is_number, in_train))

  -- a length that it states is the message's
  states_here : states_other (length_in (kind a)) (length T.message) ≡ false
  states_here = ap (λ (k : SegmentKind). states_other (length_in k) (length T.message)) kind_is ∙ states_length T.cutting i in_train

  -- which clashes with none
  pub lengths_agree : clash p.message_length (length_in (kind a)) ≡ false
  lengths_agree = no_clash p.message_length (length_in (kind a)) (length T.message) C.holding.agrees states_here

  abbrev stated' : Option ℕ
  stated' = stated_of C.w.receiver.progress.message_length (length_in (kind C.a))

  -- the stated length with it is the message's
  still_agrees : states_other stated' (length T.message) ≡ false
  still_agrees = still_states p.message_length (length_in (kind a)) (length T.message) C.holding.agrees states_here

  -- ---- what is accepted with it

  abbrev acc' : List WholeSegment
  acc' = brought C.a ∷ C.w.accepted

  -- all of it is of the train
  has' : OfTrain T.count T.segment acc'
  has' = of_train_more T.count T.segment (brought a) acc i in_train is_number (brings_here T C) C.holding.has

  -- and the count is its octets
  counted' : p.stored_octets + length a.octets ≡ sum_to T.count (octets_at acc')
  counted' =
      ap (λ (n : ℕ). n + length a.octets) C.holding.counted ∙ sym (octets_grown T.count (brought a) acc i in_train is_number unfound_i)

  -- at most the message's
  enough : p.stored_octets + length a.octets ≤ length T.message
  enough = omega (arith, counted', octets_below T.cutting acc' has')

  -- they are within the maximum
  pub not_too_long : (states_above stated' r.terms.maximum_message_octets || ltb (r.terms.maximum_message_octets - p.stored_octets) (length a.octets)) ≡ false
  not_too_long =
      let m : r.terms.maximum_message_octets ≡ T.terms.maximum_message_octets = ap (λ (t : Terms). t.maximum_message_octets) C.holding.terms_are in
      let f = T.fits in
      let h = enough in
      neither _ _ (not_above stated' (length T.message) r.terms.maximum_message_octets still_agrees (omega arith))
      (le-ltb (r.terms.maximum_message_octets - p.stored_octets) (length a.octets) (omega arith))

  -- and within the stated length
  pub not_over : states_below stated' (p.stored_octets + length a.octets) ≡ false
  not_over = not_below stated' (length T.message) (p.stored_octets + length a.octets) still_agrees enough

  abbrev end' : Option ℕ
  end' = end_of C.w.receiver.progress.end_sequence (kind C.a) (sequence C.a)

  -- the end that is then known is the train's
  end_known : (e : ℕ) → end' ≡ Some e → suc e ≡ T.count
  end_known e =
      end_of_lem (λ v. v ≡ Some e → suc e ≡ T.count) p.end_sequence (kind a) (sequence a)
      (λ q z.
      let y : sequence a ≡ e = cc in
      omega (arith, is_number, is_last q))
      (λ q z. go z end_is)
    where
      go : p.end_sequence ≡ Some e → (p.end_sequence ≡ None) ⊎ (p.end_sequence ≡ Some (last_of T)) → suc e ≡ T.count
      go z (inl u) = absurd (let y : ◌≡◌ {A = ℕ} 0 1 = cc in omega arith)
      go z (inr u) = let y : last_of T ≡ e = cc in omega (arith, T.cutting.at_least)

  -- without the End no end is known
  no_end' : find (last_of T) acc' ≡ None → end' ≡ None
  no_end' f =
      end_of_lem (λ v. v ≡ None) p.end_sequence (kind a) (sequence a)
      (λ q.
      let z : sequence a ≡ last_of T = omega (arith, is_number, is_last q) in
      let y = find_here (brought a) acc (last_of T) z in
      absurd (let u : ◌≡◌ {A = ℕ} 0 1 = cc in omega arith))
      (λ q. C.holding.no_end (find_less (brought a) acc (last_of T) f))

  -- with it its number is
  at_end' : absent (find (last_of T) acc') ≡ false → end' ≡ Some (last_of T)
  at_end' f =
      end_of_lem (λ v. v ≡ Some (last_of T)) p.end_sequence (kind a) (sequence a)
      (λ q.
      let z : sequence a ≡ last_of T = omega (arith, is_number, is_last q) in
      ap Some z)
      (λ q. go q (eqb (sequence a) (last_of T)) refl f)
    where
      go : is_end (kind a) ≡ false → (b : Bool) → eqb (sequence a) (last_of T) ≡ b → absent (cond b (Some (brought a)) (find (last_of T) acc)) ≡ false → p.end_sequence ≡ Some (last_of T)
      go q true e g =
          let z : suc i ≡ T.count = omega (arith, is_number, eqb-true (sequence a) (last_of T) e, T.cutting.at_least) in
          never _ q (ap is_end kind_is ∙ last_ends T.cutting i z)
      go q false e g = C.holding.at_end g

  -- ---- whether all are there then

  -- a slot that counts as held is accepted
  fills : (t : ℕ) → t < 256 → (eqb t (sequence a) || marked r.held t) ≡ true → absent (find t acc') ≡ false
  fills t h = go (eqb t (sequence a)) refl
    where
      go : (b : Bool) → eqb t (sequence a) ≡ b → (b || marked r.held t) ≡ true → absent (find t acc') ≡ false
      go true q f = ap absent (find_here (brought a) acc t (sym (eqb-true t (sequence a) q)))
      go false q f = find_present (brought a) acc t (held_accepted T C t h f)

  -- one that does not is not
  leaves : (t : ℕ) → t < 256 → (eqb t (sequence a) || marked r.held t) ≡ false → find t acc' ≡ None
  leaves t h e =
      let q = or_left (eqb t (sequence a)) (marked r.held t) e in
      let f = or_right (eqb t (sequence a)) (marked r.held t) e in
      rw (ne_eqb (sequence a) t (λ z. eqb-false t (sequence a) q (sym z))) (free_unaccepted T C t h f)

  -- where the slots up to the end are full all are accepted
  full_all : (v : Option ℕ) → end' ≡ v → full_with r.held (sequence a) v ≡ true → (j : ℕ) → j < T.count → absent (find j acc') ≡ false
  full_all None q f j h = never false refl f
  full_all (Some e) q f j h =
      let l = end_known e q in
      fills j (omega (arith, T.cutting.at_most)) (all_below_true (suc e) (λ t. eqb t (sequence a) || marked r.held t) f j (omega arith))

  record Missing : Type 0 where
    at : ℕ
    in_it : at < T.count
    none_there : find at acc' ≡ None

  -- else one is missing
  not_full : (v : Option ℕ) → end' ≡ v → full_with r.held (sequence a) v ≡ false → Missing
  not_full None q f = record { at = last_of T; in_it = omega (arith, T.cutting.at_least); none_there = go (absent (find (last_of T) acc')) refl }
    where
      go : (b : Bool) → absent (find (last_of T) acc') ≡ b → find (last_of T) acc' ≡ None
      go true e = missing (find (last_of T) acc') e
      go false e = absurd (let u : ◌≡◌ {A = ℕ} 0 1 = cc (at_end' e) in omega arith)
  not_full (Some e) q f =
      let m = all_below_false (suc e) (λ t. eqb t (sequence a) || marked r.held t) f in
      let l = end_known e q in
      record { at = m.0; in_it = omega (arith, m.1); none_there = leaves m.0 (omega (arith, m.1, T.cutting.at_most)) m.2 }

  -- all of them have the message's octets
  full_count : full_with r.held (sequence a) end' ≡ true → p.stored_octets + length a.octets ≡ length T.message
  full_count f = counted' ∙ octets_all T.cutting acc' has' (full_all end' refl f)

  -- which is what is stated
  pub right_length : (full_with r.held (sequence a) end' && states_other stated' (p.stored_octets + length a.octets)) ≡ false
  right_length = go (full_with r.held (sequence a) end') refl
    where
      go : (b : Bool) → full_with r.held (sequence a) end' ≡ b → (b && states_other stated' (p.stored_octets + length a.octets)) ≡ false
      go true f = ap (states_other stated') (full_count f) ∙ still_agrees
      go false f = refl

  -- ---- what holds with it

  abbrev calls' : List Call
  calls' = receive C.a C.out ∷ C.calls

  abbrev store' : List ℕ
  store' = sets C.w.store (slot_octets * sequence C.a) C.a.octets

  -- what has come is accepted
  seen' : (s : ℕ) → s < T.count → HasCome (T.segment s) calls' → absent (find s acc') ≡ false
  seen' s h (inl b) = ap absent (find_here (brought a) acc s (b.same_sequence ∙ T.cutting.numbered s h))
  seen' s h (inr c) = find_present (brought a) acc s (C.holding.seen s h c)

  -- and what is accepted has come
  shown' : (s : ℕ) (y : WholeSegment) → find s acc' ≡ Some y → HasCome (T.segment s) calls'
  shown' s y f =
      find_new (λ z. Brings (T.segment s) a ⊎ HasCome (T.segment s) C.calls) (brought a) acc s y f
      (λ e. inl (subst (λ (n : ℕ). Brings (T.segment n) a) (sym is_number ∙ e) C.meets.brings))
      (λ g. inr (C.holding.shown s y g))

  -- the rest holds in the state and with the deadline that it leaves
  holding' : (state : ReceiverState) (d : Option ℕ) (handed : List HandOver) → (receiving state ≡ true → d ≡ Some (a.reading + T.interval)) → (receiving state ≡ false → d ≡ None)
      → Phase T state acc' handed calls'
      → Holding T r.terms state end' stated' (p.stored_octets + length a.octets) d a.reading store' acc' handed calls'
  holding' state d handed on off f = record {
    terms_are = C.holding.terms_are;
    read_by = omega arith;
    set_by = λ e. record { at = a.reading; delivered = refl; set = on e };
    off = off;
    room = omega (arith, C.holding.room, length-sets C.w.store (slot_octets * sequence a) a.octets);
    has = has';
    seen = seen';
    shown = shown';
    counted = counted';
    agrees = still_agrees;
    no_end = no_end';
    at_end = at_end';
    phase = f;
  }

  -- it is held, where one is still to come
  pub goes_on : full_with r.held (sequence a) end' ≡ false → Next T C (settle T.interval keeps r a C.w.store C.out)
  goes_on f =
      let m = not_full end' refl f in
      rw unfound (holding' Receiving (Some (a.reading + T.interval)) C.w.handed (λ e. refl) (λ e. never true e refl) (going refl nothing_handed m.at m.in_it m.none_there))

  -- the message that is handed over
  abbrev message' : List ℕ
  message' = joined (set C.w.receiver.lengths (sequence C.a) (length C.a.octets)) store' (suc (last_entry false (words_of (λ t. eqb t (sequence C.a) || marked C.w.receiver.held t)) end'))

  abbrev given' : List ℕ
  given' = take (length message') (sets C.out 0 message')

  -- it is handed over, where all are there
  pub hands_over : full_with r.held (sequence a) end' ≡ true → Next T C (settle T.interval finishes r a C.w.store C.out)
  hands_over f =
      rw unfound (holding' Complete None _ (λ e. never false refl e) (λ e. refl)
      (done refl (full_all end' refl f) (length message') given'
      (ap {B = List HandOver} (λ (l : List HandOver). record { count = length message'; message = given'; accepted = acc' } ∷ l) nothing_handed)))
