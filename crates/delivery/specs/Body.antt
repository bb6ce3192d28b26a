-- What an open receiver's body is, that is its marks, lengths, slots, end, stated length, count and store, against the segments accepted so far; and
-- that holding one more segment keeps it.
use Rattle.std.specs.Prelude.{ℕ, ◌+◌, ◌-◌, ◌*◌, ◌≤◌, ◌<◌, ◌≡◌, refl, ◌≢◌, ◌⊎◌, List, ◌∷◌, Bool, true, false, cond, not, ◌&&◌, length, get_or, set, eqb, ltb, Option, Some, None}
use Rattle.std.proofs.Common.{sym, ap, ap₂, ◌∙◌, subst, inl, inr, ⊎_elim, arith, get_or-set_same, get_or-set_other, ltb-false, eqb-true, lt-ltb}
use Rattle.std.proofs.lemmas.List.Edits.{sets}
use Rattle.std.proofs.lemmas.Bool.{eqb-false, not-true, not-false}
use Rattle.words.specs.Marks.{marked}
use Rattle.words.specs.Search.{all_below_true}
use Rattle.words.specs.declared.Words.{Words}
use Rattle.tsar.specs.Layout.{WholeSegment}
use Rattle.tsar.specs.Kinds.{is_end}
use Rattle.tsar.specs.Writing.{length_in}
use Rattle.tsar.specs.declared.SegmentKind.{SegmentKind}
use Rattle.tsar.specs.declared.SegmentKind.TheVariants.{Begin, Continue, End}
use Rattle.receiver.specs.declared.Slot.{Slot}
use Rattle.receiver.specs.declared.Receiver.{Receiver}
use Rattle.receiver.specs.Record.{no_slot, part, held_length, sum_to, clear_past, clash, past_end, states_above, states_below, slot_octets, store_octets}
use Rattle.receiver.specs.Receive.{Arrival, sequence, kind, stated_of, end_of}
use Rattle.delivery.specs.Calls.{find, absent, HoldsAt, total, brought}
use Rattle.delivery.specs.Lists.{part_other, part_same, sum_to_grown, and_rest, find_new, find_here, find_kept, never, holding, marked_here, marked_other}

-- slot s holds an accepted segment, or is empty where there is none: HoldsAt, of the fields that it reads
abbrev pub Holds : Words → List ℕ → List Slot → List ℕ → ℕ → Option WholeSegment → Type 0
Holds held lengths slots store s None = marked held s ≡ false
Holds held lengths slots store s (Some x) =
    (marked held s ≡ true) × ((get_or slots s no_slot).kind ≡ x.kind) × (get_or lengths s 0 ≡ length x.segment_data)
    × (part store s (length x.segment_data) ≡ x.segment_data)

-- number e is that of an accepted End
pub record Ending (e : ℕ) (acc : List WholeSegment) : Type 0 where
  pub last : WholeSegment
  pub found : find e acc ≡ Some last
  pub is_end_lem : is_end last.kind ≡ true

-- an accepted segment states n
pub record StatedBy (n : ℕ) (acc : List WholeSegment) : Type 0 where
  pub at : ℕ
  pub by : WholeSegment
  pub found : find at acc ≡ Some by
  pub states : length_in by.kind ≡ Some n

-- the body, under a maximum m, of a receiver that takes segments, acc being the segments accepted so far
pub record Body (m : ℕ) (held : Words) (lengths : List ℕ) (slots : List Slot) (end_sequence : Option ℕ) (stated : Option ℕ) (count : ℕ) (store : List ℕ) (acc : List WholeSegment) : Type 0 where
  -- each slot holds what was accepted for it
  pub holds : (s : ℕ) → s < 256 → Holds held lengths slots store s (find s acc)
  pub small : (s : ℕ) (x : WholeSegment) → find s acc ≡ Some x → length x.segment_data ≤ 255
  pub in_range : (s : ℕ) (x : WholeSegment) → find s acc ≡ Some x → s < 256
  -- the count is the octets accepted, those held, and at most the maximum
  pub counts : total acc ≡ count
  pub bounded : count ≤ m
  pub sums : sum_to 256 (held_length held lengths) ≡ count
  -- at a known end an End was accepted, and nothing is held past it
  pub ended : (e : ℕ) → end_sequence ≡ Some e → (e < 256) × Ending e acc
  pub within : (e : ℕ) → end_sequence ≡ Some e → (s : ℕ) → e < s → s < 256 → marked held s ≡ false
  -- the stated length is that of every accepted segment that states one, and of one at least; it is at most the maximum, and the count at most it
  pub stating : (s : ℕ) (x : WholeSegment) → find s acc ≡ Some x → (n : ℕ) → length_in x.kind ≡ Some n → stated ≡ Some n
  pub stated_by : (n : ℕ) → stated ≡ Some n → StatedBy n acc
  pub stated_fits : states_above stated m ≡ false
  pub not_passed : states_below stated count ≡ false

-- of a receiver, its store and the segments accepted so far
abbrev pub BodyOf : Receiver → List ℕ → List WholeSegment → Type 0
BodyOf r store acc =
    let p = r.progress in
    Body r.terms.maximum_message_octets r.held r.lengths r.slots p.end_sequence p.message_length p.stored_octets store acc

-- the definition that the demand uses says the same
pub holds_at : (r : Receiver) (store : List ℕ) (s : ℕ) (o : Option WholeSegment) → Holds r.held r.lengths r.slots store s o → HoldsAt r store s o
holds_at r store s None h = h
holds_at r store s (Some x) h = h

-- ---- a slot and what was accepted for it

module _ (held : Words) (lengths : List ℕ) (slots : List Slot) (store : List ℕ) (s : ℕ) where
  -- a held slot has an accepted segment
  pub held_found : (o : Option WholeSegment) → Holds held lengths slots store s o → marked held s ≡ true → absent o ≡ false
  held_found None h e = never _ h e
  held_found (Some x) h e = refl

  -- a slot that is not held has none
  pub free_absent : (o : Option WholeSegment) → Holds held lengths slots store s o → marked held s ≡ false → o ≡ None
  free_absent None h e = refl
  free_absent (Some x) h e = never _ e h.0

-- ---- the end and the stated length, with one more segment

-- the new end is that of an End, or the old one
pub end_cases : (old : Option ℕ) (k : SegmentKind) (q e : ℕ) → end_of old k q ≡ Some e → ((is_end k ≡ true) × (q ≡ e)) ⊎ (old ≡ Some e)
end_cases old (Begin n s) q e p = inr p
end_cases old (Continue n) q e p = inr p
end_cases old (End n c) q e p = inl (refl, cc)

-- the new stated length is the segment's, or the old one
stated_cases : (old new : Option ℕ) (n : ℕ) → stated_of old new ≡ Some n → (new ≡ Some n) ⊎ (old ≡ Some n)
stated_cases old None n p = inr p
stated_cases old (Some k) n p = inl p

-- a stated length stays, where the segment states no other
stated_keeps : (old new : Option ℕ) (n : ℕ) → old ≡ Some n → clash old new ≡ false → stated_of old new ≡ Some n
stated_keeps old None n p c = p
stated_keeps old (Some k) n p c = let e : n ≡ k = eqb-true n k (not-false _ (rw p at c)) in cc

-- the segment's own is taken
stated_new : (old new : Option ℕ) (n : ℕ) → new ≡ Some n → stated_of old new ≡ Some n
stated_new old None n p = cc
stated_new old (Some k) n p = p

-- ---- one more segment

module _ {m : ℕ} {held : Words} {lengths : List ℕ} {slots : List Slot} {end_sequence : Option ℕ} {stated : Option ℕ} {count : ℕ} {store : List ℕ} {acc : List WholeSegment}
    (B : Body m held lengths slots end_sequence stated count store acc) (a : Arrival)
    (long_lengths : length lengths ≡ 256) (long_slots : length slots ≡ 256) (room : store_octets ≤ length store) (seq : sequence a < 256)
    (short : length a.octets ≤ 255) (free : marked held (sequence a) ≡ false) (fits : length a.octets ≤ m - count)
    (clear : is_end (kind a) ≡ true → clear_past held (sequence a) ≡ true) (inside : past_end end_sequence (sequence a) ≡ false)
    (agrees : clash stated (length_in (kind a)) ≡ false) (not_above : states_above (stated_of stated (length_in (kind a))) m ≡ false)
    (not_below : states_below (stated_of stated (length_in (kind a))) (count + length a.octets) ≡ false) where
  abbrev q : ℕ
  q = sequence a

  abbrev held' : Words
  held' = holding held q

  abbrev lengths' : List ℕ
  lengths' = set lengths q (length a.octets)

  abbrev slots' : List Slot
  slots' = set slots q (record { kind = kind a })

  abbrev store' : List ℕ
  store' = sets store (slot_octets * q) a.octets

  abbrev end' : Option ℕ
  end' = end_of end_sequence (kind a) q

  abbrev stated' : Option ℕ
  stated' = stated_of stated (length_in (kind a))

  abbrev x' : WholeSegment
  x' = brought a

  -- nothing was accepted for the slot
  not_yet : find q acc ≡ None
  not_yet = free_absent held lengths slots store q (find q acc) (B.holds q seq) free

  -- the slot's kind is the segment's
  slot_here : get_or slots' q no_slot ≡ record { kind = kind a }
  slot_here = get_or-set_same slots q (record { kind = kind a }) no_slot (omega arith)

  -- the other slots' kinds are as they were
  slot_other : (s : ℕ) → s ≢ q → get_or slots' s no_slot ≡ get_or slots s no_slot
  slot_other s ne = get_or-set_other slots q s (record { kind = kind a }) no_slot ne

  -- the slot's length is that of the data
  length_here : get_or lengths' q 0 ≡ length a.octets
  length_here = get_or-set_same lengths q (length a.octets) 0 (omega arith)

  -- the other lengths are as they were
  length_other : (s : ℕ) → s ≢ q → get_or lengths' s 0 ≡ get_or lengths s 0
  length_other s ne = get_or-set_other lengths q s (length a.octets) 0 ne

  -- each slot holds what was accepted for it
  holds' : (s : ℕ) → s < 256 → Holds held' lengths' slots' store' s (find s (x' ∷ acc))
  holds' s h = go (eqb q s) refl
    where
      other : (ne : s ≢ q) (o : Option WholeSegment) → find s acc ≡ o → Holds held lengths slots store s o → Holds held' lengths' slots' store' s o
      other ne None f p = marked_other held q s h ne ∙ p
      other ne (Some y) f p = (
        marked_other held q s h ne ∙ p.0,
        ap (λ (l : Slot). l.kind) (slot_other s ne) ∙ p.1,
        length_other s ne ∙ p.2,
        part_other store a.octets q s (length y.segment_data) short (B.small s y f) ne ∙ p.3,
      )

      go : (b : Bool) → eqb q s ≡ b → Holds held' lengths' slots' store' s (cond b (Some x') (find s acc))
      go true e =
          subst (λ (t : ℕ). Holds held' lengths' slots' store' t (Some x')) (eqb-true q s e)
          (marked_here held q seq, ap (λ (l : Slot). l.kind) slot_here, length_here, part_same store a.octets q room seq short)
      go false e = other (λ p. eqb-false _ _ e (sym p)) (find s acc) refl (B.holds s h)

  -- at most 255 octets each
  small' : (s : ℕ) (y : WholeSegment) → find s (x' ∷ acc) ≡ Some y → length y.segment_data ≤ 255
  small' s y f = find_new (λ z. length z.segment_data ≤ 255) x' acc s y f (λ e. short) (B.small s y)

  -- numbers below 256
  in_range' : (s : ℕ) (y : WholeSegment) → find s (x' ∷ acc) ≡ Some y → s < 256
  in_range' s y f = find_new (λ z. s < 256) x' acc s y f (λ e. omega arith) (B.in_range s y)

  -- the count is the octets accepted
  counts' : total (x' ∷ acc) ≡ count + length a.octets
  unfolding total
  counts' = omega (arith, B.counts)

  -- at most the maximum
  bounded' : count + length a.octets ≤ m
  bounded' = omega (arith, B.bounded)

  -- and those held
  sums' : sum_to 256 (held_length held' lengths') ≡ count + length a.octets
  sums' =
      sum_to_grown 256 q (length a.octets) (held_length held lengths) (held_length held' lengths') seq
      (λ j l ne. ap₂ (λ (b : Bool) (n : ℕ). cond b n 0) (marked_other held q j l ne) (length_other j ne))
      (ap₂ (λ (b : Bool) (n : ℕ). cond b n 0) (marked_here held q seq) length_here ∙ rw free (omega arith))
      ∙ ap (λ (n : ℕ). n + length a.octets) B.sums

  -- at a known end an End was accepted
  ended' : (e : ℕ) → end' ≡ Some e → (e < 256) × Ending e (x' ∷ acc)
  ended' e p = ⊎_elim new old (end_cases end_sequence (kind a) q e p)
    where
      new : (is_end (kind a) ≡ true) × (q ≡ e) → (e < 256) × Ending e (x' ∷ acc)
      new h = (omega (arith, h.1), record { last = x'; found = find_here x' acc e h.1; is_end_lem = h.0 })

      old : end_sequence ≡ Some e → (e < 256) × Ending e (x' ∷ acc)
      old h =
          let o = B.ended e h in
          (o.0, record { last = o.1.last; found = find_kept x' acc e o.1.last not_yet o.1.found; is_end_lem = o.1.is_end_lem })

  -- nothing is held past it
  within' : (e : ℕ) → end' ≡ Some e → (s : ℕ) → e < s → s < 256 → marked held' s ≡ false
  within' e p s l h = ⊎_elim new old (end_cases end_sequence (kind a) q e p)
    where
      new : (is_end (kind a) ≡ true) × (q ≡ e) → marked held' s ≡ false
      new g =
          let past : (ltb q s && marked held s) ≡ false = not-true _ (all_below_true 256 (λ t. not (ltb q t && marked held t)) (clear g.0) s h) in
          marked_other held q s h (λ z. omega (arith, g.1)) ∙ and_rest _ _ past (lt-ltb q s (omega (arith, g.1)))

      old : end_sequence ≡ Some e → marked held' s ≡ false
      old g =
          let below = ltb-false e q (rw g at inside) in
          marked_other held q s h (λ z. omega arith) ∙ B.within e g s l h

  -- the stated length is every accepted segment's that states one
  stating' : (s : ℕ) (y : WholeSegment) → find s (x' ∷ acc) ≡ Some y → (n : ℕ) → length_in y.kind ≡ Some n → stated' ≡ Some n
  stating' s y f n =
      find_new (λ z. length_in z.kind ≡ Some n → stated' ≡ Some n) x' acc s y f (λ e p. stated_new stated (length_in (kind a)) n p)
      (λ g p. stated_keeps stated (length_in (kind a)) n (B.stating s y g n p) agrees)

  -- and one's at least
  stated_by' : (n : ℕ) → stated' ≡ Some n → StatedBy n (x' ∷ acc)
  stated_by' n p = ⊎_elim new old (stated_cases stated (length_in (kind a)) n p)
    where
      new : length_in (kind a) ≡ Some n → StatedBy n (x' ∷ acc)
      new h = record { at = q; by = x'; found = find_here x' acc q refl; states = h }

      old : stated ≡ Some n → StatedBy n (x' ∷ acc)
      old h =
          let o = B.stated_by n h in
          record { at = o.at; by = o.by; found = find_kept x' acc o.at o.by not_yet o.found; states = o.states }

  -- holding one more segment keeps the body
  pub body' : Body m held' lengths' slots' end' stated' (count + length a.octets) store' (x' ∷ acc)
  body' = record {
    holds = holds';
    small = small';
    in_range = in_range';
    counts = counts';
    bounded = bounded';
    sums = sums';
    ended = ended';
    within = within';
    stating = stating';
    stated_by = stated_by';
    stated_fits = not_above;
    not_passed = not_below;
  }
