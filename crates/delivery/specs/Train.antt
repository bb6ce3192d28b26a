-- The segments of a train in the receiver's words: their kinds, services and lengths, and what the accepted ones among them add up to.
use Prim.Native.Nat.{ℕ, zero, suc, ◌+◌, ◌-◌, ◌≤◌, ◌<◌}
use Rattle.std.specs.Prelude.{◌≡◌, true, false, not, ◌&&◌, ◌||◌, length, Option, Some, None}
use Rattle.std.proofs.Math.Path.{refl, ap₂}
use Rattle.std.proofs.Common.{sym, ap, ◌∙◌, subst, arith, length-append, eq-eqb, ne_eqb}
use mathlib.Core.List.{List, ◌∷◌, ◌++◌}
use Rattle.std.proofs.Math.Decide.{ℕ_discrete}
use Rattle.tsar.specs.Rows.{refusal}
use Rattle.tsar.specs.Layout.{WholeSegment}
use Rattle.tsar.specs.Kinds.{is_begin, is_continue, is_end, compresses, selects_crc, has_crc, states_other}
use Rattle.tsar.specs.Writing.{codec_rows, length_in, crc_in}
use Rattle.tsar.specs.declared.Compression.{Compression}
use Rattle.tsar.specs.declared.Compression.TheVariants as compression
use Rattle.tsar.specs.declared.CrcStatus.{CrcStatus}
use Rattle.tsar.specs.declared.CrcStatus.TheVariants as status
use Rattle.tsar.specs.declared.OptionalServices.{OptionalServices}
use Rattle.tsar.specs.declared.MessageCrc.TheVariants as crc
use Rattle.tsar.specs.declared.Segment.{Segment}
use Rattle.tsar.specs.declared.SegmentKind.{SegmentKind}
use Rattle.tsar.specs.declared.SegmentKind.TheVariants.{Begin, Continue, End}
use Rattle.segmentation.specs.Cutting.{Cutting, join_to, plain_kind}
use Rattle.receiver.specs.declared.Terms.{Terms}
use Rattle.receiver.specs.Record.{sum_to}
use Rattle.receiver.specs.Receive.{services_of}
use Rattle.delivery.specs.Calls.{find, absent, data_of, data_to, HandOver, OfAccepted}
use Rattle.delivery.specs.Lists.{never, sum_to_same, sum_to_grown, sum_to_mono, find_new, present}

-- ---- kinds

-- a Begin is no End
begin_no_end : (k : SegmentKind) → is_begin k ≡ true → is_end k ≡ false
begin_no_end (Begin n s) e = refl
begin_no_end (Continue n) e = refl
begin_no_end (End n c) e = sym e

-- a Continue is no End
continue_no_end : (k : SegmentKind) → is_continue k ≡ true → is_end k ≡ false
continue_no_end (Begin n s) e = refl
continue_no_end (Continue n) e = refl
continue_no_end (End n c) e = sym e

-- an End is no Continue
end_no_continue : (k : SegmentKind) → is_end k ≡ true → is_continue k ≡ false
end_no_continue (Begin n s) e = refl
end_no_continue (Continue n) e = sym e
end_no_continue (End n c) e = refl

-- a plain Begin asks for services that are served
plain_served : (old : OptionalServices) (k : SegmentKind) → plain_kind k ≡ true
    → (is_begin k && (compresses (services_of old k).compression || selects_crc (services_of old k).crc_status)) ≡ false
plain_served old (Begin n None) e = refl
plain_served old (Begin n (Some s)) e = go s.compression s.crc_status e
  where
    go : (c : Compression) (d : CrcStatus) → (not (compresses c) && not (selects_crc d)) ≡ true → (compresses c || selects_crc d) ≡ false
    go compression.None status.None p = refl
    go compression.None status.Crc16 p = sym p
    go compression.None status.Crc24 p = sym p
    go compression.V42Bis d p = sym p
plain_served old (Continue n) e = refl
plain_served old (End n c) e = refl

-- a plain kind has no CRC
plain_no_crc : (k : SegmentKind) → plain_kind k ≡ true → has_crc (crc_in k) ≡ false
plain_no_crc (Begin n s) e = refl
plain_no_crc (Continue n) e = refl
plain_no_crc (End n None) e = refl
plain_no_crc (End n (Some (crc.Crc16 v))) e = sym e
plain_no_crc (End n (Some (crc.Crc24 v))) e = sym e

-- ---- the segments of a cutting

module _ {message : List ℕ} {transaction count : ℕ} {segment : ℕ → WholeSegment} (C : Cutting message transaction count segment) where
  -- segment 0 is the Begin
  pub first_begins : is_begin (segment 0).kind ≡ true
  first_begins = C.begins

  -- the last is an End
  pub last_ends : (i : ℕ) → suc i ≡ count → is_end (segment i).kind ≡ true
  last_ends i h = C.ends i h

  -- and no other
  pub end_is_last : (i : ℕ) → i < count → is_end (segment i).kind ≡ true → suc i ≡ count
  end_is_last i h e = go (ℕ_discrete (suc i) count) (ℕ_discrete i 0)
    where
      go : Dec (suc i ≡ count) → Dec (i ≡ 0) → suc i ≡ count
      go (yes p) d = p
      go (no p) (yes z) = never _ (begin_no_end (segment i).kind (rw z C.begins)) e
      go (no p) (no z) = never _ (continue_no_end (segment i).kind (C.continues i (omega arith) (omega arith))) e

  -- a Continue stands before the last, and so below 255
  pub no_continue_at_255 : (i : ℕ) → i < count → is_continue (segment i).kind ≡ true → i ≡ 255 → ⊥
  no_continue_at_255 i h c e = never _ (end_no_continue (segment i).kind (last_ends i (omega (arith, C.at_most)))) c

  -- what it asks for is served
  pub served : (i : ℕ) → i < count → (old : OptionalServices)
      → (is_begin (segment i).kind && (compresses (services_of old (segment i).kind).compression || selects_crc (services_of old (segment i).kind).crc_status)) ≡ false
  served i h old = plain_served old (segment i).kind (C.plain i h)

  -- and it has no CRC
  pub no_crc : (i : ℕ) → i < count → has_crc (crc_in (segment i).kind) ≡ false
  no_crc i h = plain_no_crc (segment i).kind (C.plain i h)

  -- a length that is stated is the message's
  pub states_length : (i : ℕ) → i < count → states_other (length_in (segment i).kind) (length message) ≡ false
  states_length i h = C.states i h

-- ---- accepted segments that are a train's

-- the accepted segment x is segment y
pub record Is (y x : WholeSegment) : Type 0 where
  pub same_kind_lem : x.kind ≡ y.kind
  pub same_data : x.segment_data ≡ y.segment_data

-- each accepted segment is the train's, by its number
abbrev pub OfTrain : ℕ → (ℕ → WholeSegment) → List WholeSegment → Type 0
OfTrain count segment acc = (s : ℕ) (x : WholeSegment) → find s acc ≡ Some x → (s < count) × Is (segment s) x

-- the octets of the accepted segment i
abbrev pub octets_at : List WholeSegment → ℕ → ℕ
octets_at acc i = length (data_of (find i acc))

-- the length of what is joined is the sum of the lengths
length_join : (n : ℕ) (f : ℕ → List ℕ) → length (join_to n f) ≡ sum_to n (λ i. length (f i))
unfolding join_to sum_to
length_join zero f = refl
length_join (suc n) f = length-append (join_to n f) (f n) ∙ ap (λ (k : ℕ). k + length (f n)) (length_join n f)

-- one more accepted segment adds its octets
pub octets_grown : (count : ℕ) (x : WholeSegment) (acc : List WholeSegment) (i : ℕ) → i < count → x.sequence_number ≡ i → find i acc ≡ None
    → sum_to count (octets_at (x ∷ acc)) ≡ sum_to count (octets_at acc) + length x.segment_data
octets_grown count x acc i h e f =
    sum_to_grown count i (length x.segment_data) (octets_at acc) (octets_at (x ∷ acc)) h
    (λ j l ne. rw (ne_eqb x.sequence_number j (λ q. ne (sym q ∙ e))))
    (rw (eq-eqb x.sequence_number i e, f) (omega arith))

module _ {message : List ℕ} {transaction count : ℕ} {segment : ℕ → WholeSegment} (C : Cutting message transaction count segment) where
  -- the train's octets are the message's
  all_octets : sum_to count (λ i. length (segment i).segment_data) ≡ length message
  all_octets = sym (length_join count (λ i. (segment i).segment_data)) ∙ ap length C.makes

  module _ (acc : List WholeSegment) (has : OfTrain count segment acc) where
    -- an accepted segment has the train's octets, one that is not there none
    octets_in : (i : ℕ) (o : Option WholeSegment) → find i acc ≡ o → length (data_of o) ≤ length (segment i).segment_data
    octets_in i None e = omega arith
    octets_in i (Some x) e = omega (arith, ap length (has i x e).1.same_data)

    -- accepted segments of a train have at most the message's octets
    pub octets_below : sum_to count (octets_at acc) ≤ length message
    octets_below = omega (arith, all_octets, sum_to_mono count (octets_at acc) (λ i. length (segment i).segment_data) (λ i h. octets_in i (find i acc) refl))

    module _ (all : (i : ℕ) → i < count → absent (find i acc) ≡ false) where
      -- each has its segment's data
      data_is : (i : ℕ) → i < count → data_of (find i acc) ≡ (segment i).segment_data
      data_is i h = let x = present (find i acc) (all i h) in ap data_of x.1 ∙ (has i x.0 x.1).1.same_data

      -- all of them have the message's octets
      pub octets_all : sum_to count (octets_at acc) ≡ length message
      octets_all = sum_to_same count (octets_at acc) (λ i. length (segment i).segment_data) (λ i h. ap length (data_is i h)) ∙ all_octets

      -- so the first n of them join to the same
      data_join : (n : ℕ) → n ≤ count → data_to acc n ≡ join_to n (λ i. (segment i).segment_data)
      unfolding data_to join_to
      data_join zero h = refl
      data_join (suc n) h = ap₂ {C = List ℕ} ◌++◌ (data_join n (omega arith)) (data_is n (omega arith))

      -- and joined they are the message
      pub data_all : data_to acc count ≡ message
      data_all = data_join count (omega arith) ∙ C.makes

  -- what is handed over from accepted segments of a train is its message: the end is that of the train's End, so all of them are there
  pub train_message : (h : HandOver) → OfAccepted h → OfTrain count segment h.accepted → h.message ≡ message
  train_message h R has =
      let b = has R.end R.last R.end_accepted in
      let e : suc R.end ≡ count = end_is_last C R.end b.0 (ap is_end (sym b.1.same_kind_lem) ∙ R.is_end_lem) in
      R.message_is ∙ ap (data_to h.accepted) e ∙ data_all h.accepted has (λ i l. R.all_accepted i (omega arith))

-- a receive that brings segment i of a train adds it
pub of_train_more : (count : ℕ) (segment : ℕ → WholeSegment) (x : WholeSegment) (acc : List WholeSegment) (i : ℕ) → i < count → x.sequence_number ≡ i
    → Is (segment i) x → OfTrain count segment acc → OfTrain count segment (x ∷ acc)
of_train_more count segment x acc i h e b has s y f =
    find_new (λ z. (s < count) × Is (segment s) z) x acc s y f
    (λ p. subst (λ (n : ℕ). (n < count) × Is (segment n) x) (sym e ∙ p) (h, b)) (has s y)

-- ---- a train and the receiver that it goes to

-- the head of a segment
abbrev pub head_of : WholeSegment → Segment
head_of x = record { transaction_id = x.transaction_id; sequence_number = x.sequence_number; kind = x.kind }

-- a train: try_new's terms and reading, and a true cutting under its transaction of a message within its maximum, that the codec takes under its version
pub record Train : Type 0 where
  pub interval : ℕ
  pub terms : Terms
  pub made : ℕ
  pub message : List ℕ
  pub count : ℕ
  pub segment : ℕ → WholeSegment
  pub cutting : Cutting message terms.transaction_id count segment
  pub codec : (i : ℕ) → i < count → refusal (codec_rows terms.version (head_of (segment i)) (length (segment i).segment_data)) ≡ None
  pub fits : length message ≤ terms.maximum_message_octets

-- the number of its End
abbrev pub last_of : Train → ℕ
last_of T = T.count - 1
