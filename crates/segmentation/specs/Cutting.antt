-- When segments are a true cutting of a message: what a planner gives, what the frozen check accepts, and what a receiver puts together again.
use Rattle.std.specs.Prelude.{ℕ, zero, suc, ◌≤◌, ◌<◌, ◌≡◌, Bool, true, false, not, ◌&&◌, List, [], ◌++◌, length}
use Rattle.tsar.specs.declared.SegmentKind.{SegmentKind}
use Rattle.tsar.specs.declared.SegmentKind.TheVariants as kind'
pub use Rattle.tsar.specs.Kinds.{is_begin, is_continue, is_end, services_or_default, compresses, selects_crc, has_crc, states_other}
use Rattle.tsar.specs.Layout.{WholeSegment}
use Rattle.tsar.specs.Writing.{length_in}

-- neither compression nor a CRC
abbrev pub plain_kind : SegmentKind → Bool
plain_kind (kind'.Begin n s) = not (compresses (services_or_default s).compression) && not (selects_crc (services_or_default s).crc_status)
plain_kind (kind'.Continue n) = true
plain_kind (kind'.End n c) = not (has_crc c)

-- the data of the first n segments, in order
unfoldable pub join_to : ℕ → (ℕ → List ℕ) → List ℕ
join_to zero f = []
join_to (suc n) f = join_to n f ++ f n

-- segments 0 to count - 1 are a cutting of the message: Begin, Continues, End, numbered in order under one transaction, with neither compression
-- nor CRC, each of at most 255 octets, every length that is stated the message's, and the data joined in order are the message
pub record Cutting (message : List ℕ) (transaction count : ℕ) (segment : ℕ → WholeSegment) : Type 0 where
  pub at_least : 2 ≤ count
  pub at_most : count ≤ 256
  pub numbered : (i : ℕ) → i < count → (segment i).sequence_number ≡ i
  pub one_transaction : (i : ℕ) → i < count → (segment i).transaction_id ≡ transaction
  pub begins : is_begin (segment 0).kind ≡ true
  pub continues : (i : ℕ) → 0 < i → suc i < count → is_continue (segment i).kind ≡ true
  pub ends : (i : ℕ) → suc i ≡ count → is_end (segment i).kind ≡ true
  pub plain : (i : ℕ) → i < count → plain_kind (segment i).kind ≡ true
  pub short : (i : ℕ) → i < count → length (segment i).segment_data ≤ 255
  pub states : (i : ℕ) → i < count → states_other (length_in (segment i).kind) (length message) ≡ false
  pub makes : join_to count (λ i. (segment i).segment_data) ≡ message
