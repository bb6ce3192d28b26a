-- Document 02, 2026-06: what is shown of the converter, of the definition that its contract cites, `convert_of`. `convert_refusal` is what it answers
-- (Answered).
use Rattle.std.specs.Prelude.{ℕ, zero, suc, ◌+◌, ◌≤◌, ◌<◌, ◌≡◌, length, Option, Some, None}
use Rattle.tsar.specs.Rows.{Refusal}
use Rattle.tsar.specs.Layout.{type_of}
use Rattle.tsar.specs.Writing.{header_octets, length_in, crc_in}
use Rattle.segmentation.specs.Frozen.{Proposal, proposed, head_at, data_before, frozen_refusal, services_of, frozen_of, no_plan, try_from_frozen, frozen_segment_at}
use Rattle.segmentation.specs.Accepted.{with_heads}
use Rattle.dialect.specs.declared.Dialect.{Dialect}
use Rattle.dialect.specs.declared.Dialect.TheVariants.{BeginOnly, Every}
use Rattle.dialect.specs.Convert.{other_dialect, convert_refusal, convert_of, Conversion, converted_by}

-- ---- the dialects

-- what segment i of a train states in a dialect, the message having n octets
abbrev pub stated_at : Dialect → ℕ → ℕ → Option ℕ
stated_at d n zero = Some n
stated_at BeginOnly n (suc i) = None
stated_at Every n (suc i) = Some n

-- what segment i of a train that is proposed states
abbrev pub length_at : Proposal → ℕ → Option ℕ
length_at q i = length_in (head_at q.heads i).segment.kind

abbrev pub InDialect : Dialect → Proposal → Type 0
InDialect d q = (i : ℕ) → i < q.count → length_at q i ≡ stated_at d (length q.message) i

-- ---- what is converted

-- the plan that comes out, proposed again: the same message, joined data, budget, version and ceiling
abbrev pub again : Dialect → Proposal → Proposal
again d q = with_heads q (convert_of d q).plan.heads

-- it passes the frozen check, which gives that very plan
abbrev pub PassesCheck : Type 0
PassesCheck = (d : Dialect) (q : Proposal) → convert_refusal d q ≡ None → try_from_frozen (again d q) ≡ record { refused = None; plan = (convert_of d q).plan }

-- converting there and back gives the first train again: the plan that the frozen check gives of it
abbrev pub ThereAndBack : Type 0
ThereAndBack = (d : Dialect) (q : Proposal) → convert_refusal d q ≡ None → convert_of (other_dialect d) (again d q) ≡ record { refused = None; plan = frozen_of q }

-- segment i of the plan that comes out beside segment i of the train that was read
pub record KeptAt (d : Dialect) (q : Proposal) (i : ℕ) : Type 0 where
  pub same_transaction : (head_at (convert_of d q).plan.heads i).segment.transaction_id ≡ (head_at q.heads i).segment.transaction_id
  pub same_sequence : (head_at (convert_of d q).plan.heads i).segment.sequence_number ≡ (head_at q.heads i).segment.sequence_number
  pub same_type : type_of (head_at (convert_of d q).plan.heads i).segment.kind ≡ type_of (head_at q.heads i).segment.kind
  pub same_services_lem : services_of (head_at (convert_of d q).plan.heads i).segment.kind ≡ services_of (head_at q.heads i).segment.kind
  pub same_crc_lem : crc_in (head_at (convert_of d q).plan.heads i).segment.kind ≡ crc_in (head_at q.heads i).segment.kind
  pub same_octets : (head_at (convert_of d q).plan.heads i).segment_data_length ≡ (head_at q.heads i).segment_data_length
  pub same_data : (proposed (again d q) i).segment_data ≡ (proposed q i).segment_data
  pub same_place : frozen_segment_at (convert_of d q).plan i ≡ Some (record { head = head_at (convert_of d q).plan.heads i; offset = data_before q.heads i })

-- the plan keeps count, message, budget and window, and each segment all but the length that it states, which IntoOther says
pub record Keeps (d : Dialect) (q : Proposal) : Type 0 where
  pub same_count : (convert_of d q).plan.count ≡ q.count
  pub same_octets_of_message : (convert_of d q).plan.message_octets ≡ length q.message
  pub same_budget : (convert_of d q).plan.payload_budget_octets ≡ q.budget
  pub same_window : (convert_of d q).plan.acknowledgment_window ≡ (frozen_of q).acknowledgment_window
  pub each : (i : ℕ) → i < q.count → KeptAt d q i

abbrev pub KeepsAll : Type 0
KeepsAll = (d : Dialect) (q : Proposal) → convert_refusal d q ≡ None → Keeps d q

-- what is converted is in the dialect being read, and what comes out in the other
abbrev pub OnlyInDialect : Type 0
OnlyInDialect = (d : Dialect) (q : Proposal) → convert_refusal d q ≡ None → InDialect d q

abbrev pub IntoOther : Type 0
IntoOther = (d : Dialect) (q : Proposal) → convert_refusal d q ≡ None → InDialect (other_dialect d) (again d q)

-- ---- what is refused: CheckFirst, OtherPattern and OverBudget are all refusals, in order; WithinBudget and Never20 say that there is no other

-- the answer's refusal is the one that these speak of, and beside a refusal stands the plan of no segments
abbrev pub Answered : Type 0
Answered = (d : Dialect) (q : Proposal) → (convert_of d q).refused ≡ convert_refusal d q

abbrev pub RefusedPlan : Type 0
RefusedPlan = (d : Dialect) (q : Proposal) (r : Refusal) → convert_refusal d q ≡ Some r → convert_of d q ≡ record { refused = Some r; plan = no_plan }

-- the frozen check's refusals come first
abbrev pub CheckFirst : Type 0
CheckFirst = (d : Dialect) (q : Proposal) (r : Refusal) → frozen_refusal q ≡ Some r → convert_refusal d q ≡ Some r

-- then 26 for a train that isn't in the dialect being read
abbrev pub OtherPattern : Type 0
OtherPattern = (d : Dialect) (q : Proposal) → frozen_refusal q ≡ None → (InDialect d q → ⊥) → convert_refusal d q ≡ Some (26, 0)

-- a later segment with the two octets more that a stated length takes is longer than the budget
abbrev pub TooLong : Proposal → Type 0
TooLong q = (i : ℕ) × (0 < i) × (i < q.count) × (q.budget < header_octets (head_at q.heads i).segment.kind + 2 + (head_at q.heads i).segment_data_length)

-- then, where lengths are added, 20 for a segment that is too long; where no segment is, the train is converted
abbrev pub OverBudget : Type 0
OverBudget = (q : Proposal) → frozen_refusal q ≡ None → InDialect BeginOnly q → TooLong q → convert_refusal BeginOnly q ≡ Some (20, 0)

abbrev pub WithinBudget : Type 0
WithinBudget = (q : Proposal) → frozen_refusal q ≡ None → InDialect BeginOnly q → (TooLong q → ⊥) → convert_refusal BeginOnly q ≡ None

-- where lengths are taken away no segment is too long: the train is converted, and 20 is the check's alone
abbrev pub Never20 : Type 0
Never20 = (q : Proposal) → frozen_refusal q ≡ None → InDialect Every q → convert_refusal Every q ≡ None

abbrev pub Only20 : Type 0
Only20 = (q : Proposal) → convert_refusal Every q ≡ Some (20, 0) → frozen_refusal q ≡ Some (20, 0)

-- the same train under another budget
abbrev pub with_budget : Proposal → ℕ → Proposal
with_budget q budget =
    record {
      heads = q.heads;
      count = q.count;
      joined = q.joined;
      message = q.message;
      budget = budget;
      version = q.version;
      ceiling = q.ceiling;
    }

-- a budget of two octets more than one that the check accepts is enough, where the ceiling allows it
abbrev pub TwoEnough : Type 0
TwoEnough = (q : Proposal) (budget : ℕ) → frozen_refusal q ≡ None → InDialect BeginOnly q → q.budget + 2 ≤ budget → budget ≤ q.ceiling → convert_refusal BeginOnly (with_budget q budget) ≡ None

-- ---- which trains are refused with 26

-- those whose Begin states nothing, both ways, whatever the others state: none does, or all but Begin do
abbrev pub BeginUnstated : Type 0
BeginUnstated = (d : Dialect) (q : Proposal) → frozen_refusal q ≡ None → length_at q 0 ≡ None → convert_refusal d q ≡ Some (26, 0)

-- those in which one later segment states a length and another does not, both ways
abbrev pub Mixed : Type 0
Mixed = (d : Dialect) (q : Proposal) (i j m : ℕ) → frozen_refusal q ≡ None → 0 < i → i < q.count → length_at q i ≡ None → 0 < j → j < q.count → length_at q j ≡ Some m → convert_refusal d q ≡ Some (26, 0)

-- those that are in the other dialect already
abbrev pub Already : Type 0
Already = (d : Dialect) (q : Proposal) → frozen_refusal q ≡ None → InDialect (other_dialect d) q → convert_refusal d q ≡ Some (26, 0)

-- those of a message over 4,095 octets, both ways; so what is converted has at most 4,095
abbrev pub NeverLong : Type 0
NeverLong = (d : Dialect) (q : Proposal) → frozen_refusal q ≡ None → 4095 < length q.message → convert_refusal d q ≡ Some (26, 0)

abbrev pub ShortOnly : Type 0
ShortOnly = (d : Dialect) (q : Proposal) → convert_refusal d q ≡ None → length q.message ≤ 4095

-- ---- the contract leaves no answer open: two conversions that it takes for the same are the same

abbrev pub OneAnswer : Type 0
OneAnswer = (r s : Conversion) → converted_by r ≡ converted_by s → r ≡ s
