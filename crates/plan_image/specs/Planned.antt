-- The layout of the record of a planner, 43 octets: message octets, budget, transaction, window, then a row: Begin's octets, later
-- capacity, count, and whether Begin states the length. Assumes nothing.
use Rattle.std.specs.Prelude.{◌≡◌, refl, List, [], ◌∷◌, ◌++◌, ℕ, ◌+◌, ◌<◌, eqb, length, get_or, drop}
use Rattle.std.proofs.Common.{sym, ap, ◌∙◌, drop-drop, get_or-drop}
use Rattle.std.proofs.lemmas.List.Edits.{sets}
use Rattle.tsar.specs.Layout.{window_number}
use Rattle.segmentation.specs.declared.SegmentedMessage.{SegmentedMessage}
use Rattle.image.specs.Spelling.{Layout, spell_octet, read_octet, AnyOctet, octet_layout, spell_both, read_both, both_layout, as_layout, put_next}
use Rattle.image.specs.Numbers.{spell, number_of, number_layout}
use Rattle.image.specs.Cases.{flag_of, flag_back, window_of, window_back}
use Rattle.plan_image.specs.declared.Row.{Row}
use Rattle.plan_image.specs.Row.{row_image, row_of, RowFits, row_layout}

abbrev pub capacities : SegmentedMessage → Row
capacities p = record { first = p.begin_octets; second = p.later_capacity; third = p.count; octet = flag_of p.states_length }

unfoldable pub planned_image : SegmentedMessage → List ℕ
planned_image p =
    spell 8 p.message_octets
    ++ (spell 8 p.payload_budget_octets
    ++ (p.transaction_id ∷ window_number p.acknowledgment_window ∷ row_image (capacities p)))

abbrev pub planned_from : ℕ → ℕ → ℕ → ℕ → Row → SegmentedMessage
planned_from octets budget transaction window r =
    record {
      message_octets = octets;
      payload_budget_octets = budget;
      transaction_id = transaction;
      acknowledgment_window = window_of window;
      begin_octets = r.first;
      later_capacity = r.second;
      count = r.third;
      states_length = eqb r.octet 1;
    }

unfoldable pub planned_of : List ℕ → SegmentedMessage
planned_of l = planned_from (number_of 8 l) (number_of 8 (drop 8 l)) (get_or l 16 0) (get_or l 17 0) (row_of (drop 18 l))

pub record PlannedFits (p : SegmentedMessage) : Type 0 where
  pub octets : p.message_octets < 18446744073709551616
  pub budget : p.payload_budget_octets < 18446744073709551616
  pub row : RowFits (capacities p)

-- ---- laws

abbrev Parts : Type 0
Parts = ℕ × (ℕ × (ℕ × (ℕ × Row)))

abbrev spell_parts : Parts → List ℕ
spell_parts = spell_both (spell 8) (spell_both (spell 8) (spell_both spell_octet (spell_both spell_octet row_image)))

abbrev read_parts : List ℕ → Parts
read_parts = read_both (number_of 8) 8 (read_both (number_of 8) 8 (read_both read_octet 1 (read_both read_octet 1 row_of)))

abbrev Fit : ℕ → Type 0
Fit x = x < 18446744073709551616

parts_layout : Layout spell_parts read_parts 43 (λ x. Fit x.0 × (Fit x.1.0 × (AnyOctet x.1.1.0 × (AnyOctet x.1.1.1.0 × RowFits x.1.1.1.1))))
parts_layout = both_layout (number_layout 8) (both_layout (number_layout 8) (both_layout octet_layout (both_layout octet_layout row_layout)))

abbrev from_parts : Parts → SegmentedMessage
from_parts x = planned_from x.0 x.1.0 x.1.1.0 x.1.1.1.0 x.1.1.1.1

abbrev to_parts : SegmentedMessage → Parts
to_parts p = (p.message_octets, (p.payload_budget_octets, (p.transaction_id, (window_number p.acknowledgment_window, capacities p))))

planned_same : (p : SegmentedMessage) → from_parts (to_parts p) ≡ p
planned_same p =
    λ i.
    record {
      message_octets = p.message_octets;
      payload_budget_octets = p.payload_budget_octets;
      transaction_id = p.transaction_id;
      acknowledgment_window = window_back p.acknowledgment_window i;
      begin_octets = p.begin_octets;
      later_capacity = p.later_capacity;
      count = p.count;
      states_length = flag_back p.states_length i;
    }

planned_reads : (l : List ℕ) → planned_of l ≡ from_parts (read_parts l)
unfolding planned_of
planned_reads l =
    let a : drop 16 l ≡ drop 8 (drop 8 l) = sym (drop-drop 8 8 l) in
    let b : drop 17 l ≡ drop 1 (drop 8 (drop 8 l)) = sym (ap (drop 1) (drop-drop 8 8 l) ∙ drop-drop 1 16 l) in
    let c : drop 18 l ≡ drop 1 (drop 1 (drop 8 (drop 8 l))) = sym (ap (drop 1) (sym b) ∙ drop-drop 1 17 l) in
    let t : get_or l 16 0 ≡ get_or (drop 8 (drop 8 l)) 0 0 = sym (get_or-drop 16 l 0 0) ∙ ap (λ (x : List ℕ). get_or x 0 0) a in
    let w : get_or l 17 0 ≡ get_or (drop 1 (drop 8 (drop 8 l))) 0 0 = sym (get_or-drop 17 l 0 0) ∙ ap (λ (x : List ℕ). get_or x 0 0) b in
    ap (λ (x : ℕ). planned_from (number_of 8 l) (number_of 8 (drop 8 l)) x (get_or l 17 0) (row_of (drop 18 l))) t
    ∙ ap (λ (x : ℕ). planned_from (number_of 8 l) (number_of 8 (drop 8 l)) (get_or (drop 8 (drop 8 l)) 0 0) x (row_of (drop 18 l))) w
    ∙ ap (λ (x : List ℕ). planned_from (number_of 8 l) (number_of 8 (drop 8 l)) (get_or (drop 8 (drop 8 l)) 0 0) (get_or (drop 1 (drop 8 (drop 8 l))) 0 0) (row_of x)) c

pub planned_wide : (p : SegmentedMessage) → length (planned_image p) ≡ 43
unfolding planned_image row_image spell
planned_wide p = refl

pub planned_layout : Layout planned_image planned_of 43 PlannedFits
unfolding planned_image
planned_layout =
    as_layout parts_layout from_parts to_parts planned_same planned_image planned_of PlannedFits (λ p. refl) planned_reads
    (λ p f. (f.octets, (f.budget, (tt, (tt, f.row)))))
    (λ l. planned_wide (planned_of l))

-- read one after another, from a place on
pub planned_read : (l : List ℕ) (at a b : ℕ) (r : Row) → a ≡ number_of 8 (drop at l) → b ≡ number_of 8 (drop (at + 8) l) → r ≡ row_of (drop (at + 18) l)
    → planned_from a b (get_or l (at + 16) 0) (get_or l (at + 17) 0) r ≡ planned_of (drop at l)
unfolding planned_of
planned_read l at a b r p q s =
    let e : b ≡ number_of 8 (drop 8 (drop at l)) = q ∙ ap (number_of 8) (sym (drop-drop 8 at l)) in
    let f : r ≡ row_of (drop 18 (drop at l)) = s ∙ ap row_of (sym (drop-drop 18 at l)) in
    let g : get_or l (at + 16) 0 ≡ get_or (drop at l) 16 0 = sym (get_or-drop at l 16 0) in
    let h : get_or l (at + 17) 0 ≡ get_or (drop at l) 17 0 = sym (get_or-drop at l 17 0) in
    λ i. planned_from (p i) (e i) (g i) (h i) (f i)

-- written one after another
pub planned_put : (l x y z t : List ℕ) (at : ℕ) (p : SegmentedMessage) → x ≡ sets l at (spell 8 p.message_octets) → y ≡ sets x (at + 8) (spell 8 p.payload_budget_octets)
    → z ≡ sets y (at + 16) (p.transaction_id ∷ window_number p.acknowledgment_window ∷ [])
    → t ≡ sets z (at + 18) (row_image (capacities p))
    → t ≡ sets l at (planned_image p)
unfolding planned_image spell
planned_put l x y z t at p e f g h =
    let a : List ℕ = spell 8 p.message_octets in
    let b : List ℕ = spell 8 p.payload_budget_octets in
    let c : List ℕ = p.transaction_id ∷ window_number p.acknowledgment_window ∷ [] in
    let two : y ≡ sets l at (a ++ b) = put_next l at a b x y (at + 8) 8 e refl refl f in
    let three : z ≡ sets l at (a ++ b ++ c) = put_next l at (a ++ b) c y z (at + 16) 16 two refl refl g in
    put_next l at (a ++ b ++ c) (row_image (capacities p)) z t (at + 18) 18 three refl refl h
