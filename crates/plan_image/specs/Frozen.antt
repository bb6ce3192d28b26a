-- The layout of the record of the frozen check, 5913 octets: a row (count, message octets, budget, window), and 256 heads. Assumes nothing.
use Rattle.std.specs.Prelude.{◌≡◌, refl, Bool, ◌&&◌, List, ◌++◌, ℕ, ◌+◌, ◌*◌, ◌≤◌, ◌<◌, length, get_or, drop, take}
use Rattle.std.proofs.Common.{sym, ap, ◌∙◌, arith, length-drop, length-take-le, get_or-take}
use Rattle.std.proofs.lemmas.List.Edits.{sets}
use Rattle.tsar.specs.Layout.{window_number}
use Rattle.tsar.specs.declared.SegmentHead.{SegmentHead}
use Rattle.segmentation.specs.Frozen.{no_head}
use Rattle.segmentation.specs.declared.FrozenMessage.{FrozenMessage}
use Rattle.image.specs.Spelling.{spells, Layout, spell_both, read_both, both_layout, both_spells, as_layout, sets_then}
use Rattle.image.specs.Cases.{window_of, window_back}
use Rattle.image.specs.Many.{spell_all, read_all, all_pass, AllFit, all_layout, all_spells, all_wide, spell_more}
use Rattle.image.specs.Segments.{head_image, head_of, head_ok, HeadFits, head_layout}
use Rattle.plan_image.specs.declared.Row.{Row}
use Rattle.plan_image.specs.declared.Front.{Front}
use Rattle.plan_image.specs.Row.{row_image, row_of, RowFits, row_layout, row_wide}

-- ---- what stands before the heads, 25 octets

abbrev pub front_row : Front → Row
front_row f = record { first = f.count; second = f.message_octets; third = f.payload_budget_octets; octet = window_number f.acknowledgment_window }

unfoldable pub front_image : Front → List ℕ
front_image f = row_image (front_row f)

abbrev pub front_from : Row → Front
front_from r = record { count = r.first; message_octets = r.second; payload_budget_octets = r.third; acknowledgment_window = window_of r.octet }

unfoldable pub front_of : List ℕ → Front
front_of l = front_from (row_of l)

abbrev pub front_ok : List ℕ → Bool
front_ok l = spells front_image front_of 25 l

abbrev pub FrontFits : Front → Type 0
FrontFits f = RowFits (front_row f)

-- ---- the heads, 5888 octets

abbrev pub heads_image : List SegmentHead → List ℕ
heads_image = spell_all head_image

abbrev pub heads_of : List ℕ → List SegmentHead
heads_of = read_all head_of 23 256

abbrev pub heads_ok : List ℕ → Bool
heads_ok l = all_pass head_ok 23 256 l

abbrev pub HeadsFit : List SegmentHead → Type 0
HeadsFit = AllFit HeadFits 256 no_head

-- ---- the record

abbrev pub front_in : FrozenMessage → Front
front_in f =
    record {
      count = f.count;
      message_octets = f.message_octets;
      payload_budget_octets = f.payload_budget_octets;
      acknowledgment_window = f.acknowledgment_window;
    }

unfoldable pub frozen_image : FrozenMessage → List ℕ
frozen_image f = front_image (front_in f) ++ heads_image f.heads

abbrev pub frozen_from : Front → List SegmentHead → FrozenMessage
frozen_from f heads =
    record {
      heads = heads;
      count = f.count;
      message_octets = f.message_octets;
      payload_budget_octets = f.payload_budget_octets;
      acknowledgment_window = f.acknowledgment_window;
    }

unfoldable pub frozen_of : List ℕ → FrozenMessage
frozen_of l = frozen_from (front_of l) (heads_of (drop 25 l))

abbrev pub frozen_ok : List ℕ → Bool
frozen_ok l = spells frozen_image frozen_of 5913 l

pub record FrozenFits (f : FrozenMessage) : Type 0 where
  pub front : FrontFits (front_in f)
  pub heads : HeadsFit f.heads

-- ---- laws

front_same : (f : Front) → front_from (front_row f) ≡ f
front_same f =
    λ i.
    record {
      count = f.count;
      message_octets = f.message_octets;
      payload_budget_octets = f.payload_budget_octets;
      acknowledgment_window = window_back f.acknowledgment_window i;
    }

pub front_wide : (f : Front) → length (front_image f) ≡ 25
unfolding front_image
front_wide f = row_wide (front_row f)

pub front_layout : Layout front_image front_of 25 FrontFits
unfolding front_image front_of
front_layout = as_layout row_layout front_from front_row front_same front_image front_of FrontFits (λ f. refl) (λ l. refl) (λ f g. g) (λ l. front_wide (front_of l))

pub heads_layout : Layout heads_image heads_of 5888 HeadsFit
heads_layout = all_layout head_layout no_head 256

-- a turn of the loop that writes the heads from a place on
pub heads_turn : (l : List ℕ) (at : ℕ) (heads : List SegmentHead) (i : ℕ) → i < length heads → ((k : ℕ) → k < i → HeadFits (get_or heads k no_head))
    → sets (sets l at (heads_image (take i heads))) (at + 23 * i) (head_image (get_or heads i no_head)) ≡ sets l at (heads_image (take (i + 1) heads))
heads_turn l at heads i h f =
    let n : length (take i heads) ≡ i = length-take-le i heads (omega arith) in
    let e : length (heads_image (take i heads)) ≡ 23 * i =
    all_wide head_image 23 no_head (take i heads)
    (λ k q. ap (λ (x : SegmentHead). length (head_image x)) (get_or-take i heads k no_head (omega arith)) ∙ head_layout.wide (get_or heads k no_head) (f k (omega arith)))
    ∙ ap (λ (k : ℕ). 23 * k) n in
    sets_then l at (heads_image (take i heads)) (head_image (get_or heads i no_head)) (23 * i) e ∙ ap (sets l at) (sym (spell_more head_image heads i no_head h))

parts_layout : Layout (spell_both front_image heads_image) (read_both front_of 25 heads_of) 5913 (λ x. FrontFits x.0 × HeadsFit x.1)
parts_layout = both_layout front_layout heads_layout

pub frozen_layout : Layout frozen_image frozen_of 5913 FrozenFits
unfolding frozen_image frozen_of
frozen_layout =
    as_layout parts_layout (λ x. frozen_from x.0 x.1) (λ f. (front_in f, f.heads)) (λ f. refl) frozen_image frozen_of FrozenFits (λ f. refl) (λ l. refl)
    (λ f g. (g.front, g.heads))
    (λ l. parts_layout.reads_wide l)

-- its test is that of each part
pub frozen_spells : (l : List ℕ) → 5913 ≤ length l → frozen_ok l ≡ (front_ok l && heads_ok (drop 25 l))
unfolding spells frozen_image frozen_of
frozen_spells l h =
    let n : 5888 ≤ length (drop 25 l) = omega (arith, length-drop 25 l) in
    both_spells front_layout heads_layout l (omega arith)
    ∙ ap (λ (t : Bool). front_ok l && t) (all_spells head_layout no_head 256 (drop 25 l) n)
