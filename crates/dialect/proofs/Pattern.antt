-- Which segments state a length, and which pass the budget: the tests of the definition in a reader's words. Assumes nothing.
use Prim.Native.Nat.{ℕ, zero, suc, ◌+◌, ◌-◌, ◌≤◌, ◌<◌}
use mathlib.Core.Path.{◌≡◌, refl, sym, ap, ap₂, ◌∙◌, subst}
use mathlib.Core.Logic.{⊎_elim}
use mathlib.Core.Bool.{Bool, true, false, ◌&&◌, ◌||◌, true≢false}
use mathlib.Core.List.{List, [], ◌∷◌, ◌++◌}
use Rattle.std.specs.Prelude.{None}
use native.Mathlib.Omega.{arith}
use lib.ListN.{length, get_or, take, drop, get_or-eq_default}
use lib.Seq.{take-suc}
use Rattle.std.specs.List.{list_all, list_any}
use Rattle.std.proofs.Math.Bool.{and-true, or-false}
use Rattle.std.proofs.lemmas.List.Folds.{list_all-append, list_any-append}
use lib.Dec.{ltb}
use borrow.Author.Tests.{le-ltb}
use Rattle.octets.specs.Laws.{le_or_lt}
use Rattle.tsar.specs.Writing.{header_octets}
use Rattle.tsar.specs.declared.SegmentHead.{SegmentHead}
use Rattle.segmentation.specs.Cutting.{is_end}
use Rattle.segmentation.specs.Frozen.{Proposal, no_head, head_at, frozen_refusal}
use Rattle.segmentation.specs.Accepted.{frozen_acceptable}
use Rattle.dialect.specs.declared.Dialect.{Dialect}
use Rattle.dialect.specs.Convert.{states, later_fits, later_in, in_dialect, passes_alone, passes_budget}

-- ---- both of two tests

pub both_true : (x y : Bool) → (x && y) ≡ true → (x ≡ true) × (y ≡ true)
both_true true y e = (refl, e)
both_true false y e = absurd (true≢false (sym e))

pub and_true : (x y : Bool) → x ≡ true → y ≡ true → (x && y) ≡ true
and_true true y e f = f
and_true false y e f = e

-- ---- heads 1 to k

pub later_each : (d : Dialect) (heads : List SegmentHead) (k : ℕ) → later_in d heads k ≡ true → (j : ℕ) → 0 < j → j ≤ k → later_fits d (head_at heads j) ≡ true
unfolding later_in
later_each d heads zero e j a h = absurd (omega arith)
later_each d heads (suc k) e j a h =
    let b = both_true (later_in d heads k) (later_fits d (head_at heads (suc k))) e in
    ⊎_elim (λ (l : j ≤ k). later_each d heads k b.0 j a l)
    (λ (l : k < j). let g : j ≡ suc k = omega arith in ap (λ (i : ℕ). later_fits d (head_at heads i)) g ∙ b.1)
    (le_or_lt j k)

pub later_all : (d : Dialect) (heads : List SegmentHead) (k : ℕ) → ((j : ℕ) → 0 < j → j ≤ k → later_fits d (head_at heads j) ≡ true) → later_in d heads k ≡ true
unfolding later_in
later_all d heads zero h = refl
later_all d heads (suc k) h = and_true (later_in d heads k) _ (later_all d heads k (λ j a b. h j a (omega arith))) (h (suc k) (omega arith) (omega arith))

-- ---- the budget

pub passes_none : (budget : ℕ) (heads : List SegmentHead) (k : ℕ) → ((i : ℕ) → i < k → header_octets (head_at heads i).segment.kind + (head_at heads i).segment_data_length ≤ budget) → passes_budget budget heads k ≡ false
unfolding passes_budget
passes_none budget heads zero h = refl
passes_none budget heads (suc k) h =
    let e : passes_budget budget heads k ≡ false = passes_none budget heads k (λ i a. h i (omega arith)) in
    rw (e, le-ltb budget _ (h k (omega arith)))

pub passes_some : (budget : ℕ) (heads : List SegmentHead) (k i : ℕ) → i < k → ltb budget (header_octets (head_at heads i).segment.kind + (head_at heads i).segment_data_length) ≡ true → passes_budget budget heads k ≡ true
unfolding passes_budget
passes_some budget heads zero i h e = absurd (omega arith)
passes_some budget heads (suc k) i h e =
    ⊎_elim (λ (l : suc i ≤ k). let p : passes_budget budget heads k ≡ true = passes_some budget heads k i l e in rw p)
    (λ (l : k < suc i). let g : i ≡ k = omega arith in second (passes_budget budget heads k) _ (subst (λ (j : ℕ). ltb budget (header_octets (head_at heads j).segment.kind + (head_at heads j).segment_data_length) ≡ true) g e))
    (le_or_lt (suc i) k)
  where
    second : (x y : Bool) → y ≡ true → (x || y) ≡ true
    second true y f = refl
    second false y f = f

-- heads that agree pass alike
pub passes_cong : (budget : ℕ) (heads others : List SegmentHead) (k : ℕ) → ((i : ℕ) → i < k → head_at heads i ≡ head_at others i) → passes_budget budget heads k ≡ passes_budget budget others k
unfolding passes_budget
passes_cong budget heads others zero h = refl
passes_cong budget heads others (suc k) h =
    let e : passes_budget budget heads k ≡ passes_budget budget others k = passes_cong budget heads others k (λ i a. h i (omega arith)) in
    rw (e, h k (omega arith))

-- ---- an array's room: a train that passes the check has all its heads
pub room_of : (q : Proposal) → frozen_refusal q ≡ None → q.count ≤ length q.heads
room_of q ok =
    let c = (frozen_acceptable q ok).cutting in
    ⊎_elim (λ (h : q.count ≤ length q.heads). h)
    (λ (h : length q.heads < q.count).
    let i : ℕ = q.count - 1 in
    let e : suc (q.count - 1) ≡ q.count = omega arith in
    let f : head_at q.heads (q.count - 1) ≡ no_head = get_or-eq_default q.heads no_head {n = q.count - 1} (omega arith) in
    absurd (true≢false (sym (c.ends (q.count - 1) e) ∙ ap (λ (x : SegmentHead). is_end x.segment.kind) f)))
    (le_or_lt q.count (length q.heads))

-- ---- the tests as the code makes them, on parts of the heads

pub later_list : (d : Dialect) (heads : List SegmentHead) (k : ℕ) → suc k ≤ length heads → later_in d heads k ≡ list_all (later_fits d) (take k (drop 1 heads))
unfolding later_in
later_list d [] k h = absurd (omega arith)
later_list d (x ∷ l) zero h = refl
later_list d (x ∷ l) (suc k) h =
    let e : take (suc k) l ≡ take k l ++ (get_or l k no_head ∷ []) = take-suc l k no_head (omega arith) in
    ap (λ (b : Bool). b && later_fits d (get_or l k no_head)) (later_list d (x ∷ l) k (omega arith))
    ∙ ap (λ (b : Bool). list_all (later_fits d) (take k l) && b) (sym (and-true (later_fits d (get_or l k no_head))))
    ∙ sym (list_all-append (later_fits d) (take k l) (get_or l k no_head ∷ []))
    ∙ ap (list_all (later_fits d)) (sym e)

pub passes_list : (budget : ℕ) (heads : List SegmentHead) (k : ℕ) → k ≤ length heads → passes_budget budget heads k ≡ list_any (passes_alone budget) (take k heads)
unfolding passes_budget
passes_list budget heads zero h = refl
passes_list budget heads (suc k) h =
    let e : take (suc k) heads ≡ take k heads ++ (head_at heads k ∷ []) = take-suc heads k no_head (omega arith) in
    ap (λ (b : Bool). b || passes_alone budget (head_at heads k)) (passes_list budget heads k (omega arith))
    ∙ ap (λ (b : Bool). list_any (passes_alone budget) (take k heads) || b) (sym (or-false (passes_alone budget (head_at heads k))))
    ∙ sym (list_any-append (passes_alone budget) (take k heads) (head_at heads k ∷ []))
    ∙ ap (list_any (passes_alone budget)) (sym e)

-- heads that agree are in the same dialects
pub dialect_cong : (d : Dialect) (heads others : List SegmentHead) (count : ℕ) → 0 < count → ((i : ℕ) → i < count → head_at heads i ≡ head_at others i) → in_dialect d heads count ≡ in_dialect d others count
unfolding later_in
dialect_cong d heads others count z h = ap₂ (λ (x : SegmentHead) (b : Bool). states x && b) (h 0 z) (go (count - 1) (λ i l. h i (omega arith)))
  where
    go : (k : ℕ) → ((i : ℕ) → i ≤ k → head_at heads i ≡ head_at others i) → later_in d heads k ≡ later_in d others k
    go zero f = refl
    go (suc k) f = ap₂ (λ (b : Bool) (x : SegmentHead). b && later_fits d x) (go k (λ i l. f i (omega arith))) (f (suc k) (omega arith))
