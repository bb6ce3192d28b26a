-- What the frozen check refuses: only by a row of document 01's order, and with 23 only what is no true cutting of the message. Assumes nothing.
use Rattle.std.specs.Prelude.{ℕ, zero, suc, ◌+◌, ◌≤◌, ◌<◌, ◌≡◌, refl, List, [], ◌∷◌, Bool, true, false, cond, not, ◌||◌, length, eqb, ltb, Option, Some, None}
use Rattle.std.proofs.Common.{sym, ap, ◌∙◌, subst, true≢false, arith, zero-add, add-zero, add-suc, suc-add, ltb-true, eqb-true, le-ltb}
use Rattle.std.proofs.lemmas.Bool.{eqb-false, not-true, not-false}
use Rattle.tsar.specs.Rows.{Refusal, refusal, or_else, refusal_none, refusal_pass}
use Rattle.tsar.specs.Writing.{header_octets}
use Rattle.segmentation.specs.Cutting.{Cutting}
use Rattle.segmentation.specs.Frozen.{Proposal, proposed, head_at, data_before, segment_rows, segments_from, frozen_rows, frozen_refusal}
use Rattle.segmentation.specs.Accepted.{codec_of, budget_row, cut_rows, rows_of, cuts_pass, cut_end}

-- the proposed segments are a true cutting of the message
abbrev pub TrueCutting : Proposal → Type 0
TrueCutting q = Cutting q.message (head_at q.heads 0).segment.transaction_id q.count (proposed q)

-- why a proposal is refused, and with which number
pub data Refuses (q : Proposal) : Refusal → Type 0 where
  over_ceiling : q.ceiling < q.budget → Refuses q (20, 0)
  miscounted : (2 ≤ q.count → q.count ≤ 256 → ⊥) → Refuses q (22, 0)
  unequal : (length q.joined ≡ data_before q.heads q.count → ⊥) → Refuses q (24, 0)
  by_codec : (i : ℕ) {r : Refusal} → i < q.count → codec_of q i ≡ Some r → Refuses q r
  over_budget : (i : ℕ) → i < q.count → q.budget < header_octets (head_at q.heads i).segment.kind + (head_at q.heads i).segment_data_length → Refuses q (20, 0)
  no_cutting : (TrueCutting q → ⊥) → Refuses q (23, 0)

-- ---- row by row

abbrev ByRefusal : {A : Type 0} → (A → Type 0) → List (Bool × A) → Type 0
ByRefusal P [] = Unit
ByRefusal P (c ∷ cs) = (c.0 ≡ true → P c.1) × (c.0 ≡ false → ByRefusal P cs)

one_row : {A : Type 0} (P : A → Type 0) (t : Bool) (v : A) (o : Option A) (r : A) → cond t (Some v) o ≡ Some r → (t ≡ true → P v) → (t ≡ false → o ≡ Some r → P r) → P r
one_row P true v o r e a b = let h : v ≡ r = cc in subst P h (a refl)
one_row P false v o r e a b = b refl e

by_refusal : {A : Type 0} (P : A → Type 0) (cs : List (Bool × A)) (r : A) → ByRefusal P cs → refusal cs ≡ Some r → P r
by_refusal P [] r p e = let z : ◌≡◌ {A = ℕ} 0 1 = cc in absurd (omega arith)
by_refusal P (c ∷ cs) r p e = one_row P c.0 c.1 (refusal cs) r e p.0 (λ f g. by_refusal P cs r (p.1 f) g)

-- what is refused is refused in front or behind
or_else_some : {A : Type 0} (P : Type 0) (a b : Option A) (r : A) → or_else a b ≡ Some r → (a ≡ Some r → P) → (a ≡ None → b ≡ Some r → P) → P
or_else_some P None b r e f g = g refl e
or_else_some P (Some x) b r e f g = f e

both_hold : (a b : Bool) → a ≡ false → b ≡ false → (a || b) ≡ true → ⊥
both_hold a b e f g = true≢false (sym g ∙ ap (λ (t : Bool). t || b) e ∙ f)

-- ---- the rows in front

front_refuses : (q : Proposal) (r : Refusal) → refusal (frozen_rows q) ≡ Some r → Refuses q r
front_refuses q r =
    by_refusal (Refuses q) (frozen_rows q) r (
      (λ h. over_ceiling (ltb-true q.ceiling q.budget h)),
      (λ _. (
        (λ h. miscounted (λ a b. both_hold (ltb q.count 2) (ltb 256 q.count) (le-ltb q.count 2 a) (le-ltb 256 q.count b) h)),
        (λ _. (
          (λ h. unequal (eqb-false _ _ (not-true _ h))),
          (λ _. (
            (λ h. no_cutting (λ c. true≢false (sym c.begins ∙ not-true _ h))),
            (λ _. (
              (λ h. no_cutting (λ c. true≢false (sym (c.plain 0 (omega (arith, c.at_least))) ∙ not-true _ h))),
              (λ _. tt),
            )),
          )),
        )),
      )),
    )

-- ---- segment by segment

cut_refuses : (q : Proposal) (i : ℕ) (r : Refusal) → i < q.count → length q.joined ≡ data_before q.heads q.count → refusal (cut_rows q i) ≡ Some r → Refuses q r
cut_refuses q i r h sums e =
    let n : (23, 0) ≡ r = by_refusal (λ r. (23, 0) ≡ r) (cut_rows q i) r ((λ _. refl), (λ _. ((λ _. refl), (λ _. ((λ _. refl), (λ _. ((λ _. refl), (λ _. ((λ _. refl), (λ _. ((λ _. refl), (λ _. ((λ _. refl), (λ _. tt)))))))))))))) e in
    subst (Refuses q) n (no_cutting (λ c. let p : refusal (cut_rows q i) ≡ None = refusal_pass (cut_rows q i) (cuts_pass q sums c i h) in let z : ◌≡◌ {A = ℕ} 0 1 = cc in omega arith))

segment_refuses : (q : Proposal) (i : ℕ) (r : Refusal) → i < q.count → length q.joined ≡ data_before q.heads q.count → refusal (segment_rows q i) ≡ Some r → Refuses q r
segment_refuses q i r h sums e =
    or_else_some (Refuses q r) (codec_of q i) (refusal (budget_row q i ∷ cut_rows q i)) r (sym (rows_of q i) ∙ e) (by_codec i h)
    (λ _ f. one_row (Refuses q) (budget_row q i).0 (20, 0) (refusal (cut_rows q i)) r f (λ l. over_budget i h (ltb-true q.budget _ l)) (λ _ g. cut_refuses q i r h sums g))

segments_refuse : (q : Proposal) (k i : ℕ) (r : Refusal) → i + k ≡ q.count → length q.joined ≡ data_before q.heads q.count → segments_from q k i ≡ Some r → Refuses q r
unfolding segments_from
segments_refuse q zero i r h sums e =
    one_row (Refuses q) (not (eqb (data_before q.heads i) (length q.message))) (23, 0) None r e
    (λ l. no_cutting (λ c. eqb-false _ _ (not-true _ l) (ap (data_before q.heads) (sym (add-zero i) ∙ h) ∙ cut_end q sums c)))
    (λ _ f. let z : ◌≡◌ {A = ℕ} 0 1 = cc in absurd (omega arith))
segments_refuse q (suc k) i r h sums e =
    or_else_some (Refuses q r) (refusal (segment_rows q i)) (segments_from q k (suc i)) r e
    (λ f. segment_refuses q i r (omega arith) sums f)
    (λ _ f. segments_refuse q k (suc i) r (suc-add i k ∙ sym (add-suc i k) ∙ h) sums f)

-- whatever is refused is refused for one of these reasons
pub frozen_refused_only : (q : Proposal) (r : Refusal) → frozen_refusal q ≡ Some r → Refuses q r
unfolding frozen_refusal
frozen_refused_only q r e =
    or_else_some (Refuses q r) (refusal (frozen_rows q)) (segments_from q q.count 0) r e (front_refuses q r)
    (λ f g. segments_refuse q q.count 0 r (zero-add q.count) (eqb-true _ _ (not-false _ (refusal_none (frozen_rows q) f 2))) g)
