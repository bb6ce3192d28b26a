-- Laws of `join_to`, the data of a train's segments in order: parts of a message that lie one behind the other join to its front; and that a cutting
-- is one of its segments alone. Assumes nothing.
use Rattle.std.specs.Prelude.{ℕ, zero, suc, ◌+◌, ◌<◌, ◌≡◌, refl, List, ◌++◌, length, take, drop}
use Rattle.std.proofs.Common.{sym, ap, ap₂, ◌∙◌, arith, take-add, take_all}
use Rattle.tsar.specs.Layout.{WholeSegment}
use Rattle.segmentation.specs.Cutting.{Cutting, join_to}

-- equal data join to the same
pub join_cong : (n : ℕ) (f g : ℕ → List ℕ) → ((i : ℕ) → i < n → f i ≡ g i) → join_to n f ≡ join_to n g
unfolding join_to
join_cong zero f g e = refl
join_cong (suc n) f g e = ap₂ {C = List ℕ} ◌++◌ (join_cong n f g (λ i h. e i (omega arith))) (e n (omega arith))

-- one segment more
pub join_suc : (n : ℕ) (f : ℕ → List ℕ) → join_to (suc n) f ≡ join_to n f ++ f n
unfolding join_to
join_suc n f = refl

-- parts of a list, the first at its start and each where the one before it ends, join to a front of the list
pub parts_join : (l : List ℕ) (start size : ℕ → ℕ) (n : ℕ) → start 0 ≡ 0 → ((i : ℕ) → i < n → start (suc i) ≡ start i + size i) → join_to n (λ i. take (size i) (drop (start i) l)) ≡ take (start n) l
unfolding join_to
parts_join l start size zero z e = ap (λ (k : ℕ). take k l) (sym z)
parts_join l start size (suc n) z e =
    ap (λ (r : List ℕ). r ++ take (size n) (drop (start n) l)) (parts_join l start size n z (λ i h. e i (omega arith)))
    ∙ sym (take-add (start n) (size n) l) ∙ ap (λ (k : ℕ). take k l) (sym (e n (omega arith)))

-- where the last part ends at the list's end, to the whole list
pub parts_whole : (l : List ℕ) (start size : ℕ → ℕ) (n : ℕ) → start 0 ≡ 0 → ((i : ℕ) → i < n → start (suc i) ≡ start i + size i) → start n + size n ≡ length l → join_to (suc n) (λ i. take (size i) (drop (start i) l)) ≡ l
parts_whole l start size n z e f =
    join_suc n (λ i. take (size i) (drop (start i) l))
    ∙ ap (λ (r : List ℕ). r ++ take (size n) (drop (start n) l)) (parts_join l start size n z e)
    ∙ sym (take-add (start n) (size n) l) ∙ take_all (start n + size n) l (omega arith)

-- equal segments below the count are as much a cutting
pub cutting_cong : {message : List ℕ} {transaction count : ℕ} {s : ℕ → WholeSegment} (t : ℕ → WholeSegment) → ((i : ℕ) → i < count → s i ≡ t i) → Cutting message transaction count s → Cutting message transaction count t
cutting_cong {message} {transaction} {count} {s} t e c =
    record {
      at_least = c.at_least;
      at_most = c.at_most;
      numbered = λ i h. rw (e i h) at (c.numbered i h);
      one_transaction = λ i h. rw (e i h) at (c.one_transaction i h);
      begins = rw (e 0 (omega (arith, c.at_least))) at c.begins;
      continues = λ i h l. rw (e i (omega arith)) at (c.continues i h l);
      ends = λ i h. rw (e i (omega arith)) at (c.ends i h);
      plain = λ i h. rw (e i h) at (c.plain i h);
      short = λ i h. rw (e i h) at (c.short i h);
      states = λ i h. rw (e i h) at (c.states i h);
      makes = sym (join_cong count (λ i. (s i).segment_data) (λ i. (t i).segment_data) (λ i h. ap (λ (x : WholeSegment). x.segment_data) (e i h))) ∙ c.makes;
    }
