-- Small laws that the proofs about lists of calls cite: tests, sums, marks, parts of the store, and finding an accepted segment.
use Rattle.std.specs.Prelude.{ℕ, zero, suc, ◌+◌, ◌*◌, ◌≤◌, ◌<◌, ◌≡◌, refl, ◌≢◌, List, [], ◌∷◌, Bool, true, false, cond, ◌&&◌, ◌||◌, length, eqb, Option, Some, None}
use Rattle.std.proofs.Common.{sym, ap, ◌∙◌, subst, ⊎_elim, arith, add-zero, add-suc, eqb-true, eq-eqb, ne_eqb}
use Rattle.std.proofs.lemmas.Bool.{false≢true}
use Rattle.std.proofs.Math.Decide.{ℕ_discrete}
use Rattle.std.proofs.lemmas.List.Edits.{sets}
use Rattle.octets.specs.Laws.{part_before, part_after, part_sets}
use Rattle.words.specs.Marks.{marked, words_of}
use Rattle.words.specs.Search.{lt_or_le}
use Rattle.words.specs.Laws.{marked_words_of}
use Rattle.words.specs.declared.Words.{Words}
use Rattle.tsar.specs.Layout.{WholeSegment}
use Rattle.receiver.specs.Record.{part, sum_to, slot_octets, store_octets}
use Rattle.delivery.specs.Calls.{find, absent}

-- ---- tests

-- a test that holds and does not
pub never : {A : Type 0} (b : Bool) → b ≡ false → b ≡ true → A
never b f t = absurd (false≢true (sym f ∙ t))

-- the first of two tests that hold together
pub and_left : (a b : Bool) → (a && b) ≡ true → a ≡ true
and_left true b e = refl
and_left false b e = e

-- the second of two tests that hold together
pub and_right : (a b : Bool) → (a && b) ≡ true → b ≡ true
and_right true b e = e
and_right false b e = cc

-- the first of two tests neither of which holds
pub or_left : (a b : Bool) → (a || b) ≡ false → a ≡ false
or_left true b e = cc
or_left false b e = refl

-- the second of two tests neither of which holds
pub or_right : (a b : Bool) → (a || b) ≡ false → b ≡ false
or_right true b e = cc
or_right false b e = e

-- two tests that do not hold together, of which the first does
pub and_rest : (a b : Bool) → (a && b) ≡ false → a ≡ true → b ≡ false
and_rest true b e h = e
and_rest false b e h = cc

-- ---- sums

-- equal terms
pub sum_to_same : (n : ℕ) (f g : ℕ → ℕ) → ((i : ℕ) → i < n → f i ≡ g i) → sum_to n f ≡ sum_to n g
unfolding sum_to
sum_to_same zero f g h = refl
sum_to_same (suc n) f g h = let e = sum_to_same n f g (λ i k. h i (omega arith)) in omega (arith, h n (omega arith))

-- one term grows
pub sum_to_grown : (n i k : ℕ) (f g : ℕ → ℕ) → i < n → ((j : ℕ) → j < n → j ≢ i → g j ≡ f j) → g i ≡ f i + k → sum_to n g ≡ sum_to n f + k
unfolding sum_to
sum_to_grown zero i k f g h o e = omega arith
sum_to_grown (suc n) i k f g h o e = go (ℕ_discrete n i) (λ q. sum_to_grown n i k f g q (λ j l. o j (omega arith)) e)
  where
    go : Dec (n ≡ i) → (i < n → sum_to n g ≡ sum_to n f + k) → sum_to n g + g n ≡ sum_to n f + f n + k
    go (yes p) ih =
        let same = sum_to_same n g f (λ j l. o j (omega arith) (omega arith)) in
        let here : g n ≡ f n + k = rw p e in
        omega arith
    go (no p) ih = omega (arith, ih (omega arith), o n (omega arith) p)

-- terms that are 0
pub sum_to_zero : (n : ℕ) (f : ℕ → ℕ) → ((i : ℕ) → i < n → f i ≡ 0) → sum_to n f ≡ 0
unfolding sum_to
sum_to_zero zero f h = refl
sum_to_zero (suc n) f h = omega (arith, sum_to_zero n f (λ i k. h i (omega arith)), h n (omega arith))

-- terms that are 0 from n on
pub sum_to_past : (d n : ℕ) (f : ℕ → ℕ) → ((i : ℕ) → n ≤ i → i < n + d → f i ≡ 0) → sum_to (n + d) f ≡ sum_to n f
unfolding sum_to
sum_to_past zero n f h = rw add-zero
sum_to_past (suc d) n f h = rw add-suc (let e = sum_to_past d n f (λ i k l. h i k (omega arith)) in omega (arith, h (n + d) (omega arith) (omega arith)))

-- smaller terms
pub sum_to_mono : (n : ℕ) (f g : ℕ → ℕ) → ((i : ℕ) → i < n → f i ≤ g i) → sum_to n f ≤ sum_to n g
unfolding sum_to
sum_to_mono zero f g h = omega arith
sum_to_mono (suc n) f g h = omega (arith, sum_to_mono n f g (λ i k. h i (omega arith)), h n (omega arith))

-- terms of at most k
pub sum_to_most : (n k : ℕ) (f : ℕ → ℕ) → ((i : ℕ) → i < n → f i ≤ k) → sum_to n f ≤ n * k
unfolding sum_to
sum_to_most zero k f h = omega arith
sum_to_most (suc n) k f h = omega (arith, sum_to_most n k f (λ i l. h i (omega arith)), h n (omega arith))

-- ---- marks

-- the marks with one more
abbrev pub holding : Words → ℕ → Words
holding held q = words_of (λ t. eqb t q || marked held t)

-- the one more is set
pub marked_here : (held : Words) (q : ℕ) → q < 256 → marked (holding held q) q ≡ true
marked_here held q h = marked_words_of (λ t. eqb t q || marked held t) q h ∙ ap (λ (b : Bool). b || marked held q) (eq-eqb q q refl)

-- the others are as they were
pub marked_other : (held : Words) (q s : ℕ) → s < 256 → s ≢ q → marked (holding held q) s ≡ marked held s
marked_other held q s h ne = marked_words_of (λ t. eqb t q || marked held t) s h ∙ ap (λ (b : Bool). b || marked held s) (ne_eqb s q ne)

-- ---- parts of the store

-- a slot's part after another slot is written
pub part_other : (store l : List ℕ) (s t m : ℕ) → length l ≤ 255 → m ≤ 255 → t ≢ s → part (sets store (slot_octets * s) l) t m ≡ part store t m
part_other store l s t m short small ne =
    ⊎_elim (λ (h : t < s). part_before store (slot_octets * s) l (slot_octets * t) m (omega arith))
    (λ (h : s ≤ t).
    let g : s < t = omega arith in
    part_after store (slot_octets * s) l (slot_octets * t) m (omega arith)) (lt_or_le t s)

-- and after the slot itself is
pub part_same : (store l : List ℕ) (s : ℕ) → store_octets ≤ length store → s < 256 → length l ≤ 255
    → part (sets store (slot_octets * s) l) s (length l) ≡ l
part_same store l s room small short = part_sets store (slot_octets * s) l (length l) refl (omega arith)

-- ---- finding a segment

-- what is found among the accepted and one more
pub find_new : (P : WholeSegment → Type 0) (x : WholeSegment) (acc : List WholeSegment) (s : ℕ) (y : WholeSegment) → find s (x ∷ acc) ≡ Some y
    → (x.sequence_number ≡ s → P x) → (find s acc ≡ Some y → P y) → P y
find_new P x acc s y f new old = go (eqb x.sequence_number s) refl
  where
    go : (b : Bool) → eqb x.sequence_number s ≡ b → P y
    go true e = let p : x ≡ y = cc in subst P p (new (eqb-true _ _ e))
    go false e = old cc

-- the one more is found
pub find_here : (x : WholeSegment) (acc : List WholeSegment) (s : ℕ) → x.sequence_number ≡ s → find s (x ∷ acc) ≡ Some x
find_here x acc s e = rw (eq-eqb x.sequence_number s e)

-- what was found stays, where the one more has a number of its own
pub find_kept : (x : WholeSegment) (acc : List WholeSegment) (s : ℕ) (y : WholeSegment) → find x.sequence_number acc ≡ None → find s acc ≡ Some y
    → find s (x ∷ acc) ≡ Some y
find_kept x acc s y n f = go (eqb x.sequence_number s) refl
  where
    go : (b : Bool) → eqb x.sequence_number s ≡ b → cond b (Some x) (find s acc) ≡ Some y
    go true e = let p : x.sequence_number ≡ s = eqb-true _ _ e in cc
    go false e = f

-- what is there stays there
pub find_present : (x : WholeSegment) (acc : List WholeSegment) (s : ℕ) → absent (find s acc) ≡ false → absent (find s (x ∷ acc)) ≡ false
find_present x acc s f = go (eqb x.sequence_number s)
  where
    go : (b : Bool) → absent (cond b (Some x) (find s acc)) ≡ false
    go true = refl
    go false = f

-- what is there is some segment
pub present : (o : Option WholeSegment) → absent o ≡ false → (x : WholeSegment) × (o ≡ Some x)
present None e = absurd (false≢true (sym e))
present (Some x) e = (x, refl)

-- what is not there is none
pub missing : (o : Option WholeSegment) → absent o ≡ true → o ≡ None
missing None e = refl
missing (Some x) e = absurd (false≢true e)

-- what is found has the number asked for
pub find_number : (s : ℕ) (acc : List WholeSegment) (x : WholeSegment) → find s acc ≡ Some x → x.sequence_number ≡ s
find_number s [] x f = cc
find_number s (y ∷ acc) x f = find_new (λ z. z.sequence_number ≡ s) y acc s x f (λ e. e) (find_number s acc x)
