-- Laws of `sets`, a list written over from a place on: written in two goes, read where it was written, and read elsewhere.
-- What would lie past the list's end is left out, so a law that reads what was written asks that it fits. Assumes nothing.
use Rattle.std.specs.Prelude.{◌≡◌, refl, Bool, true, false, ◌⊎◌, List, [], ◌∷◌, ◌++◌, ℕ, zero, suc, ◌+◌, ◌-◌, ◌≤◌, ◌<◌, min, leb, length, get_or, set, take, drop}
use Rattle.std.proofs.Common.{sym, ap, ◌∙◌, inl, inr, ⊎_elim, append_assoc, add-zero, add-suc, suc-add, zero-add, arith, leb-true, leb-false, length-set, length-drop, take_all, take-suc, length-take-le, take_at, drop_at, drop-drop, get_or-set_same, get_or-set_other, drop-set-lt}
use Rattle.std.proofs.lemmas.List.Edits.{sets, sets-eq}
use Rattle.std.proofs.Math.Seq.{paste, take-length, take-nil, set_out}
use Rattle.std.proofs.lemmas.List.{drop-append-le, take-append-le, take-set-le}

-- two numbers are in order, or the other way round
pub le_or_lt : (a b : ℕ) → (a ≤ b) ⊎ (b < a)
le_or_lt a b = go (leb a b) refl
  where
    go : (t : Bool) → leb a b ≡ t → (a ≤ b) ⊎ (b < a)
    go true e = inl (leb-true a b e)
    go false e = inr (leb-false a b e)

module _ {ℓ} {A : Type ℓ} where
  -- nothing written changes nothing
  pub sets_nil : (l : List A) (i : ℕ) → sets l i [] ≡ l
  sets_nil l i = refl

  -- one element written is a store
  pub sets_one : (l : List A) (i : ℕ) (a : A) → sets l i (a ∷ []) ≡ set l i a
  sets_one l i a = refl

  -- written in two goes
  pub sets_append : (l : List A) (i : ℕ) (xs ys : List A) → sets l i (xs ++ ys) ≡ sets (sets l i xs) (i + length xs) ys
  sets_append l i [] ys = ap (λ (k : ℕ). sets l k ys) (sym (add-zero i))
  sets_append l i (x ∷ xs) ys =
      sets_append (set l i x) (suc i) xs ys ∙ ap (λ (k : ℕ). sets (sets (set l i x) (suc i) xs) k ys) (suc-add i (length xs) ∙ sym (add-suc i (length xs)))

  -- written past the end: nothing changes
  pub sets_past : (l : List A) (i : ℕ) (xs : List A) → length l ≤ i → sets l i xs ≡ l
  sets_past l i [] h = refl
  sets_past l i (x ∷ xs) h = ap (λ (r : List A). sets r (suc i) xs) (set_out l i x h) ∙ sets_past l (suc i) xs (omega arith)

  -- what fits is all that counts
  pub sets_take : (l : List A) (i : ℕ) (xs : List A) (n : ℕ) → length l ≤ i + n → sets l i (take n xs) ≡ sets l i xs
  sets_take l i xs zero h = sym (sets_past l i xs (omega arith))
  sets_take l i [] (suc n) h = refl
  sets_take l i (x ∷ xs) (suc n) h = sets_take (set l i x) (suc i) xs n (rw length-set (omega arith))

  -- the same, where the number that fits is known
  pub sets_fitting : (l : List A) (i : ℕ) (xs : List A) → sets l i (take (min (length xs) (length l - i)) xs) ≡ sets l i xs
  sets_fitting l i xs = ⊎_elim whole part (le_or_lt (length xs) (length l - i))
    where
      n : ℕ
      n = min (length xs) (length l - i)

      whole : length xs ≤ length l - i → sets l i (take n xs) ≡ sets l i xs
      whole h = ap (sets l i) (take_all n xs (omega arith))

      part : length l - i < length xs → sets l i (take n xs) ≡ sets l i xs
      part h = sets_take l i xs n (omega arith)

  -- one more element of xs written
  pub sets_suc : (l : List A) (i : ℕ) (xs : List A) (j : ℕ) (d : A) → j < length xs → set (sets l i (take j xs)) (i + j) (get_or xs j d) ≡ sets l i (take (suc j) xs)
  sets_suc l i xs j d h =
      ap (λ (k : ℕ). set (sets l i (take j xs)) (i + k) (get_or xs j d)) (sym (length-take-le j xs (omega arith)))
      ∙ sym (sets_append l i (take j xs) (get_or xs j d ∷ [])) ∙ ap (sets l i) (sym (take-suc xs j d h))

  -- a list written where it fits is a copy of it
  pub sets_paste : (l : List A) (i : ℕ) (xs : List A) → i + length xs ≤ length l → sets l i xs ≡ paste l i xs (length xs)
  sets_paste l i xs h = sets-eq xs l i h ∙ ap (λ (r : List A). take i l ++ r ++ drop (i + length xs) l) (sym (take-length xs))

  -- ---- one element

  -- an element before what is written
  pub get_d_sets_before : (l : List A) (i : ℕ) (xs : List A) (j : ℕ) (d : A) → j < i → get_or (sets l i xs) j d ≡ get_or l j d
  get_d_sets_before l i [] j d h = refl
  get_d_sets_before l i (x ∷ xs) j d h = get_d_sets_before (set l i x) (suc i) xs j d (omega arith) ∙ get_or-set_other l i j x d (λ e. omega arith)

  -- an element after it
  pub get_d_sets_after : (l : List A) (i : ℕ) (xs : List A) (j : ℕ) (d : A) → i + length xs ≤ j → get_or (sets l i xs) j d ≡ get_or l j d
  get_d_sets_after l i [] j d h = refl
  get_d_sets_after l i (x ∷ xs) j d h =
      get_d_sets_after (set l i x) (suc i) xs j d (omega arith) ∙ get_or-set_other l i j x d (λ e. omega arith)

  -- element k of what was written
  pub get_d_sets : (l : List A) (i : ℕ) (xs : List A) (k : ℕ) (d : A) → k < length xs → i + k < length l → get_or (sets l i xs) (i + k) d ≡ get_or xs k d
  get_d_sets l i [] k d h f = absurd (omega arith)
  get_d_sets l i (x ∷ xs) zero d h f =
      ap (λ (j : ℕ). get_or (sets (set l i x) (suc i) xs) j d) (add-zero i) ∙ get_d_sets_before (set l i x) (suc i) xs i d (omega arith)
      ∙ get_or-set_same l i x d (omega arith)
  get_d_sets l i (x ∷ xs) (suc k) d h f =
      ap (λ (j : ℕ). get_or (sets (set l i x) (suc i) xs) j d) (add-suc i k ∙ sym (suc-add i k))
      ∙ get_d_sets (set l i x) (suc i) xs k d (omega arith) (rw length-set (omega arith))

  -- the same, by the element's place in the list
  pub get_d_sets_at : (l : List A) (i : ℕ) (xs : List A) (j : ℕ) (d : A) → i ≤ j → j < i + length xs → j < length l → get_or (sets l i xs) j d ≡ get_or xs (j - i) d
  get_d_sets_at l i xs j d a b f =
      let e : j ≡ i + (j - i) = omega arith in
      ap (λ (k : ℕ). get_or (sets l i xs) k d) e ∙ get_d_sets l i xs (j - i) d (omega arith) (omega arith)

  -- ---- a part

  -- the first b, before what is written
  pub take_sets : (l : List A) (i : ℕ) (xs : List A) (b : ℕ) → b ≤ i → take b (sets l i xs) ≡ take b l
  take_sets l i [] b h = refl
  take_sets l i (x ∷ xs) b h = take_sets (set l i x) (suc i) xs b (omega arith) ∙ take-set-le b l i x h

  -- what lies after what is written
  pub drop_sets : (l : List A) (i : ℕ) (xs : List A) (b : ℕ) → i + length xs ≤ b → drop b (sets l i xs) ≡ drop b l
  drop_sets l i [] b h = refl
  drop_sets l i (x ∷ xs) b h = drop_sets (set l i x) (suc i) xs b (omega arith) ∙ drop-set-lt b l i x (omega arith)

  -- a part, as the end of a front
  drop_take : (b n : ℕ) (l : List A) → take n (drop b l) ≡ drop b (take (b + n) l)
  drop_take zero n l = ap (λ (k : ℕ). take k l) (sym (zero-add n))
  drop_take (suc b) n [] = take-nil n ∙ ap (drop (suc b)) (sym (take-nil (suc b + n)))
  drop_take (suc b) n (x ∷ xs) = drop_take b n xs ∙ ap (λ (k : ℕ). drop (suc b) (take k (x ∷ xs))) (sym (suc-add b n))

  -- a part that ends before what is written
  pub part_before : (l : List A) (i : ℕ) (xs : List A) (b n : ℕ) → b + n ≤ i → take n (drop b (sets l i xs)) ≡ take n (drop b l)
  part_before l i xs b n h = drop_take b n (sets l i xs) ∙ ap (drop b) (take_sets l i xs (b + n) h) ∙ sym (drop_take b n l)

  -- a part that starts after it
  pub part_after : (l : List A) (i : ℕ) (xs : List A) (b n : ℕ) → i + length xs ≤ b → take n (drop b (sets l i xs)) ≡ take n (drop b l)
  part_after l i xs b n h = ap (take n) (drop_sets l i xs b h)

  -- from the place on: what was written, then what was there
  pub drop_sets_at : (l : List A) (i : ℕ) (xs : List A) → i + length xs ≤ length l → drop i (sets l i xs) ≡ xs ++ drop (i + length xs) l
  drop_sets_at l i xs h =
      ap (drop i) (sets-eq xs l i h ∙ append_assoc (take i l) xs (drop (i + length xs) l))
      ∙ drop_at (take i l) (xs ++ drop (i + length xs) l) i (length-take-le i l (omega arith))

  -- a part of what was written
  pub part_within : (l : List A) (i : ℕ) (xs : List A) (k n : ℕ) → k + n ≤ length xs → i + length xs ≤ length l → take n (drop (i + k) (sets l i xs)) ≡ take n (drop k xs)
  part_within l i xs k n h f =
      let r : List A = drop (i + length xs) l in
      let m : n ≤ length (drop k xs) = rw length-drop (omega arith) in
      ap (take n) (sym (drop-drop k i (sets l i xs)) ∙ ap (drop k) (drop_sets_at l i xs f) ∙ drop-append-le k xs r (omega arith))
      ∙ take-append-le n (drop k xs) r m

  -- all that was written
  pub part_sets : (l : List A) (i : ℕ) (xs : List A) (n : ℕ) → n ≡ length xs → i + n ≤ length l → take n (drop i (sets l i xs)) ≡ xs
  part_sets l i xs n e f = ap (take n) (drop_sets_at l i xs (omega arith)) ∙ take_at xs (drop (i + length xs) l) n (sym e)

  -- the same, written at the front
  pub front_sets : (l : List A) (xs : List A) → length xs ≤ length l → take (length xs) (sets l 0 xs) ≡ xs
  front_sets l xs f = part_sets l 0 xs (length xs) refl (omega arith)
