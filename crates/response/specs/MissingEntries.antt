-- What document 02, 2026-01, says of a map's figures: received and missing entries are all entries; the first is 256 exactly where none is
-- missing, and else it is a missing entry and all before it are received. The figures of a map of at most 256 entries are so, and no others are;
-- and so are those of every map that is built. Assumes nothing.
use Rattle.std.specs.Prelude.{ℕ, zero, suc, ◌+◌, ◌≤◌, ◌<◌, ◌≡◌, Bool, cond, ◌&&◌, ◌||◌, ◌↔◌, eqb, ltb, Option, Some, None}
use Rattle.std.proofs.Math.Path.{refl, ap}
use Rattle.std.proofs.Common.{sym, subst, ◌∙◌, true≢false, ⊎_elim, arith, lt-ltb, le-ltb, ltb-false}
use Rattle.std.proofs.Math.Bool.{true, false, not}
use Rattle.tsar.specs.Rows.{Refusal}
use Rattle.words.specs.Marks.{marked, count_below, lowest_of}
use Rattle.words.specs.Search.{lt_or_le, lowest_is, lowest_none, lowest_nothing}
use Rattle.words.specs.Counts.{count_ext, count_not, count_none, count_nothing}
use Rattle.response.specs.declared.AcknowledgmentMap.{AcknowledgmentMap}
use Rattle.response.specs.declared.Missing.{Missing}
use Rattle.response.specs.declared.BuiltMap.{BuiltMap}
use Rattle.response.specs.Responses.{map_length_refused, entry_at, is_missing, is_received, first_or256, figures_of, built_of, new_map}

-- how many entries of a map are received
abbrev pub received_entries : AcknowledgmentMap → ℕ
received_entries m = count_below m.bit_count (λ s. is_received (entry_at m s))

-- the first missing entry: it is an entry, it is missing, and all before it are received
pub record FirstMissing (m : AcknowledgmentMap) (first : ℕ) : Type 0 where
  pub within : first < m.bit_count
  pub is_missing_lem : entry_at m first ≡ (Some false)
  pub before : (s : ℕ) → s < first → entry_at m s ≡ (Some true)

-- what is said of a map's figures
pub record AreFigures (m : AcknowledgmentMap) (x : Missing) : Type 0 where
  pub all : received_entries m + x.count ≡ m.bit_count
  pub no_gap : (x.count ≡ 0) ↔ (x.first ≡ 256)
  pub gap : 0 < x.count → FirstMissing m x.first

module _ (m : AcknowledgmentMap) where
  abbrev missing : ℕ → Bool
  missing s = is_missing (entry_at m s)

  -- ---- an entry

  -- it is missing where it is one and not marked
  pub missing_is : (s : ℕ) → is_missing (entry_at m s) ≡ (ltb s m.bit_count && not (marked m.received s))
  missing_is s = go (ltb s m.bit_count) (marked m.received s)
    where
      go : (b t : Bool) → is_missing (cond b (cond t (Some true) (Some false)) None) ≡ (b && not t)
      go true true = refl
      go true false = refl
      go false t = refl

  -- past the length nothing is missing
  pub missing_past : (s : ℕ) → m.bit_count ≤ s → is_missing (entry_at m s) ≡ false
  missing_past s h = missing_is s ∙ ap (λ (b : Bool). b && not (marked m.received s)) (le-ltb s m.bit_count h)

  -- below it an entry that is not missing is received
  below_received : (s : ℕ) → s < m.bit_count → is_missing (entry_at m s) ≡ false → entry_at m s ≡ (Some true)
  below_received s h e = at_entry ∙ go (marked m.received s) (ap is_missing (sym at_entry) ∙ e)
    where
      at_entry : entry_at m s ≡ cond (marked m.received s) (Some true) (Some false)
      at_entry = ap (λ (b : Bool). cond b (cond (marked m.received s) (Some true) (Some false)) None) (lt-ltb s m.bit_count h)

      go : (t : Bool) → is_missing (cond t (Some true) (Some false)) ≡ false → cond t (Some true) (Some false) ≡ (Some true)
      go true q = refl
      go false q = absurd (true≢false q)

  -- an entry that is missing
  missing_entry : (x : Option Bool) → is_missing x ≡ true → x ≡ (Some false)
  missing_entry None e = absurd (true≢false (sym e))
  missing_entry (Some false) e = refl
  missing_entry (Some true) e = absurd (true≢false (sym e))

  -- ---- the figures

  all_entries : received_entries m + (figures_of m).count ≡ m.bit_count
  unfolding figures_of
  all_entries =
      ap (λ (k : ℕ). received_entries m + k)
      (count_ext m.bit_count missing (λ s. not (is_received (entry_at m s))) (λ s h. other s (ltb s m.bit_count) (marked m.received s) (lt-ltb s m.bit_count h)))
      ∙ count_not m.bit_count (λ s. is_received (entry_at m s))
    where
      other : (s : ℕ) (b t : Bool) → b ≡ true
          → is_missing (cond b (cond t (Some true) (Some false)) None) ≡ not (is_received (cond b (cond t (Some true) (Some false)) None))
      other s true true e = refl
      other s true false e = refl
      other s false t e = absurd (true≢false (sym e))

  -- no entry is missing: the first is 256
  none_first : (figures_of m).count ≡ 0 → (figures_of m).first ≡ 256
  unfolding figures_of
  none_first e = ap first_or256 (lowest_none missing m.bit_count (count_nothing m.bit_count missing e))

  -- and the first is 256 only then
  first_none : m.bit_count ≤ 256 → (figures_of m).first ≡ 256 → (figures_of m).count ≡ 0
  unfolding figures_of
  first_none l e = go (lowest_of missing m.bit_count) refl e
    where
      go : (x : Option ℕ) → lowest_of missing m.bit_count ≡ x → first_or256 x ≡ 256 → count_below m.bit_count missing ≡ 0
      go None p q = count_none m.bit_count missing (lowest_nothing missing m.bit_count p)
      go (Some k) p q = absurd (omega (arith, (lowest_is missing m.bit_count k p).within))

  first_missing : 0 < (figures_of m).count → FirstMissing m (figures_of m).first
  unfolding figures_of
  first_missing h = go (lowest_of missing m.bit_count) refl
    where
      go : (x : Option ℕ) → lowest_of missing m.bit_count ≡ x → FirstMissing m (first_or256 x)
      go None p =
          let z : count_below m.bit_count missing ≡ 0 = count_none m.bit_count missing (lowest_nothing missing m.bit_count p) in
          absurd (omega arith)
      go (Some k) p =
          let w = lowest_is missing m.bit_count k p in
          let l : k < m.bit_count = w.within in
          record { within = l; is_missing_lem = missing_entry (entry_at m k) w.holds; before = λ s q. below_received s (omega arith) (w.below s q) }

  -- of a map of at most 256 entries, as every map that is built: one read from octets may state more, and then 256 may be an entry
  pub are_figures : m.bit_count ≤ 256 → AreFigures m (figures_of m)
  are_figures l = record { all = all_entries; no_gap = (none_first, first_none l); gap = first_missing }

  -- two first missing entries are one
  one_first : (a b : ℕ) → FirstMissing m a → FirstMissing m b → a ≡ b
  one_first a b x y =
      ⊎_elim (λ (h : a < b). absurd (both (sym x.is_missing_lem ∙ y.before a h)))
      (λ (h : b ≤ a).
      ⊎_elim (λ (k : b < a). absurd (both (sym y.is_missing_lem ∙ x.before b k))) (λ (k : a ≤ b). omega arith) (lt_or_le b a))
      (lt_or_le a b)
    where
      both : (Some false) ≡ (Some true) → ⊥
      both e = true≢false (ap is_missing e)

  -- whatever figures are as said are these
  pub only_figures : m.bit_count ≤ 256 → (x : Missing) → AreFigures m x → x ≡ figures_of m
  only_figures l x h = λ i. record { count = counts i; first = firsts x.count refl i }
    where
      own : AreFigures m (figures_of m)
      own = are_figures l

      counts : x.count ≡ (figures_of m).count
      counts = omega (arith, h.all, own.all)

      firsts : (k : ℕ) → x.count ≡ k → x.first ≡ (figures_of m).first
      firsts zero e = h.no_gap.0 e ∙ sym (own.no_gap.0 (sym counts ∙ e))
      firsts (suc k) e =
          let z = counts in
          one_first x.first (figures_of m).first (h.gap (omega arith)) (own.gap (omega arith))

-- ---- of every map that is built

pub built_figures : (f : ℕ → Bool) (n : ℕ) → n ≤ 256 → AreFigures (built_of f n).map (built_of f n).missing
built_figures f n l = are_figures (built_of f n).map l

-- a length that is not refused is at most 256
pub not_refused : (n : ℕ) → map_length_refused n ≡ false → n ≤ 256
not_refused n e = go (eqb n 0) e
  where
    go : (t : Bool) → (t || ltb 256 n) ≡ false → n ≤ 256
    go true q = absurd (true≢false q)
    go false q = ltb-false 256 n q

-- so where try_new gives a map, its figures are so
pub new_figures : (f : ℕ → Bool) (n : ℕ) (b : BuiltMap) → (new_map f n).1 ≡ Some b → AreFigures b.map b.missing
new_figures f n b e = go (map_length_refused n) refl e
  where
    go : (t : Bool) → map_length_refused n ≡ t → (cond {A = Option Refusal × Option BuiltMap} t (Some (6, 6), None) (None, Some (built_of f n))).1 ≡ Some b → AreFigures b.map b.missing
    go true p q = absurd (let z : ◌≡◌ {A = ℕ} 0 1 = cc in omega arith)
    go false p q =
        let y : built_of f n ≡ b = cc in
        subst (λ (x : BuiltMap). AreFigures x.map x.missing) y (built_figures f n (not_refused n p))
