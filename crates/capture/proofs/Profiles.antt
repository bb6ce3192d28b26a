-- The two sentences of a receiver line (docs/CAPTURE.md, 'Lines'; document 02, 2026-11). A line of the grammar without `profile` is read as before,
-- with profile 1; one with `profile` has the profile that it says, and no other line makes a receiver. Without `profile` behind the version a
-- line is told what it was told before, and of the words up to the version both sentences tell the same. Assumes nothing.
use Rattle.std.proofs.Common.{◌≡◌, ℕ, zero, suc, ◌+◌, ◌≤◌, ◌<◌, Bool, true, false, cond, List, [], ◌∷◌, ◌++◌, Result, Ok, Err, refl, sym, ap, ◌∙◌, arith, eqb, length}
use mathlib.Core.Logic.{◌⊎◌, inl, inr}
use Rattle.octets.specs.Octets.{same_octets, same_true}
use Rattle.capture.specs.declared.form.Keyword.{Keyword}
use Rattle.capture.specs.declared.form.Keyword.TheVariants as keyword
use Rattle.capture.specs.declared.form.Form.{Form}
use Rattle.capture.specs.declared.form.Form.TheVariants as form
use Rattle.capture.specs.declared.form.Sentence.TheVariants as sentence
use Rattle.capture.specs.declared.form.WordFault.{WordFault}
use Rattle.capture.specs.declared.form.WordFault.TheVariants as fault
use Rattle.capture.specs.declared.form.BadWord.{BadWord}
use Rattle.capture.specs.declared.line.Header.{Header}
use Rattle.capture.specs.declared.line.Line.TheVariants as line
use Rattle.capture.specs.declared.line.LineFault.TheVariants as wrong
use Rattle.capture.specs.Text.{word, after, word_at}
use Rattle.capture.specs.Hexadecimal.{octet_of, octet_or_zero}
use Rattle.capture.specs.Forms.{is, forms, form_at, check_of, bad_word, verdict_of, words_check, receiver_forms, last_forms}
use Rattle.capture.specs.LineLaws.{unless_says}
use Rattle.capture.specs.Lines.{value_at, small_at, protocol_of, peer_of, header_line, unless, receiver_line}

-- ---- the words of a line that passes

passed_both : (c : Result (Unit {0}) WordFault) (n : ℕ) (rest : Result (Unit {0}) BadWord) → verdict_of c n rest ≡ Ok tt → (c ≡ Ok tt) × (rest ≡ Ok tt)
passed_both (Ok p) n rest e = (refl, e)
passed_both (Err f) n rest e = cc

-- each word has the form of its place
each_passed : (fs : List Form) (n : ℕ) (t : List ℕ) (k : ℕ) → k < length fs → words_check fs n t ≡ Ok tt → check_of (form_at fs k) (word_at t k) ≡ Ok tt
unfolding words_check word_at
each_passed [] n t k h e = absurd (omega arith)
each_passed (f ∷ fs) n t zero h e = (passed_both (check_of f (word t)) n _ e).0
each_passed (f ∷ fs) n t (suc k) h e = each_passed fs (suc n) (after t) k (omega arith) (passed_both (check_of f (word t)) n _ e).1

-- a word that passes as a keyword is that
keyword_passed : (k : Keyword) (w : List ℕ) → check_of (form.Word k) w ≡ Ok tt → is k w ≡ true
keyword_passed k w = go (eqb (length w) 0) (is k w)
  where
    go : (none good : Bool)
        → cond none (Err (fault.Missing (form.Word k))) (cond good (Ok (tt {0})) (Err (fault.Wrong (form.Word k)))) ≡ Ok tt → good ≡ true
    go true good e = cc
    go false true e = refl
    go false false e = cc

maximum_no_profile : (w : List ℕ) → is keyword.Maximum w ≡ true → is keyword.Profile w ≡ false
unfolding same_octets
maximum_no_profile w e = ap (is keyword.Profile) (same_true w _ e)

-- ---- the first word that is wrong

same_place : (f g : WordFault) (n i : ℕ) → ◌≡◌ {A = Result (Unit {0}) BadWord} (Err (bad_word f n)) (Err (bad_word g i)) → n ≡ i
same_place f g n i e = let q : bad_word f n ≡ bad_word g i = cc in ap (λ (b : BadWord). b.at) q

-- it is none before the first that is looked at
bad_from : (fs : List Form) (n : ℕ) (t : List ℕ) (f : WordFault) (i : ℕ) → words_check fs n t ≡ Err (bad_word f i) → n ≤ i
unfolding words_check
bad_from [] n t f i = go (eqb (length (word t)) 0)
  where
    go : (none : Bool) → cond none (Ok (tt {0})) (Err (bad_word fault.Extra n)) ≡ Err (bad_word f i) → n ≤ i
    go true e = cc
    go false e = let q = same_place fault.Extra f n i e in omega arith
bad_from (g ∷ fs) n t f i = go (check_of g (word t)) (bad_from fs (suc n) (after t) f i)
  where
    go : (c : Result (Unit {0}) WordFault) → (words_check fs (suc n) (after t) ≡ Err (bad_word f i) → suc n ≤ i) → verdict_of c n (words_check fs (suc n) (after t)) ≡ Err (bad_word f i) → n ≤ i
    go (Err x) rest e = let q = same_place x f n i e in omega arith
    go (Ok p) rest e = let h = rest e in omega arith

-- forms that begin alike tell the same of a word that stands there
told_alike : (fs a b : List Form) (n : ℕ) (t : List ℕ) (f : WordFault) (i : ℕ) → i < n + length fs → words_check (fs ++ a) n t ≡ Err (bad_word f i)
    → words_check (fs ++ b) n t ≡ Err (bad_word f i)
unfolding words_check
told_alike [] a b n t f i h = λ e. let k = bad_from a n t f i e in absurd (omega arith)
told_alike (g ∷ fs) a b n t f i h = go (check_of g (word t)) (told_alike fs a b (suc n) (after t) f i (omega arith))
  where
    go : (c : Result (Unit {0}) WordFault) → (words_check (fs ++ a) (suc n) (after t) ≡ Err (bad_word f i) → words_check (fs ++ b) (suc n) (after t) ≡ Err (bad_word f i))
        → verdict_of c n (words_check (fs ++ a) (suc n) (after t)) ≡ Err (bad_word f i) → verdict_of c n (words_check (fs ++ b) (suc n) (after t)) ≡ Err (bad_word f i)
    go (Err x) rest e = e
    go (Ok p) rest e = rest e

-- ---- what makes a receiver, by the two sentences

-- what a line of the grammar before says, and the profile that it has now
abbrev pub plain_header : List ℕ → Header
plain_header t =
    record {
      peer = peer_of t;
      protocol = protocol_of (word_at t 6) (octet_or_zero (octet_of (word_at t 7)));
      transaction_id = small_at t 9;
      version = small_at t 11;
      profile = 1;
      maximum = value_at t 13;
      at = value_at t 15;
    }

-- with a profile the last two values stand two words further
abbrev pub profile_header : List ℕ → Header
profile_header t =
    record {
      peer = peer_of t;
      protocol = protocol_of (word_at t 6) (octet_or_zero (octet_of (word_at t 7)));
      transaction_id = small_at t 9;
      version = small_at t 11;
      profile = small_at t 13;
      maximum = value_at t 15;
      at = value_at t 17;
    }

module _ (t : List ℕ) where
  -- no `profile` behind the version: whatever was told of the line before is told of it now
  pub told_before : is keyword.Profile (word_at t 12) ≡ false → receiver_line t ≡ unless (words_check (forms sentence.Receiver) 0 t) (line.Receiver (plain_header t))
  unfolding receiver_line header_line
  told_before e = simp e

  told_profile : is keyword.Profile (word_at t 12) ≡ true → receiver_line t ≡ unless (words_check (forms sentence.ReceiverProfile) 0 t) (line.Receiver (profile_header t))
  unfolding receiver_line header_line
  told_profile e = simp e

  pub reads_before : words_check (forms sentence.Receiver) 0 t ≡ Ok tt → receiver_line t ≡ Ok (line.Receiver (plain_header t))
  reads_before g =
      let m : is keyword.Maximum (word_at t 12) ≡ true = keyword_passed keyword.Maximum (word_at t 12) (each_passed (forms sentence.Receiver) 0 t 12 (omega arith) g) in
      told_before (maximum_no_profile (word_at t 12) m) ∙ ap (λ (v : Result (Unit {0}) BadWord). unless v (line.Receiver (plain_header t))) g

  pub reads_profile : words_check (forms sentence.ReceiverProfile) 0 t ≡ Ok tt → receiver_line t ≡ Ok (line.Receiver (profile_header t))
  reads_profile g =
      told_profile (keyword_passed keyword.Profile (word_at t 12) (each_passed (forms sentence.ReceiverProfile) 0 t 12 (omega arith) g))
      ∙ ap (λ (v : Result (Unit {0}) BadWord). unless v (line.Receiver (profile_header t))) g

  -- nothing else does
  header_said : (v : Result (Unit {0}) BadWord) (x h : Header) → unless v (line.Receiver x) ≡ Ok (line.Receiver h) → (v ≡ Ok tt) × (h ≡ x)
  header_said v x h e = let u = unless_says v (line.Receiver x) (line.Receiver h) e in (u.0, cc)

  pub reads_no_other : (h : Header) → receiver_line t ≡ Ok (line.Receiver h)
      → ((words_check (forms sentence.Receiver) 0 t ≡ Ok tt) × (h ≡ plain_header t))
      ⊎ ((words_check (forms sentence.ReceiverProfile) 0 t ≡ Ok tt) × (h ≡ profile_header t))
  reads_no_other h e = go (is keyword.Profile (word_at t 12)) refl
    where
      go : (b : Bool) → is keyword.Profile (word_at t 12) ≡ b
          → ((words_check (forms sentence.Receiver) 0 t ≡ Ok tt) × (h ≡ plain_header t))
          ⊎ ((words_check (forms sentence.ReceiverProfile) 0 t ≡ Ok tt) × (h ≡ profile_header t))
      go false p = inl (header_said (words_check (forms sentence.Receiver) 0 t) (plain_header t) h (sym (told_before p) ∙ e))
      go true p = inr (header_said (words_check (forms sentence.ReceiverProfile) 0 t) (profile_header t) h (sym (told_profile p) ∙ e))

  -- ---- what is told of a line that is wrong

  -- up to the version it does not matter whether a profile is said
  pub told_front : (f : WordFault) (i : ℕ) → i < 12 → words_check (forms sentence.Receiver) 0 t ≡ Err (bad_word f i) → receiver_line t ≡ Err (wrong.Word (bad_word f i))
  told_front f i h e = go (is keyword.Profile (word_at t 12)) refl
    where
      alike : words_check (forms sentence.ReceiverProfile) 0 t ≡ Err (bad_word f i)
      alike = told_alike (receiver_forms []) last_forms (form.Word keyword.Profile ∷ form.Small ∷ last_forms) 0 t f i h e

      go : (b : Bool) → is keyword.Profile (word_at t 12) ≡ b → receiver_line t ≡ Err (wrong.Word (bad_word f i))
      go false p = told_before p ∙ ap (λ (v : Result (Unit {0}) BadWord). unless v (line.Receiver (plain_header t))) e
      go true p = told_profile p ∙ ap (λ (v : Result (Unit {0}) BadWord). unless v (line.Receiver (profile_header t))) alike
