-- Laws of the forms of a line.
use Rattle.std.specs.Prelude.{ℕ, zero, suc, ◌+◌, ◌-◌, ◌≤◌, ◌<◌, ◌≡◌, refl, List, length, get_or, drop}
use Rattle.std.proofs.Common.{sym, ap, ◌∙◌, arith, drop_of_length-le, drop-cons, get_or-take, get_or-drop}
use Rattle.capture.specs.declared.form.Keyword.{Keyword}
use Rattle.capture.specs.declared.form.Form.{Form}
use Rattle.capture.specs.declared.form.Form.TheVariants as form
use Rattle.capture.specs.declared.form.Sentence.TheVariants as sentence
use Rattle.capture.specs.Text.{word, after}
use Rattle.capture.specs.Forms.{timed_forms, forms, form_at, check_of, verdict_of, end_check, words_check}

-- within a list the default does not matter
pub any_default : (fs : List Form) (i : ℕ) (d e : Form) → i < length fs → get_or fs i d ≡ get_or fs i e
any_default fs i d e h = cc (drop-cons fs i d h, drop-cons fs i e h)

-- a line of a word and a number has numbers from place 1 on
pub timed_last : (k : Keyword) (i : ℕ) → 1 ≤ i → form_at (timed_forms k) i ≡ form.Number
timed_last k zero h = absurd (omega arith)
timed_last k (suc zero) h = refl
timed_last k (suc (suc i)) h = refl

-- up to the version both receiver lines have the same
pub profile_before : (i : ℕ) → i < 12 → form_at (forms sentence.Receiver) i ≡ form_at (forms sentence.ReceiverProfile) i
profile_before i h =
    sym (get_or-take 12 (forms sentence.Receiver) i form.Number h) ∙ get_or-take 12 (forms sentence.ReceiverProfile) i form.Number h

-- and behind the profile the one has what the other has two places before
pub profile_behind : (i : ℕ) → 14 ≤ i → form_at (forms sentence.Receiver) (i - 2) ≡ form_at (forms sentence.ReceiverProfile) i
profile_behind i h =
    let e : i - 2 ≡ 12 + (i - 14) = omega arith in
    let f : 14 + (i - 14) ≡ i = omega arith in
    ap (form_at (forms sentence.Receiver)) e ∙ sym (get_or-drop 12 (forms sentence.Receiver) (i - 14) form.Number)
    ∙ get_or-drop 14 (forms sentence.ReceiverProfile) (i - 14) form.Number ∙ ap (form_at (forms sentence.ReceiverProfile)) f

-- the first word that is left, against the first form that is left
pub words_at : (fs : List Form) (i : ℕ) (t : List ℕ) → i < length fs
    → words_check (drop i fs) i t ≡ verdict_of (check_of (form_at fs i) (word t)) i (words_check (drop (suc i) fs) (suc i) (after t))
unfolding words_check
words_at fs i t h = ap (λ (l : List Form). words_check l i t) (drop-cons fs i form.Number h)

-- no form is left
pub words_end : (fs : List Form) (i : ℕ) (t : List ℕ) → length fs ≤ i → words_check (drop i fs) i t ≡ end_check t i
unfolding words_check
words_end fs i t h = ap (λ (l : List Form). words_check l i t) (drop_of_length-le fs {i = i} h)
