-- The layouts of a sender's submission (18 octets) and its deadline (9). What is absent is 0. Assumes nothing.
use Rattle.std.specs.Prelude.{◌≡◌, cond, eqb, length, get_or, drop, Option, Some, None}
use Rattle.std.proofs.Math.Path.{refl}
use Rattle.std.proofs.Common.{sym, drop-drop, get_or-drop}
use mathlib.Core.List.{List, [], ◌∷◌, ◌++◌}
use Prim.Native.Nat.{ℕ, ◌+◌, ◌<◌}
use Rattle.std.proofs.Math.Seq.{sets}
use Rattle.std.specs.Int.{from_bool}
use Rattle.std.specs.Option.{is_some, unwrap_or}
use Rattle.sender.specs.declared.Submission.{Submission}
use Rattle.image.specs.Spelling.{Layout, spell_octet, read_octet, AnyOctet, octet_layout, spell_both, read_both, both_layout, as_layout, put_next}
use Rattle.image.specs.Numbers.{spell, number_of, number_layout}
pub use Rattle.image_link.specs.Deadlines.{deadline_flag, deadline_or0, deadline_from, DeadlineFits, deadline_layout}
unfoldable pub use Rattle.image_link.specs.Deadlines.{deadline_image, deadline_of}

-- ---- a submission: flag, ticket, index, prepared reading

-- what stands in the place of an absent one: all 0
abbrev pub no_submission : Submission
no_submission = record { ticket = 0; index = 0; prepared_monotonic_ms = 0 }

abbrev pub current_flag : Option Submission → ℕ
current_flag c = from_bool (is_some c)

abbrev pub submission_in : Option Submission → Submission
submission_in c = unwrap_or c no_submission

unfoldable pub submission_image : Submission → List ℕ
submission_image x = spell 8 x.ticket ++ (x.index ∷ spell 8 x.prepared_monotonic_ms)

unfoldable pub submission_of : List ℕ → Submission
submission_of l = record { ticket = number_of 8 l; index = get_or l 8 0; prepared_monotonic_ms = number_of 8 (drop 9 l) }

pub record SubmissionFits (x : Submission) : Type 0 where
  pub ticket : x.ticket < 18446744073709551616
  pub prepared : x.prepared_monotonic_ms < 18446744073709551616

unfoldable pub current_image : Option Submission → List ℕ
current_image c = current_flag c ∷ submission_image (submission_in c)

abbrev pub current_from : ℕ → Submission → Option Submission
current_from flag x = cond (eqb flag 0) None (Some x)

unfoldable pub current_of : List ℕ → Option Submission
current_of l = current_from (get_or l 0 0) (submission_of (drop 1 l))

abbrev pub CurrentFits : Option Submission → Type 0
CurrentFits c = SubmissionFits (submission_in c)

-- ---- laws of a submission

abbrev Fit : ℕ → Type 0
Fit x = x < 18446744073709551616

abbrev read_parts : List ℕ → ℕ × (ℕ × ℕ)
read_parts = read_both (number_of 8) 8 (read_both read_octet 1 (number_of 8))

submission_parts : Layout (spell_both (spell 8) (spell_both spell_octet (spell 8))) read_parts 17 (λ x. Fit x.0 × (AnyOctet x.1.0 × Fit x.1.1))
submission_parts = both_layout (number_layout 8) (both_layout octet_layout (number_layout 8))

submission_reads : (l : List ℕ) → submission_of l ≡ record { ticket = (read_parts l).0; index = (read_parts l).1.0; prepared_monotonic_ms = (read_parts l).1.1 }
unfolding submission_of
submission_reads l = sym (simp (drop-drop, get_or-drop))

pub submission_wide : (x : Submission) → length (submission_image x) ≡ 17
unfolding submission_image spell
submission_wide x = refl

pub submission_layout : Layout submission_image submission_of 17 SubmissionFits
unfolding submission_image
submission_layout =
    as_layout submission_parts (λ x. record { ticket = x.0; index = x.1.0; prepared_monotonic_ms = x.1.1 }) (λ x. (x.ticket, (x.index, x.prepared_monotonic_ms)))
    (λ x. refl) submission_image submission_of SubmissionFits (λ x. refl) submission_reads (λ x f. (f.ticket, (tt, f.prepared)))
    (λ l. submission_wide (submission_of l))

current_same : (c : Option Submission) → current_from (current_flag c) (submission_in c) ≡ c
current_same None = refl
current_same (Some x) = refl

pub current_wide : (c : Option Submission) → length (current_image c) ≡ 18
unfolding current_image submission_image spell
current_wide c = refl

current_parts : Layout (spell_both spell_octet submission_image) (read_both read_octet 1 submission_of) 18 (λ x. AnyOctet x.0 × SubmissionFits x.1)
current_parts = both_layout octet_layout submission_layout

pub current_layout : Layout current_image current_of 18 CurrentFits
unfolding current_image current_of
current_layout =
    as_layout current_parts (λ x. current_from x.0 x.1) (λ c. (current_flag c, submission_in c)) current_same current_image current_of CurrentFits (λ c. refl) (λ l. refl)
    (λ c f. (tt, f))
    (λ l. current_wide (current_of l))

-- written one after another
module _ (l : List ℕ) (at : ℕ) (c : Option Submission) where
  pub current_put : (x y z t : List ℕ) → x ≡ sets l at (current_flag c ∷ []) → y ≡ sets x (at + 1) (spell 8 (submission_in c).ticket) → z ≡ sets y (at + 9) ((submission_in c).index ∷ [])
      → t ≡ sets z (at + 10) (spell 8 (submission_in c).prepared_monotonic_ms) → t ≡ sets l at (current_image c)
  unfolding current_image submission_image spell
  current_put x y z t p q r s =
      let a : List ℕ = current_flag c ∷ [] in
      let b : List ℕ = spell 8 (submission_in c).ticket in
      let d : List ℕ = (submission_in c).index ∷ [] in
      let two : y ≡ sets l at (a ++ b) = put_next l at a b x y (at + 1) 1 p refl refl q in
      let three : z ≡ sets l at (a ++ b ++ d) = put_next l at (a ++ b) d y z (at + 9) 9 two refl refl r in
      put_next l at (a ++ b ++ d) (spell 8 (submission_in c).prepared_monotonic_ms) z t (at + 10) 10 three refl refl s

-- read one by one
pub current_flat : (l : List ℕ) → current_of l ≡ current_from (get_or l 0 0) (record { ticket = number_of 8 (drop 1 l); index = get_or l 9 0; prepared_monotonic_ms = number_of 8 (drop 10 l) })
unfolding current_of submission_of
current_flat l = simp (get_or-drop, drop-drop)
