-- What is done with the receiver of a section that has ended, by the octets that the code reads: the first of the memory, the state's and the
-- last reading. Where the memory is too short to have these the exports refuse either call, whatever the reading. Assumes nothing.
use Prim.Native.Nat.{ℕ, zero, suc, ◌≤◌, ◌<◌}
use mathlib.Core.Path.{◌≡◌, refl, sym, ap, ap₂, ◌∙◌}
use mathlib.Core.Bool.{Bool, true, false, cond}
use mathlib.Core.Logic.{⊎_elim}
use mathlib.Core.List.{List, []}
use Rattle.std.specs.Prelude.{Some}
use native.Mathlib.Omega.{arith}
use borrow.Author.Tests.{lt-ltb, le-ltb, eq-eqb, ne_eqb}
use lib.Dec.{eqb}
use lib.ListN.{length, get_or, drop, length-drop}
use lib.Seq.{drop-drop, get_or-drop}
use Rattle.octets.specs.Laws.{le_or_lt}
use Rattle.tsar.specs.Rows.{refusal, start, stop}
use Rattle.codec_c.specs.Codes.{code_of, short}
use Rattle.receiver.specs.Record.{taking}
use Rattle.image.specs.Numbers.{number_of}
use Rattle.receiver_image.specs.Parts.{state_from, state_of}
use Rattle.receiver_image.specs.Heads.{progress_of, head_of}
use Rattle.receiver_image.specs.Images.{record_of}
use Rattle.receiver_c.specs.Calls.{Call, call, closing_tests, cancel_call, release_call}
use Rattle.receiver_c.specs.Laws.{cancel_refused, release_refused}
use Rattle.report.specs.Outcome.{number_at}
use Rattle.bench.specs.Closing.{unchanged, closing_by, closing_call_of, close_call}

module _ (memory store : List ℕ) where
  -- ---- the last reading

  last_there : 3931 ≤ length memory → number_at 8 memory 51 ≡ (record_of memory).progress.last_monotonic_ms
  unfolding record_of head_of progress_of
  last_there h =
      let n = length-drop 51 memory in
      ap (λ (b : Bool). cond b 0 (number_of 8 (drop 51 memory))) (le-ltb (length (drop 51 memory)) 8 (omega arith)) ∙ ap (number_of 8) (sym (drop-drop 27 24 memory))

  -- a call that a memory that is too short refuses, whatever the reading, is the same at the reading that is read there
  at_last : (f : ℕ → Call) → (length memory < 3931 → (n : ℕ) → call (code_of short) memory store [] [] ≡ f n)
      → f (number_at 8 memory 51) ≡ f (record_of memory).progress.last_monotonic_ms
  at_last f refuses =
      ⊎_elim
      (λ (h : 3931 ≤ length memory). ap f (last_there h))
      (λ (h : length memory < 3931). sym (refuses h (number_at 8 memory 51)) ∙ refuses h (record_of memory).progress.last_monotonic_ms)
      (le_or_lt 3931 (length memory))

  too_short : length memory < 3931 → refusal (closing_tests memory) ≡ Some short
  too_short h = stop short (start (closing_tests memory)) (lt-ltb (length memory) 3931 h)

  cancel_at_last : cancel_call memory store (number_at 8 memory 51) ≡ cancel_call memory store (record_of memory).progress.last_monotonic_ms
  cancel_at_last = at_last (cancel_call memory store) (λ h n. cancel_refused memory store n short (too_short h))

  release_at_last : release_call memory store (number_at 8 memory 51) ≡ release_call memory store (record_of memory).progress.last_monotonic_ms
  release_at_last = at_last (release_call memory store) (λ h n. release_refused memory store n short (too_short h))

  -- ---- the state

  state_there : (record_of memory).progress.state ≡ state_from (get_or memory 24 0) (get_or memory 25 0)
  unfolding record_of head_of progress_of state_of
  state_there = ap₂ state_from (get_or-drop 24 memory 0 0) (get_or-drop 24 memory 1 0)

  by_number : (n s last : ℕ)
      → closing_by (state_from n s) memory store last
      ≡ cond (eqb n 2) (release_call memory store last) (cond (taking (state_from n 0)) (cancel_call memory store last) (unchanged memory store))
  by_number zero s last = refl
  by_number (suc zero) s last = refl
  by_number (suc (suc zero)) s last = refl
  by_number (suc (suc (suc zero))) s last = refl
  by_number (suc (suc (suc (suc zero)))) s last = refl
  by_number (suc (suc (suc (suc (suc zero))))) s last = refl
  by_number (suc (suc (suc (suc (suc (suc n)))))) s last =
      ap (λ (b : Bool). cond b (release_call memory store last) (cancel_call memory store last)) (sym (ne_eqb (suc (suc (suc (suc (suc (suc n)))))) 2 (λ e. absurd (omega arith))))

  -- ---- the four ways

  pub none_made : get_or memory 0 0 ≡ 0 → unchanged memory store ≡ close_call memory store
  unfolding close_call
  none_made e = ap (λ (b : Bool). cond b (unchanged memory store) (closing_call_of (record_of memory) memory store)) (sym (eq-eqb (get_or memory 0 0) 0 e))

  module _ (made : get_or memory 0 0 ≡ 0 → ⊥) where
    -- by two tests of the state's octet
    by_tests : (b t : Bool) → eqb (get_or memory 24 0) 2 ≡ b → taking (state_from (get_or memory 24 0) 0) ≡ t
        → cond b (release_call memory store (number_at 8 memory 51)) (cond t (cancel_call memory store (number_at 8 memory 51)) (unchanged memory store)) ≡ close_call memory store
    unfolding close_call
    by_tests b t p q =
        let last = (record_of memory).progress.last_monotonic_ms in
        ap₂ (λ (x y : Call). cond b x (cond t y (unchanged memory store))) release_at_last cancel_at_last
        ∙ sym
        (ap (λ (x : Bool). cond x (unchanged memory store) (closing_by (record_of memory).progress.state memory store last)) (ne_eqb _ _ made)
        ∙ ap (λ x. closing_by x memory store last) state_there
        ∙ by_number (get_or memory 24 0) (get_or memory 25 0) last
        ∙ ap₂ (λ (x y : Bool). cond x (release_call memory store last) (cond y (cancel_call memory store last) (unchanged memory store))) p q)

    pub when_complete : get_or memory 24 0 ≡ 2 → release_call memory store (number_at 8 memory 51) ≡ close_call memory store
    when_complete e = by_tests true _ (eq-eqb _ _ e) refl

    pub when_closed : (get_or memory 24 0 ≡ 2 → ⊥) → taking (state_from (get_or memory 24 0) 0) ≡ false → unchanged memory store ≡ close_call memory store
    when_closed e q = by_tests false false (ne_eqb _ _ e) q

    pub when_open : (get_or memory 24 0 ≡ 2 → ⊥) → taking (state_from (get_or memory 24 0) 0) ≡ true
        → cancel_call memory store (number_at 8 memory 51) ≡ close_call memory store
    when_open e q = by_tests false true (ne_eqb _ _ e) q
