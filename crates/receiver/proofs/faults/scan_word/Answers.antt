-- `scan_word` meets its contract: a word that marks nothing adds nothing, one that marks all adds all 64 lengths, any other those it marks. Assumes nothing.
use Prim.Native.Nat.{◌*◌, ◌+◌, ◌<◌, ℕ}
use Rattle.receiver.proofs.HeldSums.{all_set, upto_added, upto_run}
use Rattle.receiver.specs.Record.{held_length}
use Rattle.receiver.specs.Steps.{word_length}
use Rattle.words.specs.Laws.{marked_word, marked_zero}
use Rattle.words.specs.Marks.{bit, words_list}
use lib.ListN.{get_or}
use mathlib.Core.Bool.{Bool, cond}
use mathlib.Core.Path.{◌∙◌, ◌≡◌, ap, sym}
use native.Mathlib.Omega.{arith}
use Rattle.receiver.proofs.faults.scan_word.Goals as goal
use Rattle.receiver.proofs.faults.scan_word.Goals.{Start}

-- a word that is 0 marks no slot
clear : (c : Start) → get_or (words_list c.args.held) c.args.k 0 ≡ 0 → (j : ℕ) → j < 64 → held_length c.args.held c.args.lengths.now (64 * c.args.k + j) ≡ 0
clear c z j l =
    let x = c.args in
    ap (λ (b : Bool). cond b (get_or x.lengths.now (64 * x.k + j) 0) 0) (marked_zero x.held x.k (64 * x.k + j) z (omega arith) (omega arith))

pub returns-then-marks-eq0 : goal.returns-then-marks-eq0
returns-then-marks-eq0 c =
    let x = c.args in
    upto_run x.held x.lengths.now (64 * x.k) 64 x.found (λ j l. clear (goal.at.returns-then-marks-eq0 c).Start (sym c.word-marks.ensures ∙ c.if-marks-eq0.true) j l) c.requires.1

pub returns-then-marks : goal.returns-then-marks
returns-then-marks c =
    let x = c.args in
    upto_added x.held x.lengths.now (λ j. get_or x.lengths.now (64 * x.k + j) 0) (64 * x.k) 64 x.found c.scan_all.result
    (λ j h. sym (ap (λ (b : Bool). cond b (get_or x.lengths.now (64 * x.k + j) 0) 0) (marked_word x.held x.k j h ∙ ap (λ (w : ℕ). bit w j) (sym c.word-marks.ensures ∙ c.if-marks.true) ∙ all_set j h)))
    c.requires.1
    c.scan_all.ensures

pub returns : goal.returns
returns c =
    let x = c.args in
    upto_added x.held x.lengths.now (word_length c.word-marks.result x.lengths.now (64 * x.k)) (64 * x.k) 64 x.found c.scan_some.result
    (λ j h. ap (λ (b : Bool). cond b (get_or x.lengths.now (64 * x.k + j) 0) 0) (ap (λ (w : ℕ). bit w j) c.word-marks.ensures ∙ sym (marked_word x.held x.k j h)))
    c.requires.1
    c.scan_some.ensures
