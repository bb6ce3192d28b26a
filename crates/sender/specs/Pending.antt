-- Laws of the marks of n segments: which words have no mark at or past n, and when some segment is pending. Assumes nothing.
use Rattle.std.specs.Prelude.{ℕ, suc, ◌-◌, ◌≤◌, ◌<◌, ◌≡◌, refl, Bool, true, false, cond, not, ◌&&◌, ◌||◌, ◌⊎◌, eqb, leb, ltb, Option, Some, None}
use Rattle.std.proofs.Common.{sym, ap, ◌∙◌, true≢false, inl, inr, ⊎_elim, arith, ltb-true, eqb-true, eq-eqb, lt-ltb}
use Rattle.std.proofs.Math.Bool.{or-true}
use Rattle.std.proofs.lemmas.Bool.{lt-leb, not-true, not-false}
use Rattle.words.specs.Marks.{marked, words_of, no_marks, all_below}
use Rattle.words.specs.Search.{all_below_true, all_below_false, all_below_all, lowest_nothing}
use Rattle.words.specs.Laws.{marked_words_of, marked_none}
use Rattle.words.specs.declared.Words.{Words}
use Rattle.sender.specs.declared.Submission.{Submission}
use Rattle.response.specs.Responses.{entry_at, is_received}
use Rattle.response.specs.declared.AcknowledgmentMap.{AcknowledgmentMap}
use Rattle.sender.specs.declared.Progress.{Progress}
use Rattle.sender.specs.Record.{needs, has_pending, next_pending, submission_below, mark_past}
use Rattle.sender.specs.Steps.{with_last, or_last, unreceived, again, retry_by, marked_retry, marked_received, resent, last_if}
use Rattle.sender.specs.Calls.{acknowledges_unsubmitted}

-- ---- tests

pub and_both : (a b : Bool) → (a && b) ≡ true → (a ≡ true) × (b ≡ true)
and_both true b e = (refl, e)
and_both false b e = absurd (true≢false (sym e))

pub or_cases : (a b : Bool) → (a || b) ≡ true → (a ≡ true) ⊎ (b ≡ true)
or_cases true b e = inl refl
or_cases false b e = inr e

pub or_none : (a b : Bool) → (a || b) ≡ false → (a ≡ false) × (b ≡ false)
or_none true b e = absurd (true≢false e)
or_none false b e = (refl, e)

-- ---- words with no mark at or past n

abbrev pub Below : ℕ → Words → Type 0
Below n w = (i : ℕ) → i < 256 → marked w i ≡ true → i < n

-- of words made from a predicate
pub below_of : (n : ℕ) (f : ℕ → Bool) → ((i : ℕ) → i < 256 → f i ≡ true → i < n) → Below n (words_of f)
below_of n f h i l e = h i l (sym (marked_words_of f i l) ∙ e)

pub below_none : (n : ℕ) → Below n no_marks
below_none n i l e = absurd (true≢false (sym e ∙ marked_none i))

-- a mark more, below n
pub below_with : (n i : ℕ) (w : Words) → i < n → Below n w → Below n (words_of (λ j. eqb j i || marked w j))
below_with n i w l h =
    below_of n (λ j. eqb j i || marked w j)
    (λ j k e. ⊎_elim (λ (q : eqb j i ≡ true). let z = eqb-true j i q in omega arith) (λ (q : marked w j ≡ true). h j k q) (or_cases (eqb j i) (marked w j) e))

pub below_without : (n i : ℕ) (w : Words) → Below n w → Below n (words_of (λ j. not (eqb j i) && marked w j))
below_without n i w h =
    below_of n (λ j. not (eqb j i) && marked w j) (λ j k e. h j k (and_both (not (eqb j i)) (marked w j) e).1)

below_last : (n : ℕ) (w : Words) → 2 ≤ n → Below n w → Below n (with_last n w)
below_last n w l h =
    below_of n (λ j. eqb (suc j) n || marked w j)
    (λ j k e. ⊎_elim (λ (q : eqb (suc j) n ≡ true). let z = eqb-true (suc j) n q in omega arith) (λ (q : marked w j ≡ true). h j k q) (or_cases (eqb (suc j) n) (marked w j) e))

pub below_or_last : (n : ℕ) (s w : Words) → 2 ≤ n → Below n w → Below n (or_last n s w)
below_or_last n s w l h = go (has_pending n s w)
  where
    go : (b : Bool) → Below n (cond b w (with_last n w))
    go true = h
    go false = below_last n w l h

pub below_last_if : (b : Bool) (n : ℕ) (s w : Words) → 2 ≤ n → Below n w → Below n (last_if b n s w)
below_last_if true n s w l h = below_or_last n s w l h
below_last_if false n s w l h = h

-- what a predicate adds below n
front : (n i : ℕ) (t : Bool) (w : Words) → i < 256 → Below n w → (ltb i n && t || marked w i) ≡ true → i < n
front n i t w k h e = ⊎_elim (λ (q : (ltb i n && t) ≡ true). ltb-true i n (and_both (ltb i n) t q).0) (λ (q : marked w i ≡ true). h i k q) (or_cases (ltb i n && t) (marked w i) e)

pub below_again : (n : ℕ) (p : Progress) (c : Option Submission) → 2 ≤ n → submission_below c n ≡ true → Below n p.retry → Below n (again n p c)
below_again n p (Some x) l b h = below_with n x.index p.retry (ltb-true x.index n b) h
below_again n p None l b h =
    below_or_last n p.submitted (unreceived n p.received p.retry) l
    (below_of n (λ i. (ltb i n && not (marked p.received i)) || marked p.retry i) (λ i k e. front n i (not (marked p.received i)) p.retry k h e))

pub below_resent : (n : ℕ) (s w : Words) → Below n w → Below n (resent n s w)
below_resent n s w h = below_of n (λ i. (ltb i n && marked s i) || marked w i) (λ i k e. front n i (marked s i) w k h e)

pub below_marked : (n : ℕ) (s w : Words) (m : AcknowledgmentMap) (t : Bool) → Below n w → Below n (marked_retry n s w m t)
below_marked n s w m t h =
    below_of n (λ i. cond (ltb i n && marked s i) (retry_by (entry_at m i) t (marked w i)) (marked w i)) (λ i k. go i k (ltb i n && marked s i) refl)
  where
    go : (i : ℕ) → i < 256 → (b : Bool) → (ltb i n && marked s i) ≡ b → cond b (retry_by (entry_at m i) t (marked w i)) (marked w i) ≡ true → i < n
    go i k true q e = ltb-true i n (and_both (ltb i n) (marked s i) q).0
    go i k false q e = h i k e

pub below_received : (n : ℕ) (m : AcknowledgmentMap) → Below n (marked_received n m)
below_received n m =
    below_of n (λ i. ltb i n && is_received (entry_at m i)) (λ i k e. ltb-true i n (and_both (ltb i n) (is_received (entry_at m i)) e).0)

-- no mark past n: not impossible
pub past_none : (n : ℕ) (w : Words) → Below n w → mark_past w n ≡ false
past_none n w h = ap not (all_below_all 256 (λ i. not (leb n i && marked w i)) (λ i k. go i k (marked w i) refl))
  where
    go : (i : ℕ) → i < 256 → (b : Bool) → marked w i ≡ b → not (leb n i && marked w i) ≡ true
    go i k true e = rw (lt-leb n i (h i k e))
    go i k false e = ap (λ (b : Bool). not (leb n i && b)) e ∙ off (leb n i)
      where
        off : (b : Bool) → not (b && false) ≡ true
        off true = refl
        off false = refl

-- ---- received segments were submitted

-- an entry that says so is one of a submitted segment, where no entry is of an unsubmitted one
pub received_submitted : (n : ℕ) (s : Words) (m : AcknowledgmentMap) → acknowledges_unsubmitted n s m ≡ false → (i : ℕ) → i < 256 → marked (marked_received n m) i ≡ true → marked s i ≡ true
received_submitted n s m a i k e =
    let r : is_received (entry_at m i) ≡ true = (and_both (ltb i n) (is_received (entry_at m i)) (sym (marked_words_of (λ i. ltb i n && is_received (entry_at m i)) i k) ∙ e)).1 in
    let all = not-false (all_below 256 (λ i. not (ltb i m.bit_count && marked m.received i && not (ltb i n && marked s i)))) a in
    go (ltb i m.bit_count) (marked m.received i) (ltb i n && marked s i) refl r (all_below_true 256 (λ i. not (ltb i m.bit_count && marked m.received i && not (ltb i n && marked s i))) all i k)
  where
    go : (b c d : Bool) → (ltb i n && marked s i) ≡ d → is_received (cond b (cond c (Some true) (Some false)) None) ≡ true → not (b && c && not d) ≡ true → marked s i ≡ true
    go true true true q r h = (and_both (ltb i n) (marked s i) q).1
    go true true false q r h = absurd (true≢false (sym h))
    go true false d q r h = absurd (true≢false (sym r))
    go false c d q r h = absurd (true≢false (sym r))

-- ---- when some segment is pending

pub pending_next : (n : ℕ) (s w : Words) (i : ℕ) → i < n → needs s w i ≡ true → next_pending n s w ≡ None → ⊥
pending_next n s w i l h e = true≢false (sym h ∙ lowest_nothing (needs s w) n e i l)

needs_again : (s w : Words) (i : ℕ) → marked w i ≡ true → needs s w i ≡ true
needs_again s w i h = ap (λ (t : Bool). not (marked s i) || t) h ∙ or-true (not (marked s i))

-- a segment that is marked to be sent again
pub marked_next : (n : ℕ) (s w : Words) (i : ℕ) → i < n → marked w i ≡ true → next_pending n s w ≡ None → ⊥
marked_next n s w i l h = pending_next n s w i l (needs_again s w i h)

-- one that a predicate marks so
pub made_next : (n : ℕ) (s : Words) (f : ℕ → Bool) (i : ℕ) → n ≤ 256 → i < n → f i ≡ true → next_pending n s (words_of f) ≡ None → ⊥
made_next n s f i m l h = marked_next n s (words_of f) i l (marked_words_of f i (omega arith) ∙ h)

pub or_last_next : (n : ℕ) (s w : Words) → 2 ≤ n → n ≤ 256 → next_pending n s (or_last n s w) ≡ None → ⊥
or_last_next n s w l m = go (has_pending n s w) refl
  where
    go : (b : Bool) → has_pending n s w ≡ b → next_pending n s (cond b w (with_last n w)) ≡ None → ⊥
    go true q e =
        let z = all_below_false n (λ i. not (needs s w i)) (not-true (all_below n (λ i. not (needs s w i))) q) in
        pending_next n s w z.0 z.1 (not-false (needs s w z.0) z.2) e
    go false q e =
        made_next n s (λ i. eqb (suc i) n || marked w i) (n - 1) m (omega arith)
        (ap (λ (t : Bool). t || marked w (n - 1)) (eq-eqb (suc (n - 1)) n (omega arith))) e

pub last_if_next : (b : Bool) (n : ℕ) (s w : Words) → b ≡ true → 2 ≤ n → n ≤ 256 → next_pending n s (last_if b n s w) ≡ None → ⊥
last_if_next true n s w q l m = or_last_next n s w l m
last_if_next false n s w q l m = absurd (true≢false (sym q))

-- what is sent again at a due deadline
pub again_next : (n : ℕ) (p : Progress) (c : Option Submission) → 2 ≤ n → n ≤ 256 → submission_below c n ≡ true → next_pending n p.submitted (again n p c) ≡ None → ⊥
again_next n p (Some x) l m b =
    made_next n p.submitted (λ i. eqb i x.index || marked p.retry i) x.index m (ltb-true x.index n b)
    (ap (λ (t : Bool). t || marked p.retry x.index) (eq-eqb x.index x.index refl))
again_next n p None l m b = or_last_next n p.submitted (unreceived n p.received p.retry) l m

-- where some segment was submitted and all such are sent again
pub resent_next : (n : ℕ) (s w : Words) → n ≤ 256 → all_below n (λ i. not (marked s i)) ≡ false → next_pending n s (resent n s w) ≡ None → ⊥
resent_next n s w m h =
    let z = all_below_false n (λ i. not (marked s i)) h in
    let k = not-false (marked s z.0) z.2 in
    made_next n s (λ i. (ltb i n && marked s i) || marked w i) z.0 m z.1 (rw (lt-ltb z.0 n z.1, k))
