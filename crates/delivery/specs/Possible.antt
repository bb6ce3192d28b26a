-- A record that calls have left is none of 62's impossible ones, so that no call of any list is refused with 62.
use Rattle.std.specs.Prelude.{ℕ, suc, ◌≤◌, ◌<◌, ◌≡◌, refl, List, [], ◌∷◌, Bool, true, false, cond, ◌&&◌, ◌||◌, eqb, ltb, Option, Some, None}
use Rattle.std.proofs.Common.{sym, ◌∙◌, subst, arith}
use Rattle.std.proofs.Math.Path.{ap}
use Rattle.std.proofs.Math.Bool.{not, and-false}
use Rattle.std.proofs.lemmas.Bool.{false≢true}
use Rattle.std.proofs.Math.Decide.{ℕ_discrete}
use Rattle.std.proofs.Math.Dec.{leb}
use borrow.Author.Tests.{ltb-true, le-ltb, le-leb, eq-eqb, not-false}
use Rattle.words.specs.Marks.{marked, all_below}
use Rattle.words.specs.Search.{all_below_true, all_below_all, all_below_false}
use Rattle.words.specs.declared.Words.{Words}
use Rattle.link.specs.Profile.{known_profile}
use Rattle.tsar.specs.Rows.{Refusal, first_of, refusal, refusal_none, any_pass}
use Rattle.tsar.specs.Kinds.{is_begin, is_end}
use Rattle.receiver.specs.declared.Terms.{Terms}
use Rattle.receiver.specs.declared.Receiver.{Receiver}
use Rattle.receiver.specs.Record.{taking, receiving, complete, receiving_or_complete, running, past_end, kind_at, held_length, sum_to, gap, faults, impossible}
use Rattle.receiver.specs.Answers.{Answer, refused, answered, Step}
use Rattle.receiver.specs.Receive.{Arrival, receive_rows, slot_rules, settle, Outcome, fails, repeats, closes, keeps, finishes}
use Rattle.receiver.specs.Advance.{made_after, try_new_rows, try_new_of, clock_rows, fires, cancel_rows, release_rows}
use Rattle.delivery.specs.Calls.{Call, receive, advance, cancel, release, Left, start, step_of, after}
use Rattle.delivery.specs.Demand.{NoneRefusedWith62}
use Rattle.delivery.specs.Lists.{never, sum_to_zero}
use Rattle.delivery.specs.Rules.{by_receive, by_advance, by_cancel, by_release}
use Rattle.delivery.specs.Message.{octets_small}
use Rattle.delivery.specs.Body.{BodyOf, Holds}
use Rattle.delivery.specs.Invariant.{InvOf, open_takes, shut, start_inv}
pub use Rattle.delivery.specs.Ready.{filled, Ready, ReadyOf, receive_ready, advance_ready, cancel_ready, release_ready, then_ready, start_ready, after_both}

-- what is full up to its end has no gap before it
filled_gap : (held : Words) (z : Option ℕ) → filled held z ≡ true → gap held z ≡ false
filled_gap held None e = absurd (false≢true e)
filled_gap held (Some e) f = ap not (all_below_all e (marked held) (λ i l. all_below_true (suc e) (marked held) f i (omega arith)))

-- what try_new makes is of a known profile: it passed 64
pub profile_known : (t : Terms) (made : ℕ) → (try_new_of t made).refused ≡ None → known_profile t.profile ≡ true
unfolding try_new_of
profile_known t made e = not-false _ (refusal_none (try_new_rows t) (passed (refusal (try_new_rows t)) e) 2)
  where
    passed : (v : Option Refusal) → (made_after v t made).refused ≡ None → v ≡ None
    passed (Some n) f = f
    passed None f = refl

-- ---- none of 62's tests holds

module _ (t : Terms) (w : Left) (I : InvOf t w) (S : ReadyOf w.receiver) where
  abbrev q : Receiver
  q = w.receiver

  -- nothing is held in a closed one
  free : taking q.progress.state ≡ false → (s : ℕ) → s < 256 → marked q.held s ≡ false
  free k = I.empty (rw ((shut q.progress.state k).1, (shut q.progress.state k).2))

  -- by whether it takes segments: then its body is known, and else nothing is held
  by_taking : (P : Type 0) → (BodyOf q w.store w.accepted → P) → (q.progress.stored_octets ≡ 0 → ((s : ℕ) → s < 256 → marked q.held s ≡ false) → P) → P
  by_taking P yes' no' = go (taking q.progress.state) refl
    where
      go : (b : Bool) → taking q.progress.state ≡ b → P
      go true k = yes' (I.body k)
      go false k = no' (S.no_octets k) (free k)

  -- no held length passes 255
  lengths_small : (s : ℕ) → s < 256 → held_length q.held q.lengths s ≤ 255
  lengths_small s h =
      by_taking (held_length q.held q.lengths s ≤ 255)
      (λ B. octets_small B s h)
      (λ c f. rw (f s h) (omega arith))

  -- the count is the sum of held lengths
  sum_is : q.progress.stored_octets ≡ sum_to 256 (held_length q.held q.lengths)
  sum_is =
      by_taking (q.progress.stored_octets ≡ sum_to 256 (held_length q.held q.lengths)) (λ B. sym B.sums)
      (λ c f. c ∙ sym (sum_to_zero 256 (held_length q.held q.lengths) (λ s h. rw (f s h))))

  -- and at most the maximum
  within : q.progress.stored_octets ≤ q.terms.maximum_message_octets
  within = by_taking (q.progress.stored_octets ≤ q.terms.maximum_message_octets) (λ B. B.bounded) (λ c f. omega arith)

  -- no slot is held outside Receiving and Complete
  none_held : (not (receiving_or_complete q.progress.state) && not (all_below 256 (λ t. not (marked q.held t)))) ≡ false
  none_held = go (receiving_or_complete q.progress.state) refl
    where
      go : (b : Bool) → receiving_or_complete q.progress.state ≡ b → (not b && not (all_below 256 (λ t. not (marked q.held t)))) ≡ false
      go true e = refl
      go false e = ap not (all_below_all 256 (λ t. not (marked q.held t)) (λ i h. ap not (I.empty e i h)))

  -- in those two slot 0 is a held Begin
  begins : (receiving_or_complete q.progress.state && not (marked q.held 0 && is_begin (kind_at q 0))) ≡ false
  begins = go (receiving_or_complete q.progress.state) refl
    where
      go : (b : Bool) → receiving_or_complete q.progress.state ≡ b → (b && not (marked q.held 0 && is_begin (kind_at q 0))) ≡ false
      go true e = ap not (S.begun e)
      go false e = refl

  -- no slot is held past the end
  none_past : (s : ℕ) → s < 256 → not (past_end q.progress.end_sequence s && marked q.held s) ≡ true
  none_past s h =
      by_taking (not (past_end q.progress.end_sequence s && marked q.held s) ≡ true) (λ B. past B q.progress.end_sequence refl)
      (λ c f. rw (f s h) (ap not (and-false (past_end q.progress.end_sequence s))))
    where
      at_end : BodyOf q w.store w.accepted → (e : ℕ) → q.progress.end_sequence ≡ Some e → (b : Bool) → ltb e s ≡ b → not (b && marked q.held s) ≡ true
      at_end B e p true l = ap not (B.within e p s (ltb-true e s l) h)
      at_end B e p false l = refl

      past : BodyOf q w.store w.accepted → (z : Option ℕ) → q.progress.end_sequence ≡ z → not (past_end z s && marked q.held s) ≡ true
      past B None p = refl
      past B (Some e) p = at_end B e p (ltb e s) refl

  -- no deadline runs outside Receiving
  idle_else : (not (receiving q.progress.state) && running q.progress.deadline_monotonic_ms) ≡ false
  idle_else = go (receiving q.progress.state) refl
    where
      go : (b : Bool) → receiving q.progress.state ≡ b → (not b && running q.progress.deadline_monotonic_ms) ≡ false
      go true e = refl
      go false e = rw (S.idle e)

  -- Complete has an end and no gap before it
  no_gap : (complete q.progress.state && gap q.held q.progress.end_sequence) ≡ false
  no_gap = go (complete q.progress.state) refl
    where
      go : (b : Bool) → complete q.progress.state ≡ b → (b && gap q.held q.progress.end_sequence) ≡ false
      go true e = filled_gap q.held q.progress.end_sequence (S.full e)
      go false e = refl

  -- the profile is one of the two, as try_new's was
  known : known_profile t.profile ≡ true → not (known_profile q.terms.profile) ≡ false
  known k = ap not (ap (λ (z : Terms). known_profile z.profile) I.same ∙ k)

  -- a reached record is none of 62's
  pub possible : known_profile t.profile ≡ true → impossible q ≡ false
  unfolding impossible
  possible k = any_pass (faults q) (
    ap not (all_below_all 256 (λ t. leb (held_length q.held q.lengths t) 255) (λ t h. le-leb (held_length q.held q.lengths t) 255 (lengths_small t h))),
    (
      ap not (eq-eqb _ _ sum_is),
      (
        le-ltb _ _ within,
        (
          none_held,
          (
            begins,
            (
              ap not (all_below_all 256 (λ t. not (past_end q.progress.end_sequence t && marked q.held t)) none_past),
              (
                idle_else,
                (
                  no_gap,
                  (
                    known k,
                    tt,
                  ),
                ),
              ),
            ),
          ),
        ),
      ),
    ),
  )

  -- with a known end, that slot holds an End
  pub end_held : taking q.progress.state ≡ true → (e : ℕ) → q.progress.end_sequence ≡ Some e → (marked q.held e ≡ true) × (is_end (kind_at q e) ≡ true)
  end_held k e p =
      let o = (I.body k).ended e p in
      let h = subst (Holds q.held q.lengths q.slots w.store e) o.1.found ((I.body k).holds e o.0) in
      (h.0, ap is_end h.1 ∙ o.1.is_end_lem)

  -- Receiving with a known end has a gap below it
  pub gap_below : receiving q.progress.state ≡ true → (e : ℕ) → q.progress.end_sequence ≡ Some e → (i : ℕ) × (i < e) × (marked q.held i ≡ false)
  gap_below k e p = below (all_below_false (suc e) (marked q.held) (rw p at (S.unfilled k)))
    where
      last_held : marked q.held e ≡ true
      last_held = (end_held (open_takes q.progress.state (ap (λ (b : Bool). b || complete q.progress.state) k)) e p).0

      below : (i : ℕ) × (i < suc e) × (marked q.held i ≡ false) → (i : ℕ) × (i < e) × (marked q.held i ≡ false)
      below g = go (ℕ_discrete g.0 e)
        where
          go : Dec (g.0 ≡ e) → (i : ℕ) × (i < e) × (marked q.held i ≡ false)
          go (yes z) = never _ g.2 (rw z last_held)
          go (no z) = (g.0, omega (arith, g.1), g.2)

-- ---- no call is refused with 62

-- the number of an answer's refusal
abbrev number_of : Answer → ℕ
number_of (refused n) = n.0
number_of (answered x m) = 0

-- each row whose test holds has another number
abbrev Not62 : List (Bool × Refusal) → Type 0
Not62 [] = Unit {0}
Not62 (c ∷ cs) = (c.0 ≡ true → eqb c.1.0 62 ≡ false) × Not62 cs

-- such rows do not refuse with 62
other_number : (cs : List (Bool × Refusal)) → Not62 cs → (n : Refusal) → refusal cs ≡ Some n → n.0 ≡ 62 → ⊥
other_number [] h n e s = let z : ◌≡◌ {A = ℕ} 0 1 = cc in omega arith
other_number (c ∷ cs) h n e s = go c.0 refl (other_number cs h.1 n) e
  where
    go : (b : Bool) → c.0 ≡ b → (refusal cs ≡ Some n → n.0 ≡ 62 → ⊥) → cond b (Some c.1) (refusal cs) ≡ Some n → ⊥
    go true q ih f = let z : c.1 ≡ n = cc in never _ (h.0 q) (eq-eqb _ _ (ap (λ (x : Refusal). x.0) z ∙ s))
    go false q ih f = ih f s

-- nor do the rules of the slots
settle_other : (interval : ℕ) (out : Outcome) (r : Receiver) (a : Arrival) (store o : List ℕ) → number_of (settle interval out r a store o).answer ≡ 62 → ⊥
settle_other interval (fails st n) r a store o e = omega arith
settle_other interval repeats r a store o e = omega arith
settle_other interval closes r a store o e = omega arith
settle_other interval keeps r a store o e = omega arith
settle_other interval finishes r a store o e = omega arith

module _ (interval : ℕ) (r : Receiver) (store : List ℕ) (ok : impossible r ≡ false) where
  abbrev Other : Step → Type 0
  Other st = number_of st.answer ≡ 62 → ⊥

  -- no call on a possible record is refused with 62
  no_62 : (c : Call) → Other (step_of interval r store c)
  no_62 (receive a o) =
      by_receive Other interval r a store o
      (λ n. other_number (receive_rows interval r a store o) (
        (λ t. refl),
        ((λ t. refl), ((λ t. never _ ok t), ((λ t. refl), ((λ t. refl), ((λ t. refl), ((λ t. refl), ((λ t. refl), ((λ t. refl), ((λ t. refl), ((λ t. refl), ((λ t. refl), ((λ t. refl), ((λ t. refl), ((λ t. refl), ((λ t. refl), ((λ t. refl), tt)))))))))))))))),
      ) n)
      (λ A f. omega arith) (λ f. omega arith) (λ A. settle_other interval (first_of (slot_rules r a store) keeps) r a store o)
  no_62 (advance now') =
      by_advance Other r store now' (λ n. other_number (clock_rows r store now') ((λ t. refl), ((λ t. never _ ok t), ((λ t. refl), tt))) n) (λ K b p e f. fired b p)
    where
      fired : (b p : Bool) → Other (fires b p r store now')
      fired false p f = omega arith
      fired true true f = omega arith
      fired true false f = omega arith
  no_62 (cancel now') =
      by_cancel Other r store now' (λ n. other_number (cancel_rows r store now') ((λ t. refl), ((λ t. never _ ok t), ((λ t. refl), ((λ t. refl), tt)))) n) (λ K s f. omega arith)
  no_62 (release now') =
      by_release Other r store now' (λ n. other_number (release_rows r store now') ((λ t. refl), ((λ t. never _ ok t), ((λ t. refl), ((λ t. refl), tt)))) n) (λ K s f. omega arith)

-- no call of any list is refused with 62
pub never_62 : (interval : ℕ) → NoneRefusedWith62 try_new_of (step_of interval)
never_62 interval t made e store cs h c f =
    let w = after (step_of interval) (start (try_new_of t made).receiver store) cs in
    let b = after_both interval t (start (try_new_of t made).receiver store) cs h (start_inv t made e store) (start_ready t made e) in
    no_62 interval w.receiver w.store (possible t w b.0 b.1 (profile_known t made e)) c (ap number_of f)
