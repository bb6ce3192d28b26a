-- What a call leaves, proved of our receiver: by the ways in which a call can end (Rules). Assumes nothing.
use Rattle.std.specs.Prelude.{ℕ, zero, suc, ◌*◌, ◌≤◌, ◌<◌, ◌≡◌, ◌⊎◌, List, [], ◌∷◌, Bool, not, ◌&&◌, ◌||◌, eqb, length, drop, set, Option, Some, None}
use Rattle.std.proofs.Math.Path.{refl, ap}
use Rattle.std.proofs.Common.{sym, ◌∙◌, subst, inl, inr, ⊎_elim, length-append, length-take, get_or-set_other}
use Rattle.std.proofs.Math.Bool.{true, false}
use native.Mathlib.Omega.{arith}
use Rattle.std.proofs.Math.Decide.{ℕ_discrete}
use borrow.Author.Tests.{ltb-false, ltb-true, le-leb, leb-true, eqb-true, not-false}
use Rattle.std.proofs.Math.Dec.{leb}
use Rattle.std.proofs.Math.ListN.{get_or}
use Rattle.std.proofs.lemmas.List.Edits.{sets}
use Rattle.std.proofs.Math.Seq.{length-sets}
use Rattle.octets.specs.Octets.{length_wiped, get_d_wiped, get_d_wiped_past}
use Rattle.octets.specs.Laws.{get_d_sets_before, get_d_sets_after}
use Rattle.words.specs.Marks.{marked}
use Rattle.words.specs.Search.{all_below_true, lt_or_le}
use Rattle.words.specs.Laws.{marked_past, marked_none}
use Rattle.words.specs.declared.Words.{Words}
use Rattle.tsar.specs.Rows.{Refusal, first_of, refusal, refusal_none, refusal_pass, by_rows, any_none, test}
use Rattle.tsar.specs.Kinds.{prohibited}
use Rattle.receiver.specs.declared.ReceiverState.{ReceiverState}
use Rattle.receiver.specs.declared.ReceiverState.TheVariants.{AwaitingBegin, Receiving, Complete, Failed, Expired, Canceled}
use Rattle.receiver.specs.declared.Receiver.{Receiver}
use Rattle.receiver.specs.Record.{interval_of, taking, awaiting, receiving, running, complete, late, due, slot_octets, store_octets, is_held, held_length, part, wiped, full_with, joined, faults, impossible}
use Rattle.receiver.specs.Answers.{refused, Step, refuses, last_entry}
use Rattle.receiver.specs.Receive.{Arrival, sequence, receive_rows, slot_rules, settle, late_or, receive_after, receive_of, Outcome, fails, repeats, closes, keeps, finishes}
use Rattle.receiver.specs.Advance.{clock_rows, fires, advance_after, advance_of, cancel_of, release_of}
use Rattle.delivery.specs.Calls.{Call, receive, advance, cancel, release, step_of, ours}
use Rattle.delivery.specs.Lists.{never, holding, marked_here, part_same}
use Rattle.delivery.specs.Rules.{Admitted, New, Clocked, end_with, by_rules, by_receive, by_advance, by_cancel, by_release}
use Rattle.delivery.specs.Leaves.{Unchanged, LateClosed, UnheldClosed, Excepted, RefusedLeaves, TimerDueLeaves, Filled, NewlyHeld, HeldFills, Wiped, ClosedWipes, Fills, StoreLeft, handed, OutputLeft, HandedMost, Leaves}

-- ---- refusals

-- where the slots find the message complete, it is, and the segment is not held
abbrev Closing : Receiver → Arrival → Outcome → Type 0
Closing r a (fails st s) = Unit {0}
Closing r a repeats = Unit {0}
Closing r a closes = (is_held r (sequence a) ≡ false) × (complete r.progress.state ≡ true)
Closing r a keeps = Unit {0}
Closing r a finishes = Unit {0}

closing : (r : Receiver) (a : Arrival) (store : List ℕ) → Closing r a (first_of (slot_rules r a store) keeps)
closing r a store = by_rows (Closing r a) (slot_rules r a store) keeps (
  (λ e. tt),
  λ f. (
    (λ e. tt),
    λ f. (
      (λ e. tt),
      λ g. ((λ e. (g, e)), λ f. ((λ e. tt), λ f. ((λ e. tt), λ f. ((λ e. tt), λ f. ((λ e. tt), λ f. ((λ e. tt), λ f. ((λ e. tt), λ f. ((λ e. tt), λ f. ((λ e. tt), λ f. ((λ e. tt), λ f. ((λ e. tt), λ f. tt))))))))))),
    ),
  ),
)

-- past the deadline is at or past it
pub late_due : (d : Option ℕ) (n : ℕ) → late d n ≡ true → due d n ≡ true
late_due None n e = e
late_due (Some d) n e = le-leb d n (let h = ltb-true d n e in omega arith)

module _ (interval : ℕ) (r : Receiver) (store : List ℕ) (a : Arrival) (out : List ℕ) where
  -- what a receive that is refused leaves
  abbrev Left : Step → Type 0
  Left st = (n : Refusal) → st.answer ≡ refused n → Unchanged r store (receive a out) st ⊎ Excepted r store (receive a out) n st

  left_refused : (n : Refusal) → Left (refuses n r store out)
  left_refused n m e = inl (record { same_record = refl; same_store = refl; same_output = refl })

  left_settled : (o : Outcome) → Closing r a o → Left (settle interval o r a store out)
  left_settled (fails st s) c n e = let z : ◌≡◌ {A = ℕ} 0 1 = cc in absurd (omega arith)
  left_settled repeats c n e = let z : ◌≡◌ {A = ℕ} 0 1 = cc in absurd (omega arith)
  left_settled closes c n e = inr (inr (record { is_38 = cc; is_complete = c.1; unheld = c.0; reading_taken = refl; same_store = refl; same_output = refl }))
  left_settled keeps c n e = let z : ◌≡◌ {A = ℕ} 0 1 = cc in absurd (omega arith)
  left_settled finishes c n e = let z : ◌≡◌ {A = ℕ} 0 1 = cc in absurd (omega arith)

  -- advance at the reading of a late receive under Prohibited
  advanced : refusal (receive_rows interval r a store out) ≡ None → late r.progress.deadline_monotonic_ms a.reading ≡ true → prohibited r.progress.services.acknowledgment_window ≡ true
      → advance_of r store a.reading ≡ fires true true r store a.reading
  unfolding advance_of
  advanced e l p =
      let f = refusal_none (receive_rows interval r a store out) e in
      ap (λ (v : Option Refusal). advance_after v r store a.reading) (refusal_pass (clock_rows r store a.reading) (f 0, (f 2, (f 3, tt))))
      ∙ ap (λ (b : Bool). fires b (prohibited r.progress.services.acknowledgment_window) r store a.reading) (late_due r.progress.deadline_monotonic_ms a.reading l)
      ∙ ap (λ (b : Bool). fires true b r store a.reading) p

  left_late : refusal (receive_rows interval r a store out) ≡ None → (b p : Bool) → late r.progress.deadline_monotonic_ms a.reading ≡ b → prohibited r.progress.services.acknowledgment_window ≡ p
      → Left (late_or interval b p r a store out)
  left_late e true true l p n q =
      let v = advanced e l p in
      inr (inl (record {
        is_38 = cc;
        is_late = l;
        under_prohibited = p;
        expired = refl;
        advanced_record = ap (λ (s : Step). s.receiver) (sym v);
        advanced_store = ap (λ (s : Step). s.store) (sym v);
        same_output = refl;
      }))
  left_late e true false l p n q = left_refused (37, 0) n q
  left_late e false w l p n q = left_settled (first_of (slot_rules r a store) keeps) (closing r a store) n q

  receive_left : Left (receive_of interval r a store out)
  unfolding receive_of
  receive_left = go (refusal (receive_rows interval r a store out)) refl
    where
      go : (v : Option Refusal) → refusal (receive_rows interval r a store out) ≡ v → Left (receive_after interval v r a store out)
      go (Some n) e = left_refused n
      go None e = left_late e (late r.progress.deadline_monotonic_ms a.reading) (prohibited r.progress.services.acknowledgment_window) refl refl

module _ (r : Receiver) (store : List ℕ) (m : ℕ) where
  abbrev Still : Call → Step → Type 0
  Still c st = (n : Refusal) → st.answer ≡ refused n → Unchanged r store c st

  advance_left : Still (advance m) (advance_of r store m)
  advance_left = by_advance (Still (advance m)) r store m (λ n e k q. record { same_record = refl; same_store = refl; same_output = refl }) (λ K b p e f. fired b p)
    where
      fired : (b p : Bool) → Still (advance m) (fires b p r store m)
      fired false p n e = let z : ◌≡◌ {A = ℕ} 0 1 = cc in absurd (omega arith)
      fired true true n e = let z : ◌≡◌ {A = ℕ} 0 1 = cc in absurd (omega arith)
      fired true false n e = let z : ◌≡◌ {A = ℕ} 0 1 = cc in absurd (omega arith)

  cancel_left : Still (cancel m) (cancel_of r store m)
  cancel_left =
      by_cancel (Still (cancel m)) r store m (λ n e k q. record { same_record = refl; same_store = refl; same_output = refl })
      (λ K s n e. let z : ◌≡◌ {A = ℕ} 0 1 = cc in absurd (omega arith))

  release_left : Still (release m) (release_of r store m)
  release_left =
      by_release (Still (release m)) r store m (λ n e k q. record { same_record = refl; same_store = refl; same_output = refl })
      (λ K s n e. let z : ◌≡◌ {A = ℕ} 0 1 = cc in absurd (omega arith))

refused_leaves : (interval : ℕ) → RefusedLeaves (step_of interval)
refused_leaves interval r store (receive a out) n e = receive_left interval r store a out n e
refused_leaves interval r store (advance m) n e = inl (advance_left r store m n e)
refused_leaves interval r store (cancel m) n e = inl (cancel_left r store m n e)
refused_leaves interval r store (release m) n e = inl (release_left r store m n e)

timer_due_leaves : (interval : ℕ) → TimerDueLeaves (step_of interval)
timer_due_leaves interval r store (receive a out) e =
    ⊎_elim (λ (u : Unchanged r store (receive a out) (receive_of interval r a store out)). u)
    (λ (x : Excepted r store (receive a out) (37, 0) (receive_of interval r a store out)).
    ⊎_elim (λ (y : LateClosed r store a out (37, 0) (receive_of interval r a store out)). not_37 y.is_38)
    (λ (y : UnheldClosed r store a out (37, 0) (receive_of interval r a store out)). not_37 y.is_38) x)
    (receive_left interval r store a out (37, 0) e)
  where
    not_37 : {A : Type 0} → ◌≡◌ {A = Refusal} (37, 0) (38, 0) → A
    not_37 q = absurd (omega (arith, ap (λ (x : Refusal). x.0) q))
timer_due_leaves interval r store (advance m) e = advance_left r store m (37, 0) e
timer_due_leaves interval r store (cancel m) e = cancel_left r store m (37, 0) e
timer_due_leaves interval r store (release m) e = release_left r store m (37, 0) e

-- ---- the store

module _ (store : List ℕ) (a : Arrival) (out : List ℕ) where
  -- a segment that is written into its slot
  filling : (r : Receiver) → Admitted r a store out → sequence a < 256 → Filled store a (sets store (slot_octets * sequence a) a.octets)
  filling r A seq =
      record {
        within = A.short;
        filled = part_same store a.octets (sequence a) A.room seq A.short;
        same_length = length-sets store (slot_octets * sequence a) a.octets;
        below = λ i h. get_d_sets_before store (slot_octets * sequence a) a.octets i 0 h;
        above = λ i h. get_d_sets_after store (slot_octets * sequence a) a.octets i 0 h;
      }

-- a store that is wiped
wiping : (r : Receiver) (store : List ℕ) (st : Step) → taking r.progress.state ≡ true → st.store ≡ wiped store → taking st.receiver.progress.state ≡ false → Wiped r store st
wiping r store st o e c =
    record {
      was_open = o;
      is_closed_lem = c;
      same_length = ap length e ∙ length_wiped store_octets store;
      zero = λ i h. ap (λ (l : List ℕ). get_or l i 0) e ∙ get_d_wiped store_octets i store h;
      past = λ i h. ap (λ (l : List ℕ). get_or l i 0) e ∙ get_d_wiped_past store_octets i store 0 h;
    }

module _ (interval : ℕ) (r : Receiver) (store : List ℕ) (a : Arrival) (out : List ℕ) (seq : sequence a < 256) where
  abbrev Stored : Step → Type 0
  Stored st = (st.store ≡ store) ⊎ (Wiped r store st ⊎ Fills r store (receive a out) st)

  newly : New r a → (st : Step) → st.receiver.held ≡ holding r.held (sequence a) → NewlyHeld r a st
  newly N st e = record { was_free = N.free; is_held_lem = ap (λ (w : Words). marked w (sequence a)) e ∙ marked_here r.held (sequence a) seq }

  receive_stored : Stored (receive_of interval r a store out)
  receive_stored =
      by_receive Stored interval r a store out (λ n e. inl refl) (λ A. inr (inl (wiping r store _ A.takes refl refl))) (inl refl)
      (λ A. by_rules (λ o. Stored (settle interval o r a store out)) r a store (λ st s e. inr (inl (wiping r store _ A.takes refl refl))) (λ e. inl refl) (inl refl)
      (λ N right f. inr (inr (newly N _ refl, filling store a out r A seq))) (λ N f. inr (inr (newly N _ refl, filling store a out r A seq))))

  -- a segment that was not held and is
  abbrev FilledIf : Step → Type 0
  FilledIf st = is_held r (sequence a) ≡ false → is_held st.receiver (sequence a) ≡ true → Filled store a st.store

  receive_fills : FilledIf (receive_of interval r a store out)
  receive_fills =
      by_receive FilledIf interval r a store out (λ n e p q. never _ p q) (λ A p q. never _ (marked_none (sequence a)) q) (λ p q. never _ p q)
      (λ A. by_rules (λ o. FilledIf (settle interval o r a store out)) r a store (λ st s e p q. never _ (marked_none (sequence a)) q) (λ e p q. never _ p q) (λ p q. never _ p q)
      (λ N right f p q. filling store a out r A seq) (λ N f p q. filling store a out r A seq))

-- where the record is possible a deadline runs in Receiving alone
running_receiving : (s : ReceiverState) (d : Option ℕ) → (not (receiving s) && running d) ≡ false → running d ≡ true → receiving s ≡ true
running_receiving s None f e = never _ refl e
running_receiving AwaitingBegin (Some d) f e = never _ f refl
running_receiving Receiving (Some d) f e = refl
running_receiving Complete (Some d) f e = never _ f refl
running_receiving (Failed x) (Some d) f e = never _ f refl
running_receiving Expired (Some d) f e = never _ f refl
running_receiving Canceled (Some d) f e = never _ f refl

due_running : (d : Option ℕ) (n : ℕ) → due d n ≡ true → running d ≡ true
due_running None n e = e
due_running (Some d) n e = refl

-- so a receiver whose deadline is due is Receiving
pub due_receiving : (r : Receiver) (n : ℕ) → impossible r ≡ false → due r.progress.deadline_monotonic_ms n ≡ true → receiving r.progress.state ≡ true
unfolding impossible
due_receiving r n ok d =
    running_receiving r.progress.state r.progress.deadline_monotonic_ms (any_none (faults r) ok 6) (due_running r.progress.deadline_monotonic_ms n d)

pub or_yes : (x y : Bool) → y ≡ true → (x || y) ≡ true
or_yes true y e = refl
or_yes false y e = e

-- one that can be canceled takes segments
pub cancel_open : (s : ReceiverState) → (awaiting s || receiving s) ≡ true → taking s ≡ true
cancel_open AwaitingBegin e = refl
cancel_open Receiving e = refl
cancel_open Complete e = refl
cancel_open (Failed x) e = e
cancel_open Expired e = e
cancel_open Canceled e = e

-- and so does one that can be released
pub release_open : (s : ReceiverState) → complete s ≡ true → taking s ≡ true
release_open AwaitingBegin e = refl
release_open Receiving e = refl
release_open Complete e = refl
release_open (Failed x) e = e
release_open Expired e = e
release_open Canceled e = e

module _ (r : Receiver) (store : List ℕ) (m : ℕ) where
  pub fires_open : Clocked r store m → due r.progress.deadline_monotonic_ms m ≡ true → taking r.progress.state ≡ true
  fires_open K d = cancel_open r.progress.state (or_yes (awaiting r.progress.state) (receiving r.progress.state) (due_receiving r m K.possible d))

  abbrev Kept : Step → Type 0
  Kept st = (st.store ≡ store) ⊎ (Wiped r store st ⊎ ⊥)

  advance_stored : Kept (advance_of r store m)
  advance_stored = by_advance Kept r store m (λ n e. inl refl) (λ K b p d f. fired K b p d)
    where
      fired : Clocked r store m → (b p : Bool) → due r.progress.deadline_monotonic_ms m ≡ b → Kept (fires b p r store m)
      fired K false p d = inl refl
      fired K true true d = inr (inl (wiping r store _ (fires_open K d) refl refl))
      fired K true false d = inl refl

  cancel_stored : Kept (cancel_of r store m)
  cancel_stored = by_cancel Kept r store m (λ n e. inl refl) (λ K s. inr (inl (wiping r store _ (cancel_open r.progress.state s) refl refl)))

  release_stored : Kept (release_of r store m)
  release_stored = by_release Kept r store m (λ n e. inl refl) (λ K s. inr (inl (wiping r store _ (release_open r.progress.state s) refl refl)))

store_left : (interval : ℕ) → StoreLeft (step_of interval)
store_left interval r store (receive a out) seq = receive_stored interval r store a out seq
store_left interval r store (advance m) t = advance_stored r store m
store_left interval r store (cancel m) t = cancel_stored r store m
store_left interval r store (release m) t = release_stored r store m

-- a call that closes the receiver
closed_wipes : (interval : ℕ) → ClosedWipes (step_of interval)
closed_wipes interval r store (receive a out) o =
    by_receive Wipes interval r a store out (λ n e p. never _ p o) (λ A p. wiping r store _ o refl p) (λ p. never _ p o)
    (λ A. by_rules (λ x. Wipes (settle interval x r a store out)) r a store (λ st s e p. wiping r store _ o refl p) (λ e p. never _ p o) (λ p. never _ p o) (λ N right f p. never _ p refl) (λ N f p. never _ p refl))
  where
    Wipes : Step → Type 0
    Wipes st = taking st.receiver.progress.state ≡ false → Wiped r store st
closed_wipes interval r store (advance m) o = by_advance Wipes r store m (λ n e p. never _ p o) (λ K b p e f. fired b p)
  where
    Wipes : Step → Type 0
    Wipes st = taking st.receiver.progress.state ≡ false → Wiped r store st

    fired : (b p : Bool) → Wipes (fires b p r store m)
    fired false p q = never _ q o
    fired true true q = wiping r store _ o refl q
    fired true false q = never _ q o
closed_wipes interval r store (cancel m) o =
    by_cancel (λ st. taking st.receiver.progress.state ≡ false → Wiped r store st) r store m (λ n e p. never _ p o) (λ K s p. wiping r store _ o refl p)
closed_wipes interval r store (release m) o =
    by_release (λ st. taking st.receiver.progress.state ≡ false → Wiped r store st) r store m (λ n e p. never _ p o) (λ K s p. wiping r store _ o refl p)

held_fills : (interval : ℕ) → HeldFills (step_of interval)
held_fills interval r store a out seq h = receive_fills interval r store a out seq h.was_free h.is_held_lem

-- ---- the output

abbrev Output : List ℕ → Step → Type 0
Output out st = (length st.output ≡ length out) × ((i : ℕ) → handed st.answer ≤ i → get_or st.output i 0 ≡ get_or out i 0)

-- the message that a last segment makes
abbrev made : Receiver → Arrival → List ℕ → List ℕ
made r a store =
    joined (set r.lengths (sequence a) (length a.octets)) (sets store (slot_octets * sequence a) a.octets) (suc (last_entry false (holding r.held (sequence a)) (end_with r a)))

output_left : (interval : ℕ) → OutputLeft (step_of interval)
output_left interval r store (receive a out) =
    by_receive (Output out) interval r a store out (λ n e. (refl, λ i h. refl)) (λ A. (refl, λ i h. refl)) (refl, λ i h. refl)
    (λ A. by_rules (λ o. Output out (settle interval o r a store out)) r a store (λ st s e. (refl, λ i h. refl)) (λ e. (refl, λ i h. refl)) (refl, λ i h. refl)
    (λ N right f. (length-sets out 0 (made r a store), λ i h. get_d_sets_after out 0 (made r a store) i 0 (omega (arith, h)))) (λ N f. (refl, λ i h. refl)))
output_left interval r store (advance m) = by_advance (Output []) r store m (λ n e. (refl, λ i h. refl)) (λ K b p e f. fired b p)
  where
    fired : (b p : Bool) → Output [] (fires b p r store m)
    fired false p = (refl, λ i h. refl)
    fired true true = (refl, λ i h. refl)
    fired true false = (refl, λ i h. refl)
output_left interval r store (cancel m) = by_cancel (Output []) r store m (λ n e. (refl, λ i h. refl)) (λ K s. (refl, λ i h. refl))
output_left interval r store (release m) = by_release (Output []) r store m (λ n e. (refl, λ i h. refl)) (λ K s. (refl, λ i h. refl))

-- ---- what is handed over

-- an element that is put is no more than it was put as
set_most : (l : List ℕ) (i v : ℕ) → get_or (set l i v) i 0 ≤ v
set_most [] i v = omega arith
set_most (x ∷ l) zero v = omega arith
set_most (x ∷ l) (suc i) v = set_most l i v

-- joined parts of at most 255 octets each
joined_most : (lengths store : List ℕ) (n : ℕ) → ((t : ℕ) → t < n → get_or lengths t 0 ≤ 255) → length (joined lengths store n) ≤ n * 255
unfolding joined
joined_most lengths store zero h = omega arith
joined_most lengths store (suc n) h =
    omega (arith, length-append (joined lengths store n) (part store n (get_or lengths n 0)), length-take (get_or lengths n 0) (drop (slot_octets * n) store), joined_most lengths store n (λ t l. h t (omega arith)), h n (omega arith))

or_case : (b c : Bool) → (b || c) ≡ true → (b ≡ true) ⊎ (c ≡ true)
or_case true c e = inl refl
or_case false c e = inr e

module _ (r : Receiver) (a : Arrival) (seq : sequence a < 256) (short : length a.octets ≤ 255) (fair : impossible r ≡ false) where
  abbrev lengths' : List ℕ
  lengths' = set r.lengths (sequence a) (length a.octets)

  -- a held slot's length
  held_most : (t : ℕ) → t < 256 → marked r.held t ≡ true → get_or r.lengths t 0 ≤ 255
  unfolding impossible
  held_most t l m =
      let f = held_length r.held r.lengths in
      let k : f t ≤ 255 = leb-true (f t) 255 (all_below_true 256 (λ t. leb (f t) 255) (not-false _ (any_none (faults r) fair 0)) t l) in
      let e : f t ≡ get_or r.lengths t 0 = rw m in
      omega arith

  module _ (e : ℕ) (full : full_with r.held (sequence a) (Some e) ≡ true) where
    filled_at : (t : ℕ) → t < suc e → (t ≡ sequence a) ⊎ (marked r.held t ≡ true)
    filled_at t l =
        ⊎_elim (λ (p : eqb t (sequence a) ≡ true). inl (eqb-true t (sequence a) p)) (λ (p : marked r.held t ≡ true). inr p)
        (or_case (eqb t (sequence a)) (marked r.held t) (all_below_true (suc e) (λ t. eqb t (sequence a) || marked r.held t) full t l))

    -- the end is one of the slots
    end_slot : e < 256
    end_slot =
        ⊎_elim (λ (p : e ≡ sequence a). let h : e < 256 = omega arith in h)
        (λ (p : marked r.held e ≡ true). ⊎_elim (λ (h : e < 256). h) (λ (h : 256 ≤ e). never _ (marked_past r.held e h) p) (lt_or_le e 256)) (filled_at e (omega arith))

    each_most : (t : ℕ) → t < suc e → get_or lengths' t 0 ≤ 255
    each_most t l = go (ℕ_discrete t (sequence a))
      where
        go : Dec (t ≡ sequence a) → get_or lengths' t 0 ≤ 255
        go (yes p) = subst (λ (k : ℕ). get_or lengths' k 0 ≤ 255) (sym p) (omega (arith, set_most r.lengths (sequence a) (length a.octets)))
        go (no p) =
            ⊎_elim (λ (q : t ≡ sequence a). absurd (p q))
            (λ (q : marked r.held t ≡ true). omega (arith, get_or-set_other r.lengths (sequence a) t (length a.octets) 0 p, held_most t (omega (arith, end_slot)) q)) (filled_at t l)

    most : (store : List ℕ) → length (joined lengths' store (suc e)) ≤ store_octets
    most store = omega (arith, joined_most lengths' store (suc e) each_most, end_slot)

  whole_most : (store : List ℕ) (x : Option ℕ) → full_with r.held (sequence a) x ≡ true → length (joined lengths' store (suc (last_entry false (holding r.held (sequence a)) x))) ≤ store_octets
  whole_most store None full = let z : ◌≡◌ {A = ℕ} 0 1 = cc in absurd (omega arith)
  whole_most store (Some e) full = most e full store

module _ (interval : ℕ) (r : Receiver) (store : List ℕ) (a : Arrival) (out : List ℕ) (seq : sequence a < 256) where
  abbrev Most : Step → Type 0
  Most st = handed st.answer ≤ store_octets

  receive_most : Most (receive_of interval r a store out)
  unfolding receive_of
  receive_most = go (refusal (receive_rows interval r a store out)) refl
    where
      go : (v : Option Refusal) → refusal (receive_rows interval r a store out) ≡ v → Most (receive_after interval v r a store out)
      go (Some n) e = omega arith
      go None e = in_time (late r.progress.deadline_monotonic_ms a.reading) (prohibited r.progress.services.acknowledgment_window)
        where
          f : (n : ℕ) → test (receive_rows interval r a store out) n ≡ false
          f = refusal_none (receive_rows interval r a store out) e

          in_time : (b p : Bool) → Most (late_or interval b p r a store out)
          in_time true true = omega arith
          in_time true false = omega arith
          in_time false p =
              by_rules (λ o. Most (settle interval o r a store out)) r a store (λ st s e. omega arith) (λ e. omega arith) (omega arith)
              (λ N right full. whole_most r a seq (ltb-false _ _ (f 9)) (f 2) (sets store (slot_octets * sequence a) a.octets) (end_with r a) full) (λ N full. omega arith)

handed_most : (interval : ℕ) → HandedMost (step_of interval)
handed_most interval r store (receive a out) seq = receive_most interval r store a out seq
handed_most interval r store (advance m) t = by_advance (λ st. handed st.answer ≤ store_octets) r store m (λ n e. omega arith) (λ K b p e f. fired b p)
  where
    fired : (b p : Bool) → handed (fires b p r store m).answer ≤ store_octets
    fired false p = omega arith
    fired true true = omega arith
    fired true false = omega arith
handed_most interval r store (cancel m) t = by_cancel (λ st. handed st.answer ≤ store_octets) r store m (λ n e. omega arith) (λ K s. omega arith)
handed_most interval r store (release m) t = by_release (λ st. handed st.answer ≤ store_octets) r store m (λ n e. omega arith) (λ K s. omega arith)

-- what any call on a receiver leaves, for any interval
pub leaves : (interval : ℕ) → Leaves (step_of interval)
leaves interval =
    record {
      refused_leaves = refused_leaves interval;
      timer_due_leaves = timer_due_leaves interval;
      held_fills = held_fills interval;
      closed_wipes = closed_wipes interval;
      store_left = store_left interval;
      output_left = output_left interval;
      handed_most = handed_most interval;
    }

-- and ours, at its own
pub own_leaves : Leaves ours
own_leaves =
    record {
      refused_leaves = λ r. refused_leaves (interval_of r) r;
      timer_due_leaves = λ r. timer_due_leaves (interval_of r) r;
      held_fills = λ r. held_fills (interval_of r) r;
      closed_wipes = λ r. closed_wipes (interval_of r) r;
      store_left = λ r. store_left (interval_of r) r;
      output_left = λ r. output_left (interval_of r) r;
      handed_most = λ r. handed_most (interval_of r) r;
    }
