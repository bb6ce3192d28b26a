-- Our receiver reads its interval off its record at each call. No call changes the terms, so a list of calls on it goes the way of one interval, that of
-- the record which it starts from; what is shown for any interval is so shown of ours.
use Rattle.std.specs.Prelude.{ℕ, ◌≤◌, min, ◌≡◌, refl, List, [], ◌∷◌, true, not, length, None}
use Rattle.std.proofs.Common.{sym, ap, ◌∙◌, subst, le-ltb}
use Rattle.link.specs.Profile.{receiver_interval}
use Rattle.link.specs.Laws.{neither_known}
use Rattle.receiver.specs.declared.Terms.{Terms}
use Rattle.receiver.specs.declared.Receiver.{Receiver}
use Rattle.receiver.specs.Record.{interval_of, store_octets, faults, impossible}
use Rattle.receiver.specs.Answers.{refuses}
use Rattle.receiver.specs.Receive.{receive_of}
use Rattle.receiver.specs.Advance.{try_new_of, advance_of, cancel_of, release_of}
use Rattle.receiver.proofs.AnyOf.{any_at}
use Rattle.delivery.specs.Calls.{Call, receive, advance, cancel, release, Left, step_of, ours, start, then, after, AfterTheList}
use Rattle.delivery.specs.Demand.{FirstHalf, step_after}
use Rattle.delivery.specs.Leaves.{lent}
use Rattle.delivery.specs.Invariant.{made_is, after_the_list}
use Rattle.delivery.specs.Steps.{terms_kept}

-- ---- fixed when the machine is made

-- a call of ours leaves the terms of any record
pub fixed : (r : Receiver) (store : List ℕ) (c : Call) → (ours r store c).receiver.terms ≡ r.terms
fixed r store c = terms_kept (interval_of r) r store c

-- so does every list of calls
pub fixed_after : (w : Left) (cs : List Call) → (after ours w cs).receiver.terms ≡ w.receiver.terms
fixed_after w [] = refl
fixed_after w (c ∷ cs) = fixed_after (then ours w c) cs ∙ fixed w.receiver w.store c

-- ---- one interval for all calls

-- how long a receiver of these terms waits, in milliseconds: its profile's interval
abbrev pub own_interval : Terms → ℕ
own_interval t = receiver_interval t.profile

-- with any interval a list of calls leaves the record's own as it was
interval_after : (n : ℕ) (w : Left) (cs : List Call) → interval_of (after (step_of n) w cs).receiver ≡ interval_of w.receiver
interval_after n w [] = refl
interval_after n w (c ∷ cs) =
    interval_after n (then (step_of n) w c) cs ∙ ap (λ (t : Terms). receiver_interval t.profile) (terms_kept n w.receiver w.store c)

pub one_interval : (n : ℕ) (w : Left) (cs : List Call) → interval_of w.receiver ≡ n → after ours w cs ≡ after (step_of n) w cs
one_interval n w [] e = refl
one_interval n w (c ∷ cs) e =
    ap (λ (m : ℕ). after ours (then (step_of m) w c) cs) e
    ∙ one_interval n (then (step_of n) w c) cs (ap (λ (t : Terms). receiver_interval t.profile) (terms_kept n w.receiver w.store c) ∙ e)

-- and the call after them
pub one_interval_step : (n : ℕ) (w : Left) (cs : List Call) (c : Call) → interval_of w.receiver ≡ n → step_after ours (after ours w cs) c ≡ step_after (step_of n) (after (step_of n) w cs) c
one_interval_step n w cs c e =
    ap (λ (v : Left). step_after ours v c) (one_interval n w cs e) ∙ ap (λ (m : ℕ). step_after (step_of m) (after (step_of n) w cs) c) (interval_after n w cs ∙ e)

-- from try_new on it is that of try_new's profile
pub made_interval : (t : Terms) (made : ℕ) → (try_new_of t made).refused ≡ None → interval_of (try_new_of t made).receiver ≡ receiver_interval t.profile
made_interval t made e = ap (λ (r : Receiver). interval_of r) (made_is t made e)

-- ---- the first half of demand 3, of ours

pub own_first_half : FirstHalf try_new_of ours
own_first_half t made e store cs h =
    subst (λ (w : Left). AfterTheList t.maximum_message_octets w) (sym (one_interval (receiver_interval t.profile) (start (try_new_of t made).receiver store) cs (made_interval t made e)))
    (after_the_list (receiver_interval t.profile) t made e store cs h)

-- ---- a record of neither profile

-- the output that a receive is lent is long enough
abbrev pub LongEnough : Receiver → Call → Type 0
LongEnough r (receive a out) = min r.terms.maximum_message_octets store_octets ≤ length out
LongEnough r (advance n) = Unit {0}
LongEnough r (cancel n) = Unit {0}
LongEnough r (release n) = Unit {0}

neither_impossible : (r : Receiver) → (r.terms.profile ≡ 1 → ⊥) → (r.terms.profile ≡ 2 → ⊥) → impossible r ≡ true
unfolding impossible
neither_impossible r f g = any_at (faults r) 8 (ap not (neither_known r.terms.profile f g))

-- each of the four calls gives 62 and changes nothing, behind 60 and 61 alone: of a profile that is neither 1 nor 2
pub neither_62 : (r : Receiver) (store : List ℕ) → (r.terms.profile ≡ 1 → ⊥) → (r.terms.profile ≡ 2 → ⊥) → store_octets ≤ length store → (c : Call) → LongEnough r c
    → ours r store c ≡ refuses (62, 0) r store (lent c)
unfolding receive_of advance_of cancel_of release_of
neither_62 r store f g room (receive a out) long = rw (le-ltb _ _ room, le-ltb _ _ long, neither_impossible r f g)
neither_62 r store f g room (advance n) long = rw (le-ltb _ _ room, neither_impossible r f g)
neither_62 r store f g room (cancel n) long = rw (le-ltb _ _ room, neither_impossible r f g)
neither_62 r store f g room (release n) long = rw (le-ltb _ _ room, neither_impossible r f g)
