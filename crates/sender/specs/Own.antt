-- The sender reads its interval off its record at each call. No call changes the terms, so a list of calls on it goes the way of one interval, that of
-- the sender which it starts from; what is shown for any interval is so shown of ours. Assumes nothing.
use Rattle.std.specs.Prelude.{ℕ, ◌-◌, ◌^◌, ◌≤◌, ◌≡◌, refl, List, [], ◌∷◌, Bool, true, not, ◌||◌}
use Rattle.std.proofs.Common.{sym, ap, ◌∙◌, subst, le-ltb}
use Rattle.std.proofs.Math.Bool.{or-true}
use Rattle.link.specs.Profile.{sender_interval}
use Rattle.link.specs.Laws.{neither_known}
use Rattle.sender.specs.declared.Plan.{Plan}
use Rattle.sender.specs.declared.SenderState.{SenderState}
use Rattle.sender.specs.declared.Terms.{Terms}
use Rattle.sender.specs.declared.Sender.{Sender}
use Rattle.sender.specs.Record.{interval_of, outline, impossible, impossible_in}
use Rattle.sender.specs.Calls.{Answer, answered, Step, refuses, placed, advance_in, advance_of, cancel_in, cancel_of, submitted_in, submitted_of, accepted_in, accepted_of, lower_failed_in, lower_failed_of, receive_response_in, receive_response_of}
use Rattle.sender.specs.TryNew.{try_new_of}
use Rattle.sender.specs.CallList.{Call, advance, cancel, submitted, accepted, lower_failed, receive_response, step_of, answers, afterwards, NoneImpossible, ReachedSender, terms_kept}
use Rattle.sender.specs.Leaves.{RefusedLeaves}
use Rattle.sender.specs.Left.{refused_leaves}
use Rattle.sender.specs.Made.{made_terms, calls_reach, calls_possible}

-- ---- our sender

-- what a call answers and leaves, as the contracts have it: the interval is the record's own
abbrev pub ours : Sender → Call → Step
ours s c = step_of (interval_of s) s c

-- ---- fixed when the machine is made

-- a call of ours leaves the terms of any sender
pub fixed : (s : Sender) (c : Call) → (ours s c).sender.terms ≡ s.terms
fixed s c = terms_kept (interval_of s) s c

-- so does every list of calls
pub fixed_after : (s : Sender) (cs : List Call) → (afterwards ours s cs).terms ≡ s.terms
fixed_after s [] = refl
fixed_after s (c ∷ cs) = fixed_after (ours s c).sender cs ∙ fixed s c

-- ---- one interval for all calls

pub one_interval : (n : ℕ) (s : Sender) (cs : List Call) → interval_of s ≡ n → afterwards ours s cs ≡ afterwards (step_of n) s cs
one_interval n s [] e = refl
one_interval n s (c ∷ cs) e =
    ap (λ (m : ℕ). afterwards ours (step_of m s c).sender cs) e
    ∙ one_interval n (step_of n s c).sender cs (ap (λ (t : Terms). sender_interval t.profile) (terms_kept n s c) ∙ e)

pub one_interval_answers : (n : ℕ) (s : Sender) (cs : List Call) → interval_of s ≡ n → answers ours s cs ≡ answers (step_of n) s cs
one_interval_answers n s [] e = refl
one_interval_answers n s (c ∷ cs) e =
    ap {B = List Answer} (λ (m : ℕ). (step_of m s c).answer ∷ answers ours (step_of m s c).sender cs) e
    ∙ ap {B = List Answer} (λ (l : List Answer). (step_of n s c).answer ∷ l) (one_interval_answers n (step_of n s c).sender cs (ap (λ (t : Terms). sender_interval t.profile) (terms_kept n s c) ∙ e))

-- ---- what a refusal leaves

pub own_refused_leaves : RefusedLeaves ours
own_refused_leaves s = refused_leaves (interval_of s) s

-- ---- a sender of neither profile

neither_impossible : (s : Sender) → (s.terms.profile ≡ 1 → ⊥) → (s.terms.profile ≡ 2 → ⊥) → impossible_in (outline s) s.progress ≡ true
neither_impossible s f g = ap (λ (b : Bool). impossible (outline s).count s.progress || not b) (neither_known s.terms.profile f g) ∙ or-true (impossible (outline s).count s.progress)

-- of a profile that is neither 1 nor 2: every call that can refuse gives 62 and changes nothing (submission and the accessors refuse nothing); the
-- ticket last given is one of 64 bits, as its type says
pub neither_62 : (s : Sender) → (s.terms.profile ≡ 1 → ⊥) → (s.terms.profile ≡ 2 → ⊥) → s.progress.last_ticket ≤ 2 ^ 64 - 1 → (c : Call) → ours s c ≡ placed s (refuses (62, 0) s.progress)
unfolding advance_of advance_in cancel_of cancel_in submitted_of submitted_in accepted_of accepted_in lower_failed_of lower_failed_in receive_response_of receive_response_in
neither_62 s f g l (advance n) = rw (neither_impossible s f g, le-ltb _ _ l)
neither_62 s f g l (cancel n) = rw (neither_impossible s f g, le-ltb _ _ l)
neither_62 s f g l (submitted number ticket queued observed) = rw (neither_impossible s f g, le-ltb _ _ l)
neither_62 s f g l (accepted number ticket n) = rw (neither_impossible s f g, le-ltb _ _ l)
neither_62 s f g l (lower_failed number ticket failure n) = rw (neither_impossible s f g, le-ltb _ _ l)
neither_62 s f g l (receive_response a) = rw (neither_impossible s f g, le-ltb _ _ l)

-- ---- from a try_new that was not refused

module _ (t : Terms) (p : Plan) (message : List ℕ) (k : ℕ) (s : SenderState) (ok : (try_new_of t p message k).answer ≡ answered s) where
  -- the interval is that of try_new's profile
  pub made_interval : interval_of (try_new_of t p message k).sender ≡ sender_interval t.profile
  made_interval = ap (λ (u : Terms). sender_interval u.profile) (made_terms t p message k s ok)

  -- every list of calls keeps the facts
  pub own_calls_reach : (cs : List Call) → ReachedSender (sender_interval t.profile) (afterwards ours (try_new_of t p message k).sender cs)
  own_calls_reach cs =
      subst (λ (z : Sender). ReachedSender (sender_interval t.profile) z) (sym (one_interval (sender_interval t.profile) (try_new_of t p message k).sender cs made_interval))
      (calls_reach (sender_interval t.profile) t p message k s ok cs)

  -- and no call of it is refused with 62
  pub own_calls_possible : (cs : List Call) → NoneImpossible (answers ours (try_new_of t p message k).sender cs)
  own_calls_possible cs =
      subst (λ (l : List Answer). NoneImpossible l) (sym (one_interval_answers (sender_interval t.profile) (try_new_of t p message k).sender cs made_interval))
      (calls_possible (sender_interval t.profile) t p message k s ok cs)
