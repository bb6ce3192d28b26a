-- Document 02, 2026-09, of making senders: a planned record with the Exceptions window is one that no planner gives, so 40; a frozen one that the check
-- accepts passes. Finished has what comes of it. Assumes nothing.
use Prim.Native.Nat.{ℕ, ◌≤◌}
use mathlib.Core.Path.{◌≡◌, refl, ap}
use mathlib.Core.List.{List}
use mathlib.Core.Bool.{Bool, true, false, not}
use Rattle.std.specs.Prelude.{Option, None}
use lib.ListN.{length}
use borrow.Author.Tests.{le-ltb}
use Rattle.link.specs.Peer.{identity_refused, protocol_served}
use Rattle.link.specs.Profile.{known_profile}
use Rattle.tsar.specs.Rows.{Refusal, refusal_pass}
use Rattle.tsar.specs.declared.AcknowledgmentWindow.TheVariants as window
use Rattle.segmentation.specs.Planned.{full, even}
use Rattle.segmentation.specs.Frozen.{Proposal, frozen_refusal, frozen_of}
use Rattle.segmentation.proofs.Retired.{no_exceptions}
use Rattle.segmentation.specs.declared.SegmentedMessage.{SegmentedMessage}
use Rattle.segmentation.specs.declared.FrozenMessage.{FrozenMessage}
use Rattle.sender.specs.declared.PlanForm.TheVariants as form
use Rattle.sender.specs.declared.Plan.{Plan}
use Rattle.sender.specs.declared.Terms.{Terms}
use Rattle.sender.specs.Calls.{refused, left, placed}
use Rattle.sender.specs.TryNew.{is_planned, is_given, first_offer, first_sender, made_after, try_new_rows, try_new_of}
use Rattle.sender.specs.Exact.{GivenByPlanner, planned, evenly, planned_iff, check_given}

-- ---- planned: 40

none_gives : (p : SegmentedMessage) (n : ℕ) → p.acknowledgment_window ≡ window.Exceptions → GivenByPlanner p n → ⊥
none_gives p n e (planned budget transaction w version ceiling gives) = no_exceptions full n budget transaction w version ceiling p gives e
none_gives p n e (evenly budget transaction w version ceiling gives) = no_exceptions even n budget transaction w version ceiling p gives e

pub planned_exceptions : (p : SegmentedMessage) (n : ℕ) → p.acknowledgment_window ≡ window.Exceptions → is_planned p n ≡ false
planned_exceptions p n e = go (is_planned p n) refl
  where
    go : (b : Bool) → is_planned p n ≡ b → b ≡ false
    go true q = absurd (none_gives p n e ((planned_iff p n).0 q))
    go false q = refl

-- try_new refuses it with 40 where none of 30, 31 and 64 comes before, for any message, at any reading
pub exceptions_40 : (t : Terms) (q : SegmentedMessage) (f : FrozenMessage) (message : List ℕ) (k : ℕ) → q.acknowledgment_window ≡ window.Exceptions → identity_refused t.peer ≡ false → protocol_served t.protocol ≡ true → known_profile t.profile ≡ true
    → (try_new_of t (record { form = form.Planned q; frozen = f }) message k).answer ≡ refused (40, 0)
unfolding try_new_of is_given
exceptions_40 t q f message k e i s c = simp (i, s, c, planned_exceptions q (length message) e)

-- ---- frozen: a sender is made of what the check accepts, whatever the window

abbrev pub frozen_plan : Proposal → Plan
frozen_plan q = record { form = form.Frozen; frozen = frozen_of q }

pub frozen_passes : (q : Proposal) → length q.heads ≡ 256 → frozen_refusal q ≡ None → is_given (frozen_plan q) q.message ≡ true
unfolding is_given
frozen_passes q wide ok = check_given q wide ok

pub frozen_made : (q : Proposal) → length q.heads ≡ 256 → frozen_refusal q ≡ None
    → (t : Terms) (k : ℕ) → identity_refused t.peer ≡ false → protocol_served t.protocol ≡ true → known_profile t.profile ≡ true → 1 ≤ t.version
    → try_new_of t (frozen_plan q) q.message k ≡ placed (first_sender t (frozen_plan q) k) (left (first_offer k))
unfolding try_new_of
frozen_made q wide ok t k i s c v =
    ap (λ (r : Option Refusal). made_after r t (frozen_plan q) k)
    (refusal_pass (try_new_rows t (frozen_plan q) q.message) (i, (ap not s, (ap not c, (ap not (frozen_passes q wide ok), (le-ltb t.version 1 v, tt))))))
