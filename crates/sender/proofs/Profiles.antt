-- Document 02, 2026-11, of making senders: 'A profile other than 1 or 2 gives 64, right after 31'. try_new's refusals by their tests, in order: 30, 31,
-- 64, 40, and of the codec 1. Each speaks of any plan, message and reading, so nothing behind it comes before it. Assumes nothing.
use Prim.Native.Nat.{ℕ, ◌≤◌}
use mathlib.Core.Path.{◌≡◌}
use mathlib.Core.List.{List}
use mathlib.Core.Bool.{true, false}
use borrow.Author.Tests.{le-ltb}
use Rattle.link.specs.Peer.{identity_refused, protocol_served}
use Rattle.link.specs.Profile.{known_profile}
use Rattle.link.specs.Laws.{neither_known}
use Rattle.sender.specs.declared.Plan.{Plan}
use Rattle.sender.specs.declared.Terms.{Terms}
use Rattle.sender.specs.Calls.{refused, left, placed}
use Rattle.sender.specs.TryNew.{is_given, first_offer, first_sender, try_new_of}

module _ (t : Terms) (p : Plan) (message : List ℕ) (k : ℕ) where
  pub gives_30 : identity_refused t.peer ≡ true → (try_new_of t p message k).answer ≡ refused (30, 0)
  unfolding try_new_of
  gives_30 a = simp a

  module _ (a : identity_refused t.peer ≡ false) where
    -- whatever the profile
    pub gives_31 : protocol_served t.protocol ≡ false → (try_new_of t p message k).answer ≡ refused (31, 0)
    unfolding try_new_of
    gives_31 b = simp (a, b)

    module _ (b : protocol_served t.protocol ≡ true) where
      -- whether a plan is given or not, and whatever the version
      pub gives_64 : (t.profile ≡ 1 → ⊥) → (t.profile ≡ 2 → ⊥) → (try_new_of t p message k).answer ≡ refused (64, 0)
      unfolding try_new_of
      gives_64 e f = simp (a, b, neither_known t.profile e f)

      module _ (c : known_profile t.profile ≡ true) where
        pub gives_40 : is_given p message ≡ false → (try_new_of t p message k).answer ≡ refused (40, 0)
        unfolding try_new_of
        gives_40 d = simp (a, b, c, d)

        pub gives_1 : is_given p message ≡ true → t.version ≡ 0 → (try_new_of t p message k).answer ≡ refused (1, 0)
        unfolding try_new_of
        gives_1 d e = simp (a, b, c, d, e)

        -- and where none of these holds it is made
        pub makes : is_given p message ≡ true → 1 ≤ t.version → try_new_of t p message k ≡ placed (first_sender t p k) (left (first_offer k))
        unfolding try_new_of
        makes d e = simp (a, b, c, d, le-ltb t.version 1 e)
