-- Document 02, 2026-06, of the exported converter: a call that its own tests refuse, one that they let pass, and what it gives by its numbers.
-- Assumes nothing.
use mathlib.Core.Path.{◌≡◌, refl, sym, ap, ap₂, subst, ◌∙◌}
use mathlib.Core.Bool.{Bool, true, false, not}
use mathlib.Core.List.{List, [], ◌∷◌}
use Rattle.std.specs.Prelude.{Option, Some, None}
use Prim.Native.Nat.{ℕ, ◌≤◌, ◌<◌}
use lib.Dec.{ltb}
use lib.ListN.{length}
use borrow.Author.Tests.{lt-ltb, le-ltb}
use Rattle.tsar.specs.Rows.{Refusal, refusal, or_else, refusal_pass, refusal_append}
use Rattle.tsar.specs.declared.SegmentHead.{SegmentHead}
use Rattle.link.specs.Peer.{identity_refused, protocol_served}
use Rattle.link.specs.Profile.{known_profile}
use Rattle.segmentation.specs.Frozen.{Proposal, frozen_refusal, checked_as}
use Rattle.segmentation.specs.declared.FrozenMessage.{FrozenMessage}
use Rattle.dialect.specs.declared.Dialect.{Dialect}
use Rattle.dialect.specs.declared.Dialect.TheVariants.{BeginOnly, Every}
use Rattle.dialect.specs.Convert.{other_dialect, converted, convert_refusal, convert_of}
use Rattle.dialect.specs.Statement.{InDialect, again, TooLong}
use Rattle.dialect.proofs.Theorems.{again_accepted, again_plan, again_wide}
use Rattle.dialect.proofs.Refusals.{check_first, other_pattern, over_budget, within_budget, never_20}
use Rattle.sender.specs.declared.Terms.{Terms}
use Rattle.sender.specs.Calls.{left, placed}
use Rattle.sender.specs.TryNew.{first_offer, first_sender, try_new_of}
use Rattle.sender.proofs.Retired.{frozen_made}
use Rattle.codec_c.specs.Codes.{code_of, unnamed, unless_refused}
use Rattle.plan_image.specs.Frozen.{heads_of, heads_ok}
use Rattle.plan_c.specs.Calls.{plan_call, plan_written, frozen_plan, check_gives, frozen_tests, proposal, dialect_of, convert_tests, convert_call}

-- the dialect being read, by its number
abbrev pub dialect_number : Dialect → ℕ
dialect_number BeginOnly = 0
dialect_number Every = 1

module _ (heads : List ℕ) (count : ℕ) (joined message : List ℕ) (budget version ceiling : ℕ) (plan : List ℕ) where
  -- ---- its own tests

  pub convert_refused : (dialect : ℕ) (r : Refusal) → refusal (convert_tests heads dialect plan) ≡ Some r
      → plan_call (code_of r) plan ≡ convert_call heads count joined message budget version ceiling dialect plan
  unfolding convert_call
  convert_refused dialect r e =
      ap
      (λ (o : Option Refusal).
      unless_refused o (λ n. plan_call n plan) (check_gives (convert_of (dialect_of dialect) (proposal heads count joined message budget version ceiling)) plan))
      (sym e)

  pub convert_passed : (dialect : ℕ) (hs : List SegmentHead) (d : Dialect) → refusal (convert_tests heads dialect plan) ≡ None → hs ≡ heads_of heads → d ≡ dialect_of dialect
      → check_gives
      (convert_of d (record { heads = hs; count = count; joined = joined; message = message; budget = budget; version = version; ceiling = ceiling })) plan
      ≡ convert_call heads count joined message budget version ceiling dialect plan
  unfolding convert_call
  convert_passed dialect hs d e q r =
      ap₂
      (λ (x : List SegmentHead) (y : Dialect).
      check_gives
      (convert_of y (record { heads = x; count = count; joined = joined; message = message; budget = budget; version = version; ceiling = ceiling })) plan)
      q
      r
      ∙ ap
      (λ (o : Option Refusal).
      unless_refused o (λ n. plan_call n plan) (check_gives (convert_of (dialect_of dialect) (proposal heads count joined message budget version ceiling)) plan))
      (sym e)

  -- the tests of catkhize_try_from_frozen come first, whatever the dialect
  pub tests_first : (dialect : ℕ) (r : Refusal) → refusal (frozen_tests heads plan) ≡ Some r → convert_call heads count joined message budget version ceiling dialect plan ≡ plan_call (code_of r) plan
  tests_first dialect r e =
      sym (convert_refused dialect r (refusal_append (frozen_tests heads plan) ((ltb 1 dialect, unnamed) ∷ []) ∙ ap (λ (o : Option Refusal). or_else o (refusal ((ltb 1 dialect, unnamed) ∷ []))) e))

  -- ---- by its numbers, where the buffers have their room and HEADS spells heads

  module _ (head_room : 5888 ≤ length heads) (room : 5958 ≤ length plan) (spelled : heads_ok heads ≡ true) where
    abbrev asked : Proposal
    asked = proposal heads count joined message budget version ceiling

    -- a number that names no dialect: 66048, which is 258
    pub export_258 : (dialect : ℕ) → 1 < dialect → convert_call heads count joined message budget version ceiling dialect plan ≡ plan_call 66048 plan
    export_258 dialect h =
        sym
        (convert_refused dialect unnamed
        (refusal_append (frozen_tests heads plan) ((ltb 1 dialect, unnamed) ∷ [])
        ∙ ap (λ (o : Option Refusal). or_else o (refusal ((ltb 1 dialect, unnamed) ∷ []))) (refusal_pass (frozen_tests heads plan) (le-ltb (length heads) 5888 head_room, (le-ltb (length plan) 5958 room, (ap not spelled, tt))))
        ∙ ap (λ (b : Bool). refusal ((b, unnamed) ∷ [])) (lt-ltb 1 dialect h)))

    reads : (d : Dialect) → check_gives (convert_of d asked) plan ≡ convert_call heads count joined message budget version ceiling (dialect_number d) plan
    reads d = go d (refusal_pass (convert_tests heads (dialect_number d) plan) (le-ltb (length heads) 5888 head_room, (le-ltb (length plan) 5958 room, (ap not spelled, (named d, tt)))))
      where
        named : (e : Dialect) → ltb 1 (dialect_number e) ≡ false
        named BeginOnly = refl
        named Every = refl

        go : (e : Dialect) → refusal (convert_tests heads (dialect_number e) plan) ≡ None → check_gives (convert_of e asked) plan ≡ convert_call heads count joined message budget version ceiling (dialect_number e) plan
        go BeginOnly q = convert_passed 0 (heads_of heads) BeginOnly q refl refl
        go Every q = convert_passed 1 (heads_of heads) Every q refl refl

    gives : (d : Dialect) (o : Option Refusal) → convert_refusal d asked ≡ o → convert_call heads count joined message budget version ceiling (dialect_number d) plan ≡ check_gives (checked_as o (converted (other_dialect d) asked)) plan
    unfolding convert_of
    gives d o e = sym (reads d) ∙ ap (λ (x : Option Refusal). check_gives (checked_as x (converted (other_dialect d) asked)) plan) e

    -- the frozen check's refusals
    pub export_refused : (d : Dialect) (r : Refusal) → frozen_refusal asked ≡ Some r → convert_call heads count joined message budget version ceiling (dialect_number d) plan ≡ plan_call (code_of r) plan
    export_refused d r e = gives d (Some r) (check_first d asked r e)

    -- a train in another pattern: 6656, which is 26, and the plan is left as it was
    pub export_26 : (d : Dialect) → frozen_refusal asked ≡ None → (InDialect d asked → ⊥) → convert_call heads count joined message budget version ceiling (dialect_number d) plan ≡ plan_call 6656 plan
    export_26 d ok no_such = gives d (Some (26, 0)) (other_pattern d asked ok no_such)

    -- one with a segment that would be too long: 5120, which is 20
    pub export_20 : frozen_refusal asked ≡ None → InDialect BeginOnly asked → TooLong asked → convert_call heads count joined message budget version ceiling 0 plan ≡ plan_call 5120 plan
    export_20 ok fit long = gives BeginOnly (Some (20, 0)) (over_budget asked ok fit long)

    written : (d : Dialect) → convert_refusal d asked ≡ None → convert_call heads count joined message budget version ceiling (dialect_number d) plan ≡ plan_written (frozen_plan (convert_of d asked).plan) plan
    unfolding convert_of
    written d e = gives d None e ∙ ap (λ (x : Option Refusal). plan_written (frozen_plan (checked_as x (converted (other_dialect d) asked)).plan) plan) (sym e)

    -- any other is converted, and its plan written
    pub export_0 : frozen_refusal asked ≡ None → InDialect BeginOnly asked → (TooLong asked → ⊥)
        → convert_call heads count joined message budget version ceiling 0 plan ≡ plan_written (frozen_plan (convert_of BeginOnly asked).plan) plan
    export_0 ok fit short = written BeginOnly (within_budget asked ok fit short)

    pub export_1 : frozen_refusal asked ≡ None → InDialect Every asked
        → convert_call heads count joined message budget version ceiling 1 plan ≡ plan_written (frozen_plan (convert_of Every asked).plan) plan
    export_1 ok fit = written Every (never_20 asked ok fit)

-- ---- what a sender makes of it: it is not refused with 40, for it is a plan that the frozen check gives

pub converted_made : (d : Dialect) (q : Proposal) → convert_refusal d q ≡ None
    → (t : Terms) (k : ℕ) → identity_refused t.peer ≡ false → protocol_served t.protocol ≡ true → known_profile t.profile ≡ true → 1 ≤ t.version
    → try_new_of t (frozen_plan (convert_of d q).plan) q.message k ≡ placed (first_sender t (frozen_plan (convert_of d q).plan) k) (left (first_offer k))
converted_made d q ok t k i s c v =
    subst (λ (f : FrozenMessage). try_new_of t (frozen_plan f) q.message k ≡ placed (first_sender t (frozen_plan f) k) (left (first_offer k)))
    (again_plan d q ok) (frozen_made (again d q) (again_wide d q ok) (again_accepted d q ok) t k i s c v)
