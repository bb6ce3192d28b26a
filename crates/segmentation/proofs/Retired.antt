-- Document 02, 2026-09: 'plan_message and the even planner shall no longer make one', 'Messages that need no segments are unaffected', and 'A plan
-- that would ask for it is refused with 25, after the Unsegmented answer and before the codec's refusals'; and of 'Frozen plans that use it are still
-- accepted' the example that sender and delivery go on with. Each law holds of both planners. Assumes nothing.
use Prim.Native.Nat.{ℕ, zero, suc, ◌≤◌, ◌<◌}
use mathlib.Core.Path.{◌≡◌, refl, sym, ap, ◌∙◌}
use mathlib.Core.List.{List, [], ◌∷◌, ◌++◌, map}
use mathlib.Core.Bool.{Bool, true, false, cond, not, ◌&&◌, true≢false}
use Rattle.std.specs.Prelude.{Some, None}
use lib.ListN.{replicate}
use lib.Dec.{eqb, leb, ltb}
use borrow.Author.Tests.{ltb-false, leb-false, lt-ltb, le-ltb, le-leb, lt-leb}
use Rattle.octets.specs.Octets.{same_octets}
use Rattle.tsar.specs.Rows.{first_of}
use Rattle.tsar.specs.Kinds.{services_or_default}
use Rattle.tsar.specs.Writing.{header_octets, codec_rows}
use Rattle.tsar.specs.declared.AcknowledgmentWindow.{AcknowledgmentWindow}
use Rattle.tsar.specs.declared.AcknowledgmentWindow.TheVariants as window
use Rattle.tsar.specs.declared.Compression.TheVariants as compression
use Rattle.tsar.specs.declared.CrcStatus.TheVariants as status
use Rattle.tsar.specs.declared.SegmentHead.{SegmentHead}
use Rattle.tsar.specs.declared.SegmentKind.{SegmentKind}
use Rattle.tsar.specs.declared.SegmentKind.TheVariants as kind'
use Rattle.segmentation.specs.declared.SegmentedMessage.{SegmentedMessage}
use Rattle.segmentation.specs.Plan.{Planning, unsegmented, refused, segmented, refuses, bare_begin, size_rows, plan_of, plan_message, spread, prohibited, is_exceptions, services_for, planned_kind}
use Rattle.segmentation.specs.Frozen.{Proposal, services_of, no_head, data_before, segments_from, frozen_refusal, frozen_of}
use Rattle.segmentation.specs.Planned.{Spread, full, even, planning}
use Rattle.segmentation.proofs.Planned.{plan_arguments, plan_window}

-- ---- the window

is_exceptions_lem : (w : AcknowledgmentWindow) → is_exceptions w ≡ true → w ≡ window.Exceptions
is_exceptions_lem window.Prohibited e = absurd (true≢false (sym e))
is_exceptions_lem window.Every4 e = absurd (true≢false (sym e))
is_exceptions_lem window.Every8 e = absurd (true≢false (sym e))
is_exceptions_lem window.Every16 e = absurd (true≢false (sym e))
is_exceptions_lem window.Last e = absurd (true≢false (sym e))
is_exceptions_lem window.Exceptions e = refl

not_exceptions : (w : AcknowledgmentWindow) → is_exceptions w ≡ false → w ≡ window.Exceptions → ⊥
not_exceptions w e q = true≢false (sym (ap is_exceptions q) ∙ e)

-- the window that a segment of this kind asks for: a Begin's services have it
abbrev pub window_asked : SegmentKind → AcknowledgmentWindow
window_asked k = (services_or_default (services_of k)).acknowledgment_window

-- a plan's Begin asks for the plan's window
pub begin_asks : (p : SegmentedMessage) → window_asked (planned_kind p 0) ≡ p.acknowledgment_window
begin_asks p = go p.acknowledgment_window
  where
    go : (w : AcknowledgmentWindow) → (services_or_default (services_for w (prohibited w))).acknowledgment_window ≡ w
    go window.Prohibited = refl
    go window.Every4 = refl
    go window.Every8 = refl
    go window.Every16 = refl
    go window.Last = refl
    go window.Exceptions = refl

-- ---- rows of which none says 25

abbrev says25 : Planning → Bool
says25 unsegmented = false
says25 (refused r) = eqb r.0 25
says25 (segmented p) = false

spread_25 : (r : Planning) → says25 (spread r) ≡ says25 r
spread_25 unsegmented = refl
spread_25 (refused r) = refl
spread_25 (segmented p) = refl

abbrev none25 : List (Bool × Planning) → Bool
none25 [] = true
none25 (c ∷ cs) = not (says25 c.1) && none25 cs

one_25 : (t : Bool) (v : Planning) (b : Bool) (r : Planning) → (not (says25 v) && b) ≡ true → (b ≡ true → says25 r ≡ false) → says25 (cond t v r) ≡ false
one_25 t v b r o h = go t (says25 v) refl o
  where
    go : (u : Bool) (a : Bool) → says25 v ≡ a → (not a && b) ≡ true → says25 (cond u v r) ≡ false
    go true true e o = absurd (true≢false (sym o))
    go true false e o = e
    go false true e o = absurd (true≢false (sym o))
    go false false e o = h o

rows_25 : (cs : List (Bool × Planning)) (d : Planning) → none25 cs ≡ true → says25 d ≡ false → says25 (first_of cs d) ≡ false
rows_25 [] d o h = h
rows_25 (c ∷ cs) d o h = one_25 c.0 c.1 (none25 cs) (first_of cs d) o (λ p. rows_25 cs d p h)

-- ---- the order, of plan_message

module _ (n budget transaction : ℕ) (w : AcknowledgmentWindow) (version ceiling : ℕ) where
  message_20 : ceiling < budget → plan_message n budget transaction w version ceiling ≡ refused (20, 0)
  unfolding plan_message
  message_20 h = simp (lt-ltb ceiling budget h)

  message_whole : n ≤ budget → budget ≤ ceiling → plan_message n budget transaction w version ceiling ≡ unsegmented
  unfolding plan_message
  message_whole h k = simp (le-ltb ceiling budget k, le-leb n budget h)

  message_25 : budget < n → budget ≤ ceiling → is_exceptions w ≡ true → plan_message n budget transaction w version ceiling ≡ refused (25, 0)
  unfolding plan_message
  message_25 h k e = simp (le-ltb ceiling budget k, lt-leb n budget h, e)

  message_only : says25 (plan_message n budget transaction w version ceiling) ≡ true → (budget ≤ ceiling) × (budget < n) × (w ≡ window.Exceptions)
  unfolding plan_message
  message_only e = go (ltb ceiling budget) (leb n budget) (is_exceptions w) refl refl refl e
    where
      go : (a b c : Bool) → ltb ceiling budget ≡ a → leb n budget ≡ b → is_exceptions w ≡ c
          → says25 (cond a (refused (20, 0)) (cond b unsegmented (cond c (refused (25, 0)) (first_of (map refuses (codec_rows version (bare_begin transaction w) 0) ++ size_rows n budget w) (segmented (plan_of n budget transaction w)))))) ≡ true
          → (budget ≤ ceiling) × (budget < n) × (w ≡ window.Exceptions)
      go true b c p q r e = absurd (true≢false (sym e))
      go false true c p q r e = absurd (true≢false (sym e))
      go false false true p q r e = (ltb-false ceiling budget p, leb-false n budget q, is_exceptions_lem w r)
      go false false false p q r e = absurd (true≢false (sym e ∙ rows_25 (map refuses (codec_rows version (bare_begin transaction w) 0) ++ size_rows n budget w) (segmented (plan_of n budget transaction w)) refl refl))

-- ---- the laws, of either planner

module _ (x : Spread) (n budget transaction : ℕ) (w : AcknowledgmentWindow) (version ceiling : ℕ) where
  -- what plan_message says without a plan, the even planner says
  alike : (v : Planning) → spread v ≡ v → plan_message n budget transaction w version ceiling ≡ v → planning x n budget transaction w version ceiling ≡ v
  alike v s e = go x
    where
      go : (y : Spread) → planning y n budget transaction w version ceiling ≡ v
      go full = e
      go even = ap spread e ∙ s

  -- 20 comes before all
  pub budget_first : ceiling < budget → planning x n budget transaction w version ceiling ≡ refused (20, 0)
  budget_first h = alike (refused (20, 0)) refl (message_20 n budget transaction w version ceiling h)

  -- a message that needs no segments is unaffected, whatever the window
  pub unaffected : n ≤ budget → budget ≤ ceiling → planning x n budget transaction w version ceiling ≡ unsegmented
  unaffected h k = alike unsegmented refl (message_whole n budget transaction w version ceiling h k)

  -- one that needs them is refused with 25 under Exceptions, whatever its transaction, version and segments are
  pub refused_25 : budget < n → budget ≤ ceiling → w ≡ window.Exceptions → planning x n budget transaction w version ceiling ≡ refused (25, 0)
  refused_25 h k e = alike (refused (25, 0)) refl (message_25 n budget transaction w version ceiling h k (ap is_exceptions e))

  -- and 25 is said of no other
  pub only_25 : (m : ℕ) → planning x n budget transaction w version ceiling ≡ refused (25, m) → (budget ≤ ceiling) × (budget < n) × (w ≡ window.Exceptions)
  only_25 m e = message_only n budget transaction w version ceiling (go x e)
    where
      go : (y : Spread) → planning y n budget transaction w version ceiling ≡ refused (25, m) → says25 (plan_message n budget transaction w version ceiling) ≡ true
      go full q = ap says25 q
      go even q = sym (spread_25 (plan_message n budget transaction w version ceiling)) ∙ ap says25 q

  module _ (p : SegmentedMessage) (ok : planning x n budget transaction w version ceiling ≡ segmented p) where
    -- so no plan has the window
    pub no_exceptions : p.acknowledgment_window ≡ window.Exceptions → ⊥
    no_exceptions = not_exceptions p.acknowledgment_window (ap is_exceptions (plan_window x n budget transaction w version ceiling p ok) ∙ (plan_arguments x n budget transaction w version ceiling p ok).asks_none)

    -- and no segment of one asks for it
    pub none_asks : (i : ℕ) → window_asked (planned_kind p i) ≡ window.Exceptions → ⊥
    none_asks zero = λ e. no_exceptions (sym (begin_asks p) ∙ e)
    none_asks (suc i) = go (eqb (suc (suc i)) p.count)
      where
        go : (t : Bool) → window_asked (cond t (kind'.End None None) (kind'.Continue None)) ≡ window.Exceptions → ⊥
        go true = not_exceptions window.Prohibited refl
        go false = not_exceptions window.Prohibited refl

-- ---- a frozen plan that uses it is accepted: 7 octets in two segments, of 2 and 5, at budget 9

abbrev exceptions_begin : SegmentHead
exceptions_begin =
    record {
      segment = record {
        transaction_id = 0;
        sequence_number = 0;
        kind = kind'.Begin (Some 7) (Some (record { compression = compression.None; acknowledgment_window = window.Exceptions; crc_status = status.None }));
      };
      segment_data_length = 2;
    }

abbrev exceptions_end : SegmentHead
exceptions_end = record { segment = record { transaction_id = 0; sequence_number = 1; kind = kind'.End None None }; segment_data_length = 5 }

abbrev pub exceptions_train : Proposal
exceptions_train =
    record {
      heads = exceptions_begin ∷ exceptions_end ∷ replicate 254 no_head;
      count = 2;
      joined = 1 ∷ 2 ∷ 3 ∷ 4 ∷ 5 ∷ 6 ∷ 7 ∷ [];
      message = 1 ∷ 2 ∷ 3 ∷ 4 ∷ 5 ∷ 6 ∷ 7 ∷ [];
      budget = 9;
      version = 1;
      ceiling = 9;
    }

pub exceptions_accepted : frozen_refusal exceptions_train ≡ None
unfolding frozen_refusal segments_from data_before header_octets same_octets
exceptions_accepted = refl

pub exceptions_asked : (frozen_of exceptions_train).acknowledgment_window ≡ window.Exceptions
exceptions_asked = refl
