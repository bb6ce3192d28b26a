-- Why a making is refused, in order, and what it gives where it is not. Document 02, 2026-11: 'A profile other than 1 or 2 gives 64, right after 31 when
-- a machine is made.' Laws of try_new's definition, over any terms and reading, of which the crates above have use. They assume nothing.
use Prim.Native.Nat.{ℕ}
use mathlib.Core.Path.{◌≡◌, refl}
use mathlib.Core.Logic.{◌⊎◌, inl, inr}
use mathlib.Core.Bool.{true, false}
use Rattle.std.specs.Prelude.{Option, Some, None}
use native.Mathlib.Omega.{arith}
use Rattle.link.specs.Peer.{identity_refused, protocol_served}
use Rattle.link.specs.Profile.{known_profile}
use Rattle.link.specs.Laws.{known_1, known_2, neither_known}
use Rattle.words.specs.Marks.{marked, all_below}
use Rattle.tsar.specs.Rows.{Refusal, refusal}
use Rattle.tsar.specs.Writing.{codec_rows}
use Rattle.receiver.specs.declared.ReceiverState.TheVariants.{AwaitingBegin}
use Rattle.receiver.specs.declared.Terms.{Terms}
use Rattle.receiver.specs.Record.{sum_to, empty_lengths, impossible}
use Rattle.receiver.specs.Advance.{Made, empty, bare_begin, try_new_rows, no_receiver, made_after, try_new_of}

-- a making that is refused
abbrev pub refused_with : Refusal → Made
refused_with n = record { refused = Some n; receiver = no_receiver }

module _ (t : Terms) (now' : ℕ) where
  pub gives_30 : identity_refused t.peer ≡ true → try_new_of t now' ≡ refused_with (30, 0)
  unfolding try_new_of
  gives_30 e = rw e

  module _ (peer : identity_refused t.peer ≡ false) where
    pub gives_31 : protocol_served t.protocol ≡ false → try_new_of t now' ≡ refused_with (31, 0)
    unfolding try_new_of
    gives_31 e = rw (peer, e)

    module _ (protocol : protocol_served t.protocol ≡ true) where
      pub gives_64 : (t.profile ≡ 1 → ⊥) → (t.profile ≡ 2 → ⊥) → try_new_of t now' ≡ refused_with (64, 0)
      unfolding try_new_of
      gives_64 f g = rw (peer, protocol, neither_known t.profile f g)

      -- in either profile the codec decides
      pub then_codec : (t.profile ≡ 1) ⊎ (t.profile ≡ 2) → try_new_of t now' ≡ made_after (refusal (codec_rows t.version (bare_begin t.transaction_id) 0)) t now'
      unfolding try_new_of
      then_codec (inl e) = rw (peer, protocol, e, known_1)
      then_codec (inr e) = rw (peer, protocol, e, known_2)

  -- where it is not refused: a new receiver of these terms
  pub makes : (try_new_of t now').refused ≡ None → try_new_of t now' ≡ record { refused = None; receiver = empty t AwaitingBegin now' }
  unfolding try_new_of
  makes e = go (refusal (try_new_rows t)) e
    where
      go : (v : Option Refusal) → (made_after v t now').refused ≡ None → made_after v t now' ≡ record { refused = None; receiver = empty t AwaitingBegin now' }
      go (Some n) f = absurd (let z : ◌≡◌ {A = ℕ} 0 1 = cc in omega arith)
      go None f = refl

-- the record beside a refusal is none of 62's: calls on it answer as on any canceled receiver
pub beside_possible : impossible no_receiver ≡ false
unfolding impossible all_below sum_to empty_lengths marked known_profile
beside_possible = refl
