-- The theorem of document 01's proved cases (specs/Cases): of each case, what the definitions give is what must come out. Assumes nothing.
use Rattle.std.specs.Prelude.{◌≡◌, refl, List, [], ◌∷◌, ℕ, ◌<◌, length, Option, Some, None}
use Rattle.std.proofs.Common.{ap}
use Rattle.octets.specs.Octets.{wiped_to, same_octets}
use Rattle.words.specs.Marks.{marked, sum_below, words_of, all_below, highest_of}
use Rattle.link.specs.Profile.{known_profile, receiver_interval}
use Rattle.tsar.specs.declared.AcknowledgmentWindow.TheVariants as window
use Rattle.tsar.specs.Rows.{Refusal}
use Rattle.tsar.specs.Layout.{bits_of, bits, octets_of, fields_with}
use Rattle.tsar.specs.Reading.{segment_of, segment_as, services_of, step_of, run_params, compression_of, window_of, status_of}
use Rattle.tsar.specs.Writing.{encode_of}
use Rattle.tsar.proofs.OneOctet.{p10_begin}
use Rattle.segmentation.specs.Plan.{plan_message, plan_of, segment_count, longer, segment_at}
use Rattle.receiver.specs.Record.{sum_to, empty_slots, empty_lengths, joined, impossible}
use Rattle.receiver.specs.Receive.{receive_of}
use Rattle.receiver.specs.Advance.{try_new_of}
use Rattle.cases.specs.Cases.{cuts, makes, up_to, given, count_in, refusal_in, receive_all, cases, Gives, All}

p10 : (d o₁ o₂ o₃ o₄ o₅ o₆ : ℕ) → d < 256 → Gives (cuts (d ∷ o₁ ∷ o₂ ∷ o₃ ∷ o₄ ∷ o₅ ∷ o₆ ∷ []) 6 (1 ∷ 3 ∷ 3 ∷ []) (1 ∷ 3 ∷ 3 ∷ []) (0x00 ∷ 0x00 ∷ 0x01 ∷ d ∷ 0x10 ∷ 0x07 ∷ []))
unfolding given plan_message plan_of segment_count longer segment_at up_to
p10 d o₁ o₂ o₃ o₄ o₅ o₆ h = ap (cuts (d ∷ o₁ ∷ o₂ ∷ o₃ ∷ o₄ ∷ o₅ ∷ o₆ ∷ []) 6 (1 ∷ 3 ∷ 3 ∷ []) (1 ∷ 3 ∷ 3 ∷ [])) (p10_begin d h)

-- a plan depends on the message's length alone
planned_as : (m : List ℕ) (budget k : ℕ) (n : Option ℕ) (r : Option Refusal) → length m ≡ k
    → count_in (plan_message k budget 0 window.Prohibited 1 budget) ≡ n → refusal_in (plan_message k budget 0 window.Prohibited 1 budget) ≡ r
    → Gives (makes m budget n r)
unfolding given
planned_as m budget k n r e p q = rw (e, p, q)

pub all_cases : (d o₁ o₂ o₃ o₄ o₅ o₆ : ℕ) (m n : List ℕ) → d < 256 → length m ≡ 256 → length n ≡ 257 → All (cases d o₁ o₂ o₃ o₄ o₅ o₆ m n)
unfolding known_profile receiver_interval cases given segment_of segment_as services_of step_of run_params compression_of window_of status_of encode_of bits_of bits octets_of fields_with plan_message plan_of segment_count longer receive_all try_new_of receive_of impossible all_below sum_to empty_slots empty_lengths joined same_octets wiped_to marked words_of sum_below highest_of
all_cases d o₁ o₂ o₃ o₄ o₅ o₆ m n h e f =
    (refl, (refl, (refl, (refl, (refl, (refl, (refl, (refl, (refl, (refl, (refl, (refl, (refl, (refl, (refl, (refl, (refl, (p10 d o₁ o₂ o₃ o₄ o₅ o₆ h, (planned_as m 4 256 (Some 256) None e refl refl, (planned_as n 4 257 None (Some (22, 0)) f refl refl, (refl, (refl, tt))))))))))))))))))))))
