-- Document 02, 2026-11, of the exported making: the receiver that it leaves is of the profile that it was given, and a profile that is neither 1 nor 2
-- gives 16384, which is 64, behind the exports' own tests, 30 and 31, and leaves the record as it was. Assumes nothing.
use mathlib.Core.Path.{◌≡◌, refl, sym, ap, ◌∙◌}
use mathlib.Core.Bool.{true, false}
use mathlib.Core.List.{List, []}
use Rattle.std.specs.Prelude.{Some, None}
use Prim.Native.Nat.{ℕ, ◌≤◌}
use lib.ListN.{length}
use borrow.Author.Tests.{le-ltb}
use Rattle.link.specs.Peer.{identity_refused, protocol_served}
use Rattle.tsar.specs.Rows.{refusal, refusal_pass}
use Rattle.receiver.specs.declared.ReceiverState.TheVariants.{AwaitingBegin}
use Rattle.receiver.specs.declared.Terms.{Terms}
use Rattle.receiver.specs.Advance.{Made, empty, try_new_of}
use Rattle.receiver.proofs.Making.{gives_64, makes}
use Rattle.image.specs.Cases.{protocol_of}
use Rattle.receiver_c.specs.Calls.{Call, call, new_tests, new_gives, new_call}
use Rattle.receiver_c.specs.Laws.{new_passed}

module _ (image : List ℕ) (kind width value protocol octet transaction version profile maximum reading : ℕ) (room : 3931 ≤ length image) (named : protocol ≤ 2) where
  -- what it asks of try_new
  abbrev pub asked : Terms
  asked =
      record {
        peer = record { kind = kind; width = width; value = value };
        protocol = protocol_of protocol octet;
        transaction_id = transaction;
        version = version;
        profile = profile;
        maximum_message_octets = maximum;
      }

  abbrev made : Call
  made = new_call image kind width value protocol octet transaction version profile maximum reading

  given : (m : Made) → try_new_of asked reading ≡ m → made ≡ new_gives image m
  given m e = sym (new_passed image kind width value protocol octet transaction version profile maximum reading (protocol_of protocol octet) passed refl) ∙ ap (new_gives image) e
    where
      passed : refusal (new_tests image protocol) ≡ None
      passed = refusal_pass (new_tests image protocol) (le-ltb (length image) 3931 room, (le-ltb 2 protocol named, tt))

  pub export_64 : identity_refused asked.peer ≡ false → protocol_served asked.protocol ≡ true → (profile ≡ 1 → ⊥) → (profile ≡ 2 → ⊥) → made ≡ call 16384 image [] [] []
  export_64 a b f g = given _ (gives_64 asked reading a b f g)

  -- where try_new refuses nothing: 0, and the receiver that the record spells is a new one of these terms, the profile among them
  pub export_made : (try_new_of asked reading).refused ≡ None → (made.code ≡ 0) × (made.receiver ≡ Some (empty asked AwaitingBegin reading))
  export_made e = let q = given _ (makes asked reading e) in (ap (λ (c : Call). c.code) q, ap (λ (c : Call). c.receiver) q)
