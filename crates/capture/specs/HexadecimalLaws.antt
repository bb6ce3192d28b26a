-- Laws of reading hexadecimal: what the character at the place i of a list does, by what step it is, where that is the character at of a text.
use Rattle.std.specs.Prelude.{ℕ, suc, ◌≤◌, ◌<◌, ◌≡◌, List, [], ◌∷◌, length, get_or, drop, Option, None, Result, Ok, Err}
use Rattle.std.proofs.Common.{◌∙◌, le-leb, drop_of_length-le, drop-cons}
use Rattle.std.proofs.Math.Path.{ap}
use Rattle.std.proofs.lemmas.Bool.{lt-leb}
use Rattle.capture.specs.declared.octet.OctetFault.{OctetFault}
use Rattle.capture.specs.declared.octet.OctetFault.TheVariants as fault
use Rattle.capture.specs.declared.octet.Step.{Step}
use Rattle.capture.specs.declared.octet.Step.TheVariants as step
use Rattle.capture.specs.declared.octet.BadOctets.{BadOctets}
use Rattle.capture.specs.Hexadecimal.{bad_octets, step_of, end_of, on_step, spelled_from}

module _ (room : ℕ) (h : Option ℕ) (n at i : ℕ) (l : List ℕ) where
  -- what follows where no octet ends, and what follows an octet
  wait : Option ℕ → Result ℕ BadOctets × List ℕ
  wait k = spelled_from room k n (suc at) (drop (suc i) l)

  next : Result ℕ BadOctets × List ℕ
  next = spelled_from room None (suc n) (suc at) (drop (suc i) l)

  -- a character by its step
  stepped : (s : Result Step OctetFault) → i < length l → step_of h (get_or l i 0) ≡ s → spelled_from room h n at (drop i l) ≡ on_step s room n at wait next
  unfolding spelled_from wait next
  stepped s p e = ap (spelled_from room h n at) (drop-cons l i 0 p) ∙ ap (λ (k : Result Step OctetFault). on_step k room n at wait next) e

  pub on_fault : (f : OctetFault) → i < length l → step_of h (get_or l i 0) ≡ Err f → spelled_from room h n at (drop i l) ≡ (Err (bad_octets f at), [])
  on_fault f p e = stepped (Err f) p e

  pub on_wait : (k : Option ℕ) → i < length l → step_of h (get_or l i 0) ≡ Ok (step.Wait k)
      → spelled_from room h n at (drop i l) ≡ spelled_from room k n (suc at) (drop (suc i) l)
  unfolding wait
  on_wait k p e = stepped (Ok (step.Wait k)) p e

  pub on_full : (x : ℕ) → i < length l → room ≤ n → step_of h (get_or l i 0) ≡ Ok (step.Octet x) → spelled_from room h n at (drop i l) ≡ (Err (bad_octets fault.NoRoom at), [])
  on_full x p q e = stepped (Ok (step.Octet x)) p e ∙ simp (le-leb _ _ q)

  pub on_octet : (x : ℕ) → i < length l → n < room → step_of h (get_or l i 0) ≡ Ok (step.Octet x)
      → spelled_from room h n at (drop i l)
      ≡ ((spelled_from room None (suc n) (suc at) (drop (suc i) l)).0, x ∷ (spelled_from room None (suc n) (suc at) (drop (suc i) l)).1)
  unfolding next
  on_octet x p q e = stepped (Ok (step.Octet x)) p e ∙ simp (lt-leb _ _ q)

  pub on_end : length l ≤ i → spelled_from room h n at (drop i l) ≡ (end_of h n at, [])
  unfolding spelled_from
  on_end p = ap (spelled_from room h n at) (drop_of_length-le l {i = i} p)
