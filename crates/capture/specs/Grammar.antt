-- Which texts spell which octets (docs/CAPTURE.md, 'Octets'), and that reading takes these and no others; and what a digit more makes of a
-- number.
use Rattle.std.specs.Prelude.{ℕ, suc, ◌+◌, ◌*◌, ◌-◌, ◌≤◌, ◌≡◌, refl, Bool, true, false, cond, ◌||◌, List, [], ◌∷◌, ◌++◌, eqb, leb, length, Option, Some, None, Result, Ok, Err}
use Rattle.std.proofs.Common.{sym, ap, subst, ◌∙◌, arith, eqb-true}
use Rattle.std.proofs.lemmas.Bool.{lt-leb}
use Rattle.capture.specs.declared.octet.OctetFault.{OctetFault}
use Rattle.capture.specs.declared.octet.OctetFault.TheVariants as fault
use Rattle.capture.specs.declared.octet.Step.{Step}
use Rattle.capture.specs.declared.octet.Step.TheVariants as step
use Rattle.capture.specs.declared.octet.BadOctets.{BadOctets}
use Rattle.capture.specs.Text.{blank}
use Rattle.capture.specs.Decimal.{value_from}
use Rattle.capture.specs.Hexadecimal.{bad_octets, is_hex, octet_from, step_of, on_step, spelled_from}

-- nothing; a blank before a text; two digits before a text
pub data Spells : List ℕ → List ℕ → Type 0 where
  nothing : Spells [] []
  after_blank : {x : ℕ} {t o : List ℕ} → blank x ≡ true → Spells t o → Spells (x ∷ t) o
  after_octet : {x y : ℕ} {t o : List ℕ} → is_hex x ≡ true → is_hex y ≡ true → Spells t o → Spells (x ∷ y ∷ t) (octet_from x y ∷ o)

-- ---- every text that spells octets is read as these, where there is room

-- no blank is a digit
blank_no_digit : (x : ℕ) → blank x ≡ true → is_hex x ≡ false
blank_no_digit x = go (eqb x 32) refl (eqb x 9) refl (eqb x 13) refl
  where
    at : (k : ℕ) → eqb x k ≡ true → is_hex k ≡ false → is_hex x ≡ false
    at k e p = ap is_hex (eqb-true x k e) ∙ p

    go : (a : Bool) → eqb x 32 ≡ a → (b : Bool) → eqb x 9 ≡ b → (c : Bool) → eqb x 13 ≡ c → (a || (b || c)) ≡ true → is_hex x ≡ false
    go true e b f c g h = at 32 e refl
    go false e true f c g h = at 9 f refl
    go false e false f true g h = at 13 g refl
    go false e false f false g h = cc

-- a character by what it does
by_step : (room : ℕ) (h : Option ℕ) (n at x : ℕ) (t : List ℕ) (s : Result Step OctetFault) → step_of h x ≡ s
    → spelled_from room h n at (x ∷ t) ≡ on_step s room n at (λ k. spelled_from room k n (suc at) t) (spelled_from room None (suc n) (suc at) t)
unfolding spelled_from
by_step room h n at x t s e =
    ap (λ (k : Result Step OctetFault). on_step k room n at (λ k. spelled_from room k n (suc at) t) (spelled_from room None (suc n) (suc at) t)) e

-- what a character does, by what it is
unread_digit : (x : ℕ) → is_hex x ≡ true → step_of None x ≡ Ok (step.Wait (Some x))
unread_digit x p = ap (λ (b : Bool). cond b (Ok (step.Wait (Some x))) (cond (blank x) (Ok (step.Wait None)) (Err fault.NoDigit))) p

unread_other : (x : ℕ) (b : Bool) → is_hex x ≡ false → blank x ≡ b → step_of None x ≡ cond b (Ok (step.Wait None)) (Err fault.NoDigit)
unread_other x b p q =
    ap (λ (a : Bool). cond a (Ok (step.Wait (Some x))) (cond (blank x) (Ok (step.Wait None)) (Err fault.NoDigit))) p
    ∙ ap (λ (a : Bool). cond a (Ok (step.Wait None)) (Err fault.NoDigit)) q

read_digit : (h x : ℕ) → is_hex x ≡ true → step_of (Some h) x ≡ Ok (step.Octet (octet_from h x))
read_digit h x p = ap (λ (b : Bool). cond b (Ok (step.Octet (octet_from h x))) (cond (blank x) (Err fault.Half) (Err fault.NoDigit))) p

read_other : (h x : ℕ) (b : Bool) → is_hex x ≡ false → blank x ≡ b → step_of (Some h) x ≡ cond b (Err fault.Half) (Err fault.NoDigit)
read_other h x b p q =
    ap (λ (a : Bool). cond a (Ok (step.Octet (octet_from h x))) (cond (blank x) (Err fault.Half) (Err fault.NoDigit))) p
    ∙ ap (λ (a : Bool). cond a (Err fault.Half) (Err fault.NoDigit)) q

pub read_complete : (room n at : ℕ) {t o : List ℕ} → Spells t o → n + length o ≤ room → spelled_from room None n at t ≡ (Ok (n + length o), o)
unfolding spelled_from
read_complete room n at nothing h = let e : n ≡ n + 0 = omega arith in ap (λ (k : ℕ). (Ok k, [])) e
read_complete room n at (after_blank {x} {t} b s) h =
    by_step room None n at x t _ (unread_other x true (blank_no_digit x b) b) ∙ read_complete room n (suc at) s h
read_complete room n at (after_octet {x} {y} {t} {o} p q s) h =
    let k : suc n + length o ≤ room = omega arith in
    let e : suc n + length o ≡ n + suc (length o) = omega arith in
    let f : leb room n ≡ false = lt-leb room n (omega arith) in
    let r : spelled_from room None (suc n) (suc (suc at)) t ≡ (Ok (n + suc (length o)), o) =
    read_complete room (suc n) (suc (suc at)) s k ∙ ap (λ (m : ℕ). (Ok m, o)) e in
    by_step room None n at x (y ∷ t) _ (unread_digit x p) ∙ by_step room (Some x) n (suc at) y t _ (read_digit x y q)
    ∙ ap (λ (b : Bool). cond b (Err (bad_octets fault.NoRoom (suc at)), []) ((spelled_from room None (suc n) (suc (suc at)) t).0, octet_from x y ∷ (spelled_from room None (suc n) (suc (suc at)) t).1)) f
    ∙ ap (λ (z : Result ℕ BadOctets × List ℕ). (z.0, octet_from x y ∷ z.1)) r

-- ---- and nothing else is read as octets

-- what has been read is spelled, with the digit that waits before it
abbrev Found : Option ℕ → List ℕ → List ℕ → Type 0
Found None t o = Spells t o
Found (Some h) t o = is_hex h ≡ true → Spells (h ∷ t) o

-- a fault is no reading
no_fault : {f : OctetFault} {at m : ℕ} {a o : List ℕ} → ◌≡◌ {A = Result ℕ BadOctets × List ℕ} (Err (bad_octets f at), a) (Ok m, o) → ⊥
no_fault {f} {at} {m} e =
    let p : Err (bad_octets f at) ≡ Ok m = ap (λ (z : Result ℕ BadOctets × List ℕ). z.0) e in
    cc

-- a character, given what is found after it
module _ (room n at x : ℕ) (t : List ℕ) (m : ℕ)
    (rest : (h : Option ℕ) (k : ℕ) (o : List ℕ) → spelled_from room h k (suc at) t ≡ (Ok m, o) → Found h t o) where
  found_unread : (o : List ℕ) → spelled_from room None n at (x ∷ t) ≡ (Ok m, o) → Spells (x ∷ t) o
  found_unread o e = go (is_hex x) refl (blank x) refl
    where
      go : (a : Bool) → is_hex x ≡ a → (b : Bool) → blank x ≡ b → Spells (x ∷ t) o
      go true p b q = rest (Some x) n o (sym (by_step room None n at x t _ (unread_digit x p)) ∙ e) p
      go false p true q = after_blank q (rest None n o (sym (by_step room None n at x t _ (unread_other x true p q)) ∙ e))
      go false p false q = absurd (no_fault (sym (by_step room None n at x t _ (unread_other x false p q)) ∙ e))

  -- an octet ends here, where there is room
  found_octet : (h : ℕ) (o : List ℕ) → is_hex h ≡ true → is_hex x ≡ true → (b : Bool)
      → ◌≡◌ {A = Result ℕ BadOctets × List ℕ}
      (cond b (Err (bad_octets fault.NoRoom at), [])
      ((spelled_from room None (suc n) (suc at) t).0, octet_from h x ∷ (spelled_from room None (suc n) (suc at) t).1))
      (Ok m, o)
      → Spells (h ∷ x ∷ t) o
  found_octet h o p q true e = absurd (no_fault e)
  found_octet h o p q false e =
      let next = spelled_from room None (suc n) (suc at) t in
      let u : next.0 ≡ Ok m = ap (λ (z : Result ℕ BadOctets × List ℕ). z.0) e in
      let v : octet_from h x ∷ next.1 ≡ o = ap (λ (z : Result ℕ BadOctets × List ℕ). z.1) e in
      subst (λ (k : List ℕ). Spells (h ∷ x ∷ t) k) v
      (after_octet p q (rest None (suc n) next.1 (ap (λ (z : Result ℕ BadOctets). (z, next.1)) u)))

  found_read : (h : ℕ) (o : List ℕ) → spelled_from room (Some h) n at (x ∷ t) ≡ (Ok m, o) → is_hex h ≡ true → Spells (h ∷ x ∷ t) o
  found_read h o e p = go (is_hex x) refl (blank x) refl
    where
      go : (a : Bool) → is_hex x ≡ a → (b : Bool) → blank x ≡ b → Spells (h ∷ x ∷ t) o
      go true q b r = found_octet h o p q (leb room n) (sym (by_step room (Some h) n at x t _ (read_digit h x q)) ∙ e)
      go false q true r = absurd (no_fault (sym (by_step room (Some h) n at x t _ (read_other h x true q r)) ∙ e))
      go false q false r = absurd (no_fault (sym (by_step room (Some h) n at x t _ (read_other h x false q r)) ∙ e))

found : (room : ℕ) (h : Option ℕ) (n at : ℕ) (t : List ℕ) (m : ℕ) (o : List ℕ) → spelled_from room h n at t ≡ (Ok m, o) → Found h t o
unfolding spelled_from
found room None n at [] m o e = subst (λ (k : List ℕ). Spells [] k) (ap (λ (z : Result ℕ BadOctets × List ℕ). z.1) e) nothing
found room (Some h) n at [] m o e = λ p. absurd (no_fault e)
found room None n at (x ∷ t) m o e = found_unread room n at x t m (λ h k r f. found room h k (suc at) t m r f) o e
found room (Some h) n at (x ∷ t) m o e = found_read room n at x t m (λ g k r f. found room g k (suc at) t m r f) h o e

pub read_sound : (room at : ℕ) (t : List ℕ) (m : ℕ) (o : List ℕ) → spelled_from room None 0 at t ≡ (Ok m, o) → Spells t o
read_sound room at t m o e = found room None 0 at t m o e

-- ---- numbers: a digit more is ten times the number and the digit

pub value_snoc : (n : ℕ) (l : List ℕ) (x : ℕ) → value_from n (l ++ (x ∷ [])) ≡ 10 * value_from n l + (x - 48)
unfolding value_from
value_snoc n [] x = refl
value_snoc n (y ∷ l) x = value_snoc (10 * n + (y - 48)) l x
