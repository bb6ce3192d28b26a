-- The octets that std's conversions give are those that Numbers spells, for every width. Assumes nothing.
use Rattle.std.specs.Prelude.{◌≡◌, refl, List, [], ◌∷◌, ◌++◌, ℕ, zero, suc, ◌/◌, ◌%◌, ◌^◌, ◌<◌}
use Rattle.std.specs.Int.{byte_at, bytes_high_first}
use Rattle.std.proofs.Common.{sym, ap, ◌∙◌}
use Rattle.std.proofs.Math.Path.{ap₂}
use Rattle.std.proofs.Math.Nat.{pow-succ', div-div-eq-div-mul}
use Rattle.image.specs.Numbers.{spell, value, value_spell}

byte_up : (k n : ℕ) → byte_at (suc k) n ≡ byte_at k (n / 256)
byte_up zero n = refl
byte_up (suc k) n =
    ap (λ (m : ℕ). n / m % 256) (pow-succ' 256 (suc k)) ∙ ap (λ (m : ℕ). m % 256) (sym (div-div-eq-div-mul n 256 (256 ^ suc k)))

-- the lowest octet stands last
high_snoc : (k n : ℕ) → bytes_high_first (suc k) n ≡ bytes_high_first k (n / 256) ++ (n % 256 ∷ [])
high_snoc zero n = refl
high_snoc (suc k) n = ap₂ {C = List ℕ} ◌∷◌ (byte_up k n) (high_snoc k n)

pub spell_bytes : (k n : ℕ) → spell k n ≡ bytes_high_first k n
unfolding spell
spell_bytes zero n = refl
spell_bytes (suc k) n = ap (λ (l : List ℕ). l ++ (n % 256 ∷ [])) (spell_bytes k (n / 256)) ∙ sym (high_snoc k n)

-- what code says of a number that it puts together of octets
pub joined_bytes : (k n : ℕ) (l : List ℕ) → n < 256 ^ k → bytes_high_first k n ≡ l → (n ≡ value l) × (spell k n ≡ l)
joined_bytes k n l h e =
    let p : spell k n ≡ l = spell_bytes k n ∙ e in
    (sym (value_spell k n h) ∙ ap value p, p)
