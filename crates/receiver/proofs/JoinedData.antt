-- The data of the slots joined slot after slot. Assumes nothing.
use mathlib.Core.Path.{◌≡◌, refl, sym, ap, ◌∙◌}
use mathlib.Core.List.{List, [], ◌++◌}
use Prim.Native.Nat.{ℕ, suc, ◌+◌}
use native.Mathlib.Nat.{zero-add}
use lib.ListN.{length, get_or, length-append}
use lib.Seq.{sets}
use Rattle.octets.specs.Laws.{sets_append}
use Rattle.receiver.specs.Record.{joined, part}

pub joined_none : (lengths store : List ℕ) → joined lengths store 0 ≡ []
unfolding joined
joined_none lengths store = refl

pub joined_more : (lengths store : List ℕ) (n : ℕ) → joined lengths store (suc n) ≡ joined lengths store n ++ part store n (get_or lengths n 0)
unfolding joined
joined_more lengths store n = refl

-- a turn: what is written, and how many octets there are
pub sets_more : (out lengths store : List ℕ) (n at : ℕ) → at ≡ length (joined lengths store n) → sets (sets out 0 (joined lengths store n)) at (part store n (get_or lengths n 0)) ≡ sets out 0 (joined lengths store (suc n))
sets_more out lengths store n at e =
    let J = joined lengths store n in
    let P = part store n (get_or lengths n 0) in
    ap (λ (k : ℕ). sets (sets out 0 J) k P) (e ∙ sym (zero-add (length J))) ∙ sym (sets_append out 0 J P)
    ∙ ap (sets out 0) (sym (joined_more lengths store n))

pub length_more : (lengths store : List ℕ) (n : ℕ) → length (joined lengths store (suc n)) ≡ length (joined lengths store n) + length (part store n (get_or lengths n 0))
length_more lengths store n = ap length (joined_more lengths store n) ∙ length-append (joined lengths store n) (part store n (get_or lengths n 0))
