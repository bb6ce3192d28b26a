-- The type of a number: its rows are those of reading a segment. Assumes nothing.
use Rattle.std.specs.Prelude.{◌≡◌, refl, ℕ, Bool, true, false, List, [], ◌∷◌, eqb, Result, Ok, Err}
use Rattle.tsar.specs.declared.Error.{Error}
use Rattle.tsar.specs.declared.Error.TheVariants as error
use Rattle.tsar.specs.declared.SegmentType.{SegmentType}
use Rattle.tsar.specs.declared.SegmentType.TheVariants as type
use Rattle.tsar.specs.Rows.{first_of}
use Rattle.tsar.specs.Numbers.{number}
use Rattle.tsar.specs.Reading.{Decoded, refused, type_numbered, segment_as}

-- a segment of the type that a number names, or the refusal of that number
abbrev pub as_numbered : List ℕ → Result SegmentType Error → Decoded
as_numbered l (Ok t) = segment_as t l
as_numbered l (Err e) = refused (number e)

pub by_number : (n : ℕ) (l : List ℕ)
    → first_of
    ((eqb n 3, refused (5, 0)) ∷ (eqb n 0, segment_as type.Begin l) ∷ (eqb n 1, segment_as type.Continue l) ∷ (eqb n 2, segment_as type.End l) ∷ [])
    (refused (4, 0))
    ≡ as_numbered l (type_numbered n)
unfolding type_numbered
by_number n l = go (eqb n 3) (eqb n 0) (eqb n 1) (eqb n 2)
  where
    go : (a b c d : Bool)
        → first_of ((a, refused (5, 0)) ∷ (b, segment_as type.Begin l) ∷ (c, segment_as type.Continue l) ∷ (d, segment_as type.End l) ∷ []) (refused (4, 0))
        ≡ as_numbered l (first_of ((a, Err error.UnsupportedResponse) ∷ (b, Ok type.Begin) ∷ (c, Ok type.Continue) ∷ (d, Ok type.End) ∷ []) (Err error.MessageType))
    go true b c d = refl
    go false true c d = refl
    go false false true d = refl
    go false false false true = refl
    go false false false false = refl
