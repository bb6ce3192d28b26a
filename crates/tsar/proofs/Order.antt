-- A chain of parameters from none on is the segment's parameters, in either order, and the other way round. Assumes nothing.
use mathlib.Core.Path.{◌≡◌, refl, sym, ◌∙◌, subst}
use mathlib.Core.Bool.{true, false}
use mathlib.Core.List.{List, [], ◌∷◌, ◌++◌, reverse}
use Prim.Native.Nat.{ℕ}
use native.Mathlib.Omega.{arith}
use Rattle.std.specs.Prelude.{is_some, Some, None}
use Rattle.tsar.specs.declared.MessageCrc.TheVariants as crc
use Rattle.tsar.specs.declared.decode.Params.{Params}
use Rattle.tsar.specs.declared.SegmentType.{SegmentType}
use Rattle.tsar.specs.declared.SegmentType.TheVariants as type
use Rattle.tsar.specs.declared.SegmentKind.{SegmentKind}
use Rattle.tsar.specs.declared.SegmentKind.TheVariants as kind'
use Rattle.tsar.specs.Layout.{Param, stated, services, crc16, crc24, parameters, type_of}
use Rattle.tsar.specs.Octets.{ParamsFit}
use Rattle.tsar.specs.Reading.{no_params, kind_of}
use Rattle.tsar.specs.Spells.{AnyOrder, listed, turned, LengthFits, CrcFits, KindFits}
use Rattle.tsar.proofs.Steps.{add, Fresh}
use Rattle.tsar.proofs.Chain.{Takes}

-- ---- a chain is in either order

no_repeat : true ≡ false → ⊥
no_repeat e = let z : ◌≡◌ {A = ℕ} 0 1 = cc in omega arith

-- every place of the type is taken
abbrev Full : SegmentType → Params → Type 0
Full type.Begin p = (is_some p.message_length ≡ true) × (is_some p.services ≡ true)
Full type.Continue p = is_some p.message_length ≡ true
Full type.End p = (is_some p.message_length ≡ true) × (is_some p.crc ≡ true)

full_fresh : (t : SegmentType) (p : Params) (x : Param) → Full t p → Fresh t p x → ⊥
full_fresh type.Begin p (stated n) h f = no_repeat (sym h.0 ∙ f)
full_fresh type.Continue p (stated n) h f = no_repeat (sym h ∙ f)
full_fresh type.End p (stated n) h f = no_repeat (sym h.0 ∙ f)
full_fresh type.Begin p (services s) h f = no_repeat (sym h.1 ∙ f)
full_fresh type.Continue p (services s) h f = f
full_fresh type.End p (services s) h f = f
full_fresh type.Begin p (crc16 v) h f = f
full_fresh type.Continue p (crc16 v) h f = f
full_fresh type.End p (crc16 v) h f = no_repeat (sym h.1 ∙ f)
full_fresh type.Begin p (crc24 v) h f = f
full_fresh type.Continue p (crc24 v) h f = f
full_fresh type.End p (crc24 v) h f = no_repeat (sym h.1 ∙ f)

-- nothing more is taken
module _ (t : SegmentType) (p : Params) (xs : List Param) (full : Full t p) where
  abbrev Ordered : List Param → Params → Type 0
  Ordered ps q = AnyOrder (xs ++ ps) (parameters (kind_of t q))

  no_more : (ps : List Param) (q : Params) → Takes t p ps q → Ordered [] p → Ordered ps q
  no_more [] q h o = subst (Ordered []) h o
  no_more (x ∷ ps) q h o = absurd (full_fresh t p x full h.0)

-- where one was taken, the other may follow
second : (t : SegmentType) (x : Param) (ps : List Param) (q : Params) → Fresh t no_params x → Takes t (add x no_params) ps q → AnyOrder (x ∷ ps) (parameters (kind_of t q))
second type.Begin (stated n) [] q f h = subst (λ (k : Params). AnyOrder (stated n ∷ []) (parameters (kind_of type.Begin k))) h (listed refl)
second type.Begin (stated n) (stated m ∷ ps) q f h = absurd (no_repeat h.0)
second type.Begin (stated n) (services s ∷ ps) q f h = no_more type.Begin _ (stated n ∷ services s ∷ []) (refl, refl) ps q h.1 (listed refl)
second type.Begin (stated n) (crc16 v ∷ ps) q f h = absurd h.0
second type.Begin (stated n) (crc24 v ∷ ps) q f h = absurd h.0
second type.Begin (services s) [] q f h = subst (λ (k : Params). AnyOrder (services s ∷ []) (parameters (kind_of type.Begin k))) h (listed refl)
second type.Begin (services s) (stated m ∷ ps) q f h = no_more type.Begin _ (services s ∷ stated m ∷ []) (refl, refl) ps q h.1 (turned refl)
second type.Begin (services s) (services r ∷ ps) q f h = absurd (no_repeat h.0)
second type.Begin (services s) (crc16 v ∷ ps) q f h = absurd h.0
second type.Begin (services s) (crc24 v ∷ ps) q f h = absurd h.0
second type.Begin (crc16 v) ps q f h = absurd f
second type.Begin (crc24 v) ps q f h = absurd f
second type.Continue (stated n) ps q f h = no_more type.Continue _ (stated n ∷ []) refl ps q h (listed refl)
second type.Continue (services s) ps q f h = absurd f
second type.Continue (crc16 v) ps q f h = absurd f
second type.Continue (crc24 v) ps q f h = absurd f
second type.End (stated n) [] q f h = subst (λ (k : Params). AnyOrder (stated n ∷ []) (parameters (kind_of type.End k))) h (listed refl)
second type.End (stated n) (stated m ∷ ps) q f h = absurd (no_repeat h.0)
second type.End (stated n) (services s ∷ ps) q f h = absurd h.0
second type.End (stated n) (crc16 v ∷ ps) q f h = no_more type.End _ (stated n ∷ crc16 v ∷ []) (refl, refl) ps q h.1 (listed refl)
second type.End (stated n) (crc24 v ∷ ps) q f h = no_more type.End _ (stated n ∷ crc24 v ∷ []) (refl, refl) ps q h.1 (listed refl)
second type.End (services s) ps q f h = absurd f
second type.End (crc16 v) [] q f h = subst (λ (k : Params). AnyOrder (crc16 v ∷ []) (parameters (kind_of type.End k))) h (listed refl)
second type.End (crc16 v) (stated m ∷ ps) q f h = no_more type.End _ (crc16 v ∷ stated m ∷ []) (refl, refl) ps q h.1 (turned refl)
second type.End (crc16 v) (services s ∷ ps) q f h = absurd h.0
second type.End (crc16 v) (crc16 w ∷ ps) q f h = absurd (no_repeat h.0)
second type.End (crc16 v) (crc24 w ∷ ps) q f h = absurd (no_repeat h.0)
second type.End (crc24 v) [] q f h = subst (λ (k : Params). AnyOrder (crc24 v ∷ []) (parameters (kind_of type.End k))) h (listed refl)
second type.End (crc24 v) (stated m ∷ ps) q f h = no_more type.End _ (crc24 v ∷ stated m ∷ []) (refl, refl) ps q h.1 (turned refl)
second type.End (crc24 v) (services s ∷ ps) q f h = absurd h.0
second type.End (crc24 v) (crc16 w ∷ ps) q f h = absurd (no_repeat h.0)
second type.End (crc24 v) (crc24 w ∷ ps) q f h = absurd (no_repeat h.0)

none_taken : (t : SegmentType) → AnyOrder [] (parameters (kind_of t no_params))
none_taken type.Begin = listed refl
none_taken type.Continue = listed refl
none_taken type.End = listed refl

-- a chain from none on is the segment's parameters, in any order
pub ordered : (t : SegmentType) (ps : List Param) (q : Params) → Takes t no_params ps q → AnyOrder ps (parameters (kind_of t q))
ordered t [] q h = subst (λ (k : Params). AnyOrder [] (parameters (kind_of t k))) h (none_taken t)
ordered t (x ∷ ps) q h = second t x ps q h.0 h.1

-- what is read fits
pub takes_fit : (t : SegmentType) (ps : List Param) (p q : Params) → Takes t p ps q → ParamsFit ps → LengthFits p.message_length → CrcFits p.crc → LengthFits q.message_length × CrcFits q.crc
takes_fit t [] p q h w a b = (subst (λ (k : Params). LengthFits k.message_length) h a, subst (λ (k : Params). CrcFits k.crc) h b)
takes_fit t (stated n ∷ ps) p q h w a b = takes_fit t ps _ q h.1 w.1 w.0 b
takes_fit t (services s ∷ ps) p q h w a b = takes_fit t ps _ q h.1 w.1 a b
takes_fit t (crc16 v ∷ ps) p q h w a b = takes_fit t ps _ q h.1 w.1 a w.0
takes_fit t (crc24 v ∷ ps) p q h w a b = takes_fit t ps _ q h.1 w.1 a w.0

-- ---- and back: a segment's parameters are a chain, in either order

-- the parameters of a kind
abbrev pub params_in : SegmentKind → Params
params_in (kind'.Begin n s) = record { message_length = n; services = s; crc = None }
params_in (kind'.Continue n) = record { message_length = n; services = None; crc = None }
params_in (kind'.End n c) = record { message_length = n; services = None; crc = c }

-- a kind is what its parameters make of its type
pub kind_in : (k : SegmentKind) → kind_of (type_of k) (params_in k) ≡ k
kind_in (kind'.Begin n s) = refl
kind_in (kind'.Continue n) = refl
kind_in (kind'.End n c) = refl

abbrev Chain : SegmentKind → List Param → Type 0
Chain k ps = Takes (type_of k) no_params ps (params_in k) × ParamsFit ps

chain : (k : SegmentKind) (sequence : ℕ) → KindFits sequence k → Chain k (parameters k) × Chain k (reverse (parameters k))
chain (kind'.Begin None None) q h = ((refl, tt), (refl, tt))
chain (kind'.Begin None (Some s)) q h = (((refl, refl), (tt, tt)), ((refl, refl), (tt, tt)))
chain (kind'.Begin (Some n) None) q h = (((refl, refl), (h.1, tt)), ((refl, refl), (h.1, tt)))
chain (kind'.Begin (Some n) (Some s)) q h = (((refl, (refl, refl)), (h.1, (tt, tt))), ((refl, (refl, refl)), (tt, (h.1, tt))))
chain (kind'.Continue None) q h = ((refl, tt), (refl, tt))
chain (kind'.Continue (Some n)) q h = (((refl, refl), (h, tt)), ((refl, refl), (h, tt)))
chain (kind'.End None None) q h = ((refl, tt), (refl, tt))
chain (kind'.End None (Some (crc.Crc16 v))) q h = (((refl, refl), (h.1, tt)), ((refl, refl), (h.1, tt)))
chain (kind'.End None (Some (crc.Crc24 v))) q h = (((refl, refl), (h.1, tt)), ((refl, refl), (h.1, tt)))
chain (kind'.End (Some n) None) q h = (((refl, refl), (h.0, tt)), ((refl, refl), (h.0, tt)))
chain (kind'.End (Some n) (Some (crc.Crc16 v))) q h = (((refl, (refl, refl)), (h.0, (h.1, tt))), ((refl, (refl, refl)), (h.1, (h.0, tt))))
chain (kind'.End (Some n) (Some (crc.Crc24 v))) q h = (((refl, (refl, refl)), (h.0, (h.1, tt))), ((refl, (refl, refl)), (h.1, (h.0, tt))))

-- the segment's parameters in any order are a chain, and they fit
pub chained : (k : SegmentKind) (sequence : ℕ) (ps : List Param) → KindFits sequence k → AnyOrder ps (parameters k) → Takes (type_of k) no_params ps (params_in k) × ParamsFit ps
chained k q ps h (listed e) = subst (Chain k) (sym e) (chain k q h).0
chained k q ps h (turned e) = subst (Chain k) (sym e) (chain k q h).1
