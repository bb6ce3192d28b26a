-- What the derived comparison of two kinds gives, kind by kind.
use Rattle.std.specs.Prelude.{◌≡◌, refl, Some, None}
use Rattle.std.proofs.Common.{arith}
use Rattle.tsar.specs.Kinds.{same_kind}
use Rattle.tsar.specs.declared.SegmentKind.{SegmentKind}
use Rattle.tsar.specs.declared.SegmentKind.TheVariants.{Begin, Continue, End}
use Rattle.receiver.proofs.kinds.same_kind.Goals as goal
use Rattle.receiver.proofs.kinds.same_kind.Goals.{After-eq}

by_kind : (c : After-eq) (a b : SegmentKind) → c.args.a ≡ a → c.args.b ≡ b → c.eq.result ≡ same_kind c.args.a c.args.b
by_kind c (Begin m None) (Begin n None) p q = grind arith
by_kind c (Begin m None) (Begin n (Some t)) p q = grind arith
by_kind c (Begin m (Some s)) (Begin n None) p q = grind arith
by_kind c (Begin None (Some s)) (Begin None (Some t)) p q = grind arith
by_kind c (Begin None (Some s)) (Begin (Some n) (Some t)) p q = grind arith
by_kind c (Begin (Some m) (Some s)) (Begin None (Some t)) p q = grind arith
by_kind c (Begin (Some m) (Some s)) (Begin (Some n) (Some t)) p q = grind arith
by_kind c (Begin m s) (Continue n) p q = grind arith
by_kind c (Begin m s) (End n d) p q = grind arith
by_kind c (Continue m) (Begin n s) p q = grind arith
by_kind c (Continue m) (Continue n) p q = grind arith
by_kind c (Continue m) (End n d) p q = grind arith
by_kind c (End m d) (Begin n s) p q = grind arith
by_kind c (End m d) (Continue n) p q = grind arith
by_kind c (End m d) (End n e) p q = grind arith

pub returns : goal.returns
returns c = by_kind c c.args.a c.args.b refl refl
