-- `Dialect::converted` meets its contract: the later heads are tested and restated in their place. Assumes nothing.
use Prim.Native.Nat.{suc, ◌-◌}
use mathlib.Core.Path.{◌≡◌, ap, ap₂, sym, ◌∙◌}
use mathlib.Core.Bool.{Bool, true, false, ◌&&◌}
use Rattle.std.specs.Prelude.{ℕ, ◌≤◌, length, Option, Some, None, Ok}
use Rattle.std.specs.Option.{ok_or}
use native.Mathlib.Omega.{arith}
use borrow.Author.Rules.{rules}
use borrow.Author.Tests.{eqb-true, not-false}
use Rattle.tsar.specs.Writing.{length_in}
use Rattle.segmentation.specs.Cutting.{states_other}
use Rattle.segmentation.specs.Frozen.{head_at}
use Rattle.dialect.specs.Convert.{is_stated, states, in_dialect}
use Rattle.dialect.specs.declared.ConvertError.{ConvertError}
use Rattle.dialect.proofs.Pattern.{later_list, passes_list}
use Rattle.dialect.proofs.Calls.{restated_mid, plan_wrong, plan_right}
use Rattle.dialect.proofs.Dialect.converted.Goals as goal
use Rattle.dialect.proofs.Dialect.converted.Goals.{After-fits_all, In_ok-message_octets}

found : (o : Option ℕ) (e : ConvertError) (n : ℕ) → ok_or o e ≡ Ok n → o ≡ Some n
found None e n f = absurd (let z : ◌≡◌ {A = ℕ} 0 1 = cc in omega arith)
found (Some x) e n f = cc

is_octets : (o : Option ℕ) (n m : ℕ) → o ≡ Some n → states_other o m ≡ false → n ≡ m
is_octets None n m e f = absurd (let z : ◌≡◌ {A = ℕ} 0 1 = cc in omega arith)
is_octets (Some x) n m e f = let g : x ≡ n = cc in sym g ∙ eqb-true x m (not-false _ f)

-- what Begin states
begin_said : (c : In_ok-message_octets) → length_in (head_at c.args.plan.heads 0).segment.kind ≡ Some c.in_ok-message_octets.message_octets
begin_said c = sym c.length_in.ensures ∙ found c.length_in.result _ _ (sym c.ok_or.ensures.value ∙ c.in_ok-message_octets.was)

stated : (c : In_ok-message_octets) → states (head_at c.args.plan.heads 0) ≡ true
stated c = ap is_stated (begin_said c)

is_message : (c : In_ok-message_octets) → c.in_ok-message_octets.message_octets ≡ c.args.plan.message_octets
is_message c = is_octets _ _ _ (begin_said c) c.requires.stated

-- whether the train is in the dialect
dialect_said : (c : After-fits_all) → states (head_at c.args.plan.heads 0) ≡ true → in_dialect c.args.self c.args.plan.heads c.args.plan.count ≡ c.fits_all.result
dialect_said c s =
    let p = c.args.plan in
    let room : length p.heads ≡ 256 = search rules in
    let one : suc (p.count - 1) ≤ length p.heads = omega (arith, c.requires.counted.0, c.requires.counted.1) in
    ap₂ (λ (a b : Bool). a && b) s (later_list c.args.self p.heads (p.count - 1) one) ∙ sym c.fits_all.ensures

pub returns-then-not-fits_all : goal.returns-then-not-fits_all
returns-then-not-fits_all c =
    let at = goal.at.returns-then-not-fits_all c in
    plan_wrong c.args.self c.args.plan (dialect_said at.After-fits_all (stated at.In_ok-message_octets) ∙ c.if-not-fits_all.true) c.args.plan.heads

pub returns-then-passes_budget : goal.returns-then-passes_budget
returns-then-passes_budget c =
    let at = goal.at.returns-then-passes_budget c in
    let p = c.args.plan in
    let room : length p.heads ≡ 256 = search rules in
    let i = dialect_said at.After-fits_all (stated at.In_ok-message_octets) ∙ c.if-not-fits_all.false in
    let m = restated_mid c.other.result c.in_ok-message_octets.message_octets p.count p.heads c.restate_all.new.later c.restate_all.ensures (omega arith) in
    plan_right c.args.self p i c.other.result c.in_ok-message_octets.message_octets _ true c.other.ensures (is_message at.In_ok-message_octets) m
    (passes_list p.payload_budget_octets _ p.count (search rules) ∙ sym c.passes_budget.ensures ∙ c.if-passes_budget.true)

pub returns : goal.returns
returns c =
    let at = goal.at.returns c in
    let p = c.args.plan in
    let room : length p.heads ≡ 256 = search rules in
    let i = dialect_said at.After-fits_all (stated at.In_ok-message_octets) ∙ c.if-not-fits_all.false in
    let m = restated_mid c.other.result c.in_ok-message_octets.message_octets p.count p.heads c.restate_all.new.later c.restate_all.ensures (omega arith) in
    plan_right c.args.self p i c.other.result c.in_ok-message_octets.message_octets _ false c.other.ensures (is_message at.In_ok-message_octets) m
    (passes_list p.payload_budget_octets _ p.count (search rules) ∙ sym c.passes_budget.ensures ∙ c.if-passes_budget.false)
