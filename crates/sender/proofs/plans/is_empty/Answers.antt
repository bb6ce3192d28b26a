-- `sender::plans::is_empty` meets its contract: the fields one at a time. Assumes nothing.
use borrow.Author.Tests.{eq-eqb, ne_eqb}
use lib.ListN.{length}
use mathlib.Core.Path.{◌≡◌, sym, ◌∙◌, ap}
use mathlib.Core.Bool.{Bool, true, false, not}
use Rattle.std.proofs.Common.{rules}
use Rattle.tsar.specs.declared.AcknowledgmentWindow.TheVariants.{Prohibited}
use Rattle.segmentation.specs.Frozen.{no_plan}
use Rattle.sender.specs.TryNew.{same_heads}
use Rattle.sender.proofs.Same.{heads_none, windows_same}
use Rattle.sender.proofs.plans.is_empty.Goals as goal

pub returns-then-not-are_no_heads : goal.returns-then-not-are_no_heads
returns-then-not-are_no_heads c =
    let x = c.args.f.now in
    let e : length x.heads ≡ 256 = search rules in
    let h : c.are_no_heads.result ≡ same_heads no_plan.heads x.heads = c.are_no_heads.ensures ∙ heads_none x.heads e in
    simp (sym h ∙ c.if-not-are_no_heads.true)

pub returns-then-f-ne0 : goal.returns-then-f-ne0
returns-then-f-ne0 c =
    let x = c.args.f.now in
    let e : length x.heads ≡ 256 = search rules in
    let h : c.are_no_heads.result ≡ same_heads no_plan.heads x.heads = c.are_no_heads.ensures ∙ heads_none x.heads e in
    simp (sym h ∙ c.if-not-are_no_heads.false, ne_eqb 0 x.count c.if-f-ne0.true)

pub returns-then-f-ne0-2 : goal.returns-then-f-ne0-2
returns-then-f-ne0-2 c =
    let x = c.args.f.now in
    let e : length x.heads ≡ 256 = search rules in
    let h : c.are_no_heads.result ≡ same_heads no_plan.heads x.heads = c.are_no_heads.ensures ∙ heads_none x.heads e in
    simp (sym h ∙ c.if-not-are_no_heads.false, eq-eqb 0 x.count c.if-f-ne0.false, ne_eqb 0 x.message_octets c.if-f-ne0-2.true)

pub returns-then-f-ne0-3 : goal.returns-then-f-ne0-3
returns-then-f-ne0-3 c =
    let x = c.args.f.now in
    let e : length x.heads ≡ 256 = search rules in
    let h : c.are_no_heads.result ≡ same_heads no_plan.heads x.heads = c.are_no_heads.ensures ∙ heads_none x.heads e in
    simp (sym h ∙ c.if-not-are_no_heads.false, eq-eqb 0 x.count c.if-f-ne0.false, eq-eqb 0 x.message_octets c.if-f-ne0-2.false, ne_eqb 0 x.payload_budget_octets c.if-f-ne0-3.true)

pub returns : goal.returns
returns c =
    let x = c.args.f.now in
    let e : length x.heads ≡ 256 = search rules in
    let h : c.are_no_heads.result ≡ same_heads no_plan.heads x.heads = c.are_no_heads.ensures ∙ heads_none x.heads e in
    simp (sym h ∙ c.if-not-are_no_heads.false, eq-eqb 0 x.count c.if-f-ne0.false, eq-eqb 0 x.message_octets c.if-f-ne0-2.false, eq-eqb 0 x.payload_budget_octets c.if-f-ne0-3.false) (c.eq.ensures ∙ windows_same Prohibited x.acknowledgment_window)
