-- What the parts have, the whole has.
use Rattle.std.proofs.Common.{◌+◌, drop, sym, ap, ◌∙◌, map, arith}
use Rattle.std.proofs.lemmas.List.{drop_all}
use Rattle.std.specs.List.{list_all}
use Rattle.cbase.specs.declared.tree.expr.ExprForm.TheViews.{out-Init, out-InitPart, outs-Braces}
use Rattle.cbase.specs.declared.tree.init.InitPart.{InitPart}
use Rattle.expressions.proofs.Loops.{next_item}
use Rattle.c_machine.specs.Trees.{text_of}
use Rattle.lowering.specs.Placing.{is_empty_within}
use Rattle.lower.proofs.Idle.{all_hold, by_braces, next_holds, one_fails}
use Rattle.lower.proofs.placing.begins.+is_empty_within.Goals as goal

pub returns-then-not-is_empty_within : goal.returns-then-not-is_empty_within
returns-then-not-is_empty_within t c = λ p.
    let parts = c.as_slice-part-items.result.now in
    by_braces p c.args.levels c.in-Some.fewer c.args.init.now c.in-Braces.parts _ (omega (arith, c.in-Some.ensures)) (ap out-Init c.in-Braces.is ∙ outs-Braces c.in-Braces.parts)
    (one_fails (is_empty_within c.in-Some.fewer (text_of p)) (λ (part : InitPart). (out-InitPart part).init) (drop c.loop-part.part-index parts) (drop (c.loop-part.part-index + 1) parts)
    c.part-item.result _ (next_item parts c.loop-part.part-index c.part-item.result c.loop-part-test.true c.part-item.is) (sym c.if-not-is_empty_within.true ∙ c.is_empty_within.ensures p)
    (c.loop-part.invariant p)
    ∙ ap (λ parts. list_all (is_empty_within c.in-Some.fewer (text_of p)) (map (λ (part : InitPart). (out-InitPart part).init) parts)) c.as_slice-part-items.ensures)

pub loop-part-preserved : goal.loop-part-preserved
loop-part-preserved t c = λ p.
    let parts = c.as_slice-part-items.result.now in
    next_holds (is_empty_within c.in-Some.fewer (text_of p)) (λ (part : InitPart). (out-InitPart part).init) (drop c.loop-part.part-index parts) (drop (c.loop-part.part-index + 1) parts)
    c.part-item.result _ (next_item parts c.loop-part.part-index c.part-item.result c.loop-part-test.true c.part-item.is) (sym c.if-not-is_empty_within.false ∙ c.is_empty_within.ensures p)
    (c.loop-part.invariant p)

pub returns-after-loop-part : goal.returns-after-loop-part
returns-after-loop-part t c = λ p.
    let parts = c.as_slice-part-items.result.now in
    by_braces p c.args.levels c.in-Some.fewer c.args.init.now c.in-Braces.parts _ (omega (arith, c.in-Some.ensures)) (ap out-Init c.in-Braces.is ∙ outs-Braces c.in-Braces.parts)
    (all_hold (is_empty_within c.in-Some.fewer (text_of p)) (λ (part : InitPart). (out-InitPart part).init) (drop c.loop-part.part-index parts) _
    (drop_all c.loop-part.part-index parts c.loop-part-test.false) (c.loop-part.invariant p)
    ∙ ap (λ parts. list_all (is_empty_within c.in-Some.fewer (text_of p)) (map (λ (part : InitPart). (out-InitPart part).init) parts)) c.as_slice-part-items.ensures)
