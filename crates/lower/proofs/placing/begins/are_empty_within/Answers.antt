-- One part after the other.
use Rattle.std.proofs.Common.{◌+◌, drop, sym, ◌∙◌}
use Rattle.std.proofs.lemmas.List.{drop_all}
use Rattle.cbase.specs.declared.tree.expr.ExprForm.TheViews.{out-InitPart}
use Rattle.cbase.specs.declared.tree.init.InitPart.{InitPart}
use Rattle.expressions.proofs.Loops.{next_item}
use Rattle.c_machine.specs.Trees.{text_of}
use Rattle.lowering.specs.Placing.{is_empty_within}
use Rattle.lower.proofs.Idle.{all_hold, next_holds, one_fails}
use Rattle.lower.proofs.placing.begins.are_empty_within.Goals as goal

pub returns-then-not-is_empty_within : goal.returns-then-not-is_empty_within
returns-then-not-is_empty_within c = λ p.
    one_fails (is_empty_within c.args.levels (text_of p)) (λ (part : InitPart). (out-InitPart part).init) (drop c.loop-part.part-index c.args.parts.now)
    (drop (c.loop-part.part-index + 1) c.args.parts.now) c.part-item.result _
    (next_item c.args.parts.now c.loop-part.part-index c.part-item.result c.loop-part-test.true c.part-item.is) (sym c.if-not-is_empty_within.true ∙ c.is_empty_within.ensures p)
    (c.loop-part.invariant p)

pub loop-part-preserved : goal.loop-part-preserved
loop-part-preserved c = λ p.
    next_holds (is_empty_within c.args.levels (text_of p)) (λ (part : InitPart). (out-InitPart part).init) (drop c.loop-part.part-index c.args.parts.now)
    (drop (c.loop-part.part-index + 1) c.args.parts.now) c.part-item.result _
    (next_item c.args.parts.now c.loop-part.part-index c.part-item.result c.loop-part-test.true c.part-item.is) (sym c.if-not-is_empty_within.false ∙ c.is_empty_within.ensures p)
    (c.loop-part.invariant p)

pub returns : goal.returns
returns c = λ p.
    all_hold (is_empty_within c.args.levels (text_of p)) (λ (part : InitPart). (out-InitPart part).init) (drop c.loop-part.part-index c.args.parts.now) _
    (drop_all c.loop-part.part-index c.args.parts.now c.loop-part-test.false) (c.loop-part.invariant p)
