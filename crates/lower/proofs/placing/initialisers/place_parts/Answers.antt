-- Braces without a value, and with one.
use Rattle.std.proofs.Common.{List, ◌++◌, map, ap, ◌∙◌}
use Rattle.cbase.specs.declared.tree.expr.ExprForm.TheViews.{out-InitPart}
use Rattle.cbase.specs.declared.tree.init.Init.{Init}
use Rattle.cbase.specs.declared.tree.init.InitPart.{InitPart}
use Rattle.lower.specs.Built.{made_of}
use Rattle.lowering.specs.declared.moves.Move.TheVariants.{Initialises}
use Rattle.lowering.proofs.Onward.{on_ok}
use Rattle.lower.proofs.InitialisersLead.{braces_fail, braces_go}
use Rattle.lower.proofs.LinesPlaced.{Moves, mapped}
use Rattle.lower.proofs.placing.initialisers.place_parts.Goals as goal

pub returns-then-are_empty_within : goal.returns-then-are_empty_within
returns-then-are_empty_within c =
    braces_fail c.args.source.now c.args.levels c.args.from c.args.to c.args.place (map (λ (part : InitPart). (out-InitPart part).init) c.args.parts.now) c.args.jobs.now
    c.args.jobs.now (made_of c.args.builder.now) (made_of c.fail.new.self) c.levels.result c.are_empty_within.result c.levels.ensures c.are_empty_within.ensures
    c.if-are_empty_within.true c.fail.ensures

pub returns : goal.returns
returns c = on_ok c.push.result
    (braces_go c.args.source.now c.args.levels c.args.from c.args.to c.args.place (map (λ (part : InitPart). (out-InitPart part).init) c.args.parts.now) c.args.jobs.now
    c.push.new.self (made_of c.args.builder.now) (made_of c.args.builder.now) c.levels.result c.are_empty_within.result c.levels.ensures c.are_empty_within.ensures
    c.if-are_empty_within.false c.new-moves.result c.initialises_each.new.line c.new-moves.ensures
    (c.in_ok-initialises_each.ensures
    ∙ ap (λ (moves : Moves). moves ++ c.new-moves.result)
    (mapped (λ (init : Init). Initialises c.args.place init) (λ (part : InitPart). (out-InitPart part).init) c.args.parts.now)))
    c.push.ensures.ok
