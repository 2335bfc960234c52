-- The moves of the value and of its test are followed.
use Rattle.std.proofs.Common.{suc, [], ◌∷◌}
use Rattle.flow.specs.declared.instruction.Instr.TheVariants.{IfDifferent, IfSame, Number}
use Rattle.lower.specs.Built.{made_of}
use Rattle.lower.proofs.JobsLead.{then_ok}
use Rattle.lower.proofs.PlacedByLines.{line_leads}
use Rattle.lowering.specs.declared.moves.Move.TheVariants.{Emits, Evaluates, Parts}
use Rattle.lowering.specs.Kinds.{width}
use Rattle.lowering.specs.Moves.{taking}
use Rattle.lower.proofs.placing.conditions.zero_test_of.Goals as goal

pub returns : goal.returns
returns c = then_ok _ _ c.push.result
    (λ is. λ p around.
    line_leads p around c.args.levels c.args.from c.args.off c.args.jobs.now _ (made_of c.args.builder.now)
    (taking 2 (Evaluates c.args.expr.now c.args.spare c.args.builder.now.registers ∷ Emits (Number (suc c.args.builder.now.registers) 0 (width c.args.kind)) c.args.expr.now.place
    ∷ Parts (IfSame c.args.builder.now.registers (suc c.args.builder.now.registers)) c.args.off
    (IfDifferent c.args.builder.now.registers (suc c.args.builder.now.registers)) c.args.on c.args.expr.now.place ∷ []))
    _ _ _ c.new-moves.ensures c.in_ok-zero_test_line.ensures is)
    c.push.ensures.ok
