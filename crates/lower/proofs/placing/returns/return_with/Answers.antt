-- The moves of the value are followed, and then those that leave the function.
use Rattle.std.proofs.Common.{◌+◌, ap}
use Rattle.c_machine.specs.Trees.{text_of}
use Rattle.flow.specs.declared.flow_graph.Standing.{Standing}
use Rattle.lower.specs.Around.{around_of}
use Rattle.lower.specs.Built.{made_of}
use Rattle.lower.proofs.JobsLead.{then_ok}
use Rattle.lower.proofs.PlacedByLines.{line_before}
use Rattle.lowering.proofs.Onward.{line_as}
use Rattle.lowering.specs.Kinds.{conversion, width}
use Rattle.lowering.specs.Moves.{taking}
use Rattle.lowering.specs.Placing.{function_leaves, stands_at}
use Rattle.lowering.specs.Returns.{given_moves}
use Rattle.lower.proofs.placing.returns.return_with.Goals as goal

pub returns : goal.returns
returns c = then_ok _ _ c.push.result
    (λ is. λ p.
    line_before p (around_of c.args.around.now) c.args.levels c.args.from c.args.around.now.frame.exit c.args.jobs.now _ (made_of c.args.builder.now) (c.args.count + 2) _
    (given_moves (text_of p) c.args.expr.now c.args.builder.now.registers c.args.count (c.args.builder.now.registers + c.args.count) (width c.args.own)
    (conversion c.args.own c.args.around.now.frame.kind) c.args.around.now.frame.result (stands_at (made_of c.args.builder.now) c.args.from) c.args.word)
    (function_leaves (around_of c.args.around.now) c.args.word) _ _ _ c.new-moves.ensures c.in_ok-function_leaves.ensures
    (line_as _ _ _ _ _ _
    (ap (λ (standing : Standing). taking (c.args.count + 2)
    (given_moves (text_of p) c.args.expr.now c.args.builder.now.registers c.args.count (c.args.builder.now.registers + c.args.count) (width c.args.own)
    (conversion c.args.own c.args.around.now.frame.kind) c.args.around.now.frame.result standing c.args.word)) c.in_ok-standing.ensures)
    c.in_ok-return_line.ensures) is)
    c.push.ensures.ok
