-- The moves of both sides are followed.
use Rattle.c_machine.specs.Trees.{text_of}
use Rattle.lower.specs.Built.{made_of}
use Rattle.lower.proofs.JobsLead.{then_ok}
use Rattle.lower.proofs.PlacedByLines.{line_leads}
use Rattle.lowering.specs.Kinds.{sides}
use Rattle.lowering.specs.Moves.{taking}
use Rattle.lowering.specs.Placing.{equality_moves}
use Rattle.lower.proofs.placing.conditions.equality_of.Goals as goal

pub returns : goal.returns
returns c = then_ok _ _ c.push.result
    (λ is. λ p around.
    line_leads p around c.args.levels c.args.from c.args.same c.args.jobs.now _ (made_of c.args.builder.now)
    (taking 4 (equality_moves (text_of p) (sides c.args.op c.args.left_kind c.args.right_kind) c.args.expr.now c.args.left.now c.args.right.now c.args.spare c.args.builder.now.registers
    c.args.same c.args.differs)) _ _ _ c.new-moves.ensures c.in_ok-equality_line.ensures is)
    c.push.ensures.ok
