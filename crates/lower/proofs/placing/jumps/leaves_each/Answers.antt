-- One block less is left.
use Rattle.std.proofs.Common.{◌∙◌, arith}
use Rattle.lowering.proofs.ScopesLeft.{leave_less}
use Rattle.lower.proofs.placing.jumps.leaves_each.Goals as goal

pub loop-left-preserved : goal.loop-left-preserved
loop-left-preserved c = (
  omega (arith, c.loop-left.invariant.0),
  leave_less c.args.word c.args.scopes.now c.loop-left.left c.item.result.now c.as_slice.result.now c.loop-left.line c.leaves.new.line c.loop-left-test.true c.item.ensures
      c.as_slice.ensures c.in_ok-leaves.ensures
      ∙ c.loop-left.invariant.1,
)
