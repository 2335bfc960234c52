-- What is broken at the names of parameters, from the last to the first.
use Rattle.std.proofs.Common.{arith}
use Rattle.items.proofs.parameters.EachParameter.{first_next, first_of_each}
use Rattle.items.proofs.parameters.joining.first_of_parameters.Goals as goal

pub loop-left-preserved : goal.loop-left-preserved
loop-left-preserved c = record {
  inside = omega arith;
  first = first_next c.args.params.now c.loop-left.left _ c.loop-left-test.true c.loop-left.invariant.inside c.loop-left.first c.fault_of.result c.first_of-first.result
      c.fault_of.ensures c.first_of-first.ensures c.loop-left.invariant.first;
}

pub returns : goal.returns
returns c = first_of_each c.args.params.now c.loop-left.left c.loop-left.first c.loop-left-test.false c.loop-left.invariant.first
