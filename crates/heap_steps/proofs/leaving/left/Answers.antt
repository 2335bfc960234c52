use Rattle.std.proofs.Common.{refl}
use Rattle.heap_steps.proofs.LeaveReady.{left_next, graph_next, may_next, named_next}
use Rattle.heap_steps.proofs.leaving.left.Goals as goal

pub without_one-requires-clause-named : goal.without_one-requires-clause-named
without_one-requires-clause-named c = named_next c.loop-variables.variables.now c.loop-variables.after c.in-len1-up.len_at_least c.loop-variables.invariant.may

pub loop-variables-preserved : goal.loop-variables-preserved
loop-variables-preserved c = record {
  same = left_next c.loop-variables.variables.now c.args.which.now c.args.parts c.loop-variables.after c.in_ok-after.after _ c.in-len1-up.len_at_least refl c.loop-variables.invariant.same c.in_ok-after.ensures;
  graph = graph_next c.loop-variables.variables.now c.loop-variables.after c.in_ok-after.after c.in-len1-up.len_at_least c.loop-variables.invariant.graph c.loop-variables.invariant.may c.in_ok-after.ensures;
  may = may_next c.loop-variables.variables.now c.loop-variables.after c.in_ok-after.after _ c.in-len1-up.len_at_least refl c.loop-variables.invariant.graph c.loop-variables.invariant.may c.in_ok-after.ensures;
}
