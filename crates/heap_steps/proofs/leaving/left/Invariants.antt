use Rattle.std.proofs.Common.{◌≡◌, length}
use Rattle.graph.specs.Whole.{IsGraph}
use Rattle.heap_steps.specs.Leaving.{MayLeave, left}
use Rattle.heap_steps.proofs.leaving.left.Given as goal

abbrev pub invariant-loop-variables : goal.invariant-loop-variables
invariant-loop-variables l = record {
  same : left l.which l.fn.parts ≡ left l.variables l.after;
  graph : IsGraph l.after;
  may : MayLeave l.after l.variables;
}

abbrev pub decreases-loop-variables : goal.decreases-loop-variables
decreases-loop-variables l = length l.variables
