-- The variables that are entered so far stand.
use Rattle.std.proofs.Common.{◌≡◌, length}
use Rattle.flow.specs.Standing.{with_variables}
use Rattle.flow.proofs.behind.with_variables.Given as goal

abbrev pub invariant-loop-first : goal.invariant-loop-first
invariant-loop-first l = with_variables l.entered l.all.items ≡ with_variables l.fn.entered l.fn.variables

abbrev pub decreases-loop-first : goal.decreases-loop-first
decreases-loop-first l = length l.entered
