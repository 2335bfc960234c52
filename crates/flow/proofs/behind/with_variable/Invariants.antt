-- What is put there already and what is left make up the whole.
use Rattle.std.proofs.Common.{◌≡◌, ◌++◌, take, length}
use Rattle.flow.specs.Holding.{put_variable}
use Rattle.flow.proofs.behind.with_variable.Given as goal

abbrev pub invariant-loop-first : goal.invariant-loop-first
invariant-loop-first l = l.all.items ++ put_variable l.new l.variables ≡ put_variable l.new l.fn.variables

abbrev pub decreases-loop-first : goal.decreases-loop-first
decreases-loop-first l = length l.variables

abbrev pub invariant-loop-variable : goal.invariant-loop-variable
invariant-loop-variable l = l.all.items ≡ l.initial.all.items ++ take l.variable-index l.variable-items
