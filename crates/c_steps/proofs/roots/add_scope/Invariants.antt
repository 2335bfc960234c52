-- The blocks of the objects before this one are there.
use Rattle.std.proofs.Common.{◌≡◌, ◌++◌, drop}
use Rattle.c_machine.specs.State.{blocks_of}
use Rattle.c_steps.proofs.roots.add_scope.Given as goal

abbrev pub invariant-loop-variable : goal.invariant-loop-variable
invariant-loop-variable l = l.roots.items ++ blocks_of (drop l.variable-index l.scope) ≡ l.initial.roots.items ++ blocks_of l.scope
