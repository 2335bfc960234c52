-- The objects before this one have other names.
use Rattle.std.proofs.Common.{◌≡◌, drop}
use Rattle.c_machine.specs.State.{block_in}
use Rattle.c_steps.proofs.frames.block_in_scope.Given as goal

abbrev pub invariant-loop-variable : goal.invariant-loop-variable
invariant-loop-variable l = block_in (drop l.variable-index l.scope) l.token ≡ block_in l.scope l.token
