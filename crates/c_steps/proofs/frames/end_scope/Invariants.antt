-- The objects before this one are dead.
use Rattle.std.proofs.Common.{◌≡◌, drop}
use Rattle.c_machine.specs.State.{blocks_of}
use Rattle.c_machine.specs.Step.{without_objects}
use Rattle.c_steps.proofs.frames.end_scope.Given as goal

abbrev pub invariant-loop-variable : goal.invariant-loop-variable
invariant-loop-variable l = without_objects (blocks_of (drop l.variable-index l.scope)) l.memory ≡ without_objects (blocks_of l.scope) l.initial.memory
