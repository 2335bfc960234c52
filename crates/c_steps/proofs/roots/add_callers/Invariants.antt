-- The blocks of the objects of the callers before this one are there.
use Rattle.std.proofs.Common.{◌≡◌, ◌++◌, drop}
use Rattle.std.specs.List.{flat_map}
use Rattle.c_machine.specs.State.{blocks_of, objects_of}
use Rattle.c_steps.proofs.roots.add_callers.Given as goal

abbrev pub invariant-loop-at : goal.invariant-loop-at
invariant-loop-at l =
    l.roots.items ++ blocks_of (flat_map objects_of (drop l.at l.callers)) ≡ l.initial.roots.items ++ blocks_of (flat_map objects_of l.callers)
