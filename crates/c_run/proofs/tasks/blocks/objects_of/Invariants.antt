-- There is room for what stands behind.
use Rattle.std.proofs.Common.{◌≤◌, drop, length}
use Rattle.std.specs.List.{flat_map}
use Rattle.c_machine.specs.Program.{Program}
use Rattle.c_text.specs.Stands.{StandsFor}
use Rattle.expressions.specs.Numbers.{Numbering}
use Rattle.c_run.specs.declared.tasks.room.Room.TheVariants.{Made}
use Rattle.c_run.specs.tasks.Room.{MakesRoom}
use Rattle.c_run.proofs.tasks.BlocksEntered.{object_tasks}
use Rattle.c_run.proofs.tasks.blocks.objects_of.Given as goal

abbrev pub invariant-loop-left : goal.invariant-loop-left
invariant-loop-left l =
    (l.left ≤ length l.names) × ((n : Numbering) (p : Program) → StandsFor n l.text p →
    MakesRoom (flat_map (object_tasks p) (drop l.left l.names)) Made l.initial.state l.state)

abbrev pub decreases-loop-left : goal.decreases-loop-left
decreases-loop-left l = l.left
