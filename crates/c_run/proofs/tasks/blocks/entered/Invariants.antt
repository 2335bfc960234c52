-- There is room for what stands behind.
use Rattle.std.proofs.Common.{◌≤◌, drop, length}
use Rattle.std.specs.List.{flat_map}
use Rattle.c_machine.specs.Blocks.{objects_in}
use Rattle.c_machine.specs.Program.{Program}
use Rattle.c_machine.specs.Trees.{text_of}
use Rattle.c_text.specs.Stands.{StandsFor}
use Rattle.expressions.specs.Numbers.{Numbering}
use Rattle.c_run.specs.declared.tasks.room.Room.TheVariants.{Made}
use Rattle.c_run.specs.tasks.Room.{MakesRoom}
use Rattle.c_run.proofs.tasks.blocks.entered.Given as goal

abbrev pub invariant-loop-left : goal.invariant-loop-left
invariant-loop-left l =
    (l.left ≤ length l.body) × ((n : Numbering) (p : Program) → StandsFor n l.text p →
    MakesRoom (flat_map (objects_in (text_of p)) (drop l.left l.body)) Made l.initial.state l.state)

abbrev pub decreases-loop-left : goal.decreases-loop-left
decreases-loop-left l = l.left
