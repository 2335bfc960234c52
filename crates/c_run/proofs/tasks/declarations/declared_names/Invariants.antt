-- There is room for the names from a place on.
use Rattle.std.proofs.Common.{◌≤◌, drop, length}
use Rattle.expressions.specs.Numbers.{Numbering}
use Rattle.c_machine.specs.Program.{Program}
use Rattle.c_text.specs.Stands.{StandsFor}
use Rattle.c_run.specs.declared.tasks.room.Room.TheVariants.{Made}
use Rattle.c_run.specs.tasks.Room.{MakesRoom}
use Rattle.c_run.proofs.tasks.EachName.{names_tasks}
use Rattle.c_run.proofs.tasks.declarations.declared_names.Given as goal

abbrev pub invariant-loop-left : goal.invariant-loop-left
invariant-loop-left l = record {
  inside : l.left ≤ length l.names;
  made : (n : Numbering) (p : Program) → StandsFor n l.text p → MakesRoom (names_tasks p (drop l.left l.names)) Made l.initial.state l.state;
}

abbrev pub decreases-loop-left : goal.decreases-loop-left
decreases-loop-left l = l.left
