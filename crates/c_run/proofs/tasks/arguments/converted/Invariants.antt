-- There is room for the arguments from a place on.
use Rattle.std.proofs.Common.{◌≤◌, drop, length}
use Rattle.expressions.specs.Numbers.{Numbering}
use Rattle.c_machine.specs.Expressions.{argument_tasks}
use Rattle.c_machine.specs.Program.{Program}
use Rattle.c_machine.specs.Trees.{text_of}
use Rattle.c_text.specs.Stands.{StandsFor}
use Rattle.c_run.specs.declared.tasks.room.Room.TheVariants.{Made}
use Rattle.c_run.specs.tasks.Room.{MakesRoom}
use Rattle.c_run.proofs.tasks.EachArgument.{params_by}
use Rattle.c_text.specs.Parameters.{types_by}
use Rattle.c_run.proofs.tasks.arguments.converted.Given as goal

abbrev pub invariant-loop-left : goal.invariant-loop-left
invariant-loop-left l = record {
  inside : l.left ≤ length l.args;
  made : (n : Numbering) (p : Program) → StandsFor n l.text p → length l.args ≤ length (types_by n p l.params)
      → MakesRoom (argument_tasks (text_of p) (drop l.left l.args) (drop l.left (params_by p (types_by n p l.params)))) Made l.initial.state l.state;
}

abbrev pub decreases-loop-left : goal.decreases-loop-left
decreases-loop-left l = l.left
