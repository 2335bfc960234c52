-- All statements from the place on are empty.
use Rattle.std.proofs.Common.{◌≡◌, ◌≤◌, drop, length, true}
use Rattle.c_machine.specs.Blocks.{are_empty}
use Rattle.c_machine.specs.Program.{Program}
use Rattle.c_machine.specs.Trees.{text_of}
use Rattle.c_run.proofs.tasks.blocks.last_counted.Given as goal

abbrev pub invariant-loop-at : goal.invariant-loop-at
invariant-loop-at l = (l.at ≤ length l.body) × ((p : Program) → are_empty (text_of p) (drop l.at l.body) ≡ true)

abbrev pub decreases-loop-at : goal.decreases-loop-at
decreases-loop-at l = l.at
