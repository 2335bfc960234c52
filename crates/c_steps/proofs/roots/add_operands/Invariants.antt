-- The blocks to which the operands before this one lead are there.
use Rattle.std.proofs.Common.{◌≡◌, ◌++◌, drop}
use Rattle.c_machine.specs.State.{led_to}
use Rattle.c_steps.proofs.roots.add_operands.Given as goal

abbrev pub invariant-loop-at : goal.invariant-loop-at
invariant-loop-at l = l.roots.items ++ led_to (drop l.at l.operands) ≡ l.initial.roots.items ++ led_to l.operands
