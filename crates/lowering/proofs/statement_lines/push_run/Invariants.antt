-- The registers so far and those that are left.
use Rattle.std.proofs.Common.{◌≡◌, ◌++◌}
use Rattle.lowering.specs.Moves.{run_of}
use Rattle.lowering.proofs.statement_lines.push_run.Given as goal

abbrev pub invariant-loop-left : goal.invariant-loop-left
invariant-loop-left l = l.registers ++ run_of l.register l.left ≡ l.fn.registers ++ run_of l.fn.first l.fn.count

abbrev pub decreases-loop-left : goal.decreases-loop-left
decreases-loop-left l = l.left
