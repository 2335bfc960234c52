use Rattle.std.proofs.Common.{◌≡◌, ◌≤◌, ◌++◌, drop, length, map}
use Rattle.c_machine.specs.Statics.{AStmt}
use Rattle.c_text.proofs.statics.parts.list.push_stmts.Given as goal

abbrev pub invariant-loop-left : goal.invariant-loop-left
invariant-loop-left l = record {
  inside : l.left ≤ length l.stmts;
  pushed : l.nodes ≡ map AStmt (drop l.left l.stmts) ++ l.fn.nodes;
}

abbrev pub decreases-loop-left : goal.decreases-loop-left
decreases-loop-left l = l.left
