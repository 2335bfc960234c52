use Rattle.std.proofs.Common.{◌≡◌, ◌≤◌, ◌++◌, drop, length, map}
use Rattle.c_machine.specs.Statics.{AnExpr}
use Rattle.c_text.proofs.statics.parts.list.push_exprs.Given as goal

abbrev pub invariant-loop-left : goal.invariant-loop-left
invariant-loop-left l = record {
  inside : l.left ≤ length l.exprs;
  pushed : l.nodes ≡ map AnExpr (drop l.left l.exprs) ++ l.fn.nodes;
}

abbrev pub decreases-loop-left : goal.decreases-loop-left
decreases-loop-left l = l.left
