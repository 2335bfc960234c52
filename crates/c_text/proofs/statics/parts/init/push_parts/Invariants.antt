use Rattle.std.proofs.Common.{◌≡◌, ◌≤◌, ◌++◌, drop, length, map}
use Rattle.cbase.specs.declared.tree.expr.ExprForm.TheViews.{out-InitPart}
use Rattle.c_machine.specs.Statics.{AnInit}
use Rattle.c_text.proofs.statics.parts.init.push_parts.Given as goal

abbrev pub invariant-loop-left : goal.invariant-loop-left
invariant-loop-left l = record {
  inside : l.left ≤ length l.parts;
  pushed : l.nodes ≡ map (λ part. AnInit (out-InitPart part).init) (drop l.left l.parts) ++ l.fn.nodes;
}

abbrev pub decreases-loop-left : goal.decreases-loop-left
decreases-loop-left l = l.left
