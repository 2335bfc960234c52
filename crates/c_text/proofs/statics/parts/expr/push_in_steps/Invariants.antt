use Rattle.std.proofs.Common.{◌≡◌, ◌≤◌, ◌++◌, drop, length}
use Rattle.std.specs.List.{flat_map}
use Rattle.cbase.specs.declared.tree.expr.ExprForm.TheViews.{out-Part}
use Rattle.c_machine.specs.Statics.{in_step}
use Rattle.c_text.proofs.statics.parts.expr.push_in_steps.Given as goal

abbrev pub invariant-loop-left : goal.invariant-loop-left
invariant-loop-left l = record {
  inside : l.left ≤ length l.path;
  pushed : l.nodes ≡ flat_map (λ step. in_step (out-Part step)) (drop l.left l.path) ++ l.fn.nodes;
}

abbrev pub decreases-loop-left : goal.decreases-loop-left
decreases-loop-left l = l.left
