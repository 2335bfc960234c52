use Rattle.std.proofs.Common.{◌≡◌, ◌≤◌, ◌++◌, drop, length}
use Rattle.std.specs.List.{flat_map}
use Rattle.cbase.specs.declared.tree.expr.ExprForm.TheViews.{out-Enumerator}
use Rattle.c_machine.specs.Statics.{optional}
use Rattle.c_text.proofs.statics.parts.spec.push_in_each_value.Given as goal

abbrev pub invariant-loop-left : goal.invariant-loop-left
invariant-loop-left l = record {
  inside : l.left ≤ length l.values;
  pushed : l.nodes ≡ flat_map (λ value. optional (out-Enumerator value).value) (drop l.left l.values) ++ l.fn.nodes;
}

abbrev pub decreases-loop-left : goal.decreases-loop-left
decreases-loop-left l = l.left
