use Rattle.std.proofs.Common.{◌≤◌, drop, length, map}
use Rattle.typing.specs.Declarations.{faults_of_all}
use Rattle.expressions.specs.Numbers.{Numbering}
use Rattle.expressions.specs.Settled.{IsFirstOf}
use Rattle.items.specs.parameters.Parameters.{parameter_at}
use Rattle.items.proofs.parameters.joining.first_of_parameters.Given as goal

abbrev pub invariant-loop-left : goal.invariant-loop-left
invariant-loop-left l = record {
  inside : l.left ≤ length l.params;
  first : (n : Numbering) → IsFirstOf (faults_of_all (map (parameter_at n) (drop l.left l.params))) l.first;
}

abbrev pub decreases-loop-left : goal.decreases-loop-left
decreases-loop-left l = l.left
