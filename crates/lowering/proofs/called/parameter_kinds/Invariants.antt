-- The kinds of the first parameters.
use Rattle.std.proofs.Common.{◌-◌, ◌≤◌}
use Rattle.lowering.specs.Calls.{AreFirstKinds}
use Rattle.lowering.proofs.called.parameter_kinds.Given as goal

abbrev pub invariant-loop-at : goal.invariant-loop-at
invariant-loop-at l = (l.at ≤ l.count) × AreFirstKinds l.source.context l.params l.at l.kinds

abbrev pub decreases-loop-at : goal.decreases-loop-at
decreases-loop-at l = l.count - l.at
