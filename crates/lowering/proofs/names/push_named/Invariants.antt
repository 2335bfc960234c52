-- The objects so far and those that are left.
use Rattle.std.proofs.Common.{◌≡◌, ◌++◌, drop}
use Rattle.lowering.specs.Placing.{named_from}
use Rattle.lowering.proofs.names.push_named.Given as goal

abbrev pub invariant-loop-object : goal.invariant-loop-object
invariant-loop-object l = l.names ++ named_from l.variable (drop l.object-index l.objects) ≡ l.fn.names ++ named_from l.fn.first l.objects
