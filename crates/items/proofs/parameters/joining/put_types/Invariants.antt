use Rattle.std.proofs.Common.{◌≡◌, take}
use Rattle.items.specs.parameters.Parameters.{numbers_of}
use Rattle.items.proofs.parameters.joining.put_types.Given as goal

abbrev pub invariant-loop-param : goal.invariant-loop-param
invariant-loop-param l = l.types ≡ numbers_of (take l.param-index l.params)
