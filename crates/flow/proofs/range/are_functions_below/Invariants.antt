use Rattle.std.proofs.Common.{◌<◌}
use Rattle.std.specs.List.{AllWithin}
use Rattle.flow.proofs.range.are_functions_below.Given as goal

abbrev pub invariant-loop-function : goal.invariant-loop-function
invariant-loop-function l = AllWithin (λ function. (function.entry < l.points) × (function.exit < l.points)) l.functions 0 l.function-index
