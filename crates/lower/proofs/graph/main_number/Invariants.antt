-- The number among those that are left.
use Rattle.std.proofs.Common.{◌≡◌, ◌+◌, ◌-◌, drop, length, map, option_map}
use Rattle.c_machine.specs.Program.{Program}
use Rattle.c_machine.specs.Trees.{function_as}
use Rattle.lowering.specs.Lowering.{main_number}
use Rattle.lower.proofs.graph.main_number.Given as goal

abbrev pub invariant-loop-function : goal.invariant-loop-function
invariant-loop-function l = (p : Program) →
    option_map (λ behind. l.number + behind) (main_number (map (function_as p) (drop l.number l.functions))) ≡ main_number (map (function_as p) l.functions)

abbrev pub decreases-loop-function : goal.decreases-loop-function
decreases-loop-function l = length l.functions - l.number
