use Rattle.std.proofs.Common.{◌≡◌, length}
use Rattle.settle.specs.Settled.{first_cases}
use Rattle.settle.proofs.cases.first_cases.Given as goal

abbrev pub invariant-loop-left : goal.invariant-loop-left
invariant-loop-left l = first_cases l.graph l.left ≡ first_cases l.graph l.fn.registers

abbrev pub decreases-loop-left : goal.decreases-loop-left
decreases-loop-left l = length l.left
