-- The moves that are left begin where all do.
use Rattle.std.proofs.Common.{◌≡◌, ◌-◌, drop, length}
use Rattle.c_machine.specs.Program.{Program}
use Rattle.c_machine.specs.Trees.{text_of}
use Rattle.lower.specs.Around.{around_of}
use Rattle.lowering.specs.Placing.{begins}
use Rattle.lowering.specs.Source.{IsSource}
use Rattle.lower.proofs.placing.begins.begins.Given as goal

abbrev pub invariant-loop-at : goal.invariant-loop-at
invariant-loop-at l = (p : Program) → IsSource l.source p →
    begins (text_of p) (around_of l.around) l.standing (drop l.at l.moves) l.to ≡ begins (text_of p) (around_of l.around) l.standing l.moves l.to

abbrev pub decreases-loop-at : goal.decreases-loop-at
decreases-loop-at l = length l.moves - l.at
