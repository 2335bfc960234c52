-- What is still to be placed leads to the same.
use Rattle.std.proofs.Common.{◌≡◌, ◌-◌, drop, length, map}
use Rattle.c_machine.specs.Program.{Program}
use Rattle.c_machine.specs.Trees.{function_as, text_of}
use Rattle.lower.specs.Built.{made_of}
use Rattle.lowering.specs.Lowering.{place_functions}
use Rattle.lowering.specs.Source.{IsSource}
use Rattle.lower.proofs.graph.place_functions.Given as goal

abbrev pub invariant-loop-function : goal.invariant-loop-function
invariant-loop-function l = (p : Program) → IsSource l.source p →
    place_functions (text_of p) l.statics (map (function_as p) (drop l.number l.functions)) (made_of l.builder) l.placed
    ≡ place_functions (text_of p) l.statics (map (function_as p) l.functions) (made_of l.fn.builder) l.fn.placed

abbrev pub decreases-loop-function : goal.decreases-loop-function
decreases-loop-function l = length l.functions - l.number
