-- The objects so far and those of the statements that are left.
use Rattle.std.proofs.Common.{◌≡◌, ◌++◌, drop}
use Rattle.c_machine.specs.Program.{Program}
use Rattle.c_machine.specs.Trees.{text_of}
use Rattle.lowering.specs.Placing.{objects_in}
use Rattle.lowering.specs.Source.{IsSource}
use Rattle.lower.proofs.placing.objects.push_objects.Given as goal

abbrev pub invariant-loop-stmt : goal.invariant-loop-stmt
invariant-loop-stmt l = (p : Program) → IsSource l.source p →
    l.objects ++ objects_in (text_of p) (drop l.stmt-index l.body) ≡ l.fn.objects ++ objects_in (text_of p) l.body
