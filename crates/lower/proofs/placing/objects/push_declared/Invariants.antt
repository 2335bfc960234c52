-- The objects so far and those of the names that are left.
use Rattle.std.proofs.Common.{◌≡◌, ◌++◌, drop}
use Rattle.std.specs.List.{flat_map}
use Rattle.cbase.specs.declared.tree.decl.Declared.{Declared}
use Rattle.c_machine.specs.Program.{Program}
use Rattle.c_machine.specs.Trees.{name_of, text_of}
use Rattle.lowering.specs.Placing.{objects_of_name}
use Rattle.lowering.specs.Source.{IsSource}
use Rattle.lower.proofs.placing.objects.push_declared.Given as goal

abbrev pub invariant-loop-name : goal.invariant-loop-name
invariant-loop-name l = (p : Program) → IsSource l.source p →
    l.objects ++ flat_map (λ (name : Declared). objects_of_name (text_of p) (name_of name)) (drop l.name-index l.names)
    ≡ l.fn.objects ++ flat_map (λ (name : Declared). objects_of_name (text_of p) (name_of name)) l.names
