-- What is left decides.
use Rattle.std.proofs.Common.{◌≡◌, drop}
use Rattle.std.specs.List.{list_all}
use Rattle.cbase.specs.declared.tree.decl.Declared.{Declared}
use Rattle.c_machine.specs.Program.{Program}
use Rattle.c_machine.specs.Trees.{name_of, text_of}
use Rattle.lowering.specs.Placing.{does_nothing}
use Rattle.lowering.specs.Source.{IsSource}
use Rattle.lower.proofs.placing.begins.do_nothing.Given as goal

abbrev pub invariant-loop-name : goal.invariant-loop-name
invariant-loop-name l = (p : Program) → IsSource l.source p →
    list_all (λ (name : Declared). does_nothing (text_of p) (name_of name)) (drop l.name-index l.names)
    ≡ list_all (λ (name : Declared). does_nothing (text_of p) (name_of name)) l.names
