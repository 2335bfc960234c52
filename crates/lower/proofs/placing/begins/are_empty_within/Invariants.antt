-- What is left decides.
use Rattle.std.proofs.Common.{◌≡◌, map, drop}
use Rattle.std.specs.List.{list_all}
use Rattle.cbase.specs.declared.tree.expr.ExprForm.TheViews.{out-InitPart}
use Rattle.cbase.specs.declared.tree.init.InitPart.{InitPart}
use Rattle.c_machine.specs.Program.{Program}
use Rattle.c_machine.specs.Trees.{text_of}
use Rattle.lowering.specs.Placing.{is_empty_within}
use Rattle.lower.proofs.placing.begins.are_empty_within.Given as goal

abbrev pub invariant-loop-part : goal.invariant-loop-part
invariant-loop-part l = (p : Program) →
    list_all (is_empty_within l.levels (text_of p)) (map (λ (part : InitPart). (out-InitPart part).init) (drop l.part-index l.parts))
    ≡ list_all (is_empty_within l.levels (text_of p)) (map (λ (part : InitPart). (out-InitPart part).init) l.parts)
