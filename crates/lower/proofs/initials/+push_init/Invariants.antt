-- What is left stands behind what stands there, of fewer levels.
use Rattle.std.proofs.Common.{◌≡◌, ◌++◌, drop, map, option_map}
use Rattle.cbase.specs.declared.tree.expr.ExprForm.TheViews.{out-InitPart}
use Rattle.cbase.specs.declared.tree.init.InitPart.{InitPart}
use Rattle.c_machine.specs.Program.{Program}
use Rattle.c_machine.specs.Trees.{text_of}
use Rattle.lowering.specs.Initials.{initials_within, joined_all}
use Rattle.lowering.specs.Source.{IsSource}
use Rattle.lower.proofs.initials.+push_init.Given as goal

abbrev pub invariant-loop-part : goal.invariant-loop-part
invariant-loop-part l = (p : Program) → IsSource l.source p → (text_of p).statics ≡ l.objects →
    option_map (λ more. l.initials ++ more)
    (joined_all (initials_within l.fewer (text_of p) l.statics l.place) (map (λ (part : InitPart). (out-InitPart part).init) (drop l.part-index l.part-items)))
    ≡ option_map (λ more. l.fn.initials ++ more) (joined_all (initials_within l.fewer (text_of p) l.statics l.place) (map (λ (part : InitPart). (out-InitPart part).init) l.part-items))
