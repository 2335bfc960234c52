-- The initialiser is that of the tree.
use Rattle.std.proofs.Common.{List, map, sym, ap, ◌∙◌}
use Rattle.cbase.specs.declared.tree.expr.ExprForm.TheViews.{out-Init, out-InitPart, outs-Braces, outs-Value}
use Rattle.cbase.specs.declared.tree.init.Init.{Init}
use Rattle.cbase.specs.declared.tree.init.InitPart.{InitPart}
use Rattle.c_machine.specs.Text.{Braces}
use Rattle.lower.specs.Around.{around_of}
use Rattle.c_machine.specs.Trees.{initialiser_of}
use Rattle.lowering.proofs.Onward.{on_ok}
use Rattle.lower.proofs.InitialisersLead.{by_initialiser}
use Rattle.lower.proofs.PiecesPlaced.{here}
use Rattle.lower.proofs.placing.initialisers.place_initialiser.Goals as goal

pub returns-in-Value : goal.returns-in-Value
returns-in-Value c = on_ok c.place_set.result
    (by_initialiser _ _ _ _ _ _ c.args.init.now _ _ _ _ _ (λ p. sym (ap (λ (init : Init). initialiser_of (out-Init init)) c.in-Value.is ∙ ap initialiser_of (outs-Value c.in-Value.value c.in-Value.after)))) c.place_set.ensures

pub returns-in-Braces : goal.returns-in-Braces
returns-in-Braces c = on_ok c.place_parts.result
    (λ all. by_initialiser _ _ _ _ _ _ c.args.init.now _ _ _ _ _
    (λ p.
    ap (λ (parts : List InitPart). Braces (map (λ (part : InitPart). (out-InitPart part).init) parts)) c.as_slice.ensures
    ∙ sym (ap (λ (init : Init). initialiser_of (out-Init init)) c.in-Braces.is ∙ ap initialiser_of (outs-Braces c.in-Braces.parts)))
    (here c.args.source.now (around_of c.args.around.now) _ _ _ _ _ _ all))
    c.place_parts.ensures
