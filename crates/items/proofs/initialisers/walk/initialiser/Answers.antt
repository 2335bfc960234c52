-- An initialiser for which there is no place.
use Rattle.std.proofs.Common.{ap, sym, ◌∙◌}
use Rattle.cbase.specs.declared.tree.expr.ExprForm.TheOpen.{Braces}
use Rattle.cbase.specs.declared.tree.expr.ExprForm.TheViews.{out-Init, outs-Value, outs-Braces}
use Rattle.items.proofs.initialisers.Unplaced.{unplaced_value, unplaced_parts}
use Rattle.items.proofs.initialisers.walk.initialiser.Goals as goal

pub returns-in-None : goal.returns-in-None
returns-in-None g c = unplaced_value c.args.checker.now.abi c.args.subject c.args.slot c.args.init.now c.args.context.now _ c.in-None.is c.in-Value.value c.in-Value.after c.surplus_value.result
    (ap out-Init c.in-Value.is ∙ outs-Value c.in-Value.value c.in-Value.after) c.surplus_value.ensures

pub returns-in-None-slot : goal.returns-in-None-slot
returns-in-None-slot g c = unplaced_parts c.args.checker.now.abi c.args.subject c.args.slot c.args.init.now c.args.context.now _ c.in-None-slot.is c.as_slice-in-None-slot.result.now c.surplus.result
    (ap out-Init c.in-Braces.is ∙ (outs-Braces c.in-Braces.parts ∙ ap Braces (sym c.as_slice-in-None-slot.ensures))) c.surplus.ensures
