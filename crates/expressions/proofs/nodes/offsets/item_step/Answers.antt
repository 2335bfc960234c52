use Rattle.std.proofs.Common.{◌∷◌, sym, subst}
use Rattle.typing.specs.Paths.{Stops, ToItem, ItemTooLarge, NoItem}
use Rattle.typing.specs.declared.fault.Fault.{Fault}
use Rattle.cbase.specs.declared.tree.expr.ExprForm.TheOpen.{At as IndexedStep}
use Rattle.expressions.specs.Ways.{LeadsOn}
use Rattle.expressions.proofs.nodes.offsets.item_step.Goals as goal

pub returns-in_default-clause-is : goal.returns-in_default-clause-is
returns-in_default-clause-is c abi n expr path indices agrees = NoItem (sym (c.in_default.ensures.is n agrees))

pub returns-in-Some-item_bytes-clause-is : goal.returns-in-Some-item_bytes-clause-is
returns-in-Some-item_bytes-clause-is c abi n expr path indices agrees way onward =
    ToItem (sym (c.in-Some.ensures.is n agrees)) (sym (c.in-Some-item_bytes.ensures n abi agrees)) onward

pub returns-in-None-clause-is : goal.returns-in-None-clause-is
returns-in-None-clause-is c abi n expr path indices agrees =
    subst (λ (stop : Fault). LeadsOn abi c.args.context.now.structs c.args.word n (IndexedStep expr ∷ path) (c.args.index ∷ indices) c.args.from (Stops stop)) (sym c.too_large.ensures)
    (ItemTooLarge (sym (c.in-Some.ensures.is n agrees)) (sym (c.in-None.ensures n abi agrees)))
