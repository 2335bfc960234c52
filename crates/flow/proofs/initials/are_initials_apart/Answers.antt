use Rattle.std.proofs.Common.{◌∙◌, sym}
use Rattle.flow.proofs.ScalarLaws.{in_order_is_apart}
use Rattle.flow.proofs.initials.are_initials_apart.Goals as goal

pub returns-then-are_in_order : goal.returns-then-are_in_order
returns-then-are_in_order c =
    c.if-are_in_order.true ∙ sym (in_order_is_apart c.args.scalars.now (sym c.are_in_order.ensures ∙ c.if-are_in_order.true))
