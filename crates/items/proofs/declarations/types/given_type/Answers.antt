-- The type of a name, by its sizes.
use Rattle.std.proofs.Common.{sym, ◌∙◌}
use Rattle.items.proofs.declarations.Given.{given_items, given_whole}
use Rattle.items.proofs.declarations.types.given_type.Goals as goal

pub returns-then-is_left_out : goal.returns-then-is_left_out
returns-then-is_left_out c = given_items c.args.base c.args.stars c.args.sizes.now c.args.context.now c.pointers_to.new.context c.arrays_of.new.context c.in_ok-pointer.pointer c.in_ok-item.item
    c.in_ok-pointer.ensures c.behind_first.result.now (sym c.is_left_out.ensures ∙ c.if-is_left_out.true) c.behind_first.ensures c.in_ok-item.ensures

pub returns : goal.returns
returns c = given_whole c.args.base c.args.stars c.args.sizes.now c.args.context.now c.pointers_to.new.context c.arrays_of-2.new.context c.in_ok-pointer.pointer c.in_ok-whole.whole
    c.in_ok-pointer.ensures (sym c.is_left_out.ensures ∙ c.if-is_left_out.false) c.in_ok-whole.ensures
