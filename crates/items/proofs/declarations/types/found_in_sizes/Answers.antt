-- What is found of sizes, whether the outermost is left out or not.
use Rattle.std.proofs.Common.{ap, sym, ◌∙◌}
use Rattle.typing.specs.NamedTypes.{found_of_sizes}
use Rattle.items.proofs.declarations.Given.{found_in_items, found_in_whole}
use Rattle.items.proofs.declarations.types.found_in_sizes.Goals as goal

pub returns-then-is_left_out : goal.returns-then-is_left_out
returns-then-is_left_out c = c.found_of_sizes.ensures ∙ (ap found_of_sizes c.behind_first.ensures ∙ sym (found_in_items c.args.sizes.now (sym c.is_left_out.ensures ∙ c.if-is_left_out.true)))

pub returns : goal.returns
returns c = c.found_of_sizes-2.ensures ∙ sym (found_in_whole c.args.sizes.now (sym c.is_left_out.ensures ∙ c.if-is_left_out.false))
