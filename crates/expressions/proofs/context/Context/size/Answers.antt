-- The size that the table tells is the context's.
use Rattle.std.proofs.Common.{sym, ◌∙◌}
use Rattle.typing.specs.Nodes.{size_in}
use Rattle.expressions.proofs.Meanings.{of_one}
use Rattle.expressions.proofs.context.Context.size.Goals as goal

pub returns : goal.returns
returns c = λ n abi agrees. c.size.ensures abi ∙ sym (of_one c.self.view_is (size_in abi) c.args.number c.requires n agrees)
