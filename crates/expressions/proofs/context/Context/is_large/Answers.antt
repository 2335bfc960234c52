-- Whether the type is large is what the table tells of its size.
use Rattle.std.proofs.Common.{sym, ◌∙◌}
use Rattle.cbase.specs.Layout.{layout_of}
use Rattle.typing.specs.ctypes.Table.{type_at}
use Rattle.typing.specs.NamedTypes.{is_large}
use Rattle.expressions.proofs.Extents.{large, not_large}
use Rattle.expressions.proofs.Meanings.{of_one}
use Rattle.expressions.proofs.context.Context.is_large.Goals as goal

pub returns-in-TooLarge : goal.returns-in-TooLarge
returns-in-TooLarge c = λ n abi agrees. sym (of_one c.self.view_is (is_large abi) c.args.number c.requires n agrees ∙ large (layout_of abi c.self.inside.types.structs (type_at c.self.inside.types.types c.args.number)) (sym c.in-TooLarge.is ∙ c.size.ensures abi))

pub returns-in_default : goal.returns-in_default
returns-in_default c = λ n abi agrees. sym (of_one c.self.view_is (is_large abi) c.args.number c.requires n agrees ∙ not_large (layout_of abi c.self.inside.types.structs (type_at c.self.inside.types.types c.args.number)) c.size.result (c.size.ensures abi) c.in_default.not-TooLarge)
