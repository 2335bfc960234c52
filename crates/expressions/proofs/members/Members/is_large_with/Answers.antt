-- A struct with one member more is large, or not.
use Rattle.std.proofs.Common.{sym, ◌∙◌}
use Rattle.typing.specs.ctypes.Table.{type_at}
use Rattle.expressions.proofs.MembersSoFar.{large_without, large_with}
use Rattle.expressions.proofs.members.Members.is_large_with.Goals as goal

pub returns-in-None : goal.returns-in-None
returns-in-None c context abi name number are known =
    large_without context c.args.self.now.list c.args.self.now.names c.args.self.now.layout are abi name (type_at context.types number) (sym c.in-None.is ∙ known)

pub returns-in-Some : goal.returns-in-Some
returns-in-Some c context abi name number are known =
    large_with context c.args.self.now.list c.args.self.now.names c.args.self.now.layout are abi name (type_at context.types number)
    c.in-Some.layout c.with_field.result c.padded.result (sym c.in-Some.is ∙ known) c.with_field.ensures c.padded.ensures
