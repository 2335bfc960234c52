-- The number that the table gives is the context's.
use Rattle.std.proofs.Common.{ap}
use Rattle.cbase.specs.declared.ctype.CType.{CType}
use Rattle.cbase.specs.declared.ctype.CType.TheVariants.{Array as ArrayType}
use Rattle.typing.specs.ctypes.Table.{type_at}
use Rattle.expressions.proofs.Meanings.{type_meant}
use Rattle.expressions.proofs.Operating.{numbered_now, numbered_below}
use Rattle.expressions.proofs.context.Context.array_of.Goals as goal

pub invariant_of-self : goal.invariant_of-self
invariant_of-self c = numbered_below c.self.inside.types c.array_of.new.self c.self.inside.environment (ArrayType (type_at c.self.inside.types.types c.args.item) c.args.count) c.array_of.result c.array_of.ensures.ok c.array_of.ensures.err c.self.invariant

pub returns : goal.returns
returns c = numbered_now c.self.view_is c.array_of.new.self c.array_of.ensures.structs (ArrayType (type_at c.self.inside.types.types c.args.item) c.args.count) (λ n. ArrayType (n.ctype c.args.item) c.args.count) (λ n agrees. ap (λ (item : CType). ArrayType item c.args.count) (type_meant c.self.view_is c.args.item c.requires n agrees)) c.array_of.result c.array_of.ensures.ok
