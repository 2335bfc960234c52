-- The number that the table gives is the context's.
use Rattle.std.proofs.Common.{ap}
use Rattle.cbase.specs.declared.ctype.CType.TheVariants.{Pointer as PointerType}
use Rattle.typing.specs.ctypes.Table.{type_at}
use Rattle.expressions.proofs.Meanings.{type_meant}
use Rattle.expressions.proofs.Operating.{numbered_now, numbered_below}
use Rattle.expressions.proofs.context.Context.pointer_to.Goals as goal

pub invariant_of-self : goal.invariant_of-self
invariant_of-self c = numbered_below c.self.inside.types c.pointer_to.new.self c.self.inside.environment (PointerType (type_at c.self.inside.types.types c.args.item)) c.pointer_to.result c.pointer_to.ensures.ok c.pointer_to.ensures.err c.self.invariant

pub returns : goal.returns
returns c = numbered_now c.self.view_is c.pointer_to.new.self c.pointer_to.ensures.structs (PointerType (type_at c.self.inside.types.types c.args.item)) (λ n. PointerType (n.ctype c.args.item)) (λ n agrees. ap PointerType (type_meant c.self.view_is c.args.item c.requires n agrees)) c.pointer_to.result c.pointer_to.ensures.ok
