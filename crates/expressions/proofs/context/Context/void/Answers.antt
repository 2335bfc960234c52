-- The number that the table gives is the context's.
use Rattle.std.proofs.Common.{refl}
use Rattle.cbase.specs.declared.ctype.CType.TheVariants.{Void as VoidType}
use Rattle.expressions.proofs.Operating.{numbered_now, numbered_below}
use Rattle.expressions.proofs.context.Context.void.Goals as goal

pub invariant_of-self : goal.invariant_of-self
invariant_of-self c = numbered_below c.self.inside.types c.void.new.self c.self.inside.environment (VoidType) c.void.result c.void.ensures.ok c.void.ensures.err c.self.invariant

pub returns : goal.returns
returns c = numbered_now c.self.view_is c.void.new.self c.void.ensures.structs (VoidType) (λ n. VoidType) (λ n agrees. refl) c.void.result c.void.ensures.ok
