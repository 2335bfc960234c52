-- The number that the table gives is the context's.
use Rattle.std.proofs.Common.{refl}
use Rattle.cbase.specs.declared.ctype.CType.TheVariants.{Bool as BoolType}
use Rattle.expressions.proofs.Operating.{numbered_now, numbered_below}
use Rattle.expressions.proofs.context.Context.boolean.Goals as goal

pub invariant_of-self : goal.invariant_of-self
invariant_of-self c = numbered_below c.self.inside.types c.boolean.new.self c.self.inside.environment (BoolType) c.boolean.result c.boolean.ensures.ok c.boolean.ensures.err c.self.invariant

pub returns : goal.returns
returns c = numbered_now c.self.view_is c.boolean.new.self c.boolean.ensures.structs (BoolType) (λ n. BoolType) (λ n agrees. refl) c.boolean.result c.boolean.ensures.ok
