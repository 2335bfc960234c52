-- The number that the table gives is the context's.
use Rattle.std.proofs.Common.{refl}
use Rattle.cbase.specs.declared.ctype.CType.TheVariants.{Int as IntType}
use Rattle.expressions.proofs.Operating.{numbered_now, numbered_below}
use Rattle.expressions.proofs.context.Context.integer.Goals as goal

pub invariant_of-self : goal.invariant_of-self
invariant_of-self c = numbered_below c.self.inside.types c.integer.new.self c.self.inside.environment (IntType c.args.bytes c.args.signed) c.integer.result c.integer.ensures.ok c.integer.ensures.err c.self.invariant

pub returns : goal.returns
returns c = numbered_now c.self.view_is c.integer.new.self c.integer.ensures.structs (IntType c.args.bytes c.args.signed) (λ n. IntType c.args.bytes c.args.signed) (λ n agrees. refl) c.integer.result c.integer.ensures.ok
