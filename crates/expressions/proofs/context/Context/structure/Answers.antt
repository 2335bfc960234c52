-- The number that the table gives is the context's.
use Rattle.std.proofs.Common.{refl}
use Rattle.cbase.specs.declared.ctype.CType.TheVariants.{Struct as StructType}
use Rattle.expressions.proofs.Operating.{numbered_now, numbered_below}
use Rattle.expressions.proofs.context.Context.structure.Goals as goal

pub invariant_of-self : goal.invariant_of-self
invariant_of-self c = numbered_below c.self.inside.types c.structure.new.self c.self.inside.environment (StructType c.args.of) c.structure.result c.structure.ensures.ok c.structure.ensures.err c.self.invariant

pub returns : goal.returns
returns c = numbered_now c.self.view_is c.structure.new.self c.structure.ensures.structs (StructType c.args.of) (λ n. StructType c.args.of) (λ n agrees. refl) c.structure.result c.structure.ensures.ok
