-- What is declared keeps the numbers below.
use Rattle.std.proofs.Common.{length, subst, sym}
use Rattle.typing.specs.environment.Bounds.{EntityBelow}
use Rattle.expressions.specs.Context.{Context}
use Rattle.expressions.proofs.Kept.{declared_below}
use Rattle.expressions.proofs.context.Context.declare.Goals as goal

pub invariant_of-self : goal.invariant_of-self
invariant_of-self c =
    declared_below (length c.self.inside.types.types) c.args.name.now c.args.entity c.self.inside.environment c.declare.new.self c.declare.result
    c.declare.ensures.ok c.declare.ensures.err c.self.invariant
    (subst (λ (context : Context). EntityBelow (length context.types) context.environment.signatures c.args.entity) (sym c.self.view_is) c.requires)
