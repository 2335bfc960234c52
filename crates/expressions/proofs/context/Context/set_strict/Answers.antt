-- Whether `main` may not be called has no number.
use Rattle.std.proofs.Common.{length}
use Rattle.typing.proofs.environment.Bounds.{strict_below}
use Rattle.expressions.proofs.context.Context.set_strict.Goals as goal

pub invariant_of-self : goal.invariant_of-self
invariant_of-self c = rw c.set_strict.ensures (strict_below (length c.self.inside.types.types) c.args.strict c.self.inside.environment c.self.invariant)
