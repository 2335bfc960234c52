-- Whether the place lies in a loop has no number.
use Rattle.std.proofs.Common.{length}
use Rattle.typing.proofs.environment.Bounds.{loop_below}
use Rattle.expressions.proofs.context.Context.set_loop.Goals as goal

pub invariant_of-self : goal.invariant_of-self
invariant_of-self c = rw c.set_loop.ensures (loop_below (length c.self.inside.types.types) c.args.in_loop c.self.inside.environment c.self.invariant)
