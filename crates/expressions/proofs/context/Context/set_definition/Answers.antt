-- What the text so far has for a name has no number.
use Rattle.std.proofs.Common.{length}
use Rattle.typing.proofs.environment.Bounds.{definition_below}
use Rattle.expressions.proofs.context.Context.set_definition.Goals as goal

pub invariant_of-self : goal.invariant_of-self
invariant_of-self c =
    rw c.set_definition.ensures (definition_below (length c.self.inside.types.types) c.args.name.now c.args.definition c.self.inside.environment c.self.invariant)
