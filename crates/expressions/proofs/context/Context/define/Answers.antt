-- A name that is defined has no number.
use Rattle.std.proofs.Common.{length}
use Rattle.expressions.proofs.Kept.{defined_below_behind}
use Rattle.expressions.proofs.context.Context.define.Goals as goal

pub invariant_of-self : goal.invariant_of-self
invariant_of-self c =
    defined_below_behind (length c.self.inside.types.types) c.args.name.now c.self.inside.environment c.define.new.self c.define.result c.define.ensures.ok c.define.ensures.err c.self.invariant
