-- The number of the result type is below.
use Rattle.std.proofs.Common.{◌<◌, length, subst, sym}
use Rattle.std.specs.Prelude.{IfSome}
use Rattle.typing.proofs.environment.Bounds.{function_below}
use Rattle.expressions.specs.Context.{Context}
use Rattle.expressions.proofs.context.Context.set_function.Goals as goal

pub invariant_of-self : goal.invariant_of-self
invariant_of-self c = rw c.set_function.ensures
    (function_below (length c.self.inside.types.types) c.args.result_type c.self.inside.environment c.self.invariant
    (subst (λ (context : Context). IfSome c.args.result_type (λ number. number < length context.types)) (sym c.self.view_is) c.requires))
