-- What has linkage keeps the numbers below.
use Rattle.std.proofs.Common.{None, length, subst, sym}
use Rattle.typing.specs.declared.environment.entity.Binding.TheVariants.{WithLinkage}
use Rattle.typing.specs.environment.Bounds.{AreBelow, EntityBelow}
use Rattle.typing.proofs.environment.Bounds.{linked_below}
use Rattle.expressions.specs.Context.{Context}
use Rattle.expressions.proofs.Kept.{around_below_behind}
use Rattle.expressions.proofs.context.Context.declare_linked_around.Goals as goal

pub invariant_of-self-2 : goal.invariant_of-self-2
invariant_of-self-2 c =
    let linked : AreBelow (length c.self.inside.types.types) c.link.new.self = rw c.in_ok-link.ensures.ok
    (linked_below (length c.self.inside.types.types) c.args.name.now c.args.meaning c.self.inside.environment c.self.invariant
    (subst (λ (context : Context). EntityBelow (length context.types) context.environment.signatures c.args.meaning.entity) (sym c.self.view_is) c.requires)) in
    around_below_behind (length c.self.inside.types.types) c.args.name.now (WithLinkage None) c.link.new.self c.declare_around.new.self c.declare_around.result c.declare_around.ensures.ok
    c.declare_around.ensures.err linked tt
