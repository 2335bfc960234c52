-- What has linkage keeps the numbers below.
use Rattle.std.proofs.Common.{◌<◌, length, subst, sym}
use Rattle.std.specs.Prelude.{IfSome}
use Rattle.typing.specs.declared.environment.entity.Binding.TheVariants.{WithLinkage}
use Rattle.typing.specs.environment.Bounds.{AreBelow, EntityBelow}
use Rattle.typing.proofs.environment.Bounds.{linked_below}
use Rattle.expressions.specs.Context.{Context}
use Rattle.expressions.proofs.Kept.{bound_below_behind}
use Rattle.expressions.proofs.context.Context.declare_linked.Goals as goal

pub invariant_of-self-2 : goal.invariant_of-self-2
invariant_of-self-2 c =
    let linked : AreBelow (length c.self.inside.types.types) c.link.new.self = rw c.in_ok-link.ensures.ok
    (linked_below (length c.self.inside.types.types) c.args.name.now c.args.meaning c.self.inside.environment c.self.invariant
    (subst (λ (context : Context). EntityBelow (length context.types) context.environment.signatures c.args.meaning.entity) (sym c.self.view_is) c.requires.entity)) in
    bound_below_behind (length c.self.inside.types.types) c.args.name.now (WithLinkage c.args.items) c.link.new.self c.declare.new.self c.declare.result c.declare.ensures.ok c.declare.ensures.err linked
    (subst (λ (context : Context). IfSome c.args.items (λ item. item < length context.types)) (sym c.self.view_is) c.requires.items)
