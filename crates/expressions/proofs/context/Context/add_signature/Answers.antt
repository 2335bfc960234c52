-- A signature behind the others keeps the numbers below.
use Rattle.std.proofs.Common.{length, subst, sym}
use Rattle.typing.specs.environment.Bounds.{SignatureBelow}
use Rattle.expressions.specs.Context.{Context}
use Rattle.expressions.proofs.Kept.{added_below_behind}
use Rattle.expressions.proofs.context.Context.add_signature.Goals as goal

pub invariant_of-self : goal.invariant_of-self
invariant_of-self c =
    added_below_behind (length c.self.inside.types.types) c.args.signature c.self.inside.environment c.add_signature.new.self c.add_signature.result
    c.add_signature.ensures.ok c.add_signature.ensures.err c.self.invariant
    (subst (λ (context : Context). SignatureBelow (length context.types) c.args.signature) (sym c.self.view_is) c.requires)
