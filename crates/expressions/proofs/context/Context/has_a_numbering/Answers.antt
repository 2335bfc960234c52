-- The numbers of a context are a numbering.
use Rattle.std.proofs.Common.{subst}
use Rattle.expressions.specs.Context.{Context, Agrees}
use Rattle.expressions.specs.Numbers.{Numbering}
use Rattle.expressions.proofs.Growth.{numbered}
use Rattle.expressions.proofs.context.Context.has_a_numbering.Goals as goal

pub returns : goal.returns
returns c = subst (λ (context : Context). (n : Numbering) × Agrees n context) c.self.view_is
    (numbered _ c.each_type_has_one_number.ensures.0 c.each_type_has_one_number.ensures.1)
