-- What is kept of a type is that type.
use Rattle.std.proofs.Common.{refl, sym, ◌∙◌}
use Rattle.lowering.proofs.Sources.{kind_is}
use Rattle.lowering.proofs.source.kind.Goals as goal

pub returns-in-Some : goal.returns-in-Some
returns-in-Some c = kind_is _ c.text.result.now _ _ c.text.ensures (λ n p stands. sym c.in-Some.is ∙ c.kind.ensures n p c.args.expr.now stands refl)
