use Rattle.std.proofs.Common.{◌∙◌, ◌-◌, length, arith}
use Rattle.typing.proofs.environment.KeptRight.{nothing_kept, kept_last}
use Rattle.typing.proofs.environment.keeping.kept_here.Goals as goal

pub returns-then-count-eq0 : goal.returns-then-count-eq0
returns-then-count-eq0 g c = nothing_kept c.args.name.now c.args.levels.now (omega (arith, c.if-count-eq0.true))

pub returns : goal.returns
returns g c =
    c.get.ensures ∙ kept_last c.args.name.now c.args.levels.now (length c.args.levels.now - 1) _ (omega (arith, c.if-count-eq0.false)) c.index-levels-count.is
