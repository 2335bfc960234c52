use Rattle.std.proofs.Common.{◌∙◌, ◌-◌, length, arith}
use Rattle.typing.proofs.environment.KeptRight.{nothing_around, kept_front}
use Rattle.typing.proofs.environment.keeping.kept_around.Goals as goal

pub returns-then-count-eq0 : goal.returns-then-count-eq0
returns-then-count-eq0 g c = nothing_around c.args.name.now c.args.levels.now (omega (arith, c.if-count-eq0.true))

pub returns : goal.returns
returns g c = c.kept_here.ensures ∙ kept_front c.args.name.now c.args.levels.now (length c.args.levels.now - 1) (omega (arith, c.if-count-eq0.false))
