use Rattle.arithmetic.proofs.Quotients.{shifted_down}
use Rattle.arithmetic.proofs.laws.shift_right_rounds_down.Goals as goal

pub returns : goal.returns
returns c = shifted_down
