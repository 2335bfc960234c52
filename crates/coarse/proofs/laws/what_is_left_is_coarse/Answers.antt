use Rattle.coarse.proofs.Settled.{settled}
use Rattle.coarse.proofs.laws.what_is_left_is_coarse.Goals as goal

pub returns : goal.returns
returns c = λ limit parts. settled limit parts
