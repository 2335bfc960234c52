use Rattle.settle.proofs.AnyAlike.{any_alike}
use Rattle.settle.proofs.laws.settling_keeps_what_nothing_is_known_of.Goals as goal

pub returns : goal.returns
returns c = λ registers parts graph few. any_alike parts registers graph few
