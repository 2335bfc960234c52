use Rattle.coarse.proofs.Means.{left_stands}
use Rattle.coarse.proofs.laws.what_is_left_stands_for_no_less.Goals as goal

pub returns : goal.returns
returns c = λ limit parts state graph stands. left_stands limit parts graph state stands
