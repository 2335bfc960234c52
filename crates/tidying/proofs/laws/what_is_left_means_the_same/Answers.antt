use Rattle.tidying.proofs.Kept.{tidied_means}
use Rattle.tidying.proofs.laws.what_is_left_means_the_same.Goals as goal

pub returns : goal.returns
returns c = λ parts state graph. tidied_means parts graph state
