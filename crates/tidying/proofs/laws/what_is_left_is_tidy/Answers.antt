use Rattle.tidying.proofs.Tidy.{tidied_tidy}
use Rattle.tidying.proofs.laws.what_is_left_is_tidy.Goals as goal

pub returns : goal.returns
returns c = λ parts graph. tidied_tidy parts graph
