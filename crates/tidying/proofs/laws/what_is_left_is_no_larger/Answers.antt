use Rattle.tidying.proofs.Sizes.{tidied_no_larger}
use Rattle.tidying.proofs.laws.what_is_left_is_no_larger.Goals as goal

pub returns : goal.returns
returns c = λ parts bound graph large. tidied_no_larger parts graph bound large
