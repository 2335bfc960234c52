use Rattle.arithmetic.proofs.Quotients.{remainder_rules}
use Rattle.arithmetic.proofs.laws.quotient_and_remainder_make_the_dividend.Goals as goal

pub returns : goal.returns
returns c = remainder_rules
