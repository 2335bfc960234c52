use Rattle.driver.proofs.Fewer.{few_followed}
use Rattle.driver.proofs.laws.few_walks_are_followed_to_their_ends.Goals as goal

pub returns : goal.returns
returns c = few_followed
