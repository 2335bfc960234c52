use Rattle.transfer.proofs.AlongMeans.{unsplit}
use Rattle.transfer.proofs.laws.what_is_not_split_has_the_post_of_the_table.Goals as goal

pub returns : goal.returns
returns c = unsplit
