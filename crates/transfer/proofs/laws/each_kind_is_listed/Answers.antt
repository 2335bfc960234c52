use Rattle.transfer.proofs.Runs.{post_has}
use Rattle.transfer.proofs.laws.each_kind_is_listed.Goals as goal

pub returns : goal.returns
returns c = post_has
