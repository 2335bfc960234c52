use Rattle.transfer.proofs.Runs.{post_stands}
use Rattle.transfer.proofs.laws.what_follows_is_stood_for.Goals as goal

pub returns : goal.returns
returns c = post_stands
