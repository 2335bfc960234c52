use Rattle.transfer.proofs.Runs.{start_stands}
use Rattle.transfer.proofs.laws.starts_are_stood_for.Goals as goal

pub returns : goal.returns
returns c = start_stands
