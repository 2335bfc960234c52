use Rattle.transfer.proofs.StartExact.{start_exact}
use Rattle.transfer.proofs.laws.the_start_is_exact.Goals as goal

pub returns : goal.returns
returns c = start_exact
