use Rattle.claims.proofs.Playing.{fault}
use Rattle.claims.proofs.replaying.fault_means.Goals as goal

-- src/replaying.rt:14:1
pub returns : goal.returns
returns c = fault
