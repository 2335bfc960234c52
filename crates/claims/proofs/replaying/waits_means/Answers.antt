use Rattle.claims.proofs.Playing.{waits}
use Rattle.claims.proofs.replaying.waits_means.Goals as goal

-- src/replaying.rt:28:1
pub returns : goal.returns
returns c = waits
