use Rattle.claims.proofs.Playing.{still_running}
use Rattle.claims.proofs.replaying.still_running_means.Goals as goal

-- src/replaying.rt:35:1
pub returns : goal.returns
returns c = still_running
