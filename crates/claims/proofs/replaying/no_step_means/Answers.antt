use Rattle.claims.proofs.Playing.{no_step}
use Rattle.claims.proofs.replaying.no_step_means.Goals as goal

-- src/replaying.rt:42:1
pub returns : goal.returns
returns c = no_step
