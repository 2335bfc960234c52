use Rattle.claims.proofs.Playing.{ended}
use Rattle.claims.proofs.replaying.ended_means.Goals as goal

-- src/replaying.rt:21:1
pub returns : goal.returns
returns c = ended
