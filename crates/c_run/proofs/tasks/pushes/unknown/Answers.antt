-- It speaks of no type.
use Rattle.std.proofs.Common.{refl}
use Rattle.c_run.proofs.tasks.MakingRoom.{on_ok}
use Rattle.c_run.proofs.tasks.pushes.unknown.Goals as goal

pub returns : goal.returns
returns c = on_ok _ _ c.alone.result (λ room made. made refl) c.alone.ensures
