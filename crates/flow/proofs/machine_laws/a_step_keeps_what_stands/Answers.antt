use Rattle.flow.proofs.KeepingLaws.{steps_keep}
use Rattle.flow.proofs.machine_laws.a_step_keeps_what_stands.Goals as goal

pub returns : goal.returns
returns c = steps_keep
