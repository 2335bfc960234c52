use Rattle.c_machine.proofs.KeptSteps.{steps_keep}
use Rattle.c_machine.proofs.laws.a_step_keeps_a_state.Goals as goal

pub returns : goal.returns
returns c = steps_keep
