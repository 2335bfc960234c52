use Rattle.flow.proofs.FittingLaws.{steps_fit}
use Rattle.flow.proofs.machine_laws.a_step_keeps_values_within_their_sizes.Goals as goal

pub returns : goal.returns
returns c = steps_fit
