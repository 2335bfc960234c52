use Rattle.c_machine.proofs.KeptRuns.{runs_keep}
use Rattle.c_machine.proofs.laws.each_state_of_a_run_is_kept.Goals as goal

pub returns : goal.returns
returns c = runs_keep
