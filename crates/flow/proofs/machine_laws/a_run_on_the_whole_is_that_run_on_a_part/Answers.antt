use Rattle.flow.proofs.RunLaws.{runs_follow}
use Rattle.flow.proofs.machine_laws.a_run_on_the_whole_is_that_run_on_a_part.Goals as goal

pub returns : goal.returns
returns c = runs_follow
