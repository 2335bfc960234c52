use Rattle.flow.proofs.ChoosingLaws.{runs_by_first}
use Rattle.flow.proofs.machine_laws.a_run_is_determined_by_its_choices.Goals as goal

pub returns : goal.returns
returns c = runs_by_first
