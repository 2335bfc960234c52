use Rattle.c_run.proofs.NoneLeft.{none_by_length}
use Rattle.c_run.proofs.finishing.is_done.Goals as goal

-- nothing is to be done where the list of what is has no item
pub returns : goal.returns
returns c = none_by_length c.args.state.now.tasks c.is_done.result c.is_done.ensures
