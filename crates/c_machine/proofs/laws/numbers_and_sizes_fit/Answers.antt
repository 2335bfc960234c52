use Rattle.c_machine.proofs.RunStateLaws.{are_fitting}
use Rattle.c_machine.proofs.laws.numbers_and_sizes_fit.Goals as goal

pub returns : goal.returns
returns c = are_fitting
