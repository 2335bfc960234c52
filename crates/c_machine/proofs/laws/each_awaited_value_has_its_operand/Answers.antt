use Rattle.c_machine.proofs.RunStateLaws.{are_run_states}
use Rattle.c_machine.proofs.laws.each_awaited_value_has_its_operand.Goals as goal

pub returns : goal.returns
returns c = are_run_states
