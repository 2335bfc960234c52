use Rattle.c_machine.proofs.LackingLaws.{no_operand_lacks}
use Rattle.c_machine.proofs.laws.no_step_lacks_an_operand.Goals as goal

pub returns : goal.returns
returns c = no_operand_lacks
