use Rattle.c_machine.proofs.WitnessLaws.{is_met}
use Rattle.c_machine.proofs.laws.a_program_meets_what_is_asked.Goals as goal

pub returns : goal.returns
returns c = is_met
