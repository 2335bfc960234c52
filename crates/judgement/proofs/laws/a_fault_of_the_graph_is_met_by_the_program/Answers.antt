use Rattle.judgement.proofs.Programs.{faults}
use Rattle.judgement.proofs.laws.a_fault_of_the_graph_is_met_by_the_program.Goals as goal

pub returns : goal.returns
returns c = faults
