use Rattle.lowering.proofs.Law.{graphs_meet}
use Rattle.lowering.proofs.laws.a_program_and_its_graph_meet_the_same_faults.Goals as goal

pub returns : goal.returns
returns c = graphs_meet
