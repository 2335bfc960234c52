use Rattle.judgement.proofs.Programs.{safety}
use Rattle.judgement.proofs.laws.a_program_is_as_safe_as_its_graph.Goals as goal

pub returns : goal.returns
returns c = safety
