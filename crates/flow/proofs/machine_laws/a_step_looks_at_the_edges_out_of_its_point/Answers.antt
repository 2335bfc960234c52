use Rattle.flow.proofs.ExclusiveLaws.{steps_look_out}
use Rattle.flow.proofs.machine_laws.a_step_looks_at_the_edges_out_of_its_point.Goals as goal

pub returns : goal.returns
returns c = steps_look_out
