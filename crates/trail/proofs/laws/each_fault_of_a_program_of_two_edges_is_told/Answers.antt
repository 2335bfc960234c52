use Rattle.trail.proofs.NullTold.{null_told}
use Rattle.trail.proofs.laws.each_fault_of_a_program_of_two_edges_is_told.Goals as goal

pub returns : goal.returns
returns c = null_told
