use Rattle.trail.proofs.Sound.{all_told}
use Rattle.trail.specs.Analysis.{tested, widened}
use Rattle.trail.proofs.laws.a_closed_trail_tells_each_fault_of_a_run.Goals as goal

pub returns : goal.returns
returns c = λ tests. all_told (tested tests) (widened tests)
