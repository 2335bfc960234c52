use Rattle.trail.proofs.Sound.{stay_shown}
use Rattle.trail.specs.Analysis.{tested, widened}
use Rattle.trail.proofs.laws.a_closed_trail_holds_each_state_of_a_run.Goals as goal

pub returns : goal.returns
returns c = λ tests. stay_shown (tested tests) (widened tests)
