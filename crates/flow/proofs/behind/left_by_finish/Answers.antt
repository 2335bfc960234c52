use Rattle.flow.proofs.StandingLaws.{finish_empties}
use Rattle.flow.proofs.behind.left_by_finish.Goals as goal

pub returns : goal.returns
returns c = rw (finish_empties c.args.registers.now) c.kept.ensures
