use Rattle.lowering.proofs.examples.counts_meet.Goals as goal
use Rattle.lowering.proofs.Meeting.{do_counts_meet}

pub returns : goal.returns
returns c = do_counts_meet
