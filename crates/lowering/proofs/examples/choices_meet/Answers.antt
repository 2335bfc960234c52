use Rattle.lowering.proofs.examples.choices_meet.Goals as goal
use Rattle.lowering.proofs.Meeting.{do_choices_meet}

pub returns : goal.returns
returns c = do_choices_meet
