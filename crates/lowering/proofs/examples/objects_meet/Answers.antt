use Rattle.lowering.proofs.examples.objects_meet.Goals as goal
use Rattle.lowering.proofs.Meeting.{do_objects_meet}

pub returns : goal.returns
returns c = do_objects_meet
