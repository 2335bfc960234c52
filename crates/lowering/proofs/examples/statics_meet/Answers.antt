use Rattle.lowering.proofs.Meeting.{do_statics_meet}
use Rattle.lowering.proofs.examples.statics_meet.Goals as goal

pub returns : goal.returns
returns c = do_statics_meet
