use Rattle.lowering.proofs.examples.tests_meet.Goals as goal
use Rattle.lowering.proofs.Meeting.{do_tests_meet}

pub returns : goal.returns
returns c = do_tests_meet
