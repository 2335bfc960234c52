use Rattle.heap_steps.proofs.Answered.{says_refused}
use Rattle.heap_steps.proofs.emptying.refuse.Goals as goal

pub returns-in-Ok-clause-sound : goal.returns-in-Ok-clause-sound
returns-in-Ok-clause-sound c = (says_refused c.args.into c.args.graph.now c.in-Ok.post c.refused.ensures.graph c.in-Ok.ensures.post).sound

pub returns-in-Ok-clause-exact : goal.returns-in-Ok-clause-exact
returns-in-Ok-clause-exact c = (says_refused c.args.into c.args.graph.now c.in-Ok.post c.refused.ensures.graph c.in-Ok.ensures.post).exact
