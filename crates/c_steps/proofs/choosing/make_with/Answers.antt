-- The block that is made is that of the parameter, and holds its argument.
use Rattle.c_steps.proofs.Making.{if_ok}
use Rattle.c_steps.proofs.choosing.make_with.Goals as goal

pub give_argument-requires-clause-whole : goal.give_argument-requires-clause-whole
give_argument-requires-clause-whole g c = if_ok _ c.in_ok-outcome.field-0 c.in-Ok.block c.in-Ok.is c.in_ok-outcome.ensures.whole

pub give_argument-requires-clause-names : goal.give_argument-requires-clause-names
give_argument-requires-clause-names g c = if_ok _ c.in_ok-outcome.field-0 c.in-Ok.block c.in-Ok.is c.in_ok-outcome.ensures.longer c.args.word c.requires
