-- What names stand for in front of a text.
use Rattle.items.proofs.languages.InFront.{built_ins_stand, built_ins_are_here}
use Rattle.items.proofs.languages.contexts.built_ins_stand_in_front.Goals as goal

pub returns-clause-stand : goal.returns-clause-stand
returns-clause-stand c = built_ins_stand

pub returns-clause-here : goal.returns-clause-here
returns-clause-here c = built_ins_are_here
