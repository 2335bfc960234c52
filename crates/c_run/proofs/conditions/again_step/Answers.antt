-- What is behind the body of a loop speaks of no type.
use Rattle.std.proofs.Common.{refl, sym}
use Rattle.c_machine.specs.declared.task.Task.TheVariants.{Again}
use Rattle.c_machine.specs.Trees.{text_of}
use Rattle.c_run.specs.Stepped.{stepped_by}
use Rattle.c_run.proofs.MakingSteps.{again_speaks_of_none, answered_by, room_step}
use Rattle.c_run.proofs.conditions.again_step.Goals as goal

pub returns : goal.returns
returns c = answered_by stepped_by _ _ c.again_tasks.result c.stepped_by.result
    (λ room made. λ p held choices.
    room_step (text_of p) (Again c.args.stmt.now held) _ room (stepped_by room) c.args.state.now c.again_tasks.new.state choices refl refl (sym (again_speaks_of_none (text_of p) c.args.stmt.now))
    (made p))
    c.stepped_by.ensures c.again_tasks.ensures
