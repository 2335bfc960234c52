-- A value makes room, where its types are kept.
use Rattle.std.proofs.Common.{refl}
use Rattle.c_machine.specs.declared.task.Task.TheVariants.{ValueOf}
use Rattle.c_machine.specs.Trees.{text_of}
use Rattle.c_run.specs.Stepped.{stepped_by}
use Rattle.c_run.proofs.MakingSteps.{answered_by, room_step}
use Rattle.c_run.proofs.trees.value_step.Goals as goal

pub returns : goal.returns
returns c = answered_by stepped_by _ _ c.value_tasks.result c.stepped_by.result
    (λ room made. λ n p choices stands defined.
    room_step (text_of p) (ValueOf c.args.expr.now) _ room (stepped_by room) c.args.state.now c.value_tasks.new.state choices refl refl refl
    (made n p stands defined))
    c.stepped_by.ensures c.value_tasks.ensures
