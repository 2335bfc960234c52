-- An initialiser makes room, where its types are kept.
use Rattle.std.proofs.Common.{refl}
use Rattle.c_machine.specs.declared.task.Task.TheVariants.{Initialise}
use Rattle.c_machine.specs.Trees.{text_of}
use Rattle.c_run.specs.Stepped.{stepped_by}
use Rattle.c_run.proofs.MakingSteps.{answered_by, room_step}
use Rattle.c_run.proofs.trees.initialiser_step.Goals as goal

pub returns : goal.returns
returns c = answered_by stepped_by _ _ c.initialiser_tasks.result c.stepped_by.result
    (λ room made. λ n p choices stands.
    room_step (text_of p) (Initialise c.args.place c.args.init.now) _ room (stepped_by room) c.args.state.now c.initialiser_tasks.new.state choices refl refl refl
    (made n p stands))
    c.stepped_by.ensures c.initialiser_tasks.ensures
