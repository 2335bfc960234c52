-- A condition speaks of no type.
use Rattle.std.proofs.Common.{ℕ, refl, subst, sym}
use Rattle.c_machine.specs.declared.task.Task.TheVariants.{Test}
use Rattle.c_machine.specs.Statements.{test_tasks}
use Rattle.c_run.specs.tasks.Room.{MakesRoom}
use Rattle.c_machine.specs.Trees.{text_of}
use Rattle.c_run.specs.Stepped.{stepped_by}
use Rattle.c_run.proofs.MakingSteps.{answered_by, room_step, test_speaks_of_none}
use Rattle.c_run.proofs.conditions.test_step.Goals as goal

pub returns : goal.returns
returns c = answered_by stepped_by _ _ c.test_tasks.result c.stepped_by.result
    (λ room made. λ p choices.
    room_step (text_of p) (Test c.args.stmt.now) _ room (stepped_by room) c.args.state.now c.test_tasks.new.state choices refl refl (sym (test_speaks_of_none (text_of p) c.args.stmt.now _))
    (subst (λ (held : ℕ). MakesRoom (test_tasks (text_of p) c.args.stmt.now held) room c.args.state.now c.test_tasks.new.state) c.held-held.ensures (made p)))
    c.stepped_by.ensures c.test_tasks.ensures
