-- A statement makes room, where its types are kept.
use Rattle.std.proofs.Common.{ℕ, refl, subst}
use Rattle.c_machine.specs.declared.task.Task.TheVariants.{Execute}
use Rattle.c_machine.specs.Statements.{statement_tasks}
use Rattle.c_run.specs.tasks.Room.{MakesRoom}
use Rattle.c_machine.specs.Trees.{text_of}
use Rattle.c_run.specs.Stepped.{stepped_by}
use Rattle.c_run.proofs.MakingSteps.{answered_by, room_step}
use Rattle.c_run.proofs.trees.statement_step.Goals as goal

pub returns : goal.returns
returns c = answered_by stepped_by _ _ c.statement_tasks.result c.stepped_by.result
    (λ room made. λ n p choices stands.
    room_step (text_of p) (Execute c.args.stmt.now) _ room (stepped_by room) c.args.state.now c.statement_tasks.new.state choices refl refl refl
    (subst (λ (held : ℕ). MakesRoom (statement_tasks (text_of p) c.args.stmt.now held) room c.args.state.now c.statement_tasks.new.state) c.held-held.ensures (made n p stands)))
    c.stepped_by.ensures c.statement_tasks.ensures
