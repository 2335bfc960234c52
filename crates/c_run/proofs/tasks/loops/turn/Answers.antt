-- The body, and then the loop again.
use Rattle.std.proofs.Common.{[], ◌∷◌, ap, refl, ◌∙◌}
use Rattle.cbase.specs.declared.tree.stmt.Stmt.{Stmt}
use Rattle.c_machine.specs.declared.task.Task.TheVariants.{Again, Execute}
use Rattle.c_machine.specs.State.{doing}
use Rattle.c_run.proofs.tasks.MakingRoom.{on_ok}
use Rattle.c_run.proofs.tasks.RoomBehind.{in_front}
use Rattle.c_run.proofs.tasks.loops.turn.Goals as goal

pub returns : goal.returns
returns c = on_ok _ _ c.statement_alone.result
    (λ room made.
    in_front (Execute c.args.body.now ∷ []) (Again c.args.stmt.now c.args.held ∷ []) room c.args.state.now c.do_first.new.self c.statement_alone.new.state
    (c.in_ok-do_first.ensures.ok ∙ ap (λ (stmt : Stmt). doing (Again stmt c.args.held ∷ []) c.args.state.now) c.of.ensures, refl) made)
    c.statement_alone.ensures
