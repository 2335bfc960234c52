-- The tree is the one that is handed on.
use Rattle.std.proofs.Common.{[], ◌∷◌, refl, subst}
use Rattle.cbase.specs.declared.tree.stmt.Stmt.{Stmt}
use Rattle.c_machine.specs.declared.task.Task.TheVariants.{Execute}
use Rattle.c_run.specs.tasks.Room.{MakesRoom}
use Rattle.c_run.proofs.tasks.MakingRoom.{on_ok}
use Rattle.c_run.proofs.tasks.pushes.statement_alone.Goals as goal

pub returns : goal.returns
returns c = on_ok _ _ c.alone.result
    (λ room made. subst (λ (stmt : Stmt). MakesRoom (Execute stmt ∷ []) room c.args.state.now c.alone.new.state) c.of.ensures (made refl))
    c.alone.ensures
