-- The condition, and then a branch.
use Rattle.std.proofs.Common.{[], ◌∷◌, refl, subst}
use Rattle.cbase.specs.declared.tree.stmt.Stmt.{Stmt}
use Rattle.c_machine.specs.declared.task.Task.TheVariants.{Branch, ValueOf}
use Rattle.c_run.specs.tasks.Room.{MakesRoom}
use Rattle.c_run.proofs.tasks.MakingRoom.{on_ok}
use Rattle.c_run.proofs.tasks.branches.tested.Goals as goal

pub returns : goal.returns
returns c = on_ok _ _ c.value_then.result
    (λ room made.
    subst (λ (stmt : Stmt). MakesRoom (ValueOf c.args.test.now ∷ Branch stmt ∷ []) room c.args.state.now c.value_then.new.state) c.of.ensures (made refl))
    c.value_then.ensures
