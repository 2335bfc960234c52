-- A known constant is pushed.
use Rattle.std.proofs.Common.{[], ◌∷◌, ap, refl, sym, ◌∙◌}
use Rattle.c_machine.specs.declared.task.Task.TheVariants.{Push}
use Rattle.c_machine.specs.Expressions.{known}
use Rattle.c_machine.specs.Trees.{text_of}
use Rattle.c_run.proofs.tasks.MakingRoom.{on_ok, same_room}
use Rattle.c_run.proofs.tasks.names.known_value.Goals as goal

pub returns-in-None : goal.returns-in-None
returns-in-None c = on_ok _ _ c.unknown.result
    (λ room made. λ n p stands. same_room _ _ room c.args.state.now c.unknown.new.state
    (ap (known (text_of p)) (sym (sym c.in-None.is ∙ c.constant.ensures n p c.args.expr.now stands refl))) made)
    c.unknown.ensures

pub returns-in-Some : goal.returns-in-Some
returns-in-Some c = on_ok _ _ c.alone.result
    (λ room made. λ n p stands. same_room _ (Push c.in-Some.bits ∷ []) room c.args.state.now c.alone.new.state
    (ap (known (text_of p)) (sym (sym c.in-Some.is ∙ c.constant.ensures n p c.args.expr.now stands refl))) (made refl))
    c.alone.ensures
