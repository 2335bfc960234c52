-- A value needs no room for the whole object, and braces have none.
use Rattle.std.proofs.Common.{[], ◌∷◌, ◌++◌, ap, refl, subst, ◌∙◌}
use Rattle.cbase.specs.declared.tree.expr.ExprForm.TheViews.{out-Init, outs-Value}
use Rattle.cbase.specs.declared.tree.init.Init.{Init}
use Rattle.c_machine.specs.declared.task.Task.TheVariants.{Initialise}
use Rattle.c_machine.specs.Blocks.{zeroed}
use Rattle.c_machine.specs.Trees.{initialiser_of, text_of}
use Rattle.c_run.specs.tasks.Room.{MakesRoom}
use Rattle.c_run.proofs.tasks.MakingRoom.{on_ok, same_room}
use Rattle.c_run.proofs.tasks.initialisers.initialised_large.Goals as goal

pub returns-in-Value : goal.returns-in-Value
returns-in-Value c = on_ok _ _ c.alone.result
    (λ room made. λ p object large. same_room _ (Initialise c.args.place c.args.init.now ∷ []) room c.args.state.now c.alone.new.state
    (ap (λ layer. zeroed (text_of p) c.args.place object (initialiser_of layer) ++ Initialise c.args.place c.args.init.now ∷ [])
    (ap out-Init c.in-Value.is ∙ outs-Value c.in-Value.value c.in-Value.after))
    (subst (λ (init : Init). MakesRoom (Initialise c.args.place init ∷ []) room c.args.state.now c.alone.new.state) c.of.ensures (made refl)))
    c.alone.ensures
