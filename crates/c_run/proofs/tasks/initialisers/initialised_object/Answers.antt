-- Braces fill the whole object, whose size is kept.
use Rattle.std.proofs.Common.{[], ◌∷◌, ◌++◌, true, ap, refl, ◌∙◌}
use Rattle.cbase.specs.declared.tree.expr.ExprForm.TheViews.{out-Init, outs-Braces, outs-Value}
use Rattle.cbase.specs.declared.tree.init.Init.{Init}
use Rattle.c_machine.specs.declared.task.Task.TheVariants.{Initialise, ObjectAt, Zero}
use Rattle.c_machine.specs.Blocks.{zeroed}
use Rattle.c_machine.specs.State.{doing}
use Rattle.c_machine.specs.Trees.{initialiser_of, text_of}
use Rattle.c_run.specs.declared.tasks.room.Room.TheVariants.{Made}
use Rattle.c_run.proofs.tasks.BlocksEntered.{size_kept}
use Rattle.c_run.proofs.tasks.MakingRoom.{on_ok, same_room}
use Rattle.c_run.proofs.tasks.RoomBehind.{in_front}
use Rattle.c_run.proofs.tasks.initialisers.initialised_object.Goals as goal

pub returns-in-Value : goal.returns-in-Value
returns-in-Value c = λ n p stands sized.
    same_room _ (Initialise c.args.place c.args.init.now ∷ []) Made c.args.state.now c.do_first.new.self
    (ap (λ layer. zeroed (text_of p) c.args.place c.args.object (initialiser_of layer) ++ Initialise c.args.place c.args.init.now ∷ [])
    (ap out-Init c.in-Value.is ∙ outs-Value c.in-Value.value c.in-Value.after))
    (c.in_ok-do_first.ensures.ok ∙ ap (λ (init : Init). doing (Initialise c.args.place init ∷ []) c.args.state.now) c.of.ensures, refl)

pub returns-in-Braces : goal.returns-in-Braces
returns-in-Braces c = on_ok _ _ c.object_then.result
    (λ room made. λ n p stands sized.
    same_room _ (ObjectAt ((text_of p).token c.args.place) ∷ Zero c.args.place c.args.object.bytes ∷ Initialise c.args.place c.args.init.now ∷ []) room c.args.state.now c.object_then.new.state
    (ap (λ layer. zeroed (text_of p) c.args.place c.args.object (initialiser_of layer) ++ Initialise c.args.place c.args.init.now ∷ [])
    (ap out-Init c.in-Braces.is ∙ outs-Braces c.in-Braces.field-0))
    (in_front (ObjectAt ((text_of p).token c.args.place) ∷ Zero c.args.place c.args.object.bytes ∷ []) (Initialise c.args.place c.args.init.now ∷ []) room
    c.args.state.now c.do_first.new.self c.object_then.new.state
    (c.in_ok-do_first.ensures.ok ∙ ap (λ (init : Init). doing (Initialise c.args.place init ∷ []) c.args.state.now) c.of.ensures, refl)
    (made n p stands (size_kept c.args.object true sized))))
    c.object_then.ensures
