-- The address of the part, that of the struct, and the copy.
use Rattle.std.proofs.Common.{[], ◌∷◌, ap, refl, ◌∙◌}
use Rattle.cbase.specs.declared.tree.expr.Expr.{Expr}
use Rattle.c_machine.specs.declared.task.Task.TheVariants.{AddressOf, CopyStruct, Finish, ObjectAt, Shift}
use Rattle.c_machine.specs.State.{doing}
use Rattle.c_machine.specs.Trees.{text_of}
use Rattle.c_run.proofs.tasks.MakingRoom.{on_ok}
use Rattle.c_run.proofs.tasks.RoomBehind.{in_front}
use Rattle.c_run.proofs.tasks.initialisers.set_struct.Goals as goal

pub returns : goal.returns
returns c = on_ok _ _ c.object_then.result
    (λ room made. λ n p stands fits.
    in_front (ObjectAt ((text_of p).token c.args.place) ∷ Shift c.args.offset ∷ []) (AddressOf c.args.value.now ∷ CopyStruct c.args.place c.args.bytes ∷ Finish c.args.after ∷ []) room
    c.args.state.now c.do_first-3.new.self c.object_then.new.state (
      c.in_ok-do_first-3.ensures.ok
          ∙ ap (λ (value : Expr). doing (AddressOf value ∷ []) c.do_first-2.new.self) c.of.ensures
          ∙ ap (doing (AddressOf c.args.value.now ∷ [])) (c.in_ok-do_first-2.ensures.ok ∙ ap (doing (CopyStruct c.args.place c.args.bytes ∷ [])) c.in_ok-do_first.ensures.ok),
      fits,
    )
    (made n p stands refl))
    c.object_then.ensures
