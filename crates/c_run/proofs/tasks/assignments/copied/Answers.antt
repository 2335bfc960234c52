-- Both addresses, and then the copy.
use Rattle.std.proofs.Common.{[], ◌∷◌, refl, subst}
use Rattle.cbase.specs.declared.tree.expr.Expr.{Expr}
use Rattle.c_machine.specs.declared.task.Task.TheVariants.{AddressOf, CopyStruct}
use Rattle.c_run.specs.tasks.Room.{MakesRoom}
use Rattle.c_run.proofs.tasks.MakingRoom.{on_ok}
use Rattle.c_run.proofs.tasks.RoomBehind.{in_front}
use Rattle.c_run.proofs.tasks.assignments.copied.Goals as goal

pub returns : goal.returns
returns c = on_ok _ _ c.address_then.result
    (λ room made. λ fits.
    in_front (AddressOf c.args.left.now ∷ AddressOf c.args.right.now ∷ []) (CopyStruct c.args.place c.args.bytes ∷ []) room c.args.state.now c.do_first.new.self c.address_then.new.state
    (c.in_ok-do_first.ensures.ok, fits)
    (subst (λ (right : Expr). MakesRoom (AddressOf c.args.left.now ∷ AddressOf right ∷ []) room c.do_first.new.self c.address_then.new.state) c.of.ensures (made refl)))
    c.address_then.ensures
