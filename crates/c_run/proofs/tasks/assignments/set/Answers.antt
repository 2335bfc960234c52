-- The type of the left side says how a value is assigned.
use Rattle.std.proofs.Common.{[], ◌∷◌, sym, ◌∙◌, refl}
use Rattle.c_machine.specs.declared.task.Task.TheVariants.{AddressOf, CopyStruct}
use Rattle.c_machine.specs.Program.{type_of}
use Rattle.c_machine.specs.Trees.{kind_in, text_of}
use Rattle.c_run.proofs.tasks.MakingRoom.{assigns_none, copies, on_ok, same_room, stores}
use Rattle.c_run.proofs.tasks.assignments.set.Goals as goal

pub returns-in-None : goal.returns-in-None
returns-in-None c = on_ok _ _ c.stored.result
    (λ room made. λ n p stands. same_room _ _ room c.args.state.now c.stored.new.state
    (stores (text_of p) c.args.expr.now.place c.args.left.now c.args.right.now (kind_in p (type_of p c.args.left.now)) c.in-Some.kind
    (sym c.in-Some.is ∙ c.kind.ensures n p c.args.left.now stands refl) (sym c.in-None.is ∙ c.struct_bytes.ensures))
    (made n p stands))
    c.stored.ensures

pub returns-in-Some-struct_bytes : goal.returns-in-Some-struct_bytes
returns-in-Some-struct_bytes c = on_ok _ _ c.copied.result
    (λ room made. λ n p stands.
    let is = copies (text_of p) c.args.expr.now.place c.args.left.now c.args.right.now (kind_in p (type_of p c.args.left.now)) c.in-Some.kind c.in-Some-struct_bytes.bytes
    (sym c.in-Some.is ∙ c.kind.ensures n p c.args.left.now stands refl) (sym c.in-Some-struct_bytes.is ∙ c.struct_bytes.ensures) in
    same_room _ (AddressOf c.args.left.now ∷ AddressOf c.args.right.now ∷ CopyStruct c.args.expr.now.place c.in-Some-struct_bytes.bytes ∷ []) room
    c.args.state.now c.copied.new.state is.0 (made is.1))
    c.copied.ensures

pub returns-in_default : goal.returns-in_default
returns-in_default c = λ n p stands.
    assigns_none (text_of p) c.args.expr.now.place c.args.left.now c.args.right.now (kind_in p (type_of p c.args.left.now))
    (sym c.in_default.is ∙ c.kind.ensures n p c.args.left.now stands refl)
