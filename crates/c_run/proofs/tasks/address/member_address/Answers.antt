-- The member stands behind the front of the struct.
use Rattle.std.proofs.Common.{[], ◌∷◌, Bool, List, ℕ, ap, refl, subst, sym, ◌∙◌}
use Rattle.cbase.specs.declared.tree.expr.ExprForm.TheOpen as tree
use Rattle.typing.specs.ctypes.Kinds.{kind_of}
use Rattle.typing.specs.Idiom.{member_offset}
use Rattle.typing.specs.Nodes.{pointed_offset}
use Rattle.c_machine.specs.declared.task.Task.TheVariants.{AddressOf, Shift, ValueOf}
use Rattle.c_machine.specs.Expressions.{address_parts}
use Rattle.c_machine.specs.Program.{type_of}
use Rattle.c_machine.specs.Trees.{form_of, offset, text_of}
use Rattle.c_run.specs.tasks.Room.{MakesRoom}
use Rattle.c_run.proofs.tasks.MakingRoom.{on_ok}
use Rattle.c_run.proofs.tasks.address.member_address.Goals as goal

pub returns-then-through : goal.returns-then-through
returns-then-through c = on_ok _ _ c.value_then.result
    (λ room made. λ n p stands.
    subst (λ (through : Bool). MakesRoom (address_parts (text_of p) c.args.expr.now (form_of p c.args.expr.now (tree.ExprForm::Member c.args.base.now c.args.name.now through))) room
    c.args.state.now c.value_then.new.state) (sym c.if-through.true)
    (subst (λ (bytes : ℕ). MakesRoom (ValueOf c.args.base.now ∷ Shift bytes ∷ []) room c.args.state.now c.value_then.new.state)
    (c.pointed_offset-offset.ensures n p c.args.base.now stands refl
    ∙ ap (λ (name : List ℕ). offset (pointed_offset p.abi p.structs (kind_of p.structs (type_of p c.args.base.now)) name)) c.as_slice-spelled.ensures)
    (made refl)))
    c.value_then.ensures

pub returns-else-through : goal.returns-else-through
returns-else-through c = on_ok _ _ c.address_then.result
    (λ room made. λ n p stands.
    subst (λ (through : Bool). MakesRoom (address_parts (text_of p) c.args.expr.now (form_of p c.args.expr.now (tree.ExprForm::Member c.args.base.now c.args.name.now through))) room
    c.args.state.now c.address_then.new.state) (sym c.if-through.false)
    (subst (λ (bytes : ℕ). MakesRoom (AddressOf c.args.base.now ∷ Shift bytes ∷ []) room c.args.state.now c.address_then.new.state)
    (c.member_offset-offset.ensures n p c.args.base.now stands refl
    ∙ ap (λ (name : List ℕ). offset (member_offset p.abi p.structs (type_of p c.args.base.now) name)) c.as_slice-spelled.ensures)
    (made refl)))
    c.address_then.ensures
