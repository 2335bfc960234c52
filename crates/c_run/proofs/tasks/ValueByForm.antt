-- What an expression makes room for, by its form.
use Rattle.std.proofs.Common.{◌≡◌, ℕ, Bool, true, false, sym, ap, subst, ◌∙◌}
use Rattle.cbase.specs.declared.tree.expr.Expr.{Expr}
use Rattle.cbase.specs.declared.tree.expr.ExprForm.{ExprForm}
use Rattle.cbase.specs.declared.tree.expr.ExprForm.TheOpen as tree
use Rattle.cbase.specs.declared.tree.expr.ExprForm.TheViews.{out-ExprForm}
use Rattle.cbase.specs.declared.tree.identifier.Identifier.{Identifier}
use Rattle.typing.specs.ctypes.Kinds.{kind_of}
use Rattle.typing.specs.Forms.{Form as Layer}
use Rattle.typing.specs.Idiom.{member_offset}
use Rattle.typing.specs.Nodes.{pointed_offset}
use Rattle.c_machine.specs.Expressions.{value_parts, value_tasks}
use Rattle.c_machine.specs.Program.{Program, type_of}
use Rattle.c_machine.specs.Text.{Member}
use Rattle.c_machine.specs.Trees.{form_of, offset, text_of}
use Rattle.c_run.specs.declared.tasks.room.Room.{Room}
use Rattle.c_run.specs.tasks.Room.{MakesRoom}
use Rattle.c_run.proofs.tasks.MakingRoom.{Tasks, Running}

-- the value of an expression of a form, for which there is room for these things
pub value_of_form : (p : Program) (expr : Expr) (form : ExprForm) (layer : Layer) (tasks : Tasks) (room : Room) (before after : Running) →
    expr.form ≡ form → out-ExprForm form ≡ layer → tasks ≡ value_parts (text_of p) expr (form_of p expr layer) → MakesRoom tasks room before after
    → MakesRoom (value_tasks (text_of p) expr) room before after
value_of_form p expr form layer tasks room before after is out same made =
    subst (λ (tasks : Tasks). MakesRoom tasks room before after)
    (same ∙ ap (λ (layer : Layer). value_parts (text_of p) expr (form_of p expr layer)) (sym (ap out-ExprForm is ∙ out))) made

-- a member is loaded, by `.` and by `->`
pub member_loaded : (p : Program) (expr base : Expr) (name : Identifier) (through : Bool) (room : Room) (before after : Running) →
    ((offset : ℕ) → MakesRoom (value_parts (text_of p) expr (Member base offset through)) room before after)
    → MakesRoom (value_parts (text_of p) expr (form_of p expr (tree.ExprForm::Member base name through))) room before after
member_loaded p expr base name true room before after made =
    made (offset (pointed_offset p.abi p.structs (kind_of p.structs (type_of p base)) name.name))
member_loaded p expr base name false room before after made = made (offset (member_offset p.abi p.structs (type_of p base) name.name))
