-- What a statement makes room for, by its form.
use Rattle.std.proofs.Common.{◌≡◌, ℕ, Bool, true, false, [], ◌∷◌, Option, refl, sym, ap, subst, ◌∙◌, if◌then◌else◌}
use Rattle.cbase.specs.declared.place.Place.{Place}
use Rattle.cbase.specs.declared.tree.expr.Expr.{Expr}
use Rattle.cbase.specs.declared.tree.expr.ExprForm.TheViews.{out-StmtForm}
use Rattle.cbase.specs.declared.tree.init.Init.{Init}
use Rattle.cbase.specs.declared.tree.stmt.Stmt.{Stmt}
use Rattle.cbase.specs.declared.tree.stmt.StmtForm.{StmtForm}
use Rattle.typing.specs.Forms.{Clause as Layer}
use Rattle.c_machine.specs.declared.task.Task.TheVariants.{Execute}
use Rattle.c_machine.specs.Program.{Program}
use Rattle.c_machine.specs.Statements.{branch_parts, other_branch, turn}
use Rattle.c_machine.specs.Text.{Clause, If}
use Rattle.c_machine.specs.Trees.{clause_of, text_of}
use Rattle.c_run.specs.declared.tasks.room.Room.{Room}
use Rattle.c_run.specs.tasks.Room.{MakesRoom}
use Rattle.c_run.proofs.tasks.MakingRoom.{Tasks, Running}

-- what a clause asks for, of a statement of a form
pub clause_of_form : (parts : Clause Expr Stmt Init → Tasks) (stmt : Stmt) (form : StmtForm) (layer : Layer) (tasks : Tasks) (room : Room) (before after : Running) →
    stmt.form ≡ form → out-StmtForm form ≡ layer → tasks ≡ parts (clause_of layer) → MakesRoom tasks room before after
    → MakesRoom (parts (clause_of (out-StmtForm stmt.form))) room before after
clause_of_form parts stmt form layer tasks room before after is out same made =
    subst (λ (tasks : Tasks). MakesRoom tasks room before after)
    (same ∙ ap (λ (layer : Layer). parts (clause_of layer)) (sym (ap out-StmtForm is ∙ out))) made

-- behind the condition of an `if`, and of a loop that makes a turn where it holds
pub branch_of_if : (p : Program) (stmt : Stmt) (held : ℕ) (test : Expr) (close : Place) (one : Stmt) (other : Option Stmt) (holds : Bool) →
    (if holds then Execute one ∷ [] else other_branch (text_of p) other) ≡ branch_parts (text_of p) stmt held (If test close one other) holds
branch_of_if p stmt held test close one other true = refl
branch_of_if p stmt held test close one other false = refl

pub branch_of_loop : (p : Program) (stmt : Stmt) (held : ℕ) (body : Stmt) (clause : Clause Expr Stmt Init) (holds : Bool) →
    turn (text_of p) stmt held body ≡ branch_parts (text_of p) stmt held clause true → [] ≡ branch_parts (text_of p) stmt held clause false →
    (if holds then turn (text_of p) stmt held body else []) ≡ branch_parts (text_of p) stmt held clause holds
branch_of_loop p stmt held body clause true goes ends = goes
branch_of_loop p stmt held body clause false goes ends = ends
