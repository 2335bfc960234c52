-- What stands in an expression, in a statement and in the words of a type, by its form.
use Rattle.std.proofs.Common.{◌≡◌, List, [], ◌∷◌, ◌++◌, Option, None, Some, refl, sym, ap, ◌∙◌, append_assoc}
use Rattle.cbase.specs.declared.place.Place.{Place}
use Rattle.cbase.specs.declared.tree.expr.Expr.{Expr}
use Rattle.cbase.specs.declared.tree.expr.ExprForm.{ExprForm}
use Rattle.cbase.specs.declared.tree.expr.ExprForm.TheOpen.{If, For, Struct, Enum}
use Rattle.cbase.specs.declared.tree.expr.ExprForm.TheViews.{out-ExprForm, out-StmtForm, out-TypeSpec}
use Rattle.cbase.specs.declared.tree.identifier.Identifier.{Identifier}
use Rattle.cbase.specs.declared.tree.spec.Enumerator.{Enumerator}
use Rattle.cbase.specs.declared.tree.spec.FieldDecl.{FieldDecl}
use Rattle.cbase.specs.declared.tree.spec.TypeSpec.{TypeSpec}
use Rattle.cbase.specs.declared.tree.stmt.Stmt.{Stmt}
use Rattle.cbase.specs.declared.tree.stmt.StmtForm.{StmtForm}
use Rattle.typing.specs.Forms.{Form, Clause, Words}
use Rattle.c_machine.specs.Statics.{Node, AnExpr, AStmt, in_form, in_clause, in_words, optional}
use Rattle.c_text.specs.statics.Nodes.{in_branches, in_fields, in_values}

pub form_in_front : (expr : Expr) (form : ExprForm) (layer : Form) (pushed before after : List Node) → expr.form ≡ form → out-ExprForm form ≡ layer →
    pushed ≡ in_form layer ++ before → after ≡ pushed → after ≡ in_form (out-ExprForm expr.form) ++ before
form_in_front expr form layer pushed before after is out same made = made ∙ same ∙ ap (λ (these : Form). in_form these ++ before) (sym (ap out-ExprForm is ∙ out))

pub clause_in_front : (stmt : Stmt) (form : StmtForm) (layer : Clause) (pushed before after : List Node) → stmt.form ≡ form → out-StmtForm form ≡ layer →
    pushed ≡ in_clause layer ++ before → after ≡ pushed → after ≡ in_clause (out-StmtForm stmt.form) ++ before
clause_in_front stmt form layer pushed before after is out same made = made ∙ same ∙ ap (λ (these : Clause). in_clause these ++ before) (sym (ap out-StmtForm is ∙ out))

pub if_in_front : (test : Expr) (close : Place) (one : Stmt) (other : Option Stmt) (before : List Node) →
    AnExpr test ∷ AStmt one ∷ in_branches other ++ before ≡ in_clause (If test close one other) ++ before
if_in_front test close one None before = refl
if_in_front test close one (Some other) before = refl

pub for_in_front : (first : Stmt) (test : Option Expr) (semicolon : Place) (next : Option Expr) (close : Place) (body : Stmt) (before : List Node) →
    AStmt first ∷ optional test ++ (optional next ++ AStmt body ∷ before) ≡ in_clause (For first test semicolon next close body) ++ before
for_in_front first test semicolon next close body before =
    ap (λ (these : List Node). AStmt first ∷ optional test ++ these) (sym (append_assoc (optional next) (AStmt body ∷ []) before))
    ∙ ap (λ (these : List Node). AStmt first ∷ these) (sym (append_assoc (optional test) (optional next ++ AStmt body ∷ []) before))

pub words_in_front : (spec form : TypeSpec) (layer : Words) (pushed before after : List Node) → spec ≡ form → out-TypeSpec form ≡ layer →
    pushed ≡ in_words layer ++ before → after ≡ pushed → after ≡ in_words (out-TypeSpec spec) ++ before
words_in_front spec form layer pushed before after is out same made = made ∙ same ∙ ap (λ (these : Words). in_words these ++ before) (sym (ap out-TypeSpec is ∙ out))

pub struct_in_front : (name : Option Identifier) (fields : Option (List FieldDecl)) (before : List Node) → in_fields fields ++ before ≡ in_words (Struct name fields) ++ before
struct_in_front name None before = refl
struct_in_front name (Some fields) before = refl

pub enum_in_front : (name : Option Identifier) (values : Option (List Enumerator)) (before : List Node) → in_values values ++ before ≡ in_words (Enum name values) ++ before
enum_in_front name None before = refl
enum_in_front name (Some values) before = refl
