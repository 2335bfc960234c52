-- Each part of a tree weighs one more than what stands directly in it, form by form.
use Rattle.std.proofs.Common.{◌≡◌, ℕ, ◌+◌, ◌∙◌, ap, sym, refl, arith, map, List, [], ◌∷◌, ◌++◌, Option, Some, None}
use Rattle.std.specs.Prelude.{option_map}
use Rattle.std.specs.List.{flat_map}
use Rattle.cbase.specs.declared.tree.decl.Decl.{Decl}
use Rattle.cbase.specs.declared.tree.decl.Declared.{Declared}
use Rattle.cbase.specs.declared.tree.decl.Param.{Param}
use Rattle.cbase.specs.declared.tree.decl.TypeName.{TypeName}
use Rattle.cbase.specs.declared.tree.expr.Expr.{Expr}
use Rattle.cbase.specs.declared.tree.expr.ExprForm.TheFolds.{fold_out-Expr, fold_out-Stmt, fold_out-TypeName, fold_out-Param, fold_out-Declared, fold_out-Decl, fold_out-FieldName, fold_out-FieldDecl, fold_out-InitPart, fold_out-Enumerator, fold-roll-Part, fold-roll-ExprForm, fold-roll-StmtForm, fold-roll-TypeSpec, fold-roll-Init}
use Rattle.cbase.specs.declared.tree.expr.ExprForm.TheOpen.{Name, Constant, Unary, Binary, Assign, Count, Choose, Cast, SizeOf, SizeOfType, OffsetOf, Index, ExprForm::Member, Call, Inner, AssertFail, Part::Member, At, Value, Braces, Basic, Named, Struct, Enum, OfExpr, OfType, Declare, Eval, Block, If, While, Do, For, Break, Continue, Return}
use Rattle.cbase.specs.declared.tree.expr.ExprForm.TheShapes.{former-StmtForm-Eval-0, former-Declared-params, former-Declared-init}
use Rattle.cbase.specs.declared.tree.expr.ExprForm.TheViews.{out-ExprForm, out-Part, out-StmtForm, out-TypeName, out-TypeSpec, out-FieldDecl, out-FieldName, out-Enumerator, out-Decl, out-Declared, out-Param, out-Init, out-InitPart, roll-ExprForm, roll-Part, roll-StmtForm, roll-TypeSpec, roll-Init, roll-out-ExprForm, roll-out-Part, roll-out-StmtForm, roll-out-TypeSpec, roll-out-Init}
use Rattle.cbase.specs.declared.tree.expr.Part.{Part}
use Rattle.cbase.specs.declared.tree.init.Init.{Init}
use Rattle.cbase.specs.declared.tree.init.InitPart.{InitPart}
use Rattle.cbase.specs.declared.tree.item.Item.{Item}
use Rattle.cbase.specs.declared.tree.item.Item.TheVariants.{Empty, Declare as DeclareItem, Function}
use Rattle.cbase.specs.declared.tree.spec.Enumerator.{Enumerator}
use Rattle.cbase.specs.declared.tree.spec.FieldDecl.{FieldDecl}
use Rattle.cbase.specs.declared.tree.spec.FieldName.{FieldName}
use Rattle.cbase.specs.declared.tree.stmt.Stmt.{Stmt}
use Rattle.ctrees.specs.Weight.{joined, or_nothing, list_or_nothing, form_weight, part_weight, init_weight, spec_weight, statement_form_weight, decl_weight, declared_weight, param_weight, type_name_weight, expr_weight, init_part_weight, field_decl_weight, field_name_weight, enumerator_weight, stmt_weight, in_form, in_part, in_init, in_spec, in_statement_form, in_decl, in_declared, in_param, in_type_name, in_expr, in_init_part, in_enumerator, in_field_decl, in_field_name, in_stmt}
use Rattle.ctrees.proofs.Sizes.{map_options, both}
use Rattle.typing.specs.Forms.{Form, Step, Words, Clause, Initialiser}
use Rattle.c_machine.specs.Statics as parts
use Rattle.c_machine.specs.Statics.{Node, AnExpr, AStmt, SomeWords, AnInit, optional, in_sizes, in_name, in_node, in_item, counting_all, nodes_of}
use Rattle.c_text.specs.statics.Weights.{weight, weights}

pub weights-append : (ns ms : List Node) → weights (ns ++ ms) ≡ weights ns + weights ms
weights-append [] ms = omega arith
weights-append (n ∷ ns) ms = let rest = weights-append ns ms in omega (arith, rest)

-- the parts of a list, from those of its items
each : {A : Type 0} (nodes : A → List Node) (number : A → ℕ) → ((a : A) → number a ≡ weights (nodes a)) → (items : List A) → joined counting_all (map number items) ≡ weights (flat_map nodes items)
each nodes number same [] = refl
each nodes number same (a ∷ items) =
    let one = same a in
    let rest = each nodes number same items in
    let all = weights-append (nodes a) (flat_map nodes items) in
    omega (arith, one, rest, all)

each_one : {A : Type 0} (node : A → Node) (number : A → ℕ) → ((a : A) → number a ≡ weight (node a)) → (items : List A) → joined counting_all (map number items) ≡ weights (map node items)
each_one node number same [] = refl
each_one node number same (a ∷ items) =
    let one = same a in
    let rest = each_one node number same items in
    omega (arith, one, rest)

exprs : (args : List Expr) → joined counting_all (map (expr_weight counting_all) args) ≡ weights (map AnExpr args)
exprs = each_one AnExpr (expr_weight counting_all) (λ arg. refl)

stmts : (body : List Stmt) → joined counting_all (map (stmt_weight counting_all) body) ≡ weights (map AStmt body)
stmts = each_one AStmt (stmt_weight counting_all) (λ stmt. refl)

-- what may be left out
abbrev maybe_weight : Option Expr → ℕ
maybe_weight expr = or_nothing (option_map (expr_weight counting_all) expr)

maybe : (expr : Option Expr) → maybe_weight expr ≡ weights (optional expr)
maybe None = refl
maybe (Some expr) = omega arith

maybe_mapped : (expr : Option Expr) → or_nothing (former-StmtForm-Eval-0.map Expr ℕ (expr_weight counting_all) expr) ≡ weights (optional expr)
maybe_mapped None = refl
maybe_mapped (Some expr) = omega arith

sizes_of : (sizes : List (Option Expr)) → joined counting_all (map maybe_weight sizes) ≡ weights (in_sizes sizes)
sizes_of = each optional maybe_weight maybe

-- a type name, a parameter and a name that is declared
type_name : (name : TypeName) → type_name_weight counting_all name ≡ weights (parts.in_type_name name)
type_name name = fold_out-TypeName ℕ ℕ ℕ ℕ ℕ ℕ ℕ ℕ ℕ ℕ ℕ ℕ ℕ ℕ ℕ (in_form counting_all) (in_part counting_all) (in_init counting_all) (in_spec counting_all) (in_statement_form counting_all) (in_decl counting_all) (in_declared counting_all) (in_param counting_all) (in_type_name counting_all) (in_expr counting_all) (in_init_part counting_all) (in_enumerator counting_all) (in_field_decl counting_all) (in_field_name counting_all) (in_stmt counting_all) name
    ∙ ap (λ (ns : List ℕ). spec_weight counting_all (out-TypeName name).spec + joined counting_all ns) (map_options or_nothing _ maybe_weight refl (λ e. refl) (out-TypeName name).sizes)
    ∙ ap (λ (n : ℕ). spec_weight counting_all (out-TypeName name).spec + n) (sizes_of (out-TypeName name).sizes)

param : (name : Param) → param_weight counting_all name ≡ weights (parts.in_param name)
param name = fold_out-Param ℕ ℕ ℕ ℕ ℕ ℕ ℕ ℕ ℕ ℕ ℕ ℕ ℕ ℕ ℕ (in_form counting_all) (in_part counting_all) (in_init counting_all) (in_spec counting_all) (in_statement_form counting_all) (in_decl counting_all) (in_declared counting_all) (in_param counting_all) (in_type_name counting_all) (in_expr counting_all) (in_init_part counting_all) (in_enumerator counting_all) (in_field_decl counting_all) (in_field_name counting_all) (in_stmt counting_all) name
    ∙ ap (λ (ns : List ℕ). spec_weight counting_all (out-Param name).spec + joined counting_all ns) (map_options or_nothing _ maybe_weight refl (λ e. refl) (out-Param name).sizes)
    ∙ ap (λ (n : ℕ). spec_weight counting_all (out-Param name).spec + n) (sizes_of (out-Param name).sizes)

params_mapped : (params : Option (List Param)) → list_or_nothing counting_all (former-Declared-params.map Param ℕ (param_weight counting_all) params) ≡ weights (parts.in_params params)
params_mapped None = refl
params_mapped (Some params) = each parts.in_param (param_weight counting_all) param params

init_mapped : (init : Option Init) → or_nothing (former-Declared-init.map Init ℕ (init_weight counting_all) init) ≡ weights (parts.in_init init)
init_mapped None = refl
init_mapped (Some init) = omega arith

declared : (name : Declared) → declared_weight counting_all name ≡ weights (in_name name)
declared name = fold_out-Declared ℕ ℕ ℕ ℕ ℕ ℕ ℕ ℕ ℕ ℕ ℕ ℕ ℕ ℕ ℕ (in_form counting_all) (in_part counting_all) (in_init counting_all) (in_spec counting_all) (in_statement_form counting_all) (in_decl counting_all) (in_declared counting_all) (in_param counting_all) (in_type_name counting_all) (in_expr counting_all) (in_init_part counting_all) (in_enumerator counting_all) (in_field_decl counting_all) (in_field_name counting_all) (in_stmt counting_all) name
    ∙ both (λ (ns : List ℕ) (n : ℕ). joined counting_all ns + n) _ _ _ _ (map_options or_nothing _ maybe_weight refl (λ e. refl) (out-Declared name).sizes)
    (both ◌+◌ _ _ _ _ (params_mapped (out-Declared name).params) (init_mapped (out-Declared name).init))
    ∙ (let sizes = sizes_of (out-Declared name).sizes in
    let all = weights-append (in_sizes (out-Declared name).sizes) (parts.in_params (out-Declared name).params ++ parts.in_init (out-Declared name).init) in
    let rest = weights-append (parts.in_params (out-Declared name).params) (parts.in_init (out-Declared name).init) in
    omega (arith, sizes, all, rest))

decl : (d : Decl) → decl_weight counting_all d ≡ weights (parts.in_decl d)
decl d = fold_out-Decl ℕ ℕ ℕ ℕ ℕ ℕ ℕ ℕ ℕ ℕ ℕ ℕ ℕ ℕ ℕ (in_form counting_all) (in_part counting_all) (in_init counting_all) (in_spec counting_all) (in_statement_form counting_all) (in_decl counting_all) (in_declared counting_all) (in_param counting_all) (in_type_name counting_all) (in_expr counting_all) (in_init_part counting_all) (in_enumerator counting_all) (in_field_decl counting_all) (in_field_name counting_all) (in_stmt counting_all) d ∙ ap (λ (n : ℕ). spec_weight counting_all (out-Decl d).spec + n) (each in_name (declared_weight counting_all) declared (out-Decl d).names)

-- an expression
step : (layer : Step) → part_weight counting_all (roll-Part layer) ≡ weights (parts.in_step layer)
step (Part::Member name) = fold-roll-Part ℕ ℕ ℕ ℕ ℕ ℕ ℕ ℕ ℕ ℕ ℕ ℕ ℕ ℕ ℕ (in_form counting_all) (in_part counting_all) (in_init counting_all) (in_spec counting_all) (in_statement_form counting_all) (in_decl counting_all) (in_declared counting_all) (in_param counting_all) (in_type_name counting_all) (in_expr counting_all) (in_init_part counting_all) (in_enumerator counting_all) (in_field_decl counting_all) (in_field_name counting_all) (in_stmt counting_all) (Part::Member name)
step (At index) = fold-roll-Part ℕ ℕ ℕ ℕ ℕ ℕ ℕ ℕ ℕ ℕ ℕ ℕ ℕ ℕ ℕ (in_form counting_all) (in_part counting_all) (in_init counting_all) (in_spec counting_all) (in_statement_form counting_all) (in_decl counting_all) (in_declared counting_all) (in_param counting_all) (in_type_name counting_all) (in_expr counting_all) (in_init_part counting_all) (in_enumerator counting_all) (in_field_decl counting_all) (in_field_name counting_all) (in_stmt counting_all) (At index) ∙ omega arith

step_of : (part : Part) → part_weight counting_all part ≡ weights (parts.in_step (out-Part part))
step_of part = ap (part_weight counting_all) (sym (roll-out-Part part)) ∙ step (out-Part part)

form : (layer : Form) → form_weight counting_all (roll-ExprForm layer) ≡ weights (parts.in_form layer)
form (Name name) = fold-roll-ExprForm ℕ ℕ ℕ ℕ ℕ ℕ ℕ ℕ ℕ ℕ ℕ ℕ ℕ ℕ ℕ (in_form counting_all) (in_part counting_all) (in_init counting_all) (in_spec counting_all) (in_statement_form counting_all) (in_decl counting_all) (in_declared counting_all) (in_param counting_all) (in_type_name counting_all) (in_expr counting_all) (in_init_part counting_all) (in_enumerator counting_all) (in_field_decl counting_all) (in_field_name counting_all) (in_stmt counting_all) (Name name)
form (Constant spelling) = fold-roll-ExprForm ℕ ℕ ℕ ℕ ℕ ℕ ℕ ℕ ℕ ℕ ℕ ℕ ℕ ℕ ℕ (in_form counting_all) (in_part counting_all) (in_init counting_all) (in_spec counting_all) (in_statement_form counting_all) (in_decl counting_all) (in_declared counting_all) (in_param counting_all) (in_type_name counting_all) (in_expr counting_all) (in_init_part counting_all) (in_enumerator counting_all) (in_field_decl counting_all) (in_field_name counting_all) (in_stmt counting_all) (Constant spelling)
form (Unary op arg) = fold-roll-ExprForm ℕ ℕ ℕ ℕ ℕ ℕ ℕ ℕ ℕ ℕ ℕ ℕ ℕ ℕ ℕ (in_form counting_all) (in_part counting_all) (in_init counting_all) (in_spec counting_all) (in_statement_form counting_all) (in_decl counting_all) (in_declared counting_all) (in_param counting_all) (in_type_name counting_all) (in_expr counting_all) (in_init_part counting_all) (in_enumerator counting_all) (in_field_decl counting_all) (in_field_name counting_all) (in_stmt counting_all) (Unary op arg) ∙ omega arith
form (Binary op left right) = fold-roll-ExprForm ℕ ℕ ℕ ℕ ℕ ℕ ℕ ℕ ℕ ℕ ℕ ℕ ℕ ℕ ℕ (in_form counting_all) (in_part counting_all) (in_init counting_all) (in_spec counting_all) (in_statement_form counting_all) (in_decl counting_all) (in_declared counting_all) (in_param counting_all) (in_type_name counting_all) (in_expr counting_all) (in_init_part counting_all) (in_enumerator counting_all) (in_field_decl counting_all) (in_field_name counting_all) (in_stmt counting_all) (Binary op left right) ∙ omega arith
form (Assign op left right) = fold-roll-ExprForm ℕ ℕ ℕ ℕ ℕ ℕ ℕ ℕ ℕ ℕ ℕ ℕ ℕ ℕ ℕ (in_form counting_all) (in_part counting_all) (in_init counting_all) (in_spec counting_all) (in_statement_form counting_all) (in_decl counting_all) (in_declared counting_all) (in_param counting_all) (in_type_name counting_all) (in_expr counting_all) (in_init_part counting_all) (in_enumerator counting_all) (in_field_decl counting_all) (in_field_name counting_all) (in_stmt counting_all) (Assign op left right) ∙ omega arith
form (Count up after arg) = fold-roll-ExprForm ℕ ℕ ℕ ℕ ℕ ℕ ℕ ℕ ℕ ℕ ℕ ℕ ℕ ℕ ℕ (in_form counting_all) (in_part counting_all) (in_init counting_all) (in_spec counting_all) (in_statement_form counting_all) (in_decl counting_all) (in_declared counting_all) (in_param counting_all) (in_type_name counting_all) (in_expr counting_all) (in_init_part counting_all) (in_enumerator counting_all) (in_field_decl counting_all) (in_field_name counting_all) (in_stmt counting_all) (Count up after arg) ∙ omega arith
form (Choose test one other) = fold-roll-ExprForm ℕ ℕ ℕ ℕ ℕ ℕ ℕ ℕ ℕ ℕ ℕ ℕ ℕ ℕ ℕ (in_form counting_all) (in_part counting_all) (in_init counting_all) (in_spec counting_all) (in_statement_form counting_all) (in_decl counting_all) (in_declared counting_all) (in_param counting_all) (in_type_name counting_all) (in_expr counting_all) (in_init_part counting_all) (in_enumerator counting_all) (in_field_decl counting_all) (in_field_name counting_all) (in_stmt counting_all) (Choose test one other) ∙ omega arith
form (Cast to arg) = fold-roll-ExprForm ℕ ℕ ℕ ℕ ℕ ℕ ℕ ℕ ℕ ℕ ℕ ℕ ℕ ℕ ℕ (in_form counting_all) (in_part counting_all) (in_init counting_all) (in_spec counting_all) (in_statement_form counting_all) (in_decl counting_all) (in_declared counting_all) (in_param counting_all) (in_type_name counting_all) (in_expr counting_all) (in_init_part counting_all) (in_enumerator counting_all) (in_field_decl counting_all) (in_field_name counting_all) (in_stmt counting_all) (Cast to arg)
    ∙ (let named = type_name to in let all = weights-append (parts.in_type_name to) (AnExpr arg ∷ []) in omega (arith, named, all))
form (SizeOf arg) = fold-roll-ExprForm ℕ ℕ ℕ ℕ ℕ ℕ ℕ ℕ ℕ ℕ ℕ ℕ ℕ ℕ ℕ (in_form counting_all) (in_part counting_all) (in_init counting_all) (in_spec counting_all) (in_statement_form counting_all) (in_decl counting_all) (in_declared counting_all) (in_param counting_all) (in_type_name counting_all) (in_expr counting_all) (in_init_part counting_all) (in_enumerator counting_all) (in_field_decl counting_all) (in_field_name counting_all) (in_stmt counting_all) (SizeOf arg) ∙ omega arith
form (SizeOfType to) = fold-roll-ExprForm ℕ ℕ ℕ ℕ ℕ ℕ ℕ ℕ ℕ ℕ ℕ ℕ ℕ ℕ ℕ (in_form counting_all) (in_part counting_all) (in_init counting_all) (in_spec counting_all) (in_statement_form counting_all) (in_decl counting_all) (in_declared counting_all) (in_param counting_all) (in_type_name counting_all) (in_expr counting_all) (in_init_part counting_all) (in_enumerator counting_all) (in_field_decl counting_all) (in_field_name counting_all) (in_stmt counting_all) (SizeOfType to) ∙ type_name to
form (OffsetOf to path) = fold-roll-ExprForm ℕ ℕ ℕ ℕ ℕ ℕ ℕ ℕ ℕ ℕ ℕ ℕ ℕ ℕ ℕ (in_form counting_all) (in_part counting_all) (in_init counting_all) (in_spec counting_all) (in_statement_form counting_all) (in_decl counting_all) (in_declared counting_all) (in_param counting_all) (in_type_name counting_all) (in_expr counting_all) (in_init_part counting_all) (in_enumerator counting_all) (in_field_decl counting_all) (in_field_name counting_all) (in_stmt counting_all) (OffsetOf to path)
    ∙ (let named = type_name to in
    let way = each (λ part. parts.in_step (out-Part part)) (part_weight counting_all) step_of path in
    let all = weights-append (parts.in_type_name to) (flat_map (λ part. parts.in_step (out-Part part)) path) in
    omega (arith, named, way, all))
form (Index base index) = fold-roll-ExprForm ℕ ℕ ℕ ℕ ℕ ℕ ℕ ℕ ℕ ℕ ℕ ℕ ℕ ℕ ℕ (in_form counting_all) (in_part counting_all) (in_init counting_all) (in_spec counting_all) (in_statement_form counting_all) (in_decl counting_all) (in_declared counting_all) (in_param counting_all) (in_type_name counting_all) (in_expr counting_all) (in_init_part counting_all) (in_enumerator counting_all) (in_field_decl counting_all) (in_field_name counting_all) (in_stmt counting_all) (Index base index) ∙ omega arith
form (ExprForm::Member base name through) = fold-roll-ExprForm ℕ ℕ ℕ ℕ ℕ ℕ ℕ ℕ ℕ ℕ ℕ ℕ ℕ ℕ ℕ (in_form counting_all) (in_part counting_all) (in_init counting_all) (in_spec counting_all) (in_statement_form counting_all) (in_decl counting_all) (in_declared counting_all) (in_param counting_all) (in_type_name counting_all) (in_expr counting_all) (in_init_part counting_all) (in_enumerator counting_all) (in_field_decl counting_all) (in_field_name counting_all) (in_stmt counting_all) (ExprForm::Member base name through) ∙ omega arith
form (Call callee args) = fold-roll-ExprForm ℕ ℕ ℕ ℕ ℕ ℕ ℕ ℕ ℕ ℕ ℕ ℕ ℕ ℕ ℕ (in_form counting_all) (in_part counting_all) (in_init counting_all) (in_spec counting_all) (in_statement_form counting_all) (in_decl counting_all) (in_declared counting_all) (in_param counting_all) (in_type_name counting_all) (in_expr counting_all) (in_init_part counting_all) (in_enumerator counting_all) (in_field_decl counting_all) (in_field_name counting_all) (in_stmt counting_all) (Call callee args) ∙ ap (λ (n : ℕ). expr_weight counting_all callee + n) (exprs args)
form (Inner body close) = fold-roll-ExprForm ℕ ℕ ℕ ℕ ℕ ℕ ℕ ℕ ℕ ℕ ℕ ℕ ℕ ℕ ℕ (in_form counting_all) (in_part counting_all) (in_init counting_all) (in_spec counting_all) (in_statement_form counting_all) (in_decl counting_all) (in_declared counting_all) (in_param counting_all) (in_type_name counting_all) (in_expr counting_all) (in_init_part counting_all) (in_enumerator counting_all) (in_field_decl counting_all) (in_field_name counting_all) (in_stmt counting_all) (Inner body close) ∙ stmts body
form AssertFail = fold-roll-ExprForm ℕ ℕ ℕ ℕ ℕ ℕ ℕ ℕ ℕ ℕ ℕ ℕ ℕ ℕ ℕ (in_form counting_all) (in_part counting_all) (in_init counting_all) (in_spec counting_all) (in_statement_form counting_all) (in_decl counting_all) (in_declared counting_all) (in_param counting_all) (in_type_name counting_all) (in_expr counting_all) (in_init_part counting_all) (in_enumerator counting_all) (in_field_decl counting_all) (in_field_name counting_all) (in_stmt counting_all) AssertFail

-- a statement
clause : (layer : Clause) → statement_form_weight counting_all (roll-StmtForm layer) ≡ weights (parts.in_clause layer)
clause (Declare d) = fold-roll-StmtForm ℕ ℕ ℕ ℕ ℕ ℕ ℕ ℕ ℕ ℕ ℕ ℕ ℕ ℕ ℕ (in_form counting_all) (in_part counting_all) (in_init counting_all) (in_spec counting_all) (in_statement_form counting_all) (in_decl counting_all) (in_declared counting_all) (in_param counting_all) (in_type_name counting_all) (in_expr counting_all) (in_init_part counting_all) (in_enumerator counting_all) (in_field_decl counting_all) (in_field_name counting_all) (in_stmt counting_all) (Declare d) ∙ decl d
clause (Eval expr) = fold-roll-StmtForm ℕ ℕ ℕ ℕ ℕ ℕ ℕ ℕ ℕ ℕ ℕ ℕ ℕ ℕ ℕ (in_form counting_all) (in_part counting_all) (in_init counting_all) (in_spec counting_all) (in_statement_form counting_all) (in_decl counting_all) (in_declared counting_all) (in_param counting_all) (in_type_name counting_all) (in_expr counting_all) (in_init_part counting_all) (in_enumerator counting_all) (in_field_decl counting_all) (in_field_name counting_all) (in_stmt counting_all) (Eval expr) ∙ maybe_mapped expr
clause (Block body) = fold-roll-StmtForm ℕ ℕ ℕ ℕ ℕ ℕ ℕ ℕ ℕ ℕ ℕ ℕ ℕ ℕ ℕ (in_form counting_all) (in_part counting_all) (in_init counting_all) (in_spec counting_all) (in_statement_form counting_all) (in_decl counting_all) (in_declared counting_all) (in_param counting_all) (in_type_name counting_all) (in_expr counting_all) (in_init_part counting_all) (in_enumerator counting_all) (in_field_decl counting_all) (in_field_name counting_all) (in_stmt counting_all) (Block body) ∙ stmts body
clause (If test close one None) = fold-roll-StmtForm ℕ ℕ ℕ ℕ ℕ ℕ ℕ ℕ ℕ ℕ ℕ ℕ ℕ ℕ ℕ (in_form counting_all) (in_part counting_all) (in_init counting_all) (in_spec counting_all) (in_statement_form counting_all) (in_decl counting_all) (in_declared counting_all) (in_param counting_all) (in_type_name counting_all) (in_expr counting_all) (in_init_part counting_all) (in_enumerator counting_all) (in_field_decl counting_all) (in_field_name counting_all) (in_stmt counting_all) (If test close one None) ∙ omega arith
clause (If test close one (Some other)) = fold-roll-StmtForm ℕ ℕ ℕ ℕ ℕ ℕ ℕ ℕ ℕ ℕ ℕ ℕ ℕ ℕ ℕ (in_form counting_all) (in_part counting_all) (in_init counting_all) (in_spec counting_all) (in_statement_form counting_all) (in_decl counting_all) (in_declared counting_all) (in_param counting_all) (in_type_name counting_all) (in_expr counting_all) (in_init_part counting_all) (in_enumerator counting_all) (in_field_decl counting_all) (in_field_name counting_all) (in_stmt counting_all) (If test close one (Some other)) ∙ omega arith
clause (While test close body) = fold-roll-StmtForm ℕ ℕ ℕ ℕ ℕ ℕ ℕ ℕ ℕ ℕ ℕ ℕ ℕ ℕ ℕ (in_form counting_all) (in_part counting_all) (in_init counting_all) (in_spec counting_all) (in_statement_form counting_all) (in_decl counting_all) (in_declared counting_all) (in_param counting_all) (in_type_name counting_all) (in_expr counting_all) (in_init_part counting_all) (in_enumerator counting_all) (in_field_decl counting_all) (in_field_name counting_all) (in_stmt counting_all) (While test close body) ∙ omega arith
clause (Do body test close) = fold-roll-StmtForm ℕ ℕ ℕ ℕ ℕ ℕ ℕ ℕ ℕ ℕ ℕ ℕ ℕ ℕ ℕ (in_form counting_all) (in_part counting_all) (in_init counting_all) (in_spec counting_all) (in_statement_form counting_all) (in_decl counting_all) (in_declared counting_all) (in_param counting_all) (in_type_name counting_all) (in_expr counting_all) (in_init_part counting_all) (in_enumerator counting_all) (in_field_decl counting_all) (in_field_name counting_all) (in_stmt counting_all) (Do body test close) ∙ omega arith
clause (For first test semicolon next close body) = fold-roll-StmtForm ℕ ℕ ℕ ℕ ℕ ℕ ℕ ℕ ℕ ℕ ℕ ℕ ℕ ℕ ℕ (in_form counting_all) (in_part counting_all) (in_init counting_all) (in_spec counting_all) (in_statement_form counting_all) (in_decl counting_all) (in_declared counting_all) (in_param counting_all) (in_type_name counting_all) (in_expr counting_all) (in_init_part counting_all) (in_enumerator counting_all) (in_field_decl counting_all) (in_field_name counting_all) (in_stmt counting_all) (For first test semicolon next close body)
    ∙ (let condition = maybe_mapped test in
    let behind = maybe_mapped next in
    let all = weights-append (optional test) (optional next ++ AStmt body ∷ []) in
    let rest = weights-append (optional next) (AStmt body ∷ []) in
    omega (arith, condition, behind, all, rest))
clause Break = fold-roll-StmtForm ℕ ℕ ℕ ℕ ℕ ℕ ℕ ℕ ℕ ℕ ℕ ℕ ℕ ℕ ℕ (in_form counting_all) (in_part counting_all) (in_init counting_all) (in_spec counting_all) (in_statement_form counting_all) (in_decl counting_all) (in_declared counting_all) (in_param counting_all) (in_type_name counting_all) (in_expr counting_all) (in_init_part counting_all) (in_enumerator counting_all) (in_field_decl counting_all) (in_field_name counting_all) (in_stmt counting_all) Break
clause Continue = fold-roll-StmtForm ℕ ℕ ℕ ℕ ℕ ℕ ℕ ℕ ℕ ℕ ℕ ℕ ℕ ℕ ℕ (in_form counting_all) (in_part counting_all) (in_init counting_all) (in_spec counting_all) (in_statement_form counting_all) (in_decl counting_all) (in_declared counting_all) (in_param counting_all) (in_type_name counting_all) (in_expr counting_all) (in_init_part counting_all) (in_enumerator counting_all) (in_field_decl counting_all) (in_field_name counting_all) (in_stmt counting_all) Continue
clause (Return expr) = fold-roll-StmtForm ℕ ℕ ℕ ℕ ℕ ℕ ℕ ℕ ℕ ℕ ℕ ℕ ℕ ℕ ℕ (in_form counting_all) (in_part counting_all) (in_init counting_all) (in_spec counting_all) (in_statement_form counting_all) (in_decl counting_all) (in_declared counting_all) (in_param counting_all) (in_type_name counting_all) (in_expr counting_all) (in_init_part counting_all) (in_enumerator counting_all) (in_field_decl counting_all) (in_field_name counting_all) (in_stmt counting_all) (Return expr) ∙ maybe_mapped expr

-- the words of a type
member : (name : FieldName) → field_name_weight counting_all name ≡ weights (parts.in_member name)
member name = fold_out-FieldName ℕ ℕ ℕ ℕ ℕ ℕ ℕ ℕ ℕ ℕ ℕ ℕ ℕ ℕ ℕ (in_form counting_all) (in_part counting_all) (in_init counting_all) (in_spec counting_all) (in_statement_form counting_all) (in_decl counting_all) (in_declared counting_all) (in_param counting_all) (in_type_name counting_all) (in_expr counting_all) (in_init_part counting_all) (in_enumerator counting_all) (in_field_decl counting_all) (in_field_name counting_all) (in_stmt counting_all) name
    ∙ both (λ (ns : List ℕ) (n : ℕ). joined counting_all ns + n) _ _ _ _ (map_options or_nothing _ maybe_weight refl (λ e. refl) (out-FieldName name).sizes) (maybe_mapped (out-FieldName name).bits)
    ∙ (let sizes = sizes_of (out-FieldName name).sizes in
    let all = weights-append (in_sizes (out-FieldName name).sizes) (optional (out-FieldName name).bits) in
    omega (arith, sizes, all))

members : (d : FieldDecl) → field_decl_weight counting_all d ≡ weights (parts.in_members d)
members d = fold_out-FieldDecl ℕ ℕ ℕ ℕ ℕ ℕ ℕ ℕ ℕ ℕ ℕ ℕ ℕ ℕ ℕ (in_form counting_all) (in_part counting_all) (in_init counting_all) (in_spec counting_all) (in_statement_form counting_all) (in_decl counting_all) (in_declared counting_all) (in_param counting_all) (in_type_name counting_all) (in_expr counting_all) (in_init_part counting_all) (in_enumerator counting_all) (in_field_decl counting_all) (in_field_name counting_all) (in_stmt counting_all) d ∙ ap (λ (n : ℕ). spec_weight counting_all (out-FieldDecl d).spec + n) (each parts.in_member (field_name_weight counting_all) member (out-FieldDecl d).names)

enumerator : (value : Enumerator) → enumerator_weight counting_all value ≡ weights (optional (out-Enumerator value).value)
enumerator value = fold_out-Enumerator ℕ ℕ ℕ ℕ ℕ ℕ ℕ ℕ ℕ ℕ ℕ ℕ ℕ ℕ ℕ (in_form counting_all) (in_part counting_all) (in_init counting_all) (in_spec counting_all) (in_statement_form counting_all) (in_decl counting_all) (in_declared counting_all) (in_param counting_all) (in_type_name counting_all) (in_expr counting_all) (in_init_part counting_all) (in_enumerator counting_all) (in_field_decl counting_all) (in_field_name counting_all) (in_stmt counting_all) value ∙ maybe_mapped (out-Enumerator value).value

abbrev in_enumerator_of : Enumerator → List Node
in_enumerator_of value = optional (out-Enumerator value).value

words : (layer : Words) → spec_weight counting_all (roll-TypeSpec layer) ≡ 1 + weights (parts.in_words layer)
words (Basic basic) = fold-roll-TypeSpec ℕ ℕ ℕ ℕ ℕ ℕ ℕ ℕ ℕ ℕ ℕ ℕ ℕ ℕ ℕ (in_form counting_all) (in_part counting_all) (in_init counting_all) (in_spec counting_all) (in_statement_form counting_all) (in_decl counting_all) (in_declared counting_all) (in_param counting_all) (in_type_name counting_all) (in_expr counting_all) (in_init_part counting_all) (in_enumerator counting_all) (in_field_decl counting_all) (in_field_name counting_all) (in_stmt counting_all) (Basic basic)
words (Named name) = fold-roll-TypeSpec ℕ ℕ ℕ ℕ ℕ ℕ ℕ ℕ ℕ ℕ ℕ ℕ ℕ ℕ ℕ (in_form counting_all) (in_part counting_all) (in_init counting_all) (in_spec counting_all) (in_statement_form counting_all) (in_decl counting_all) (in_declared counting_all) (in_param counting_all) (in_type_name counting_all) (in_expr counting_all) (in_init_part counting_all) (in_enumerator counting_all) (in_field_decl counting_all) (in_field_name counting_all) (in_stmt counting_all) (Named name)
words (Struct name None) = fold-roll-TypeSpec ℕ ℕ ℕ ℕ ℕ ℕ ℕ ℕ ℕ ℕ ℕ ℕ ℕ ℕ ℕ (in_form counting_all) (in_part counting_all) (in_init counting_all) (in_spec counting_all) (in_statement_form counting_all) (in_decl counting_all) (in_declared counting_all) (in_param counting_all) (in_type_name counting_all) (in_expr counting_all) (in_init_part counting_all) (in_enumerator counting_all) (in_field_decl counting_all) (in_field_name counting_all) (in_stmt counting_all) (Struct name None)
words (Struct name (Some fields)) = fold-roll-TypeSpec ℕ ℕ ℕ ℕ ℕ ℕ ℕ ℕ ℕ ℕ ℕ ℕ ℕ ℕ ℕ (in_form counting_all) (in_part counting_all) (in_init counting_all) (in_spec counting_all) (in_statement_form counting_all) (in_decl counting_all) (in_declared counting_all) (in_param counting_all) (in_type_name counting_all) (in_expr counting_all) (in_init_part counting_all) (in_enumerator counting_all) (in_field_decl counting_all) (in_field_name counting_all) (in_stmt counting_all) (Struct name (Some fields)) ∙ ap (λ (n : ℕ). 1 + n) (each parts.in_members (field_decl_weight counting_all) members fields)
words (Enum name None) = fold-roll-TypeSpec ℕ ℕ ℕ ℕ ℕ ℕ ℕ ℕ ℕ ℕ ℕ ℕ ℕ ℕ ℕ (in_form counting_all) (in_part counting_all) (in_init counting_all) (in_spec counting_all) (in_statement_form counting_all) (in_decl counting_all) (in_declared counting_all) (in_param counting_all) (in_type_name counting_all) (in_expr counting_all) (in_init_part counting_all) (in_enumerator counting_all) (in_field_decl counting_all) (in_field_name counting_all) (in_stmt counting_all) (Enum name None)
words (Enum name (Some values)) = fold-roll-TypeSpec ℕ ℕ ℕ ℕ ℕ ℕ ℕ ℕ ℕ ℕ ℕ ℕ ℕ ℕ ℕ (in_form counting_all) (in_part counting_all) (in_init counting_all) (in_spec counting_all) (in_statement_form counting_all) (in_decl counting_all) (in_declared counting_all) (in_param counting_all) (in_type_name counting_all) (in_expr counting_all) (in_init_part counting_all) (in_enumerator counting_all) (in_field_decl counting_all) (in_field_name counting_all) (in_stmt counting_all) (Enum name (Some values)) ∙ ap (λ (n : ℕ). 1 + n) (each in_enumerator_of (enumerator_weight counting_all) enumerator values)
words (OfExpr expr) = fold-roll-TypeSpec ℕ ℕ ℕ ℕ ℕ ℕ ℕ ℕ ℕ ℕ ℕ ℕ ℕ ℕ ℕ (in_form counting_all) (in_part counting_all) (in_init counting_all) (in_spec counting_all) (in_statement_form counting_all) (in_decl counting_all) (in_declared counting_all) (in_param counting_all) (in_type_name counting_all) (in_expr counting_all) (in_init_part counting_all) (in_enumerator counting_all) (in_field_decl counting_all) (in_field_name counting_all) (in_stmt counting_all) (OfExpr expr) ∙ omega arith
words (OfType name) = fold-roll-TypeSpec ℕ ℕ ℕ ℕ ℕ ℕ ℕ ℕ ℕ ℕ ℕ ℕ ℕ ℕ ℕ (in_form counting_all) (in_part counting_all) (in_init counting_all) (in_spec counting_all) (in_statement_form counting_all) (in_decl counting_all) (in_declared counting_all) (in_param counting_all) (in_type_name counting_all) (in_expr counting_all) (in_init_part counting_all) (in_enumerator counting_all) (in_field_decl counting_all) (in_field_name counting_all) (in_stmt counting_all) (OfType name) ∙ ap (λ (n : ℕ). 1 + n) (type_name name)

-- an initialiser
part_of : (part : InitPart) → init_part_weight counting_all part ≡ init_weight counting_all (out-InitPart part).init
part_of part = fold_out-InitPart ℕ ℕ ℕ ℕ ℕ ℕ ℕ ℕ ℕ ℕ ℕ ℕ ℕ ℕ ℕ (in_form counting_all) (in_part counting_all) (in_init counting_all) (in_spec counting_all) (in_statement_form counting_all) (in_decl counting_all) (in_declared counting_all) (in_param counting_all) (in_type_name counting_all) (in_expr counting_all) (in_init_part counting_all) (in_enumerator counting_all) (in_field_decl counting_all) (in_field_name counting_all) (in_stmt counting_all) part

initialiser : (layer : Initialiser) → init_weight counting_all (roll-Init layer) ≡ 1 + weights (parts.in_initialiser layer)
initialiser (Value value after) = fold-roll-Init ℕ ℕ ℕ ℕ ℕ ℕ ℕ ℕ ℕ ℕ ℕ ℕ ℕ ℕ ℕ (in_form counting_all) (in_part counting_all) (in_init counting_all) (in_spec counting_all) (in_statement_form counting_all) (in_decl counting_all) (in_declared counting_all) (in_param counting_all) (in_type_name counting_all) (in_expr counting_all) (in_init_part counting_all) (in_enumerator counting_all) (in_field_decl counting_all) (in_field_name counting_all) (in_stmt counting_all) (Value value after) ∙ omega arith
initialiser (Braces items) = fold-roll-Init ℕ ℕ ℕ ℕ ℕ ℕ ℕ ℕ ℕ ℕ ℕ ℕ ℕ ℕ ℕ (in_form counting_all) (in_part counting_all) (in_init counting_all) (in_spec counting_all) (in_statement_form counting_all) (in_decl counting_all) (in_declared counting_all) (in_param counting_all) (in_type_name counting_all) (in_expr counting_all) (in_init_part counting_all) (in_enumerator counting_all) (in_field_decl counting_all) (in_field_name counting_all) (in_stmt counting_all) (Braces items) ∙ ap (λ (n : ℕ). 1 + n) (each_one (λ part. AnInit (out-InitPart part).init) (init_part_weight counting_all) part_of items)

-- each part, and each item
pub one_more : (node : Node) → weight node ≡ 1 + weights (in_node node)
one_more (AnExpr expr) = fold_out-Expr ℕ ℕ ℕ ℕ ℕ ℕ ℕ ℕ ℕ ℕ ℕ ℕ ℕ ℕ ℕ (in_form counting_all) (in_part counting_all) (in_init counting_all) (in_spec counting_all) (in_statement_form counting_all) (in_decl counting_all) (in_declared counting_all) (in_param counting_all) (in_type_name counting_all) (in_expr counting_all) (in_init_part counting_all) (in_enumerator counting_all) (in_field_decl counting_all) (in_field_name counting_all) (in_stmt counting_all) expr
    ∙ ap (λ (n : ℕ). 1 + n) (ap (form_weight counting_all) (sym (roll-out-ExprForm expr.form)) ∙ form (out-ExprForm expr.form))
one_more (AStmt stmt) = fold_out-Stmt ℕ ℕ ℕ ℕ ℕ ℕ ℕ ℕ ℕ ℕ ℕ ℕ ℕ ℕ ℕ (in_form counting_all) (in_part counting_all) (in_init counting_all) (in_spec counting_all) (in_statement_form counting_all) (in_decl counting_all) (in_declared counting_all) (in_param counting_all) (in_type_name counting_all) (in_expr counting_all) (in_init_part counting_all) (in_enumerator counting_all) (in_field_decl counting_all) (in_field_name counting_all) (in_stmt counting_all) stmt
    ∙ ap (λ (n : ℕ). 1 + n) (ap (statement_form_weight counting_all) (sym (roll-out-StmtForm stmt.form)) ∙ clause (out-StmtForm stmt.form))
one_more (SomeWords spec) = ap (spec_weight counting_all) (sym (roll-out-TypeSpec spec)) ∙ words (out-TypeSpec spec)
one_more (AnInit init) = ap (init_weight counting_all) (sym (roll-out-Init init)) ∙ initialiser (out-Init init)

pub item_weighs : (item : Item) → nodes_of item ≡ weights (in_item item)
item_weighs Empty = refl
item_weighs (DeclareItem d) = decl d
item_weighs (Function spec storage head body close) =
    let name = declared head in
    let statements = stmts body in
    let all = weights-append (in_name head) (map AStmt body) in
    omega (arith, name, statements, all)
