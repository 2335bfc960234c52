-- Trees whose names have array sizes behind them: what they weigh, from their parts.
use Rattle.std.proofs.Common.{◌≡◌, ℕ, ◌+◌, map, refl, ap, List, [], ◌∷◌, ◌∙◌, Option, Some, None}
use Rattle.std.specs.Prelude.{option_map, max}
use Rattle.cbase.specs.declared.tree.expr.Expr.{Expr}
use Rattle.cbase.specs.declared.tree.expr.ExprForm.TheViews.{out-Param, out-TypeName, out-FieldName, out-Declared}
use Rattle.cbase.specs.declared.tree.expr.ExprForm.TheShapes.{former-StmtForm-Eval-0, former-Declared-params, former-Declared-init}
use Rattle.cbase.specs.declared.tree.expr.ExprForm.TheFolds.{fold_out-Param, fold_out-TypeName, fold_out-FieldName, fold_out-Declared}
use Rattle.cbase.specs.declared.tree.decl.Param.{Param}
use Rattle.cbase.specs.declared.tree.init.Init.{Init}
use Rattle.cbase.specs.declared.tree.decl.TypeName.{TypeName}
use Rattle.cbase.specs.declared.tree.spec.FieldName.{FieldName}
use Rattle.cbase.specs.declared.tree.decl.Declared.{Declared}
use Rattle.ctrees.specs.Weight.{Weight, joined, or_nothing, list_or_nothing, init_weight, spec_weight, declared_weight, param_weight, type_name_weight, expr_weight, field_name_weight, in_form, in_part, in_init, in_spec, in_statement_form, in_decl, in_declared, in_param, in_type_name, in_expr, in_init_part, in_enumerator, in_field_decl, in_field_name, in_stmt}
use Rattle.ctrees.specs.Levels.{depth, param_levels, type_name_levels, field_name_levels, declared_levels, spec_levels, init_levels, maybe_levels}
use Rattle.ctrees.specs.Expressions.{counted, param_expressions, type_name_expressions, field_name_expressions, declared_expressions, spec_expressions, init_expressions, maybe_expressions}

-- a function of each option of a list, by the two cases
pub map_options : {A B C : Type 0} (h : B → C) (f : Option A → B) (g : Option A → C) → h (f None) ≡ g None → ((a : A) → h (f (Some a)) ≡ g (Some a)) → (xs : List (Option A)) → map h (map f xs) ≡ map g xs
map_options h f g none some [] = refl
map_options h f g none some (None ∷ xs) = λ i. none i ∷ map_options h f g none some xs i
map_options h f g none some (Some x ∷ xs) = λ i. some x i ∷ map_options h f g none some xs i

-- a function of an option, by its two cases
pub option_cases : {A B C : Type 0} (h : B → C) (f : Option A → B) (g : Option A → C) → h (f None) ≡ g None → ((a : A) → h (f (Some a)) ≡ g (Some a)) → (o : Option A) → h (f o) ≡ g o
option_cases h f g none some None = none
option_cases h f g none some (Some x) = some x

-- a function of two arguments, each of which is another's equal
pub both : {A B C : Type 0} (f : A → B → C) (a c : A) (b d : B) → a ≡ c → b ≡ d → f a b ≡ f c d
both f a c b d p q = λ i. f (p i) (q i)

abbrev maybe_weight : Weight → Option Expr → ℕ
maybe_weight w expr = or_nothing (option_map (expr_weight w) expr)

param_weight-out : (w : Weight) (p : Param) → param_weight w p ≡ w.join (spec_weight w (out-Param p).spec) (joined w (map (maybe_weight w) (out-Param p).sizes))
param_weight-out w p = fold_out-Param ℕ ℕ ℕ ℕ ℕ ℕ ℕ ℕ ℕ ℕ ℕ ℕ ℕ ℕ ℕ (in_form w) (in_part w) (in_init w) (in_spec w) (in_statement_form w) (in_decl w) (in_declared w) (in_param w) (in_type_name w) (in_expr w) (in_init_part w) (in_enumerator w) (in_field_decl w) (in_field_name w) (in_stmt w) p ∙ ap (λ (ns : List ℕ). w.join (spec_weight w (out-Param p).spec) (joined w ns)) (map_options or_nothing _ (maybe_weight w) refl (λ e. refl) (out-Param p).sizes)

type_name_weight-out : (w : Weight) (p : TypeName) → type_name_weight w p ≡ w.join (spec_weight w (out-TypeName p).spec) (joined w (map (maybe_weight w) (out-TypeName p).sizes))
type_name_weight-out w p = fold_out-TypeName ℕ ℕ ℕ ℕ ℕ ℕ ℕ ℕ ℕ ℕ ℕ ℕ ℕ ℕ ℕ (in_form w) (in_part w) (in_init w) (in_spec w) (in_statement_form w) (in_decl w) (in_declared w) (in_param w) (in_type_name w) (in_expr w) (in_init_part w) (in_enumerator w) (in_field_decl w) (in_field_name w) (in_stmt w) p ∙ ap (λ (ns : List ℕ). w.join (spec_weight w (out-TypeName p).spec) (joined w ns)) (map_options or_nothing _ (maybe_weight w) refl (λ e. refl) (out-TypeName p).sizes)

field_name_weight-out : (w : Weight) (p : FieldName) → field_name_weight w p ≡ w.join (joined w (map (maybe_weight w) (out-FieldName p).sizes)) (maybe_weight w (out-FieldName p).bits)
field_name_weight-out w p = fold_out-FieldName ℕ ℕ ℕ ℕ ℕ ℕ ℕ ℕ ℕ ℕ ℕ ℕ ℕ ℕ ℕ (in_form w) (in_part w) (in_init w) (in_spec w) (in_statement_form w) (in_decl w) (in_declared w) (in_param w) (in_type_name w) (in_expr w) (in_init_part w) (in_enumerator w) (in_field_decl w) (in_field_name w) (in_stmt w) p ∙ both (λ (ns : List ℕ) (b : ℕ). w.join (joined w ns) b) _ _ _ _ (map_options or_nothing _ (maybe_weight w) refl (λ e. refl) (out-FieldName p).sizes) (option_cases or_nothing (former-StmtForm-Eval-0.map Expr ℕ (expr_weight w)) (maybe_weight w) refl (λ e. refl) (out-FieldName p).bits)

declared_weight-out : (w : Weight) (p : Declared) → declared_weight w p ≡ w.join (joined w (map (maybe_weight w) (out-Declared p).sizes)) (w.join (list_or_nothing w (option_map (map (param_weight w)) (out-Declared p).params)) (or_nothing (option_map (init_weight w) (out-Declared p).init)))
declared_weight-out w p = fold_out-Declared ℕ ℕ ℕ ℕ ℕ ℕ ℕ ℕ ℕ ℕ ℕ ℕ ℕ ℕ ℕ (in_form w) (in_part w) (in_init w) (in_spec w) (in_statement_form w) (in_decl w) (in_declared w) (in_param w) (in_type_name w) (in_expr w) (in_init_part w) (in_enumerator w) (in_field_decl w) (in_field_name w) (in_stmt w) p ∙ both (λ (ns : List ℕ) (b : ℕ). w.join (joined w ns) b) _ _ _ _ (map_options or_nothing _ (maybe_weight w) refl (λ e. refl) (out-Declared p).sizes) (both w.join _ _ _ _ (option_cases (list_or_nothing w) (former-Declared-params.map Param ℕ (param_weight w)) (λ ps. list_or_nothing w (option_map (map (param_weight w)) ps)) refl (λ ps. refl) (out-Declared p).params) (option_cases or_nothing (former-Declared-init.map Init ℕ (init_weight w)) (λ v. or_nothing (option_map (init_weight w) v)) refl (λ v. refl) (out-Declared p).init))

pub param_levels_parts : (p : Param) → param_levels p ≡ max (spec_levels (out-Param p).spec) (joined depth (map maybe_levels (out-Param p).sizes))
param_levels_parts p = param_weight-out depth p

pub type_name_levels_parts : (p : TypeName) → type_name_levels p ≡ max (spec_levels (out-TypeName p).spec) (joined depth (map maybe_levels (out-TypeName p).sizes))
type_name_levels_parts p = type_name_weight-out depth p

pub field_name_levels_parts : (p : FieldName) → field_name_levels p ≡ max (joined depth (map maybe_levels (out-FieldName p).sizes)) (maybe_levels (out-FieldName p).bits)
field_name_levels_parts p = field_name_weight-out depth p

pub declared_levels_parts : (p : Declared) → declared_levels p ≡ max (joined depth (map maybe_levels (out-Declared p).sizes)) (max (list_or_nothing depth (option_map (map param_levels) (out-Declared p).params)) (or_nothing (option_map init_levels (out-Declared p).init)))
declared_levels_parts p = declared_weight-out depth p

pub param_expressions_parts : (p : Param) → param_expressions p ≡ ◌+◌ (spec_expressions (out-Param p).spec) (joined counted (map maybe_expressions (out-Param p).sizes))
param_expressions_parts p = param_weight-out counted p

pub type_name_expressions_parts : (p : TypeName) → type_name_expressions p ≡ ◌+◌ (spec_expressions (out-TypeName p).spec) (joined counted (map maybe_expressions (out-TypeName p).sizes))
type_name_expressions_parts p = type_name_weight-out counted p

pub field_name_expressions_parts : (p : FieldName) → field_name_expressions p ≡ ◌+◌ (joined counted (map maybe_expressions (out-FieldName p).sizes)) (maybe_expressions (out-FieldName p).bits)
field_name_expressions_parts p = field_name_weight-out counted p

pub declared_expressions_parts : (p : Declared) → declared_expressions p ≡ ◌+◌ (joined counted (map maybe_expressions (out-Declared p).sizes)) (◌+◌ (list_or_nothing counted (option_map (map param_expressions) (out-Declared p).params)) (or_nothing (option_map init_expressions (out-Declared p).init)))
declared_expressions_parts p = declared_weight-out counted p
