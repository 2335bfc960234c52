-- What lies in a declaration has no more levels than the declaration.
use Rattle.std.proofs.Common.{◌≡◌, ◌≤◌, ℕ, arith, ap, map, List, Option, Some}
use Rattle.std.specs.Prelude.{All, max, option_map}
use Rattle.cbase.specs.declared.tree.decl.Decl.{Decl}
use Rattle.cbase.specs.declared.tree.decl.Declared.{Declared}
use Rattle.cbase.specs.declared.tree.expr.Expr.{Expr}
use Rattle.cbase.specs.declared.tree.expr.ExprForm.TheFolds.{fold_out-Decl}
use Rattle.cbase.specs.declared.tree.expr.ExprForm.TheViews.{out-Decl, out-Declared}
use Rattle.cbase.specs.declared.tree.init.Init.{Init}
use Rattle.ctrees.specs.Levels.{depth, decl_levels, declared_levels, init_levels, maybe_levels, param_levels, spec_levels}
use Rattle.ctrees.specs.Weight.{joined, list_or_nothing, or_nothing, in_form, in_part, in_init, in_spec, in_statement_form, in_decl, in_declared, in_param, in_type_name, in_expr, in_init_part, in_field_decl, in_field_name, in_enumerator, in_stmt}
use Rattle.ctrees.proofs.Sizes.{declared_levels_parts}
use Rattle.expressions.proofs.Levels.{each_within}

decl_levels_parts : (decl : Decl) → decl_levels decl ≡ max (spec_levels (out-Decl decl).spec) (joined depth (map declared_levels (out-Decl decl).names))
decl_levels_parts decl = fold_out-Decl ℕ ℕ ℕ ℕ ℕ ℕ ℕ ℕ ℕ ℕ ℕ ℕ ℕ ℕ ℕ (in_form depth) (in_part depth) (in_init depth) (in_spec depth) (in_statement_form depth) (in_decl depth) (in_declared depth) (in_param depth) (in_type_name depth) (in_expr depth) (in_init_part depth) (in_enumerator depth) (in_field_decl depth) (in_field_name depth) (in_stmt depth) decl

pub words_within : (decl : Decl) (bound : ℕ) → decl_levels decl ≤ bound → spec_levels (out-Decl decl).spec ≤ bound
words_within decl bound deep = omega (arith, decl_levels_parts decl)

pub names_within : (decl : Decl) (names : List Declared) (bound : ℕ) → names ≡ (out-Decl decl).names → decl_levels decl ≤ bound → All (λ name. declared_levels name ≤ bound) names
names_within decl names bound same deep =
    let levels : decl_levels decl ≡ max (spec_levels (out-Decl decl).spec) (joined depth (map declared_levels (out-Decl decl).names)) = decl_levels_parts decl in
    let alike : joined depth (map declared_levels names) ≡ joined depth (map declared_levels (out-Decl decl).names) = ap (λ (these : List Declared). joined depth (map declared_levels these)) same in
    each_within declared_levels bound names (omega arith)

-- its sizes, and its initialiser
abbrev parts_levels : Declared → ℕ
parts_levels name = max (joined depth (map maybe_levels (out-Declared name).sizes))
    (max (list_or_nothing depth (option_map (map param_levels) (out-Declared name).params)) (or_nothing (option_map init_levels (out-Declared name).init)))

pub sizes_within : (name : Declared) (sizes : List (Option Expr)) (bound : ℕ) → sizes ≡ (out-Declared name).sizes → declared_levels name ≤ bound → All (λ size. maybe_levels size ≤ bound) sizes
sizes_within name sizes bound same deep =
    let levels : declared_levels name ≡ parts_levels name = declared_levels_parts name in
    let alike : joined depth (map maybe_levels sizes) ≡ joined depth (map maybe_levels (out-Declared name).sizes) = ap (λ (these : List (Option Expr)). joined depth (map maybe_levels these)) same in
    each_within maybe_levels bound sizes (omega arith)

pub init_within : (name : Declared) (init : Init) (bound : ℕ) → (out-Declared name).init ≡ Some init → declared_levels name ≤ bound → init_levels init ≤ bound
init_within name init bound some deep =
    let levels : declared_levels name ≡ parts_levels name = declared_levels_parts name in
    let there : or_nothing (option_map init_levels (out-Declared name).init) ≡ init_levels init = ap (λ (there : Option Init). or_nothing (option_map init_levels there)) some in
    omega arith
