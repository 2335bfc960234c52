-- What lies in an initialiser has fewer levels than it.
use Rattle.std.proofs.Common.{◌≡◌, ◌<◌, ◌≤◌, ◌+◌, ◌-◌, ◌∙◌, ℕ, zero, suc, arith, ap, sym, map, take, drop, get_or, length, length-drop, List, [], ◌∷◌}
use Rattle.std.proofs.lemmas.List.{take_all}
use Rattle.cbase.specs.declared.place.Place.{Place}
use Rattle.cbase.specs.declared.tree.expr.Expr.{Expr}
use Rattle.cbase.specs.declared.tree.expr.ExprForm.TheFolds.{fold-roll-Init, fold_out-Expr, fold_out-InitPart}
use Rattle.cbase.specs.declared.tree.expr.ExprForm.TheOpen as layer
use Rattle.cbase.specs.declared.tree.expr.ExprForm.TheViews.{out-InitPart}
use Rattle.cbase.specs.declared.tree.init.Init.{Init}
use Rattle.cbase.specs.declared.tree.init.Init.TheVariants.{Value, Braces, rolls-Value, rolls-Braces}
use Rattle.cbase.specs.declared.tree.init.InitPart.{InitPart}
use Rattle.ctrees.specs.Levels.{depth, expr_levels, form_levels, init_levels, init_part_levels}
use Rattle.ctrees.specs.Weight.{joined, in_form, in_part, in_init, in_spec, in_statement_form, in_decl, in_declared, in_param, in_type_name, in_expr, in_init_part, in_field_decl, in_field_name, in_enumerator, in_stmt}
use Rattle.expressions.proofs.Levels.{each_within}
use Rattle.expressions.proofs.Loops.{next_item}

pub value_levels : (value : Expr) (after : Place) → init_levels (Value value after) ≡ 1 + expr_levels value
value_levels value after = ap init_levels (sym (rolls-Value value after)) ∙ fold-roll-Init ℕ ℕ ℕ ℕ ℕ ℕ ℕ ℕ ℕ ℕ ℕ ℕ ℕ ℕ ℕ (in_form depth) (in_part depth) (in_init depth) (in_spec depth) (in_statement_form depth) (in_decl depth) (in_declared depth) (in_param depth) (in_type_name depth) (in_expr depth) (in_init_part depth) (in_enumerator depth) (in_field_decl depth) (in_field_name depth) (in_stmt depth) (layer.Value value after)

pub braces_levels : (parts : List InitPart) → init_levels (Braces parts) ≡ 1 + joined depth (map init_part_levels parts)
braces_levels parts = ap init_levels (sym (rolls-Braces parts)) ∙ fold-roll-Init ℕ ℕ ℕ ℕ ℕ ℕ ℕ ℕ ℕ ℕ ℕ ℕ ℕ ℕ ℕ (in_form depth) (in_part depth) (in_init depth) (in_spec depth) (in_statement_form depth) (in_decl depth) (in_declared depth) (in_param depth) (in_type_name depth) (in_expr depth) (in_init_part depth) (in_enumerator depth) (in_field_decl depth) (in_field_name depth) (in_stmt depth) (layer.Braces parts)

pub levels_of_part : (part : InitPart) → init_part_levels part ≡ init_levels (out-InitPart part).init
levels_of_part part = fold_out-InitPart ℕ ℕ ℕ ℕ ℕ ℕ ℕ ℕ ℕ ℕ ℕ ℕ ℕ ℕ ℕ (in_form depth) (in_part depth) (in_init depth) (in_spec depth) (in_statement_form depth) (in_decl depth) (in_declared depth) (in_param depth) (in_type_name depth) (in_expr depth) (in_init_part depth) (in_enumerator depth) (in_field_decl depth) (in_field_name depth) (in_stmt depth) part

pub levels_of_expr : (expr : Expr) → expr_levels expr ≡ 1 + form_levels expr.form
levels_of_expr expr = fold_out-Expr ℕ ℕ ℕ ℕ ℕ ℕ ℕ ℕ ℕ ℕ ℕ ℕ ℕ ℕ ℕ (in_form depth) (in_part depth) (in_init depth) (in_spec depth) (in_statement_form depth) (in_decl depth) (in_declared depth) (in_param depth) (in_type_name depth) (in_expr depth) (in_init_part depth) (in_enumerator depth) (in_field_decl depth) (in_field_name depth) (in_stmt depth) expr

-- a value, and the parts in braces, as code reads them
pub value_within : (init : Init) (value : Expr) (after : Place) (bound : ℕ) → init ≡ Value value after → init_levels init ≤ bound + 1 → expr_levels value ≤ bound
value_within init value after bound is deep = omega (arith, ap init_levels is, value_levels value after, deep)

pub parts_within : (init : Init) (parts items : List InitPart) (bound : ℕ) → init ≡ Braces parts → items ≡ parts → init_levels init ≤ bound + 1
    → joined depth (map init_part_levels items) ≤ bound
parts_within init parts items bound is same deep =
    omega (arith, ap init_levels is, braces_levels parts, deep, ap (λ (these : List InitPart). joined depth (map init_part_levels these)) same)

-- the initialiser of a part, and the parts from one on
pub init_within : (parts : List InitPart) (index : ℕ) (part : InitPart) (bound : ℕ) → index < length parts → part ≡ get_or parts index part
    → joined depth (map init_part_levels parts) ≤ bound → init_levels (out-InitPart part).init ≤ bound
init_within parts index part bound within is deep =
    let there : init_part_levels (get_or parts index part) ≤ bound = each_within init_part_levels bound parts deep index part within in
    omega (arith, levels_of_part part, ap init_part_levels is, there)

behind_within : (parts : List InitPart) (index : ℕ) → joined depth (map init_part_levels (drop index parts)) ≤ joined depth (map init_part_levels parts)
behind_within parts zero = omega arith
behind_within [] (suc index) = omega arith
behind_within (part ∷ parts) (suc index) =
    let further : joined depth (map init_part_levels (drop index parts)) ≤ joined depth (map init_part_levels parts) = behind_within parts index in
    omega (arith, further)

pub from_one_on : (parts : List InitPart) (index : ℕ) → take (length parts - index) (drop index parts) ≡ drop index parts
from_one_on parts index = take_all (length parts - index) (drop index parts) (omega (arith, length-drop index parts))

pub all_within : (parts : List InitPart) (index bound : ℕ) → joined depth (map init_part_levels parts) ≤ bound
    → joined depth (map init_part_levels (take (length parts - index) (drop index parts))) ≤ bound
all_within parts index bound deep =
    omega (arith, ap (λ (these : List InitPart). joined depth (map init_part_levels these)) (from_one_on parts index), behind_within parts index, deep)

-- and behind it
pub rest_within : (parts : List InitPart) (index : ℕ) (part : InitPart) (bound : ℕ) → index < length parts → part ≡ get_or parts index part
    → joined depth (map init_part_levels (drop index parts)) ≤ bound → joined depth (map init_part_levels (drop (index + 1) parts)) ≤ bound
rest_within parts index part bound within is deep =
    omega (arith, ap (λ (these : List InitPart). joined depth (map init_part_levels these)) (next_item parts index part within is), deep)
