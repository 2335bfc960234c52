-- What lies in the braces of a struct or of an enum has fewer levels than its words.
use Rattle.std.proofs.Common.{◌≡◌, ◌≤◌, ◌+◌, ◌∙◌, ℕ, arith, ap, sym, refl, map, List, Option, Some}
use Rattle.std.specs.Prelude.{All, max}
use Rattle.cbase.specs.declared.tree.expr.Expr.{Expr}
use Rattle.cbase.specs.declared.tree.expr.ExprForm.TheFolds.{fold-roll-TypeSpec, fold_out-FieldDecl, fold_out-Enumerator}
use Rattle.cbase.specs.declared.tree.expr.ExprForm.TheOpen as layer
use Rattle.cbase.specs.declared.tree.expr.ExprForm.TheShapes.{former-StmtForm-Eval-0}
use Rattle.cbase.specs.declared.tree.expr.ExprForm.TheViews.{out-FieldDecl, out-FieldName, out-Enumerator}
use Rattle.cbase.specs.declared.tree.identifier.Identifier.{Identifier}
use Rattle.cbase.specs.declared.tree.spec.Enumerator.{Enumerator}
use Rattle.cbase.specs.declared.tree.spec.FieldDecl.{FieldDecl}
use Rattle.cbase.specs.declared.tree.spec.FieldName.{FieldName}
use Rattle.cbase.specs.declared.tree.spec.TypeSpec.TheVariants.{Struct, Enum, rolls-Struct, rolls-Enum}
use Rattle.ctrees.specs.Levels.{depth, expr_levels, spec_levels, field_decl_levels, field_name_levels, enumerator_levels, maybe_levels}
use Rattle.ctrees.specs.Weight.{joined, or_nothing, in_form, in_part, in_init, in_spec, in_statement_form, in_decl, in_declared, in_param, in_type_name, in_expr, in_init_part, in_field_decl, in_field_name, in_enumerator, in_stmt}
use Rattle.ctrees.proofs.Sizes.{option_cases, field_name_levels_parts}
use Rattle.expressions.proofs.Levels.{each_within}

struct_levels : (name : Option Identifier) (fields : List FieldDecl) → spec_levels (Struct name (Some fields)) ≡ 1 + joined depth (map field_decl_levels fields)
struct_levels name fields = ap spec_levels (sym (rolls-Struct name (Some fields))) ∙ fold-roll-TypeSpec ℕ ℕ ℕ ℕ ℕ ℕ ℕ ℕ ℕ ℕ ℕ ℕ ℕ ℕ ℕ (in_form depth) (in_part depth) (in_init depth) (in_spec depth) (in_statement_form depth) (in_decl depth) (in_declared depth) (in_param depth) (in_type_name depth) (in_expr depth) (in_init_part depth) (in_enumerator depth) (in_field_decl depth) (in_field_name depth) (in_stmt depth) (layer.Struct name (Some fields))

enum_levels : (name : Option Identifier) (values : List Enumerator) → spec_levels (Enum name (Some values)) ≡ 1 + joined depth (map enumerator_levels values)
enum_levels name values = ap spec_levels (sym (rolls-Enum name (Some values))) ∙ fold-roll-TypeSpec ℕ ℕ ℕ ℕ ℕ ℕ ℕ ℕ ℕ ℕ ℕ ℕ ℕ ℕ ℕ (in_form depth) (in_part depth) (in_init depth) (in_spec depth) (in_statement_form depth) (in_decl depth) (in_declared depth) (in_param depth) (in_type_name depth) (in_expr depth) (in_init_part depth) (in_enumerator depth) (in_field_decl depth) (in_field_name depth) (in_stmt depth) (layer.Enum name (Some values))

declaration_levels : (field : FieldDecl) → field_decl_levels field ≡ max (spec_levels (out-FieldDecl field).spec) (joined depth (map field_name_levels (out-FieldDecl field).names))
declaration_levels field = fold_out-FieldDecl ℕ ℕ ℕ ℕ ℕ ℕ ℕ ℕ ℕ ℕ ℕ ℕ ℕ ℕ ℕ (in_form depth) (in_part depth) (in_init depth) (in_spec depth) (in_statement_form depth) (in_decl depth) (in_declared depth) (in_param depth) (in_type_name depth) (in_expr depth) (in_init_part depth) (in_enumerator depth) (in_field_decl depth) (in_field_name depth) (in_stmt depth) field

constant_levels : (constant : Enumerator) → enumerator_levels constant ≡ maybe_levels (out-Enumerator constant).value
constant_levels constant = fold_out-Enumerator ℕ ℕ ℕ ℕ ℕ ℕ ℕ ℕ ℕ ℕ ℕ ℕ ℕ ℕ ℕ (in_form depth) (in_part depth) (in_init depth) (in_spec depth) (in_statement_form depth) (in_decl depth) (in_declared depth) (in_param depth) (in_type_name depth) (in_expr depth) (in_init_part depth) (in_enumerator depth) (in_field_decl depth) (in_field_name depth) (in_stmt depth) constant ∙ option_cases or_nothing (former-StmtForm-Eval-0.map Expr ℕ expr_levels) maybe_levels refl (λ e. refl) (out-Enumerator constant).value

-- the declarations of a struct, as code reads them
pub fields_within : (name : Option Identifier) (fields items : List FieldDecl) (bound : ℕ) → items ≡ fields → spec_levels (Struct name (Some fields)) ≤ bound + 1 → All (λ field. field_decl_levels field ≤ bound) items
fields_within name fields items bound same deep =
    let levels : spec_levels (Struct name (Some fields)) ≡ 1 + joined depth (map field_decl_levels fields) = struct_levels name fields in
    let alike : joined depth (map field_decl_levels items) ≡ joined depth (map field_decl_levels fields) = ap (λ (these : List FieldDecl). joined depth (map field_decl_levels these)) same in
    each_within field_decl_levels bound items (omega arith)

-- the words of a declaration, and its names
pub words_within : (field : FieldDecl) (bound : ℕ) → field_decl_levels field ≤ bound → spec_levels (out-FieldDecl field).spec ≤ bound
words_within field bound deep = omega (arith, declaration_levels field)

pub names_within : (field : FieldDecl) (names : List FieldName) (bound : ℕ) → names ≡ (out-FieldDecl field).names → field_decl_levels field ≤ bound → All (λ name. field_name_levels name ≤ bound) names
names_within field names bound same deep =
    let levels : field_decl_levels field ≡ max (spec_levels (out-FieldDecl field).spec) (joined depth (map field_name_levels (out-FieldDecl field).names)) = declaration_levels field in
    let alike : joined depth (map field_name_levels names) ≡ joined depth (map field_name_levels (out-FieldDecl field).names) = ap (λ (these : List FieldName). joined depth (map field_name_levels these)) same in
    each_within field_name_levels bound names (omega arith)

-- the sizes of a member, and its width
pub member_sizes_within : (name : FieldName) (sizes : List (Option Expr)) (bound : ℕ) → sizes ≡ (out-FieldName name).sizes → field_name_levels name ≤ bound → All (λ size. maybe_levels size ≤ bound) sizes
member_sizes_within name sizes bound same deep =
    let levels : field_name_levels name ≡ max (joined depth (map maybe_levels (out-FieldName name).sizes)) (maybe_levels (out-FieldName name).bits) = field_name_levels_parts name in
    let alike : joined depth (map maybe_levels sizes) ≡ joined depth (map maybe_levels (out-FieldName name).sizes) = ap (λ (these : List (Option Expr)). joined depth (map maybe_levels these)) same in
    each_within maybe_levels bound sizes (omega arith)

pub width_within : (name : FieldName) (bound : ℕ) → field_name_levels name ≤ bound → maybe_levels (out-FieldName name).bits ≤ bound
width_within name bound deep = omega (arith, field_name_levels_parts name)

-- the constants of an enum, and the value of one
pub values_within : (name : Option Identifier) (values items : List Enumerator) (bound : ℕ) → items ≡ values → spec_levels (Enum name (Some values)) ≤ bound + 1 → All (λ value. enumerator_levels value ≤ bound) items
values_within name values items bound same deep =
    let levels : spec_levels (Enum name (Some values)) ≡ 1 + joined depth (map enumerator_levels values) = enum_levels name values in
    let alike : joined depth (map enumerator_levels items) ≡ joined depth (map enumerator_levels values) = ap (λ (these : List Enumerator). joined depth (map enumerator_levels these)) same in
    each_within enumerator_levels bound items (omega arith)

pub value_within : (constant : Enumerator) (bound : ℕ) → enumerator_levels constant ≤ bound → maybe_levels (out-Enumerator constant).value ≤ bound
value_within constant bound deep = omega (arith, constant_levels constant)
