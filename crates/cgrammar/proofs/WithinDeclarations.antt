-- What the readers of types, declarations and statements give leaves no more tokens than the row that they were given has.
use Rattle.std.proofs.Common.{ℕ, zero, suc, ◌+◌, ◌≤◌, Bool, true, false, List, [], ◌∷◌, length, codes, map, take, drop, Option, None, Some}
use Rattle.std.specs.Prelude.{if◌then◌else◌, is_some}
use Rattle.std.specs.List.{list_all, prefix_len}
use Rattle.cbase.specs.declared.place.Place.{Place}
use Rattle.cbase.specs.declared.tree.decl.Storage.{Storage}
use Rattle.cbase.specs.declared.tree.expr.Expr.{Expr}
use Rattle.cbase.specs.declared.tree.identifier.Identifier.{Identifier}
use Rattle.cbase.specs.declared.tree.spec.BasicType.{BasicType}
use Rattle.cbase.specs.declared.tree.spec.TypeSpec.{TypeSpec}
use Rattle.cbase.specs.declared.tree.spec.TypeSpec.TheVariants.{Struct, Enum}
use Rattle.cbase.specs.declared.tree.stmt.Stmt.{Stmt}
use Rattle.cgrammar.specs.Firsts.{begins_type, begins_declaration}
use Rattle.cgrammar.specs.FrontReadings.{is_basic_word, begins_with_label}
use Rattle.cgrammar.specs.Grammar.{inside, declaring}
use Rattle.cgrammar.specs.Outcomes.{Reader, has_first, has_mark, behind_first}
use Rattle.cgrammar.specs.Phrases.{Context}
use Rattle.cgrammar.specs.ReadDeclarations.{storage_at, storage_behind, specifiers_with, read_specifiers, parameter_behind, read_parameter, is_void_alone, read_parameters, object_behind, read_declarator, read_declaration, read_part, in_braces, read_initializer}
use Rattle.cgrammar.specs.ReadLevels.{Level, read_list, read_until_brace}
use Rattle.cgrammar.specs.ReadStarts.{type_start, statement_start}
use Rattle.cgrammar.specs.ReadStatements.{read_block, read_maybe, declared_statement, expression_statement, read_clause, untyped, substatement, otherwise_behind, read_if, read_while, read_do, read_for, read_return, statement_with, read_unlabeled, read_statement, read_item}
use Rattle.cgrammar.specs.ReadTypes.{star_count, behind_stars, size_behind, read_sizes, read_type_name, bits_behind, named_field, never, read_field, read_fields, read_enumerator, closes_braces, behind_comma, tag_at, behind_tag, by_tag, read_struct, read_enum, type_of, of_basic, specifier_with, read_specifier}
use Rattle.cgrammar.specs.Terminals.{Terminal, is_mark, is_name, begins_with_typedef, bytes_of}
use Rattle.cgrammar.specs.TypeWords.{basic_of, basic_rows, declares_typedef}
use Rattle.cgrammar.specs.declared.reading.starts.TypeStart.{TypeStart}
use Rattle.cgrammar.specs.declared.reading.starts.TypeStart.TheVariants as type
use Rattle.cgrammar.specs.declared.reading.starts.StatementStart.{StatementStart}
use Rattle.cgrammar.specs.declared.reading.starts.StatementStart.TheVariants as statement
use Rattle.cgrammar.proofs.WithinSteps.{Leaves, Keeps, KeepsLevel, keep_then, keep_if, keep_first, keep_prepended, keep_list, keep_until_brace, fewer_behind, fewer_others, fewer_dropped}

-- types
pub keep_size_behind : (others : Reader (List (Option Expr))) (inner : Level) → Keeps others → KeepsLevel inner → Keeps (size_behind others inner)
keep_size_behind others inner go is most context row inside =
    keep_if most (has_mark (codes "]") row) _ _
    (keep_prepended most None 0 (others context (behind_first row)) (go most context (behind_first row) (fewer_behind most row inside)))
    (keep_then most (inner.conditional context row) _ (is.conditional most context row inside) (λ size levels behind rest within.
    keep_first most _ rest _ _ within tt (λ closing more fewer. keep_prepended most (Some size) levels (others behind more) (go most behind more fewer))))

pub keep_sizes : (inner : Level) (count : ℕ) → KeepsLevel inner → Keeps (read_sizes inner count)
unfolding read_sizes
keep_sizes inner zero is most context row inside = tt
keep_sizes inner (suc count) is most context row inside =
    keep_if most (has_mark (codes "[") row) _ _
    (keep_size_behind (read_sizes inner count) inner (keep_sizes inner count is) is most context (behind_first row) (fewer_behind most row inside))
    inside

pub keep_type_name : (inner : Level) → KeepsLevel inner → Keeps (read_type_name inner)
unfolding read_type_name
keep_type_name inner is most context row inside =
    keep_then most (inner.specifier context row) _ (is.specifier most context row inside) (λ type levels behind rest within.
    keep_then most (read_sizes inner (length (behind_stars rest) + 1) behind (behind_stars rest)) _
    (keep_sizes inner (length (behind_stars rest) + 1) is most behind (behind_stars rest) (fewer_dropped most (star_count rest) rest within))
    (λ sizes others last more fewer. fewer))

pub keep_bits_behind : (inner : Level) (name : Terminal) (stars : ℕ) (sizes : List (Option Expr)) (levels : ℕ) → KeepsLevel inner → Keeps (bits_behind inner name stars sizes levels)
keep_bits_behind inner name stars sizes levels is most context row inside =
    keep_if most (has_mark (codes ":") row) _ _
    (keep_then most (inner.conditional context (behind_first row)) _ (is.conditional most context (behind_first row) (fewer_behind most row inside)) (λ bits others last more fewer. fewer))
    inside

pub keep_named_field : (inner : Level) (stars : ℕ) → KeepsLevel inner → Keeps (named_field inner stars)
keep_named_field inner stars is most context row inside =
    keep_first most _ row _ _ inside tt (λ name rest within.
    keep_then most (read_sizes inner (length rest + 1) context rest) _ (keep_sizes inner (length rest + 1) is most context rest within) (λ sizes levels behind others fewer.
    keep_if most (list_all is_some sizes) _ _ (keep_bits_behind inner name stars sizes levels is most behind others fewer) tt))

pub keep_field : (inner : Level) → KeepsLevel inner → Keeps (read_field inner)
unfolding read_field
keep_field inner is most context row inside =
    keep_first most _ row _ _ inside (keep_named_field inner (star_count row) is most context (behind_stars row) (fewer_dropped most (star_count row) row inside)) (λ colon rest within.
    keep_then most (inner.conditional context rest) _ (is.conditional most context rest within) (λ bits levels behind others fewer. fewer))

pub keep_fields : (inner : Level) → KeepsLevel inner → Keeps (read_fields inner)
unfolding read_fields
keep_fields inner is most context row inside =
    keep_then most (inner.specifier context row) _ (is.specifier most context row inside) (λ type levels behind rest within.
    keep_then most (read_list never (read_field inner) (length rest + 1) behind rest) _
    (keep_list never (read_field inner) (length rest + 1) (keep_field inner is) most behind rest within)
    (λ names others last more fewer. keep_first most _ more _ _ fewer tt (λ semicolon end ends. ends)))

pub keep_enumerator : (inner : Level) → KeepsLevel inner → Keeps (read_enumerator inner)
unfolding read_enumerator
keep_enumerator inner is most context row inside =
    keep_first most _ row _ _ inside tt (λ name rest within.
    keep_first most _ rest _ _ within within (λ mark others fewer.
    keep_then most (inner.conditional context others) _ (is.conditional most context others fewer) (λ value levels behind more last. last)))

pub fewer_comma : (most : ℕ) (row : List Terminal) → length row ≤ most → length (behind_comma row) ≤ most
fewer_comma most row inside = step (has_mark (codes ",") row)
  where
    step : (test : Bool) → length (if test then behind_first row else row) ≤ most
    step true = fewer_behind most row inside
    step false = inside

pub fewer_tag : (most : ℕ) (row : List Terminal) → length row ≤ most → length (behind_tag row) ≤ most
fewer_tag most row inside = step (has_first is_name row)
  where
    step : (test : Bool) → length (if test then behind_first row else row) ≤ most
    step true = fewer_behind most row inside
    step false = inside

pub keep_by_tag : (type : Option Identifier → TypeSpec) (name : Option Identifier) → Keeps (by_tag type name)
keep_by_tag type None most context row inside = tt
keep_by_tag type (Some name) most context row inside = inside

pub keep_struct : (inner : Level) → KeepsLevel inner → Keeps (read_struct inner)
unfolding read_struct
keep_struct inner is most context row inside =
    let tag = fewer_tag most row inside in
    keep_if most (has_mark (codes "{") (behind_tag row)) _ _
    (keep_then most (read_until_brace (read_fields inner) (length (behind_tag row)) context (behind_first (behind_tag row))) _
    (keep_until_brace (read_fields inner) (length (behind_tag row)) (keep_fields inner is) most context (behind_first (behind_tag row)) (fewer_behind most (behind_tag row) tag))
    (λ declarations levels behind rest within. fewer_behind most rest within))
    (keep_by_tag (λ name. Struct name None) (tag_at row) most context (behind_tag row) tag)

pub keep_enum : (inner : Level) → KeepsLevel inner → Keeps (read_enum inner)
unfolding read_enum
keep_enum inner is most context row inside =
    let tag = fewer_tag most row inside in
    keep_if most (has_mark (codes "{") (behind_tag row)) _ _
    (keep_then most (read_list closes_braces (read_enumerator inner) (length (behind_tag row)) context (behind_first (behind_tag row))) _
    (keep_list closes_braces (read_enumerator inner) (length (behind_tag row)) (keep_enumerator inner is) most context (behind_first (behind_tag row)) (fewer_behind most (behind_tag row) tag))
    (λ values levels behind rest within. keep_first most _ (behind_comma rest) _ _ (fewer_comma most rest within) tt (λ closing others fewer. fewer)))
    (keep_by_tag (λ name. Enum name None) (tag_at row) most context (behind_tag row) tag)

pub keep_type_of : (inner : Level) → KeepsLevel inner → Keeps (type_of inner)
keep_type_of inner is most context row inside =
    keep_if most (has_first (begins_type context.scope) row) _ _
    (keep_then most (read_type_name inner context row) _ (keep_type_name inner is most context row inside) (λ to levels behind rest within.
    keep_first most _ rest _ _ within tt (λ closing others fewer. fewer)))
    (keep_then most (inner.expression context row) _ (is.expression most context row inside) (λ expr levels behind rest within.
    keep_first most _ rest _ _ within tt (λ closing others fewer. fewer)))

pub keep_of_basic : (basic : Option BasicType) → Keeps (of_basic basic)
keep_of_basic None most context row inside = tt
keep_of_basic (Some basic) most context row inside = inside

pub keep_specifier_with : (inner : Level) (most : ℕ) (context : Context) (first : Terminal) (row : List Terminal) (start : TypeStart) → KeepsLevel inner → length (first ∷ row) ≤ most → Leaves (specifier_with inner context first row start) most
keep_specifier_with inner most context first row type.Named is inside = fewer_others most first row inside
keep_specifier_with inner most context first row type.Basic is inside =
    keep_of_basic (basic_of basic_rows (map bytes_of (take (prefix_len is_basic_word (first ∷ row)) (first ∷ row)))) most context (drop (prefix_len is_basic_word (first ∷ row)) (first ∷ row)) (fewer_dropped most (prefix_len is_basic_word (first ∷ row)) (first ∷ row) inside)
keep_specifier_with inner most context first row type.Struct is inside = keep_struct inner is most context row (fewer_others most first row inside)
keep_specifier_with inner most context first row type.Enum is inside = keep_enum inner is most context row (fewer_others most first row inside)
keep_specifier_with inner most context first row type.TypeOf is inside =
    keep_first most _ row _ _ (fewer_others most first row inside) tt (λ opening others fewer. keep_type_of inner is most context others fewer)
keep_specifier_with inner most context first row type.Other is inside = tt

pub keep_specifier : (inner : Level) → KeepsLevel inner → Keeps (read_specifier inner)
unfolding read_specifier
keep_specifier inner is most context [] inside = tt
keep_specifier inner is most context (first ∷ row) inside = keep_specifier_with inner most context first row (type_start context.scope first) is inside

-- declarations
pub keep_storage_behind : (type : TypeSpec) (levels most : ℕ) (behind : Context) (rest : List Terminal) (storage : Option Storage) → length rest ≤ most → Leaves (storage_behind type levels behind rest storage) most
keep_storage_behind type levels most behind rest None inside = inside
keep_storage_behind type levels most behind rest (Some storage) inside = fewer_behind most rest inside

pub keep_specifiers_with : (inner : Level) (most : ℕ) (context : Context) (row : List Terminal) (storage : Option Storage) → KeepsLevel inner → length row ≤ most → Leaves (specifiers_with inner context row storage) most
keep_specifiers_with inner most context row None is inside =
    keep_then most (inner.specifier context row) _ (is.specifier most context row inside) (λ type levels behind rest within. keep_storage_behind type levels most behind rest (storage_at rest) within)
keep_specifiers_with inner most context row (Some storage) is inside =
    keep_then most (inner.specifier context (behind_first row)) _ (is.specifier most context (behind_first row) (fewer_behind most row inside)) (λ type levels behind rest within. within)

pub keep_specifiers : (inner : Level) → KeepsLevel inner → Keeps (read_specifiers inner)
unfolding read_specifiers
keep_specifiers inner is most context row inside = keep_specifiers_with inner most context row (storage_at row) is inside

pub keep_parameter_behind : (inner : Level) (type : TypeSpec) (levels stars : ℕ) → KeepsLevel inner → Keeps (parameter_behind inner type levels stars)
keep_parameter_behind inner type levels stars is most context row inside =
    keep_first most _ row _ _ inside
    (keep_then most (read_sizes inner (length row + 1) context row) _ (keep_sizes inner (length row + 1) is most context row inside) (λ sizes others behind rest within. within))
    (λ name more fewer. keep_then most (read_sizes inner (length more + 1) context more) _ (keep_sizes inner (length more + 1) is most context more fewer) (λ sizes others behind rest within. within))

pub keep_parameter : (inner : Level) → KeepsLevel inner → Keeps (read_parameter inner)
unfolding read_parameter
keep_parameter inner is most context row inside =
    keep_then most (read_specifiers inner context row) _ (keep_specifiers inner is most context row inside) (λ specifiers levels behind rest within.
    keep_parameter_behind inner specifiers.spec levels (star_count rest) is most behind (behind_stars rest) (fewer_dropped most (star_count rest) rest within))

pub keep_parameters : (inner : Level) → KeepsLevel inner → Keeps (read_parameters inner)
unfolding read_parameters
keep_parameters inner is most context row whole =
    keep_if most (has_mark (codes ")") row) _ _ (fewer_behind most row whole)
    (keep_if most (is_void_alone row) _ _ (fewer_behind most (behind_first row) (fewer_behind most row whole))
    (keep_then most (read_list never (read_parameter inner) (length row + 1) (inside context) row) _
    (keep_list never (read_parameter inner) (length row + 1) (keep_parameter inner is) most (inside context) row whole)
    (λ params levels behind rest within. keep_first most _ rest _ _ within tt (λ closing others fewer. fewer))))

pub keep_object_behind : (inner : Level) (typedef : Bool) (name : Terminal) (stars : ℕ) → KeepsLevel inner → Keeps (object_behind inner typedef name stars)
keep_object_behind inner typedef name stars is most context row inside =
    keep_then most (read_sizes inner (length row + 1) context row) _ (keep_sizes inner (length row + 1) is most context row inside) (λ sizes levels behind rest within.
    keep_first most _ rest _ _ within within (λ mark others fewer.
    keep_then most (inner.initializer (declaring behind name.bytes typedef) others) _ (is.initializer most (declaring behind name.bytes typedef) others fewer) (λ init inits last more end. end)))

pub keep_declarator : (inner : Level) (typedef : Bool) → KeepsLevel inner → Keeps (read_declarator inner typedef)
unfolding read_declarator
keep_declarator inner typedef is most context row inside =
    keep_first most _ (behind_stars row) _ _ (fewer_dropped most (star_count row) row inside) tt (λ name rest within.
    keep_first most _ rest _ _ within (keep_object_behind inner typedef name (star_count row) is most context rest within) (λ opening others fewer.
    keep_then most (read_parameters inner context others) _ (keep_parameters inner is most context others fewer) (λ params levels last more end. end)))

pub keep_declaration : (inner : Level) → KeepsLevel inner → Keeps (read_declaration inner)
unfolding read_declaration
keep_declaration inner is most context row inside =
    keep_then most (read_specifiers inner context row) _ (keep_specifiers inner is most context row inside) (λ specifiers levels behind rest within.
    keep_first most _ rest _ _ within
    (keep_then most (read_list never (read_declarator inner (declares_typedef specifiers.storage)) (length rest + 1) behind rest) _
    (keep_list never (read_declarator inner (declares_typedef specifiers.storage)) (length rest + 1) (keep_declarator inner (declares_typedef specifiers.storage) is) most behind rest within)
    (λ names others last more fewer. keep_first most _ more _ _ fewer tt (λ semicolon end ends. ends)))
    (λ semicolon end ends. ends))

pub keep_part : (inner : Level) → KeepsLevel inner → Keeps (read_part inner)
unfolding read_part
keep_part inner is most context row inside =
    keep_first most _ row _ _ inside
    (keep_then most (inner.initializer context row) _ (is.initializer most context row inside) (λ init levels behind rest within. within))
    (λ dot others fewer. keep_first most _ others _ _ fewer tt (λ name more less. keep_first most _ more _ _ less tt (λ mark end ends.
    keep_then most (inner.initializer context end) _ (is.initializer most context end ends) (λ init levels behind rest within. within))))

pub keep_in_braces : (inner : Level) → KeepsLevel inner → Keeps (in_braces inner)
keep_in_braces inner is most context row inside =
    keep_first most _ row _ _ inside
    (keep_then most (read_list closes_braces (read_part inner) (length row + 1) context row) _
    (keep_list closes_braces (read_part inner) (length row + 1) (keep_part inner is) most context row inside)
    (λ parts levels behind rest within. keep_first most _ (behind_comma rest) _ _ (fewer_comma most rest within) tt (λ closing others fewer. fewer)))
    (λ closing others fewer. fewer)

pub keep_initializer : (inner : Level) → KeepsLevel inner → Keeps (read_initializer inner)
unfolding read_initializer
keep_initializer inner is most context row inside =
    keep_first most _ row _ _ inside
    (keep_then most (inner.assignment context row) _ (is.assignment most context row inside) (λ value levels behind rest within. within))
    (λ opening others fewer. keep_in_braces inner is most context others fewer)

-- statements
pub keep_block : (inner : Level) → KeepsLevel inner → Keeps (read_block inner)
unfolding read_block
keep_block inner is most context row inside =
    keep_first most _ row _ _ inside tt (λ opening others fewer.
    keep_then most (read_until_brace inner.item (length others + 1) _ others) _
    (keep_until_brace inner.item (length others + 1) is.item most _ others fewer) (λ body levels within rest ends. fewer_behind most rest ends))

pub keep_maybe : (inner : Level) (ends : Terminal → Bool) → KeepsLevel inner → Keeps (read_maybe inner ends)
unfolding read_maybe
keep_maybe inner ends is most context row inside =
    keep_if most (has_first ends row) _ _ inside
    (keep_then most (inner.expression context row) _ (is.expression most context row inside) (λ expr levels behind rest within. within))

pub keep_declared_statement : (inner : Level) → KeepsLevel inner → Keeps (declared_statement inner)
keep_declared_statement inner is most context row inside =
    keep_then most (read_declaration inner context row) _ (keep_declaration inner is most context row inside) (λ decl levels behind rest within. within)

pub keep_expression_statement : (inner : Level) → KeepsLevel inner → Keeps (expression_statement inner)
keep_expression_statement inner is most context row inside =
    keep_then most (inner.expression context row) _ (is.expression most context row inside) (λ expr levels behind rest within.
    keep_first most _ rest _ _ within tt (λ semicolon others fewer. fewer))

pub keep_clause : (inner : Level) → KeepsLevel inner → Keeps (read_clause inner)
unfolding read_clause
keep_clause inner is most context row inside =
    keep_if most (has_first (begins_declaration context.scope) row) _ _ (keep_declared_statement inner is most context row inside)
    (keep_first most _ row _ _ inside (keep_expression_statement inner is most context row inside) (λ semicolon others fewer. fewer))

pub keep_untyped : (inner : Level) → KeepsLevel inner → Keeps (untyped inner)
keep_untyped inner is most context row inside = keep_if most (begins_with_typedef context.scope row) _ _ tt (is.expression most context row inside)

pub keep_substatement : (inner : Level) → KeepsLevel inner → Keeps (substatement inner)
keep_substatement inner is most context row fits =
    keep_then most (inner.statement (inside context) row) _ (is.statement most (inside context) row fits) (λ stmt levels behind rest within. within)

pub keep_otherwise : (inner : Level) (place close : Place) (test : Expr) (tests : ℕ) (one : Stmt) (ones : ℕ) → KeepsLevel inner → Keeps (otherwise_behind inner place close test tests one ones)
keep_otherwise inner place close test tests one ones is most context row inside =
    keep_first most _ row _ _ inside inside (λ otherwise others fewer.
    keep_then most (substatement inner context others) _ (keep_substatement inner is most context others fewer) (λ other twos behind rest within. within))

pub keep_if_statement : (inner : Level) (place : Place) → KeepsLevel inner → Keeps (read_if inner place)
unfolding read_if
keep_if_statement inner place is most context row fits =
    keep_first most _ row _ _ fits tt (λ opening others fewer.
    keep_then most (untyped inner (inside context) others) _ (keep_untyped inner is most (inside context) others fewer) (λ test tests behind rest within.
    keep_first most _ rest _ _ within tt (λ closing more less.
    keep_then most (substatement inner behind more) _ (keep_substatement inner is most behind more less) (λ one ones last end ends. keep_otherwise inner place closing.place test tests one ones is most last end ends))))

pub keep_while_statement : (inner : Level) (place : Place) → KeepsLevel inner → Keeps (read_while inner place)
unfolding read_while
keep_while_statement inner place is most context row fits =
    keep_first most _ row _ _ fits tt (λ opening others fewer.
    keep_then most (untyped inner (inside context) others) _ (keep_untyped inner is most (inside context) others fewer) (λ test tests behind rest within.
    keep_first most _ rest _ _ within tt (λ closing more less.
    keep_then most (substatement inner behind more) _ (keep_substatement inner is most behind more less) (λ body levels last end ends. ends))))

pub keep_do_statement : (inner : Level) (place : Place) → KeepsLevel inner → Keeps (read_do inner place)
unfolding read_do
keep_do_statement inner place is most context row fits =
    keep_then most (substatement inner (inside context) row) _ (keep_substatement inner is most (inside context) row fits) (λ body levels behind rest within.
    keep_first most _ rest _ _ within tt (λ while others fewer.
    keep_first most _ others _ _ fewer tt (λ opening more less.
    keep_then most (untyped inner behind more) _ (keep_untyped inner is most behind more less) (λ test tests last end ends.
    keep_first most _ end _ _ ends tt (λ closing finals almost.
    keep_first most _ finals _ _ almost tt (λ semicolon final done. done))))))

pub keep_for_statement : (inner : Level) (place : Place) → KeepsLevel inner → Keeps (read_for inner place)
unfolding read_for
keep_for_statement inner place is most context row inside =
    keep_first most _ row _ _ inside tt (λ opening others fewer.
    keep_then most (inner.clause _ others) _ (is.clause most _ others fewer) (λ first firsts one rest within.
    keep_then most (read_maybe inner (is_mark (codes ";")) one rest) _ (keep_maybe inner (is_mark (codes ";")) is most one rest within) (λ test tests two more less.
    keep_first most _ more _ _ less tt (λ semicolon end ends.
    keep_then most (read_maybe inner (is_mark (codes ")")) two end) _ (keep_maybe inner (is_mark (codes ")")) is most two end ends) (λ next nexts three finals almost.
    keep_first most _ finals _ _ almost tt (λ closing final nearly.
    keep_then most (substatement inner three final) _ (keep_substatement inner is most three final nearly) (λ body levels last over done. done)))))))

pub keep_return_statement : (inner : Level) (place : Place) → KeepsLevel inner → Keeps (read_return inner place)
unfolding read_return
keep_return_statement inner place is most context row inside =
    keep_then most (read_maybe inner (is_mark (codes ";")) context row) _ (keep_maybe inner (is_mark (codes ";")) is most context row inside) (λ value levels behind rest within.
    keep_first most _ rest _ _ within tt (λ semicolon others fewer. fewer))

pub keep_statement_with : (inner : Level) (most : ℕ) (context : Context) (first : Terminal) (row : List Terminal) (start : StatementStart) → KeepsLevel inner → length (first ∷ row) ≤ most → Leaves (statement_with inner context first row start) most
keep_statement_with inner most context first row statement.Block is inside =
    keep_then most (read_block inner context (first ∷ row)) _ (keep_block inner is most context (first ∷ row) inside) (λ body levels behind rest within. within)
keep_statement_with inner most context first row statement.If is inside = keep_if_statement inner first.place is most context row (fewer_others most first row inside)
keep_statement_with inner most context first row statement.While is inside = keep_while_statement inner first.place is most context row (fewer_others most first row inside)
keep_statement_with inner most context first row statement.Do is inside = keep_do_statement inner first.place is most context row (fewer_others most first row inside)
keep_statement_with inner most context first row statement.For is inside = keep_for_statement inner first.place is most context row (fewer_others most first row inside)
keep_statement_with inner most context first row statement.Break is inside = keep_first most _ row _ _ (fewer_others most first row inside) tt (λ semicolon others fewer. fewer)
keep_statement_with inner most context first row statement.Continue is inside = keep_first most _ row _ _ (fewer_others most first row inside) tt (λ semicolon others fewer. fewer)
keep_statement_with inner most context first row statement.Return is inside = keep_return_statement inner first.place is most context row (fewer_others most first row inside)
keep_statement_with inner most context first row statement.Other is inside =
    keep_if most (begins_declaration context.scope first) _ _ tt (keep_clause inner is most context (first ∷ row) inside)

pub keep_unlabeled : (inner : Level) → KeepsLevel inner → Keeps (read_unlabeled inner)
unfolding read_unlabeled
keep_unlabeled inner is most context [] inside = tt
keep_unlabeled inner is most context (first ∷ row) inside = keep_statement_with inner most context first row (statement_start first) is inside

pub keep_statement : (inner : Level) → KeepsLevel inner → Keeps (read_statement inner)
unfolding read_statement
keep_statement inner is most context [] inside = tt
keep_statement inner is most context (first ∷ []) inside = keep_unlabeled inner is most context (first ∷ []) inside
keep_statement inner is most context (first ∷ (second ∷ row)) inside =
    keep_if most (begins_with_label context.scope (first ∷ (second ∷ row))) _ _
    (keep_statement inner is most context row (fewer_others most second row (fewer_others most first (second ∷ row) inside)))
    (keep_unlabeled inner is most context (first ∷ (second ∷ row)) inside)

pub keep_item : (inner : Level) → KeepsLevel inner → Keeps (read_item inner)
unfolding read_item
keep_item inner is most context row inside =
    keep_if most (has_first (begins_declaration context.scope) row) _ _ (keep_clause inner is most context row inside) (keep_statement inner is most context row inside)
