-- Types (C11 6.7.2, 6.7.7): `level` reads what stands in them.
use Rattle.std.specs.Prelude.{ℕ, zero, suc, ◌+◌, max, Bool, false, if◌then◌else◌, List, [], ◌∷◌, map, take, drop, length, Option, None, Some, is_some, codes}
use Rattle.std.specs.List.{list_all, prefix_len}
use Rattle.cbase.specs.declared.tree.decl.TypeName.{TypeName}
use Rattle.cbase.specs.declared.tree.expr.Expr.{Expr}
use Rattle.cbase.specs.declared.tree.identifier.Identifier.{Identifier}
use Rattle.cbase.specs.declared.tree.spec.BasicType.{BasicType}
use Rattle.cbase.specs.declared.tree.spec.Enumerator.{Enumerator}
use Rattle.cbase.specs.declared.tree.spec.FieldDecl.{FieldDecl}
use Rattle.cbase.specs.declared.tree.spec.FieldName.{FieldName}
use Rattle.cbase.specs.declared.tree.spec.TypeSpec.{TypeSpec}
use Rattle.cbase.specs.declared.tree.spec.TypeSpec.TheVariants.{Basic, Named, Struct, Enum, OfExpr, OfType}
use Rattle.cgrammar.specs.Firsts.{begins_type}
use Rattle.cgrammar.specs.FrontReadings.{is_basic_word}
use Rattle.cgrammar.specs.Grammar.{declaring}
use Rattle.cgrammar.specs.Outcomes.{Outcome, Nothing, Read, Reader, then_read, after_first, after_mark, has_mark, has_first, behind_first}
use Rattle.cgrammar.specs.Phrases.{Context}
use Rattle.cgrammar.specs.ReadLevels.{Level, prepended, read_list, read_until_brace}
use Rattle.cgrammar.specs.ReadStarts.{type_start}
use Rattle.cgrammar.specs.Terminals.{Terminal, is_mark, is_name, bytes_of}
use Rattle.cgrammar.specs.Trees.{identifier, field, fields, enumerator, type_name}
use Rattle.cgrammar.specs.TypeWords.{basic_rows, basic_of}
use Rattle.cgrammar.specs.declared.reading.starts.TypeStart.{TypeStart}
use Rattle.cgrammar.specs.declared.reading.starts.TypeStart.TheVariants as start

-- how many `*` the row begins with
abbrev pub star_count : List Terminal → ℕ
star_count row = prefix_len (is_mark (codes "*")) row

abbrev pub behind_stars : List Terminal → List Terminal
behind_stars row = drop (star_count row) row

-- sizes of arrays, which may be left out (C11 6.7.6.2)
abbrev pub size_behind : Reader (List (Option Expr)) → Level → Reader (List (Option Expr))
size_behind others level context row =
    if has_mark (codes "]") row then prepended None 0 (others context (behind_first row))
    else then_read (level.conditional context row) (λ size levels behind rest.
    after_mark (codes "]") rest Nothing (λ closing more. prepended (Some size) levels (others behind more)))

unfoldable pub read_sizes : Level → ℕ → Reader (List (Option Expr))
read_sizes level zero context row = Nothing
read_sizes level (suc count) context row =
    if has_mark (codes "[") row then size_behind (read_sizes level count) level context (behind_first row) else Read [] 0 context row

-- a name of a type (C11 6.7.7)
unfoldable pub read_type_name : Level → Reader TypeName
read_type_name level context row =
    then_read (level.specifier context row) (λ type levels behind rest.
    then_read (read_sizes level (length (behind_stars rest) + 1) behind (behind_stars rest)) (λ sizes others last more.
    Read (type_name type (star_count rest) sizes) (max levels others) last more))

-- a field, with the bits that it takes (C11 6.7.2.1)
abbrev pub bits_behind : Level → Terminal → ℕ → List (Option Expr) → ℕ → Reader FieldName
bits_behind level name stars sizes levels context row =
    if has_mark (codes ":") row
    then then_read (level.conditional context (behind_first row)) (λ bits others last more.
    Read (field name.place (Some name.bytes) stars sizes (Some bits)) (max levels others) last more)
    else Read (field name.place (Some name.bytes) stars sizes None) levels context row

abbrev pub named_field : Level → ℕ → Reader FieldName
named_field level stars context row =
    after_first is_name row Nothing (λ name rest.
    then_read (read_sizes level (length rest + 1) context rest) (λ sizes levels behind others.
    if list_all is_some sizes then bits_behind level name stars sizes levels behind others else Nothing))

unfoldable pub read_field : Level → Reader FieldName
read_field level context row =
    after_first (is_mark (codes ":")) row (named_field level (star_count row) context (behind_stars row)) (λ colon rest.
    then_read (level.conditional context rest) (λ bits levels behind others.
    Read (field colon.place None 0 [] (Some bits)) levels behind others))

abbrev pub never : List Terminal → Bool
never row = false

unfoldable pub read_fields : Level → Reader FieldDecl
read_fields level context row =
    then_read (level.specifier context row) (λ type levels behind rest.
    then_read (read_list never (read_field level) (length rest + 1) behind rest) (λ names others last more.
    after_mark (codes ";") more Nothing (λ semicolon end. Read (fields type names) (max levels others) last end)))

-- an enumeration constant (C11 6.7.2.2)
unfoldable pub read_enumerator : Level → Reader Enumerator
read_enumerator level context row =
    after_first is_name row Nothing (λ name rest.
    after_mark (codes "=") rest (Read (enumerator name None) 0 (declaring context name.bytes false) rest) (λ mark others.
    then_read (level.conditional context others) (λ value levels behind more.
    Read (enumerator name (Some value)) levels (declaring behind name.bytes false) more)))

-- a list in braces is closed by a `}`, before which a comma may stand
abbrev pub closes_braces : List Terminal → Bool
closes_braces row = has_mark (codes "}") row

abbrev pub behind_comma : List Terminal → List Terminal
behind_comma row = if has_mark (codes ",") row then behind_first row else row

-- a tag, which may be left out
abbrev pub tag_at : List Terminal → Option Identifier
tag_at [] = None
tag_at (first ∷ others) = if is_name first then Some (identifier first) else None

abbrev pub behind_tag : List Terminal → List Terminal
behind_tag row = if has_first is_name row then behind_first row else row

abbrev pub by_tag : (Option Identifier → TypeSpec) → Option Identifier → Reader TypeSpec
by_tag type None context row = Nothing
by_tag type (Some name) context row = Read (type (Some name)) 1 context row

unfoldable pub read_struct : Level → Reader TypeSpec
read_struct inner context row =
    if has_mark (codes "{") (behind_tag row)
    then then_read (read_until_brace (read_fields inner) (length (behind_tag row)) context (behind_first (behind_tag row))) (λ declarations levels behind rest.
    Read (Struct (tag_at row) (Some declarations)) (1 + levels) behind (behind_first rest))
    else by_tag (λ name. Struct name None) (tag_at row) context (behind_tag row)

unfoldable pub read_enum : Level → Reader TypeSpec
read_enum inner context row =
    if has_mark (codes "{") (behind_tag row)
    then then_read (read_list closes_braces (read_enumerator inner) (length (behind_tag row)) context (behind_first (behind_tag row))) (λ values levels behind rest.
    after_mark (codes "}") (behind_comma rest) Nothing (λ closing others. Read (Enum (tag_at row) (Some values)) (1 + levels) behind others))
    else by_tag (λ name. Enum name None) (tag_at row) context (behind_tag row)

-- `typeof` (a GNU form)
abbrev pub type_of : Level → Reader TypeSpec
type_of inner context row =
    if has_first (begins_type context.scope) row
    then then_read (read_type_name inner context row) (λ to levels behind rest.
    after_mark (codes ")") rest Nothing (λ closing others. Read (OfType to) (1 + levels) behind others))
    else then_read (inner.expression context row) (λ expr levels behind rest.
    after_mark (codes ")") rest Nothing (λ closing others. Read (OfExpr expr) (1 + levels) behind others))

abbrev pub of_basic : Option BasicType → Reader TypeSpec
of_basic None context rest = Nothing
of_basic (Some basic) context rest = Read (Basic basic) 1 context rest

-- keywords of basic types, as many as there are
abbrev pub read_basic : Reader TypeSpec
read_basic context row =
    of_basic (basic_of basic_rows (map bytes_of (take (prefix_len is_basic_word row) row))) context (drop (prefix_len is_basic_word row) row)

abbrev pub specifier_with : Level → Context → Terminal → List Terminal → TypeStart → Outcome TypeSpec
specifier_with inner context first row start.Named = Read (Named first.bytes) 1 context row
specifier_with inner context first row start.Basic = read_basic context (first ∷ row)
specifier_with inner context first row start.Struct = read_struct inner context row
specifier_with inner context first row start.Enum = read_enum inner context row
specifier_with inner context first row start.TypeOf = after_mark (codes "(") row Nothing (λ opening others. type_of inner context others)
specifier_with inner context first row start.Other = Nothing

unfoldable pub read_specifier : Level → Reader TypeSpec
read_specifier inner context [] = Nothing
read_specifier inner context (first ∷ row) = specifier_with inner context first row (type_start context.scope first)
