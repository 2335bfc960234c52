-- Types (C11 6.7.2, 6.7.7).
use Rattle.std.specs.Prelude.{ℕ, zero, suc, ◌+◌, Bool, true, false, ◌&&◌, if◌then◌else◌, List, [], ◌∷◌, map, take, length, Option, None, Some, codes}
use Rattle.std.specs.List.{prefix_len}
use Rattle.cbase.specs.declared.tree.spec.BasicType.{BasicType}
use Rattle.cevents.specs.declared.event.Event.TheVariants as event
use Rattle.cgrammar.specs.Firsts.{begins_type}
use Rattle.cgrammar.specs.FrontReadings.{is_basic_word}
use Rattle.cgrammar.specs.Outcomes.{has_mark, has_first}
use Rattle.cgrammar.specs.ReadStarts.{type_start}
use Rattle.cgrammar.specs.ReadTypes.{star_count, never, closes_braces}
use Rattle.cgrammar.specs.Scope.{Names}
use Rattle.cgrammar.specs.Terminals.{Terminal, is_name, bytes_of}
use Rattle.cgrammar.specs.TypeWords.{basic_rows, basic_of}
use Rattle.cgrammar.specs.declared.reading.starts.TypeStart.{TypeStart}
use Rattle.cgrammar.specs.declared.reading.starts.TypeStart.TheVariants as start
use Rattle.cparser.specs.State.{State, rest, goes, skipped, lost}
use Rattle.cparser.specs.Steps.{Inner, mark, ask_whole, write, make, declare, all_parts, until_brace}
use Rattle.cparser.specs.declared.wanted.Wanted.TheVariants as wanted

-- A size of an array, behind its `[`, which may be left out where sizes are optional (C11 6.7.6.2).
abbrev pub open_size : Bool → State → State
open_size optional s = if optional then write event.OpenSize (skipped 1 s) else lost s

unfoldable pub size_behind : Inner → Bool → State → State
size_behind inner optional s =
    if has_mark (codes "]") (rest s) then open_size optional s
    else write event.Size (mark (codes "]") (ask_whole inner wanted.Conditional s))

abbrev pub sizes_with : (State → State) → Inner → Bool → State → State
sizes_with go inner optional s = if has_mark (codes "[") (rest s) then go (size_behind inner optional (skipped 1 s)) else s

abbrev pub size_turn : Inner → Bool → (State → State) → State → State
size_turn inner optional go s = if goes s then sizes_with go inner optional s else s

unfoldable pub sizes : Inner → Bool → ℕ → State → State
sizes inner optional zero s = lost s
sizes inner optional (suc count) s = size_turn inner optional (sizes inner optional count) s

abbrev pub sizes_from : Inner → Bool → State → State
sizes_from inner optional s = sizes inner optional (length (rest s) + 1) s

unfoldable pub all_sizes : Inner → Bool → State → State
all_sizes inner optional s = sizes_from inner optional (write event.NoSizes s)

-- a name of a type, from behind the type on (C11 6.7.7)
abbrev pub type_name_with : Inner → ℕ → State → State
type_name_with inner stars s = write (event.TypeName stars) (all_sizes inner true (skipped stars s))

unfoldable pub type_name_behind : Inner → State → State
type_name_behind inner s = if goes s then type_name_with inner (star_count (rest s)) s else s

unfoldable pub type_name : Inner → State → State
type_name inner s = type_name_behind inner (ask_whole inner wanted.Specifier s)

-- A field, with the bits that it takes (C11 6.7.2.1).
abbrev pub bit_field : Inner → ℕ → ℕ → State → State
bit_field inner at stars s = write (event.BitField at stars) (ask_whole inner wanted.Conditional s)

unfoldable pub bits_behind : Inner → ℕ → ℕ → State → State
bits_behind inner at stars s =
    if goes s
    then (if has_mark (codes ":") (rest s) then bit_field inner at stars (skipped 1 s)
    else write (event.Field at stars) s)
    else s

abbrev pub named_field : Inner → ℕ → State → State
named_field inner stars s =
    if has_first is_name (rest s) then bits_behind inner s.at stars (all_sizes inner false (skipped 1 s)) else lost s

-- a field without a name, whose `:` is the token `at`
abbrev pub padding : Inner → ℕ → State → State
padding inner at s = write (event.Padding at) (ask_whole inner wanted.Conditional s)

unfoldable pub field_name : Inner → State → State
field_name inner s =
    if goes s
    then (if has_mark (codes ":") (rest s) then padding inner s.at (skipped 1 s)
    else named_field inner (star_count (rest s)) (skipped (star_count (rest s)) s))
    else s

unfoldable pub field_names : Inner → State → State
field_names inner s = all_parts never (field_name inner) (write event.NoFieldNames s)

unfoldable pub fields : Inner → State → State
fields inner s = write event.Fields (mark (codes ";") (field_names inner (ask_whole inner wanted.Specifier s)))

unfoldable pub all_fields : Inner → State → State
all_fields inner s = until_brace (fields inner) (write event.NoFields s)

-- An enumeration constant (C11 6.7.2.2).
abbrev pub enumerator_valued : Inner → ℕ → State → State
enumerator_valued inner at s = declare at false (write (event.EnumeratorValue at) (ask_whole inner wanted.Conditional s))

unfoldable pub enumerator_behind : Inner → ℕ → State → State
enumerator_behind inner at s =
    if has_mark (codes "=") (rest s) then enumerator_valued inner at (skipped 1 s)
    else declare at false (write (event.Enumerator at) s)

unfoldable pub enumerator : Inner → State → State
enumerator inner s = if goes s then (if has_first is_name (rest s) then enumerator_behind inner s.at (skipped 1 s) else lost s) else s

unfoldable pub all_enumerators : Inner → State → State
all_enumerators inner s = all_parts closes_braces (enumerator inner) (write event.NoEnumerators s)

-- over a comma, which may stand before the `}` of a list in braces
unfoldable pub over_comma : State → State
over_comma s = if goes s && has_mark (codes ",") (rest s) then skipped 1 s else s

-- a tag, which may be left out: the number of its token
abbrev pub tag_number : State → Option ℕ
tag_number s = if has_first is_name (rest s) then Some s.at else None

abbrev pub behind_tag : State → State
behind_tag s = if has_first is_name (rest s) then skipped 1 s else s

abbrev pub struct_by_tag : Option ℕ → State → State
struct_by_tag None s = lost s
struct_by_tag (Some tag) s = make (event.StructTag tag) s

abbrev pub struct_braces : Inner → Option ℕ → State → State
struct_braces inner tag s = make (event.Struct tag) (all_fields inner s)

unfoldable pub struct_with : Inner → Option ℕ → State → State
struct_with inner tag s = if has_mark (codes "{") (rest s) then struct_braces inner tag (skipped 1 s) else struct_by_tag tag s

unfoldable pub struct_behind : Inner → State → State
struct_behind inner s = struct_with inner (tag_number s) (behind_tag s)

abbrev pub enum_by_tag : Option ℕ → State → State
enum_by_tag None s = lost s
enum_by_tag (Some tag) s = make (event.EnumTag tag) s

abbrev pub enum_braces : Inner → Option ℕ → State → State
enum_braces inner tag s = make (event.Enum tag) (mark (codes "}") (over_comma (all_enumerators inner s)))

unfoldable pub enum_with : Inner → Option ℕ → State → State
enum_with inner tag s = if has_mark (codes "{") (rest s) then enum_braces inner tag (skipped 1 s) else enum_by_tag tag s

unfoldable pub enum_behind : Inner → State → State
enum_behind inner s = enum_with inner (tag_number s) (behind_tag s)

-- `typeof` (a GNU form), behind its `(`
abbrev pub type_of_type : Inner → State → State
type_of_type inner s = make event.TypeOfType (mark (codes ")") (type_name inner s))

abbrev pub type_of_expression : Inner → State → State
type_of_expression inner s = make event.TypeOfExpr (mark (codes ")") (ask_whole inner wanted.Expression s))

unfoldable pub type_of : Inner → State → State
type_of inner s =
    if goes s
    then (if has_first (begins_type s.scope) (rest s) then type_of_type inner s else type_of_expression inner s)
    else s

-- keywords of basic types, as many as there are
abbrev pub basic_with : ℕ → State → Option BasicType → State
basic_with count s None = lost s
basic_with count s (Some basic) = make (event.Basic basic) (skipped count s)

abbrev pub basic_of_words : ℕ → State → State
basic_of_words count s = basic_with count s (basic_of basic_rows (map bytes_of (take count (rest s))))

unfoldable pub basic : State → State
basic s = basic_of_words (prefix_len is_basic_word (rest s)) s

abbrev pub type_first : List Names → List Terminal → TypeStart
type_first scope [] = start.Other
type_first scope (first ∷ others) = type_start scope first

-- the name of a typedef (C11 6.7.8)
abbrev pub named : State → State
named s = make (event.Named s.at) (skipped 1 s)

-- whether a type begins there
abbrev pub begins_so : TypeStart → Bool
begins_so start.Other = false
begins_so _ = true

abbrev pub specifier_with : Inner → State → TypeStart → State
specifier_with inner s start.Named = named s
specifier_with inner s start.Basic = basic s
specifier_with inner s start.Struct = struct_behind inner (skipped 1 s)
specifier_with inner s start.Enum = enum_behind inner (skipped 1 s)
specifier_with inner s start.TypeOf = type_of inner (mark (codes "(") (skipped 1 s))
specifier_with inner s start.Other = lost s

unfoldable pub specifier : Inner → State → State
specifier inner s = if goes s then specifier_with inner s (type_first s.scope (rest s)) else s
