-- The readers of types leave the row as it is.
use Rattle.std.proofs.Common.{◌≡◌, ℕ, zero, suc, Bool, Option, None, Some, refl}
use Rattle.cbase.specs.declared.tree.spec.BasicType.{BasicType}
use Rattle.cgrammar.specs.ReadTypes.{never, closes_braces}
use Rattle.cgrammar.specs.declared.reading.starts.TypeStart.{TypeStart}
use Rattle.cgrammar.specs.declared.reading.starts.TypeStart.TheVariants as start
use Rattle.cparser.proofs.KeptRows.{KeepRow}
use Rattle.cparser.proofs.KeptBySteps.{parts_row, parts_until_brace_row, step_rows}
use Rattle.cparser.specs.State.{State}
use Rattle.cparser.specs.Steps.{Inner}
use Rattle.cparser.specs.TypeSteps.{size_behind, sizes, all_sizes, type_name_behind, type_name, bits_behind, field_name, field_names, fields, all_fields, enumerator_behind, enumerator, all_enumerators, over_comma, struct_by_tag, struct_with, struct_behind, enum_by_tag, enum_with, enum_behind, type_of, basic_with, basic, specifier_with, specifier}

size_behind_row : (inner : Inner) (optional : Bool) (s : State) → KeepRow inner → (size_behind inner optional s).row ≡ s.row
unfolding size_behind
size_behind_row inner optional s kept = simp step_rows

sizes_row : (inner : Inner) (optional : Bool) → KeepRow inner → (count : ℕ) (s : State) → (sizes inner optional count s).row ≡ s.row
unfolding sizes
sizes_row inner optional kept zero s = refl
sizes_row inner optional kept (suc count) s = simp (step_rows, sizes_row inner optional kept count, size_behind_row)

pub all_sizes_row : (inner : Inner) (optional : Bool) (s : State) → KeepRow inner → (all_sizes inner optional s).row ≡ s.row
unfolding all_sizes
all_sizes_row inner optional s kept = simp (step_rows, sizes_row inner optional kept)

type_name_behind_row : (inner : Inner) (s : State) → KeepRow inner → (type_name_behind inner s).row ≡ s.row
unfolding type_name_behind
type_name_behind_row inner s kept = simp (step_rows, all_sizes_row)

pub type_name_row : (inner : Inner) (s : State) → KeepRow inner → (type_name inner s).row ≡ s.row
unfolding type_name
type_name_row inner s kept = simp (step_rows, type_name_behind_row)

bits_behind_row : (inner : Inner) (at stars : ℕ) (s : State) → KeepRow inner → (bits_behind inner at stars s).row ≡ s.row
unfolding bits_behind
bits_behind_row inner at stars s kept = simp step_rows

field_name_row : (inner : Inner) (s : State) → KeepRow inner → (field_name inner s).row ≡ s.row
unfolding field_name
field_name_row inner s kept = simp (step_rows, bits_behind_row, all_sizes_row)

field_names_row : (inner : Inner) (s : State) → KeepRow inner → (field_names inner s).row ≡ s.row
unfolding field_names
field_names_row inner s kept = simp (step_rows, parts_row never (field_name inner) (λ (t : State). field_name_row inner t kept))

pub fields_row : (inner : Inner) (s : State) → KeepRow inner → (fields inner s).row ≡ s.row
unfolding fields
fields_row inner s kept = simp (step_rows, field_names_row)

all_fields_row : (inner : Inner) (s : State) → KeepRow inner → (all_fields inner s).row ≡ s.row
unfolding all_fields
all_fields_row inner s kept = simp (step_rows, parts_until_brace_row (fields inner) (λ (t : State). fields_row inner t kept))

enumerator_behind_row : (inner : Inner) (at : ℕ) (s : State) → KeepRow inner → (enumerator_behind inner at s).row ≡ s.row
unfolding enumerator_behind
enumerator_behind_row inner at s kept = simp step_rows

enumerator_row : (inner : Inner) (s : State) → KeepRow inner → (enumerator inner s).row ≡ s.row
unfolding enumerator
enumerator_row inner s kept = simp (step_rows, enumerator_behind_row)

all_enumerators_row : (inner : Inner) (s : State) → KeepRow inner → (all_enumerators inner s).row ≡ s.row
unfolding all_enumerators
all_enumerators_row inner s kept = simp (step_rows, parts_row closes_braces (enumerator inner) (λ (t : State). enumerator_row inner t kept))

pub over_comma_row : (s : State) → (over_comma s).row ≡ s.row
unfolding over_comma
over_comma_row s = simp step_rows

struct_by_tag_row : (tag : Option ℕ) (s : State) → (struct_by_tag tag s).row ≡ s.row
struct_by_tag_row None s = refl
struct_by_tag_row (Some tag) s = simp step_rows

struct_with_row : (inner : Inner) (tag : Option ℕ) (s : State) → KeepRow inner → (struct_with inner tag s).row ≡ s.row
unfolding struct_with
struct_with_row inner tag s kept = simp (step_rows, all_fields_row, struct_by_tag_row)

struct_behind_row : (inner : Inner) (s : State) → KeepRow inner → (struct_behind inner s).row ≡ s.row
unfolding struct_behind
struct_behind_row inner s kept = simp (step_rows, struct_with_row)

enum_by_tag_row : (tag : Option ℕ) (s : State) → (enum_by_tag tag s).row ≡ s.row
enum_by_tag_row None s = refl
enum_by_tag_row (Some tag) s = simp step_rows

enum_with_row : (inner : Inner) (tag : Option ℕ) (s : State) → KeepRow inner → (enum_with inner tag s).row ≡ s.row
unfolding enum_with
enum_with_row inner tag s kept = simp (step_rows, all_enumerators_row, over_comma_row, enum_by_tag_row)

enum_behind_row : (inner : Inner) (s : State) → KeepRow inner → (enum_behind inner s).row ≡ s.row
unfolding enum_behind
enum_behind_row inner s kept = simp (step_rows, enum_with_row)

type_of_row : (inner : Inner) (s : State) → KeepRow inner → (type_of inner s).row ≡ s.row
unfolding type_of
type_of_row inner s kept = simp (step_rows, type_name_row)

basic_with_row : (count : ℕ) (s : State) (found : Option BasicType) → (basic_with count s found).row ≡ s.row
basic_with_row count s None = refl
basic_with_row count s (Some type) = simp step_rows

basic_row : (s : State) → (basic s).row ≡ s.row
unfolding basic
basic_row s = basic_with_row _ s _

specifier_with_row : (inner : Inner) (s : State) (first : TypeStart) → KeepRow inner → (specifier_with inner s first).row ≡ s.row
specifier_with_row inner s start.Named kept = simp step_rows
specifier_with_row inner s start.Basic kept = basic_row s
specifier_with_row inner s start.Struct kept = simp struct_behind_row
specifier_with_row inner s start.Enum kept = simp enum_behind_row
specifier_with_row inner s start.TypeOf kept = simp (step_rows, type_of_row)
specifier_with_row inner s start.Other kept = refl

pub specifier_row : (inner : Inner) (s : State) → KeepRow inner → (specifier inner s).row ≡ s.row
unfolding specifier
specifier_row inner s kept = simp (step_rows, specifier_with_row)
