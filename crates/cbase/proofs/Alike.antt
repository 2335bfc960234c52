-- The data layouts lay each type alike: a type says how many bytes its integers have, and pointers have 8 in both.
use Rattle.std.proofs.Common.{◌≡◌, ℕ, zero, suc, map, length, List, [], ◌∷◌, Option, Some, None, refl, sym, ap, ◌∙◌}
use Rattle.std.specs.Prelude.{option_map, slice_get, if◌then◌else◌}
use Rattle.cbase.specs.declared.abi.Abi.{Abi}
use Rattle.cbase.specs.declared.abi.Abi.TheVariants.{Lp64, Llp64}
use Rattle.cbase.specs.declared.ctype.CType.{CType}
use Rattle.cbase.specs.declared.structs.Field.{Field}
use Rattle.cbase.specs.declared.structs.StructDef.{StructDef}
use Rattle.cbase.specs.declared.layout.Layout.{Layout}
use Rattle.cbase.specs.Layout.{layout_of, type_layout, scalar, pointer_bytes, repeated, struct_at, struct_layout, fields_layout, no_fields}
use Rattle.cbase.proofs.Types.{type_induction, type_layout-Void, type_layout-Bool, type_layout-Int, type_layout-Pointer, type_layout-Struct, type_layout-Array}

pointer_alike : (abi : Abi) → pointer_bytes abi ≡ pointer_bytes Lp64
pointer_alike Lp64 = refl
pointer_alike Llp64 = refl

type_alike : (abi : Abi) (first second : ℕ → Option Layout) → ((number : ℕ) → first number ≡ second number) → (t : CType) → type_layout abi first t ≡ type_layout Lp64 second t
type_alike abi first second same =
    type_induction (λ t. type_layout abi first t ≡ type_layout Lp64 second t)
    (type_layout-Void abi first ∙ sym (type_layout-Void Lp64 second))
    (type_layout-Bool abi first ∙ sym (type_layout-Bool Lp64 second))
    (λ bytes signed. type_layout-Int abi first bytes signed ∙ sym (type_layout-Int Lp64 second bytes signed))
    (λ item. type_layout-Pointer abi first item ∙ (ap (λ (n : ℕ). Some (scalar n)) (pointer_alike abi) ∙ sym (type_layout-Pointer Lp64 second item)))
    (λ number. type_layout-Struct abi first number ∙ (same number ∙ sym (type_layout-Struct Lp64 second number)))
    (λ item count alike. type_layout-Array abi first item count ∙ (ap (option_map (repeated count)) alike ∙ sym (type_layout-Array Lp64 second item count)))

pub fields_alike : (first second : CType → Option Layout) → ((t : CType) → first t ≡ second t) → (fields : List Field)
    → map (λ field. first field.ctype) fields ≡ map (λ field. second field.ctype) fields
fields_alike first second same [] = refl
fields_alike first second same (field ∷ fields) =
    ap (λ (o : Option Layout). o ∷ map (λ f. first f.ctype) fields) (same field.ctype) ∙ ap (λ (os : List (Option Layout)). second field.ctype ∷ os) (fields_alike first second same fields)

definition_alike : (first second : CType → Option Layout) → ((t : CType) → first t ≡ second t) → (found : Option StructDef) → struct_layout first found ≡ struct_layout second found
definition_alike first second same None = refl
definition_alike first second same (Some definition) =
    ap (λ (os : List (Option Layout)). if definition.complete then fields_layout no_fields os else None) (fields_alike first second same definition.fields)

pub struct_alike : (abi : Abi) (depth : ℕ) (structs : List StructDef) (number : ℕ) → struct_at abi depth structs number ≡ struct_at Lp64 depth structs number
struct_alike abi zero structs number = refl
struct_alike abi (suc depth) structs number =
    definition_alike (type_layout abi (struct_at abi depth structs)) (type_layout Lp64 (struct_at Lp64 depth structs))
    (type_alike abi (struct_at abi depth structs) (struct_at Lp64 depth structs) (struct_alike abi depth structs)) (slice_get structs number)

pub layout_alike : (abi : Abi) (structs : List StructDef) (t : CType) → layout_of abi structs t ≡ layout_of Lp64 structs t
layout_alike abi structs t = type_alike abi (struct_at abi (length structs) structs) (struct_at Lp64 (length structs) structs) (struct_alike abi (length structs) structs) t
