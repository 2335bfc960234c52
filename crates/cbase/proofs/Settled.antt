-- Where ranks fall, a struct's layout is that of its fields, with no word of depth.
use Rattle.std.proofs.Common.{◌≡◌, ℕ, suc, zero, ◌<◌, ◌≤◌, length, map, List, [], ◌∷◌, Option, Some, None, refl, sym, ap, ◌∙◌, inl, inr, arith}
use Rattle.std.proofs.lemmas.Bool.{cases_lt}
use Rattle.std.proofs.lemmas.Option.{slice_get_past}
use Rattle.std.specs.Prelude.{Bool as BoolValue, true, false, IfSome, option_map, slice_get, if◌then◌else◌, All}
use Rattle.cbase.specs.declared.abi.Abi.{Abi}
use Rattle.cbase.specs.declared.ctype.CType.{CType}
use Rattle.cbase.specs.declared.ctype.CType.TheVariants.{Struct, Array, rolls-Struct, rolls-Array}
use Rattle.cbase.specs.declared.ctype.CType.TheOpen.{Struct as StructOpen, Array as ArrayOpen}
use Rattle.cbase.specs.declared.ctype.CType.TheFolds.{fold-roll-CType}
use Rattle.cbase.specs.declared.structs.Field.{Field}
use Rattle.cbase.specs.declared.structs.StructDef.{StructDef}
use Rattle.cbase.specs.declared.layout.Layout.{Layout}
use Rattle.cbase.specs.Layout.{layout_of, type_layout, repeated, struct_at, struct_layout, fields_layout, no_fields}
use Rattle.cbase.specs.Ranks.{struct_step, struct_in, AreRanks}
use Rattle.cbase.proofs.Types.{type_induction, type_layout-Void, type_layout-Bool, type_layout-Int, type_layout-Pointer, type_layout-Struct, type_layout-Array}

struct_in-Struct : (number : ℕ) → struct_in (Struct number) ≡ Some number
unfolding struct_in
struct_in-Struct number = ap struct_in (sym (rolls-Struct number)) ∙ fold-roll-CType (Option ℕ) struct_step (StructOpen number)

struct_in-Array : (item : CType) (count : ℕ) → struct_in (Array item count) ≡ struct_in item
unfolding struct_in
struct_in-Array item count = ap struct_in (sym (rolls-Array item count)) ∙ fold-roll-CType (Option ℕ) struct_step (ArrayOpen item count)

-- the layout of a type asks for that of the struct in it alone
type_same : (abi : Abi) (first second : ℕ → Option Layout) (t : CType) → IfSome (struct_in t) (λ number. first number ≡ second number) → type_layout abi first t ≡ type_layout abi second t
type_same abi first second =
    type_induction (λ t. IfSome (struct_in t) (λ number. first number ≡ second number) → type_layout abi first t ≡ type_layout abi second t)
    (λ h. type_layout-Void abi first ∙ sym (type_layout-Void abi second))
    (λ h. type_layout-Bool abi first ∙ sym (type_layout-Bool abi second))
    (λ bytes signed h. type_layout-Int abi first bytes signed ∙ sym (type_layout-Int abi second bytes signed))
    (λ item h. type_layout-Pointer abi first item ∙ sym (type_layout-Pointer abi second item))
    (λ number h. type_layout-Struct abi first number ∙ rw (struct_in-Struct number) at h ∙ sym (type_layout-Struct abi second number))
    (λ item count same h. type_layout-Array abi first item count ∙ ap (option_map (repeated count)) (same (rw (struct_in-Array item count) at h)) ∙ sym (type_layout-Array abi second item count))

fields_same : (first second : CType → Option Layout) (fields : List Field) → All (λ field. first field.ctype ≡ second field.ctype) fields
    → map (λ field. first field.ctype) fields ≡ map (λ field. second field.ctype) fields
fields_same first second [] all = refl
fields_same first second (field ∷ fields) all =
    let here : first field.ctype ≡ second field.ctype = all 0 field (omega arith) in
    let rest : All (λ f. first f.ctype ≡ second f.ctype) fields = λ k d h. all (suc k) d (omega arith) in
    ap (λ (o : Option Layout). o ∷ map (λ f. first f.ctype) fields) here ∙ ap (λ (os : List (Option Layout)). second field.ctype ∷ os) (fields_same first second fields rest)

if_same : (passes : BoolValue) (first second : Option Layout) → (passes ≡ true → first ≡ second) → (if passes then first else None) ≡ (if passes then second else None)
if_same true first second h = h refl
if_same false first second h = refl

definition_same : (first second : CType → Option Layout) (found : Option StructDef)
    → ((definition : StructDef) → found ≡ Some definition → definition.complete ≡ true → All (λ field. first field.ctype ≡ second field.ctype) definition.fields)
    → struct_layout first found ≡ struct_layout second found
definition_same first second None h = refl
definition_same first second (Some definition) h =
    if_same definition.complete _ _ (λ complete. ap (λ (os : List (Option Layout)). fields_layout no_fields os) (fields_same first second definition.fields (h definition refl complete)))

lower_same : (rank : ℕ → ℕ) (bound : ℕ) (first second : ℕ → Option Layout) → ((number : ℕ) → rank number < bound → first number ≡ second number)
    → (found : Option ℕ) → IfSome found (λ inner. rank inner < bound) → IfSome found (λ inner. first inner ≡ second inner)
lower_same rank bound first second h None lower = tt
lower_same rank bound first second h (Some inner) lower = h inner lower

-- structs of a rank below the depths have one layout
settled : (abi : Abi) (structs : List StructDef) (rank : ℕ → ℕ) → AreRanks rank structs → (bound k l : ℕ) → bound ≤ k → bound ≤ l → (number : ℕ) → rank number < bound
    → struct_at abi k structs number ≡ struct_at abi l structs number
settled abi structs rank ranks zero k l a b number r = absurd (omega arith)
settled abi structs rank ranks (suc bound) zero l a b number r = absurd (omega arith)
settled abi structs rank ranks (suc bound) (suc k) zero a b number r = absurd (omega arith)
settled abi structs rank ranks (suc bound) (suc k) (suc l) a b number r =
    let ih : (n : ℕ) → rank n < bound → struct_at abi k structs n ≡ struct_at abi l structs n = settled abi structs rank ranks bound k l (omega arith) (omega arith) in
    definition_same (type_layout abi (struct_at abi k structs)) (type_layout abi (struct_at abi l structs)) (slice_get structs number)
    (λ definition found complete i d h.
    type_same abi (struct_at abi k structs) (struct_at abi l structs) _
    (lower_same rank (rank number) (struct_at abi k structs) (struct_at abi l structs) (λ n lower. ih n (omega arith)) _ (ranks.fall number definition found complete i d h)))

past : (abi : Abi) (structs : List StructDef) (depth number : ℕ) → length structs ≤ number → struct_at abi depth structs number ≡ None
past abi structs zero number h = refl
past abi structs (suc depth) number h = ap (struct_layout (type_layout abi (struct_at abi depth structs))) (slice_get_past structs number h)

pub layout_of-Struct : (abi : Abi) (structs : List StructDef) (rank : ℕ → ℕ) → AreRanks rank structs → (number : ℕ)
    → layout_of abi structs (Struct number) ≡ struct_layout (layout_of abi structs) (slice_get structs number)
layout_of-Struct abi structs rank ranks number =
    type_layout-Struct abi (struct_at abi (length structs) structs) number ∙ elim (cases_lt number (length structs)) [
      | inl within ↦ settled abi structs rank ranks (length structs) (length structs) (suc (length structs)) (omega arith) (omega arith) number (ranks.below number within)
      | inr out ↦ past abi structs (length structs) number out ∙ sym (past abi structs (suc (length structs)) number out)
    ]
