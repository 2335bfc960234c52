-- A layout stays what it is where more structs may lie one inside the other.
use Rattle.std.proofs.Common.{◌≡◌, ℕ, suc, zero, map, List, [], ◌∷◌, Option, Some, None, refl}
use Rattle.std.specs.Prelude.{Bool as BoolValue, true, false, option_map, slice_get, if◌then◌else◌}
use Rattle.cbase.specs.declared.abi.Abi.{Abi}
use Rattle.cbase.specs.declared.ctype.CType.{CType}
use Rattle.cbase.specs.declared.structs.Field.{Field}
use Rattle.cbase.specs.declared.structs.StructDef.{StructDef}
use Rattle.cbase.specs.declared.layout.Layout.{Layout}
use Rattle.cbase.specs.Layout.{type_layout, repeated, struct_at, struct_layout, fields_layout, no_fields, with_field}
use Rattle.cbase.proofs.Types.{type_induction, type_layout-Void, type_layout-Bool, type_layout-Int, type_layout-Pointer, type_layout-Struct, type_layout-Array}

-- what one gives, the other gives
abbrev pub GivesMore : {X : Type 0} → (X → Option Layout) → (X → Option Layout) → Type 0
GivesMore {X} some more = (x : X) (layout : Layout) → some x ≡ Some layout → more x ≡ Some layout

array_more : (count : ℕ) (some more : Option Layout) → ((l : Layout) → some ≡ Some l → more ≡ Some l) → (l : Layout) → option_map (repeated count) some ≡ Some l → option_map (repeated count) more ≡ Some l
array_more count None more h l e = cc
array_more count (Some item) more h l e = rw (h item refl) e

pub type_more : (abi : Abi) (some more : ℕ → Option Layout) → GivesMore some more → GivesMore (type_layout abi some) (type_layout abi more)
type_more abi some more h =
    type_induction (λ t. (l : Layout) → type_layout abi some t ≡ Some l → type_layout abi more t ≡ Some l)
    (λ l e. rw (type_layout-Void abi more) (rw (type_layout-Void abi some) at e))
    (λ l e. rw (type_layout-Bool abi more) (rw (type_layout-Bool abi some) at e))
    (λ bytes signed l e. rw (type_layout-Int abi more bytes signed) (rw (type_layout-Int abi some bytes signed) at e))
    (λ item l e. rw (type_layout-Pointer abi more item) (rw (type_layout-Pointer abi some item) at e))
    (λ number l e. rw (type_layout-Struct abi more number) (h number l (rw (type_layout-Struct abi some number) at e)))
    (λ item count ih l e. rw (type_layout-Array abi more item count) (array_more count _ _ ih l (rw (type_layout-Array abi some item count) at e)))

option_field : (some more : CType → Option Layout) (before : Layout) (fields : List Field) (l : Layout) (first second : Option Layout) → ((k : Layout) → first ≡ Some k → second ≡ Some k)
    → ((after : Layout) → fields_layout after (map (λ field. some field.ctype) fields) ≡ Some l → fields_layout after (map (λ field. more field.ctype) fields) ≡ Some l)
    → fields_layout before (first ∷ map (λ field. some field.ctype) fields) ≡ Some l → fields_layout before (second ∷ map (λ field. more field.ctype) fields) ≡ Some l
option_field some more before fields l None second g rest e = cc
option_field some more before fields l (Some k) second g rest e = rw (g k refl) (rest (with_field before k) e)

pub fields_more : (some more : CType → Option Layout) → GivesMore some more → (before : Layout) (fields : List Field) (l : Layout)
    → fields_layout before (map (λ field. some field.ctype) fields) ≡ Some l → fields_layout before (map (λ field. more field.ctype) fields) ≡ Some l
fields_more some more h before [] l e = e
fields_more some more h before (field ∷ fields) l e =
    option_field some more before fields l (some field.ctype) (more field.ctype) (h field.ctype) (λ after d. fields_more some more h after fields l d) e

-- a test that leads to a layout has passed
if_more : (passes : BoolValue) (some more : Option Layout) (l : Layout) → (some ≡ Some l → more ≡ Some l) → (if passes then some else None) ≡ Some l → (if passes then more else None) ≡ Some l
if_more true some more l h e = h e
if_more false some more l h e = e

pub definition_more : (some more : CType → Option Layout) → GivesMore some more → GivesMore (struct_layout some) (struct_layout more)
definition_more some more h None l e = e
definition_more some more h (Some definition) l e = if_more definition.complete _ _ l (λ d. fields_more some more h no_fields definition.fields l d) e

pub struct_more : (abi : Abi) (depth : ℕ) (structs : List StructDef) → GivesMore (struct_at abi depth structs) (struct_at abi (suc depth) structs)
struct_more abi zero structs number l e = cc
struct_more abi (suc depth) structs number l e =
    definition_more (type_layout abi (struct_at abi depth structs)) (type_layout abi (struct_at abi (suc depth) structs))
    (type_more abi _ _ (struct_more abi depth structs)) (slice_get structs number) l e
