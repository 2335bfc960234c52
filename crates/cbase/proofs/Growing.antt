-- A layout stays what it is while more structs are declared and completed.
use Rattle.std.proofs.Common.{◌≡◌, ℕ, zero, suc, ◌≤◌, List, Option, Some, None, refl, arith}
use Rattle.std.specs.Prelude.{Bool as BoolValue, true, false, option_map, slice_get, if◌then◌else◌}
use Rattle.cbase.specs.declared.abi.Abi.{Abi}
use Rattle.cbase.specs.declared.ctype.CType.{CType}
use Rattle.cbase.specs.declared.structs.StructDef.{StructDef}
use Rattle.cbase.specs.declared.layout.Layout.{Layout}
use Rattle.cbase.specs.Layout.{type_layout, struct_at, struct_layout}
use Rattle.cbase.specs.Kept.{capped}
use Rattle.cbase.proofs.Deeper.{GivesMore, type_more, definition_more}

-- each struct that is complete stays as it is
abbrev pub GrowsTo : List StructDef → List StructDef → Type 0
GrowsTo structs more = (number : ℕ) (definition : StructDef) → slice_get structs number ≡ Some definition → definition.complete ≡ true → slice_get more number ≡ Some definition

-- what has a layout is complete
laid_complete : (complete : BoolValue) (laid : Option Layout) (l : Layout) → (if complete then laid else None) ≡ Some l → complete ≡ true
laid_complete true laid l e = refl
laid_complete false laid l e = cc

found_more : (some more : CType → Option Layout) → GivesMore some more → (first second : Option StructDef)
    → ((definition : StructDef) → first ≡ Some definition → definition.complete ≡ true → second ≡ Some definition)
    → (l : Layout) → struct_layout some first ≡ Some l → struct_layout more second ≡ Some l
found_more some more h None second stays l e = cc
found_more some more h (Some definition) second stays l e = rw (stays definition refl (laid_complete definition.complete _ l e)) (definition_more some more h (Some definition) l e)

pub grown : (abi : Abi) (structs more : List StructDef) → GrowsTo structs more → (depth deeper : ℕ) → depth ≤ deeper → GivesMore (struct_at abi depth structs) (struct_at abi deeper more)
grown abi structs more grows zero deeper h number l e = cc
grown abi structs more grows (suc depth) zero h number l e = absurd (omega arith)
grown abi structs more grows (suc depth) (suc deeper) h number l e =
    found_more (type_layout abi (struct_at abi depth structs)) (type_layout abi (struct_at abi deeper more))
    (type_more abi _ _ (grown abi structs more grows depth deeper (omega arith))) (slice_get structs number) (slice_get more number) (grows number) l e

pub kept_more : (first second : Option Layout) (kept : Layout) → ((l : Layout) → first ≡ Some l → second ≡ Some l) → option_map capped first ≡ Some kept → option_map capped second ≡ Some kept
kept_more None second kept h e = cc
kept_more (Some l) second kept h e = rw (h l refl) e

-- a struct whose fields are not given has no layout
pub incomplete_none : (abi : Abi) (depth : ℕ) (structs : List StructDef) (number : ℕ) (definition : StructDef) → slice_get structs number ≡ Some definition → definition.complete ≡ false → struct_at abi depth structs number ≡ None
incomplete_none abi zero structs number definition found incomplete = refl
incomplete_none abi (suc depth) structs number definition found incomplete = rw (found, incomplete) refl

pub missing_none : (abi : Abi) (depth : ℕ) (structs : List StructDef) (number : ℕ) → slice_get structs number ≡ None → struct_at abi depth structs number ≡ None
missing_none abi zero structs number missing = refl
missing_none abi (suc depth) structs number missing = rw missing refl
