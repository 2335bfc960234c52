-- Types variant by variant: a proof by induction, and the layout of each.
use Rattle.std.proofs.Common.{◌≡◌, ℕ, Option, Some, None, sym, ap, subst, ◌∙◌}
use Rattle.std.specs.Prelude.{Bool as BoolValue, option_map, if◌then◌else◌}
use Rattle.cbase.specs.declared.abi.Abi.{Abi}
use Rattle.cbase.specs.declared.ctype.CType.{CType, roll-CType}
use Rattle.cbase.specs.declared.ctype.CType.TheVariants.{Void, Bool, Int, Pointer, Struct, Array, rolls-Void, rolls-Bool, rolls-Int, rolls-Pointer, rolls-Struct, rolls-Array}
use Rattle.cbase.specs.declared.ctype.CType.TheOpen.{Void as VoidOpen, Bool as BoolOpen, Int as IntOpen, Pointer as PointerOpen, Struct as StructOpen, Array as ArrayOpen}
use Rattle.cbase.specs.declared.ctype.CType.TheFolds.{fold-roll-CType, ind-CType, map-CType}
use Rattle.cbase.specs.declared.layout.Layout.{Layout}
use Rattle.cbase.specs.Layout.{type_layout, type_step, scalar, is_integer_size, pointer_bytes, repeated}

-- what holds of an array where it holds of its item
pub type_induction : (P : CType → Type 0) → P Void → P Bool → ((bytes : ℕ) (signed : BoolValue) → P (Int bytes signed)) → ((item : CType) → P (Pointer item))
    → ((number : ℕ) → P (Struct number)) → ((item : CType) (count : ℕ) → P item → P (Array item count)) → (t : CType) → P t
type_induction P void bool int pointer struct array =
    ind-CType P (λ x y e. subst (λ v. P (roll-CType v)) e (elim y as (λ v. P (roll-CType (map-CType _ _ (λ q. q.0) v))) [
      | VoidOpen ↦ subst P (sym rolls-Void) void
      | BoolOpen ↦ subst P (sym rolls-Bool) bool
      | IntOpen bytes signed ↦ subst P (sym (rolls-Int bytes signed)) (int bytes signed)
      | PointerOpen item ↦ subst P (sym (rolls-Pointer item.0)) (pointer item.0)
      | StructOpen number ↦ subst P (sym (rolls-Struct number)) (struct number)
      | ArrayOpen item count ↦ subst P (sym (rolls-Array item.0 count)) (array item.0 count item.1)
    ]))

pub type_layout-Array : (abi : Abi) (of_struct : ℕ → Option Layout) (t : CType) (count : ℕ) → type_layout abi of_struct (Array t count) ≡ option_map (repeated count) (type_layout abi of_struct t)
unfolding type_layout
type_layout-Array abi of_struct t count = ap (type_layout abi of_struct) (sym (rolls-Array t count)) ∙ fold-roll-CType (Option Layout) (type_step abi of_struct) (ArrayOpen t count)

pub type_layout-Void : (abi : Abi) (of_struct : ℕ → Option Layout) → type_layout abi of_struct Void ≡ None
unfolding type_layout
type_layout-Void abi of_struct = ap (type_layout abi of_struct) (sym rolls-Void) ∙ fold-roll-CType (Option Layout) (type_step abi of_struct) VoidOpen

pub type_layout-Bool : (abi : Abi) (of_struct : ℕ → Option Layout) → type_layout abi of_struct Bool ≡ Some (scalar 1)
unfolding type_layout
type_layout-Bool abi of_struct = ap (type_layout abi of_struct) (sym rolls-Bool) ∙ fold-roll-CType (Option Layout) (type_step abi of_struct) BoolOpen

pub type_layout-Int : (abi : Abi) (of_struct : ℕ → Option Layout) (bytes : ℕ) (signed : BoolValue) → type_layout abi of_struct (Int bytes signed) ≡ (if is_integer_size bytes then Some (scalar bytes) else None)
unfolding type_layout
type_layout-Int abi of_struct bytes signed = ap (type_layout abi of_struct) (sym (rolls-Int bytes signed)) ∙ fold-roll-CType (Option Layout) (type_step abi of_struct) (IntOpen bytes signed)

pub type_layout-Pointer : (abi : Abi) (of_struct : ℕ → Option Layout) (t : CType) → type_layout abi of_struct (Pointer t) ≡ Some (scalar (pointer_bytes abi))
unfolding type_layout
type_layout-Pointer abi of_struct t = ap (type_layout abi of_struct) (sym (rolls-Pointer t)) ∙ fold-roll-CType (Option Layout) (type_step abi of_struct) (PointerOpen t)

pub type_layout-Struct : (abi : Abi) (of_struct : ℕ → Option Layout) (number : ℕ) → type_layout abi of_struct (Struct number) ≡ of_struct number
unfolding type_layout
type_layout-Struct abi of_struct number = ap (type_layout abi of_struct) (sym (rolls-Struct number)) ∙ fold-roll-CType (Option Layout) (type_step abi of_struct) (StructOpen number)
