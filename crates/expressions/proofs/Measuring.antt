-- Numbers of bytes, and members, as a table of types has them.
use Rattle.std.proofs.Common.{◌≡◌, ℕ, Bool, true, false, List, slice_get, refl, sym, ap, ◌∙◌, Option, None, Some}
use Rattle.std.specs.Prelude.{option_map, option_and_then, nat_le, if◌then◌else◌}
use Rattle.cbase.specs.declared.abi.Abi.{Abi}
use Rattle.cbase.specs.declared.ctype.CType.{CType}
use Rattle.cbase.specs.declared.layout.Layout.{Layout}
use Rattle.cbase.specs.declared.measure.Extent.TheVariants.{Bytes, TooLarge}
use Rattle.cbase.specs.declared.structs.StructDef.{StructDef}
use Rattle.cbase.specs.Layout.{layout_of, extent_of}
use Rattle.cbase.specs.Offset.{fields_of, index_of}
use Rattle.typing.specs.declared.ctypes.kind.Target.{Target}
use Rattle.typing.specs.ctypes.Kinds.{Kind, Array, kind_of, has_size}
use Rattle.typing.specs.ctypes.Members.{type_of_member, member_in, member_of}
use Rattle.typing.specs.Idiom.{at_most, item_bytes}
use Rattle.typing.specs.Nodes.{size_told}
use Rattle.expressions.specs.Context.{Context}

-- a size of at most 65,536 bytes
told_size : (size : ℕ) (small : Bool) → size_told (if small then Bytes size else TooLarge) ≡ (if small then Some size else None)
told_size size true = refl
told_size size false = refl

told_of : (layout : Option Layout) → size_told (extent_of layout) ≡ option_and_then (λ one. at_most one.size) layout
told_of None = refl
told_of (Some layout) = told_size layout.size (nat_le layout.size 65536)

-- a member by its kind and whether its struct is complete
pub member_as : (structs : List StructDef) (t : CType) (name : List ℕ) (sized : Bool) (kind : Kind) → has_size structs t ≡ sized → kind_of structs t ≡ kind
    → member_of structs t name ≡ member_in structs sized kind name
member_as structs t name sized kind sizes kinds =
    ap (λ (told : Bool). member_in structs told (kind_of structs t) name) sizes ∙ ap (λ (one : Kind). member_in structs sized one name) kinds

module _ {view now : Context} (same : view ≡ now) where
  pub item_bytes_now : (abi : Abi) (item : CType) (target : Target) → size_told (extent_of (layout_of abi view.structs item)) ≡ item_bytes abi now.structs (Array item target)
  item_bytes_now abi item target =
      told_of (layout_of abi view.structs item) ∙ ap (λ (context : Context). item_bytes abi context.structs (Array item target)) same

  pub no_member : (number : ℕ) (name : List ℕ) → None ≡ index_of name (fields_of view.structs number) → type_of_member now.structs number name ≡ None
  no_member number name is =
      ap (λ (context : Context). type_of_member context.structs number name) (sym same)
      ∙ sym (ap (λ (index : Option ℕ). option_and_then (λ one. option_map (λ field. field.ctype) (slice_get (fields_of view.structs number) one)) index) is)

  pub member_is : (number : ℕ) (name : List ℕ) (index : ℕ) (t : CType) → Some index ≡ index_of name (fields_of view.structs number)
      → option_map (λ field. field.ctype) (slice_get (fields_of view.structs number) index) ≡ Some t → type_of_member now.structs number name ≡ Some t
  member_is number name index t at is =
      ap (λ (context : Context). type_of_member context.structs number name) (sym same)
      ∙ (sym (ap (λ (found : Option ℕ). option_and_then (λ one. option_map (λ field. field.ctype) (slice_get (fields_of view.structs number) one)) found) at) ∙ is)
