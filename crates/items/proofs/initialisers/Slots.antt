-- What braces fill, by the shape of a type in the table, and what stands in it.
use Rattle.std.proofs.Common.{◌≡◌, ◌<◌, ◌∙◌, ℕ, Bool, List, [], ◌∷◌, length, refl, sym, ap, Option, None, Some}
use Rattle.std.specs.Prelude.{slice_get, option_map, IfSome}
use Rattle.cbase.specs.declared.abi.Abi.{Abi}
use Rattle.cbase.specs.declared.ctype.CType.{CType}
use Rattle.cbase.specs.declared.ctype.CType.TheViews.{out-CType, outs-Void, outs-Bool, outs-Int, outs-Pointer, outs-Struct, outs-Array}
use Rattle.cbase.specs.declared.structs.Field.{Field}
use Rattle.cbase.specs.declared.structs.StructDef.{StructDef}
use Rattle.cbase.specs.Offset.{fields_of}
use Rattle.typing.specs.declared.ctypes.shape.Shape.{Shape}
use Rattle.typing.specs.declared.ctypes.shape.Shape.TheVariants.{Void as VoidShape, Bool as BoolShape, Int as IntShape, Pointer as PointerShape, Struct as StructShape, Array as ArrayShape}
use Rattle.typing.specs.ctypes.Table.{type_at, type_of}
use Rattle.typing.specs.Initialisers.{Members, filled_of, filled_in, one_of, items_of}
use Rattle.expressions.specs.declared.part.Slot.{Slot as SlotByNumber}
use Rattle.expressions.specs.Context.{Context, Agrees}
use Rattle.expressions.specs.Nests.{slot_at}
use Rattle.expressions.specs.Numbers.{Numbering}
use Rattle.expressions.proofs.Growth.{agrees_at}
use Rattle.items.specs.declared.initialisers.filled.Filled.{Filled as FilledByNumber}
use Rattle.items.specs.initialisers.Filled.{filled_at, IsKept, IsFilled}

module _ (now : Context) (slot : SlotByNumber) (shape : Shape) (below : slot.ctype < length now.types) (reads : type_at now.types slot.ctype ≡ type_of now.types shape) where
  -- by the shape of the type
  by_shape : (known : Shape) → shape ≡ known → (n : Numbering) (abi : Abi) → Agrees n now
      → filled_of abi now.structs (slot_at n slot) ≡ filled_in abi now.structs (slot_at n slot) (out-CType (type_of now.types known))
  by_shape known is n abi agrees =
      ap (λ (t : CType). filled_in abi now.structs (slot_at n slot) (out-CType t)) (agrees_at n now slot.ctype agrees below ∙ (reads ∙ ap (type_of now.types) is))

  pub void_filled : shape ≡ VoidShape → IsFilled now slot None
  void_filled is = (tt, λ n abi agrees. by_shape VoidShape is n abi agrees ∙ ap (filled_in abi now.structs (slot_at n slot)) outs-Void)

  module _ (found : Option FilledByNumber) (meant : (n : Numbering) (structs : List StructDef) → one_of (slot_at n slot) ≡ option_map (filled_at n structs) found)
      (stays : (count : ℕ) (structs : List StructDef) → slot.ctype < count → IfSome found (IsKept count structs)) where
    pub truth_filled : shape ≡ BoolShape → IsFilled now slot found
    truth_filled is = (stays (length now.types) now.structs below, λ n abi agrees. by_shape BoolShape is n abi agrees ∙ (ap (filled_in abi now.structs (slot_at n slot)) outs-Bool ∙ meant n now.structs))

    pub integer_filled : (bytes : ℕ) (signed : Bool) → shape ≡ IntShape bytes signed → IsFilled now slot found
    integer_filled bytes signed is = (
      stays (length now.types) now.structs below,
      λ n abi agrees.
          by_shape (IntShape bytes signed) is n abi agrees ∙ (ap (filled_in abi now.structs (slot_at n slot)) (outs-Int bytes signed) ∙ meant n now.structs),
    )

    pub pointer_filled : (item : ℕ) → shape ≡ PointerShape item → IsFilled now slot found
    pointer_filled item is = (
      stays (length now.types) now.structs below,
      λ n abi agrees.
          by_shape (PointerShape item) is n abi agrees ∙ (ap (filled_in abi now.structs (slot_at n slot)) (outs-Pointer (type_at now.types item)) ∙ meant n now.structs),
    )

  pub struct_filled : (of : ℕ) (filled : FilledByNumber) → shape ≡ StructShape of → IsKept (length now.types) now.structs filled
      → ((n : Numbering) → Members slot.offset (fields_of now.structs of) ≡ filled_at n now.structs filled) → IsFilled now slot (Some filled)
  struct_filled of filled is stays meant = (
    stays,
    λ n abi agrees.
        by_shape (StructShape of) is n abi agrees ∙ (ap (filled_in abi now.structs (slot_at n slot)) (outs-Struct of) ∙ ap Some (meant n)),
  )

  pub array_filled : (item count : ℕ) (filled : FilledByNumber) → shape ≡ ArrayShape item count → item < length now.types → IsKept (length now.types) now.structs filled
      → ((n : Numbering) (abi : Abi) → Agrees n now → items_of abi now.structs slot.offset (n.ctype item) count ≡ filled_at n now.structs filled) → IsFilled now slot (Some filled)
  array_filled item count filled is inside stays meant = (
    stays,
    λ n abi agrees.
        by_shape (ArrayShape item count) is n abi agrees
        ∙ (ap (filled_in abi now.structs (slot_at n slot)) (outs-Array (type_at now.types item) count)
        ∙ (ap (λ (t : CType). Some (items_of abi now.structs slot.offset t count)) (sym (agrees_at n now item agrees inside)) ∙ ap Some (meant n abi agrees))),
  )

-- a struct without a first member has none
pub nothing_first : (fields : List Field) → slice_get fields 0 ≡ None → fields ≡ []
nothing_first [] is = refl
nothing_first (first ∷ fields) is = cc is
