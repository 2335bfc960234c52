-- The types that a table of shapes stands for (C11 6.2.5).
use Rattle.std.specs.Prelude.{◌≡◌, ◌⊎◌, ℕ, ◌<◌, ◌++◌, List, [], ◌∷◌, Some, fold, length, slice_get, slice_index_or}
use Rattle.cbase.specs.declared.ctype.CType.{CType}
use Rattle.cbase.specs.declared.ctype.CType.TheVariants.{Void as VoidType, Bool as BoolType, Int as IntType, Pointer as PointerType, Struct as StructType, Array as ArrayType}
use Rattle.typing.specs.declared.ctypes.shape.Shape.{Shape}
use Rattle.typing.specs.declared.ctypes.shape.Shape.TheVariants.{Void, Bool, Int, Pointer, Struct, Array}

-- the type of a number, and void past the last one
abbrev pub type_at : List CType → ℕ → CType
type_at types number = slice_index_or types number VoidType

-- the type of a shape, where `types` are those of the numbers
abbrev pub type_of : List CType → Shape → CType
type_of types Void = VoidType
type_of types Bool = BoolType
type_of types (Int bytes signed) = IntType bytes signed
type_of types (Pointer item) = PointerType (type_at types item)
type_of types (Struct number) = StructType number
type_of types (Array item count) = ArrayType (type_at types item) count

-- the types of shapes, each of which names types before it
abbrev pub types_of : List Shape → List CType
types_of shapes = fold (λ types shape. types ++ type_of types shape ∷ []) [] shapes

-- the numbers in a shape are below `count`
abbrev pub NamesBelow : ℕ → Shape → Type 0
NamesBelow count Void = Unit {0}
NamesBelow count Bool = Unit {0}
NamesBelow count (Int bytes signed) = Unit {0}
NamesBelow count (Pointer item) = item < count
NamesBelow count (Struct number) = Unit {0}
NamesBelow count (Array item items) = item < count

-- no two numbers are those of one type
abbrev pub AreApart : List CType → Type 0
AreApart types = (i j : ℕ) → i < length types → j < length types → type_at types i ≡ type_at types j → i ≡ j

-- the types of shapes: each shape names types before it and is that of its number's type, and equal types have one number
pub record StandsFor (types : List CType) (shapes : List Shape) : Type 0 where
  pub size : length types ≡ length shapes
  pub below : (number : ℕ) (shape : Shape) → slice_get shapes number ≡ Some shape → NamesBelow number shape
  pub reads : (number : ℕ) (shape : Shape) → slice_get shapes number ≡ Some shape → type_at types number ≡ type_of types shape
  pub apart : AreApart types

-- a row of shapes that a table may hold
abbrev pub IsTable : List Shape → Type 0
IsTable shapes = StandsFor (types_of shapes) shapes

-- `new` are the types of `old`, or these and one more behind them
abbrev pub Grows : List CType → CType → List CType → Type 0
Grows old t new = (new ≡ old) ⊎ (new ≡ old ++ t ∷ [])

-- `new` are the types of `old` and the one of `number`, which stands behind the others where it is new; no two are one type
abbrev pub Interns : List CType → CType → List CType → ℕ → Type 0
Interns old t new number = (slice_get new number ≡ Some t) × Grows old t new × AreApart new
