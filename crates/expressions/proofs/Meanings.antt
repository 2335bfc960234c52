-- What a numbering says of the type of a number, by the shape that a table has of it. `now` is a context, and `view` what its fields make up.
use Rattle.std.proofs.Common.{◌≡◌, ℕ, ◌<◌, List, length, sym, ap, ◌∙◌, arith}
use Rattle.cbase.specs.declared.ctype.CType.{CType}
use Rattle.cbase.specs.declared.structs.StructDef.{StructDef}
use Rattle.typing.specs.declared.ctypes.shape.Shape.{Shape}
use Rattle.typing.specs.ctypes.Table.{type_at, type_of}
use Rattle.typing.specs.ctypes.Kinds.{kind_of}
use Rattle.typing.proofs.ctypes.ShapeKinds.{kind_of_shape, kind_is}
use Rattle.expressions.specs.Context.{Context, Agrees}
use Rattle.expressions.specs.Numbers.{Numbering}
use Rattle.expressions.proofs.Growth.{agrees_at}

module _ {view now : Context} (same : view ≡ now) where
  pub below_now : (number : ℕ) → number < length view.types → number < length now.types
  below_now number below = omega (arith, below, ap (λ (context : Context). length context.types) same)

  pub type_meant : (number : ℕ) → number < length now.types → (n : Numbering) → Agrees n now → n.ctype number ≡ type_at view.types number
  type_meant number below n agrees = agrees_at n now number agrees below ∙ ap (λ (context : Context). type_at context.types number) (sym same)

  -- the kind of the type
  pub kind_meant : (number : ℕ) (shape : Shape) → number < length now.types → type_at view.types number ≡ type_of view.types shape
      → (n : Numbering) → Agrees n now → kind_of now.structs (n.ctype number) ≡ kind_of_shape view.structs view.types shape
  kind_meant number shape below is n agrees =
      ap (λ (context : Context). kind_of context.structs (n.ctype number)) (sym same)
      ∙ (ap (kind_of view.structs) (type_meant number below n agrees) ∙ sym (kind_is view.structs view.types (type_at view.types number) shape is))

  -- what is computed of the structs and of one, two and three types
  pub of_one : {A : Type 0} (f : List StructDef → CType → A) (first : ℕ) → first < length now.types
      → (n : Numbering) → Agrees n now → f now.structs (n.ctype first) ≡ f view.structs (type_at view.types first)
  of_one f first below n agrees =
      ap (λ (context : Context). f context.structs (n.ctype first)) (sym same) ∙ ap (f view.structs) (type_meant first below n agrees)

  pub of_two : {A : Type 0} (f : List StructDef → CType → CType → A) (first second : ℕ) → first < length now.types → second < length now.types
      → (n : Numbering) → Agrees n now → f now.structs (n.ctype first) (n.ctype second) ≡ f view.structs (type_at view.types first) (type_at view.types second)
  of_two f first second below second_below n agrees =
      of_one (λ structs t. f structs t (n.ctype second)) first below n agrees
      ∙ ap (f view.structs (type_at view.types first)) (type_meant second second_below n agrees)

  pub of_three : {A : Type 0} (f : List StructDef → CType → CType → CType → A) (first second third : ℕ)
      → first < length now.types → second < length now.types → third < length now.types → (n : Numbering) → Agrees n now
      → f now.structs (n.ctype first) (n.ctype second) (n.ctype third) ≡ f view.structs (type_at view.types first) (type_at view.types second) (type_at view.types third)
  of_three f first second third below second_below third_below n agrees =
      of_two (λ structs t u. f structs t u (n.ctype third)) first second below second_below n agrees
      ∙ ap (f view.structs (type_at view.types first) (type_at view.types second)) (type_meant third third_below n agrees)
