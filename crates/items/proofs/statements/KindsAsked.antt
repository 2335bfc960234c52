-- What is asked of the kind of a type.
use Rattle.std.proofs.Common.{◌≡◌, ◌<◌, ◌∙◌, ℕ, Bool, true, false, List, length, refl, sym, ap, subst, Option}
use Rattle.std.specs.Prelude.{not}
use Rattle.cbase.specs.declared.ctype.CType.{CType}
use Rattle.cbase.specs.declared.place.Place.{Place}
use Rattle.cbase.specs.declared.structs.StructDef.{StructDef}
use Rattle.typing.specs.declared.ctypes.shape.Shape.{Shape}
use Rattle.typing.specs.declared.ctypes.shape.Shape.TheVariants.{Void as VoidShape, Bool as BoolShape, Int as IntShape, Pointer as PointerShape, Struct as StructShape, Array as ArrayShape}
use Rattle.typing.specs.ctypes.Table.{type_at, type_of}
use Rattle.typing.specs.declared.ctypes.found.Broken.TheVariants.{Rule}
use Rattle.typing.specs.ctypes.Binary.{is_scalar}
use Rattle.typing.specs.ctypes.Converting.{converts}
use Rattle.typing.specs.ctypes.Kinds.{Kind, Integer, Pointer, Array, Struct, Void, kind_of}
use Rattle.typing.proofs.ctypes.ShapeKinds.{kind_of_shape}
use Rattle.typing.specs.declared.fault.Fault.{Fault}
use Rattle.typing.specs.Calls.{is_struct}
use Rattle.typing.specs.Faults.{unless}
use Rattle.typing.specs.Statements.{result_faults, is_void}
use Rattle.expressions.specs.Context.{Context, Agrees}
use Rattle.expressions.specs.Numbers.{Numbering}
use Rattle.expressions.specs.Settled.{IsFirstOf}
use Rattle.expressions.proofs.Meanings.{kind_meant}

module _ (context : Context) (number : ℕ) (below : number < length context.types) where
  void_shape : (shape : Shape) (answer : Bool) → is_void (kind_of_shape context.structs context.types shape) ≡ answer
      → type_at context.types number ≡ type_of context.types shape
      → (n : Numbering) → Agrees n context → answer ≡ is_void (kind_of context.structs (n.ctype number))
  void_shape shape answer says is n agrees = sym (ap is_void (kind_meant {view = context} {now = context} refl number shape below is n agrees) ∙ says)

  pub is_void_type : type_at context.types number ≡ type_of context.types VoidShape → (n : Numbering) → Agrees n context → true ≡ is_void (kind_of context.structs (n.ctype number))
  is_void_type = void_shape VoidShape true refl

  other_shape : (structs : List StructDef) (types : List CType) (shape : Shape) → (shape ≡ VoidShape → ⊥) → is_void (kind_of_shape structs types shape) ≡ false
  other_shape structs types VoidShape other = absurd (other refl)
  other_shape structs types BoolShape other = refl
  other_shape structs types (IntShape bytes signed) other = refl
  other_shape structs types (PointerShape item) other = refl
  other_shape structs types (StructShape of) other = refl
  other_shape structs types (ArrayShape item count) other = refl

  pub is_other_type : (shape : Shape) → (shape ≡ VoidShape → ⊥) → type_at context.types number ≡ type_of context.types shape
      → (n : Numbering) → Agrees n context → false ≡ is_void (kind_of context.structs (n.ctype number))
  is_other_type shape other = void_shape shape false (other_shape context.structs context.types shape other)

-- numbers and pointers are neither `void` nor structs
pub no_scalar : (kind : Kind) → is_void kind ≡ true → false ≡ is_scalar kind
no_scalar Void void = refl
no_scalar (Integer t) void = absurd cc
no_scalar (Pointer item target) void = absurd cc
no_scalar (Array item target) void = absurd cc
no_scalar (Struct number) void = absurd cc

no_struct : (kind : Kind) → is_void kind ≡ false → not (is_struct kind) ≡ is_scalar kind
no_struct Void other = absurd cc
no_struct (Integer t) other = refl
no_struct (Pointer item target) other = refl
no_struct (Array item target) other = refl
no_struct (Struct number) other = refl

pub scalar_of : (kind : Kind) (struct : Bool) → is_void kind ≡ false → struct ≡ is_struct kind → not struct ≡ is_scalar kind
scalar_of kind struct other is = ap not is ∙ no_struct kind other

-- what is broken at the value of `return`, in a function without a result and in another
void_result : (word place : Place) (result value : Kind) (null : Bool) → is_void result ≡ true → result_faults word place result value null ≡ unless false word (Rule 11)
void_result word place Void value null void = refl
void_result word place (Integer t) value null void = absurd cc
void_result word place (Pointer item target) value null void = absurd cc
void_result word place (Array item target) value null void = absurd cc
void_result word place (Struct number) value null void = absurd cc

other_result : (word place : Place) (result value : Kind) (null : Bool) → is_void result ≡ false → result_faults word place result value null ≡ unless (converts result value null) place (Rule 5)
other_result word place Void value null other = absurd cc
other_result word place (Integer t) value null other = refl
other_result word place (Pointer item target) value null other = refl
other_result word place (Array item target) value null other = refl
other_result word place (Struct number) value null other = refl

pub void_result_first : (word place : Place) (result value : Kind) (null : Bool) (first : Option Fault) → is_void result ≡ true → IsFirstOf (unless false word (Rule 11)) first
    → IsFirstOf (result_faults word place result value null) first
void_result_first word place result value null first void is = subst (λ (faults : List Fault). IsFirstOf faults first) (sym (void_result word place result value null void)) is

pub other_result_first : (word place : Place) (result value : Kind) (null does : Bool) (first : Option Fault) → is_void result ≡ false → does ≡ converts result value null
    → IsFirstOf (unless does place (Rule 5)) first → IsFirstOf (result_faults word place result value null) first
other_result_first word place result value null does first other same is =
    subst (λ (faults : List Fault). IsFirstOf faults first) (ap (λ (b : Bool). unless b place (Rule 5)) same ∙ sym (other_result word place result value null other)) is

-- what is asked is what the relation asks
pub unless_as : (asked wanted : Bool) (place : Place) (rule : ℕ) (faults : List Fault) (first : Option Fault) → asked ≡ wanted → unless wanted place (Rule rule) ≡ faults
    → IsFirstOf (unless asked place (Rule rule)) first → IsFirstOf faults first
unless_as asked wanted place rule faults first same whole is = subst (λ (all : List Fault). IsFirstOf all first) (ap (λ (b : Bool). unless b place (Rule rule)) same ∙ whole) is
