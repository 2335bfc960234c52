-- Two types are one exactly where their numbers are.
use Rattle.std.proofs.Common.{◌≡◌, ℕ, ◌<◌, ◌∙◌, Bool, true, false, not, eqb, List, Some, Option, None, length, sym, ap, refl}
use Rattle.std.proofs.lemmas.Bool.{eqb-true, eq-eqb}
use Rattle.std.proofs.lemmas.Option.{slice_get-get_or}
use Rattle.cbase.specs.declared.ctype.CType.{CType}
use Rattle.cbase.specs.declared.ctype.CType.TheVariants.{Void}
use Rattle.cbase.specs.declared.ctype.CType.TheOpen.{CType-F, Void as VoidOpen, Bool as BoolOpen, Int as IntOpen, Pointer as PointerOpen, Struct as StructOpen, Array as ArrayOpen}
use Rattle.cbase.specs.declared.ctype.CType.TheViews.{out-CType}
use Rattle.cbase.specs.declared.structs.StructDef.{StructDef}
use Rattle.typing.specs.ctypes.Table.{type_at}
use Rattle.typing.specs.declared.environment.entity.DeclaredType.{DeclaredType}
use Rattle.typing.specs.declared.environment.entity.DeclaredType.TheVariants.{Whole, UnsizedArray}
use Rattle.typing.specs.environment.Bounds.{DeclaredBelow}
use Rattle.typing.specs.ctypes.Kinds.{kind_in, kind_of}
use Rattle.typing.specs.Declarations.{AreTwo, items_in}
use Rattle.typing.specs.Entities.{DeclaredType as TypeDeclared, WholeType, ItemsOf}
use Rattle.typing.specs.Paths.{item_in}
use Rattle.expressions.specs.Context.{Context, Agrees}
use Rattle.expressions.specs.Language.{declared_number}
use Rattle.expressions.specs.Numbers.{Numbering, declared_type_at}
use Rattle.expressions.proofs.Growth.{agrees_at}

-- numbers that a test tells apart
apart_by : (first second : ℕ) (same : Bool) → eqb first second ≡ same → AreTwo first second (not same)
apart_by first second true is = eqb-true first second is
apart_by first second false is = λ same. cc (eq-eqb first second same, is)

pub apart : (first second : ℕ) → AreTwo first second (not (eqb first second))
apart first second = apart_by first second (eqb first second) refl

-- the type of a declaration, whole or by its items
abbrev type_in : TypeDeclared → CType
type_in (WholeType t) = t
type_in (ItemsOf item) = item

abbrev some_type : CType → Option CType → CType
some_type t None = t
some_type t (Some other) = other

module _ (n : Numbering) (context : Context) (agrees : Agrees n context) where
  -- a number is that of its type
  pub number_back : (number : ℕ) → number < length context.types → n.number (n.ctype number) ≡ number
  number_back number below =
      ap n.number (agrees_at n context number agrees below) ∙ agrees.numbers number (type_at context.types number) (slice_get-get_or context.types number Void below)

  pub one_number : (first second : ℕ) → first < length context.types → second < length context.types → n.ctype first ≡ n.ctype second → first ≡ second
  one_number first second below also same = sym (number_back first below) ∙ (ap n.number same ∙ number_back second also)

  pub declared_back : (t : DeclaredType) → DeclaredBelow (length context.types) t → declared_number n (declared_type_at n t) ≡ t
  declared_back (Whole number) below = ap Whole (number_back number below)
  declared_back (UnsizedArray item) below = ap UnsizedArray (number_back item below)

  -- two numbers are those of two types
  pub two_types : (first second : ℕ) (two : Bool) → first < length context.types → second < length context.types → AreTwo first second two → AreTwo (n.ctype first) (n.ctype second) two
  two_types first second true below also apart = λ same. apart (one_number first second below also same)
  two_types first second false below also same = ap n.ctype same

  pub two_some : (first second : ℕ) (two : Bool) → first < length context.types → second < length context.types → AreTwo first second two → AreTwo (Some (n.ctype first)) (Some (n.ctype second)) two
  two_some first second true below also apart = λ same. apart (one_number first second below also (ap (some_type (n.ctype first)) same))
  two_some first second false below also same = ap (λ (number : ℕ). Some (n.ctype number)) same

  pub one_declared : (first second : DeclaredType) → DeclaredBelow (length context.types) first → DeclaredBelow (length context.types) second
      → declared_type_at n first ≡ declared_type_at n second → first ≡ second
  one_declared (Whole first) (Whole second) below also same = ap Whole (one_number first second below also (ap type_in same))
  one_declared (UnsizedArray first) (UnsizedArray second) below also same = ap UnsizedArray (one_number first second below also (ap type_in same))
  one_declared (Whole first) (UnsizedArray second) below also same = cc same
  one_declared (UnsizedArray first) (Whole second) below also same = cc same

  pub two_declared : (first second : DeclaredType) (two : Bool) → DeclaredBelow (length context.types) first → DeclaredBelow (length context.types) second
      → AreTwo first second two → AreTwo (declared_type_at n first) (declared_type_at n second) two
  two_declared first second true below also apart = λ same. apart (one_declared first second below also same)
  two_declared first second false below also same = ap (declared_type_at n) same

-- the items of an array, by its kind
items_by_kind : (structs : List StructDef) (layer : CType-F CType) → item_in (kind_in structs layer) ≡ items_in layer
items_by_kind structs VoidOpen = refl
items_by_kind structs BoolOpen = refl
items_by_kind structs (IntOpen bytes signed) = refl
items_by_kind structs (PointerOpen item) = refl
items_by_kind structs (StructOpen number) = refl
items_by_kind structs (ArrayOpen item count) = refl

pub items_are : (structs : List StructDef) (t : CType) → item_in (kind_of structs t) ≡ items_in (out-CType t)
items_are structs t = items_by_kind structs (out-CType t)
