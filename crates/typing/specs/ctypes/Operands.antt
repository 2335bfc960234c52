-- What is known of an operand, and how a table of types holds it.
use Rattle.std.specs.Prelude.{◌≡◌, ℕ, ◌<◌, Bool, List, Some, slice_get}
use Rattle.cbase.specs.declared.ctype.CType.{CType}
use Rattle.cbase.specs.declared.ctype.CType.TheVariants.{Void as VoidType, Int as IntType, Pointer as PointerType}
use Rattle.typing.specs.ctypes.Table.{type_at, Grows}
use Rattle.typing.specs.ctypes.Structs.{TypeTable}
use Rattle.typing.specs.declared.ctypes.kind.Kind.{Kind as KindByNumber}
use Rattle.typing.specs.declared.ctypes.kind.Kind.TheVariants.{Integer as IntegerByNumber, Pointer as PointerByNumber, Array as ArrayByNumber, Struct as StructByNumber, Void as VoidByNumber}
use Rattle.typing.specs.declared.ctypes.found.Found.{Found}
use Rattle.typing.specs.declared.ctypes.found.Found.TheVariants.{Same, Integer as FoundInteger, Pointer as FoundPointer, Void as FoundVoid, Broken as FoundBroken}
use Rattle.typing.specs.declared.ctypes.found.Outcome.{Outcome}
use Rattle.typing.specs.declared.ctypes.found.Outcome.TheVariants.{Typed as OutcomeTyped, Broken as OutcomeBroken}
use Rattle.typing.specs.declared.ctypes.operand.Operand.{Operand as OperandByNumber}
use Rattle.typing.specs.declared.ctypes.operand.Seen.{Seen}
use Rattle.typing.specs.ctypes.Broken.{Judgement, Typed, Breaks}
use Rattle.typing.specs.ctypes.Kinds.{Kind, Integer, Pointer, Array, Struct, Void, kind_of}

-- an operand: its own type, in which an array is no pointer yet; whether it is an lvalue (C11 6.3.2.1p1); whether it is a null
-- pointer constant, an integer constant expression 0 or such a one cast to `void *` (6.3.2.3p3)
pub record Operand : Type 0 where
  pub ctype : CType
  pub kind : Kind
  pub lvalue : Bool
  pub null : Bool

-- the operand that a number of a type is for
abbrev pub operand_of : TypeTable → OperandByNumber → Operand
operand_of table operand = record {
  ctype = type_at table.types operand.ctype;
  kind = kind_of table.structs (type_at table.types operand.ctype);
  lvalue = operand.lvalue;
  null = operand.null;
}

-- the kind that is kept with numbers for types
abbrev pub kind_at : List CType → KindByNumber → Kind
kind_at types (IntegerByNumber t) = Integer t
kind_at types (PointerByNumber item target) = Pointer (type_at types item) target
kind_at types (ArrayByNumber item target) = Array (type_at types item) target
kind_at types (StructByNumber number) = Struct number
kind_at types VoidByNumber = Void

-- the same of an operand that was looked at
abbrev pub seen_at : List CType → Seen → Operand
seen_at types seen = record {
  ctype = type_at types seen.ctype;
  kind = kind_at types seen.kind;
  lvalue = seen.lvalue;
  null = seen.null;
}

-- what was found, with a number for a type that is there, and the type itself for one that may not be there yet
abbrev pub found_at : List CType → Found → Judgement
found_at types (Same number) = Typed (type_at types number)
found_at types (FoundInteger bytes signed) = Typed (IntType bytes signed)
found_at types (FoundPointer item) = Typed (PointerType (type_at types item))
found_at types FoundVoid = Typed VoidType
found_at types (FoundBroken broken) = Breaks broken

-- the numbers of types in a kind, in an operand and in what was found are below `count`
abbrev pub KindBelow : ℕ → KindByNumber → Type 0
KindBelow count (IntegerByNumber t) = Unit {0}
KindBelow count (PointerByNumber item target) = item < count
KindBelow count (ArrayByNumber item target) = item < count
KindBelow count (StructByNumber number) = Unit {0}
KindBelow count VoidByNumber = Unit {0}

abbrev pub SeenBelow : ℕ → Seen → Type 0
SeenBelow count seen = (seen.ctype < count) × KindBelow count seen.kind

abbrev pub FoundBelow : ℕ → Found → Type 0
FoundBelow count (Same number) = number < count
FoundBelow count (FoundInteger bytes signed) = Unit {0}
FoundBelow count (FoundPointer item) = item < count
FoundBelow count FoundVoid = Unit {0}
FoundBelow count (FoundBroken broken) = Unit {0}

-- the answer to what is found: the number of the type, which is put behind the others where it is new
abbrev pub Answers : List CType → Judgement → List CType → Outcome → Type 0
Answers old (Typed t) new (OutcomeTyped number) = (slice_get new number ≡ Some t) × Grows old t new
Answers old (Typed t) new (OutcomeBroken broken) = ⊥
Answers old (Breaks broken) new (OutcomeTyped number) = ⊥
Answers old (Breaks broken) new (OutcomeBroken told) = (told ≡ broken) × (new ≡ old)
