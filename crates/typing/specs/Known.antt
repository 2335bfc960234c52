-- What is known of an expression that passes.
use Rattle.std.specs.Prelude.{ℕ, ◌++◌, Bool, true, false, if◌then◌else◌, List, [], ◌∷◌, Option, None, Some, nat_eq}
use Rattle.cbase.specs.declared.ctype.CType.{CType}
use Rattle.cbase.specs.declared.ctype.CType.TheVariants.{Pointer as PointerType}
use Rattle.cbase.specs.declared.place.Place.{Place}
use Rattle.cbase.specs.declared.structs.StructDef.{StructDef}
use Rattle.typing.specs.declared.ctypes.found.Broken.{Broken}
use Rattle.typing.specs.ctypes.Broken.{Judgement, Typed, Breaks}
use Rattle.typing.specs.ctypes.Kinds.{Kind, Integer, Pointer, Array, Struct, Void, kind_of, has_size}
use Rattle.typing.specs.ctypes.Operands.{Operand}
use Rattle.typing.specs.Entities.{Entity}
use Rattle.typing.specs.Faults.{fault}
use Rattle.typing.specs.declared.idiom.Idiom.{Idiom}
use Rattle.typing.specs.declared.idiom.Idiom.TheVariants.{Outside}
use Rattle.typing.specs.Outcomes.{Handed, ExpressionHanded, Outcome, Passes, Refused}

-- its own type, before an array becomes a pointer; whether it is an lvalue (C11 6.3.2.1p1); whether it is a null pointer constant
-- (6.3.2.3p3): a constant 0, or one cast to `void *` once; its value, where it is an integer constant expression (6.6p6), as the bits of
-- its type; how much of the offsetof idiom it is; what its name stands for, where it is one
pub record Known : Type 0 where
  pub ctype : CType
  pub lvalue : Bool
  pub null : Bool
  pub value : Option ℕ
  pub idiom : Idiom
  pub stands : Option Entity

-- a value that is no constant, and an lvalue
abbrev pub plain : CType → Known
plain t = record { ctype = t; lvalue = false; null = false; value = None; idiom = Outside; stands = None }

abbrev pub located : Idiom → CType → Known
located idiom t = record { ctype = t; lvalue = true; null = false; value = None; idiom = idiom; stands = None }

-- whether an integer constant expression is a constant 0
abbrev pub is_zero : Option ℕ → Bool
is_zero None = false
is_zero (Some bits) = nat_eq bits 0

-- an operation on integers, with its value where its operands are constants
abbrev pub valued : Option ℕ → CType → Known
valued value t = record { ctype = t; lvalue = false; null = is_zero value; value = value; idiom = Outside; stands = None }

-- an expression as an operand, where the structs are these
abbrev pub operand : List StructDef → Known → Operand
operand structs known = record { ctype = known.ctype; kind = kind_of structs known.ctype; lvalue = known.lvalue; null = known.null }

-- whether its value can be taken: an lvalue is loaded, which wants a complete type (C11 6.3.2.1p2)
abbrev pub can_load : List StructDef → Known → Bool
can_load structs known = if known.lvalue then has_size structs known.ctype else true

-- a value's type, in which an array is a pointer to its first item (C11 6.3.2.1p3)
abbrev pub value_type : Kind → CType → CType
value_type (Array item target) t = PointerType item
value_type (Integer of) t = t
value_type (Pointer item target) t = t
value_type (Struct number) t = t
value_type Void t = t

-- what is handed on of an expression
abbrev pub handed_of : ℕ → Known → Handed
handed_of number known = ExpressionHanded (record { number = number; ctype = known.ctype; stands = known.stands; value = known.value })

-- an expression behind its parts
abbrev pub behind : List Handed → ℕ → Known → List Handed
behind handed number known = handed ++ handed_of number known ∷ []

-- what is found at an operator, behind its operands: the places of what is broken are given
abbrev pub found_at : (Broken → Place) → Judgement → (CType → Known) → List Handed → ℕ → Outcome Known
found_at place (Typed t) known handed number = Passes (known t) (behind handed number (known t))
found_at place (Breaks broken) known handed number = Refused (fault (place broken) broken)
