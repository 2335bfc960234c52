-- The types of assignments (C11 6.5.16).
use Rattle.std.specs.Prelude.{Bool, true, false, ◌&&◌, [], ◌∷◌, List}
use Rattle.cbase.specs.declared.ctype.CType.{CType}
use Rattle.cbase.specs.declared.ctype.CType.TheVariants.{Void as VoidType}
use Rattle.cbase.specs.declared.tree.operators.BinaryOp.{BinaryOp}
use Rattle.typing.specs.declared.ctypes.binary.Group.{Group}
use Rattle.typing.specs.declared.ctypes.binary.Group.TheVariants.{Arithmetic, Shift, Sum, Difference, Order, Equality, Logic, Sequence}
use Rattle.typing.specs.declared.ctypes.found.Broken.TheVariants.{Rule}
use Rattle.typing.specs.ctypes.Binary.{group_of, operated}
use Rattle.typing.specs.ctypes.Broken.{Judgement, Typed, Breaks, Demand, judged}
use Rattle.typing.specs.ctypes.Converting.{converts}
use Rattle.typing.specs.ctypes.Kinds.{Kind, Integer, Pointer, Array, Struct, Void, decayed}
use Rattle.typing.specs.ctypes.Operands.{Operand}

-- the types that a value can be given to (C11 6.5.16.1p1): arrays are none
abbrev pub is_assigned : Kind → Bool
is_assigned (Integer t) = true
is_assigned (Pointer item target) = true
is_assigned (Array item target) = false
is_assigned (Struct number) = true
is_assigned Void = false

-- what `=` has as its type: that of its left side (C11 6.5.16p3), but of structs none, a choice of this project
abbrev pub assigned_type : Kind → CType → CType
assigned_type (Integer to) t = t
assigned_type (Pointer item target) t = t
assigned_type (Array item target) t = t
assigned_type (Struct number) t = VoidType
assigned_type Void t = t

-- `=` (C11 6.5.16p2, 6.5.16.1p1)
abbrev pub assignment_demands : Operand → Operand → List Demand
assignment_demands left right =
    record { holds = is_assigned left.kind; broken = Rule 4 }
    ∷ record { holds = converts left.kind (decayed right.kind) right.null; broken = Rule 5 }
    ∷ record { holds = left.lvalue; broken = Rule 8 } ∷ []

abbrev pub assigned : Operand → Operand → Judgement
assigned left right = judged (assignment_demands left right) (assigned_type left.kind left.ctype)

-- the operators that an assignment has a form of (C11 6.5.16p1)
abbrev pub has_assignment : Group → Bool
has_assignment Arithmetic = true
has_assignment Shift = true
has_assignment Sum = true
has_assignment Difference = true
has_assignment Order = false
has_assignment Equality = false
has_assignment Logic = false
has_assignment Sequence = false

-- whether what such an operator gives goes back to its left side: an integer to an integer, a pointer to its pointer
abbrev pub goes_back : Kind → Kind → Bool
goes_back (Integer left) (Integer right) = true
goes_back (Pointer item target) (Integer right) = true
goes_back left right = false

-- what is asked beside what the operator asks
abbrev pub update_demands : Group → Operand → Operand → List Demand
update_demands group left right =
    record { holds = has_assignment group && goes_back left.kind (decayed right.kind); broken = Rule 4 }
    ∷ record { holds = left.lvalue; broken = Rule 8 } ∷ []

-- what is found where an operation is followed by demands
abbrev pub followed_by : Judgement → Judgement → Judgement
followed_by (Typed t) rest = rest
followed_by (Breaks broken) rest = Breaks broken

-- `op=` asks of its sides what the operator asks (C11 6.5.16.2p1-2)
abbrev pub updated : BinaryOp → Operand → Operand → Judgement
updated op left right =
    followed_by (operated (group_of op) left right) (judged (update_demands (group_of op) left right) left.ctype)
