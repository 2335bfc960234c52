-- What a form gives: moves, each of which leads from a point of the graph to another.
use Rattle.std.specs.Prelude.{ℕ, zero, suc, ◌+◌, ◌-◌, List, [], ◌∷◌, ◌++◌, pos, neg_ℤ}
use Rattle.cbase.specs.declared.place.Place.{Place}
use Rattle.cbase.specs.declared.tree.operators.BinaryOp.{BinaryOp}
use Rattle.cbase.specs.declared.tree.operators.BinaryOp.TheVariants.{Mul, Div, Rem, Add, Sub, Left, Right, Less, Greater, LessEqual, GreaterEqual, And, Xor, Or}
use Rattle.arithmetic.specs.declared.op.Op.{Op}
use Rattle.arithmetic.specs.declared.op.Op.TheVariants as op
use Rattle.typing.specs.declared.ctypes.kind.IntegerType.{IntegerType}
use Rattle.typing.specs.ctypes.Integers.{promoted}
use Rattle.c_machine.specs.declared.kind.Kind.{Kind}
use Rattle.c_machine.specs.declared.kind.Kind.TheVariants.{Integer, Pointer}
use Rattle.c_machine.specs.Text.{Text}
use Rattle.flow.specs.declared.instruction.Instr.{Instr}
use Rattle.flow.specs.declared.instruction.Instr.TheVariants as i
use Rattle.lowering.specs.Kinds.{Sides, sides, meeting}
use Rattle.lowering.specs.declared.conversion.Conversion.{Conversion}
use Rattle.lowering.specs.declared.conversion.Conversion.TheVariants.{Nothing, Resized, Tested}
pub use Rattle.lowering.specs.declared.moves.Move.{Move as MoveOf}
pub use Rattle.lowering.specs.declared.moves.Move.TheVariants.{Emits, Pairs, Parts, Evaluates, Converts, Answers, Tells, Locates, Works, Asks, Does, Clears, Initialises, Stops, Fails}

-- The moves of a text. Registers: `into` gets the value, and `spare` is the first of those of the full expression that hold what is let go of.
abbrev pub Move : Text → Type 0
Move t = MoveOf t.Expr t.Stmt t.Init

-- moves and how many registers they have of their own
pub record LineOf (E S I : Type 0) : Type 0 where
  pub registers : ℕ
  pub moves : List (MoveOf E S I)

abbrev pub Line : Text → Type 0
Line t = LineOf t.Expr t.Stmt t.Init

abbrev pub taking : {E S I : Type 0} → ℕ → List (MoveOf E S I) → LineOf E S I
taking registers moves = record { registers = registers; moves = moves }

-- a conversion of what a register holds, if it is an edge, and where the value stands behind it
abbrev pub resizes : {E S I : Type 0} → Conversion → ℕ → ℕ → Place → List (MoveOf E S I)
resizes Nothing from into place = []
resizes (Resized bytes signed) from into place = Emits (i.Convert into from bytes signed) place ∷ []
resizes other from into place = Fails ∷ []

-- the same where the value may become a `_Bool`
abbrev pub adapts : {E S I : Type 0} → Conversion → ℕ → ℕ → ℕ → Place → List (MoveOf E S I)
adapts Tested from size into place = Tells from size into place ∷ []
adapts conversion from size into place = resizes conversion from into place

abbrev pub stands_in : Conversion → ℕ → ℕ → ℕ
stands_in Nothing from into = from
stands_in other from into = into

-- two integers of one type
abbrev pub computes : {E S I : Type 0} → Op → ℕ → ℕ → ℕ → IntegerType → Place → List (MoveOf E S I)
computes what one other into of place = Emits (i.Compute into what one other of.bytes of.signed) place ∷ []

abbrev pub of_integers : {E S I : Type 0} → BinaryOp → IntegerType → IntegerType → ℕ → ℕ → ℕ → Place → List (MoveOf E S I)
of_integers Mul left right one other into place = computes op.Mul one other into (meeting Mul left right) place
of_integers Div left right one other into place = computes op.Div one other into (meeting Div left right) place
of_integers Rem left right one other into place = computes op.Rem one other into (meeting Rem left right) place
of_integers Add left right one other into place = computes op.Add one other into (meeting Add left right) place
of_integers Sub left right one other into place = computes op.Sub one other into (meeting Sub left right) place
of_integers Left left right one other into place = computes op.Left one other into (promoted left) place
of_integers Right left right one other into place = computes op.Right one other into (promoted left) place
of_integers Less left right one other into place = computes op.Less one other into (meeting Less left right) place
of_integers Greater left right one other into place = computes op.Less other one into (meeting Greater left right) place
of_integers LessEqual left right one other into place = computes op.LessEqual one other into (meeting LessEqual left right) place
of_integers GreaterEqual left right one other into place = computes op.LessEqual other one into (meeting GreaterEqual left right) place
of_integers And left right one other into place = computes op.And one other into (meeting And left right) place
of_integers Xor left right one other into place = computes op.Xor one other into (meeting Xor left right) place
of_integers Or left right one other into place = computes op.Or one other into (meeting Or left right) place
of_integers what left right one other into place = Fails ∷ []

-- two values behind their conversions
abbrev pub combines : {E S I : Type 0} → BinaryOp → Kind → Kind → ℕ → ℕ → ℕ → Place → List (MoveOf E S I)
combines what (Integer left) (Integer right) one other into place = of_integers what left right one other into place
combines Add (Pointer bytes) (Integer right) one other into place = Emits (i.ShiftBy into one other (pos bytes)) place ∷ []
combines Add (Integer left) (Pointer bytes) one other into place = Emits (i.ShiftBy into other one (pos bytes)) place ∷ []
combines Sub (Pointer bytes) (Integer right) one other into place = Emits (i.ShiftBy into one other (neg_ℤ (pos bytes))) place ∷ []
combines what left right one other into place = Fails ∷ []

-- an operator on what two registers hold: the conversions of both sides, each into a register of its own, and the operation
abbrev pub operates_by : {E S I : Type 0} → Sides → BinaryOp → Kind → Kind → ℕ → ℕ → ℕ → ℕ → ℕ → Place → List (MoveOf E S I)
operates_by between what left right one other one' other' into place =
    resizes between.left one one' place ++ (resizes between.right other other' place
    ++ combines what left right (stands_in between.left one one') (stands_in between.right other other') into place)

abbrev pub operates : {E S I : Type 0} → BinaryOp → Kind → Kind → ℕ → ℕ → ℕ → ℕ → ℕ → Place → List (MoveOf E S I)
operates what left right one other one' other' into place = operates_by (sides what left right) what left right one other one' other' into place

-- registers that hold 0, from `have` of them on to `want`
abbrev pub zeros : {E S I : Type 0} → ℕ → ℕ → Place → List (MoveOf E S I)
zeros spare zero place = []
zeros spare (suc count) place = Emits (i.Number spare 0 8) place ∷ zeros (suc spare) count place

abbrev pub pads : {E S I : Type 0} → ℕ → ℕ → ℕ → Place → List (MoveOf E S I)
pads spare have want place = zeros (spare + have) (want - have) place

-- the registers from one on, so many of them
abbrev pub run_of : ℕ → ℕ → List ℕ
run_of first zero = []
run_of first (suc count) = first ∷ run_of (suc first) count
