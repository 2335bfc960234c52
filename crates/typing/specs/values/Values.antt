-- The values of integer constant expressions (C11 6.6p3, p6): there is one where each operand has one, also where it would never be
-- evaluated. A value is given by the bits of its type.
use Rattle.std.specs.Prelude.{ℕ, Bool, true, false, not, ◌&&◌, ◌||◌, Option, None, Some, is_some, nat_eq, ℤ, pos, negsuc, ◌+ℤ◌, if◌then◌else◌}
use Rattle.cbase.specs.declared.tree.operators.BinaryOp.{BinaryOp}
use Rattle.cbase.specs.declared.tree.operators.BinaryOp.TheVariants.{Mul, Div, Rem, Add, Sub, Left, Right, Less, Greater, LessEqual, GreaterEqual, Equal, NotEqual, And, Xor, Or, Both, Either, Comma}
use Rattle.cbase.specs.declared.tree.operators.UnaryOp.{UnaryOp}
use Rattle.cbase.specs.declared.tree.operators.UnaryOp.TheVariants.{Address, Follow, Plus, Minus, Flip, Not}
use Rattle.arithmetic.specs.declared.op.Op.{Op}
use Rattle.arithmetic.specs.declared.op.Op.TheVariants as op
use Rattle.arithmetic.specs.Comparing.{is_equal, answer}
use Rattle.arithmetic.specs.Computing.{computed, negated, complemented}
use Rattle.arithmetic.specs.Conversion.{converted, truth}
use Rattle.arithmetic.specs.Size.{size_of}
use Rattle.arithmetic.specs.Value.{value, bits as bits_of, is_in_range}
use Rattle.typing.specs.declared.ctypes.kind.IntegerType.{IntegerType}
use Rattle.typing.specs.ctypes.Integers.{promoted, common}
use Rattle.typing.specs.ctypes.Kinds.{Kind, Integer}

-- a type that the data layouts have: one of 1, 2, 4 or 8 bytes. Integers of others have no value, and no program has them
abbrev pub is_whole : IntegerType → Bool
is_whole t = is_some (size_of t.bytes)

-- a type of integers, where it is there and the data layouts have it
abbrev pub whole_in : Option IntegerType → Option IntegerType
whole_in (Some t) = if is_whole t then Some t else None
whole_in None = None

-- an integer of one type as one of another (C11 6.3.1.2, 6.3.1.3)
abbrev pub as_type : IntegerType → IntegerType → ℕ → ℕ
as_type from to bits = if to.truth then truth from.bytes bits else converted from.bytes from.signed to.bytes bits

abbrev pub is_true : ℕ → Bool
is_true bits = not (nat_eq bits 0)

-- unary operators (C11 6.5.3.3)
abbrev pub of_unary : UnaryOp → IntegerType → ℕ → Option ℕ
of_unary Address t bits = None
of_unary Follow t bits = None
of_unary Plus t bits = Some (as_type t (promoted t) bits)
of_unary Minus t bits = Some (negated (promoted t).bytes (promoted t).signed (as_type t (promoted t) bits))
of_unary Flip t bits = Some (complemented (promoted t).bytes (as_type t (promoted t) bits))
of_unary Not t bits = Some (answer (not (is_true bits)))

abbrev pub unary_value : UnaryOp → Kind → Option ℕ → Option ℕ
unary_value op (Integer t) (Some bits) = if is_whole t then of_unary op t bits else None
unary_value op kind bits = None

-- an operation in the type of the usual arithmetic conversions
abbrev pub in_common : Op → IntegerType → ℕ → IntegerType → ℕ → Option ℕ
in_common what left x right y =
    computed what (common left right).bytes (common left right).signed (as_type left (common left right) x) (as_type right (common left right) y)

-- a shift, in the type of its promoted left operand
abbrev pub shifted : Op → IntegerType → ℕ → IntegerType → ℕ → Option ℕ
shifted what left x right y =
    computed what (promoted left).bytes (promoted left).signed (as_type left (promoted left) x) (as_type right (promoted right) y)

abbrev pub are_equal : IntegerType → ℕ → IntegerType → ℕ → Bool
are_equal left x right y =
    is_equal (common left right).bytes (common left right).signed (as_type left (common left right) x) (as_type right (common left right) y)

-- binary operators (C11 6.5.5 to 6.5.14); the comma has none (6.6p3)
abbrev pub of_binary : BinaryOp → IntegerType → ℕ → IntegerType → ℕ → Option ℕ
of_binary Mul left x right y = in_common op.Mul left x right y
of_binary Div left x right y = in_common op.Div left x right y
of_binary Rem left x right y = in_common op.Rem left x right y
of_binary Add left x right y = in_common op.Add left x right y
of_binary Sub left x right y = in_common op.Sub left x right y
of_binary Left left x right y = shifted op.Left left x right y
of_binary Right left x right y = shifted op.Right left x right y
of_binary Less left x right y = in_common op.Less left x right y
of_binary Greater left x right y = in_common op.Less right y left x
of_binary LessEqual left x right y = in_common op.LessEqual left x right y
of_binary GreaterEqual left x right y = in_common op.LessEqual right y left x
of_binary Equal left x right y = Some (answer (are_equal left x right y))
of_binary NotEqual left x right y = Some (answer (not (are_equal left x right y)))
of_binary And left x right y = in_common op.And left x right y
of_binary Xor left x right y = in_common op.Xor left x right y
of_binary Or left x right y = in_common op.Or left x right y
of_binary Both left x right y = Some (answer (is_true x && is_true y))
of_binary Either left x right y = Some (answer (is_true x || is_true y))
of_binary Comma left x right y = None

abbrev pub binary_value : BinaryOp → Kind → Option ℕ → Kind → Option ℕ → Option ℕ
binary_value what (Integer left) (Some x) (Integer right) (Some y) =
    if is_whole left && is_whole right then of_binary what left x right y else None
binary_value what left x right y = None

-- `?:`: the arm that is chosen, in the type of both (C11 6.5.15p4-5)
abbrev pub of_choice : Bool → IntegerType → ℕ → IntegerType → ℕ → ℕ
of_choice true left x right y = as_type left (common left right) x
of_choice false left x right y = as_type right (common left right) y

abbrev pub choice_value : Kind → Option ℕ → Kind → Option ℕ → Kind → Option ℕ → Option ℕ
choice_value (Integer t) (Some test) (Integer left) (Some x) (Integer right) (Some y) =
    if is_whole left && is_whole right then Some (of_choice (is_true test) left x right y) else None
choice_value test chooses left x right y = None

-- a cast to an integer type (C11 6.6p6)
abbrev pub cast_value : Kind → Kind → Option ℕ → Option ℕ
cast_value (Integer to) (Integer from) (Some bits) = if is_whole to && is_whole from then Some (as_type from to bits) else None
cast_value to from bits = None

-- the value as a word of 64 bits, which wraps
abbrev pub word_of : Kind → Option ℕ → Option ℕ
word_of (Integer t) (Some bits) = if is_whole t then Some (converted t.bytes t.signed 8 bits) else None
word_of kind bits = None

-- a word of 64 bits, without sign, as an integer of a type (C11 6.3.1.2, 6.3.1.3)
abbrev pub offset_as : IntegerType → ℕ → ℕ
offset_as to offset = if to.truth then truth 8 offset else converted 8 false to.bytes offset

-- a whole number that is 1 or more
abbrev pub at_least_one : ℤ → Option ℕ
at_least_one (pos number) = if nat_eq number 0 then None else Some number
at_least_one (negsuc before) = None

-- the value of an integer that is 1 or more
abbrev pub count_of : IntegerType → ℕ → Option ℕ
count_of t bits = if is_whole t then at_least_one (value t.bytes t.signed bits) else None

-- the bits of an int for a whole number, where it has that value
abbrev pub int_bits : ℤ → Option ℕ
int_bits number = if is_in_range 4 true number then Some (bits_of 4 number) else None

-- an expression as the value of a constant of an enum, by its value in its own type (C11 6.7.2.2p2)
abbrev pub int_value : Kind → Option ℕ → Option ℕ
int_value (Integer t) (Some given) = if is_whole t then int_bits (value t.bytes t.signed given) else None
int_value kind given = None

-- the value of the constant behind one of these bits, where it is not given (6.7.2.2p3)
abbrev pub next_value : ℕ → Option ℕ
next_value before = int_bits (value 4 true before +ℤ pos 1)
