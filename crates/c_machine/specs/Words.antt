-- What operators and conversions make of words (C11 6.3, 6.5). An integer is a plain number, the bits of its type.
use Rattle.std.specs.Prelude.{ℕ, Bool, true, false, not, ◌&&◌, List, nat_eq, pos, neg_ℤ, ◌*ℤ◌, Option, None, Some, option_map, if◌then◌else◌}
use Rattle.cbase.specs.declared.tree.operators.BinaryOp.{BinaryOp}
use Rattle.cbase.specs.declared.tree.operators.BinaryOp.TheVariants.{Add, Sub, Left, Right, Equal, NotEqual}
use Rattle.cbase.specs.declared.tree.operators.UnaryOp.{UnaryOp}
use Rattle.arithmetic.specs.Comparing.{answer}
use Rattle.arithmetic.specs.Conversion.{converted}
use Rattle.arithmetic.specs.Value.{value}
use Rattle.bytes_core.specs.declared.block.Block.{Block}
use Rattle.bytes_core.specs.declared.word.Word.{Word}
use Rattle.bytes_core.specs.declared.word.Word.TheVariants.{Plain}
use Rattle.bytes_core.specs.Value.{address_number, is_same_address, moved}
use Rattle.typing.specs.declared.ctypes.kind.IntegerType.{IntegerType}
use Rattle.typing.specs.ctypes.Integers.{promoted, common}
use Rattle.typing.specs.values.Values.{as_type, offset_as, of_unary, of_binary}
use Rattle.c_machine.specs.declared.kind.Kind.TheVariants.{Integer, Pointer, Array, Void}
use Rattle.c_machine.specs.declared.kind.Kind.{Kind}

-- a value is true where it is not 0, which is asked of it as it is; a pointer is asked by its address number (6.5.3.3p5, 6.5.9)
abbrev pub is_true : List Block → Word → Bool
is_true memory word = not (nat_eq (address_number memory word) 0)

-- 1 where a value is true, or where it is not
abbrev pub told : Bool → Bool → Word
told true holds = Plain (answer holds)
told false holds = Plain (answer (not holds))

-- whether two types of integers are one
abbrev pub are_alike : Bool → Bool → Bool
are_alike true other = other
are_alike false other = not other

abbrev pub is_same : IntegerType → IntegerType → Bool
is_same from to = nat_eq from.bytes to.bytes && (are_alike from.signed to.signed && are_alike from.truth to.truth)

-- an integer of one type as one of another (6.3.1.2, 6.3.1.3). To its own type it stays as it is, also a byte of `_Bool` that is neither 0 nor 1 (6.3p2)
abbrev pub integer_as : IntegerType → IntegerType → ℕ → ℕ
integer_as from to bits = if is_same from to then bits else as_type from to bits

-- a value of one kind as one of another (6.3.2.3). Pointers convert as they are. What becomes `void` is let go of
abbrev pub as_kind : List Block → Kind → Kind → Word → Word
as_kind memory from Void word = Plain 0
as_kind memory (Integer from) (Integer to) word = Plain (integer_as from to (address_number memory word))
as_kind memory (Integer from) (Pointer bytes) word = Plain (converted from.bytes from.signed 8 (address_number memory word))
as_kind memory from (Integer to) word = Plain (offset_as to (address_number memory word))
as_kind memory from to word = word

-- a unary operator on an integer (6.5.3.3)
abbrev pub applied : List Block → UnaryOp → Kind → Word → Option Word
applied memory op (Integer t) word = option_map Plain (of_unary op t (address_number memory word))
applied memory op kind word = None

-- the kind of a value: an array is a pointer to its first item (6.3.2.1p3)
abbrev pub decayed : Kind → Kind
decayed (Array bytes) = Pointer bytes
decayed other = other

-- a pointer to items of so many bytes, moved by an integer: by the number of its own value, times these bytes (6.5.6p8)
abbrev pub moved_by : List Block → ℕ → Word → IntegerType → Word → Bool → Word
moved_by memory bytes pointer t number true = moved pointer (value t.bytes t.signed (address_number memory number) *ℤ pos bytes)
moved_by memory bytes pointer t number false = moved pointer (neg_ℤ (value t.bytes t.signed (address_number memory number) *ℤ pos bytes))

-- a value beside a pointer that it is compared with: a null pointer constant becomes a pointer, by the sign of its own type (6.5.9p5)
abbrev pub as_address : List Block → Kind → Word → Word
as_address memory (Integer t) word = Plain (converted t.bytes t.signed 8 (address_number memory word))
as_address memory kind word = word

-- a binary operator on two values (6.5.5 to 6.5.12); pointers are compared by their address numbers (6.5.9). There is no value for a zero divisor, and for a
-- shift by a negative amount or by the width or more
abbrev pub operated : List Block → BinaryOp → Kind → Kind → Word → Word → Option Word
operated memory op (Integer left) (Integer right) one other =
    option_map Plain (of_binary op left (address_number memory one) right (address_number memory other))
operated memory Add (Pointer bytes) (Integer right) one other = Some (moved_by memory bytes one right other true)
operated memory Add (Integer left) (Pointer bytes) one other = Some (moved_by memory bytes other left one true)
operated memory Sub (Pointer bytes) (Integer right) one other = Some (moved_by memory bytes one right other false)
operated memory Equal left right one other = Some (told true (is_same_address memory (as_address memory left one) (as_address memory right other)))
operated memory NotEqual left right one other = Some (told false (is_same_address memory (as_address memory left one) (as_address memory right other)))
operated memory op left right one other = None

-- of which kind that is, where it is stored: two integers in their common type, a shift in the promoted left one (6.3.1.8, 6.5.7p3)
abbrev pub kind_after : BinaryOp → Kind → Kind → Kind
kind_after Left (Integer left) right = Integer (promoted left)
kind_after Right (Integer left) right = Integer (promoted left)
kind_after op (Integer left) (Integer right) = Integer (common left right)
kind_after op left right = left

-- how many bytes a number or a pointer has, and whether it is a pointer; other values have none, and are addresses
abbrev pub scalar_bytes : Kind → Option ℕ
scalar_bytes (Integer t) = Some t.bytes
scalar_bytes (Pointer bytes) = Some 8
scalar_bytes other = None

abbrev pub is_pointer : Kind → Bool
is_pointer (Pointer bytes) = true
is_pointer other = false
