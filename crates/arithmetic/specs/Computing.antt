-- What the operators of C compute on integers of one type (C11 6.5.3.3, 6.5.5 to 6.5.12).
--
-- Each takes the values of its operands, computes on whole numbers, and gives the bits of the result. Signed
-- arithmetic wraps as unsigned arithmetic does, which is a choice where C11 6.5p5 leaves it open.
use Rattle.std.specs.Prelude.{ℕ, ◌-◌, ◌*◌, ◌%◌, ◌^◌, Bool, nat_lt, Option, None, Some, if◌then◌else◌, ℤ, pos, neg_ℤ, ◌+ℤ◌, ◌-ℤ◌, ◌*ℤ◌, int_div, int_rem, bit_and, bit_or, bit_xor}
use Rattle.std.specs.Ordering.{int_eq}
use Rattle.std.specs.Int.{int_shr}
use Rattle.arithmetic.specs.declared.op.Op.{Op}
use Rattle.arithmetic.specs.declared.op.Op.TheVariants.{Add, Sub, Mul, Div, Rem, And, Or, Xor, Left, Right, Less, LessEqual}
use Rattle.arithmetic.specs.Value.{modulus, bits, value}
use Rattle.arithmetic.specs.Comparing.{is_less, is_less_equal, answer}

-- a value that needs a divisor other than 0: there is none for a zero divisor (C11 6.5.5p5)
abbrev pub if_divides : ℤ → ℕ → Option ℕ
if_divides divisor result = if int_eq divisor (pos 0) then None else Some result

-- a value that needs an amount to shift by that is below the number of bits (C11 6.5.7p3). The amount is read
-- without sign and in all its bytes, whatever the size of what is shifted, so a negative amount is too large.
abbrev pub if_shifts : ℕ → ℕ → ℕ → Option ℕ
if_shifts size amount result = if nat_lt amount (8 * size) then Some result else None

-- what an operator gives for two integers of a type, if it gives a value. Of a shift the right one is a plain
-- number, the amount. The comparisons give an int, 0 or 1.
abbrev pub computed : Op → ℕ → Bool → ℕ → ℕ → Option ℕ
computed Add size signed left right = Some (bits size (value size signed left +ℤ value size signed right))
computed Sub size signed left right = Some (bits size (value size signed left -ℤ value size signed right))
computed Mul size signed left right = Some (bits size (value size signed left *ℤ value size signed right))
-- the quotient is cut towards zero, and the remainder has the sign of the dividend (C11 6.5.5p6)
computed Div size signed left right =
    if_divides (value size signed right) (bits size (int_div (value size signed left) (value size signed right)))
computed Rem size signed left right =
    if_divides (value size signed right) (bits size (int_rem (value size signed left) (value size signed right)))
-- bit by bit (C11 6.5.10p4, 6.5.12p4, 6.5.11p4)
computed And size signed left right = Some (bit_and (left % modulus size) (right % modulus size))
computed Or size signed left right = Some (bit_or (left % modulus size) (right % modulus size))
computed Xor size signed left right = Some (bit_xor (left % modulus size) (right % modulus size))
-- times 2^amount (C11 6.5.7p4), and the quotient by 2^amount, rounded down: of a negative number it is negative
-- too, a choice where C11 6.5.7p5 leaves it open
computed Left size signed left amount = if_shifts size amount (bits size (value size signed left *ℤ pos (2 ^ amount)))
computed Right size signed left amount = if_shifts size amount (bits size (int_shr (value size signed left) amount))
computed Less size signed left right = Some (answer (is_less size signed left right))
computed LessEqual size signed left right = Some (answer (is_less_equal size signed left right))

-- the integer with the opposite value, modulo 2^n (C11 6.5.3.3p3)
abbrev pub negated : ℕ → Bool → ℕ → ℕ
negated size signed number = bits size (neg_ℤ (value size signed number))

-- the integer of the same size whose bits are all the others (C11 6.5.3.3p4)
abbrev pub complemented : ℕ → ℕ → ℕ
complemented size number = modulus size - 1 - number % modulus size
