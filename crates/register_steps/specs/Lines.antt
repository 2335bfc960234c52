-- What a register gets from each instruction that touches registers alone, and what is lost: a line for each instruction and each kind of value
-- (C11 6.3.1.3, 6.5.5 to 6.5.14).
use Rattle.std.specs.Prelude.{ℕ, Bool, true, false, nat_eq, if◌then◌else◌, ℤ, pos, ◌+ℤ◌, ◌*ℤ◌, Option, None, Some}
use Rattle.std.specs.Int.{w64, cast_signed}
use Rattle.arithmetic.specs.declared.op.Op.{Op}
use Rattle.arithmetic.specs.declared.op.Op.TheVariants.{Add, Sub, Mul, Div, Rem, And, Or, Xor, Left, Right, Less, LessEqual}
use Rattle.arithmetic.specs.Computing.{computed}
use Rattle.arithmetic.specs.Conversion.{converted}
use Rattle.arithmetic.specs.Value.{value}
use Rattle.bytes_core.specs.Value.{wrapped}
use Rattle.graph.specs.declared.value.Target.TheVariants.{Region}
use Rattle.graph.specs.declared.value.Value.{Value}
use Rattle.graph.specs.declared.value.Value.TheVariants.{Const, Number, Any, Address}
use Rattle.register_steps.specs.declared.line.Gain.TheVariants.{Nothing, Held, Fresh, Truth}
use Rattle.register_steps.specs.declared.line.Line.{Line}

-- no state follows
abbrev pub nothing : Line
nothing = record { gain = Nothing; loss = None }

-- the value that another register held
abbrev pub kept : ℕ → Line
kept key = record { gain = Held key; loss = None }

-- a value more, which stands for the words that are given and for no others
abbrev pub exactly : Value → Line
exactly value = record { gain = Fresh value; loss = None }

-- a value more, which stands for those and for others
abbrev pub losing : ℕ → Value → Line
losing loss value = record { gain = Fresh value; loss = Some loss }

-- 0 or 1
abbrev pub truth : Option ℕ → ℕ → Line
truth loss size = record { gain = Truth size; loss = loss }

-- A constant.
abbrev pub number_line : ℕ → ℕ → Line
number_line number size = exactly (Const number size)

-- The address of a variable, whose storage this object is (C11 6.5.3.2p3).
abbrev pub address_line : Option ℕ → Line
address_line None = nothing
address_line (Some object) = exactly (Address object (pos 0) Region)

-- An address, or a number, that is moved by so many bytes (C11 6.5.6p8).
abbrev pub shifted : Value → ℤ → Line
shifted (Const number size) bytes = exactly (Const (wrapped (pos number +ℤ bytes)) 8)
shifted (Number size) bytes = losing 1 (Number 8)
shifted Any bytes = losing 1 Any
shifted (Address object offset target) bytes = exactly (Address object (cast_signed w64 (wrapped (offset +ℤ bytes))) target)

-- One that is moved by a number of bytes that is not known.
abbrev pub shifted_somewhere : Value → Line
shifted_somewhere (Const number size) = losing 1 (Number 8)
shifted_somewhere (Number size) = losing 1 (Number 8)
shifted_somewhere Any = losing 1 Any
shifted_somewhere (Address object offset target) = losing 7 Any

-- One that is moved by a register times a constant: the register is read with a sign.
abbrev pub shifted_by : Value → Value → ℤ → Line
shifted_by address (Const number size) scale = shifted address (value 8 true number *ℤ scale)
shifted_by address (Number size) scale = shifted_somewhere address
shifted_by address Any scale = shifted_somewhere address
shifted_by address (Address object offset target) scale = shifted_somewhere address

-- An operation on two integers (C11 6.5.5 to 6.5.12). A test of order gives an int.
abbrev pub is_test : Op → Bool
is_test Add = false
is_test Sub = false
is_test Mul = false
is_test Div = false
is_test Rem = false
is_test And = false
is_test Or = false
is_test Xor = false
is_test Left = false
is_test Right = false
is_test Less = true
is_test LessEqual = true

abbrev pub size_given : Op → ℕ → ℕ
size_given op size = if is_test op then 4 else size

-- of two constants; where they have no value the run ends: a division by zero, a shift by too many bits
abbrev pub of_constants : ℕ → Option ℕ → Line
of_constants size None = nothing
of_constants size (Some number) = exactly (Const number size)

-- of others
abbrev pub of_others : Op → ℕ → Line
of_others op size = if is_test op then truth (Some 2) 4 else losing 1 (Number size)

abbrev pub computed_line : Op → ℕ → Bool → Value → Value → Line
computed_line op size signed (Const one one_size) (Const other other_size) = of_constants (size_given op size) (computed op size signed one other)
computed_line op size signed (Const one one_size) (Number other_size) = of_others op size
computed_line op size signed (Const one one_size) Any = of_others op size
computed_line op size signed (Const one one_size) (Address object offset target) = of_others op size
computed_line op size signed (Number one_size) other = of_others op size
computed_line op size signed Any other = of_others op size
computed_line op size signed (Address object offset target) other = of_others op size

-- A conversion to a size, by the sign of the type that is converted (C11 6.3.1.3). To the same size the value stays.
abbrev pub converted_line : ℕ → Value → ℕ → Bool → Line
converted_line key (Const number from) size signed = if nat_eq from size then kept key else exactly (Const (converted from signed size number) size)
converted_line key (Number from) size signed = if nat_eq from size then kept key else losing 1 (Number size)
converted_line key Any size signed = losing 1 (Number size)
converted_line key (Address object offset target) size signed = losing 1 (Number size)

-- A value from outside, which is any number of its size, or a truth value.
abbrev pub input_line : ℕ → Bool → Line
input_line size true = truth None size
input_line size false = exactly (Number size)
