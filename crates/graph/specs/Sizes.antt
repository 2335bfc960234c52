-- What a value tells of the bytes that hold it.
use Rattle.std.specs.Prelude.{ℕ, ◌^◌, Bool, true, false, ◌&&◌, ◌||◌, nat_eq, nat_lt}
use Rattle.graph.specs.declared.value.Value.{Value}
use Rattle.graph.specs.declared.value.Value.TheVariants.{Const, Number, Any, Address}

-- how many bytes hold the value
abbrev pub value_size : Value → ℕ
value_size (Const number size) = size
value_size (Number size) = size
value_size Any = 8
value_size (Address object offset target) = 8

-- the class of the bytes that hold it: 1 where they are numbers, 2 where they may be parts of a pointer
abbrev pub value_class : Value → ℕ
value_class (Const number size) = 1
value_class (Number size) = 1
value_class Any = 2
value_class (Address object offset target) = 2

-- a scalar has 1, 2, 4 or 8 bytes
abbrev pub is_scalar_size : ℕ → Bool
is_scalar_size size = nat_eq size 1 || (nat_eq size 2 || (nat_eq size 4 || nat_eq size 8))

-- the value has the size of a scalar, and a constant's number fits it
abbrev pub is_sized : Value → Bool
is_sized (Const number size) = is_scalar_size size && nat_lt number (256 ^ size)
is_sized (Number size) = is_scalar_size size
is_sized Any = true
is_sized (Address object offset target) = true

-- the constant 0, of whatever size
abbrev pub is_zero : Value → Bool
is_zero (Const number size) = nat_eq number 0
is_zero (Number size) = false
is_zero Any = false
is_zero (Address object offset target) = false

-- it stands for a plain number of this size
abbrev pub is_number : Value → ℕ → Bool
is_number (Const number size) count = nat_eq size count
is_number (Number size) count = nat_eq size count
is_number Any count = false
is_number (Address object offset target) count = false

-- it stands for one plain number alone
abbrev pub is_constant : Value → Bool
is_constant (Const number size) = true
is_constant (Number size) = false
is_constant Any = false
is_constant (Address object offset target) = false
