-- Constants far from 0, and what is known of one that is forgotten.
use Rattle.std.specs.Prelude.{ℕ, Bool, true, false, ◌||◌, pos, neg_ℤ, int_lt}
use Rattle.arithmetic.specs.Value.{value as integer}
use Rattle.graph.specs.declared.value.Value.{Value}
use Rattle.graph.specs.declared.value.Value.TheVariants.{Const, Number, Any, Address}

-- a constant that is, as an integer with a sign of its size, less than the limit below 0 or greater than the limit
abbrev pub is_beyond : ℕ → Value → Bool
is_beyond limit (Const number size) = int_lt (integer size true number) (neg_ℤ (pos limit)) || int_lt (pos limit) (integer size true number)
is_beyond limit (Number size) = false
is_beyond limit Any = false
is_beyond limit (Address object offset target) = false

-- of a constant its size alone is left; any other value stays
abbrev pub forgotten : Value → Value
forgotten (Const number size) = Number size
forgotten (Number size) = Number size
forgotten Any = Any
forgotten (Address object offset target) = Address object offset target
