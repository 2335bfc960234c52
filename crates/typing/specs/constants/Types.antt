-- The types of integer constants (C11 6.4.4.1p5).
use Rattle.std.specs.Prelude.{ℕ, Bool, true, false, List, [], ◌∷◌, ℤ}
use Rattle.cbase.specs.declared.abi.Abi.{Abi}
use Rattle.cbase.specs.IntegerSizes.{bytes_of_rank}
use Rattle.cbase.specs.declared.tree.spec.Rank.{Rank}
use Rattle.cbase.specs.declared.tree.spec.Rank.TheVariants as rank
use Rattle.arithmetic.specs.Value.{is_in_range}
use Rattle.typing.specs.declared.constants.base.Base.{Base}
use Rattle.typing.specs.declared.constants.base.Base.TheVariants.{Decimal}
use Rattle.typing.specs.declared.constants.suffix.Suffix.{Suffix}
use Rattle.typing.specs.declared.constants.suffix.Suffix.TheVariants.{Empty, U, L, Ul, Ll, Ull}
use Rattle.typing.specs.declared.constants.integer_type.IntegerType.{IntegerType}
use Rattle.typing.specs.declared.constants.integer_type.IntegerType.TheVariants.{Int, UnsignedInt, Long, UnsignedLong, LongLong, UnsignedLongLong}

-- the table of C11: in which types the value of a constant is looked for, in this order
abbrev pub types : Base → Suffix → List IntegerType
types Decimal Empty = Int ∷ Long ∷ LongLong ∷ []
types Decimal L = Long ∷ LongLong ∷ []
types Decimal Ll = LongLong ∷ []
types base Empty = Int ∷ UnsignedInt ∷ Long ∷ UnsignedLong ∷ LongLong ∷ UnsignedLongLong ∷ []
types base U = UnsignedInt ∷ UnsignedLong ∷ UnsignedLongLong ∷ []
types base L = Long ∷ UnsignedLong ∷ LongLong ∷ UnsignedLongLong ∷ []
types base Ul = UnsignedLong ∷ UnsignedLongLong ∷ []
types base Ll = LongLong ∷ UnsignedLongLong ∷ []
types base Ull = UnsignedLongLong ∷ []

abbrev pub rank_of : IntegerType → Rank
rank_of Int = rank.Int
rank_of UnsignedInt = rank.Int
rank_of Long = rank.Long
rank_of UnsignedLong = rank.Long
rank_of LongLong = rank.LongLong
rank_of UnsignedLongLong = rank.LongLong

abbrev pub is_signed : IntegerType → Bool
is_signed Int = true
is_signed UnsignedInt = false
is_signed Long = true
is_signed UnsignedLong = false
is_signed LongLong = true
is_signed UnsignedLongLong = false

abbrev pub bytes_of : Abi → IntegerType → ℕ
bytes_of abi ctype = bytes_of_rank abi (rank_of ctype)

-- the type has that value
abbrev pub has_value : Abi → ℤ → IntegerType → Bool
has_value abi number ctype = is_in_range (bytes_of abi ctype) (is_signed ctype) number
