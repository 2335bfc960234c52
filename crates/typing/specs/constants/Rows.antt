-- Constants with their types and values in both data layouts, worked out from C11 6.4.4.1 and 6.4.4.4.
use Rattle.std.specs.Prelude.{ℕ, Bool, true, false, List, [], ◌∷◌, codes}
use Rattle.std.specs.List.{AllByRecursion}
use Rattle.cbase.specs.declared.abi.Abi.TheVariants.{Lp64, Llp64}
use Rattle.typing.specs.declared.constants.meaning.Meaning.{Meaning}
use Rattle.typing.specs.declared.constants.meaning.Meaning.TheVariants.{NoConstant, FitsNoType, Known}
use Rattle.typing.specs.constants.Meanings.{Means}

-- bytes, and what they mean where a `long` has 8 bytes and where it has 4
pub record Row : Type 0 where
  pub text : List ℕ
  pub lp64 : Meaning
  pub llp64 : Meaning

abbrev pub IsRight : Row → Type 0
IsRight row = Means Lp64 row.text row.lp64 × Means Llp64 row.text row.llp64

abbrev pub known : ℕ → Bool → ℕ → Meaning
known bytes signed bits = Known (record { bytes = bytes; signed = signed; bits = bits })

-- four or eight bytes, with a sign or without
abbrev pub s4 : ℕ → Meaning
s4 bits = known 4 true bits

abbrev pub u4 : ℕ → Meaning
u4 bits = known 4 false bits

abbrev pub s8 : ℕ → Meaning
s8 bits = known 8 true bits

abbrev pub u8 : ℕ → Meaning
u8 bits = known 8 false bits

abbrev pub both : List ℕ → Meaning → Row
both text meaning = record { text = text; lp64 = meaning; llp64 = meaning }

abbrev pub differ : List ℕ → Meaning → Meaning → Row
differ text lp64 llp64 = record { text = text; lp64 = lp64; llp64 = llp64 }

abbrev pub decimal_rows : List Row
decimal_rows =
    both (codes "1") (s4 1)
    ∷ both (codes "2147483647") (s4 2147483647)
    ∷ both (codes "2147483648") (s8 2147483648)
    ∷ both (codes "4294967295") (s8 4294967295)
    ∷ both (codes "4294967296") (s8 4294967296)
    ∷ both (codes "9223372036854775807") (s8 9223372036854775807)
    ∷ both (codes "9223372036854775808") FitsNoType
    ∷ both (codes "18446744073709551615") FitsNoType
    ∷ both (codes "18446744073709551616") FitsNoType
    ∷ both (codes "340282366920938463463374607431768211457") FitsNoType
    ∷ []

abbrev pub octal_rows : List Row
octal_rows =
    both (codes "0") (s4 0)
    ∷ both (codes "00") (s4 0)
    ∷ both (codes "017") (s4 15)
    ∷ both (codes "017777777777") (s4 2147483647)
    ∷ both (codes "020000000000") (u4 2147483648)
    ∷ both (codes "037777777777") (u4 4294967295)
    ∷ both (codes "040000000000") (s8 4294967296)
    ∷ both (codes "0777777777777777777777") (s8 9223372036854775807)
    ∷ both (codes "01000000000000000000000") (u8 9223372036854775808)
    ∷ both (codes "01777777777777777777777") (u8 18446744073709551615)
    ∷ both (codes "02000000000000000000000") FitsNoType
    ∷ []

abbrev pub hexadecimal_rows : List Row
hexadecimal_rows =
    both (codes "0x0") (s4 0)
    ∷ both (codes "0X1f") (s4 31)
    ∷ both (codes "0xaBcDeF") (s4 11259375)
    ∷ both (codes "0x7fffffff") (s4 2147483647)
    ∷ both (codes "0x80000000") (u4 2147483648)
    ∷ both (codes "0xffffffff") (u4 4294967295)
    ∷ both (codes "0x100000000") (s8 4294967296)
    ∷ both (codes "0x7fffffffffffffff") (s8 9223372036854775807)
    ∷ both (codes "0x8000000000000000") (u8 9223372036854775808)
    ∷ both (codes "0xffffffffffffffff") (u8 18446744073709551615)
    ∷ both (codes "0x10000000000000000") FitsNoType
    ∷ both (codes "0x00000000000000000000001") (s4 1)
    ∷ []

-- `u`
abbrev pub unsigned_rows : List Row
unsigned_rows =
    both (codes "0u") (u4 0)
    ∷ both (codes "2147483648U") (u4 2147483648)
    ∷ both (codes "4294967295u") (u4 4294967295)
    ∷ both (codes "4294967296u") (u8 4294967296)
    ∷ both (codes "9223372036854775808u") (u8 9223372036854775808)
    ∷ both (codes "18446744073709551615U") (u8 18446744073709551615)
    ∷ both (codes "18446744073709551616u") FitsNoType
    ∷ both (codes "037777777777u") (u4 4294967295)
    ∷ both (codes "0x1U") (u4 1)
    ∷ both (codes "0x100000000u") (u8 4294967296)
    ∷ []

-- `l`: a `long` has 8 bytes or 4
abbrev pub long_rows : List Row
long_rows =
    differ (codes "1l") (s8 1) (s4 1)
    ∷ differ (codes "0L") (s8 0) (s4 0)
    ∷ differ (codes "2147483647L") (s8 2147483647) (s4 2147483647)
    ∷ both (codes "2147483648L") (s8 2147483648)
    ∷ both (codes "9223372036854775807l") (s8 9223372036854775807)
    ∷ both (codes "9223372036854775808L") FitsNoType
    ∷ differ (codes "0x7fffffffL") (s8 2147483647) (s4 2147483647)
    ∷ differ (codes "0x80000000L") (s8 2147483648) (u4 2147483648)
    ∷ differ (codes "0xffffffffl") (s8 4294967295) (u4 4294967295)
    ∷ both (codes "0x100000000L") (s8 4294967296)
    ∷ both (codes "0x8000000000000000L") (u8 9223372036854775808)
    ∷ differ (codes "017777777777l") (s8 2147483647) (s4 2147483647)
    ∷ differ (codes "020000000000L") (s8 2147483648) (u4 2147483648)
    ∷ differ (codes "037777777777L") (s8 4294967295) (u4 4294967295)
    ∷ both (codes "040000000000L") (s8 4294967296)
    ∷ []

-- `u` and `l`
abbrev pub unsigned_long_rows : List Row
unsigned_long_rows =
    differ (codes "1ul") (u8 1) (u4 1)
    ∷ differ (codes "1uL") (u8 1) (u4 1)
    ∷ differ (codes "1Ul") (u8 1) (u4 1)
    ∷ differ (codes "1UL") (u8 1) (u4 1)
    ∷ differ (codes "1lu") (u8 1) (u4 1)
    ∷ differ (codes "1lU") (u8 1) (u4 1)
    ∷ differ (codes "1Lu") (u8 1) (u4 1)
    ∷ differ (codes "1LU") (u8 1) (u4 1)
    ∷ differ (codes "4294967295UL") (u8 4294967295) (u4 4294967295)
    ∷ both (codes "4294967296UL") (u8 4294967296)
    ∷ both (codes "18446744073709551615UL") (u8 18446744073709551615)
    ∷ both (codes "18446744073709551616UL") FitsNoType
    ∷ differ (codes "0xffffffffUL") (u8 4294967295) (u4 4294967295)
    ∷ differ (codes "037777777777lu") (u8 4294967295) (u4 4294967295)
    ∷ []

-- `ll`, and with `u`
abbrev pub long_long_rows : List Row
long_long_rows =
    both (codes "1ll") (s8 1)
    ∷ both (codes "1LL") (s8 1)
    ∷ both (codes "9223372036854775807LL") (s8 9223372036854775807)
    ∷ both (codes "9223372036854775808ll") FitsNoType
    ∷ both (codes "0x7fffffffffffffffll") (s8 9223372036854775807)
    ∷ both (codes "0x8000000000000000LL") (u8 9223372036854775808)
    ∷ both (codes "01777777777777777777777LL") (u8 18446744073709551615)
    ∷ both (codes "0x10000000000000000LL") FitsNoType
    ∷ both (codes "1ull") (u8 1)
    ∷ both (codes "1uLL") (u8 1)
    ∷ both (codes "1Ull") (u8 1)
    ∷ both (codes "1ULL") (u8 1)
    ∷ both (codes "1llu") (u8 1)
    ∷ both (codes "1llU") (u8 1)
    ∷ both (codes "1LLu") (u8 1)
    ∷ both (codes "1LLU") (u8 1)
    ∷ both (codes "18446744073709551615ULL") (u8 18446744073709551615)
    ∷ both (codes "18446744073709551616ull") FitsNoType
    ∷ []

-- one character: 4294967295 are the bits of the int -1
abbrev pub letter_rows : List Row
letter_rows =
    both (codes "'a'") (s4 97)
    ∷ both (codes "'0'") (s4 48)
    ∷ both (codes "'\"'") (s4 34)
    ∷ both (39 ∷ 127 ∷ 39 ∷ []) (s4 127)
    ∷ both (39 ∷ 128 ∷ 39 ∷ []) (s4 4294967168)
    ∷ both (39 ∷ 255 ∷ 39 ∷ []) (s4 4294967295)
    ∷ both (codes "'\\''") (s4 39)
    ∷ both (codes "'\\\"'") (s4 34)
    ∷ both (codes "'\\?'") (s4 63)
    ∷ both (codes "'\\\\'") (s4 92)
    ∷ both (codes "'\\a'") (s4 7)
    ∷ both (codes "'\\b'") (s4 8)
    ∷ both (codes "'\\f'") (s4 12)
    ∷ both (codes "'\\n'") (s4 10)
    ∷ both (codes "'\\r'") (s4 13)
    ∷ both (codes "'\\t'") (s4 9)
    ∷ both (codes "'\\v'") (s4 11)
    ∷ both (codes "'\\0'") (s4 0)
    ∷ both (codes "'\\12'") (s4 10)
    ∷ both (codes "'\\177'") (s4 127)
    ∷ both (codes "'\\200'") (s4 4294967168)
    ∷ both (codes "'\\377'") (s4 4294967295)
    ∷ both (codes "'\\400'") FitsNoType
    ∷ both (codes "'\\777'") FitsNoType
    ∷ both (codes "'\\x0'") (s4 0)
    ∷ both (codes "'\\x4a'") (s4 74)
    ∷ both (codes "'\\x7f'") (s4 127)
    ∷ both (codes "'\\x80'") (s4 4294967168)
    ∷ both (codes "'\\xFf'") (s4 4294967295)
    ∷ both (codes "'\\x100'") FitsNoType
    ∷ both (codes "'\\x0000000000000000000041'") (s4 65)
    ∷ both (codes "'\\x10000000000000041'") FitsNoType
    ∷ []

-- no constants of the subset
abbrev pub other_rows : List Row
other_rows =
    both [] NoConstant
    ∷ both (codes "08") NoConstant
    ∷ both (codes "0x") NoConstant
    ∷ both (codes "0xg") NoConstant
    ∷ both (codes "1a") NoConstant
    ∷ both (codes "u") NoConstant
    ∷ both (codes "1lL") NoConstant
    ∷ both (codes "1uu") NoConstant
    ∷ both (codes "1lul") NoConstant
    ∷ both (codes "1ulu") NoConstant
    ∷ both (codes "1.0") NoConstant
    ∷ both (codes "1e3") NoConstant
    ∷ both (codes "0b1") NoConstant
    ∷ both (codes "-1") NoConstant
    ∷ both (codes "'") NoConstant
    ∷ both (codes "''") NoConstant
    ∷ both (codes "'''") NoConstant
    ∷ both (codes "'ab'") NoConstant
    ∷ both (codes "'a") NoConstant
    ∷ both (39 ∷ 10 ∷ 39 ∷ []) NoConstant
    ∷ both (codes "'\\'") NoConstant
    ∷ both (codes "'\\q'") NoConstant
    ∷ both (codes "'\\8'") NoConstant
    ∷ both (codes "'\\1234'") NoConstant
    ∷ both (codes "'\\x'") NoConstant
    ∷ both (codes "'\\xg'") NoConstant
    ∷ both (codes "L'a'") NoConstant
    ∷ []

-- each row is right
pub record AreConstants : Type 0 where
  pub decimal : AllByRecursion IsRight decimal_rows
  pub octal : AllByRecursion IsRight octal_rows
  pub hexadecimal : AllByRecursion IsRight hexadecimal_rows
  pub unsigned : AllByRecursion IsRight unsigned_rows
  pub long : AllByRecursion IsRight long_rows
  pub unsigned_long : AllByRecursion IsRight unsigned_long_rows
  pub long_long : AllByRecursion IsRight long_long_rows
  pub letter : AllByRecursion IsRight letter_rows
  pub other : AllByRecursion IsRight other_rows
