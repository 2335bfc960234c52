-- Promotions and usual arithmetic conversions (C11 6.3.1.1p2, 6.3.1.8p1), worked out by hand.
use Rattle.std.specs.Prelude.{◌≡◌, true, false}
use Rattle.cbase.specs.declared.abi.Abi.TheVariants.{Lp64, Llp64}
use Rattle.typing.specs.ctypes.Integers.{integer, truth, int, promoted, common}
use Rattle.typing.specs.ctypes.RowWords.{char, unsigned_char, short, unsigned_short, unsigned, long, unsigned_long, long_long, unsigned_long_long}

-- an `int` has all values of the smaller types; what has its size or more is kept
pub record ArePromoted : Type 0 where
  pub char_is_int : promoted char ≡ int
  pub unsigned_char_is_int : promoted unsigned_char ≡ int
  pub short_is_int : promoted short ≡ int
  pub unsigned_short_is_int : promoted unsigned_short ≡ int
  pub bool_is_int : promoted truth ≡ int
  pub int_is_int : promoted int ≡ int
  pub unsigned_is_kept : promoted unsigned ≡ integer 4 false
  pub long_is_kept : promoted (long Lp64) ≡ integer 8 true
  pub long_of_four_bytes : promoted (long Llp64) ≡ integer 4 true
  pub unsigned_long_of_four_bytes : promoted (unsigned_long Llp64) ≡ integer 4 false
  pub unsigned_long_is_kept : promoted (unsigned_long Lp64) ≡ integer 8 false

-- the types of two operands, by data layout where `long` is one
pub record AreCommon : Type 0 where
  pub shorts : common unsigned_short unsigned_short ≡ int
  pub chars : common char unsigned_char ≡ int
  pub bools : common truth truth ≡ int
  pub bool_and_unsigned : common truth unsigned ≡ unsigned
  pub short_and_unsigned : common short unsigned ≡ unsigned
  pub int_and_unsigned : common int unsigned ≡ unsigned
  pub unsigned_and_int : common unsigned int ≡ unsigned
  -- a `long` of eight bytes has all values of `unsigned`, and one of four has not
  pub long_and_unsigned : common (long Lp64) unsigned ≡ integer 8 true
  pub unsigned_and_long : common unsigned (long Lp64) ≡ integer 8 true
  pub long_and_unsigned_of_four : common (long Llp64) unsigned ≡ integer 4 false
  pub unsigned_and_long_of_four : common unsigned (long Llp64) ≡ integer 4 false
  pub long_and_int_of_four : common (long Llp64) int ≡ integer 4 true
  pub unsigned_long_and_int : common (unsigned_long Lp64) int ≡ integer 8 false
  pub unsigned_long_and_long_long : common (unsigned_long Lp64) long_long ≡ integer 8 false
  pub unsigned_long_and_long_long_of_four : common (unsigned_long Llp64) long_long ≡ integer 8 true
  pub unsigned_long_long_and_long : common unsigned_long_long (long Lp64) ≡ integer 8 false
  pub unsigned_long_long_and_char : common unsigned_long_long char ≡ integer 8 false
  pub long_long_and_char : common long_long char ≡ integer 8 true
