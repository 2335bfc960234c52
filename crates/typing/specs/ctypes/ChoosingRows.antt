-- `?:` with every pair of arms (C11 6.5.15), worked out by hand.
use Rattle.std.specs.Prelude.{◌≡◌, true, false}
use Rattle.cbase.specs.declared.abi.Abi.TheVariants.{Lp64, Llp64}
use Rattle.cbase.specs.declared.ctype.CType.TheVariants.{Void as VoidType, Pointer as PointerType, Struct as StructType}
use Rattle.typing.specs.declared.ctypes.found.Broken.TheVariants.{Rule}
use Rattle.typing.specs.ctypes.Broken.{Typed, Breaks}
use Rattle.typing.specs.ctypes.Choosing.{chosen}
use Rattle.typing.specs.ctypes.Integers.{integer, int}
use Rattle.typing.specs.ctypes.RowWords.{char, unsigned, long, long_long, gives, char_type, long_type, value, boolean, zero_of, to, to_void, to_incomplete, null_pointer, three, struct, nothing}

-- the test, then each pair of arms
pub record AreChosen : Type 0 where
  pub pointer_as_test : chosen (to char_type) (value int) (value int) ≡ gives int
  pub array_as_test : chosen (three char_type) (value int) (value int) ≡ gives int
  pub struct_as_test : chosen (struct 1) (value int) (value int) ≡ Breaks (Rule 4)
  pub void_as_test : chosen nothing (value int) (value int) ≡ Breaks (Rule 4)
  pub chars : chosen (value int) (value char) (value char) ≡ gives int
  pub bools : chosen (value int) boolean boolean ≡ gives int
  pub int_and_unsigned : chosen (value int) (value int) (value unsigned) ≡ gives unsigned
  pub long_and_unsigned : chosen (value int) (value (long Lp64)) (value unsigned) ≡ gives (integer 8 true)
  pub long_and_unsigned_of_four : chosen (value int) (value (long Llp64)) (value unsigned) ≡ gives (integer 4 false)
  pub same_pointers : chosen (value int) (to char_type) (to char_type) ≡ Typed (PointerType char_type)
  -- of two pointers that differ the first one's type is taken
  pub different_pointers : chosen (value int) (to char_type) (to long_type) ≡ Typed (PointerType char_type)
  pub pointer_and_void_pointer : chosen (value int) (to char_type) to_void ≡ Typed (PointerType VoidType)
  pub void_pointer_and_pointer : chosen (value int) to_void (to char_type) ≡ Typed (PointerType VoidType)
  pub pointer_and_null_pointer : chosen (value int) (to char_type) null_pointer ≡ Typed (PointerType char_type)
  pub null_pointer_and_pointer : chosen (value int) null_pointer (to char_type) ≡ Typed (PointerType char_type)
  pub null_pointers : chosen (value int) null_pointer null_pointer ≡ Typed (PointerType VoidType)
  pub null_pointer_and_void_pointer : chosen (value int) null_pointer to_void ≡ Typed (PointerType VoidType)
  pub incomplete_and_incomplete : chosen (value int) to_incomplete to_incomplete ≡ Typed (PointerType (StructType 9))
  pub pointer_and_zero : chosen (value int) (to char_type) (zero_of int) ≡ Typed (PointerType char_type)
  pub zero_and_pointer : chosen (value int) (zero_of long_long) (to char_type) ≡ Typed (PointerType char_type)
  pub array_and_zero : chosen (value int) (three char_type) (zero_of int) ≡ Typed (PointerType char_type)
  pub pointer_and_int : chosen (value int) (to char_type) (value int) ≡ Breaks (Rule 4)
  pub int_and_pointer : chosen (value int) (value int) (to char_type) ≡ Breaks (Rule 4)
  pub null_pointer_and_int : chosen (value int) null_pointer (value int) ≡ Breaks (Rule 4)
  pub voids : chosen (value int) nothing nothing ≡ Typed VoidType
  pub void_and_int : chosen (value int) nothing (value int) ≡ Breaks (Rule 4)
  pub zero_and_void : chosen (value int) (zero_of int) nothing ≡ Breaks (Rule 4)
  pub pointer_and_void : chosen (value int) (to char_type) nothing ≡ Breaks (Rule 4)
  pub structs : chosen (value int) (struct 1) (struct 1) ≡ Breaks (Rule 4)
  pub struct_and_zero : chosen (value int) (struct 1) (zero_of int) ≡ Breaks (Rule 4)
