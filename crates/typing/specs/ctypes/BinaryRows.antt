-- Binary operators (C11 6.5.5 to 6.5.14, 6.5.17), worked out by hand.
use Rattle.std.specs.Prelude.{◌≡◌, true, false}
use Rattle.cbase.specs.declared.abi.Abi.TheVariants.{Lp64, Llp64}
use Rattle.cbase.specs.declared.ctype.CType.TheVariants.{Void as VoidType, Bool as BoolType, Pointer as PointerType}
use Rattle.cbase.specs.declared.tree.operators.BinaryOp.TheVariants.{Mul, Div, Rem, Add, Sub, Left, Right, Less, Greater, LessEqual, GreaterEqual, Equal, NotEqual, And, Xor, Or, Both, Either, Comma}
use Rattle.typing.specs.declared.ctypes.found.Broken.TheVariants.{Construct, Rule}
use Rattle.typing.specs.ctypes.Binary.{binary}
use Rattle.typing.specs.ctypes.Broken.{Typed, Breaks}
use Rattle.typing.specs.ctypes.Integers.{integer, int}
use Rattle.typing.specs.ctypes.RowWords.{char, unsigned_short, unsigned, long, long_long, gives, char_type, long_type, value, boolean, zero_of, to, to_void, to_incomplete, null_pointer, three, struct, nothing}

-- operators on two integers, and shifts
pub record AreArithmetic : Type 0 where
  pub ints : binary Mul (value int) (value int) ≡ gives int
  pub chars : binary Div (value char) (value char) ≡ gives int
  pub unsigned_and_int : binary Rem (value unsigned) (value int) ≡ gives unsigned
  pub shorts : binary Xor (value unsigned_short) (value unsigned_short) ≡ gives int
  pub bools : binary And boolean boolean ≡ gives int
  pub long_and_unsigned : binary Or (value (long Lp64)) (value unsigned) ≡ gives (integer 8 true)
  pub long_and_unsigned_of_four : binary Or (value (long Llp64)) (value unsigned) ≡ gives (integer 4 false)
  pub pointer_times_int : binary Mul (to char_type) (value int) ≡ Breaks (Rule 4)
  pub int_and_pointer : binary And (value int) (to_void) ≡ Breaks (Rule 4)
  pub struct_or_int : binary Or (struct 1) (value int) ≡ Breaks (Rule 4)
  pub int_by_void : binary Div (value int) nothing ≡ Breaks (Rule 4)
  pub array_by_int : binary Rem (three char_type) (value int) ≡ Breaks (Rule 4)
  -- a shift has the type of its left side, which is promoted for itself
  pub char_by_long : binary Left (value char) (value long_long) ≡ gives int
  pub unsigned_by_long : binary Left (value unsigned) (value long_long) ≡ gives unsigned
  pub long_by_int : binary Right (value (long Lp64)) (value int) ≡ gives (integer 8 true)
  pub int_by_pointer : binary Left (value int) (to char_type) ≡ Breaks (Rule 4)
  pub pointer_by_int : binary Right (to char_type) (value int) ≡ Breaks (Rule 4)

-- sums and differences: pointers to incomplete structs are not moved, those to `void` count bytes
pub record AreSums : Type 0 where
  pub int_and_unsigned : binary Add (value int) (value unsigned) ≡ gives unsigned
  pub pointer_and_int : binary Add (to char_type) (value int) ≡ Typed (PointerType char_type)
  pub int_and_pointer : binary Add (value long_long) (to char_type) ≡ Typed (PointerType char_type)
  pub bool_and_pointer : binary Add boolean (to char_type) ≡ Typed (PointerType char_type)
  pub pointers : binary Add (to char_type) (to char_type) ≡ Breaks (Rule 4)
  pub void_pointer_and_int : binary Add to_void (value int) ≡ Typed (PointerType VoidType)
  pub incomplete_and_int : binary Add to_incomplete (value int) ≡ Breaks (Rule 4)
  pub int_and_incomplete : binary Add (value int) to_incomplete ≡ Breaks (Rule 4)
  pub array_and_int : binary Add (three char_type) (value int) ≡ Typed (PointerType char_type)
  pub struct_and_int : binary Add (struct 1) (value int) ≡ Breaks (Rule 4)
  pub pointer_and_void : binary Add (to char_type) nothing ≡ Breaks (Rule 4)
  pub pointer_less_int : binary Sub (to char_type) (value int) ≡ Typed (PointerType char_type)
  pub array_less_int : binary Sub (three char_type) (value int) ≡ Typed (PointerType char_type)
  pub void_pointer_less_int : binary Sub to_void (value unsigned) ≡ Typed (PointerType VoidType)
  pub incomplete_less_int : binary Sub to_incomplete (value int) ≡ Breaks (Rule 4)
  pub int_less_pointer : binary Sub (value int) (to char_type) ≡ Breaks (Rule 4)
  -- the difference of two pointers is given up, whatever they lead to
  pub pointer_less_pointer : binary Sub (to char_type) (to char_type) ≡ Breaks (Construct 17)
  pub array_less_array : binary Sub (three char_type) (three long_type) ≡ Breaks (Construct 17)
  pub void_pointer_less_void_pointer : binary Sub to_void to_void ≡ Breaks (Construct 17)
  pub incomplete_less_incomplete : binary Sub to_incomplete to_incomplete ≡ Breaks (Construct 17)
  pub struct_less_struct : binary Sub (struct 1) (struct 1) ≡ Breaks (Rule 4)

-- comparisons give an `int`, and the order of pointers is given up
pub record AreCompared : Type 0 where
  pub unsigned_below_unsigned : binary Less (value unsigned) (value unsigned) ≡ gives int
  pub long_above_char : binary Greater (value long_long) (value char) ≡ gives int
  pub bool_at_most_bool : binary LessEqual boolean boolean ≡ gives int
  pub pointer_below_pointer : binary Less (to char_type) (to char_type) ≡ Breaks (Construct 16)
  pub array_at_least_pointer : binary GreaterEqual (three char_type) to_void ≡ Breaks (Construct 16)
  pub pointer_below_zero : binary Less (to char_type) (zero_of int) ≡ Breaks (Rule 4)
  pub int_above_pointer : binary Greater (value int) (to char_type) ≡ Breaks (Rule 4)
  pub struct_below_struct : binary Less (struct 1) (struct 1) ≡ Breaks (Rule 4)
  pub int_is_long : binary Equal (value int) (value long_long) ≡ gives int
  pub pointer_is_other_pointer : binary Equal (to char_type) (to long_type) ≡ gives int
  pub pointer_is_void_pointer : binary NotEqual (to char_type) to_void ≡ gives int
  pub pointer_is_zero : binary Equal (to char_type) (zero_of int) ≡ gives int
  pub zero_is_pointer : binary NotEqual (zero_of long_long) (to char_type) ≡ gives int
  pub pointer_is_int : binary Equal (to char_type) (value int) ≡ Breaks (Rule 4)
  pub int_is_pointer : binary Equal (value int) (to char_type) ≡ Breaks (Rule 4)
  pub array_is_pointer : binary Equal (three char_type) (to char_type) ≡ gives int
  pub pointer_is_null_pointer : binary Equal (to char_type) null_pointer ≡ gives int
  pub int_is_null_pointer : binary Equal (value int) null_pointer ≡ Breaks (Rule 4)
  pub struct_is_struct : binary Equal (struct 1) (struct 1) ≡ Breaks (Rule 4)
  pub void_is_void : binary Equal nothing nothing ≡ Breaks (Rule 4)

-- conditions, and the comma, whose sides are no structs
pub record AreTested : Type 0 where
  pub pointer_and_int : binary Both (to char_type) (value int) ≡ gives int
  pub array_or_bool : binary Either (three char_type) boolean ≡ gives int
  pub struct_and_int : binary Both (struct 1) (value int) ≡ Breaks (Rule 4)
  pub int_or_void : binary Either (value int) nothing ≡ Breaks (Rule 4)
  pub char_behind_int : binary Comma (value int) (value char) ≡ gives char
  pub array_behind_int : binary Comma (value int) (three long_type) ≡ Typed (PointerType long_type)
  pub int_behind_void : binary Comma nothing (value int) ≡ gives int
  pub void_behind_int : binary Comma (value int) nothing ≡ Typed VoidType
  pub bool_behind_int : binary Comma (value int) boolean ≡ Typed BoolType
  pub int_behind_struct : binary Comma (struct 1) (value int) ≡ Breaks (Rule 4)
  pub struct_behind_int : binary Comma (value int) (struct 1) ≡ Breaks (Rule 4)
