-- Casts, conversions without a cast, and assignments (C11 6.5.4, 6.5.16), worked out by hand.
use Rattle.std.specs.Prelude.{◌≡◌, Bool, true, false}
use Rattle.cbase.specs.declared.ctype.CType.TheVariants.{Void as VoidType, Bool as BoolType, Pointer as PointerType}
use Rattle.cbase.specs.declared.tree.operators.BinaryOp.TheVariants.{Mul, Add, Sub, Left, Or}
use Rattle.typing.specs.declared.ctypes.found.Broken.TheVariants.{Construct, Rule}
use Rattle.typing.specs.ctypes.Assigning.{assigned, updated}
use Rattle.typing.specs.ctypes.Broken.{Judgement, Typed, Breaks}
use Rattle.typing.specs.ctypes.Converting.{cast, converts}
use Rattle.typing.specs.ctypes.Integers.{int}
use Rattle.typing.specs.ctypes.Kinds.{decayed}
use Rattle.typing.specs.ctypes.Operands.{Operand}
use Rattle.typing.specs.ctypes.RowWords.{char, unsigned_char, unsigned, long_long, gives, char_type, long_type, value, boolean, zero_of, to, to_void, to_incomplete, null_pointer, three, struct, nothing, object}

-- a cast of an operand to another one's type, and its conversion to it
abbrev pub cast_to : Operand → Operand → Bool → Judgement
cast_to to_operand operand idiom = cast to_operand.kind to_operand.ctype (decayed operand.kind) operand.null idiom

abbrev pub converted_to : Operand → Operand → Bool
converted_to to_operand operand = converts to_operand.kind (decayed operand.kind) operand.null

-- casts between pointers and integers are given up, but for an integer constant expression 0, `_Bool` and the offsetof idiom
pub record AreCast : Type 0 where
  pub int_to_char : cast_to (value char) (value int) false ≡ gives char
  pub int_to_bool : cast_to boolean (value int) false ≡ Typed BoolType
  pub int_to_void : cast_to nothing (value int) false ≡ Typed VoidType
  pub pointer_to_void : cast_to nothing (to char_type) false ≡ Typed VoidType
  pub void_to_void : cast_to nothing nothing false ≡ Typed VoidType
  pub struct_to_void : cast_to nothing (struct 1) false ≡ Breaks (Rule 4)
  pub void_to_int : cast_to (value int) nothing false ≡ Breaks (Rule 4)
  pub void_to_pointer : cast_to (to char_type) nothing false ≡ Breaks (Rule 4)
  pub struct_to_int : cast_to (value int) (struct 1) false ≡ Breaks (Rule 4)
  pub pointer_to_long : cast_to (value long_long) (to char_type) false ≡ Breaks (Construct 15)
  pub array_to_long : cast_to (value long_long) (three char_type) false ≡ Breaks (Construct 15)
  pub null_pointer_to_int : cast_to (value int) null_pointer false ≡ Breaks (Construct 15)
  pub offsetof_to_long : cast_to (value long_long) (to char_type) true ≡ gives long_long
  pub offsetof_to_bool : cast_to boolean (to char_type) true ≡ Typed BoolType
  pub pointer_to_bool : cast_to boolean (to char_type) false ≡ Typed BoolType
  pub int_to_pointer : cast_to (to char_type) (value int) false ≡ Breaks (Construct 15)
  pub zero_to_pointer : cast_to (to char_type) (zero_of int) false ≡ Typed (PointerType char_type)
  pub long_zero_to_void_pointer : cast_to to_void (zero_of long_long) false ≡ Typed (PointerType VoidType)
  pub pointer_to_other_pointer : cast_to (to long_type) (to char_type) false ≡ Typed (PointerType long_type)
  pub array_to_pointer : cast_to (to long_type) (three char_type) false ≡ Typed (PointerType long_type)
  pub int_to_struct : cast_to (struct 1) (value int) false ≡ Breaks (Rule 4)
  pub struct_to_struct : cast_to (struct 1) (struct 1) false ≡ Breaks (Rule 4)
  pub pointer_to_array : cast_to (three char_type) (to char_type) false ≡ Breaks (Rule 4)

-- conversions without a cast
pub record AreConverted : Type 0 where
  pub char_to_int : converted_to (value int) (value char) ≡ true
  pub long_to_bool : converted_to boolean (value long_long) ≡ true
  pub pointer_to_other_pointer : converted_to (to long_type) (to char_type) ≡ true
  pub pointer_to_void_pointer : converted_to to_void (to char_type) ≡ true
  pub array_to_pointer : converted_to to_void (three char_type) ≡ true
  pub zero_to_pointer : converted_to (to char_type) (zero_of int) ≡ true
  pub null_pointer_to_pointer : converted_to (to char_type) null_pointer ≡ true
  pub int_to_pointer : converted_to (to char_type) (value int) ≡ false
  pub pointer_to_int : converted_to (value int) (to char_type) ≡ false
  pub pointer_to_bool : converted_to boolean (to char_type) ≡ true
  pub pointer_to_unsigned_char : converted_to (value unsigned_char) (to char_type) ≡ false
  pub struct_to_same : converted_to (struct 1) (struct 1) ≡ true
  pub struct_to_other : converted_to (struct 1) (struct 2) ≡ false
  pub struct_to_int : converted_to (value int) (struct 1) ≡ false
  pub void_to_int : converted_to (value int) nothing ≡ false
  pub void_to_pointer : converted_to (to char_type) nothing ≡ false
  pub array_to_array : converted_to (three char_type) (three char_type) ≡ false

-- `=`, where rule 4 comes before rule 5 and that before rule 8
pub record AreAssigned : Type 0 where
  pub char_to_int : assigned (object (value int)) (value char) ≡ gives int
  pub pointer_to_bool : assigned (object boolean) (to char_type) ≡ Typed BoolType
  pub zero_to_pointer : assigned (object (to char_type)) (zero_of int) ≡ Typed (PointerType char_type)
  pub array_to_pointer : assigned (object to_void) (three char_type) ≡ Typed (PointerType VoidType)
  pub int_to_pointer : assigned (object (to char_type)) (value int) ≡ Breaks (Rule 5)
  pub void_to_int : assigned (object (value int)) nothing ≡ Breaks (Rule 5)
  pub struct_to_int : assigned (object (value int)) (struct 1) ≡ Breaks (Rule 5)
  pub int_to_value : assigned (value int) (value int) ≡ Breaks (Rule 8)
  pub pointer_to_value : assigned (value int) (to char_type) ≡ Breaks (Rule 5)
  pub array_to_array : assigned (three char_type) (three char_type) ≡ Breaks (Rule 4)
  pub int_to_void : assigned (object nothing) (value int) ≡ Breaks (Rule 4)
  pub struct_to_struct : assigned (struct 1) (struct 1) ≡ Typed VoidType
  pub struct_to_other_struct : assigned (struct 1) (struct 2) ≡ Breaks (Rule 5)

-- `op=` has the type of its left side
pub record AreUpdated : Type 0 where
  pub unsigned_to_int : updated Add (object (value int)) (value unsigned) ≡ gives int
  pub long_to_char : updated Left (object (value char)) (value long_long) ≡ gives char
  pub int_to_bool : updated Add (object boolean) (value int) ≡ Typed BoolType
  pub int_to_pointer : updated Add (object (to char_type)) (value int) ≡ Typed (PointerType char_type)
  pub int_from_void_pointer : updated Sub (object to_void) (value int) ≡ Typed (PointerType VoidType)
  pub pointer_to_int : updated Add (object (value int)) (to char_type) ≡ Breaks (Rule 4)
  pub pointer_from_pointer : updated Sub (object (to char_type)) (to char_type) ≡ Breaks (Construct 17)
  pub array_from_array : updated Sub (three char_type) (three char_type) ≡ Breaks (Construct 17)
  pub int_to_incomplete : updated Add (object to_incomplete) (value int) ≡ Breaks (Rule 4)
  pub int_to_array : updated Add (three char_type) (value int) ≡ Breaks (Rule 4)
  pub pointer_by_int : updated Mul (object (to char_type)) (value int) ≡ Breaks (Rule 4)
  pub struct_by_int : updated Or (struct 1) (value int) ≡ Breaks (Rule 4)
  pub int_to_value : updated Add (value int) (value int) ≡ Breaks (Rule 8)
  pub pointer_to_value : updated Add (value int) (to char_type) ≡ Breaks (Rule 4)
