-- Unary operators, `a[i]` and members (C11 6.5.2.1, 6.5.2.3, 6.5.2.4, 6.5.3), worked out by hand.
use Rattle.std.specs.Prelude.{◌≡◌, true, false, List, [], ◌∷◌}
use Rattle.cbase.specs.declared.ctype.CType.TheVariants.{Void as VoidType, Bool as BoolType, Pointer as PointerType, Struct as StructType, Array as ArrayType}
use Rattle.cbase.specs.declared.tree.operators.UnaryOp.TheVariants.{Address, Follow, Plus, Minus, Flip, Not}
use Rattle.cbase.specs.declared.structs.StructDef.{StructDef}
use Rattle.typing.specs.declared.ctypes.found.Broken.TheVariants.{Rule}
use Rattle.typing.specs.ctypes.Broken.{Typed, Breaks}
use Rattle.typing.specs.ctypes.Integers.{int, type_of_integer}
use Rattle.typing.specs.ctypes.Kinds.{decayed}
use Rattle.typing.specs.ctypes.Members.{indexed, member_in, member_through}
use Rattle.typing.specs.ctypes.RowWords.{char, unsigned_short, unsigned, long_long, gives, char_type, long_type, value, boolean, to, to_void, to_incomplete, three, struct, nothing, object}
use Rattle.typing.specs.ctypes.Unary.{unary, counted}

-- `struct { int a; char *bc; }`
abbrev pub two_members : List StructDef
two_members = record {
  name = [];
  complete = true;
  fields = record { name = 97 ∷ []; ctype = type_of_integer int } ∷ record { name = 98 ∷ 99 ∷ []; ctype = PointerType char_type } ∷ [];
} ∷ []

-- `+`, `-`, `~`, `!`, `*` and `&`
pub record AreUnary : Type 0 where
  pub plus_short : unary Plus (value unsigned_short) ≡ gives int
  pub minus_bool : unary Minus boolean ≡ gives int
  pub minus_unsigned : unary Minus (value unsigned) ≡ gives unsigned
  pub flip_char : unary Flip (value char) ≡ gives int
  pub flip_pointer : unary Flip (to char_type) ≡ Breaks (Rule 4)
  pub minus_array : unary Minus (three char_type) ≡ Breaks (Rule 4)
  pub plus_void : unary Plus nothing ≡ Breaks (Rule 4)
  pub not_pointer : unary Not (to char_type) ≡ gives int
  pub not_array : unary Not (three char_type) ≡ gives int
  pub not_long : unary Not (value long_long) ≡ gives int
  pub not_struct : unary Not (struct 1) ≡ Breaks (Rule 4)
  pub not_void : unary Not nothing ≡ Breaks (Rule 4)
  pub follow_pointer : unary Follow (to char_type) ≡ gives char
  pub follow_array : unary Follow (three long_type) ≡ gives long_long
  -- what a pointer leads to may be incomplete: it is a load that asks for its size
  pub follow_void_pointer : unary Follow to_void ≡ Typed VoidType
  pub follow_incomplete : unary Follow to_incomplete ≡ Typed (StructType 9)
  pub follow_int : unary Follow (value int) ≡ Breaks (Rule 4)
  pub follow_struct : unary Follow (struct 1) ≡ Breaks (Rule 4)
  pub address_of_object : unary Address (object (value char)) ≡ Typed (PointerType char_type)
  pub address_of_array : unary Address (three char_type) ≡ Typed (PointerType (ArrayType char_type 3))
  pub address_of_struct : unary Address (struct 1) ≡ Typed (PointerType (StructType 1))
  pub address_of_value : unary Address (value int) ≡ Breaks (Rule 8)

-- `++` and `--`: rule 4 comes before rule 8
pub record AreCounted : Type 0 where
  pub char_object : counted (object (value char)) ≡ gives char
  pub bool_object : counted (object boolean) ≡ Typed BoolType
  pub pointer_object : counted (object (to char_type)) ≡ Typed (PointerType char_type)
  pub void_pointer_object : counted (object to_void) ≡ Typed (PointerType VoidType)
  pub incomplete_object : counted (object to_incomplete) ≡ Breaks (Rule 4)
  pub array : counted (three char_type) ≡ Breaks (Rule 4)
  pub struct_object : counted (struct 1) ≡ Breaks (Rule 4)
  pub int_value : counted (value int) ≡ Breaks (Rule 8)
  pub incomplete_value : counted to_incomplete ≡ Breaks (Rule 4)

-- `a[i]` and `i[a]`; and members of the struct 0, which has `a` and `bc`
pub record AreIndexed : Type 0 where
  pub array_and_int : indexed (decayed (three char_type).kind) (decayed (value int).kind) ≡ gives char
  pub int_and_array : indexed (decayed (value int).kind) (decayed (three char_type).kind) ≡ gives char
  pub pointer_and_bool : indexed (decayed (to long_type).kind) (decayed boolean.kind) ≡ gives long_long
  pub void_pointer_and_int : indexed (decayed to_void.kind) (decayed (value int).kind) ≡ Typed VoidType
  pub incomplete_and_int : indexed (decayed to_incomplete.kind) (decayed (value int).kind) ≡ Breaks (Rule 3)
  pub int_and_incomplete : indexed (decayed (value int).kind) (decayed to_incomplete.kind) ≡ Breaks (Rule 3)
  pub pointer_and_pointer : indexed (decayed (to char_type).kind) (decayed (to char_type).kind) ≡ Breaks (Rule 4)
  pub int_and_int : indexed (decayed (value int).kind) (decayed (value int).kind) ≡ Breaks (Rule 4)
  pub struct_and_int : indexed (decayed (struct 1).kind) (decayed (value int).kind) ≡ Breaks (Rule 4)
  pub first_member : member_in two_members true (struct 0).kind (97 ∷ []) ≡ gives int
  pub second_member : member_in two_members true (struct 0).kind (98 ∷ 99 ∷ []) ≡ Typed (PointerType char_type)
  pub front_of_a_name : member_in two_members true (struct 0).kind (98 ∷ []) ≡ Breaks (Rule 6)
  pub member_of_incomplete : member_in two_members false (struct 9).kind (97 ∷ []) ≡ Breaks (Rule 3)
  pub member_of_pointer : member_in two_members true (to char_type).kind (97 ∷ []) ≡ Breaks (Rule 4)
  pub member_of_int : member_in two_members true (value int).kind (97 ∷ []) ≡ Breaks (Rule 4)
  pub member_of_void : member_in two_members false nothing.kind (97 ∷ []) ≡ Breaks (Rule 4)
  pub member_through_int : member_through two_members (value int).kind (97 ∷ []) ≡ Breaks (Rule 4)
  pub member_through_struct : member_through two_members (struct 0).kind (97 ∷ []) ≡ Breaks (Rule 4)
