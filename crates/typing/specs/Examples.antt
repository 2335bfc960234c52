-- Expressions with what is found of them, worked out by hand from C11. Tokens are counted from 0.
use Rattle.std.specs.Prelude.{◌≡◌, Bool, true, false, List, [], ◌∷◌, None, Some, codes, if◌then◌else◌}
use Rattle.std.specs.Str.{bytes_eq}
use Rattle.cbase.specs.declared.ctype.CType.TheVariants.{Void as VoidType, Bool as BoolType, Pointer as PointerType, Array as ArrayType}
use Rattle.cbase.specs.declared.tree.expr.ExprForm.TheVariants.{Unary, Binary, Assign, Count, Choose, Cast, SizeOf, SizeOfType, OffsetOf, Index, Member, Call, Inner, AssertFail}
use Rattle.cbase.specs.declared.tree.expr.Part.TheVariants.{Member as NamedPart, At as IndexedPart}
use Rattle.cbase.specs.declared.tree.operators.BinaryOp.TheVariants.{Mul, Div, Add, Sub, Left, Less, Equal, Both, Comma}
use Rattle.cbase.specs.declared.tree.operators.UnaryOp.TheVariants.{Address, Follow, Minus, Flip, Not}
use Rattle.cbase.specs.declared.tree.spec.BasicType.TheVariants.{Void, Bool as BoolWord, Integer}
use Rattle.cbase.specs.declared.tree.spec.Rank.TheVariants.{Char, Int, Long}
use Rattle.cbase.specs.declared.tree.spec.TypeSpec.TheVariants.{Basic, Named, Struct as StructWords, Enum as EnumWords, OfExpr, OfType}
use Rattle.cbase.specs.declared.tree.stmt.StmtForm.TheVariants.{Eval}
use Rattle.typing.specs.declared.ctypes.found.Broken.TheVariants.{Construct, Rule}
use Rattle.typing.specs.ctypes.Binary.{int_type}
use Rattle.typing.specs.ctypes.Unary.{size_type}
use Rattle.typing.specs.Entities.{FunctionIs}
use Rattle.typing.specs.Faults.{fault}
use Rattle.typing.specs.Known.{Known}
use Rattle.typing.specs.Language.{Language}
use Rattle.typing.specs.Outcomes.{Handed, Passes, Refused}
use Rattle.typing.specs.Sample.{sample, start, Declarations, entity_in, function, char_type, unsigned_type, long_type, token, node, name, constant, identifier, statement, type_name, declaration, field, field_of_bits, enumerator, HasType, HasValue, HasNoValue, IsNull, IsRefused}
use Rattle.typing.specs.Typing.{ExpressionIs, Finds}

-- names and constants (C11 6.5.1)
pub record AreNamed : Type 0 where
  -- n
  pub object : HasType (name (codes "n") 0 0) int_type
  -- row
  pub of_array : HasType (name (codes "row") 0 0) (ArrayType char_type 3)
  -- five
  pub of_enum : HasValue (name (codes "five") 0 0) int_type 5
  -- y
  pub undeclared : IsRefused (name (codes "y") 0 0) 0 (Rule 1)
  -- T
  pub of_type : IsRefused (name (codes "T") 0 0) 0 (Rule 1)
  -- missing
  pub undefined : IsRefused (name (codes "missing") 0 0) 0 (Construct 12)
  -- open
  pub unsized : IsRefused (name (codes "open") 0 0) 0 (Rule 3)
  -- count
  pub of_main : IsRefused (name (codes "count") 0 0) 0 (Rule 12)
  -- f
  pub of_function : IsRefused (name (codes "f") 0 0) 0 (Construct 20)
  -- lost
  pub of_undefined_function : IsRefused (name (codes "lost") 0 0) 0 (Construct 12)
  -- 1
  pub one : HasValue (constant (codes "1") 0 0) int_type 1
  -- 0x80000000
  pub hexadecimal : HasValue (constant (codes "0x80000000") 0 0) unsigned_type 2147483648
  -- '\\377'
  pub letter : HasValue (constant (codes "'\\377'") 0 0) int_type 4294967295
  -- 9223372036854775808
  pub too_large : IsRefused (constant (codes "9223372036854775808") 0 0) 0 (Rule 9)
  -- 1x
  pub of_no_constant : IsRefused (constant (codes "1x") 0 0) 0 (Rule 9)
  -- __assert_fail("", "", 1, "")
  pub assertion : HasType (node 0 0 AssertFail) VoidType

-- unary operators (C11 6.5.3)
pub record AreUnary : Type 0 where
  -- -five
  pub minus : HasValue (node 1 0 (Unary Minus (name (codes "five") 0 1))) int_type 4294967291
  -- ~0
  pub flip : HasValue (node 1 0 (Unary Flip (constant (codes "0") 0 1))) int_type 4294967295
  -- !p
  pub not_pointer : HasType (node 1 0 (Unary Not (name (codes "p") 0 1))) int_type
  -- *q
  pub follow : HasType (node 1 0 (Unary Follow (name (codes "q") 0 1))) int_type
  -- *row
  pub follow_array : HasType (node 1 0 (Unary Follow (name (codes "row") 0 1))) char_type
  -- &n
  pub address : HasType (node 1 0 (Unary Address (name (codes "n") 0 1))) (PointerType int_type)
  -- &*p
  pub address_of_followed : HasType (node 2 0 (Unary Address (node 1 1 (Unary Follow (name (codes "p") 0 2))))) (PointerType VoidType)
  -- &five
  pub address_of_value : IsRefused (node 1 0 (Unary Address (name (codes "five") 0 1))) 0 (Rule 8)
  -- -p
  pub minus_pointer : IsRefused (node 1 0 (Unary Minus (name (codes "p") 0 1))) 0 (Rule 4)
  -- -*p
  pub minus_void : IsRefused (node 2 0 (Unary Minus (node 1 1 (Unary Follow (name (codes "p") 0 2))))) 1 (Rule 3)
  -- *f
  pub function_followed : IsRefused (node 1 0 (Unary Follow (name (codes "f") 0 1))) 1 (Construct 20)
  -- c++
  pub counted : HasType (node 1 1 (Count true true (name (codes "c") 0 0))) char_type
  -- ++row
  pub counted_array : IsRefused (node 1 0 (Count true false (name (codes "row") 0 1))) 0 (Rule 4)
  -- --five
  pub counted_value : IsRefused (node 1 0 (Count false false (name (codes "five") 0 1))) 0 (Rule 8)

-- binary operators (C11 6.5.5 to 6.5.14, 6.5.17)
pub record AreBinary : Type 0 where
  -- n + 1
  pub sum : HasType (node 2 1 (Binary Add (name (codes "n") 0 0) (constant (codes "1") 1 2))) int_type
  -- n + u
  pub of_unsigned : HasType (node 2 1 (Binary Add (name (codes "n") 0 0) (name (codes "u") 1 2))) unsigned_type
  -- five * 3
  pub of_constants : HasValue (node 2 1 (Binary Mul (name (codes "five") 0 0) (constant (codes "3") 1 2))) int_type 15
  -- 1 << 4
  pub shifted : HasValue (node 2 1 (Binary Left (constant (codes "1") 0 0) (constant (codes "4") 1 2))) int_type 16
  -- -1 < 0u
  pub compared : HasValue (node 3 2 (Binary Less (node 1 0 (Unary Minus (constant (codes "1") 0 1))) (constant (codes "0u") 2 3))) int_type 0
  -- 1 / 0
  pub divided : HasNoValue (node 2 1 (Binary Div (constant (codes "1") 0 0) (constant (codes "0") 1 2))) int_type
  -- q + n
  pub pointer_moved : HasType (node 2 1 (Binary Add (name (codes "q") 0 0) (name (codes "n") 1 2))) (PointerType int_type)
  -- z + 1
  pub incomplete_moved : IsRefused (node 2 1 (Binary Add (name (codes "z") 0 0) (constant (codes "1") 1 2))) 1 (Rule 4)
  -- q - q
  pub difference : IsRefused (node 2 1 (Binary Sub (name (codes "q") 0 0) (name (codes "q") 1 2))) 1 (Construct 17)
  -- q < q
  pub order : IsRefused (node 2 1 (Binary Less (name (codes "q") 0 0) (name (codes "q") 1 2))) 1 (Construct 16)
  -- p == 0
  pub with_zero : HasType (node 2 1 (Binary Equal (name (codes "p") 0 0) (constant (codes "0") 1 2))) int_type
  -- p == n
  pub with_int : IsRefused (node 2 1 (Binary Equal (name (codes "p") 0 0) (name (codes "n") 1 2))) 1 (Rule 4)
  -- n && p
  pub both : HasType (node 2 1 (Binary Both (name (codes "n") 0 0) (name (codes "p") 1 2))) int_type
  -- n, c
  pub comma : HasType (node 2 1 (Binary Comma (name (codes "n") 0 0) (name (codes "c") 1 2))) char_type
  -- y + missing
  pub left_first : IsRefused (node 2 1 (Binary Add (name (codes "y") 0 0) (name (codes "missing") 1 2))) 0 (Rule 1)
  -- x + y
  pub right_behind : IsRefused (node 2 1 (Binary Add (name (codes "x") 0 0) (name (codes "y") 1 2))) 2 (Rule 1)
  -- *p + y
  pub load_first : IsRefused (node 3 2 (Binary Add (node 1 0 (Unary Follow (name (codes "p") 0 1))) (name (codes "y") 2 3))) 0 (Rule 3)

-- `?:` and assignments (C11 6.5.15, 6.5.16)
pub record AreAssigned : Type 0 where
  -- n ? p : 0
  pub with_null : HasType (node 3 1 (Choose (name (codes "n") 0 0) (name (codes "p") 1 2) (constant (codes "0") 2 4))) (PointerType VoidType)
  -- 1 ? five : 0u
  pub of_numbers : HasValue (node 3 1 (Choose (constant (codes "1") 0 0) (name (codes "five") 1 2) (constant (codes "0u") 2 4))) unsigned_type 5
  -- n ? p : n
  pub not_together : IsRefused (node 3 1 (Choose (name (codes "n") 0 0) (name (codes "p") 1 2) (name (codes "n") 2 4))) 1 (Rule 4)
  -- n = 5
  pub assigned : HasType (node 2 1 (Assign None (name (codes "n") 0 0) (constant (codes "5") 1 2))) int_type
  -- x = x
  pub struct_assigned : HasType (node 2 1 (Assign None (name (codes "x") 0 0) (name (codes "x") 1 2))) VoidType
  -- five = n
  pub to_value : IsRefused (node 2 1 (Assign None (name (codes "five") 0 0) (name (codes "n") 1 2))) 1 (Rule 8)
  -- q = n
  pub unconverted : IsRefused (node 2 1 (Assign None (name (codes "q") 0 0) (name (codes "n") 1 2))) 2 (Rule 5)
  -- row = row
  pub to_array : IsRefused (node 2 1 (Assign None (name (codes "row") 0 0) (name (codes "row") 1 2))) 1 (Rule 4)
  -- *p = y
  pub to_void : IsRefused (node 3 2 (Assign None (node 1 0 (Unary Follow (name (codes "p") 0 1))) (name (codes "y") 2 3))) 0 (Rule 3)
  -- q += 1
  pub updated : HasType (node 2 1 (Assign (Some Add) (name (codes "q") 0 0) (constant (codes "1") 1 2))) (PointerType int_type)
  -- n += p
  pub not_back : IsRefused (node 2 1 (Assign (Some Add) (name (codes "n") 0 0) (name (codes "p") 1 2))) 1 (Rule 4)
  -- q -= q
  pub of_pointers : IsRefused (node 2 1 (Assign (Some Sub) (name (codes "q") 0 0) (name (codes "q") 1 2))) 1 (Construct 17)

-- indices and members (C11 6.5.2.1, 6.5.2.3)
pub record AreMembers : Type 0 where
  -- row[1]
  pub item : HasType (node 2 1 (Index (name (codes "row") 0 0) (constant (codes "1") 1 2))) char_type
  -- 1[row]
  pub swapped : HasType (node 2 1 (Index (constant (codes "1") 0 0) (name (codes "row") 1 2))) char_type
  -- z[1]
  pub of_incomplete : IsRefused (node 2 1 (Index (name (codes "z") 0 0) (constant (codes "1") 1 2))) 1 (Rule 3)
  -- n[1]
  pub of_number : IsRefused (node 2 1 (Index (name (codes "n") 0 0) (constant (codes "1") 1 2))) 1 (Rule 4)
  -- x.a
  pub member : HasType (node 1 1 (Member (name (codes "x") 0 0) (identifier (codes "a") 2) false)) int_type
  -- r->b
  pub pointed : HasType (node 1 1 (Member (name (codes "r") 0 0) (identifier (codes "b") 2) true)) (PointerType char_type)
  -- x.d
  pub no_member : IsRefused (node 1 1 (Member (name (codes "x") 0 0) (identifier (codes "d") 2) false)) 2 (Rule 6)
  -- z->a
  pub in_incomplete : IsRefused (node 1 1 (Member (name (codes "z") 0 0) (identifier (codes "a") 2) true)) 1 (Rule 3)
  -- n.a
  pub in_number : IsRefused (node 1 1 (Member (name (codes "n") 0 0) (identifier (codes "a") 2) false)) 1 (Rule 4)

-- calls (C11 6.5.2.2)
pub record AreCalled : Type 0 where
  -- f(n, 0)
  pub called : HasType (node 3 0 (Call (name (codes "f") 0 0) ((name (codes "n") 1 2) ∷ (constant (codes "0") 2 4) ∷ []))) int_type
  -- g()
  pub without_result : HasType (node 1 0 (Call (name (codes "g") 0 0) ([]))) VoidType
  -- f(n)
  pub too_few : IsRefused (node 2 0 (Call (name (codes "f") 0 0) ((name (codes "n") 1 2) ∷ []))) 0 (Rule 7)
  -- f(n, n)
  pub argument : IsRefused (node 3 0 (Call (name (codes "f") 0 0) ((name (codes "n") 1 2) ∷ (name (codes "n") 2 4) ∷ []))) 4 (Rule 5)
  -- n(1)
  pub by_object : IsRefused (node 2 0 (Call (name (codes "n") 0 0) ((constant (codes "1") 1 2) ∷ []))) 0 (Construct 11)
  -- n(y)
  pub arguments_first : IsRefused (node 2 0 (Call (name (codes "n") 0 0) ((name (codes "y") 1 2) ∷ []))) 2 (Rule 1)
  -- lost()
  pub without_definition : IsRefused (node 1 0 (Call (name (codes "lost") 0 0) ([]))) 0 (Construct 12)
  -- f(n, x)
  pub struct : IsRefused (node 3 0 (Call (name (codes "f") 0 0) ((name (codes "n") 1 2) ∷ (name (codes "x") 2 4) ∷ []))) 0 (Construct 13)
  -- malloc(8)
  pub allocated : HasType (node 2 0 (Call (name (codes "malloc") 0 0) ((constant (codes "8") 1 2) ∷ []))) (PointerType VoidType)
  -- malloc(n)
  pub size : IsRefused (node 2 0 (Call (name (codes "malloc") 0 0) ((name (codes "n") 1 2) ∷ []))) 2 (Construct 14)
  -- malloc(-1)
  pub negative_size : IsRefused (node 3 0 (Call (name (codes "malloc") 0 0) ((node 2 2 (Unary Minus (constant (codes "1") 1 3))) ∷ []))) 2 (Construct 19)
  -- calloc(256, 257)
  pub product : IsRefused (node 3 0 (Call (name (codes "calloc") 0 0) ((constant (codes "256") 1 2) ∷ (constant (codes "257") 2 4) ∷ []))) 0 (Construct 19)
  -- calloc(70000, n)
  pub factor : IsRefused (node 3 0 (Call (name (codes "calloc") 0 0) ((constant (codes "70000") 1 2) ∷ (name (codes "n") 2 4) ∷ []))) 4 (Construct 14)
  -- free(n, 1)
  pub argument_before_count : IsRefused (node 3 0 (Call (name (codes "free") 0 0) ((name (codes "n") 1 2) ∷ (constant (codes "1") 2 4) ∷ []))) 2 (Rule 5)

-- where `int main(void)` is declared too, and may not be called or may
abbrev pub with_main : Bool → Language
with_main strict = record sample {
  entity = λ name env. if bytes_eq name (codes "main") then Some (FunctionIs (function int_type [])) else entity_in env name;
  strict = λ env. strict;
}

pub record AreCallsOfMain : Type 0 where
  -- main()
  pub allowed : (known : Known) × (handed : List Handed) × (after : Declarations)
      × Finds (with_main false) start (ExpressionIs (node 1 0 (Call (name (codes "main") 0 0) [])) (Passes known handed)) after
      × (known.ctype ≡ int_type)
  pub refused : (after : Declarations) × Finds (with_main true) start (ExpressionIs (node 1 0 (Call (name (codes "main") 0 0) [])) (Refused (fault (token 0) (Rule 13)))) after
  -- g()
  pub others : (known : Known) × (handed : List Handed) × (after : Declarations)
      × Finds (with_main true) start (ExpressionIs (node 1 0 (Call (name (codes "g") 0 0) [])) (Passes known handed)) after
      × (known.ctype ≡ VoidType)

-- `sizeof`, casts and offsets (C11 6.5.3.4, 6.5.4, 7.19)
pub record AreSizes : Type 0 where
  -- sizeof n
  pub of_expression : HasValue (node 1 0 (SizeOf (name (codes "n") 0 1))) size_type 4
  -- sizeof row
  pub of_array : HasValue (node 1 0 (SizeOf (name (codes "row") 0 1))) size_type 3
  -- sizeof vast
  pub of_large_object : IsRefused (node 1 0 (SizeOf (name (codes "vast") 0 1))) 0 (Construct 19)
  -- sizeof *p
  pub of_void : IsRefused (node 2 0 (SizeOf (node 1 1 (Unary Follow (name (codes "p") 0 2))))) 0 (Rule 3)
  -- sizeof(long)
  pub of_type : HasValue (node 0 0 (SizeOfType (type_name (Basic (Integer Long true)) 0 ([])))) size_type 8
  -- sizeof(void)
  pub of_void_type : IsRefused (node 0 0 (SizeOfType (type_name (Basic Void) 0 ([])))) 0 (Rule 3)
  -- sizeof(typeof(row))
  pub of_typeof : HasValue (node 1 0 (SizeOfType (type_name (OfExpr (name (codes "row") 0 4)) 0 ([])))) size_type 3
  -- sizeof(char[5])
  pub of_constant_array : HasValue (node 1 0 (SizeOfType (type_name (Basic (Integer Char true)) 0 (Some (constant (codes "5") 0 4) ∷ [])))) size_type 5
  -- sizeof(char[n])
  pub of_variable_array : IsRefused (node 1 0 (SizeOfType (type_name (Basic (Integer Char true)) 0 (Some (name (codes "n") 0 4) ∷ [])))) 0 (Construct 18)
  -- sizeof(char[70000])
  pub of_large_array : IsRefused (node 1 0 (SizeOfType (type_name (Basic (Integer Char true)) 0 (Some (constant (codes "70000") 0 4) ∷ [])))) 0 (Construct 19)
  -- sizeof(char[0])
  pub of_empty_array : IsRefused (node 1 0 (SizeOfType (type_name (Basic (Integer Char true)) 0 (Some (constant (codes "0") 0 4) ∷ [])))) 4 (Rule 9)
  -- (char)300
  pub cast : HasValue (node 1 0 (Cast (type_name (Basic (Integer Char true)) 0 ([])) (constant (codes "300") 0 3))) char_type 44
  -- (void *)0
  pub null_pointer : IsNull (node 1 0 (Cast (type_name (Basic Void) 1 ([])) (constant (codes "0") 0 4))) (PointerType VoidType)
  -- (char *)n
  pub of_number : IsRefused (node 1 0 (Cast (type_name (Basic (Integer Char true)) 1 ([])) (name (codes "n") 0 4))) 0 (Construct 15)
  -- (long)p
  pub of_pointer : IsRefused (node 1 0 (Cast (type_name (Basic (Integer Long true)) 0 ([])) (name (codes "p") 0 3))) 0 (Construct 15)
  -- (char[n])y
  pub operand_first : IsRefused (node 2 0 (Cast (type_name (Basic (Integer Char true)) 0 (Some (name (codes "n") 0 3) ∷ [])) (name (codes "y") 1 6))) 6 (Rule 1)
  -- (char[n])n
  pub to_variable_array : IsRefused (node 2 0 (Cast (type_name (Basic (Integer Char true)) 0 (Some (name (codes "n") 0 3) ∷ [])) (name (codes "n") 1 6))) 0 (Construct 18)
  -- (long)&((struct s *)0)->b
  pub idiom : HasValue (node 4 0 (Cast (type_name (Basic (Integer Long true)) 0 ([])) (node 3 3 (Unary Address (node 2 12 (Member (node 1 5 (Cast (type_name (StructWords (Some (identifier (codes "s") 7)) None) 1 ([])) (constant (codes "0") 0 10))) (identifier (codes "b") 13) true)))))) long_type 8
  -- __builtin_offsetof(struct s, b)
  pub member : HasValue (node 0 0 (OffsetOf (type_name (StructWords (Some (identifier (codes "s") 3)) None) 0 ([])) (NamedPart (identifier (codes "b") 5) ∷ []))) size_type 8
  -- __builtin_offsetof(struct v, e[2])
  pub item : HasValue (node 1 0 (OffsetOf (type_name (StructWords (Some (identifier (codes "v") 3)) None) 0 ([])) (NamedPart (identifier (codes "e") 5) ∷ IndexedPart (constant (codes "2") 0 7) ∷ []))) size_type 6
  -- __builtin_offsetof(struct v, e[-1])
  pub item_before : HasValue (node 2 0 (OffsetOf (type_name (StructWords (Some (identifier (codes "v") 3)) None) 0 ([])) (NamedPart (identifier (codes "e") 5) ∷ IndexedPart (node 1 7 (Unary Minus (constant (codes "1") 0 8))) ∷ []))) size_type 3
  -- __builtin_offsetof(struct v, e[-8])
  pub item_in_front : HasValue (node 2 0 (OffsetOf (type_name (StructWords (Some (identifier (codes "v") 3)) None) 0 ([])) (NamedPart (identifier (codes "e") 5) ∷ IndexedPart (node 1 7 (Unary Minus (constant (codes "8") 0 8))) ∷ []))) size_type 18446744073709551612
  -- __builtin_offsetof(struct v, a[2])
  pub item_of_number : IsRefused (node 1 0 (OffsetOf (type_name (StructWords (Some (identifier (codes "v") 3)) None) 0 ([])) (NamedPart (identifier (codes "a") 5) ∷ IndexedPart (constant (codes "2") 0 7) ∷ []))) 0 (Rule 4)
  -- __builtin_offsetof(int, a)
  pub no_struct : IsRefused (node 0 0 (OffsetOf (type_name (Basic (Integer Int true)) 0 ([])) (NamedPart (identifier (codes "a") 4) ∷ []))) 0 (Rule 4)
  -- __builtin_offsetof(struct s, d)
  pub no_member : IsRefused (node 0 0 (OffsetOf (type_name (StructWords (Some (identifier (codes "s") 3)) None) 0 ([])) (NamedPart (identifier (codes "d") 5) ∷ []))) 5 (Rule 6)

-- statement expressions, which C11 has not
pub record AreInner : Type 0 where
  -- ({ ; n; })
  pub value : HasType (node 1 0 (Inner (statement (Eval None) ∷ statement (Eval (Some (name (codes "n") 0 3))) ∷ []) (token 9))) int_type
  -- ({ n; ; })
  pub before_empty : HasType (node 1 0 (Inner (statement (Eval (Some (name (codes "n") 0 2))) ∷ statement (Eval None) ∷ []) (token 9))) int_type
  -- ({ row; })
  pub array : HasType (node 1 0 (Inner (statement (Eval (Some (name (codes "row") 0 2))) ∷ []) (token 9))) (PointerType char_type)
  -- ({ ; })
  pub nothing : HasType (node 0 0 (Inner (statement (Eval None) ∷ []) (token 9))) VoidType
  -- ({ x; })
  pub struct : IsRefused (node 1 0 (Inner (statement (Eval (Some (name (codes "x") 0 2))) ∷ []) (token 9))) 2 (Rule 4)
  -- ({ n; }) + 1
  pub of_statement : HasType (node 3 6 (Binary Add (node 1 0 (Inner (statement (Eval (Some (name (codes "n") 0 2))) ∷ []) (token 9))) (constant (codes "1") 2 7))) int_type

-- type names, and what they hold (C11 6.7.7)
pub record AreTypeNames : Type 0 where
  -- sizeof(T)
  pub of_typedef : HasValue (node 0 0 (SizeOfType (type_name (Named (codes "T")) 0 []))) size_type 1
  -- sizeof(y)
  pub of_undeclared : IsRefused (node 0 0 (SizeOfType (type_name (Named (codes "y")) 0 []))) 0 (Rule 1)
  -- sizeof(n *)
  pub of_object : IsRefused (node 0 0 (SizeOfType (type_name (Named (codes "n")) 1 []))) 0 (Rule 1)
  -- sizeof(struct s)
  pub of_struct : HasValue (node 0 0 (SizeOfType (type_name (StructWords (Some (identifier (codes "s") 3)) None) 0 []))) size_type 16
  -- sizeof(struct t)
  pub of_incomplete : IsRefused (node 0 0 (SizeOfType (type_name (StructWords (Some (identifier (codes "t") 3)) None) 0 []))) 0 (Rule 3)
  -- sizeof(struct w *)
  pub of_new_struct : HasValue (node 0 0 (SizeOfType (type_name (StructWords (Some (identifier (codes "w") 3)) None) 1 []))) size_type 8
  -- sizeof(enum e)
  pub of_new_enum : HasValue (node 0 0 (SizeOfType (type_name (EnumWords (Some (identifier (codes "e") 3)) None) 0 []))) size_type 4
  -- sizeof(enum s)
  pub of_other_kind : IsRefused (node 0 0 (SizeOfType (type_name (EnumWords (Some (identifier (codes "s") 3)) None) 0 []))) 3 (Rule 2)
  -- sizeof(char[])
  pub of_size_left_out : IsRefused (node 0 0 (SizeOfType (type_name (Basic (Integer Char true)) 0 (None ∷ [])))) 0 (Rule 3)
  -- sizeof(char[][n])
  pub of_sizes_by_order : IsRefused (node 1 0 (SizeOfType (type_name (Basic (Integer Char true)) 0 (None ∷ Some (name (codes "n") 0 6) ∷ [])))) 0 (Construct 18)
  -- sizeof(char[2][3])
  pub of_rows : HasValue (node 2 0 (SizeOfType (type_name (Basic (Integer Char true)) 0 (Some (constant (codes "2") 0 4) ∷ Some (constant (codes "3") 1 7) ∷ [])))) size_type 6
  -- sizeof(typeof(char[n]))
  pub of_variable_typeof : IsRefused (node 1 0 (SizeOfType (type_name (OfType (type_name (Basic (Integer Char true)) 0 (Some (name (codes "n") 0 6) ∷ []))) 0 []))) 0 (Construct 18)
  -- sizeof(typeof(char[n]) *)
  pub of_pointer_to_variable : IsRefused (node 1 0 (SizeOfType (type_name (OfType (type_name (Basic (Integer Char true)) 0 (Some (name (codes "n") 0 6) ∷ []))) 1 []))) 0 (Construct 18)
  -- (typeof(char[n]) *)n
  pub pointer_cast_first : IsRefused (node 2 0 (Cast (type_name (OfType (type_name (Basic (Integer Char true)) 0 (Some (name (codes "n") 0 5) ∷ []))) 1 []) (name (codes "n") 1 10))) 0 (Construct 15)
  -- sizeof count
  pub of_parameter : IsRefused (node 1 0 (SizeOf (name (codes "count") 0 1))) 1 (Rule 12)
  -- sizeof missing
  pub of_undefined : IsRefused (node 1 0 (SizeOf (name (codes "missing") 0 1))) 1 (Construct 12)
  -- sizeof(typeof(f) *)
  pub of_function : IsRefused (node 1 0 (SizeOfType (type_name (OfExpr (name (codes "f") 0 4)) 1 []))) 4 (Construct 20)
  -- (_Bool)p
  pub to_bool : HasType (node 1 0 (Cast (type_name (Basic BoolWord) 0 []) (name (codes "p") 0 3))) BoolType
  -- (void)x
  pub struct_to_void : IsRefused (node 1 0 (Cast (type_name (Basic Void) 0 []) (name (codes "x") 0 3))) 0 (Rule 4)
  -- (int)g()
  pub void_to_int : IsRefused (node 2 0 (Cast (type_name (Basic (Integer Int true)) 0 []) (node 1 3 (Call (name (codes "g") 0 3) [])))) 0 (Rule 4)
  -- __builtin_offsetof(struct t, a)
  pub in_incomplete : IsRefused (node 0 0 (OffsetOf (type_name (StructWords (Some (identifier (codes "t") 3)) None) 0 []) (NamedPart (identifier (codes "a") 5) ∷ []))) 0 (Rule 3)

-- braces of structs and of enums (C11 6.7.2.1, 6.7.2.2)
pub record AreBraces : Type 0 where
  -- sizeof(struct { int a; char b; })
  pub members : HasValue (node 0 0 (SizeOfType (type_name (StructWords None (Some (declaration (Basic (Integer Int true)) (field (codes "a") 5 0 [] ∷ []) ∷ declaration (Basic (Integer Char true)) (field (codes "b") 8 0 [] ∷ []) ∷ []))) 0 []))) size_type 8
  -- sizeof(struct t { int a; })
  pub completed : HasValue (node 0 0 (SizeOfType (type_name (StructWords (Some (identifier (codes "t") 3)) (Some (declaration (Basic (Integer Int true)) (field (codes "a") 6 0 [] ∷ []) ∷ []))) 0 []))) size_type 4
  -- sizeof(struct w { struct w *a; })
  pub to_itself : HasValue (node 0 0 (SizeOfType (type_name (StructWords (Some (identifier (codes "w") 3)) (Some (declaration (StructWords (Some (identifier (codes "w") 6)) None) (field (codes "a") 8 1 [] ∷ []) ∷ []))) 0 []))) size_type 8
  -- sizeof(struct s { y a; })
  pub twice : IsRefused (node 0 0 (SizeOfType (type_name (StructWords (Some (identifier (codes "s") 3)) (Some (declaration (Named (codes "y")) (field (codes "a") 6 0 [] ∷ []) ∷ []))) 0 []))) 3 (Rule 2)
  -- sizeof(enum s { y = y })
  pub enum_is_struct : IsRefused (node 1 0 (SizeOfType (type_name (EnumWords (Some (identifier (codes "s") 3)) (Some (enumerator (codes "y") 5 (Some (name (codes "y") 0 7)) ∷ []))) 0 []))) 3 (Rule 2)
  -- sizeof(struct w { char a[sizeof(struct w { int b; })]; })
  pub inside_itself : IsRefused (node 1 0 (SizeOfType (type_name (StructWords (Some (identifier (codes "w") 3)) (Some (declaration (Basic (Integer Char true)) (field (codes "a") 6 0 (Some (node 0 8 (SizeOfType (type_name (StructWords (Some (identifier (codes "w") 11)) (Some (declaration (Basic (Integer Int true)) (field (codes "b") 14 0 [] ∷ []) ∷ []))) 0 []))) ∷ []) ∷ []) ∷ []))) 0 []))) 11 (Rule 2)
  -- sizeof(struct { int a; char a; })
  pub same_name : IsRefused (node 0 0 (SizeOfType (type_name (StructWords None (Some (declaration (Basic (Integer Int true)) (field (codes "a") 5 0 [] ∷ []) ∷ declaration (Basic (Integer Char true)) (field (codes "a") 8 0 [] ∷ []) ∷ []))) 0 []))) 8 (Rule 2)
  -- sizeof(struct { void a; })
  pub of_void : IsRefused (node 0 0 (SizeOfType (type_name (StructWords None (Some (declaration (Basic Void) (field (codes "a") 5 0 [] ∷ []) ∷ []))) 0 []))) 5 (Rule 3)
  -- sizeof(struct w { struct w a; })
  pub of_itself : IsRefused (node 0 0 (SizeOfType (type_name (StructWords (Some (identifier (codes "w") 3)) (Some (declaration (StructWords (Some (identifier (codes "w") 6)) None) (field (codes "a") 7 0 [] ∷ []) ∷ []))) 0 []))) 7 (Rule 3)
  -- sizeof(struct { y a; })
  pub of_undeclared : IsRefused (node 0 0 (SizeOfType (type_name (StructWords None (Some (declaration (Named (codes "y")) (field (codes "a") 5 0 [] ∷ []) ∷ []))) 0 []))) 5 (Rule 1)
  -- sizeof(struct { int a : 3; })
  pub of_bits : IsRefused (node 1 0 (SizeOfType (type_name (StructWords None (Some (declaration (Basic (Integer Int true)) (field_of_bits (codes "a") 5 (constant (codes "3") 0 7) ∷ []) ∷ []))) 0 []))) 5 (Construct 21)
  -- sizeof(struct { int a : y; })
  pub width_first : IsRefused (node 1 0 (SizeOfType (type_name (StructWords None (Some (declaration (Basic (Integer Int true)) (field_of_bits (codes "a") 5 (name (codes "y") 0 7) ∷ []) ∷ []))) 0 []))) 7 (Rule 1)
  -- sizeof(struct { char a[n]; })
  pub variable : IsRefused (node 1 0 (SizeOfType (type_name (StructWords None (Some (declaration (Basic (Integer Char true)) (field (codes "a") 5 0 (Some (name (codes "n") 0 7) ∷ []) ∷ []) ∷ []))) 0 []))) 7 (Rule 9)
  -- sizeof(struct { char a[0]; })
  pub empty : IsRefused (node 1 0 (SizeOfType (type_name (StructWords None (Some (declaration (Basic (Integer Char true)) (field (codes "a") 5 0 (Some (constant (codes "0") 0 7) ∷ []) ∷ []) ∷ []))) 0 []))) 7 (Rule 9)
  -- sizeof(struct { char a[]; })
  pub size_left_out : IsRefused (node 0 0 (SizeOfType (type_name (StructWords None (Some (declaration (Basic (Integer Char true)) (field (codes "a") 5 0 (None ∷ []) ∷ []) ∷ []))) 0 []))) 5 (Rule 3)
  -- sizeof(struct { char a[70000]; })
  pub large : IsRefused (node 1 0 (SizeOfType (type_name (StructWords None (Some (declaration (Basic (Integer Char true)) (field (codes "a") 5 0 (Some (constant (codes "70000") 0 7) ∷ []) ∷ []) ∷ []))) 0 []))) 5 (Construct 19)
  -- sizeof(enum { a, b })
  pub constants : HasValue (node 0 0 (SizeOfType (type_name (EnumWords None (Some (enumerator (codes "a") 4 None ∷ enumerator (codes "b") 6 None ∷ []))) 0 []))) size_type 4
  -- sizeof(enum { a = 3, b }) + b
  pub counted : HasValue (node 3 11 (Binary Add (node 1 0 (SizeOfType (type_name (EnumWords None (Some (enumerator (codes "a") 4 (Some (constant (codes "3") 0 6)) ∷ enumerator (codes "b") 8 None ∷ []))) 0 []))) (name (codes "b") 2 12))) size_type 8
  -- sizeof(enum { five })
  pub declared : IsRefused (node 0 0 (SizeOfType (type_name (EnumWords None (Some (enumerator (codes "five") 4 None ∷ []))) 0 []))) 4 (Rule 2)
  -- sizeof(enum { a, a })
  pub same_constant : IsRefused (node 0 0 (SizeOfType (type_name (EnumWords None (Some (enumerator (codes "a") 4 None ∷ enumerator (codes "a") 6 None ∷ []))) 0 []))) 6 (Rule 2)
  -- sizeof(enum { a = sizeof(enum { a }) })
  pub declared_inside : IsRefused (node 1 0 (SizeOfType (type_name (EnumWords None (Some (enumerator (codes "a") 4 (Some (node 0 6 (SizeOfType (type_name (EnumWords None (Some (enumerator (codes "a") 10 None ∷ []))) 0 [])))) ∷ []))) 0 []))) 4 (Rule 2)
  -- sizeof(enum { a = 4294967295u })
  pub no_int : IsRefused (node 1 0 (SizeOfType (type_name (EnumWords None (Some (enumerator (codes "a") 4 (Some (constant (codes "4294967295u") 0 6)) ∷ []))) 0 []))) 6 (Rule 9)
  -- sizeof(enum { a = n })
  pub no_constant : IsRefused (node 1 0 (SizeOfType (type_name (EnumWords None (Some (enumerator (codes "a") 4 (Some (name (codes "n") 0 6)) ∷ []))) 0 []))) 6 (Rule 9)
  -- sizeof(enum { a = 2147483647, b })
  pub behind_the_last : IsRefused (node 1 0 (SizeOfType (type_name (EnumWords None (Some (enumerator (codes "a") 4 (Some (constant (codes "2147483647") 0 6)) ∷ enumerator (codes "b") 8 None ∷ []))) 0 []))) 8 (Rule 9)
