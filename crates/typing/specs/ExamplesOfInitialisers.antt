-- Initialisers with what is found of them, worked out by hand from C11. Tokens are counted from 0, and so are expressions.
use Rattle.std.specs.Prelude.{true, false, [], ◌∷◌, None, Some, codes}
use Rattle.cbase.specs.declared.ctype.CType.TheVariants.{Pointer as PointerType, Struct as StructType, Array as ArrayType}
use Rattle.cbase.specs.declared.tree.decl.Storage.TheVariants.{Plain, Typedef, Extern, Static}
use Rattle.cbase.specs.declared.tree.expr.ExprForm.TheVariants.{Unary, Binary, Cast, SizeOf, Index}
use Rattle.cbase.specs.declared.tree.init.Init.TheVariants.{Braces}
use Rattle.cbase.specs.declared.tree.operators.BinaryOp.TheVariants.{Add}
use Rattle.cbase.specs.declared.tree.operators.UnaryOp.TheVariants.{Address}
use Rattle.cbase.specs.declared.tree.spec.BasicType.TheVariants.{Void, Bool, Integer}
use Rattle.cbase.specs.declared.tree.spec.Rank.TheVariants.{Char, Int}
use Rattle.cbase.specs.declared.tree.spec.TypeSpec.TheVariants.{Basic, Struct as StructWords}
use Rattle.cbase.specs.declared.tree.stmt.StmtForm.TheVariants.{Block, Declare}
use Rattle.typing.specs.declared.ctypes.found.Broken.TheVariants.{Construct, Rule}
use Rattle.typing.specs.ctypes.Binary.{int_type}
use Rattle.typing.specs.Sample.{char_type, node, name, constant, identifier, type_name, statement_at, declare, declarator, value_of, part, part_named, in_function, PassesIn, IsRefusedIn, MakesIn}

-- initialisers (C11 6.7.9), in the body of a function
pub record AreInitialisers : Type 0 where
  -- int i = 1;
  pub value : MakesIn in_function (statement_at 0 (Declare (declare Plain (Basic (Integer Int true)) ((declarator (codes "i") 1 0 [] (Some (value_of (constant (codes "1") 0 3)))) ∷ [])))) (record { object = 1; offset = 0; ctype = int_type; number = 0 } ∷ []) (record { token = 1; ctype = int_type; fixed = false; zeroed = false })
  -- int i = p;
  pub not_converted : IsRefusedIn in_function (statement_at 0 (Declare (declare Plain (Basic (Integer Int true)) ((declarator (codes "i") 1 0 [] (Some (value_of (name (codes "p") 0 3)))) ∷ [])))) 3 (Rule 5)
  -- int i = y;
  pub undeclared : IsRefusedIn in_function (statement_at 0 (Declare (declare Plain (Basic (Integer Int true)) ((declarator (codes "i") 1 0 [] (Some (value_of (name (codes "y") 0 3)))) ∷ [])))) 3 (Rule 1)
  -- void *i = &i;
  pub of_itself : PassesIn in_function (statement_at 0 (Declare (declare Plain (Basic Void) ((declarator (codes "i") 2 1 [] (Some (value_of (node 1 4 (Unary Address (name (codes "i") 0 5)))))) ∷ []))))
  -- int i = { 1 };
  pub in_braces : MakesIn in_function (statement_at 0 (Declare (declare Plain (Basic (Integer Int true)) ((declarator (codes "i") 1 0 [] (Some (Braces (part (value_of (constant (codes "1") 0 4)) ∷ [])))) ∷ [])))) (record { object = 1; offset = 0; ctype = int_type; number = 0 } ∷ []) (record { token = 1; ctype = int_type; fixed = false; zeroed = true })
  -- int i = { };
  pub empty_braces : IsRefusedIn in_function (statement_at 0 (Declare (declare Plain (Basic (Integer Int true)) ((declarator (codes "i") 1 0 [] (Some (Braces []))) ∷ [])))) 1 (Rule 5)
  -- int i = { 1, 2 };
  pub value_too_many : IsRefusedIn in_function (statement_at 0 (Declare (declare Plain (Basic (Integer Int true)) ((declarator (codes "i") 1 0 [] (Some (Braces (part (value_of (constant (codes "1") 0 4)) ∷ part (value_of (constant (codes "2") 1 6)) ∷ [])))) ∷ [])))) 6 (Rule 5)
  -- int i = { 1, y };
  pub value_too_many_first : IsRefusedIn in_function (statement_at 0 (Declare (declare Plain (Basic (Integer Int true)) ((declarator (codes "i") 1 0 [] (Some (Braces (part (value_of (constant (codes "1") 0 4)) ∷ part (value_of (name (codes "y") 1 6)) ∷ [])))) ∷ [])))) 6 (Rule 1)
  -- int i = { { 1 } };
  pub braces_too_many : IsRefusedIn in_function (statement_at 0 (Declare (declare Plain (Basic (Integer Int true)) ((declarator (codes "i") 1 0 [] (Some (Braces (part (Braces (part (value_of (constant (codes "1") 0 5)) ∷ [])) ∷ [])))) ∷ [])))) 5 (Rule 5)
  -- int i = { { } };
  pub empty_braces_too_many : IsRefusedIn in_function (statement_at 0 (Declare (declare Plain (Basic (Integer Int true)) ((declarator (codes "i") 1 0 [] (Some (Braces (part (Braces []) ∷ [])))) ∷ [])))) 1 (Rule 5)
  -- int i = { .x = 1 };
  pub designator_of_int : IsRefusedIn in_function (statement_at 0 (Declare (declare Plain (Basic (Integer Int true)) ((declarator (codes "i") 1 0 [] (Some (Braces (part_named (codes "x") 5 (value_of (constant (codes "1") 0 7)) ∷ [])))) ∷ [])))) 5 (Rule 6)
  -- struct s i = { 1, 0 };
  pub members : MakesIn in_function (statement_at 0 (Declare (declare Plain (StructWords (Some (identifier (codes "s") 1)) None) ((declarator (codes "i") 2 0 [] (Some (Braces (part (value_of (constant (codes "1") 0 5)) ∷ part (value_of (constant (codes "0") 1 7)) ∷ [])))) ∷ [])))) (record { object = 2; offset = 0; ctype = int_type; number = 0 } ∷ record { object = 2; offset = 8; ctype = (PointerType char_type); number = 1 } ∷ []) (record { token = 2; ctype = (StructType 0); fixed = false; zeroed = true })
  -- struct s i = { };
  pub no_members : MakesIn in_function (statement_at 0 (Declare (declare Plain (StructWords (Some (identifier (codes "s") 1)) None) ((declarator (codes "i") 2 0 [] (Some (Braces []))) ∷ [])))) [] (record { token = 2; ctype = (StructType 0); fixed = false; zeroed = true })
  -- struct s i = { .b = 0 };
  pub designated : MakesIn in_function (statement_at 0 (Declare (declare Plain (StructWords (Some (identifier (codes "s") 1)) None) ((declarator (codes "i") 2 0 [] (Some (Braces (part_named (codes "b") 6 (value_of (constant (codes "0") 0 8)) ∷ [])))) ∷ [])))) (record { object = 2; offset = 8; ctype = (PointerType char_type); number = 0 } ∷ []) (record { token = 2; ctype = (StructType 0); fixed = false; zeroed = true })
  -- struct s i = { .d = 0 };
  pub no_member : IsRefusedIn in_function (statement_at 0 (Declare (declare Plain (StructWords (Some (identifier (codes "s") 1)) None) ((declarator (codes "i") 2 0 [] (Some (Braces (part_named (codes "d") 6 (value_of (constant (codes "0") 0 8)) ∷ [])))) ∷ [])))) 6 (Rule 6)
  -- struct s i = { .b = 0, 1 };
  pub behind_designated : IsRefusedIn in_function (statement_at 0 (Declare (declare Plain (StructWords (Some (identifier (codes "s") 1)) None) ((declarator (codes "i") 2 0 [] (Some (Braces (part_named (codes "b") 6 (value_of (constant (codes "0") 0 8)) ∷ (part (value_of (constant (codes "1") 1 10)) ∷ []))))) ∷ [])))) 10 (Rule 5)
  -- struct s i = { .a = 1, .a = 2 };
  pub member_twice : MakesIn in_function (statement_at 0 (Declare (declare Plain (StructWords (Some (identifier (codes "s") 1)) None) ((declarator (codes "i") 2 0 [] (Some (Braces (part_named (codes "a") 6 (value_of (constant (codes "1") 0 8)) ∷ part_named (codes "a") 11 (value_of (constant (codes "2") 1 13)) ∷ [])))) ∷ [])))) (record { object = 2; offset = 0; ctype = int_type; number = 0 } ∷ record { object = 2; offset = 0; ctype = int_type; number = 1 } ∷ []) (record { token = 2; ctype = (StructType 0); fixed = false; zeroed = true })
  -- struct s i = x;
  pub whole_struct : MakesIn in_function (statement_at 0 (Declare (declare Plain (StructWords (Some (identifier (codes "s") 1)) None) ((declarator (codes "i") 2 0 [] (Some (value_of (name (codes "x") 0 4)))) ∷ [])))) (record { object = 2; offset = 0; ctype = (StructType 0); number = 0 } ∷ []) (record { token = 2; ctype = (StructType 0); fixed = false; zeroed = false })
  -- struct s i = 1;
  pub int_for_struct : IsRefusedIn in_function (statement_at 0 (Declare (declare Plain (StructWords (Some (identifier (codes "s") 1)) None) ((declarator (codes "i") 2 0 [] (Some (value_of (constant (codes "1") 0 4)))) ∷ [])))) 4 (Rule 5)
  -- struct v i = { 1, 2 };
  pub inner_braces_left_out : IsRefusedIn in_function (statement_at 0 (Declare (declare Plain (StructWords (Some (identifier (codes "v") 1)) None) ((declarator (codes "i") 2 0 [] (Some (Braces (part (value_of (constant (codes "1") 0 5)) ∷ part (value_of (constant (codes "2") 1 7)) ∷ [])))) ∷ [])))) 7 (Rule 5)
  -- struct v i = { 1, { 2, 3 } };
  pub inner_braces : MakesIn in_function (statement_at 0 (Declare (declare Plain (StructWords (Some (identifier (codes "v") 1)) None) ((declarator (codes "i") 2 0 [] (Some (Braces (part (value_of (constant (codes "1") 0 5)) ∷ part (Braces (part (value_of (constant (codes "2") 1 8)) ∷ part (value_of (constant (codes "3") 2 10)) ∷ [])) ∷ [])))) ∷ [])))) (record { object = 2; offset = 0; ctype = int_type; number = 0 } ∷ record { object = 2; offset = 4; ctype = char_type; number = 1 } ∷ record { object = 2; offset = 5; ctype = char_type; number = 2 } ∷ []) (record { token = 2; ctype = (StructType 2); fixed = false; zeroed = true })
  -- int i[2] = { 1 };
  pub items : MakesIn in_function (statement_at 0 (Declare (declare Plain (Basic (Integer Int true)) ((declarator (codes "i") 1 0 (Some (constant (codes "2") 0 3) ∷ []) (Some (Braces (part (value_of (constant (codes "1") 1 7)) ∷ [])))) ∷ [])))) (record { object = 1; offset = 0; ctype = int_type; number = 1 } ∷ []) (record { token = 1; ctype = (ArrayType int_type 2); fixed = false; zeroed = true })
  -- int i[1] = { 1, 2 };
  pub item_too_many : IsRefusedIn in_function (statement_at 0 (Declare (declare Plain (Basic (Integer Int true)) ((declarator (codes "i") 1 0 (Some (constant (codes "1") 0 3) ∷ []) (Some (Braces (part (value_of (constant (codes "1") 1 7)) ∷ part (value_of (constant (codes "2") 2 9)) ∷ [])))) ∷ [])))) 9 (Rule 5)
  -- int i[1] = { 1, { }, 2 };
  pub empty_braces_behind : IsRefusedIn in_function (statement_at 0 (Declare (declare Plain (Basic (Integer Int true)) ((declarator (codes "i") 1 0 (Some (constant (codes "1") 0 3) ∷ []) (Some (Braces (part (value_of (constant (codes "1") 1 7)) ∷ part (Braces []) ∷ part (value_of (constant (codes "2") 2 12)) ∷ [])))) ∷ [])))) 1 (Rule 5)
  -- int i[2] = 1;
  pub int_for_array : IsRefusedIn in_function (statement_at 0 (Declare (declare Plain (Basic (Integer Int true)) ((declarator (codes "i") 1 0 (Some (constant (codes "2") 0 3) ∷ []) (Some (value_of (constant (codes "1") 1 6)))) ∷ [])))) 6 (Rule 5)
  -- int i[] = { 1, 2 };
  pub size_told : MakesIn in_function (statement_at 0 (Declare (declare Plain (Basic (Integer Int true)) ((declarator (codes "i") 1 0 (None ∷ []) (Some (Braces (part (value_of (constant (codes "1") 0 6)) ∷ part (value_of (constant (codes "2") 1 8)) ∷ [])))) ∷ [])))) (record { object = 1; offset = 0; ctype = int_type; number = 0 } ∷ record { object = 1; offset = 4; ctype = int_type; number = 1 } ∷ []) (record { token = 1; ctype = (ArrayType int_type 2); fixed = false; zeroed = true })
  -- int i[] = { };
  pub no_size_told : IsRefusedIn in_function (statement_at 0 (Declare (declare Plain (Basic (Integer Int true)) ((declarator (codes "i") 1 0 (None ∷ []) (Some (Braces []))) ∷ [])))) 1 (Rule 9)
  -- int i[] = { y };
  pub value_before_size : IsRefusedIn in_function (statement_at 0 (Declare (declare Plain (Basic (Integer Int true)) ((declarator (codes "i") 1 0 (None ∷ []) (Some (Braces (part (value_of (name (codes "y") 0 6)) ∷ [])))) ∷ [])))) 6 (Rule 1)
  -- int i[] = { sizeof i };
  pub incomplete_in_its_own : IsRefusedIn in_function (statement_at 0 (Declare (declare Plain (Basic (Integer Int true)) ((declarator (codes "i") 1 0 (None ∷ []) (Some (Braces (part (value_of (node 1 6 (SizeOf (name (codes "i") 0 7)))) ∷ [])))) ∷ [])))) 7 (Rule 3)
  -- int i[] = 1;
  pub int_for_open_array : IsRefusedIn in_function (statement_at 0 (Declare (declare Plain (Basic (Integer Int true)) ((declarator (codes "i") 1 0 (None ∷ []) (Some (value_of (constant (codes "1") 0 5)))) ∷ [])))) 5 (Rule 5)
  -- char i[70000] = { y };
  pub name_before_initialiser : IsRefusedIn in_function (statement_at 0 (Declare (declare Plain (Basic (Integer Char true)) ((declarator (codes "i") 1 0 (Some (constant (codes "70000") 0 3) ∷ []) (Some (Braces (part (value_of (name (codes "y") 1 7)) ∷ [])))) ∷ [])))) 1 (Construct 19)
  -- { int i; int i = y; }
  pub twice_before_initialiser : IsRefusedIn in_function (statement_at 0 (Block ((statement_at 1 (Declare (declare Plain (Basic (Integer Int true)) ((declarator (codes "i") 2 0 [] None) ∷ [])))) ∷ (statement_at 4 (Declare (declare Plain (Basic (Integer Int true)) ((declarator (codes "i") 5 0 [] (Some (value_of (name (codes "y") 0 7)))) ∷ [])))) ∷ []))) 5 (Rule 2)
  -- static int i = 1;
  pub static_value : MakesIn in_function (statement_at 0 (Declare (declare Static (Basic (Integer Int true)) ((declarator (codes "i") 2 0 [] (Some (value_of (constant (codes "1") 0 4)))) ∷ [])))) (record { object = 2; offset = 0; ctype = int_type; number = 0 } ∷ []) (record { token = 2; ctype = int_type; fixed = true; zeroed = false })
  -- static int i = n;
  pub static_object : IsRefusedIn in_function (statement_at 0 (Declare (declare Static (Basic (Integer Int true)) ((declarator (codes "i") 2 0 [] (Some (value_of (name (codes "n") 0 4)))) ∷ [])))) 4 (Rule 9)
  -- static int i = p;
  pub static_not_converted : IsRefusedIn in_function (statement_at 0 (Declare (declare Static (Basic (Integer Int true)) ((declarator (codes "i") 2 0 [] (Some (value_of (name (codes "p") 0 4)))) ∷ [])))) 4 (Rule 5)
  -- static char *i = row;
  pub static_array : PassesIn in_function (statement_at 0 (Declare (declare Static (Basic (Integer Char true)) ((declarator (codes "i") 3 1 [] (Some (value_of (name (codes "row") 0 5)))) ∷ []))))
  -- static int *i = &n;
  pub static_address : PassesIn in_function (statement_at 0 (Declare (declare Static (Basic (Integer Int true)) ((declarator (codes "i") 3 1 [] (Some (value_of (node 1 5 (Unary Address (name (codes "n") 0 6)))))) ∷ []))))
  -- static char *i = &row[1];
  pub static_item : PassesIn in_function (statement_at 0 (Declare (declare Static (Basic (Integer Char true)) ((declarator (codes "i") 3 1 [] (Some (value_of (node 3 5 (Unary Address (node 2 7 (Index (name (codes "row") 0 6) (constant (codes "1") 1 8)))))))) ∷ []))))
  -- static _Bool i = &row[1];
  pub static_test : IsRefusedIn in_function (statement_at 0 (Declare (declare Static (Basic Bool) ((declarator (codes "i") 2 0 [] (Some (value_of (node 3 4 (Unary Address (node 2 6 (Index (name (codes "row") 0 5) (constant (codes "1") 1 7)))))))) ∷ [])))) 4 (Rule 9)
  -- static char *i = row + 1;
  pub static_sum : IsRefusedIn in_function (statement_at 0 (Declare (declare Static (Basic (Integer Char true)) ((declarator (codes "i") 3 1 [] (Some (value_of (node 2 6 (Binary Add (name (codes "row") 0 5) (constant (codes "1") 1 7)))))) ∷ [])))) 6 (Rule 9)
  -- static void *i = (void *)0;
  pub static_null : PassesIn in_function (statement_at 0 (Declare (declare Static (Basic Void) ((declarator (codes "i") 3 1 [] (Some (value_of (node 1 5 (Cast (type_name (Basic Void) 1 []) (constant (codes "0") 0 9)))))) ∷ []))))
  -- static struct s i = x;
  pub static_struct : IsRefusedIn in_function (statement_at 0 (Declare (declare Static (StructWords (Some (identifier (codes "s") 2)) None) ((declarator (codes "i") 3 0 [] (Some (value_of (name (codes "x") 0 5)))) ∷ [])))) 5 (Rule 9)
  -- { int i; static int *j = &i; }
  pub static_address_of_automatic : IsRefusedIn in_function (statement_at 0 (Block ((statement_at 1 (Declare (declare Plain (Basic (Integer Int true)) ((declarator (codes "i") 2 0 [] None) ∷ [])))) ∷ (statement_at 4 (Declare (declare Static (Basic (Integer Int true)) ((declarator (codes "j") 7 1 [] (Some (value_of (node 1 9 (Unary Address (name (codes "i") 0 10)))))) ∷ [])))) ∷ []))) 9 (Rule 9)
  -- extern int i = 3;
  pub of_linked : IsRefusedIn in_function (statement_at 0 (Declare (declare Extern (Basic (Integer Int true)) ((declarator (codes "i") 2 0 [] (Some (value_of (constant (codes "3") 0 4)))) ∷ [])))) 4 (Rule 5)
  -- extern struct s i = { .a = 1 };
  pub designator_of_linked : IsRefusedIn in_function (statement_at 0 (Declare (declare Extern (StructWords (Some (identifier (codes "s") 2)) None) ((declarator (codes "i") 3 0 [] (Some (Braces (part_named (codes "a") 7 (value_of (constant (codes "1") 0 9)) ∷ [])))) ∷ [])))) 9 (Rule 5)
  -- typedef int i = 3;
  pub of_typedef : IsRefusedIn in_function (statement_at 0 (Declare (declare Typedef (Basic (Integer Int true)) ((declarator (codes "i") 2 0 [] (Some (value_of (constant (codes "3") 0 4)))) ∷ [])))) 4 (Rule 5)
