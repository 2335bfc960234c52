-- Items of a file with what is found of them, worked out by hand from C11. Tokens are counted from 0.
use Rattle.std.specs.Prelude.{true, false, [], ◌∷◌, None, Some, codes}
use Rattle.cbase.specs.declared.ctype.CType.TheVariants.{Void as VoidType, Array as ArrayType}
use Rattle.cbase.specs.declared.tree.decl.Storage.TheVariants.{Plain, Typedef, Extern, Static}
use Rattle.cbase.specs.declared.tree.expr.ExprForm.TheVariants.{Unary, SizeOf, SizeOfType, Call, Inner}
use Rattle.cbase.specs.declared.tree.init.Init.TheVariants.{Braces}
use Rattle.cbase.specs.declared.tree.item.Item.TheVariants.{Empty, Declare as DeclareItem, Function}
use Rattle.cbase.specs.declared.tree.operators.UnaryOp.TheVariants.{Address}
use Rattle.cbase.specs.declared.tree.spec.BasicType.TheVariants.{Void, Integer}
use Rattle.cbase.specs.declared.tree.spec.Rank.TheVariants.{Char, Int}
use Rattle.cbase.specs.declared.tree.spec.TypeSpec.TheVariants.{Basic, Struct as StructWords, Enum as EnumWords, OfExpr, OfType}
use Rattle.cbase.specs.declared.tree.stmt.StmtForm.TheVariants.{Block, Break, Declare, Eval, Return}
use Rattle.typing.specs.declared.ctypes.found.Broken.TheVariants.{Construct, Rule}
use Rattle.typing.specs.ctypes.Binary.{int_type}
use Rattle.typing.specs.Outcomes.{StoreHanded, ObjectHanded, LinkHanded, FunctionHanded, ParameterHanded}
use Rattle.typing.specs.Sample.{char_type, enumerator, type_name, token, node, name, constant, identifier, statement_at, declare, declarator, function_declarator, parameter_of, value_of, part}
use Rattle.typing.specs.SampleFile.{PassInFile, HandOn, AreRefused}

-- declarations outside of functions (C11 6.9, 6.9.2)
pub record AreItems : Type 0 where
  -- int i;
  pub tentative : HandOn ((DeclareItem (declare Plain (Basic (Integer Int true)) ((declarator (codes "i") 1 0 [] None) ∷ []))) ∷ []) (LinkHanded (record { token = 1; first = 1 }) ∷ ObjectHanded (record { token = 1; ctype = int_type; fixed = true; zeroed = false }) ∷ [])
  -- static int i;
  pub internal : HandOn ((DeclareItem (declare Static (Basic (Integer Int true)) ((declarator (codes "i") 2 0 [] None) ∷ []))) ∷ []) (LinkHanded (record { token = 2; first = 2 }) ∷ ObjectHanded (record { token = 2; ctype = int_type; fixed = true; zeroed = false }) ∷ [])
  -- extern int i;
  pub declared : HandOn ((DeclareItem (declare Extern (Basic (Integer Int true)) ((declarator (codes "i") 2 0 [] None) ∷ []))) ∷ []) (LinkHanded (record { token = 2; first = 2 }) ∷ [])
  -- extern int i = 1;
  pub extern_with_initialiser : HandOn ((DeclareItem (declare Extern (Basic (Integer Int true)) ((declarator (codes "i") 2 0 [] (Some (value_of (constant (codes "1") 0 4)))) ∷ []))) ∷ []) (LinkHanded (record { token = 2; first = 2 }) ∷ StoreHanded (record { object = 2; offset = 0; ctype = int_type; number = 0 }) ∷ ObjectHanded (record { token = 2; ctype = int_type; fixed = true; zeroed = false }) ∷ [])
  -- int n;
  pub behind_definition : HandOn ((DeclareItem (declare Plain (Basic (Integer Int true)) ((declarator (codes "n") 1 0 [] None) ∷ []))) ∷ []) (LinkHanded (record { token = 1; first = 0 }) ∷ [])
  -- int n = 2;
  pub defined_twice : AreRefused ((DeclareItem (declare Plain (Basic (Integer Int true)) ((declarator (codes "n") 1 0 [] (Some (value_of (constant (codes "2") 0 3)))) ∷ []))) ∷ []) 1 (Rule 2)
  -- int n = y;
  pub defined_twice_first : AreRefused ((DeclareItem (declare Plain (Basic (Integer Int true)) ((declarator (codes "n") 1 0 [] (Some (value_of (name (codes "y") 0 3)))) ∷ []))) ∷ []) 1 (Rule 2)
  -- char n;
  pub of_other_type : AreRefused ((DeclareItem (declare Plain (Basic (Integer Char true)) ((declarator (codes "n") 1 0 [] None) ∷ []))) ∷ []) 1 (Rule 2)
  -- int f;
  pub of_other_kind : AreRefused ((DeclareItem (declare Plain (Basic (Integer Int true)) ((declarator (codes "f") 1 0 [] None) ∷ []))) ∷ []) 1 (Rule 2)
  -- int free;
  pub built_in : AreRefused ((DeclareItem (declare Plain (Basic (Integer Int true)) ((declarator (codes "free") 1 0 [] None) ∷ []))) ∷ []) 1 (Rule 2)
  -- incomplete types (6.7p7)
  -- struct t i;
  pub incomplete : AreRefused ((DeclareItem (declare Plain (StructWords (Some (identifier (codes "t") 1)) None) ((declarator (codes "i") 2 0 [] None) ∷ []))) ∷ []) 2 (Rule 3)
  -- extern struct t i;
  pub incomplete_by_extern : PassInFile ((DeclareItem (declare Extern (StructWords (Some (identifier (codes "t") 2)) None) ((declarator (codes "i") 3 0 [] None) ∷ []))) ∷ [])
  -- extern void i;
  pub void_by_extern : AreRefused ((DeclareItem (declare Extern (Basic Void) ((declarator (codes "i") 2 0 [] None) ∷ []))) ∷ []) 2 (Rule 3)
  -- int i[];
  pub no_size : AreRefused ((DeclareItem (declare Plain (Basic (Integer Int true)) ((declarator (codes "i") 1 0 (None ∷ []) None) ∷ []))) ∷ []) 1 (Rule 3)
  -- extern int i[];
  pub no_size_by_extern : PassInFile ((DeclareItem (declare Extern (Basic (Integer Int true)) ((declarator (codes "i") 2 0 (None ∷ []) None) ∷ []))) ∷ [])
  -- int open[];
  pub no_size_yet : AreRefused ((DeclareItem (declare Plain (Basic (Integer Int true)) ((declarator (codes "open") 1 0 (None ∷ []) None) ∷ []))) ∷ []) 1 (Rule 3)
  -- int open[3];
  pub size_told : HandOn ((DeclareItem (declare Plain (Basic (Integer Int true)) ((declarator (codes "open") 1 0 (Some (constant (codes "3") 0 3) ∷ []) None) ∷ []))) ∷ []) (LinkHanded (record { token = 1; first = 0 }) ∷ ObjectHanded (record { token = 1; ctype = (ArrayType int_type 3); fixed = true; zeroed = false }) ∷ [])
  -- char row[];
  pub size_known : HandOn ((DeclareItem (declare Plain (Basic (Integer Char true)) ((declarator (codes "row") 1 0 (None ∷ []) None) ∷ []))) ∷ []) (LinkHanded (record { token = 1; first = 0 }) ∷ [])
  -- sizes and typedefs (6.7.6.2, 6.7.8)
  -- int i[n];
  pub variable : AreRefused ((DeclareItem (declare Plain (Basic (Integer Int true)) ((declarator (codes "i") 1 0 (Some (name (codes "n") 0 3) ∷ []) None) ∷ []))) ∷ []) 3 (Rule 9)
  -- typedef int U[n];
  pub variable_typedef : AreRefused ((DeclareItem (declare Typedef (Basic (Integer Int true)) ((declarator (codes "U") 2 0 (Some (name (codes "n") 0 4) ∷ []) None) ∷ []))) ∷ []) 2 (Construct 18)
  -- typedef int U; typedef int U;
  pub typedef_twice : PassInFile ((DeclareItem (declare Typedef (Basic (Integer Int true)) ((declarator (codes "U") 2 0 [] None) ∷ []))) ∷ (DeclareItem (declare Typedef (Basic (Integer Int true)) ((declarator (codes "U") 6 0 [] None) ∷ []))) ∷ [])
  -- typedef int n;
  pub typedef_of_object : AreRefused ((DeclareItem (declare Typedef (Basic (Integer Int true)) ((declarator (codes "n") 2 0 [] None) ∷ []))) ∷ []) 2 (Rule 2)
  -- typedef int free;
  pub typedef_of_built_in : AreRefused ((DeclareItem (declare Typedef (Basic (Integer Int true)) ((declarator (codes "free") 2 0 [] None) ∷ []))) ∷ []) 2 (Rule 2)
  -- typedef int U = 3;
  pub typedef_with_initialiser : AreRefused ((DeclareItem (declare Typedef (Basic (Integer Int true)) ((declarator (codes "U") 2 0 [] (Some (value_of (constant (codes "3") 0 4)))) ∷ []))) ∷ []) 4 (Rule 5)
  -- initialisers (6.7.9)
  -- int i = n;
  pub not_constant : AreRefused ((DeclareItem (declare Plain (Basic (Integer Int true)) ((declarator (codes "i") 1 0 [] (Some (value_of (name (codes "n") 0 3)))) ∷ []))) ∷ []) 3 (Rule 9)
  -- int *i = &n;
  pub address : PassInFile ((DeclareItem (declare Plain (Basic (Integer Int true)) ((declarator (codes "i") 1 1 [] (Some (value_of (node 1 4 (Unary Address (name (codes "n") 0 5)))))) ∷ []))) ∷ [])
  -- void *i = &i;
  pub of_itself : PassInFile ((DeclareItem (declare Plain (Basic Void) ((declarator (codes "i") 1 1 [] (Some (value_of (node 1 4 (Unary Address (name (codes "i") 0 5)))))) ∷ []))) ∷ [])
  -- int i[] = { 1, 2 };
  pub size_by_initialiser : HandOn ((DeclareItem (declare Plain (Basic (Integer Int true)) ((declarator (codes "i") 1 0 (None ∷ []) (Some (Braces (part (value_of (constant (codes "1") 0 6)) ∷ part (value_of (constant (codes "2") 1 8)) ∷ [])))) ∷ []))) ∷ []) (LinkHanded (record { token = 1; first = 1 }) ∷ StoreHanded (record { object = 1; offset = 0; ctype = int_type; number = 0 }) ∷ StoreHanded (record { object = 1; offset = 4; ctype = int_type; number = 1 }) ∷ ObjectHanded (record { token = 1; ctype = (ArrayType int_type 2); fixed = true; zeroed = true }) ∷ [])
  -- int i[] = { };
  pub no_parts : AreRefused ((DeclareItem (declare Plain (Basic (Integer Int true)) ((declarator (codes "i") 1 0 (None ∷ []) (Some (Braces []))) ∷ []))) ∷ []) 1 (Rule 9)
  -- char row[] = { 1 };
  pub size_known_before : HandOn ((DeclareItem (declare Plain (Basic (Integer Char true)) ((declarator (codes "row") 1 0 (None ∷ []) (Some (Braces (part (value_of (constant (codes "1") 0 6)) ∷ [])))) ∷ []))) ∷ []) (LinkHanded (record { token = 1; first = 0 }) ∷ StoreHanded (record { object = 1; offset = 0; ctype = char_type; number = 0 }) ∷ [])
  -- int i[] = { y };
  pub value_before_size : AreRefused ((DeclareItem (declare Plain (Basic (Integer Int true)) ((declarator (codes "i") 1 0 (None ∷ []) (Some (Braces (part (value_of (name (codes "y") 0 6)) ∷ [])))) ∷ []))) ∷ []) 6 (Rule 1)
  -- int i[] = 1;
  pub array_by_value : AreRefused ((DeclareItem (declare Plain (Basic (Integer Int true)) ((declarator (codes "i") 1 0 (None ∷ []) (Some (value_of (constant (codes "1") 0 5)))) ∷ []))) ∷ []) 5 (Rule 5)
  -- int i[] = { sizeof(({ extern int i[2]; 1; })) };
  pub other_size_inside : AreRefused ((DeclareItem (declare Plain (Basic (Integer Int true)) ((declarator (codes "i") 1 0 (None ∷ []) (Some (Braces (part (value_of (node 3 6 (SizeOf (node 2 8 (Inner ((statement_at 10 (Declare (declare Extern (Basic (Integer Int true)) ((declarator (codes "i") 12 0 (Some (constant (codes "2") 0 14) ∷ []) None) ∷ [])))) ∷ (statement_at 17 (Eval (Some (constant (codes "1") 1 17)))) ∷ []) (token 19)))))) ∷ [])))) ∷ []))) ∷ []) 1 (Rule 2)
  -- names, one behind the other, and no names
  -- int i, j;
  pub two_names : HandOn ((DeclareItem (declare Plain (Basic (Integer Int true)) ((declarator (codes "i") 1 0 [] None) ∷ (declarator (codes "j") 3 0 [] None) ∷ []))) ∷ []) (LinkHanded (record { token = 1; first = 1 }) ∷ ObjectHanded (record { token = 1; ctype = int_type; fixed = true; zeroed = false }) ∷ LinkHanded (record { token = 3; first = 3 }) ∷ ObjectHanded (record { token = 3; ctype = int_type; fixed = true; zeroed = false }) ∷ [])
  -- int i, n = 2;
  pub second_name : AreRefused ((DeclareItem (declare Plain (Basic (Integer Int true)) ((declarator (codes "i") 1 0 [] None) ∷ (declarator (codes "n") 3 0 [] (Some (value_of (constant (codes "2") 0 5)))) ∷ []))) ∷ []) 3 (Rule 2)
  -- struct s;
  pub tag_alone : PassInFile ((DeclareItem (declare Plain (StructWords (Some (identifier (codes "s") 1)) None) [])) ∷ [])
  -- typeof(int[n]);
  pub nothing_declared : AreRefused ((DeclareItem (declare Plain (OfType (type_name (Basic (Integer Int true)) 0 (Some (name (codes "n") 0 4) ∷ []))) [])) ∷ []) 0 (Construct 18)
  -- typeof(y) n;
  pub words_first : AreRefused ((DeclareItem (declare Plain (OfExpr (name (codes "y") 0 2)) ((declarator (codes "n") 4 0 [] None) ∷ []))) ∷ []) 2 (Rule 1)
  -- sizes
  -- char i[65536];
  pub largest : PassInFile ((DeclareItem (declare Plain (Basic (Integer Char true)) ((declarator (codes "i") 1 0 (Some (constant (codes "65536") 0 3) ∷ []) None) ∷ []))) ∷ [])
  -- char i[65537];
  pub too_large : AreRefused ((DeclareItem (declare Plain (Basic (Integer Char true)) ((declarator (codes "i") 1 0 (Some (constant (codes "65537") 0 3) ∷ []) None) ∷ []))) ∷ []) 1 (Construct 19)
  -- more of linkage
  -- extern struct t i = { };
  pub incomplete_with_initialiser : AreRefused ((DeclareItem (declare Extern (StructWords (Some (identifier (codes "t") 2)) None) ((declarator (codes "i") 3 0 [] (Some (Braces []))) ∷ []))) ∷ []) 3 (Rule 3)
  -- int open[] = { 1 };
  pub size_by_first_initialiser : HandOn ((DeclareItem (declare Plain (Basic (Integer Int true)) ((declarator (codes "open") 1 0 (None ∷ []) (Some (Braces (part (value_of (constant (codes "1") 0 6)) ∷ [])))) ∷ []))) ∷ []) (LinkHanded (record { token = 1; first = 0 }) ∷ StoreHanded (record { object = 1; offset = 0; ctype = int_type; number = 0 }) ∷ ObjectHanded (record { token = 1; ctype = (ArrayType int_type 1); fixed = true; zeroed = true }) ∷ [])
  -- static int i; extern int i; int i;
  pub internal_and_external : HandOn ((DeclareItem (declare Static (Basic (Integer Int true)) ((declarator (codes "i") 2 0 [] None) ∷ []))) ∷ (DeclareItem (declare Extern (Basic (Integer Int true)) ((declarator (codes "i") 6 0 [] None) ∷ []))) ∷ (DeclareItem (declare Plain (Basic (Integer Int true)) ((declarator (codes "i") 9 0 [] None) ∷ []))) ∷ []) (LinkHanded (record { token = 2; first = 2 }) ∷ ObjectHanded (record { token = 2; ctype = int_type; fixed = true; zeroed = false }) ∷ LinkHanded (record { token = 6; first = 2 }) ∷ LinkHanded (record { token = 9; first = 2 }) ∷ [])
  -- extern int i; extern char i;
  pub two_types : AreRefused ((DeclareItem (declare Extern (Basic (Integer Int true)) ((declarator (codes "i") 2 0 [] None) ∷ []))) ∷ (DeclareItem (declare Extern (Basic (Integer Char true)) ((declarator (codes "i") 6 0 [] None) ∷ []))) ∷ []) 6 (Rule 2)

-- functions with their bodies (C11 6.9.1), and their heads (6.7.6.3)
pub record AreFunctions : Type 0 where
  -- int h(int a) { return a; }
  pub defined : HandOn ((Function (Basic (Integer Int true)) Plain (function_declarator (codes "h") 1 ((parameter_of (Basic (Integer Int true)) 0 (Some (identifier (codes "a") 4)) []) ∷ [])) ((statement_at 7 (Return (Some (name (codes "a") 0 8)))) ∷ []) (token 0)) ∷ []) (FunctionHanded (record { token = 1; result = int_type }) ∷ ParameterHanded (record { token = Some 4; ctype = int_type }) ∷ [])
  -- int h(int) { return 1; }
  pub without_name : HandOn ((Function (Basic (Integer Int true)) Plain (function_declarator (codes "h") 1 ((parameter_of (Basic (Integer Int true)) 0 None []) ∷ [])) ((statement_at 6 (Return (Some (constant (codes "1") 0 7)))) ∷ []) (token 0)) ∷ []) (FunctionHanded (record { token = 1; result = int_type }) ∷ ParameterHanded (record { token = None; ctype = int_type }) ∷ [])
  -- int h(int);
  pub head_alone : HandOn ((DeclareItem (declare Plain (Basic (Integer Int true)) ((function_declarator (codes "h") 1 ((parameter_of (Basic (Integer Int true)) 0 None []) ∷ [])) ∷ []))) ∷ []) []
  -- int h(int a) { int a; return 0; }
  pub parameter_twice : AreRefused ((Function (Basic (Integer Int true)) Plain (function_declarator (codes "h") 1 ((parameter_of (Basic (Integer Int true)) 0 (Some (identifier (codes "a") 4)) []) ∷ [])) ((statement_at 7 (Declare (declare Plain (Basic (Integer Int true)) ((declarator (codes "a") 8 0 [] None) ∷ [])))) ∷ (statement_at 10 (Return (Some (constant (codes "0") 0 11)))) ∷ []) (token 0)) ∷ []) 8 (Rule 2)
  -- int h(int a) { { int a; } return a; }
  pub hidden_in_block : PassInFile ((Function (Basic (Integer Int true)) Plain (function_declarator (codes "h") 1 ((parameter_of (Basic (Integer Int true)) 0 (Some (identifier (codes "a") 4)) []) ∷ [])) ((statement_at 7 (Block ((statement_at 8 (Declare (declare Plain (Basic (Integer Int true)) ((declarator (codes "a") 9 0 [] None) ∷ [])))) ∷ []))) ∷ (statement_at 12 (Return (Some (name (codes "a") 0 13)))) ∷ []) (token 0)) ∷ [])
  -- int h(int h) { return h; }
  pub hidden_by_parameter : PassInFile ((Function (Basic (Integer Int true)) Plain (function_declarator (codes "h") 1 ((parameter_of (Basic (Integer Int true)) 0 (Some (identifier (codes "h") 4)) []) ∷ [])) ((statement_at 7 (Return (Some (name (codes "h") 0 8)))) ∷ []) (token 0)) ∷ [])
  -- void g(void) { }
  pub behind_declaration : HandOn ((Function (Basic Void) Plain (function_declarator (codes "g") 1 []) [] (token 0)) ∷ []) (FunctionHanded (record { token = 1; result = VoidType }) ∷ [])
  -- int g(void) { return 1; }
  pub of_other_type : AreRefused ((Function (Basic (Integer Int true)) Plain (function_declarator (codes "g") 1 []) ((statement_at 6 (Return (Some (constant (codes "1") 0 7)))) ∷ []) (token 0)) ∷ []) 1 (Rule 2)
  -- int f(int, char *) { return 1; }
  pub two_bodies : AreRefused ((Function (Basic (Integer Int true)) Plain (function_declarator (codes "f") 1 ((parameter_of (Basic (Integer Int true)) 0 None []) ∷ (parameter_of (Basic (Integer Char true)) 1 None []) ∷ [])) ((statement_at 9 (Return (Some (constant (codes "1") 0 10)))) ∷ []) (token 0)) ∷ []) 1 (Rule 2)
  -- int f(int, char *);
  pub declared_behind_body : PassInFile ((DeclareItem (declare Plain (Basic (Integer Int true)) ((function_declarator (codes "f") 1 ((parameter_of (Basic (Integer Int true)) 0 None []) ∷ (parameter_of (Basic (Integer Char true)) 1 None []) ∷ [])) ∷ []))) ∷ [])
  -- int n(void) { }
  pub of_object : AreRefused ((Function (Basic (Integer Int true)) Plain (function_declarator (codes "n") 1 []) [] (token 0)) ∷ []) 1 (Rule 2)
  -- int h(struct s a) { return 1; }
  pub struct_as_parameter : AreRefused ((Function (Basic (Integer Int true)) Plain (function_declarator (codes "h") 1 ((parameter_of (StructWords (Some (identifier (codes "s") 4)) None) 0 (Some (identifier (codes "a") 5)) []) ∷ [])) ((statement_at 8 (Return (Some (constant (codes "1") 0 9)))) ∷ []) (token 0)) ∷ []) 1 (Construct 13)
  -- int h(struct s a);
  pub struct_without_body : PassInFile ((DeclareItem (declare Plain (Basic (Integer Int true)) ((function_declarator (codes "h") 1 ((parameter_of (StructWords (Some (identifier (codes "s") 4)) None) 0 (Some (identifier (codes "a") 5)) []) ∷ [])) ∷ []))) ∷ [])
  -- struct s h(void) { }
  pub struct_as_result : AreRefused ((Function (StructWords (Some (identifier (codes "s") 1)) None) Plain (function_declarator (codes "h") 2 []) [] (token 0)) ∷ []) 2 (Construct 13)
  -- int h(void a, struct s b) { }
  pub construct_first : AreRefused ((Function (Basic (Integer Int true)) Plain (function_declarator (codes "h") 1 ((parameter_of (Basic Void) 0 (Some (identifier (codes "a") 4)) []) ∷ (parameter_of (StructWords (Some (identifier (codes "s") 7)) None) 0 (Some (identifier (codes "b") 8)) []) ∷ [])) [] (token 0)) ∷ []) 1 (Construct 13)
  -- int h(void a) { }
  pub void_as_parameter : AreRefused ((Function (Basic (Integer Int true)) Plain (function_declarator (codes "h") 1 ((parameter_of (Basic Void) 0 (Some (identifier (codes "a") 4)) []) ∷ [])) [] (token 0)) ∷ []) 4 (Rule 3)
  -- typedef int F(int) { return 1; }
  pub typedef_with_body : AreRefused ((Function (Basic (Integer Int true)) Typedef (function_declarator (codes "F") 2 ((parameter_of (Basic (Integer Int true)) 0 None []) ∷ [])) ((statement_at 7 (Return (Some (constant (codes "1") 0 8)))) ∷ []) (token 0)) ∷ []) 2 (Construct 20)
  -- typedef int F(int);
  pub typedef_of_function : AreRefused ((DeclareItem (declare Typedef (Basic (Integer Int true)) ((function_declarator (codes "F") 2 ((parameter_of (Basic (Integer Int true)) 0 None []) ∷ [])) ∷ []))) ∷ []) 2 (Construct 20)
  -- main (5.1.2.2.1)
  -- int main(void) { return 0; }
  pub main : PassInFile ((Function (Basic (Integer Int true)) Plain (function_declarator (codes "main") 1 []) ((statement_at 6 (Return (Some (constant (codes "0") 0 7)))) ∷ []) (token 0)) ∷ [])
  -- void main(void) { }
  pub main_without_result : AreRefused ((Function (Basic Void) Plain (function_declarator (codes "main") 1 []) [] (token 0)) ∷ []) 1 (Rule 12)
  -- void main(void);
  pub main_declared : AreRefused ((DeclareItem (declare Plain (Basic Void) ((function_declarator (codes "main") 1 []) ∷ []))) ∷ []) 1 (Rule 12)
  -- char main(void) { }
  pub main_of_char : AreRefused ((Function (Basic (Integer Char true)) Plain (function_declarator (codes "main") 1 []) [] (token 0)) ∷ []) 1 (Rule 12)
  -- int main(int a) { return a; }
  pub parameter_of_main : AreRefused ((Function (Basic (Integer Int true)) Plain (function_declarator (codes "main") 1 ((parameter_of (Basic (Integer Int true)) 0 (Some (identifier (codes "a") 4)) []) ∷ [])) ((statement_at 7 (Return (Some (name (codes "a") 0 8)))) ∷ []) (token 0)) ∷ []) 8 (Rule 12)
  -- int main(int a) { return 0; }
  pub parameter_not_named : PassInFile ((Function (Basic (Integer Int true)) Plain (function_declarator (codes "main") 1 ((parameter_of (Basic (Integer Int true)) 0 (Some (identifier (codes "a") 4)) []) ∷ [])) ((statement_at 7 (Return (Some (constant (codes "0") 0 8)))) ∷ []) (token 0)) ∷ [])
  -- bodies (6.8)
  -- int h(void) { break; }
  pub no_loop : AreRefused ((Function (Basic (Integer Int true)) Plain (function_declarator (codes "h") 1 []) ((statement_at 6 Break) ∷ []) (token 0)) ∷ []) 6 (Rule 10)
  -- void h(void) { return 1; }
  pub value_of_procedure : AreRefused ((Function (Basic Void) Plain (function_declarator (codes "h") 1 []) ((statement_at 6 (Return (Some (constant (codes "1") 0 7)))) ∷ []) (token 0)) ∷ []) 6 (Rule 11)
  -- int h(void) { return y; }
  pub undeclared : AreRefused ((Function (Basic (Integer Int true)) Plain (function_declarator (codes "h") 1 []) ((statement_at 6 (Return (Some (name (codes "y") 0 7)))) ∷ []) (token 0)) ∷ []) 7 (Rule 1)
  -- items, one behind the other
  -- extern int i; int j; int i; int i = 3;
  pub listed_once : HandOn ((DeclareItem (declare Extern (Basic (Integer Int true)) ((declarator (codes "i") 2 0 [] None) ∷ []))) ∷ (DeclareItem (declare Plain (Basic (Integer Int true)) ((declarator (codes "j") 5 0 [] None) ∷ []))) ∷ (DeclareItem (declare Plain (Basic (Integer Int true)) ((declarator (codes "i") 8 0 [] None) ∷ []))) ∷ (DeclareItem (declare Plain (Basic (Integer Int true)) ((declarator (codes "i") 11 0 [] (Some (value_of (constant (codes "3") 0 13)))) ∷ []))) ∷ []) (LinkHanded (record { token = 2; first = 2 }) ∷ LinkHanded (record { token = 5; first = 5 }) ∷ ObjectHanded (record { token = 5; ctype = int_type; fixed = true; zeroed = false }) ∷ LinkHanded (record { token = 8; first = 2 }) ∷ ObjectHanded (record { token = 8; ctype = int_type; fixed = true; zeroed = false }) ∷ LinkHanded (record { token = 11; first = 2 }) ∷ StoreHanded (record { object = 11; offset = 0; ctype = int_type; number = 0 }) ∷ [])
  -- int i = 1; int i = 2;
  pub two_initialisers : AreRefused ((DeclareItem (declare Plain (Basic (Integer Int true)) ((declarator (codes "i") 1 0 [] (Some (value_of (constant (codes "1") 0 3)))) ∷ []))) ∷ (DeclareItem (declare Plain (Basic (Integer Int true)) ((declarator (codes "i") 6 0 [] (Some (value_of (constant (codes "2") 1 8)))) ∷ []))) ∷ []) 6 (Rule 2)
  -- int h(void) { return y; } int y;
  pub declared_behind : AreRefused ((Function (Basic (Integer Int true)) Plain (function_declarator (codes "h") 1 []) ((statement_at 6 (Return (Some (name (codes "y") 0 7)))) ∷ []) (token 0)) ∷ (DeclareItem (declare Plain (Basic (Integer Int true)) ((declarator (codes "y") 11 0 [] None) ∷ []))) ∷ []) 7 (Rule 1)
  -- int y; int h(void) { return y; }
  pub declared_before : PassInFile ((DeclareItem (declare Plain (Basic (Integer Int true)) ((declarator (codes "y") 1 0 [] None) ∷ []))) ∷ (Function (Basic (Integer Int true)) Plain (function_declarator (codes "h") 4 []) ((statement_at 9 (Return (Some (name (codes "y") 0 10)))) ∷ []) (token 0)) ∷ [])
  -- ;
  pub nothing : PassInFile (Empty ∷ [])
  -- the order in which they are walked
  -- typeof(y) h(void) { break; }
  pub words_first : AreRefused ((Function (OfExpr (name (codes "y") 0 2)) Plain (function_declarator (codes "h") 4 []) ((statement_at 9 Break) ∷ []) (token 0)) ∷ []) 2 (Rule 1)
  -- int f(int a[y]) { break; }
  pub parameters_first : AreRefused ((Function (Basic (Integer Int true)) Plain (function_declarator (codes "f") 1 ((parameter_of (Basic (Integer Int true)) 0 (Some (identifier (codes "a") 4)) (Some (name (codes "y") 0 6) ∷ [])) ∷ [])) ((statement_at 10 Break) ∷ []) (token 0)) ∷ []) 6 (Rule 1)
  -- int h(struct s a) { break; }
  pub head_first : AreRefused ((Function (Basic (Integer Int true)) Plain (function_declarator (codes "h") 1 ((parameter_of (StructWords (Some (identifier (codes "s") 4)) None) 0 (Some (identifier (codes "a") 5)) []) ∷ [])) ((statement_at 8 Break) ∷ []) (token 0)) ∷ []) 1 (Construct 13)
  -- int h(int a[sizeof(enum { k })]) { return k; }
  pub scope_of_parameters : PassInFile ((Function (Basic (Integer Int true)) Plain (function_declarator (codes "h") 1 ((parameter_of (Basic (Integer Int true)) 0 (Some (identifier (codes "a") 4)) (Some (node 0 6 (SizeOfType (type_name (EnumWords None (Some (enumerator (codes "k") 10 None ∷ []))) 0 []))) ∷ [])) ∷ [])) ((statement_at 16 (Return (Some (name (codes "k") 1 17)))) ∷ []) (token 0)) ∷ [])
  -- int h(int a[sizeof(enum { k })]) { return 1; } int i = k;
  pub behind_parameters : AreRefused ((Function (Basic (Integer Int true)) Plain (function_declarator (codes "h") 1 ((parameter_of (Basic (Integer Int true)) 0 (Some (identifier (codes "a") 4)) (Some (node 0 6 (SizeOfType (type_name (EnumWords None (Some (enumerator (codes "k") 10 None ∷ []))) 0 []))) ∷ [])) ∷ [])) ((statement_at 16 (Return (Some (constant (codes "1") 1 17)))) ∷ []) (token 0)) ∷ (DeclareItem (declare Plain (Basic (Integer Int true)) ((declarator (codes "i") 21 0 [] (Some (value_of (name (codes "k") 0 23)))) ∷ []))) ∷ []) 23 (Rule 1)
  -- int i = ({ return 1; 1; });
  pub returned_outside : AreRefused ((DeclareItem (declare Plain (Basic (Integer Int true)) ((declarator (codes "i") 1 0 [] (Some (value_of (node 2 3 (Inner ((statement_at 5 (Return (Some (constant (codes "1") 0 6)))) ∷ (statement_at 8 (Eval (Some (constant (codes "1") 1 8)))) ∷ []) (token 10)))))) ∷ []))) ∷ []) 5 (Rule 11)
  -- functions that are called
  -- int h(void) { return h(); }
  pub in_its_own_body : PassInFile ((Function (Basic (Integer Int true)) Plain (function_declarator (codes "h") 1 []) ((statement_at 6 (Return (Some (node 1 7 (Call (name (codes "h") 0 7) []))))) ∷ []) (token 0)) ∷ [])
  -- void h(void) { } void k(void) { h(); }
  pub behind_its_body : PassInFile ((Function (Basic Void) Plain (function_declarator (codes "h") 1 []) [] (token 0)) ∷ (Function (Basic Void) Plain (function_declarator (codes "k") 8 []) ((statement_at 13 (Eval (Some (node 1 13 (Call (name (codes "h") 0 13) []))))) ∷ []) (token 0)) ∷ [])
  -- heads alone
  -- void free(void *);
  pub built_in : PassInFile ((DeclareItem (declare Plain (Basic Void) ((function_declarator (codes "free") 1 ((parameter_of (Basic Void) 1 None []) ∷ [])) ∷ []))) ∷ [])
  -- int free(int);
  pub built_in_otherwise : AreRefused ((DeclareItem (declare Plain (Basic (Integer Int true)) ((function_declarator (codes "free") 1 ((parameter_of (Basic (Integer Int true)) 0 None []) ∷ [])) ∷ []))) ∷ []) 1 (Rule 2)
  -- typeof(row) h(void);
  pub array_as_result : AreRefused ((DeclareItem (declare Plain (OfExpr (name (codes "row") 0 2)) ((function_declarator (codes "h") 4 []) ∷ []))) ∷ []) 4 (Rule 4)
  -- int h(void) { return 1; } int h(void);
  pub head_behind_body : PassInFile ((Function (Basic (Integer Int true)) Plain (function_declarator (codes "h") 1 []) ((statement_at 6 (Return (Some (constant (codes "1") 0 7)))) ∷ []) (token 0)) ∷ (DeclareItem (declare Plain (Basic (Integer Int true)) ((function_declarator (codes "h") 11 []) ∷ []))) ∷ [])
  -- int h(void) { return 1; } int h(void) { return 2; }
  pub two_bodies_in_a_row : AreRefused ((Function (Basic (Integer Int true)) Plain (function_declarator (codes "h") 1 []) ((statement_at 6 (Return (Some (constant (codes "1") 0 7)))) ∷ []) (token 0)) ∷ (Function (Basic (Integer Int true)) Plain (function_declarator (codes "h") 11 []) ((statement_at 16 (Return (Some (constant (codes "2") 1 17)))) ∷ []) (token 0)) ∷ []) 11 (Rule 2)
  -- types that change between items
  -- extern int a[]; int h(void) { a; return 0; }
  pub incomplete_where_used : AreRefused ((DeclareItem (declare Extern (Basic (Integer Int true)) ((declarator (codes "a") 2 0 (None ∷ []) None) ∷ []))) ∷ (Function (Basic (Integer Int true)) Plain (function_declarator (codes "h") 7 []) ((statement_at 12 (Eval (Some (name (codes "a") 0 12)))) ∷ (statement_at 14 (Return (Some (constant (codes "0") 1 15)))) ∷ []) (token 0)) ∷ []) 12 (Rule 3)
  -- extern int a[]; int h(void) { { extern int a[3]; } a; return 0; }
  pub size_of_an_inner_block : AreRefused ((DeclareItem (declare Extern (Basic (Integer Int true)) ((declarator (codes "a") 2 0 (None ∷ []) None) ∷ []))) ∷ (Function (Basic (Integer Int true)) Plain (function_declarator (codes "h") 7 []) ((statement_at 12 (Block ((statement_at 13 (Declare (declare Extern (Basic (Integer Int true)) ((declarator (codes "a") 15 0 (Some (constant (codes "3") 0 17) ∷ []) None) ∷ [])))) ∷ []))) ∷ (statement_at 21 (Eval (Some (name (codes "a") 1 21)))) ∷ (statement_at 23 (Return (Some (constant (codes "0") 2 24)))) ∷ []) (token 0)) ∷ []) 21 (Rule 3)
  -- int a[3]; int h(void) { a; return 0; }
  pub complete_where_used : PassInFile ((DeclareItem (declare Plain (Basic (Integer Int true)) ((declarator (codes "a") 1 0 (Some (constant (codes "3") 0 3) ∷ []) None) ∷ []))) ∷ (Function (Basic (Integer Int true)) Plain (function_declarator (codes "h") 7 []) ((statement_at 12 (Eval (Some (name (codes "a") 0 12)))) ∷ (statement_at 14 (Return (Some (constant (codes "0") 1 15)))) ∷ []) (token 0)) ∷ [])
  -- void k(struct q *a); struct q; void k(struct q *a) { }
  pub tag_of_a_head : AreRefused ((DeclareItem (declare Plain (Basic Void) ((function_declarator (codes "k") 1 ((parameter_of (StructWords (Some (identifier (codes "q") 4)) None) 1 (Some (identifier (codes "a") 6)) []) ∷ [])) ∷ []))) ∷ (DeclareItem (declare Plain (StructWords (Some (identifier (codes "q") 10)) None) [])) ∷ (Function (Basic Void) Plain (function_declarator (codes "k") 13 ((parameter_of (StructWords (Some (identifier (codes "q") 16)) None) 1 (Some (identifier (codes "a") 18)) []) ∷ [])) [] (token 0)) ∷ []) 13 (Rule 2)
  -- struct q; void k(struct q *a); void k(struct q *a) { }
  pub tag_before_a_head : PassInFile ((DeclareItem (declare Plain (StructWords (Some (identifier (codes "q") 1)) None) [])) ∷ (DeclareItem (declare Plain (Basic Void) ((function_declarator (codes "k") 4 ((parameter_of (StructWords (Some (identifier (codes "q") 7)) None) 1 (Some (identifier (codes "a") 9)) []) ∷ [])) ∷ []))) ∷ (Function (Basic Void) Plain (function_declarator (codes "k") 13 ((parameter_of (StructWords (Some (identifier (codes "q") 16)) None) 1 (Some (identifier (codes "a") 18)) []) ∷ [])) [] (token 0)) ∷ [])
