-- Declarations in blocks with what is found of them, worked out by hand from C11. Tokens are counted from 0.
use Rattle.std.specs.Prelude.{true, false, [], ◌∷◌, None, Some, codes}
use Rattle.cbase.specs.declared.tree.decl.Storage.TheVariants.{Plain, Typedef, Extern, Static}
use Rattle.cbase.specs.declared.tree.spec.BasicType.TheVariants.{Void, Integer}
use Rattle.cbase.specs.declared.tree.spec.Rank.TheVariants.{Char, Int}
use Rattle.cbase.specs.declared.tree.spec.TypeSpec.TheVariants.{Basic, Struct as StructWords, Enum as EnumWords, OfExpr, OfType}
use Rattle.cbase.specs.declared.tree.stmt.StmtForm.TheVariants.{Eval, Block, Declare}
use Rattle.typing.specs.declared.ctypes.found.Broken.TheVariants.{Construct, Rule}
use Rattle.typing.specs.ctypes.Binary.{int_type}
use Rattle.typing.specs.Sample.{name, constant, identifier, type_name, declaration, field_of_bits, statement_at, declare, declarator, function_declarator, parameter_of, in_function, PassesIn, IsRefusedIn, MakesIn}

-- declarations (C11 6.7), in the body of a function
pub record AreDeclarations : Type 0 where
  -- int i;
  pub automatic : MakesIn in_function (statement_at 0 (Declare (declare Plain (Basic (Integer Int true)) ((declarator (codes "i") 1 0 [] None) ∷ [])))) [] (record { token = 1; ctype = int_type; fixed = false; zeroed = false })
  -- static int i;
  pub static : MakesIn in_function (statement_at 0 (Declare (declare Static (Basic (Integer Int true)) ((declarator (codes "i") 2 0 [] None) ∷ [])))) [] (record { token = 2; ctype = int_type; fixed = true; zeroed = false })
  -- int n;
  pub hidden : PassesIn in_function (statement_at 0 (Declare (declare Plain (Basic (Integer Int true)) ((declarator (codes "n") 1 0 [] None) ∷ []))))
  -- { int i; int i; }
  pub twice : IsRefusedIn in_function (statement_at 0 (Block ((statement_at 1 (Declare (declare Plain (Basic (Integer Int true)) ((declarator (codes "i") 2 0 [] None) ∷ [])))) ∷ (statement_at 4 (Declare (declare Plain (Basic (Integer Int true)) ((declarator (codes "i") 5 0 [] None) ∷ [])))) ∷ []))) 5 (Rule 2)
  -- { int i; { int i; } }
  pub inner_block : PassesIn in_function (statement_at 0 (Block ((statement_at 1 (Declare (declare Plain (Basic (Integer Int true)) ((declarator (codes "i") 2 0 [] None) ∷ [])))) ∷ (statement_at 4 (Block ((statement_at 5 (Declare (declare Plain (Basic (Integer Int true)) ((declarator (codes "i") 6 0 [] None) ∷ [])))) ∷ []))) ∷ [])))
  -- int i, i;
  pub twice_in_one : IsRefusedIn in_function (statement_at 0 (Declare (declare Plain (Basic (Integer Int true)) ((declarator (codes "i") 1 0 [] None) ∷ (declarator (codes "i") 3 0 [] None) ∷ [])))) 3 (Rule 2)
  -- { typedef int U; typedef int U; }
  pub typedef_twice : PassesIn in_function (statement_at 0 (Block ((statement_at 1 (Declare (declare Typedef (Basic (Integer Int true)) ((declarator (codes "U") 3 0 [] None) ∷ [])))) ∷ (statement_at 5 (Declare (declare Typedef (Basic (Integer Int true)) ((declarator (codes "U") 7 0 [] None) ∷ [])))) ∷ [])))
  -- { typedef int U; typedef char U; }
  pub typedef_of_other_type : IsRefusedIn in_function (statement_at 0 (Block ((statement_at 1 (Declare (declare Typedef (Basic (Integer Int true)) ((declarator (codes "U") 3 0 [] None) ∷ [])))) ∷ (statement_at 5 (Declare (declare Typedef (Basic (Integer Char true)) ((declarator (codes "U") 7 0 [] None) ∷ [])))) ∷ []))) 7 (Rule 2)
  -- { typedef int U; int U; }
  pub typedef_and_object : IsRefusedIn in_function (statement_at 0 (Block ((statement_at 1 (Declare (declare Typedef (Basic (Integer Int true)) ((declarator (codes "U") 3 0 [] None) ∷ [])))) ∷ (statement_at 5 (Declare (declare Plain (Basic (Integer Int true)) ((declarator (codes "U") 6 0 [] None) ∷ [])))) ∷ []))) 6 (Rule 2)
  -- extern int n;
  pub linked : PassesIn in_function (statement_at 0 (Declare (declare Extern (Basic (Integer Int true)) ((declarator (codes "n") 2 0 [] None) ∷ []))))
  -- extern char n;
  pub linked_of_other_type : IsRefusedIn in_function (statement_at 0 (Declare (declare Extern (Basic (Integer Char true)) ((declarator (codes "n") 2 0 [] None) ∷ [])))) 2 (Rule 2)
  -- extern int f;
  pub linked_of_other_kind : IsRefusedIn in_function (statement_at 0 (Declare (declare Extern (Basic (Integer Int true)) ((declarator (codes "f") 2 0 [] None) ∷ [])))) 2 (Rule 2)
  -- { int n; extern int n; }
  pub own_and_linked : IsRefusedIn in_function (statement_at 0 (Block ((statement_at 1 (Declare (declare Plain (Basic (Integer Int true)) ((declarator (codes "n") 2 0 [] None) ∷ [])))) ∷ (statement_at 4 (Declare (declare Extern (Basic (Integer Int true)) ((declarator (codes "n") 6 0 [] None) ∷ [])))) ∷ []))) 6 (Rule 2)
  -- { extern int n; int n; }
  pub linked_and_own : IsRefusedIn in_function (statement_at 0 (Block ((statement_at 1 (Declare (declare Extern (Basic (Integer Int true)) ((declarator (codes "n") 3 0 [] None) ∷ [])))) ∷ (statement_at 5 (Declare (declare Plain (Basic (Integer Int true)) ((declarator (codes "n") 6 0 [] None) ∷ [])))) ∷ []))) 6 (Rule 2)
  -- { extern int n; extern int n; }
  pub linked_twice : PassesIn in_function (statement_at 0 (Block ((statement_at 1 (Declare (declare Extern (Basic (Integer Int true)) ((declarator (codes "n") 3 0 [] None) ∷ [])))) ∷ (statement_at 5 (Declare (declare Extern (Basic (Integer Int true)) ((declarator (codes "n") 7 0 [] None) ∷ [])))) ∷ [])))
  -- extern int open[3];
  pub size_told : PassesIn in_function (statement_at 0 (Declare (declare Extern (Basic (Integer Int true)) ((declarator (codes "open") 2 0 (Some (constant (codes "3") 0 4) ∷ []) None) ∷ []))))
  -- extern char open[3];
  pub size_of_other_items : IsRefusedIn in_function (statement_at 0 (Declare (declare Extern (Basic (Integer Char true)) ((declarator (codes "open") 2 0 (Some (constant (codes "3") 0 4) ∷ []) None) ∷ [])))) 2 (Rule 2)
  -- extern int open[];
  pub size_left_out : PassesIn in_function (statement_at 0 (Declare (declare Extern (Basic (Integer Int true)) ((declarator (codes "open") 2 0 (None ∷ []) None) ∷ []))))
  -- extern char row[];
  pub size_known : PassesIn in_function (statement_at 0 (Declare (declare Extern (Basic (Integer Char true)) ((declarator (codes "row") 2 0 (None ∷ []) None) ∷ []))))
  -- extern struct t k;
  pub linked_of_incomplete : PassesIn in_function (statement_at 0 (Declare (declare Extern (StructWords (Some (identifier (codes "t") 2)) None) ((declarator (codes "k") 3 0 [] None) ∷ []))))
  -- extern void k;
  pub linked_of_void : IsRefusedIn in_function (statement_at 0 (Declare (declare Extern (Basic Void) ((declarator (codes "k") 2 0 [] None) ∷ [])))) 2 (Rule 3)
  -- struct t k;
  pub incomplete : IsRefusedIn in_function (statement_at 0 (Declare (declare Plain (StructWords (Some (identifier (codes "t") 1)) None) ((declarator (codes "k") 2 0 [] None) ∷ [])))) 2 (Rule 3)
  -- int k[];
  pub no_size : IsRefusedIn in_function (statement_at 0 (Declare (declare Plain (Basic (Integer Int true)) ((declarator (codes "k") 1 0 (None ∷ []) None) ∷ [])))) 1 (Rule 3)
  -- typedef int k[];
  pub typedef_of_no_size : PassesIn in_function (statement_at 0 (Declare (declare Typedef (Basic (Integer Int true)) ((declarator (codes "k") 2 0 (None ∷ []) None) ∷ []))))
  -- int k[n];
  pub variable : IsRefusedIn in_function (statement_at 0 (Declare (declare Plain (Basic (Integer Int true)) ((declarator (codes "k") 1 0 (Some (name (codes "n") 0 3) ∷ []) None) ∷ [])))) 1 (Construct 18)
  -- static int k[n];
  pub static_variable : IsRefusedIn in_function (statement_at 0 (Declare (declare Static (Basic (Integer Int true)) ((declarator (codes "k") 2 0 (Some (name (codes "n") 0 4) ∷ []) None) ∷ [])))) 4 (Rule 9)
  -- extern int k[n];
  pub linked_variable : IsRefusedIn in_function (statement_at 0 (Declare (declare Extern (Basic (Integer Int true)) ((declarator (codes "k") 2 0 (Some (name (codes "n") 0 4) ∷ []) None) ∷ [])))) 4 (Rule 9)
  -- typedef int k[n];
  pub variable_typedef : IsRefusedIn in_function (statement_at 0 (Declare (declare Typedef (Basic (Integer Int true)) ((declarator (codes "k") 2 0 (Some (name (codes "n") 0 4) ∷ []) None) ∷ [])))) 2 (Construct 18)
  -- char k[65536];
  pub largest : PassesIn in_function (statement_at 0 (Declare (declare Plain (Basic (Integer Char true)) ((declarator (codes "k") 1 0 (Some (constant (codes "65536") 0 3) ∷ []) None) ∷ []))))
  -- char k[65537];
  pub large : IsRefusedIn in_function (statement_at 0 (Declare (declare Plain (Basic (Integer Char true)) ((declarator (codes "k") 1 0 (Some (constant (codes "65537") 0 3) ∷ []) None) ∷ [])))) 1 (Construct 19)
  -- char k[0];
  pub empty : IsRefusedIn in_function (statement_at 0 (Declare (declare Plain (Basic (Integer Char true)) ((declarator (codes "k") 1 0 (Some (constant (codes "0") 0 3) ∷ []) None) ∷ [])))) 3 (Rule 9)
  -- int k[y];
  pub size_first : IsRefusedIn in_function (statement_at 0 (Declare (declare Plain (Basic (Integer Int true)) ((declarator (codes "k") 1 0 (Some (name (codes "y") 0 3) ∷ []) None) ∷ [])))) 3 (Rule 1)
  -- { int i; int i[y]; }
  pub size_before_name : IsRefusedIn in_function (statement_at 0 (Block ((statement_at 1 (Declare (declare Plain (Basic (Integer Int true)) ((declarator (codes "i") 2 0 [] None) ∷ [])))) ∷ (statement_at 4 (Declare (declare Plain (Basic (Integer Int true)) ((declarator (codes "i") 5 0 (Some (name (codes "y") 0 7) ∷ []) None) ∷ [])))) ∷ []))) 7 (Rule 1)
  -- { int i; int i[n]; }
  pub construct_before_rule : IsRefusedIn in_function (statement_at 0 (Block ((statement_at 1 (Declare (declare Plain (Basic (Integer Int true)) ((declarator (codes "i") 2 0 [] None) ∷ [])))) ∷ (statement_at 4 (Declare (declare Plain (Basic (Integer Int true)) ((declarator (codes "i") 5 0 (Some (name (codes "n") 0 7) ∷ []) None) ∷ [])))) ∷ []))) 5 (Construct 18)
  -- typeof(int[n]) k;
  pub variable_typeof : IsRefusedIn in_function (statement_at 0 (Declare (declare Plain (OfType (type_name (Basic (Integer Int true)) 0 (Some (name (codes "n") 0 4) ∷ []))) ((declarator (codes "k") 7 0 [] None) ∷ [])))) 7 (Construct 18)
  -- typeof(int[n]);
  pub nothing_declared : IsRefusedIn in_function (statement_at 0 (Declare (declare Plain (OfType (type_name (Basic (Integer Int true)) 0 (Some (name (codes "n") 0 4) ∷ []))) []))) 0 (Construct 18)
  -- { struct s; struct s k; }
  pub tag_alone : IsRefusedIn in_function (statement_at 0 (Block ((statement_at 1 (Declare (declare Plain (StructWords (Some (identifier (codes "s") 2)) None) []))) ∷ (statement_at 4 (Declare (declare Plain (StructWords (Some (identifier (codes "s") 5)) None) ((declarator (codes "k") 6 0 [] None) ∷ [])))) ∷ []))) 6 (Rule 3)
  -- { enum e; struct e; }
  pub tag_of_other_kind : IsRefusedIn in_function (statement_at 0 (Block ((statement_at 1 (Declare (declare Plain (EnumWords (Some (identifier (codes "e") 2)) None) []))) ∷ (statement_at 4 (Declare (declare Plain (StructWords (Some (identifier (codes "e") 5)) None) []))) ∷ []))) 5 (Rule 2)
  -- int f(int, char *);
  pub function : PassesIn in_function (statement_at 0 (Declare (declare Plain (Basic (Integer Int true)) ((function_declarator (codes "f") 1 ((parameter_of (Basic (Integer Int true)) 0 None []) ∷ (parameter_of (Basic (Integer Char true)) 1 None []) ∷ [])) ∷ []))))
  -- extern int f(int, char *);
  pub function_by_extern : PassesIn in_function (statement_at 0 (Declare (declare Extern (Basic (Integer Int true)) ((function_declarator (codes "f") 2 ((parameter_of (Basic (Integer Int true)) 0 None []) ∷ (parameter_of (Basic (Integer Char true)) 1 None []) ∷ [])) ∷ []))))
  -- int f(int);
  pub function_of_other_type : IsRefusedIn in_function (statement_at 0 (Declare (declare Plain (Basic (Integer Int true)) ((function_declarator (codes "f") 1 ((parameter_of (Basic (Integer Int true)) 0 None []) ∷ [])) ∷ [])))) 1 (Rule 2)
  -- int n(int);
  pub function_of_other_kind : IsRefusedIn in_function (statement_at 0 (Declare (declare Plain (Basic (Integer Int true)) ((function_declarator (codes "n") 1 ((parameter_of (Basic (Integer Int true)) 0 None []) ∷ [])) ∷ [])))) 1 (Rule 2)
  -- void free(void *);
  pub built_in : PassesIn in_function (statement_at 0 (Declare (declare Plain (Basic Void) ((function_declarator (codes "free") 1 ((parameter_of (Basic Void) 1 None []) ∷ [])) ∷ []))))
  -- int free(int);
  pub built_in_otherwise : IsRefusedIn in_function (statement_at 0 (Declare (declare Plain (Basic (Integer Int true)) ((function_declarator (codes "free") 1 ((parameter_of (Basic (Integer Int true)) 0 None []) ∷ [])) ∷ [])))) 1 (Rule 2)
  -- typedef int k(int);
  pub typedef_of_function : IsRefusedIn in_function (statement_at 0 (Declare (declare Typedef (Basic (Integer Int true)) ((function_declarator (codes "k") 2 ((parameter_of (Basic (Integer Int true)) 0 None []) ∷ [])) ∷ [])))) 2 (Construct 20)
  -- int k(int a, int a);
  pub parameters_of_one_name : IsRefusedIn in_function (statement_at 0 (Declare (declare Plain (Basic (Integer Int true)) ((function_declarator (codes "k") 1 ((parameter_of (Basic (Integer Int true)) 0 (Some (identifier (codes "a") 4)) []) ∷ (parameter_of (Basic (Integer Int true)) 0 (Some (identifier (codes "a") 7)) []) ∷ [])) ∷ [])))) 7 (Rule 2)
  -- int k(void a);
  pub void_parameter : IsRefusedIn in_function (statement_at 0 (Declare (declare Plain (Basic (Integer Int true)) ((function_declarator (codes "k") 1 ((parameter_of (Basic Void) 0 (Some (identifier (codes "a") 4)) []) ∷ [])) ∷ [])))) 4 (Rule 3)
  -- int k(void, int);
  pub unnamed_void_parameter : IsRefusedIn in_function (statement_at 0 (Declare (declare Plain (Basic (Integer Int true)) ((function_declarator (codes "k") 1 ((parameter_of (Basic Void) 0 None []) ∷ (parameter_of (Basic (Integer Int true)) 0 None []) ∷ [])) ∷ [])))) 1 (Rule 3)
  -- int k(int a[n]);
  pub variable_parameter : IsRefusedIn in_function (statement_at 0 (Declare (declare Plain (Basic (Integer Int true)) ((function_declarator (codes "k") 1 ((parameter_of (Basic (Integer Int true)) 0 (Some (identifier (codes "a") 4)) (Some (name (codes "n") 0 6) ∷ [])) ∷ [])) ∷ [])))) 1 (Construct 18)
  -- int k(char a[70000]);
  pub outermost_size : PassesIn in_function (statement_at 0 (Declare (declare Plain (Basic (Integer Int true)) ((function_declarator (codes "k") 1 ((parameter_of (Basic (Integer Char true)) 0 (Some (identifier (codes "a") 4)) (Some (constant (codes "70000") 0 6) ∷ [])) ∷ [])) ∷ []))))
  -- int k(char a[2][70000]);
  pub inner_size : IsRefusedIn in_function (statement_at 0 (Declare (declare Plain (Basic (Integer Int true)) ((function_declarator (codes "k") 1 ((parameter_of (Basic (Integer Char true)) 0 (Some (identifier (codes "a") 4)) (Some (constant (codes "2") 0 6) ∷ Some (constant (codes "70000") 1 9) ∷ [])) ∷ [])) ∷ [])))) 1 (Construct 19)
  -- int f(int a[y]);
  pub size_of_parameter_first : IsRefusedIn in_function (statement_at 0 (Declare (declare Plain (Basic (Integer Int true)) ((function_declarator (codes "f") 1 ((parameter_of (Basic (Integer Int true)) 0 (Some (identifier (codes "a") 4)) (Some (name (codes "y") 0 6) ∷ [])) ∷ [])) ∷ [])))) 6 (Rule 1)
  -- int k(int a, int b[a]);
  pub parameter_in_scope : IsRefusedIn in_function (statement_at 0 (Declare (declare Plain (Basic (Integer Int true)) ((function_declarator (codes "k") 1 ((parameter_of (Basic (Integer Int true)) 0 (Some (identifier (codes "a") 4)) []) ∷ (parameter_of (Basic (Integer Int true)) 0 (Some (identifier (codes "b") 7)) (Some (name (codes "a") 0 9) ∷ [])) ∷ [])) ∷ [])))) 1 (Construct 18)
  -- int k(struct s);
  pub struct_as_parameter : PassesIn in_function (statement_at 0 (Declare (declare Plain (Basic (Integer Int true)) ((function_declarator (codes "k") 1 ((parameter_of (StructWords (Some (identifier (codes "s") 4)) None) 0 None []) ∷ [])) ∷ []))))
  -- typeof(row) k(void);
  pub array_as_result : IsRefusedIn in_function (statement_at 0 (Declare (declare Plain (OfExpr (name (codes "row") 0 2)) ((function_declarator (codes "k") 4 []) ∷ [])))) 4 (Rule 4)
  -- struct { int a : 3; } k;
  pub field_of_bits : IsRefusedIn in_function (statement_at 0 (Declare (declare Plain (StructWords None (Some (declaration (Basic (Integer Int true)) (field_of_bits (codes "a") 3 (constant (codes "3") 0 5) ∷ []) ∷ []))) ((declarator (codes "k") 8 0 [] None) ∷ [])))) 3 (Construct 21)
  -- { extern char row[]; row; }
  pub size_kept : PassesIn in_function (statement_at 0 (Block ((statement_at 1 (Declare (declare Extern (Basic (Integer Char true)) ((declarator (codes "row") 3 0 (None ∷ []) None) ∷ [])))) ∷ (statement_at 7 (Eval (Some (name (codes "row") 0 7)))) ∷ [])))
  -- { extern int open[3]; open; }
  pub size_told_before : PassesIn in_function (statement_at 0 (Block ((statement_at 1 (Declare (declare Extern (Basic (Integer Int true)) ((declarator (codes "open") 3 0 (Some (constant (codes "3") 0 5) ∷ []) None) ∷ [])))) ∷ (statement_at 8 (Eval (Some (name (codes "open") 1 8)))) ∷ [])))
  -- int f(int, char a[3]);
  pub array_as_pointer : PassesIn in_function (statement_at 0 (Declare (declare Plain (Basic (Integer Int true)) ((function_declarator (codes "f") 1 ((parameter_of (Basic (Integer Int true)) 0 None []) ∷ (parameter_of (Basic (Integer Char true)) 0 (Some (identifier (codes "a") 6)) (Some (constant (codes "3") 0 8) ∷ [])) ∷ [])) ∷ []))))
