-- Declarations and initialisers in blocks (C11 6.7).
use Rattle.std.specs.Prelude.{true, false, List, [], ◌∷◌, None, Some, codes}
use Rattle.cbase.specs.declared.tree.decl.Storage.TheVariants.{Plain, Typedef, Extern, Static}
use Rattle.cbase.specs.declared.tree.expr.ExprForm.TheVariants.{Name, Constant, Binary, Assign, Choose}
use Rattle.cbase.specs.declared.tree.init.Init.TheVariants.{Value, Braces}
use Rattle.cbase.specs.declared.tree.operators.BinaryOp.TheVariants.{Mul}
use Rattle.cbase.specs.declared.tree.spec.BasicType.TheVariants.{Void, Integer}
use Rattle.cbase.specs.declared.tree.spec.Rank.TheVariants.{Char, Int}
use Rattle.cbase.specs.declared.tree.spec.TypeSpec.TheVariants.{Basic, Named, Struct, Enum, OfExpr}
use Rattle.cbase.specs.declared.tree.stmt.Stmt.{Stmt}
use Rattle.cbase.specs.declared.tree.stmt.StmtForm.TheVariants.{Declare, Eval}
use Rattle.cgrammar.specs.Rows.{at, node, word, named}
use Rattle.cgrammar.specs.TextRows.{TextRow, taken_as, missed, HaveBlocks}
use Rattle.cgrammar.specs.Trees.{object, function, field, fields, enumerator, parameter, declaration, initializer, statement}

abbrev pub declaration_table : List (TextRow (List Stmt))
declaration_table =
    taken_as (codes "{ int ; }") [] ((statement (at 1) (at 2) (Declare (declaration Plain (Basic (Integer Int true)) []))) ∷ []) 4
    ∷ taken_as (codes "{ int x ; }") [] ((statement (at 1) (at 3) (Declare (declaration Plain (Basic (Integer Int true)) ((object (word (codes "x") 2) 0 [] None) ∷ [])))) ∷ []) 5
    ∷ taken_as (codes "{ int x , * y , * * z [ 2 ] [ ] ; }") [] ((statement (at 1) (at 15) (Declare (declaration Plain (Basic (Integer Int true)) ((object (word (codes "x") 2) 0 [] None) ∷ (object (word (codes "y") 5) 1 [] None) ∷ (object (word (codes "z") 9) 2 ((Some (node 0 11 (Constant (codes "2")))) ∷ None ∷ []) None) ∷ [])))) ∷ []) 17
    ∷ missed (codes "{ int x }") []
    ∷ missed (codes "{ int x , ; }") []
    ∷ missed (codes "{ int , x ; }") []
    ∷ missed (codes "{ int x y ; }") []
    ∷ missed (codes "{ int * ; }") []
    ∷ missed (codes "{ int 1 ; }") []
    ∷ missed (codes "{ int int ; }") []
    ∷ taken_as (codes "{ static int x ; }") [] ((statement (at 1) (at 4) (Declare (declaration Static (Basic (Integer Int true)) ((object (word (codes "x") 3) 0 [] None) ∷ [])))) ∷ []) 6
    ∷ taken_as (codes "{ int static x ; }") [] ((statement (at 1) (at 4) (Declare (declaration Static (Basic (Integer Int true)) ((object (word (codes "x") 3) 0 [] None) ∷ [])))) ∷ []) 6
    ∷ taken_as (codes "{ extern int x ; }") [] ((statement (at 1) (at 4) (Declare (declaration Extern (Basic (Integer Int true)) ((object (word (codes "x") 3) 0 [] None) ∷ [])))) ∷ []) 6
    ∷ taken_as (codes "{ typedef int x ; }") [] ((statement (at 1) (at 4) (Declare (declaration Typedef (Basic (Integer Int true)) ((object (word (codes "x") 3) 0 [] None) ∷ [])))) ∷ []) 6
    ∷ taken_as (codes "{ int typedef x ; }") [] ((statement (at 1) (at 4) (Declare (declaration Typedef (Basic (Integer Int true)) ((object (word (codes "x") 3) 0 [] None) ∷ [])))) ∷ []) 6
    ∷ missed (codes "{ static extern int x ; }") []
    ∷ missed (codes "{ static int static x ; }") []
    ∷ missed (codes "{ unsigned static int x ; }") []
    ∷ missed (codes "{ static x ; }") []
    ∷ missed (codes "{ static ; }") []
    ∷ taken_as (codes "{ typedef int ; }") [] ((statement (at 1) (at 3) (Declare (declaration Typedef (Basic (Integer Int true)) []))) ∷ []) 5
    ∷ taken_as (codes "{ T x ; }") (codes "T" ∷ []) ((statement (at 1) (at 3) (Declare (declaration Plain (Named (codes "T")) ((object (word (codes "x") 2) 0 [] None) ∷ [])))) ∷ []) 5
    ∷ taken_as (codes "{ T ; }") (codes "T" ∷ []) ((statement (at 1) (at 2) (Declare (declaration Plain (Named (codes "T")) []))) ∷ []) 4
    ∷ taken_as (codes "{ T * x ; }") (codes "T" ∷ []) ((statement (at 1) (at 4) (Declare (declaration Plain (Named (codes "T")) ((object (word (codes "x") 3) 1 [] None) ∷ [])))) ∷ []) 6
    ∷ taken_as (codes "{ x * T ; }") (codes "T" ∷ []) ((statement (at 1) (at 4) (Eval (Some (node 2 2 (Binary Mul (node 0 1 (Name (codes "x"))) (node 1 3 (Name (codes "T")))))))) ∷ []) 6
    ∷ missed (codes "{ T + 1 ; }") (codes "T" ∷ [])
    ∷ taken_as (codes "{ T T ; }") (codes "T" ∷ []) ((statement (at 1) (at 3) (Declare (declaration Plain (Named (codes "T")) ((object (word (codes "T") 2) 0 [] None) ∷ [])))) ∷ []) 5
    ∷ missed (codes "{ T ( x ) ; }") (codes "T" ∷ [])
    ∷ taken_as (codes "{ T x ( ) ; }") (codes "T" ∷ []) ((statement (at 1) (at 5) (Declare (declaration Plain (Named (codes "T")) ((function (word (codes "x") 2) 0 []) ∷ [])))) ∷ []) 7
    ∷ missed (codes "{ x T ; }") (codes "T" ∷ [])
    ∷ taken_as (codes "{ T static x ; }") (codes "T" ∷ []) ((statement (at 1) (at 4) (Declare (declaration Static (Named (codes "T")) ((object (word (codes "x") 3) 0 [] None) ∷ [])))) ∷ []) 6
    ∷ taken_as (codes "{ static T x ; }") (codes "T" ∷ []) ((statement (at 1) (at 4) (Declare (declaration Static (Named (codes "T")) ((object (word (codes "x") 3) 0 [] None) ∷ [])))) ∷ []) 6
    ∷ taken_as (codes "{ unsigned T ; }") (codes "T" ∷ []) ((statement (at 1) (at 3) (Declare (declaration Plain (Basic (Integer Int false)) ((object (word (codes "T") 2) 0 [] None) ∷ [])))) ∷ []) 5
    ∷ missed (codes "{ T int x ; }") (codes "T" ∷ [])
    ∷ taken_as (codes "{ int x = 1 ; }") [] ((statement (at 1) (at 5) (Declare (declaration Plain (Basic (Integer Int true)) ((object (word (codes "x") 2) 0 [] (Some (Value (node 0 4 (Constant (codes "1"))) (at 5)))) ∷ [])))) ∷ []) 7
    ∷ missed (codes "{ int x = ; }") []
    ∷ taken_as (codes "{ int x = a , y = b ; }") [] ((statement (at 1) (at 9) (Declare (declaration Plain (Basic (Integer Int true)) ((object (word (codes "x") 2) 0 [] (Some (Value (node 0 4 (Name (codes "a"))) (at 5)))) ∷ (object (word (codes "y") 6) 0 [] (Some (Value (node 1 8 (Name (codes "b"))) (at 9)))) ∷ [])))) ∷ []) 11
    ∷ taken_as (codes "{ int x = a = b ; }") [] ((statement (at 1) (at 7) (Declare (declaration Plain (Basic (Integer Int true)) ((object (word (codes "x") 2) 0 [] (Some (Value (node 2 5 (Assign None (node 0 4 (Name (codes "a"))) (node 1 6 (Name (codes "b"))))) (at 7)))) ∷ [])))) ∷ []) 9
    ∷ taken_as (codes "{ int x [ 2 ] = { 1 , 2 } ; }") [] ((statement (at 1) (at 12) (Declare (declaration Plain (Basic (Integer Int true)) ((object (word (codes "x") 2) 0 ((Some (node 0 4 (Constant (codes "2")))) ∷ []) (Some (Braces ((initializer None (Value (node 1 8 (Constant (codes "1"))) (at 9))) ∷ (initializer None (Value (node 2 10 (Constant (codes "2"))) (at 11))) ∷ [])))) ∷ [])))) ∷ []) 14
    ∷ taken_as (codes "{ int x [ ] = { 1 , 2 , } ; }") [] ((statement (at 1) (at 12) (Declare (declaration Plain (Basic (Integer Int true)) ((object (word (codes "x") 2) 0 (None ∷ []) (Some (Braces ((initializer None (Value (node 0 7 (Constant (codes "1"))) (at 8))) ∷ (initializer None (Value (node 1 9 (Constant (codes "2"))) (at 10))) ∷ [])))) ∷ [])))) ∷ []) 14
    ∷ taken_as (codes "{ int x = { } ; }") [] ((statement (at 1) (at 6) (Declare (declaration Plain (Basic (Integer Int true)) ((object (word (codes "x") 2) 0 [] (Some (Braces []))) ∷ [])))) ∷ []) 8
    ∷ missed (codes "{ int x = { , } ; }") []
    ∷ missed (codes "{ int x = { 1 , , } ; }") []
    ∷ missed (codes "{ int x = { 1 2 } ; }") []
    ∷ taken_as (codes "{ int x = { { } , { 1 } , { { 2 , } } } ; }") [] ((statement (at 1) (at 19) (Declare (declaration Plain (Basic (Integer Int true)) ((object (word (codes "x") 2) 0 [] (Some (Braces ((initializer None (Braces [])) ∷ (initializer None (Braces ((initializer None (Value (node 0 9 (Constant (codes "1"))) (at 10))) ∷ []))) ∷ (initializer None (Braces ((initializer None (Braces ((initializer None (Value (node 1 14 (Constant (codes "2"))) (at 15))) ∷ []))) ∷ []))) ∷ [])))) ∷ [])))) ∷ []) 21
    ∷ taken_as (codes "{ struct s x = { . a = 1 , 2 , . b = { . c = 3 } , . d = e = f , } ; }") [] ((statement (at 1) (at 31) (Declare (declaration Plain (Struct (Some (named (codes "s") 2)) None) ((object (word (codes "x") 3) 0 [] (Some (Braces ((initializer (Some (named (codes "a") 7)) (Value (node 0 9 (Constant (codes "1"))) (at 10))) ∷ (initializer None (Value (node 1 11 (Constant (codes "2"))) (at 12))) ∷ (initializer (Some (named (codes "b") 14)) (Braces ((initializer (Some (named (codes "c") 18)) (Value (node 2 20 (Constant (codes "3"))) (at 21))) ∷ []))) ∷ (initializer (Some (named (codes "d") 24)) (Value (node 5 27 (Assign None (node 3 26 (Name (codes "e"))) (node 4 28 (Name (codes "f"))))) (at 29))) ∷ [])))) ∷ [])))) ∷ []) 33
    ∷ missed (codes "{ int x = { . a } ; }") []
    ∷ missed (codes "{ int x = { . a 1 } ; }") []
    ∷ missed (codes "{ int x = { . 1 = 2 } ; }") []
    ∷ missed (codes "{ int x = { [ 0 ] = 1 } ; }") []
    ∷ missed (codes "{ int x = { . a . b = 1 } ; }") []
    ∷ missed (codes "{ int x = . a = 1 ; }") []
    ∷ missed (codes "{ int x = { 1 ; }") []
    ∷ taken_as (codes "{ int x = { . T = T } ; }") (codes "T" ∷ []) ((statement (at 1) (at 10) (Declare (declaration Plain (Basic (Integer Int true)) ((object (word (codes "x") 2) 0 [] (Some (Braces ((initializer (Some (named (codes "T") 6)) (Value (node 0 8 (Name (codes "T"))) (at 9))) ∷ [])))) ∷ [])))) ∷ []) 12
    ∷ missed (codes "{ int x = ( T ) { 1 } ; }") (codes "T" ∷ [])
    ∷ taken_as (codes "{ int f ( ) ; }") [] ((statement (at 1) (at 5) (Declare (declaration Plain (Basic (Integer Int true)) ((function (word (codes "f") 2) 0 []) ∷ [])))) ∷ []) 7
    ∷ taken_as (codes "{ int f ( void ) ; }") [] ((statement (at 1) (at 6) (Declare (declaration Plain (Basic (Integer Int true)) ((function (word (codes "f") 2) 0 []) ∷ [])))) ∷ []) 8
    ∷ taken_as (codes "{ int * f ( int ) ; }") [] ((statement (at 1) (at 7) (Declare (declaration Plain (Basic (Integer Int true)) ((function (word (codes "f") 3) 1 ((parameter (Basic (Integer Int true)) 0 None []) ∷ [])) ∷ [])))) ∷ []) 9
    ∷ taken_as (codes "{ int f ( int x , T * y , T [ ] , char * z [ 2 ] ) ; }") (codes "T" ∷ []) ((statement (at 1) (at 22) (Declare (declaration Plain (Basic (Integer Int true)) ((function (word (codes "f") 2) 0 ((parameter (Basic (Integer Int true)) 0 (Some (named (codes "x") 5)) []) ∷ (parameter (Named (codes "T")) 1 (Some (named (codes "y") 9)) []) ∷ (parameter (Named (codes "T")) 0 None (None ∷ [])) ∷ (parameter (Basic (Integer Char true)) 1 (Some (named (codes "z") 17)) ((Some (node 0 19 (Constant (codes "2")))) ∷ [])) ∷ [])) ∷ [])))) ∷ []) 24
    ∷ taken_as (codes "{ int f ( void , int ) ; }") [] ((statement (at 1) (at 8) (Declare (declaration Plain (Basic (Integer Int true)) ((function (word (codes "f") 2) 0 ((parameter (Basic Void) 0 None []) ∷ (parameter (Basic (Integer Int true)) 0 None []) ∷ [])) ∷ [])))) ∷ []) 10
    ∷ taken_as (codes "{ int f ( void * ) ; }") [] ((statement (at 1) (at 7) (Declare (declaration Plain (Basic (Integer Int true)) ((function (word (codes "f") 2) 0 ((parameter (Basic Void) 1 None []) ∷ [])) ∷ [])))) ∷ []) 9
    ∷ taken_as (codes "{ int f ( void x ) ; }") [] ((statement (at 1) (at 7) (Declare (declaration Plain (Basic (Integer Int true)) ((function (word (codes "f") 2) 0 ((parameter (Basic Void) 0 (Some (named (codes "x") 5)) []) ∷ [])) ∷ [])))) ∷ []) 9
    ∷ missed (codes "{ int f ( int , ) ; }") []
    ∷ missed (codes "{ int f ( x ) ; }") []
    ∷ missed (codes "{ int f ( int ) = 1 ; }") []
    ∷ missed (codes "{ int f ( int ) [ 2 ] ; }") []
    ∷ taken_as (codes "{ int f ( int ) , g ( ) , x ; }") [] ((statement (at 1) (at 12) (Declare (declaration Plain (Basic (Integer Int true)) ((function (word (codes "f") 2) 0 ((parameter (Basic (Integer Int true)) 0 None []) ∷ [])) ∷ (function (word (codes "g") 7) 0 []) ∷ (object (word (codes "x") 11) 0 [] None) ∷ [])))) ∷ []) 14
    ∷ missed (codes "{ int f ( int ; }") []
    ∷ missed (codes "{ int f ( int x = 1 ) ; }") []
    ∷ missed (codes "{ int ( * f ) ( ) ; }") []
    ∷ taken_as (codes "{ int f ( static int x , int typedef y ) ; }") [] ((statement (at 1) (at 12) (Declare (declaration Plain (Basic (Integer Int true)) ((function (word (codes "f") 2) 0 ((parameter (Basic (Integer Int true)) 0 (Some (named (codes "x") 6)) []) ∷ (parameter (Basic (Integer Int true)) 0 (Some (named (codes "y") 10)) []) ∷ [])) ∷ [])))) ∷ []) 14
    ∷ missed (codes "{ int f ( void ) ( ) ; }") []
    ∷ missed (codes "{ int f ( T T , T x ) ; }") (codes "T" ∷ [])
    ∷ missed (codes "{ int f ( int T , T x ) ; }") (codes "T" ∷ [])
    ∷ missed (codes "{ int f ( int ... ) ; }") []
    ∷ missed (codes "{ int f ( int g ( ) ) ; }") []
    ∷ taken_as (codes "{ int f ( T ) ; }") (codes "T" ∷ []) ((statement (at 1) (at 6) (Declare (declaration Plain (Basic (Integer Int true)) ((function (word (codes "f") 2) 0 ((parameter (Named (codes "T")) 0 None []) ∷ [])) ∷ [])))) ∷ []) 8
    ∷ taken_as (codes "{ int f ( int x [ ] [ a ] , int [ 1 ] ) ; }") [] ((statement (at 1) (at 17) (Declare (declaration Plain (Basic (Integer Int true)) ((function (word (codes "f") 2) 0 ((parameter (Basic (Integer Int true)) 0 (Some (named (codes "x") 5)) (None ∷ (Some (node 0 9 (Name (codes "a")))) ∷ [])) ∷ (parameter (Basic (Integer Int true)) 0 None ((Some (node 1 14 (Constant (codes "1")))) ∷ [])) ∷ [])) ∷ [])))) ∷ []) 19
    ∷ missed (codes "{ int x [ a = b ] ; }") []
    ∷ taken_as (codes "{ int x [ a ? b : c ] ; }") [] ((statement (at 1) (at 10) (Declare (declaration Plain (Basic (Integer Int true)) ((object (word (codes "x") 2) 0 ((Some (node 3 5 (Choose (node 0 4 (Name (codes "a"))) (node 1 6 (Name (codes "b"))) (node 2 8 (Name (codes "c")))))) ∷ []) None) ∷ [])))) ∷ []) 12
    ∷ missed (codes "{ int x [ a , b ] ; }") []
    ∷ missed (codes "{ int x [ ; }") []
    ∷ missed (codes "{ int x : 3 ; }") []
    ∷ taken_as (codes "{ static int f ( void ) , * x ; }") [] ((statement (at 1) (at 10) (Declare (declaration Static (Basic (Integer Int true)) ((function (word (codes "f") 3) 0 []) ∷ (object (word (codes "x") 9) 1 [] None) ∷ [])))) ∷ []) 12
    ∷ taken_as (codes "{ struct s ; struct s { int a ; } ; struct s * x ; }") [] ((statement (at 1) (at 3) (Declare (declaration Plain (Struct (Some (named (codes "s") 2)) None) []))) ∷ (statement (at 4) (at 11) (Declare (declaration Plain (Struct (Some (named (codes "s") 5)) (Some ((fields (Basic (Integer Int true)) ((field (at 8) (Some (codes "a")) 0 [] None) ∷ [])) ∷ []))) []))) ∷ (statement (at 12) (at 16) (Declare (declaration Plain (Struct (Some (named (codes "s") 13)) None) ((object (word (codes "x") 15) 1 [] None) ∷ [])))) ∷ []) 18
    ∷ taken_as (codes "{ enum e { A } ; enum e x = A ; }") [] ((statement (at 1) (at 6) (Declare (declaration Plain (Enum (Some (named (codes "e") 2)) (Some ((enumerator (word (codes "A") 4) None) ∷ []))) []))) ∷ (statement (at 7) (at 12) (Declare (declaration Plain (Enum (Some (named (codes "e") 8)) None) ((object (word (codes "x") 9) 0 [] (Some (Value (node 0 11 (Name (codes "A"))) (at 12)))) ∷ [])))) ∷ []) 14
    ∷ taken_as (codes "{ typeof ( a ) b = a , * c ; }") [] ((statement (at 1) (at 11) (Declare (declaration Plain (OfExpr (node 0 3 (Name (codes "a")))) ((object (word (codes "b") 5) 0 [] (Some (Value (node 1 7 (Name (codes "a"))) (at 8)))) ∷ (object (word (codes "c") 10) 1 [] None) ∷ [])))) ∷ []) 13
    ∷ taken_as (codes "{ struct { int a ; } x , * y ; }") [] ((statement (at 1) (at 11) (Declare (declaration Plain (Struct None (Some ((fields (Basic (Integer Int true)) ((field (at 4) (Some (codes "a")) 0 [] None) ∷ [])) ∷ []))) ((object (word (codes "x") 7) 0 [] None) ∷ (object (word (codes "y") 10) 1 [] None) ∷ [])))) ∷ []) 13
    ∷ []

unfoldable pub DeclarationRows : Type 0
DeclarationRows = HaveBlocks declaration_table
