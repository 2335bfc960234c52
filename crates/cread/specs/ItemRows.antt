-- Texts of items of a file, with their trees, and texts that are none (C11 6.9).
use Rattle.std.specs.Prelude.{true, false, List, [], ◌∷◌, None, Some, codes}
use Rattle.cbase.specs.declared.tree.decl.Storage.TheVariants.{Plain, Typedef, Extern, Static}
use Rattle.cbase.specs.declared.tree.expr.ExprForm.TheVariants.{Name, Constant, Unary, Binary, Assign, Count, Cast, SizeOfType, Index, Member, Call, Inner}
use Rattle.cbase.specs.declared.tree.init.Init.TheVariants.{Value, Braces}
use Rattle.cbase.specs.declared.tree.operators.BinaryOp.TheVariants.{Sub, Greater}
use Rattle.cbase.specs.declared.tree.operators.UnaryOp.TheVariants.{Address, Minus, Not}
use Rattle.cbase.specs.declared.tree.item.Item.TheVariants.{Empty, Declare as DeclareItem, Function}
use Rattle.cbase.specs.declared.tree.spec.BasicType.TheVariants.{Void, Integer}
use Rattle.cbase.specs.declared.tree.spec.Rank.TheVariants.{Char, Int, LongLong}
use Rattle.cbase.specs.declared.tree.spec.TypeSpec.TheVariants.{Basic, Named, Struct, Enum}
use Rattle.cbase.specs.declared.tree.stmt.StmtForm.TheVariants.{Declare, Eval, Block, If, While, Do, For, Break, Return}
use Rattle.cgrammar.specs.Rows.{at, node, word, named}
use Rattle.cread.specs.TextItems.{ItemRow, spelled, missed, HaveItems}
use Rattle.cgrammar.specs.Trees.{object, function, field, fields, enumerator, parameter, type_name, declaration, initializer, statement}

abbrev pub item_table : List ItemRow
item_table =
    spelled (codes ";") [] Empty
    ∷ missed (codes "; ;") []
    ∷ spelled (codes "int ;") [] (DeclareItem (declaration Plain (Basic (Integer Int true)) []))
    ∷ spelled (codes "int x ;") [] (DeclareItem (declaration Plain (Basic (Integer Int true)) ((object (word (codes "x") 1) 0 [] None) ∷ [])))
    ∷ spelled (codes "int x , * y ;") [] (DeclareItem (declaration Plain (Basic (Integer Int true)) ((object (word (codes "x") 1) 0 [] None) ∷ (object (word (codes "y") 4) 1 [] None) ∷ [])))
    ∷ missed (codes "int x") []
    ∷ missed (codes "x ;") []
    ∷ missed (codes "x") []
    ∷ spelled (codes "typedef int t ;") [] (DeclareItem (declaration Typedef (Basic (Integer Int true)) ((object (word (codes "t") 2) 0 [] None) ∷ [])))
    ∷ spelled (codes "int typedef t ;") [] (DeclareItem (declaration Typedef (Basic (Integer Int true)) ((object (word (codes "t") 2) 0 [] None) ∷ [])))
    ∷ spelled (codes "typedef struct s { struct s * next ; } t , * u ;") [] (DeclareItem (declaration Typedef (Struct (Some (named (codes "s") 2)) (Some ((fields (Struct (Some (named (codes "s") 5)) None) ((field (at 7) (Some (codes "next")) 1 [] None) ∷ [])) ∷ []))) ((object (word (codes "t") 10) 0 [] None) ∷ (object (word (codes "u") 13) 1 [] None) ∷ [])))
    ∷ spelled (codes "extern int f ( int ) ;") [] (DeclareItem (declaration Extern (Basic (Integer Int true)) ((function (word (codes "f") 2) 0 ((parameter (Basic (Integer Int true)) 0 None []) ∷ [])) ∷ [])))
    ∷ spelled (codes "static int x = 1 ;") [] (DeclareItem (declaration Static (Basic (Integer Int true)) ((object (word (codes "x") 2) 0 [] (Some (Value (node 0 4 (Constant (codes "1"))) (at 5)))) ∷ [])))
    ∷ spelled (codes "int x = { 1 , 2 , } ;") [] (DeclareItem (declaration Plain (Basic (Integer Int true)) ((object (word (codes "x") 1) 0 [] (Some (Braces ((initializer None (Value (node 0 4 (Constant (codes "1"))) (at 5))) ∷ (initializer None (Value (node 1 6 (Constant (codes "2"))) (at 7))) ∷ [])))) ∷ [])))
    ∷ spelled (codes "struct s { int a ; } ;") [] (DeclareItem (declaration Plain (Struct (Some (named (codes "s") 1)) (Some ((fields (Basic (Integer Int true)) ((field (at 4) (Some (codes "a")) 0 [] None) ∷ [])) ∷ []))) []))
    ∷ spelled (codes "struct s ;") [] (DeclareItem (declaration Plain (Struct (Some (named (codes "s") 1)) None) []))
    ∷ spelled (codes "enum { A , B = 2 } ;") [] (DeclareItem (declaration Plain (Enum None (Some ((enumerator (word (codes "A") 2) None) ∷ (enumerator (word (codes "B") 4) (Some (node 0 6 (Constant (codes "2"))))) ∷ []))) []))
    ∷ spelled (codes "enum e { A , } x = A ;") [] (DeclareItem (declaration Plain (Enum (Some (named (codes "e") 1)) (Some ((enumerator (word (codes "A") 3) None) ∷ []))) ((object (word (codes "x") 6) 0 [] (Some (Value (node 0 8 (Name (codes "A"))) (at 9)))) ∷ [])))
    ∷ spelled (codes "T x ;") (codes "T" ∷ []) (DeclareItem (declaration Plain (Named (codes "T")) ((object (word (codes "x") 1) 0 [] None) ∷ [])))
    ∷ spelled (codes "T ;") (codes "T" ∷ []) (DeclareItem (declaration Plain (Named (codes "T")) []))
    ∷ spelled (codes "T * x [ 2 ] ;") (codes "T" ∷ []) (DeclareItem (declaration Plain (Named (codes "T")) ((object (word (codes "x") 2) 1 ((Some (node 0 4 (Constant (codes "2")))) ∷ []) None) ∷ [])))
    ∷ missed (codes "T x ;") []
    ∷ spelled (codes "int f ( ) { }") [] (Function (Basic (Integer Int true)) Plain (function (word (codes "f") 1) 0 []) [] (at 5))
    ∷ spelled (codes "int f ( void ) { }") [] (Function (Basic (Integer Int true)) Plain (function (word (codes "f") 1) 0 []) [] (at 6))
    ∷ missed (codes "int f ( void ) { } ;") []
    ∷ spelled (codes "int f ( void ) { return 0 ; }") [] (Function (Basic (Integer Int true)) Plain (function (word (codes "f") 1) 0 []) ((statement (at 6) (at 8) (Return (Some (node 0 7 (Constant (codes "0")))))) ∷ []) (at 9))
    ∷ spelled (codes "void * f ( int a , char * * b [ ] ) { return b ; }") [] (Function (Basic Void) Plain (function (word (codes "f") 2) 1 ((parameter (Basic (Integer Int true)) 0 (Some (named (codes "a") 5)) []) ∷ (parameter (Basic (Integer Char true)) 2 (Some (named (codes "b") 10)) (None ∷ [])) ∷ [])) ((statement (at 15) (at 17) (Return (Some (node 0 16 (Name (codes "b")))))) ∷ []) (at 18))
    ∷ spelled (codes "static int f ( int a ) { { int b ; } return a ; }") [] (Function (Basic (Integer Int true)) Static (function (word (codes "f") 2) 0 ((parameter (Basic (Integer Int true)) 0 (Some (named (codes "a") 5)) []) ∷ [])) ((statement (at 8) (at 12) (Block ((statement (at 9) (at 11) (Declare (declaration Plain (Basic (Integer Int true)) ((object (word (codes "b") 10) 0 [] None) ∷ [])))) ∷ []))) ∷ (statement (at 13) (at 15) (Return (Some (node 0 14 (Name (codes "a")))))) ∷ []) (at 16))
    ∷ spelled (codes "int static f ( ) { }") [] (Function (Basic (Integer Int true)) Static (function (word (codes "f") 2) 0 []) [] (at 6))
    ∷ spelled (codes "extern int f ( ) { }") [] (Function (Basic (Integer Int true)) Extern (function (word (codes "f") 2) 0 []) [] (at 6))
    ∷ spelled (codes "typedef int f ( ) { }") [] (Function (Basic (Integer Int true)) Typedef (function (word (codes "f") 2) 0 []) [] (at 6))
    ∷ missed (codes "f ( ) { }") []
    ∷ missed (codes "int f { }") []
    ∷ missed (codes "int f ( ) {") []
    ∷ missed (codes "int f ( ) }") []
    ∷ missed (codes "int f ( ) ; { }") []
    ∷ missed (codes "int f ( ) , g ( ) { }") []
    ∷ missed (codes "int f ( ) = 1 { }") []
    ∷ missed (codes "int x { }") []
    ∷ missed (codes "int f ( void ) ( void ) { }") []
    ∷ missed (codes "int f ( a ) int a ; { }") []
    ∷ missed (codes "int f ( int ) [ 2 ] { }") []
    ∷ missed (codes "int ( * f ) ( ) { }") []
    ∷ missed (codes "int f ( int a ... ) { }") []
    ∷ spelled (codes "int f ( void , int ) { }") [] (Function (Basic (Integer Int true)) Plain (function (word (codes "f") 1) 0 ((parameter (Basic Void) 0 None []) ∷ (parameter (Basic (Integer Int true)) 0 None []) ∷ [])) [] (at 8))
    ∷ missed (codes "int f ( int a , ) { }") []
    ∷ spelled (codes "int f ( int T ) { ( T ) - 1 ; }") (codes "T" ∷ []) (Function (Basic (Integer Int true)) Plain (function (word (codes "f") 1) 0 ((parameter (Basic (Integer Int true)) 0 (Some (named (codes "T") 4)) []) ∷ [])) ((statement (at 7) (at 12) (Eval (Some (node 2 10 (Binary Sub (node 0 8 (Name (codes "T"))) (node 1 11 (Constant (codes "1")))))))) ∷ []) (at 13))
    ∷ spelled (codes "int f ( T x ) { ( T ) - 1 ; }") (codes "T" ∷ []) (Function (Basic (Integer Int true)) Plain (function (word (codes "f") 1) 0 ((parameter (Named (codes "T")) 0 (Some (named (codes "x") 4)) []) ∷ [])) ((statement (at 7) (at 12) (Eval (Some (node 2 7 (Cast (type_name (Named (codes "T")) 0 []) (node 1 10 (Unary Minus (node 0 11 (Constant (codes "1")))))))))) ∷ []) (at 13))
    ∷ spelled (codes "int T ( T x ) { return T ; }") (codes "T" ∷ []) (Function (Basic (Integer Int true)) Plain (function (word (codes "T") 1) 0 ((parameter (Named (codes "T")) 0 (Some (named (codes "x") 4)) []) ∷ [])) ((statement (at 7) (at 9) (Return (Some (node 0 8 (Name (codes "T")))))) ∷ []) (at 10))
    ∷ missed (codes "int T ( T x ) { T y ; }") (codes "T" ∷ [])
    ∷ spelled (codes "int T ( T x ) { ( T ) - 1 ; }") (codes "T" ∷ []) (Function (Basic (Integer Int true)) Plain (function (word (codes "T") 1) 0 ((parameter (Named (codes "T")) 0 (Some (named (codes "x") 4)) []) ∷ [])) ((statement (at 7) (at 12) (Eval (Some (node 2 10 (Binary Sub (node 0 8 (Name (codes "T"))) (node 1 11 (Constant (codes "1")))))))) ∷ []) (at 13))
    ∷ spelled (codes "int f ( T T ) { T = 1 ; }") (codes "T" ∷ []) (Function (Basic (Integer Int true)) Plain (function (word (codes "f") 1) 0 ((parameter (Named (codes "T")) 0 (Some (named (codes "T") 4)) []) ∷ [])) ((statement (at 7) (at 10) (Eval (Some (node 2 8 (Assign None (node 0 7 (Name (codes "T"))) (node 1 9 (Constant (codes "1")))))))) ∷ []) (at 11))
    ∷ spelled (codes "int f ( T f ) { f = f ; }") (codes "T" ∷ []) (Function (Basic (Integer Int true)) Plain (function (word (codes "f") 1) 0 ((parameter (Named (codes "T")) 0 (Some (named (codes "f") 4)) []) ∷ [])) ((statement (at 7) (at 10) (Eval (Some (node 2 8 (Assign None (node 0 7 (Name (codes "f"))) (node 1 9 (Name (codes "f")))))))) ∷ []) (at 11))
    ∷ spelled (codes "typedef int g ( ) { g x ; }") [] (Function (Basic (Integer Int true)) Typedef (function (word (codes "g") 2) 0 []) ((statement (at 6) (at 8) (Declare (declaration Plain (Named (codes "g")) ((object (word (codes "x") 7) 0 [] None) ∷ [])))) ∷ []) (at 9))
    ∷ missed (codes "int g ( ) { g x ; }") []
    ∷ spelled (codes "int g ( int g ) { typedef int g ; }") [] (Function (Basic (Integer Int true)) Plain (function (word (codes "g") 1) 0 ((parameter (Basic (Integer Int true)) 0 (Some (named (codes "g") 4)) []) ∷ [])) ((statement (at 7) (at 10) (Declare (declaration Typedef (Basic (Integer Int true)) ((object (word (codes "g") 9) 0 [] None) ∷ [])))) ∷ []) (at 11))
    ∷ spelled (codes "int f ( ) { typedef int U ; U x ; }") [] (Function (Basic (Integer Int true)) Plain (function (word (codes "f") 1) 0 []) ((statement (at 5) (at 8) (Declare (declaration Typedef (Basic (Integer Int true)) ((object (word (codes "U") 7) 0 [] None) ∷ [])))) ∷ (statement (at 9) (at 11) (Declare (declaration Plain (Named (codes "U")) ((object (word (codes "x") 10) 0 [] None) ∷ [])))) ∷ []) (at 12))
    ∷ spelled (codes "int f ( enum { A } x ) { return A ; }") [] (Function (Basic (Integer Int true)) Plain (function (word (codes "f") 1) 0 ((parameter (Enum None (Some ((enumerator (word (codes "A") 5) None) ∷ []))) 0 (Some (named (codes "x") 7)) []) ∷ [])) ((statement (at 10) (at 12) (Return (Some (node 0 11 (Name (codes "A")))))) ∷ []) (at 13))
    ∷ spelled (codes "int f ( int x [ ( T ) - 1 ] ) { }") (codes "T" ∷ []) (Function (Basic (Integer Int true)) Plain (function (word (codes "f") 1) 0 ((parameter (Basic (Integer Int true)) 0 (Some (named (codes "x") 4)) ((Some (node 2 6 (Cast (type_name (Named (codes "T")) 0 []) (node 1 9 (Unary Minus (node 0 10 (Constant (codes "1")))))))) ∷ [])) ∷ [])) [] (at 14))
    ∷ spelled (codes "int f ( ) { int g ( int h ) ; return g ( 1 ) ; }") [] (Function (Basic (Integer Int true)) Plain (function (word (codes "f") 1) 0 []) ((statement (at 5) (at 11) (Declare (declaration Plain (Basic (Integer Int true)) ((function (word (codes "g") 6) 0 ((parameter (Basic (Integer Int true)) 0 (Some (named (codes "h") 9)) []) ∷ [])) ∷ [])))) ∷ (statement (at 12) (at 17) (Return (Some (node 2 13 (Call (node 0 13 (Name (codes "g"))) ((node 1 15 (Constant (codes "1"))) ∷ [])))))) ∷ []) (at 18))
    ∷ spelled (codes "int f ( ) { if ( a ) ; else ; }") [] (Function (Basic (Integer Int true)) Plain (function (word (codes "f") 1) 0 []) ((statement (at 5) (at 11) (If (node 0 7 (Name (codes "a"))) (at 8) (statement (at 9) (at 9) (Eval None)) (Some (statement (at 11) (at 11) (Eval None))))) ∷ []) (at 12))
    ∷ spelled (codes "int f ( ) { L : ; }") [] (Function (Basic (Integer Int true)) Plain (function (word (codes "f") 1) 0 []) ((statement (at 7) (at 7) (Eval None)) ∷ []) (at 8))
    ∷ missed (codes "int f ( ) { goto L ; }") []
    ∷ spelled (codes "int f ( ) { for ( ; ; ) break ; }") [] (Function (Basic (Integer Int true)) Plain (function (word (codes "f") 1) 0 []) ((statement (at 5) (at 11) (For (statement (at 7) (at 7) (Eval None)) None (at 8) None (at 9) (statement (at 10) (at 11) Break))) ∷ []) (at 12))
    ∷ spelled (codes "struct s { int a ; } f ( ) { }") [] (Function (Struct (Some (named (codes "s") 1)) (Some ((fields (Basic (Integer Int true)) ((field (at 4) (Some (codes "a")) 0 [] None) ∷ [])) ∷ []))) Plain (function (word (codes "f") 7) 0 []) [] (at 11))
    ∷ spelled (codes "struct s { int a ; } x , f ( ) ;") [] (DeclareItem (declaration Plain (Struct (Some (named (codes "s") 1)) (Some ((fields (Basic (Integer Int true)) ((field (at 4) (Some (codes "a")) 0 [] None) ∷ [])) ∷ []))) ((object (word (codes "x") 7) 0 [] None) ∷ (function (word (codes "f") 9) 0 []) ∷ [])))
    ∷ spelled (codes "struct s f ( struct s a ) { return a ; }") [] (Function (Struct (Some (named (codes "s") 1)) None) Plain (function (word (codes "f") 2) 0 ((parameter (Struct (Some (named (codes "s") 5)) None) 0 (Some (named (codes "a") 6)) []) ∷ [])) ((statement (at 9) (at 11) (Return (Some (node 0 10 (Name (codes "a")))))) ∷ []) (at 12))
    ∷ missed (codes "union u { int a ; } ;") []
    ∷ missed (codes "float f ( ) { }") []
    ∷ missed (codes "int f ( ) { switch ( a ) { } }") []
    ∷ spelled (codes "int x = ( { int y ; y ; } ) ;") [] (DeclareItem (declaration Plain (Basic (Integer Int true)) ((object (word (codes "x") 1) 0 [] (Some (Value (node 1 3 (Inner ((statement (at 5) (at 7) (Declare (declaration Plain (Basic (Integer Int true)) ((object (word (codes "y") 6) 0 [] None) ∷ [])))) ∷ (statement (at 8) (at 9) (Eval (Some (node 0 8 (Name (codes "y")))))) ∷ []) (at 10))) (at 12)))) ∷ [])))
    ∷ spelled (codes "int x = sizeof ( struct { int a ; } ) ;") [] (DeclareItem (declaration Plain (Basic (Integer Int true)) ((object (word (codes "x") 1) 0 [] (Some (Value (node 0 3 (SizeOfType (type_name (Struct None (Some ((fields (Basic (Integer Int true)) ((field (at 8) (Some (codes "a")) 0 [] None) ∷ [])) ∷ []))) 0 []))) (at 12)))) ∷ [])))
    ∷ spelled (codes "int x [ sizeof ( int ) ] ;") [] (DeclareItem (declaration Plain (Basic (Integer Int true)) ((object (word (codes "x") 1) 0 ((Some (node 0 3 (SizeOfType (type_name (Basic (Integer Int true)) 0 [])))) ∷ []) None) ∷ [])))
    ∷ spelled (codes "unsigned long long int x ;") [] (DeclareItem (declaration Plain (Basic (Integer LongLong false)) ((object (word (codes "x") 4) 0 [] None) ∷ [])))
    ∷ missed (codes "int int x ;") []
    ∷ missed (codes "static extern int x ;") []
    ∷ spelled (codes "struct list { struct list * next ; int data [ 4 ] ; } ;") [] (DeclareItem (declaration Plain (Struct (Some (named (codes "list") 1)) (Some ((fields (Struct (Some (named (codes "list") 4)) None) ((field (at 6) (Some (codes "next")) 1 [] None) ∷ [])) ∷ (fields (Basic (Integer Int true)) ((field (at 9) (Some (codes "data")) 0 ((Some (node 0 11 (Constant (codes "4")))) ∷ []) None) ∷ [])) ∷ []))) []))
    ∷ spelled (codes "static struct list * head , * * tail = & head ;") [] (DeclareItem (declaration Static (Struct (Some (named (codes "list") 2)) None) ((object (word (codes "head") 4) 1 [] None) ∷ (object (word (codes "tail") 8) 2 [] (Some (Value (node 1 10 (Unary Address (node 0 11 (Name (codes "head"))))) (at 12)))) ∷ [])))
    ∷ spelled (codes "struct list * new ( int x ) { struct list * p = malloc ( sizeof ( struct list ) ) ; if ( ! p ) return 0 ; p -> next = 0 ; p -> data [ 0 ] = x ; return p ; }") [] (Function (Struct (Some (named (codes "list") 1)) None) Plain (function (word (codes "new") 3) 1 ((parameter (Basic (Integer Int true)) 0 (Some (named (codes "x") 6)) []) ∷ [])) ((statement (at 9) (at 22) (Declare (declaration Plain (Struct (Some (named (codes "list") 10)) None) ((object (word (codes "p") 12) 1 [] (Some (Value (node 2 14 (Call (node 0 14 (Name (codes "malloc"))) ((node 1 16 (SizeOfType (type_name (Struct (Some (named (codes "list") 19)) None) 0 []))) ∷ []))) (at 22)))) ∷ [])))) ∷ (statement (at 23) (at 30) (If (node 4 25 (Unary Not (node 3 26 (Name (codes "p"))))) (at 27) (statement (at 28) (at 30) (Return (Some (node 5 29 (Constant (codes "0")))))) None)) ∷ (statement (at 31) (at 36) (Eval (Some (node 9 34 (Assign None (node 7 32 (Member (node 6 31 (Name (codes "p"))) (named (codes "next") 33) true)) (node 8 35 (Constant (codes "0")))))))) ∷ (statement (at 37) (at 45) (Eval (Some (node 15 43 (Assign None (node 13 40 (Index (node 11 38 (Member (node 10 37 (Name (codes "p"))) (named (codes "data") 39) true)) (node 12 41 (Constant (codes "0"))))) (node 14 44 (Name (codes "x")))))))) ∷ (statement (at 46) (at 48) (Return (Some (node 16 47 (Name (codes "p")))))) ∷ []) (at 49))
    ∷ spelled (codes "void all ( struct list * p ) { while ( p ) { struct list * q = p -> next ; free ( p ) ; p = q ; } }") [] (Function (Basic Void) Plain (function (word (codes "all") 1) 0 ((parameter (Struct (Some (named (codes "list") 4)) None) 1 (Some (named (codes "p") 6)) []) ∷ [])) ((statement (at 9) (at 32) (While (node 0 11 (Name (codes "p"))) (at 12) (statement (at 13) (at 32) (Block ((statement (at 14) (at 22) (Declare (declaration Plain (Struct (Some (named (codes "list") 15)) None) ((object (word (codes "q") 17) 1 [] (Some (Value (node 2 20 (Member (node 1 19 (Name (codes "p"))) (named (codes "next") 21) true)) (at 22)))) ∷ [])))) ∷ (statement (at 23) (at 27) (Eval (Some (node 5 23 (Call (node 3 23 (Name (codes "free"))) ((node 4 25 (Name (codes "p"))) ∷ [])))))) ∷ (statement (at 28) (at 31) (Eval (Some (node 8 29 (Assign None (node 6 28 (Name (codes "p"))) (node 7 30 (Name (codes "q")))))))) ∷ []))))) ∷ []) (at 33))
    ∷ spelled (codes "int main ( void ) { struct list * p = new ( 1 ) ; free ( p ) ; return 0 ; }") [] (Function (Basic (Integer Int true)) Plain (function (word (codes "main") 1) 0 []) ((statement (at 6) (at 15) (Declare (declaration Plain (Struct (Some (named (codes "list") 7)) None) ((object (word (codes "p") 9) 1 [] (Some (Value (node 2 11 (Call (node 0 11 (Name (codes "new"))) ((node 1 13 (Constant (codes "1"))) ∷ []))) (at 15)))) ∷ [])))) ∷ (statement (at 16) (at 20) (Eval (Some (node 5 16 (Call (node 3 16 (Name (codes "free"))) ((node 4 18 (Name (codes "p"))) ∷ [])))))) ∷ (statement (at 21) (at 23) (Return (Some (node 6 22 (Constant (codes "0")))))) ∷ []) (at 24))
    ∷ spelled (codes "int main ( int argc , char * argv [ ] ) { do ; while ( -- argc > 0 ) ; return argc ; }") [] (Function (Basic (Integer Int true)) Plain (function (word (codes "main") 1) 0 ((parameter (Basic (Integer Int true)) 0 (Some (named (codes "argc") 4)) []) ∷ (parameter (Basic (Integer Char true)) 1 (Some (named (codes "argv") 8)) (None ∷ [])) ∷ [])) ((statement (at 13) (at 22) (Do (statement (at 14) (at 14) (Eval None)) (node 3 19 (Binary Greater (node 1 17 (Count false false (node 0 18 (Name (codes "argc"))))) (node 2 20 (Constant (codes "0"))))) (at 21))) ∷ (statement (at 23) (at 25) (Return (Some (node 4 24 (Name (codes "argc")))))) ∷ []) (at 26))
    ∷ missed (codes "int f ( ) { } int g ( ) { }") []
    ∷ missed (codes "int x ; int y ;") []
    ∷ missed (codes "{ }") []
    ∷ missed (codes "int") []
    ∷ spelled (codes "int f ( ) { if ( sizeof ( enum { T } ) ) ; return ( T ) - 1 ; }") (codes "T" ∷ []) (Function (Basic (Integer Int true)) Plain (function (word (codes "f") 1) 0 []) ((statement (at 5) (at 15) (If (node 0 7 (SizeOfType (type_name (Enum None (Some ((enumerator (word (codes "T") 11) None) ∷ []))) 0 []))) (at 14) (statement (at 15) (at 15) (Eval None)) None)) ∷ (statement (at 16) (at 22) (Return (Some (node 3 17 (Cast (type_name (Named (codes "T")) 0 []) (node 2 20 (Unary Minus (node 1 21 (Constant (codes "1")))))))))) ∷ []) (at 23))
    ∷ []

unfoldable pub ItemRows : Type 0
ItemRows = HaveItems item_table
