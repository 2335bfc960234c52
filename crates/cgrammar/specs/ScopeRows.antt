-- Names that hide typedefs, and scopes that are left (C11 6.2.1).
use Rattle.std.specs.Prelude.{true, false, List, [], ◌∷◌, None, Some, codes}
use Rattle.cbase.specs.declared.tree.decl.Storage.TheVariants.{Plain, Typedef, Extern, Static}
use Rattle.cbase.specs.declared.tree.expr.ExprForm.TheVariants.{Name, Constant, Unary, Binary, Assign, Cast, SizeOfType, Member, Inner}
use Rattle.cbase.specs.declared.tree.init.Init.TheVariants.{Value}
use Rattle.cbase.specs.declared.tree.operators.BinaryOp.TheVariants.{Mul, Add, Sub}
use Rattle.cbase.specs.declared.tree.operators.UnaryOp.TheVariants.{Minus}
use Rattle.cbase.specs.declared.tree.spec.BasicType.TheVariants.{Integer}
use Rattle.cbase.specs.declared.tree.spec.Rank.TheVariants.{Int}
use Rattle.cbase.specs.declared.tree.spec.TypeSpec.TheVariants.{Basic, Named, Struct, Enum, OfExpr}
use Rattle.cbase.specs.declared.tree.stmt.Stmt.{Stmt}
use Rattle.cbase.specs.declared.tree.stmt.StmtForm.TheVariants.{Declare, Eval, Block, If, While, Do, For}
use Rattle.cgrammar.specs.Rows.{at, node, word, named}
use Rattle.cgrammar.specs.TextRows.{TextRow, taken_as, missed, HaveBlocks}
use Rattle.cgrammar.specs.Trees.{object, function, field, fields, enumerator, parameter, type_name, declaration, statement}

abbrev pub scope_table : List (TextRow (List Stmt))
scope_table =
    taken_as (codes "{ ( T ) - 1 ; }") [] ((statement (at 1) (at 6) (Eval (Some (node 2 4 (Binary Sub (node 0 2 (Name (codes "T"))) (node 1 5 (Constant (codes "1")))))))) ∷ []) 8
    ∷ taken_as (codes "{ a = ( T ) - 1 ; }") (codes "T" ∷ []) ((statement (at 1) (at 8) (Eval (Some (node 4 2 (Assign None (node 0 1 (Name (codes "a"))) (node 3 3 (Cast (type_name (Named (codes "T")) 0 []) (node 2 6 (Unary Minus (node 1 7 (Constant (codes "1")))))))))))) ∷ []) 10
    ∷ taken_as (codes "{ int T ; a = ( T ) - 1 ; }") (codes "T" ∷ []) ((statement (at 1) (at 3) (Declare (declaration Plain (Basic (Integer Int true)) ((object (word (codes "T") 2) 0 [] None) ∷ [])))) ∷ (statement (at 4) (at 11) (Eval (Some (node 4 5 (Assign None (node 0 4 (Name (codes "a"))) (node 3 9 (Binary Sub (node 1 7 (Name (codes "T"))) (node 2 10 (Constant (codes "1")))))))))) ∷ []) 13
    ∷ taken_as (codes "{ { int T ; a = ( T ) - 1 ; } a = ( T ) - 1 ; }") (codes "T" ∷ []) ((statement (at 1) (at 13) (Block ((statement (at 2) (at 4) (Declare (declaration Plain (Basic (Integer Int true)) ((object (word (codes "T") 3) 0 [] None) ∷ [])))) ∷ (statement (at 5) (at 12) (Eval (Some (node 4 6 (Assign None (node 0 5 (Name (codes "a"))) (node 3 10 (Binary Sub (node 1 8 (Name (codes "T"))) (node 2 11 (Constant (codes "1")))))))))) ∷ []))) ∷ (statement (at 14) (at 21) (Eval (Some (node 9 15 (Assign None (node 5 14 (Name (codes "a"))) (node 8 16 (Cast (type_name (Named (codes "T")) 0 []) (node 7 19 (Unary Minus (node 6 20 (Constant (codes "1")))))))))))) ∷ []) 23
    ∷ taken_as (codes "{ T T ; a = ( T ) - 1 ; }") (codes "T" ∷ []) ((statement (at 1) (at 3) (Declare (declaration Plain (Named (codes "T")) ((object (word (codes "T") 2) 0 [] None) ∷ [])))) ∷ (statement (at 4) (at 11) (Eval (Some (node 4 5 (Assign None (node 0 4 (Name (codes "a"))) (node 3 9 (Binary Sub (node 1 7 (Name (codes "T"))) (node 2 10 (Constant (codes "1")))))))))) ∷ []) 13
    ∷ missed (codes "{ T T = ( T ) 1 ; }") (codes "T" ∷ [])
    ∷ taken_as (codes "{ T T [ sizeof ( T ) ] ; }") (codes "T" ∷ []) ((statement (at 1) (at 9) (Declare (declaration Plain (Named (codes "T")) ((object (word (codes "T") 2) 0 ((Some (node 0 4 (SizeOfType (type_name (Named (codes "T")) 0 [])))) ∷ []) None) ∷ [])))) ∷ []) 11
    ∷ taken_as (codes "{ int T = ( T ) - 1 ; }") (codes "T" ∷ []) ((statement (at 1) (at 9) (Declare (declaration Plain (Basic (Integer Int true)) ((object (word (codes "T") 2) 0 [] (Some (Value (node 2 7 (Binary Sub (node 0 5 (Name (codes "T"))) (node 1 8 (Constant (codes "1"))))) (at 9)))) ∷ [])))) ∷ []) 11
    ∷ taken_as (codes "{ enum { T } ; a = ( T ) - 1 ; }") (codes "T" ∷ []) ((statement (at 1) (at 5) (Declare (declaration Plain (Enum None (Some ((enumerator (word (codes "T") 3) None) ∷ []))) []))) ∷ (statement (at 6) (at 13) (Eval (Some (node 4 7 (Assign None (node 0 6 (Name (codes "a"))) (node 3 11 (Binary Sub (node 1 9 (Name (codes "T"))) (node 2 12 (Constant (codes "1")))))))))) ∷ []) 15
    ∷ taken_as (codes "{ enum { A = sizeof ( T ) , T = ( T ) 1 , B = ( T ) - 1 } ; }") (codes "T" ∷ []) ((statement (at 1) (at 25) (Declare (declaration Plain (Enum None (Some ((enumerator (word (codes "A") 3) (Some (node 0 5 (SizeOfType (type_name (Named (codes "T")) 0 []))))) ∷ (enumerator (word (codes "T") 10) (Some (node 2 12 (Cast (type_name (Named (codes "T")) 0 []) (node 1 15 (Constant (codes "1"))))))) ∷ (enumerator (word (codes "B") 17) (Some (node 5 22 (Binary Sub (node 3 20 (Name (codes "T"))) (node 4 23 (Constant (codes "1"))))))) ∷ []))) []))) ∷ []) 27
    ∷ missed (codes "{ enum { T , A = ( T ) 1 } ; }") (codes "T" ∷ [])
    ∷ taken_as (codes "{ a = sizeof ( enum { T } ) ; b = ( T ) - 1 ; }") (codes "T" ∷ []) ((statement (at 1) (at 10) (Eval (Some (node 2 2 (Assign None (node 0 1 (Name (codes "a"))) (node 1 3 (SizeOfType (type_name (Enum None (Some ((enumerator (word (codes "T") 7) None) ∷ []))) 0 [])))))))) ∷ (statement (at 11) (at 18) (Eval (Some (node 7 12 (Assign None (node 3 11 (Name (codes "b"))) (node 6 16 (Binary Sub (node 4 14 (Name (codes "T"))) (node 5 17 (Constant (codes "1")))))))))) ∷ []) 20
    ∷ taken_as (codes "{ a = sizeof ( struct { enum { T } b ; } ) + ( T ) - 1 ; }") (codes "T" ∷ []) ((statement (at 1) (at 21) (Eval (Some (node 6 2 (Assign None (node 0 1 (Name (codes "a"))) (node 5 19 (Binary Sub (node 3 15 (Binary Add (node 1 3 (SizeOfType (type_name (Struct None (Some ((fields (Enum None (Some ((enumerator (word (codes "T") 9) None) ∷ []))) ((field (at 11) (Some (codes "b")) 0 [] None) ∷ [])) ∷ []))) 0 []))) (node 2 17 (Name (codes "T"))))) (node 4 20 (Constant (codes "1")))))))))) ∷ []) 23
    ∷ taken_as (codes "{ if ( sizeof ( enum { T } ) ) ; b = ( T ) - 1 ; }") (codes "T" ∷ []) ((statement (at 1) (at 11) (If (node 0 3 (SizeOfType (type_name (Enum None (Some ((enumerator (word (codes "T") 7) None) ∷ []))) 0 []))) (at 10) (statement (at 11) (at 11) (Eval None)) None)) ∷ (statement (at 12) (at 19) (Eval (Some (node 5 13 (Assign None (node 1 12 (Name (codes "b"))) (node 4 14 (Cast (type_name (Named (codes "T")) 0 []) (node 3 17 (Unary Minus (node 2 18 (Constant (codes "1")))))))))))) ∷ []) 21
    ∷ taken_as (codes "{ int f ( int T ) ; a = ( T ) - 1 ; }") (codes "T" ∷ []) ((statement (at 1) (at 7) (Declare (declaration Plain (Basic (Integer Int true)) ((function (word (codes "f") 2) 0 ((parameter (Basic (Integer Int true)) 0 (Some (named (codes "T") 5)) []) ∷ [])) ∷ [])))) ∷ (statement (at 8) (at 15) (Eval (Some (node 4 9 (Assign None (node 0 8 (Name (codes "a"))) (node 3 10 (Cast (type_name (Named (codes "T")) 0 []) (node 2 13 (Unary Minus (node 1 14 (Constant (codes "1")))))))))))) ∷ []) 17
    ∷ taken_as (codes "{ int f ( int T , int x [ ( T ) - 1 ] ) ; }") (codes "T" ∷ []) ((statement (at 1) (at 17) (Declare (declaration Plain (Basic (Integer Int true)) ((function (word (codes "f") 2) 0 ((parameter (Basic (Integer Int true)) 0 (Some (named (codes "T") 5)) []) ∷ (parameter (Basic (Integer Int true)) 0 (Some (named (codes "x") 8)) ((Some (node 2 13 (Binary Sub (node 0 11 (Name (codes "T"))) (node 1 14 (Constant (codes "1")))))) ∷ [])) ∷ [])) ∷ [])))) ∷ []) 19
    ∷ taken_as (codes "{ int f ( int x [ ( T ) - 1 ] , int T ) ; }") (codes "T" ∷ []) ((statement (at 1) (at 17) (Declare (declaration Plain (Basic (Integer Int true)) ((function (word (codes "f") 2) 0 ((parameter (Basic (Integer Int true)) 0 (Some (named (codes "x") 5)) ((Some (node 2 7 (Cast (type_name (Named (codes "T")) 0 []) (node 1 10 (Unary Minus (node 0 11 (Constant (codes "1")))))))) ∷ [])) ∷ (parameter (Basic (Integer Int true)) 0 (Some (named (codes "T") 15)) []) ∷ [])) ∷ [])))) ∷ []) 19
    ∷ taken_as (codes "{ int T ( int x ) ; a = ( T ) - 1 ; }") (codes "T" ∷ []) ((statement (at 1) (at 7) (Declare (declaration Plain (Basic (Integer Int true)) ((function (word (codes "T") 2) 0 ((parameter (Basic (Integer Int true)) 0 (Some (named (codes "x") 5)) []) ∷ [])) ∷ [])))) ∷ (statement (at 8) (at 15) (Eval (Some (node 4 9 (Assign None (node 0 8 (Name (codes "a"))) (node 3 13 (Binary Sub (node 1 11 (Name (codes "T"))) (node 2 14 (Constant (codes "1")))))))))) ∷ []) 17
    ∷ taken_as (codes "{ int f ( enum { T } x ) , y [ ( T ) - 1 ] ; }") (codes "T" ∷ []) ((statement (at 1) (at 19) (Declare (declaration Plain (Basic (Integer Int true)) ((function (word (codes "f") 2) 0 ((parameter (Enum None (Some ((enumerator (word (codes "T") 6) None) ∷ []))) 0 (Some (named (codes "x") 8)) []) ∷ [])) ∷ (object (word (codes "y") 11) 0 ((Some (node 2 13 (Cast (type_name (Named (codes "T")) 0 []) (node 1 16 (Unary Minus (node 0 17 (Constant (codes "1")))))))) ∷ []) None) ∷ [])))) ∷ []) 21
    ∷ taken_as (codes "{ typedef int U ; a = ( U ) - 1 ; }") [] ((statement (at 1) (at 4) (Declare (declaration Typedef (Basic (Integer Int true)) ((object (word (codes "U") 3) 0 [] None) ∷ [])))) ∷ (statement (at 5) (at 12) (Eval (Some (node 4 6 (Assign None (node 0 5 (Name (codes "a"))) (node 3 7 (Cast (type_name (Named (codes "U")) 0 []) (node 2 10 (Unary Minus (node 1 11 (Constant (codes "1")))))))))))) ∷ []) 14
    ∷ taken_as (codes "{ { typedef int U ; } a = ( U ) - 1 ; }") [] ((statement (at 1) (at 6) (Block ((statement (at 2) (at 5) (Declare (declaration Typedef (Basic (Integer Int true)) ((object (word (codes "U") 4) 0 [] None) ∷ [])))) ∷ []))) ∷ (statement (at 7) (at 14) (Eval (Some (node 4 8 (Assign None (node 0 7 (Name (codes "a"))) (node 3 12 (Binary Sub (node 1 10 (Name (codes "U"))) (node 2 13 (Constant (codes "1")))))))))) ∷ []) 16
    ∷ taken_as (codes "{ typedef int U , V [ sizeof ( U ) ] ; V U ; a = ( U ) - 1 ; }") [] ((statement (at 1) (at 12) (Declare (declaration Typedef (Basic (Integer Int true)) ((object (word (codes "U") 3) 0 [] None) ∷ (object (word (codes "V") 5) 0 ((Some (node 0 7 (SizeOfType (type_name (Named (codes "U")) 0 [])))) ∷ []) None) ∷ [])))) ∷ (statement (at 13) (at 15) (Declare (declaration Plain (Named (codes "V")) ((object (word (codes "U") 14) 0 [] None) ∷ [])))) ∷ (statement (at 16) (at 23) (Eval (Some (node 5 17 (Assign None (node 1 16 (Name (codes "a"))) (node 4 21 (Binary Sub (node 2 19 (Name (codes "U"))) (node 3 22 (Constant (codes "1")))))))))) ∷ []) 25
    ∷ taken_as (codes "{ int typedef U ; U x ; }") [] ((statement (at 1) (at 4) (Declare (declaration Typedef (Basic (Integer Int true)) ((object (word (codes "U") 3) 0 [] None) ∷ [])))) ∷ (statement (at 5) (at 7) (Declare (declaration Plain (Named (codes "U")) ((object (word (codes "x") 6) 0 [] None) ∷ [])))) ∷ []) 9
    ∷ taken_as (codes "{ typedef int f ( int ) ; f * g ; }") [] ((statement (at 1) (at 7) (Declare (declaration Typedef (Basic (Integer Int true)) ((function (word (codes "f") 3) 0 ((parameter (Basic (Integer Int true)) 0 None []) ∷ [])) ∷ [])))) ∷ (statement (at 8) (at 11) (Declare (declaration Plain (Named (codes "f")) ((object (word (codes "g") 10) 1 [] None) ∷ [])))) ∷ []) 13
    ∷ taken_as (codes "{ typedef struct U { struct U * a ; } U ; U * x ; }") [] ((statement (at 1) (at 12) (Declare (declaration Typedef (Struct (Some (named (codes "U") 3)) (Some ((fields (Struct (Some (named (codes "U") 6)) None) ((field (at 8) (Some (codes "a")) 1 [] None) ∷ [])) ∷ []))) ((object (word (codes "U") 11) 0 [] None) ∷ [])))) ∷ (statement (at 13) (at 16) (Declare (declaration Plain (Named (codes "U")) ((object (word (codes "x") 15) 1 [] None) ∷ [])))) ∷ []) 18
    ∷ taken_as (codes "{ typedef int U ; { int U ; { typedef int U ; U x ; } U * x ; } U * x ; }") [] ((statement (at 1) (at 4) (Declare (declaration Typedef (Basic (Integer Int true)) ((object (word (codes "U") 3) 0 [] None) ∷ [])))) ∷ (statement (at 5) (at 22) (Block ((statement (at 6) (at 8) (Declare (declaration Plain (Basic (Integer Int true)) ((object (word (codes "U") 7) 0 [] None) ∷ [])))) ∷ (statement (at 9) (at 17) (Block ((statement (at 10) (at 13) (Declare (declaration Typedef (Basic (Integer Int true)) ((object (word (codes "U") 12) 0 [] None) ∷ [])))) ∷ (statement (at 14) (at 16) (Declare (declaration Plain (Named (codes "U")) ((object (word (codes "x") 15) 0 [] None) ∷ [])))) ∷ []))) ∷ (statement (at 18) (at 21) (Eval (Some (node 2 19 (Binary Mul (node 0 18 (Name (codes "U"))) (node 1 20 (Name (codes "x")))))))) ∷ []))) ∷ (statement (at 23) (at 26) (Declare (declaration Plain (Named (codes "U")) ((object (word (codes "x") 25) 1 [] None) ∷ [])))) ∷ []) 28
    ∷ taken_as (codes "{ typedef U ; U x ; }") (codes "U" ∷ []) ((statement (at 1) (at 3) (Declare (declaration Typedef (Named (codes "U")) []))) ∷ (statement (at 4) (at 6) (Declare (declaration Plain (Named (codes "U")) ((object (word (codes "x") 5) 0 [] None) ∷ [])))) ∷ []) 8
    ∷ missed (codes "{ typedef U ; U x ; }") []
    ∷ taken_as (codes "{ for ( int T = 0 ; ( T ) - 1 ; ( T ) - 2 ) a = ( T ) - 3 ; a = ( T ) - 4 ; }") (codes "T" ∷ []) ((statement (at 1) (at 27) (For (statement (at 3) (at 7) (Declare (declaration Plain (Basic (Integer Int true)) ((object (word (codes "T") 4) 0 [] (Some (Value (node 0 6 (Constant (codes "0"))) (at 7)))) ∷ [])))) (Some (node 3 11 (Binary Sub (node 1 9 (Name (codes "T"))) (node 2 12 (Constant (codes "1")))))) (at 13) (Some (node 6 17 (Binary Sub (node 4 15 (Name (codes "T"))) (node 5 18 (Constant (codes "2")))))) (at 19) (statement (at 20) (at 27) (Eval (Some (node 11 21 (Assign None (node 7 20 (Name (codes "a"))) (node 10 25 (Binary Sub (node 8 23 (Name (codes "T"))) (node 9 26 (Constant (codes "3")))))))))))) ∷ (statement (at 28) (at 35) (Eval (Some (node 16 29 (Assign None (node 12 28 (Name (codes "a"))) (node 15 30 (Cast (type_name (Named (codes "T")) 0 []) (node 14 33 (Unary Minus (node 13 34 (Constant (codes "4")))))))))))) ∷ []) 37
    ∷ missed (codes "{ for ( typedef int U ; ; ) { U x ; } U x ; }") []
    ∷ missed (codes "{ for ( typedef int U ; ; ) U * x ; }") []
    ∷ taken_as (codes "{ while ( a ) { int T ; } T x ; }") (codes "T" ∷ []) ((statement (at 1) (at 9) (While (node 0 3 (Name (codes "a"))) (at 4) (statement (at 5) (at 9) (Block ((statement (at 6) (at 8) (Declare (declaration Plain (Basic (Integer Int true)) ((object (word (codes "T") 7) 0 [] None) ∷ [])))) ∷ []))))) ∷ (statement (at 10) (at 12) (Declare (declaration Plain (Named (codes "T")) ((object (word (codes "x") 11) 0 [] None) ∷ [])))) ∷ []) 14
    ∷ taken_as (codes "{ int T , x = ( T ) - 1 ; }") (codes "T" ∷ []) ((statement (at 1) (at 11) (Declare (declaration Plain (Basic (Integer Int true)) ((object (word (codes "T") 2) 0 [] None) ∷ (object (word (codes "x") 4) 0 [] (Some (Value (node 2 9 (Binary Sub (node 0 7 (Name (codes "T"))) (node 1 10 (Constant (codes "1"))))) (at 11)))) ∷ [])))) ∷ []) 13
    ∷ taken_as (codes "{ int T ; int T ; typedef int T ; T x ; }") [] ((statement (at 1) (at 3) (Declare (declaration Plain (Basic (Integer Int true)) ((object (word (codes "T") 2) 0 [] None) ∷ [])))) ∷ (statement (at 4) (at 6) (Declare (declaration Plain (Basic (Integer Int true)) ((object (word (codes "T") 5) 0 [] None) ∷ [])))) ∷ (statement (at 7) (at 10) (Declare (declaration Typedef (Basic (Integer Int true)) ((object (word (codes "T") 9) 0 [] None) ∷ [])))) ∷ (statement (at 11) (at 13) (Declare (declaration Plain (Named (codes "T")) ((object (word (codes "x") 12) 0 [] None) ∷ [])))) ∷ []) 15
    ∷ taken_as (codes "{ struct T { int T ; } ; T x ; }") (codes "T" ∷ []) ((statement (at 1) (at 8) (Declare (declaration Plain (Struct (Some (named (codes "T") 2)) (Some ((fields (Basic (Integer Int true)) ((field (at 5) (Some (codes "T")) 0 [] None) ∷ [])) ∷ []))) []))) ∷ (statement (at 9) (at 11) (Declare (declaration Plain (Named (codes "T")) ((object (word (codes "x") 10) 0 [] None) ∷ [])))) ∷ []) 13
    ∷ taken_as (codes "{ a . T = b -> T ; T x ; }") (codes "T" ∷ []) ((statement (at 1) (at 8) (Eval (Some (node 4 4 (Assign None (node 1 2 (Member (node 0 1 (Name (codes "a"))) (named (codes "T") 3) false)) (node 3 6 (Member (node 2 5 (Name (codes "b"))) (named (codes "T") 7) true))))))) ∷ (statement (at 9) (at 11) (Declare (declaration Plain (Named (codes "T")) ((object (word (codes "x") 10) 0 [] None) ∷ [])))) ∷ []) 13
    ∷ taken_as (codes "{ T : ; }") [] ((statement (at 3) (at 3) (Eval None)) ∷ []) 5
    ∷ taken_as (codes "{ int a = ( { int T ; ( T ) - 1 ; } ) , b = ( T ) - 1 ; }") (codes "T" ∷ []) ((statement (at 1) (at 25) (Declare (declaration Plain (Basic (Integer Int true)) ((object (word (codes "a") 2) 0 [] (Some (Value (node 3 4 (Inner ((statement (at 6) (at 8) (Declare (declaration Plain (Basic (Integer Int true)) ((object (word (codes "T") 7) 0 [] None) ∷ [])))) ∷ (statement (at 9) (at 14) (Eval (Some (node 2 12 (Binary Sub (node 0 10 (Name (codes "T"))) (node 1 13 (Constant (codes "1")))))))) ∷ []) (at 15))) (at 17)))) ∷ (object (word (codes "b") 18) 0 [] (Some (Value (node 6 20 (Cast (type_name (Named (codes "T")) 0 []) (node 5 23 (Unary Minus (node 4 24 (Constant (codes "1"))))))) (at 25)))) ∷ [])))) ∷ []) 27
    ∷ taken_as (codes "{ typeof ( sizeof ( enum { T } ) ) b = ( T ) - 1 ; }") (codes "T" ∷ []) ((statement (at 1) (at 18) (Declare (declaration Plain (OfExpr (node 0 3 (SizeOfType (type_name (Enum None (Some ((enumerator (word (codes "T") 7) None) ∷ []))) 0 [])))) ((object (word (codes "b") 11) 0 [] (Some (Value (node 3 16 (Binary Sub (node 1 14 (Name (codes "T"))) (node 2 17 (Constant (codes "1"))))) (at 18)))) ∷ [])))) ∷ []) 20
    ∷ missed (codes "{ ( T ) ; }") (codes "T" ∷ [])
    ∷ taken_as (codes "{ int x = T ; }") (codes "T" ∷ []) ((statement (at 1) (at 5) (Declare (declaration Plain (Basic (Integer Int true)) ((object (word (codes "x") 2) 0 [] (Some (Value (node 0 4 (Name (codes "T"))) (at 5)))) ∷ [])))) ∷ []) 7
    ∷ taken_as (codes "{ extern T x ; static int T ; ( T ) ; }") (codes "T" ∷ []) ((statement (at 1) (at 4) (Declare (declaration Extern (Named (codes "T")) ((object (word (codes "x") 3) 0 [] None) ∷ [])))) ∷ (statement (at 5) (at 8) (Declare (declaration Static (Basic (Integer Int true)) ((object (word (codes "T") 7) 0 [] None) ∷ [])))) ∷ (statement (at 9) (at 12) (Eval (Some (node 0 10 (Name (codes "T")))))) ∷ []) 14
    ∷ taken_as (codes "{ if ( sizeof ( enum { T } ) ) a = ( T ) - 1 ; a = ( T ) - 2 ; }") (codes "T" ∷ []) ((statement (at 1) (at 18) (If (node 0 3 (SizeOfType (type_name (Enum None (Some ((enumerator (word (codes "T") 7) None) ∷ []))) 0 []))) (at 10) (statement (at 11) (at 18) (Eval (Some (node 5 12 (Assign None (node 1 11 (Name (codes "a"))) (node 4 16 (Binary Sub (node 2 14 (Name (codes "T"))) (node 3 17 (Constant (codes "1")))))))))) None)) ∷ (statement (at 19) (at 26) (Eval (Some (node 10 20 (Assign None (node 6 19 (Name (codes "a"))) (node 9 21 (Cast (type_name (Named (codes "T")) 0 []) (node 8 24 (Unary Minus (node 7 25 (Constant (codes "2")))))))))))) ∷ []) 28
    ∷ taken_as (codes "{ if ( a ) b = sizeof ( enum { T } ) - ( T ) ; b = ( T ) - 1 ; }") (codes "T" ∷ []) ((statement (at 1) (at 18) (If (node 0 3 (Name (codes "a"))) (at 4) (statement (at 5) (at 18) (Eval (Some (node 5 6 (Assign None (node 1 5 (Name (codes "b"))) (node 4 14 (Binary Sub (node 2 7 (SizeOfType (type_name (Enum None (Some ((enumerator (word (codes "T") 11) None) ∷ []))) 0 []))) (node 3 16 (Name (codes "T")))))))))) None)) ∷ (statement (at 19) (at 26) (Eval (Some (node 10 20 (Assign None (node 6 19 (Name (codes "b"))) (node 9 21 (Cast (type_name (Named (codes "T")) 0 []) (node 8 24 (Unary Minus (node 7 25 (Constant (codes "1")))))))))))) ∷ []) 28
    ∷ taken_as (codes "{ if ( a ) b = sizeof ( enum { T } ) ; else b = ( T ) - 1 ; }") (codes "T" ∷ []) ((statement (at 1) (at 23) (If (node 0 3 (Name (codes "a"))) (at 4) (statement (at 5) (at 14) (Eval (Some (node 3 6 (Assign None (node 1 5 (Name (codes "b"))) (node 2 7 (SizeOfType (type_name (Enum None (Some ((enumerator (word (codes "T") 11) None) ∷ []))) 0 [])))))))) (Some (statement (at 16) (at 23) (Eval (Some (node 8 17 (Assign None (node 4 16 (Name (codes "b"))) (node 7 18 (Cast (type_name (Named (codes "T")) 0 []) (node 6 21 (Unary Minus (node 5 22 (Constant (codes "1"))))))))))))))) ∷ []) 25
    ∷ taken_as (codes "{ if ( a ) ; else b = sizeof ( enum { T } ) - ( T ) ; b = ( T ) - 1 ; }") (codes "T" ∷ []) ((statement (at 1) (at 20) (If (node 0 3 (Name (codes "a"))) (at 4) (statement (at 5) (at 5) (Eval None)) (Some (statement (at 7) (at 20) (Eval (Some (node 5 8 (Assign None (node 1 7 (Name (codes "b"))) (node 4 16 (Binary Sub (node 2 9 (SizeOfType (type_name (Enum None (Some ((enumerator (word (codes "T") 13) None) ∷ []))) 0 []))) (node 3 18 (Name (codes "T"))))))))))))) ∷ (statement (at 21) (at 28) (Eval (Some (node 10 22 (Assign None (node 6 21 (Name (codes "b"))) (node 9 23 (Cast (type_name (Named (codes "T")) 0 []) (node 8 26 (Unary Minus (node 7 27 (Constant (codes "1")))))))))))) ∷ []) 30
    ∷ taken_as (codes "{ while ( sizeof ( enum { T } ) ) a = ( T ) - 1 ; a = ( T ) - 2 ; }") (codes "T" ∷ []) ((statement (at 1) (at 18) (While (node 0 3 (SizeOfType (type_name (Enum None (Some ((enumerator (word (codes "T") 7) None) ∷ []))) 0 []))) (at 10) (statement (at 11) (at 18) (Eval (Some (node 5 12 (Assign None (node 1 11 (Name (codes "a"))) (node 4 16 (Binary Sub (node 2 14 (Name (codes "T"))) (node 3 17 (Constant (codes "1")))))))))))) ∷ (statement (at 19) (at 26) (Eval (Some (node 10 20 (Assign None (node 6 19 (Name (codes "a"))) (node 9 21 (Cast (type_name (Named (codes "T")) 0 []) (node 8 24 (Unary Minus (node 7 25 (Constant (codes "2")))))))))))) ∷ []) 28
    ∷ taken_as (codes "{ while ( a ) b = sizeof ( enum { T } ) - ( T ) ; b = ( T ) - 1 ; }") (codes "T" ∷ []) ((statement (at 1) (at 18) (While (node 0 3 (Name (codes "a"))) (at 4) (statement (at 5) (at 18) (Eval (Some (node 5 6 (Assign None (node 1 5 (Name (codes "b"))) (node 4 14 (Binary Sub (node 2 7 (SizeOfType (type_name (Enum None (Some ((enumerator (word (codes "T") 11) None) ∷ []))) 0 []))) (node 3 16 (Name (codes "T")))))))))))) ∷ (statement (at 19) (at 26) (Eval (Some (node 10 20 (Assign None (node 6 19 (Name (codes "b"))) (node 9 21 (Cast (type_name (Named (codes "T")) 0 []) (node 8 24 (Unary Minus (node 7 25 (Constant (codes "1")))))))))))) ∷ []) 28
    ∷ taken_as (codes "{ do a = sizeof ( enum { T } ) - ( T ) ; while ( ( T ) - 1 ) ; a = ( T ) - 2 ; }") (codes "T" ∷ []) ((statement (at 1) (at 24) (Do (statement (at 2) (at 15) (Eval (Some (node 4 3 (Assign None (node 0 2 (Name (codes "a"))) (node 3 11 (Binary Sub (node 1 4 (SizeOfType (type_name (Enum None (Some ((enumerator (word (codes "T") 8) None) ∷ []))) 0 []))) (node 2 13 (Name (codes "T")))))))))) (node 7 18 (Cast (type_name (Named (codes "T")) 0 []) (node 6 21 (Unary Minus (node 5 22 (Constant (codes "1"))))))) (at 23))) ∷ (statement (at 25) (at 32) (Eval (Some (node 12 26 (Assign None (node 8 25 (Name (codes "a"))) (node 11 27 (Cast (type_name (Named (codes "T")) 0 []) (node 10 30 (Unary Minus (node 9 31 (Constant (codes "2")))))))))))) ∷ []) 34
    ∷ taken_as (codes "{ do ; while ( sizeof ( enum { T } ) - ( T ) ) ; a = ( T ) - 1 ; }") (codes "T" ∷ []) ((statement (at 1) (at 17) (Do (statement (at 2) (at 2) (Eval None)) (node 2 12 (Binary Sub (node 0 5 (SizeOfType (type_name (Enum None (Some ((enumerator (word (codes "T") 9) None) ∷ []))) 0 []))) (node 1 14 (Name (codes "T"))))) (at 16))) ∷ (statement (at 18) (at 25) (Eval (Some (node 7 19 (Assign None (node 3 18 (Name (codes "a"))) (node 6 20 (Cast (type_name (Named (codes "T")) 0 []) (node 5 23 (Unary Minus (node 4 24 (Constant (codes "1")))))))))))) ∷ []) 27
    ∷ taken_as (codes "{ for ( a = sizeof ( enum { T } ) ; ( T ) - 1 ; ( T ) - 2 ) a = ( T ) - 3 ; a = ( T ) - 4 ; }") (codes "T" ∷ []) ((statement (at 1) (at 32) (For (statement (at 3) (at 12) (Eval (Some (node 2 4 (Assign None (node 0 3 (Name (codes "a"))) (node 1 5 (SizeOfType (type_name (Enum None (Some ((enumerator (word (codes "T") 9) None) ∷ []))) 0 [])))))))) (Some (node 5 16 (Binary Sub (node 3 14 (Name (codes "T"))) (node 4 17 (Constant (codes "1")))))) (at 18) (Some (node 8 22 (Binary Sub (node 6 20 (Name (codes "T"))) (node 7 23 (Constant (codes "2")))))) (at 24) (statement (at 25) (at 32) (Eval (Some (node 13 26 (Assign None (node 9 25 (Name (codes "a"))) (node 12 30 (Binary Sub (node 10 28 (Name (codes "T"))) (node 11 31 (Constant (codes "3")))))))))))) ∷ (statement (at 33) (at 40) (Eval (Some (node 18 34 (Assign None (node 14 33 (Name (codes "a"))) (node 17 35 (Cast (type_name (Named (codes "T")) 0 []) (node 16 38 (Unary Minus (node 15 39 (Constant (codes "4")))))))))))) ∷ []) 42
    ∷ taken_as (codes "{ for ( ; ; ) a = sizeof ( enum { T } ) - ( T ) ; a = ( T ) - 1 ; }") (codes "T" ∷ []) ((statement (at 1) (at 19) (For (statement (at 3) (at 3) (Eval None)) None (at 4) None (at 5) (statement (at 6) (at 19) (Eval (Some (node 4 7 (Assign None (node 0 6 (Name (codes "a"))) (node 3 15 (Binary Sub (node 1 8 (SizeOfType (type_name (Enum None (Some ((enumerator (word (codes "T") 12) None) ∷ []))) 0 []))) (node 2 17 (Name (codes "T")))))))))))) ∷ (statement (at 20) (at 27) (Eval (Some (node 9 21 (Assign None (node 5 20 (Name (codes "a"))) (node 8 22 (Cast (type_name (Named (codes "T")) 0 []) (node 7 25 (Unary Minus (node 6 26 (Constant (codes "1")))))))))))) ∷ []) 29
    ∷ taken_as (codes "{ if ( a ) while ( sizeof ( enum { T } ) ) ; else b = ( T ) - 1 ; }") (codes "T" ∷ []) ((statement (at 1) (at 24) (If (node 0 3 (Name (codes "a"))) (at 4) (statement (at 5) (at 15) (While (node 1 7 (SizeOfType (type_name (Enum None (Some ((enumerator (word (codes "T") 11) None) ∷ []))) 0 []))) (at 14) (statement (at 15) (at 15) (Eval None)))) (Some (statement (at 17) (at 24) (Eval (Some (node 6 18 (Assign None (node 2 17 (Name (codes "b"))) (node 5 19 (Cast (type_name (Named (codes "T")) 0 []) (node 4 22 (Unary Minus (node 3 23 (Constant (codes "1"))))))))))))))) ∷ []) 26
    ∷ missed (codes "{ if ( sizeof ( enum { T } ) ) { T x ; } }") (codes "T" ∷ [])
    ∷ []

unfoldable pub ScopeRows : Type 0
ScopeRows = HaveBlocks scope_table
