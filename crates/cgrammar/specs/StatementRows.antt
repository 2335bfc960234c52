-- Statements (C11 6.8).
use Rattle.std.specs.Prelude.{true, false, List, [], ◌∷◌, None, Some, codes}
use Rattle.cbase.specs.declared.tree.decl.Storage.TheVariants.{Plain}
use Rattle.cbase.specs.declared.tree.expr.ExprForm.TheVariants.{Name, Constant, Unary, Binary, Assign, Count, Choose, Cast, OffsetOf, Member, Call, Inner, AssertFail}
use Rattle.cbase.specs.declared.tree.expr.Part.TheVariants.{Member as NamedPart}
use Rattle.cbase.specs.declared.tree.init.Init.TheVariants.{Value}
use Rattle.cbase.specs.declared.tree.operators.BinaryOp.TheVariants.{Sub, Less, Greater, NotEqual, Comma}
use Rattle.cbase.specs.declared.tree.operators.UnaryOp.TheVariants.{Address, Follow}
use Rattle.cbase.specs.declared.tree.spec.BasicType.TheVariants.{Void, Integer}
use Rattle.cbase.specs.declared.tree.spec.Rank.TheVariants.{Char, Int}
use Rattle.cbase.specs.declared.tree.spec.TypeSpec.TheVariants.{Basic, Named, Struct, OfExpr}
use Rattle.cbase.specs.declared.tree.stmt.Stmt.{Stmt}
use Rattle.cbase.specs.declared.tree.stmt.StmtForm.TheVariants.{Declare, Eval, Block, If, While, Do, For, Break, Continue, Return}
use Rattle.cgrammar.specs.Rows.{at, node, word, named}
use Rattle.cgrammar.specs.TextRows.{TextRow, taken_as, missed, HaveBlocks}
use Rattle.cgrammar.specs.Trees.{object, field, fields, type_name, declaration, statement}

abbrev pub statement_table : List (TextRow (List Stmt))
statement_table =
    taken_as (codes "{ }") [] [] 2
    ∷ taken_as (codes "{ ; }") [] ((statement (at 1) (at 1) (Eval None)) ∷ []) 3
    ∷ taken_as (codes "{ ; } x") [] ((statement (at 1) (at 1) (Eval None)) ∷ []) 3
    ∷ missed (codes "{") []
    ∷ missed (codes "{ a }") []
    ∷ taken_as (codes "{ a ; }") [] ((statement (at 1) (at 2) (Eval (Some (node 0 1 (Name (codes "a")))))) ∷ []) 4
    ∷ missed (codes "{ a b ; }") []
    ∷ taken_as (codes "{ a , b ; c = d ; }") [] ((statement (at 1) (at 4) (Eval (Some (node 2 2 (Binary Comma (node 0 1 (Name (codes "a"))) (node 1 3 (Name (codes "b")))))))) ∷ (statement (at 5) (at 8) (Eval (Some (node 5 6 (Assign None (node 3 5 (Name (codes "c"))) (node 4 7 (Name (codes "d")))))))) ∷ []) 10
    ∷ taken_as (codes "{ ; ; }") [] ((statement (at 1) (at 1) (Eval None)) ∷ (statement (at 2) (at 2) (Eval None)) ∷ []) 4
    ∷ taken_as (codes "{ { } }") [] ((statement (at 1) (at 2) (Block [])) ∷ []) 4
    ∷ taken_as (codes "{ { a ; } ; }") [] ((statement (at 1) (at 4) (Block ((statement (at 2) (at 3) (Eval (Some (node 0 2 (Name (codes "a")))))) ∷ []))) ∷ (statement (at 5) (at 5) (Eval None)) ∷ []) 7
    ∷ missed (codes "{ { }") []
    ∷ missed (codes "( { } )") []
    ∷ missed (codes "a ;") []
    ∷ taken_as (codes "{ if ( a ) b ; }") [] ((statement (at 1) (at 6) (If (node 0 3 (Name (codes "a"))) (at 4) (statement (at 5) (at 6) (Eval (Some (node 1 5 (Name (codes "b")))))) None)) ∷ []) 8
    ∷ taken_as (codes "{ if ( a ) b ; else c ; }") [] ((statement (at 1) (at 9) (If (node 0 3 (Name (codes "a"))) (at 4) (statement (at 5) (at 6) (Eval (Some (node 1 5 (Name (codes "b")))))) (Some (statement (at 8) (at 9) (Eval (Some (node 2 8 (Name (codes "c"))))))))) ∷ []) 11
    ∷ taken_as (codes "{ if ( a ) if ( b ) c ; else d ; }") [] ((statement (at 1) (at 13) (If (node 0 3 (Name (codes "a"))) (at 4) (statement (at 5) (at 13) (If (node 1 7 (Name (codes "b"))) (at 8) (statement (at 9) (at 10) (Eval (Some (node 2 9 (Name (codes "c")))))) (Some (statement (at 12) (at 13) (Eval (Some (node 3 12 (Name (codes "d"))))))))) None)) ∷ []) 15
    ∷ taken_as (codes "{ if ( a ) if ( b ) c ; else d ; else e ; }") [] ((statement (at 1) (at 16) (If (node 0 3 (Name (codes "a"))) (at 4) (statement (at 5) (at 13) (If (node 1 7 (Name (codes "b"))) (at 8) (statement (at 9) (at 10) (Eval (Some (node 2 9 (Name (codes "c")))))) (Some (statement (at 12) (at 13) (Eval (Some (node 3 12 (Name (codes "d"))))))))) (Some (statement (at 15) (at 16) (Eval (Some (node 4 15 (Name (codes "e"))))))))) ∷ []) 18
    ∷ taken_as (codes "{ if ( a ) b ; else if ( c ) d ; else e ; }") [] ((statement (at 1) (at 16) (If (node 0 3 (Name (codes "a"))) (at 4) (statement (at 5) (at 6) (Eval (Some (node 1 5 (Name (codes "b")))))) (Some (statement (at 8) (at 16) (If (node 2 10 (Name (codes "c"))) (at 11) (statement (at 12) (at 13) (Eval (Some (node 3 12 (Name (codes "d")))))) (Some (statement (at 15) (at 16) (Eval (Some (node 4 15 (Name (codes "e")))))))))))) ∷ []) 18
    ∷ taken_as (codes "{ if ( a ) { if ( b ) c ; } else d ; }") [] ((statement (at 1) (at 15) (If (node 0 3 (Name (codes "a"))) (at 4) (statement (at 5) (at 12) (Block ((statement (at 6) (at 11) (If (node 1 8 (Name (codes "b"))) (at 9) (statement (at 10) (at 11) (Eval (Some (node 2 10 (Name (codes "c")))))) None)) ∷ []))) (Some (statement (at 14) (at 15) (Eval (Some (node 3 14 (Name (codes "d"))))))))) ∷ []) 17
    ∷ taken_as (codes "{ if ( a ) while ( b ) if ( c ) d ; else e ; }") [] ((statement (at 1) (at 17) (If (node 0 3 (Name (codes "a"))) (at 4) (statement (at 5) (at 17) (While (node 1 7 (Name (codes "b"))) (at 8) (statement (at 9) (at 17) (If (node 2 11 (Name (codes "c"))) (at 12) (statement (at 13) (at 14) (Eval (Some (node 3 13 (Name (codes "d")))))) (Some (statement (at 16) (at 17) (Eval (Some (node 4 16 (Name (codes "e"))))))))))) None)) ∷ []) 19
    ∷ taken_as (codes "{ if ( a ) do if ( b ) c ; while ( d ) ; else e ; }") [] ((statement (at 1) (at 19) (If (node 0 3 (Name (codes "a"))) (at 4) (statement (at 5) (at 16) (Do (statement (at 6) (at 11) (If (node 1 8 (Name (codes "b"))) (at 9) (statement (at 10) (at 11) (Eval (Some (node 2 10 (Name (codes "c")))))) None)) (node 3 14 (Name (codes "d"))) (at 15))) (Some (statement (at 18) (at 19) (Eval (Some (node 4 18 (Name (codes "e"))))))))) ∷ []) 21
    ∷ taken_as (codes "{ if ( a ) for ( ; ; ) if ( b ) c ; else d ; }") [] ((statement (at 1) (at 18) (If (node 0 3 (Name (codes "a"))) (at 4) (statement (at 5) (at 18) (For (statement (at 7) (at 7) (Eval None)) None (at 8) None (at 9) (statement (at 10) (at 18) (If (node 1 12 (Name (codes "b"))) (at 13) (statement (at 14) (at 15) (Eval (Some (node 2 14 (Name (codes "c")))))) (Some (statement (at 17) (at 18) (Eval (Some (node 3 17 (Name (codes "d"))))))))))) None)) ∷ []) 20
    ∷ taken_as (codes "{ if ( a ) x : if ( b ) c ; else d ; }") [] ((statement (at 1) (at 15) (If (node 0 3 (Name (codes "a"))) (at 4) (statement (at 7) (at 15) (If (node 1 9 (Name (codes "b"))) (at 10) (statement (at 11) (at 12) (Eval (Some (node 2 11 (Name (codes "c")))))) (Some (statement (at 14) (at 15) (Eval (Some (node 3 14 (Name (codes "d"))))))))) None)) ∷ []) 17
    ∷ missed (codes "{ if ( a ) else b ; }") []
    ∷ missed (codes "{ if ( a ) b ; else }") []
    ∷ missed (codes "{ if ( a ) b else c ; }") []
    ∷ missed (codes "{ if a b ; }") []
    ∷ missed (codes "{ if ( ) b ; }") []
    ∷ missed (codes "{ if ( a ) int b ; }") []
    ∷ missed (codes "{ else a ; }") []
    ∷ missed (codes "{ if ( a ) b ; c ; else d ; }") []
    ∷ missed (codes "{ if ( T ) a ; }") (codes "T" ∷ [])
    ∷ taken_as (codes "{ if ( ( T ) a ) ; }") (codes "T" ∷ []) ((statement (at 1) (at 8) (If (node 1 3 (Cast (type_name (Named (codes "T")) 0 []) (node 0 6 (Name (codes "a"))))) (at 7) (statement (at 8) (at 8) (Eval None)) None)) ∷ []) 10
    ∷ taken_as (codes "{ if ( a , b ) ; }") [] ((statement (at 1) (at 7) (If (node 2 4 (Binary Comma (node 0 3 (Name (codes "a"))) (node 1 5 (Name (codes "b"))))) (at 6) (statement (at 7) (at 7) (Eval None)) None)) ∷ []) 9
    ∷ missed (codes "{ if ( a ) ; else ; else ; }") []
    ∷ taken_as (codes "{ while ( a ) b ; }") [] ((statement (at 1) (at 6) (While (node 0 3 (Name (codes "a"))) (at 4) (statement (at 5) (at 6) (Eval (Some (node 1 5 (Name (codes "b")))))))) ∷ []) 8
    ∷ taken_as (codes "{ while ( a ) { b ; } }") [] ((statement (at 1) (at 8) (While (node 0 3 (Name (codes "a"))) (at 4) (statement (at 5) (at 8) (Block ((statement (at 6) (at 7) (Eval (Some (node 1 6 (Name (codes "b")))))) ∷ []))))) ∷ []) 10
    ∷ missed (codes "{ while ( ) b ; }") []
    ∷ missed (codes "{ while ( a ) }") []
    ∷ missed (codes "{ while a ; }") []
    ∷ missed (codes "{ while ( T ) ; }") (codes "T" ∷ [])
    ∷ taken_as (codes "{ while ( a ) while ( b ) ; }") [] ((statement (at 1) (at 9) (While (node 0 3 (Name (codes "a"))) (at 4) (statement (at 5) (at 9) (While (node 1 7 (Name (codes "b"))) (at 8) (statement (at 9) (at 9) (Eval None)))))) ∷ []) 11
    ∷ taken_as (codes "{ do a ; while ( b ) ; }") [] ((statement (at 1) (at 8) (Do (statement (at 2) (at 3) (Eval (Some (node 0 2 (Name (codes "a")))))) (node 1 6 (Name (codes "b"))) (at 7))) ∷ []) 10
    ∷ taken_as (codes "{ do { } while ( b ) ; }") [] ((statement (at 1) (at 8) (Do (statement (at 2) (at 3) (Block [])) (node 0 6 (Name (codes "b"))) (at 7))) ∷ []) 10
    ∷ missed (codes "{ do a ; while ( b ) }") []
    ∷ missed (codes "{ do a while ( b ) ; }") []
    ∷ taken_as (codes "{ do while ( a ) ; while ( b ) ; }") [] ((statement (at 1) (at 11) (Do (statement (at 2) (at 6) (While (node 0 4 (Name (codes "a"))) (at 5) (statement (at 6) (at 6) (Eval None)))) (node 1 9 (Name (codes "b"))) (at 10))) ∷ []) 13
    ∷ missed (codes "{ do a ; while ( T ) ; }") (codes "T" ∷ [])
    ∷ missed (codes "{ do ; while ( ) ; }") []
    ∷ missed (codes "{ do a ; b ; while ( c ) ; }") []
    ∷ missed (codes "{ do ; ; }") []
    ∷ taken_as (codes "{ for ( ; ; ) ; }") [] ((statement (at 1) (at 6) (For (statement (at 3) (at 3) (Eval None)) None (at 4) None (at 5) (statement (at 6) (at 6) (Eval None)))) ∷ []) 8
    ∷ taken_as (codes "{ for ( a ; b ; c ) d ; }") [] ((statement (at 1) (at 10) (For (statement (at 3) (at 4) (Eval (Some (node 0 3 (Name (codes "a")))))) (Some (node 1 5 (Name (codes "b")))) (at 6) (Some (node 2 7 (Name (codes "c")))) (at 8) (statement (at 9) (at 10) (Eval (Some (node 3 9 (Name (codes "d")))))))) ∷ []) 12
    ∷ taken_as (codes "{ for ( a , b ; c ; d , e ) { } }") [] ((statement (at 1) (at 14) (For (statement (at 3) (at 6) (Eval (Some (node 2 4 (Binary Comma (node 0 3 (Name (codes "a"))) (node 1 5 (Name (codes "b")))))))) (Some (node 3 7 (Name (codes "c")))) (at 8) (Some (node 6 10 (Binary Comma (node 4 9 (Name (codes "d"))) (node 5 11 (Name (codes "e")))))) (at 12) (statement (at 13) (at 14) (Block [])))) ∷ []) 16
    ∷ taken_as (codes "{ for ( int i = 0 , j ; i < j ; i ++ ) a ; }") [] ((statement (at 1) (at 18) (For (statement (at 3) (at 9) (Declare (declaration Plain (Basic (Integer Int true)) ((object (word (codes "i") 4) 0 [] (Some (Value (node 0 6 (Constant (codes "0"))) (at 7)))) ∷ (object (word (codes "j") 8) 0 [] None) ∷ [])))) (Some (node 3 11 (Binary Less (node 1 10 (Name (codes "i"))) (node 2 12 (Name (codes "j")))))) (at 13) (Some (node 5 15 (Count true true (node 4 14 (Name (codes "i")))))) (at 16) (statement (at 17) (at 18) (Eval (Some (node 6 17 (Name (codes "a")))))))) ∷ []) 20
    ∷ taken_as (codes "{ for ( T i ; ; ) ; }") (codes "T" ∷ []) ((statement (at 1) (at 8) (For (statement (at 3) (at 5) (Declare (declaration Plain (Named (codes "T")) ((object (word (codes "i") 4) 0 [] None) ∷ [])))) None (at 6) None (at 7) (statement (at 8) (at 8) (Eval None)))) ∷ []) 10
    ∷ missed (codes "{ for ( T ; T ; T ) T x ; }") (codes "T" ∷ [])
    ∷ taken_as (codes "{ for ( T ; T ; T ) ; }") (codes "T" ∷ []) ((statement (at 1) (at 9) (For (statement (at 3) (at 4) (Declare (declaration Plain (Named (codes "T")) []))) (Some (node 0 5 (Name (codes "T")))) (at 6) (Some (node 1 7 (Name (codes "T")))) (at 8) (statement (at 9) (at 9) (Eval None)))) ∷ []) 11
    ∷ missed (codes "{ for ( ; ; a ; ) ; }") []
    ∷ missed (codes "{ for ( ; ) ; }") []
    ∷ missed (codes "{ for ( a b ; ; ) ; }") []
    ∷ missed (codes "{ for ( ; a ) b ; }") []
    ∷ missed (codes "{ for ( int i = 0 ; ; ) int b ; }") []
    ∷ taken_as (codes "{ for ( struct s { int a ; } x ; ; ) ; }") [] ((statement (at 1) (at 14) (For (statement (at 3) (at 11) (Declare (declaration Plain (Struct (Some (named (codes "s") 4)) (Some ((fields (Basic (Integer Int true)) ((field (at 7) (Some (codes "a")) 0 [] None) ∷ [])) ∷ []))) ((object (word (codes "x") 10) 0 [] None) ∷ [])))) None (at 12) None (at 13) (statement (at 14) (at 14) (Eval None)))) ∷ []) 16
    ∷ missed (codes "{ for ( ; ; ) }") []
    ∷ missed (codes "{ for ; ; ; }") []
    ∷ taken_as (codes "{ for ( ; ; ) for ( ; ; ) break ; }") [] ((statement (at 1) (at 12) (For (statement (at 3) (at 3) (Eval None)) None (at 4) None (at 5) (statement (at 6) (at 12) (For (statement (at 8) (at 8) (Eval None)) None (at 9) None (at 10) (statement (at 11) (at 12) Break))))) ∷ []) 14
    ∷ missed (codes "{ for ( T = 0 ; ; ) ; }") (codes "T" ∷ [])
    ∷ taken_as (codes "{ break ; }") [] ((statement (at 1) (at 2) Break) ∷ []) 4
    ∷ taken_as (codes "{ continue ; }") [] ((statement (at 1) (at 2) Continue) ∷ []) 4
    ∷ taken_as (codes "{ return ; }") [] ((statement (at 1) (at 2) (Return None)) ∷ []) 4
    ∷ taken_as (codes "{ return a ; }") [] ((statement (at 1) (at 3) (Return (Some (node 0 2 (Name (codes "a")))))) ∷ []) 5
    ∷ taken_as (codes "{ return a , b ; }") [] ((statement (at 1) (at 5) (Return (Some (node 2 3 (Binary Comma (node 0 2 (Name (codes "a"))) (node 1 4 (Name (codes "b")))))))) ∷ []) 7
    ∷ missed (codes "{ break }") []
    ∷ missed (codes "{ break a ; }") []
    ∷ missed (codes "{ continue a ; }") []
    ∷ missed (codes "{ return }") []
    ∷ missed (codes "{ return a b ; }") []
    ∷ missed (codes "{ return ( T ) ; }") (codes "T" ∷ [])
    ∷ taken_as (codes "{ return T ; }") (codes "T" ∷ []) ((statement (at 1) (at 3) (Return (Some (node 0 2 (Name (codes "T")))))) ∷ []) 5
    ∷ missed (codes "{ return int ; }") []
    ∷ taken_as (codes "{ return ( { return ; } ) ; }") [] ((statement (at 1) (at 8) (Return (Some (node 0 2 (Inner ((statement (at 4) (at 5) (Return None)) ∷ []) (at 6)))))) ∷ []) 10
    ∷ missed (codes "{ continue }") []
    ∷ taken_as (codes "{ ERROR : ; } x") [] ((statement (at 3) (at 3) (Eval None)) ∷ []) 5
    ∷ taken_as (codes "{ a : b : c ; }") [] ((statement (at 5) (at 6) (Eval (Some (node 0 5 (Name (codes "c")))))) ∷ []) 8
    ∷ taken_as (codes "{ a : { } }") [] ((statement (at 3) (at 4) (Block [])) ∷ []) 6
    ∷ missed (codes "{ a : }") []
    ∷ missed (codes "{ a : int b ; }") []
    ∷ missed (codes "{ T : ; }") (codes "T" ∷ [])
    ∷ taken_as (codes "{ int T ; T : ; }") (codes "T" ∷ []) ((statement (at 1) (at 3) (Declare (declaration Plain (Basic (Integer Int true)) ((object (word (codes "T") 2) 0 [] None) ∷ [])))) ∷ (statement (at 6) (at 6) (Eval None)) ∷ []) 8
    ∷ taken_as (codes "{ a : b ; c : d ; }") [] ((statement (at 3) (at 4) (Eval (Some (node 0 3 (Name (codes "b")))))) ∷ (statement (at 7) (at 8) (Eval (Some (node 1 7 (Name (codes "d")))))) ∷ []) 10
    ∷ missed (codes "{ 1 : a ; }") []
    ∷ missed (codes "{ a ; : b ; }") []
    ∷ taken_as (codes "{ while ( a ) b : c ; }") [] ((statement (at 1) (at 8) (While (node 0 3 (Name (codes "a"))) (at 4) (statement (at 7) (at 8) (Eval (Some (node 1 7 (Name (codes "c")))))))) ∷ []) 10
    ∷ taken_as (codes "{ a ? b : c ; d : e ; }") [] ((statement (at 1) (at 6) (Eval (Some (node 3 2 (Choose (node 0 1 (Name (codes "a"))) (node 1 3 (Name (codes "b"))) (node 2 5 (Name (codes "c")))))))) ∷ (statement (at 9) (at 10) (Eval (Some (node 4 9 (Name (codes "e")))))) ∷ []) 12
    ∷ missed (codes "{ goto a ; }") []
    ∷ missed (codes "{ switch ( a ) ; }") []
    ∷ missed (codes "{ case 1 : a ; }") []
    ∷ missed (codes "{ default : a ; }") []
    ∷ missed (codes "{ int : a ; }") []
    ∷ taken_as (codes "{ a : if ( b ) c : ; else d : ; }") [] ((statement (at 3) (at 13) (If (node 0 5 (Name (codes "b"))) (at 6) (statement (at 9) (at 9) (Eval None)) (Some (statement (at 13) (at 13) (Eval None))))) ∷ []) 15
    ∷ taken_as (codes "{ if ( a ) b : c : ; else ; }") [] ((statement (at 1) (at 11) (If (node 0 3 (Name (codes "a"))) (at 4) (statement (at 9) (at 9) (Eval None)) (Some (statement (at 11) (at 11) (Eval None))))) ∷ []) 13
    ∷ taken_as (codes "{ int x ; a = b ; int y ; }") [] ((statement (at 1) (at 3) (Declare (declaration Plain (Basic (Integer Int true)) ((object (word (codes "x") 2) 0 [] None) ∷ [])))) ∷ (statement (at 4) (at 7) (Eval (Some (node 2 5 (Assign None (node 0 4 (Name (codes "a"))) (node 1 6 (Name (codes "b")))))))) ∷ (statement (at 8) (at 10) (Declare (declaration Plain (Basic (Integer Int true)) ((object (word (codes "y") 9) 0 [] None) ∷ [])))) ∷ []) 12
    ∷ taken_as (codes "{ for ( p = ( { typeof ( ( ( typeof ( * p ) * ) 0 ) -> m ) * __mptr = ( ( & h ) -> next ) ; ( typeof ( * p ) * ) ( ( char * ) __mptr - __builtin_offsetof ( typeof ( * p ) , m ) ) ; } ) ; & p -> m != ( & h ) ; p = ( { typeof ( ( ( typeof ( * p ) * ) 0 ) -> m ) * __mptr = ( p -> m . next ) ; ( typeof ( * p ) * ) ( ( char * ) __mptr - __builtin_offsetof ( typeof ( * p ) , m ) ) ; } ) ) f ( p ) ; }") [] ((statement (at 1) (at 140) (For (statement (at 3) (at 64) (Eval (Some (node 19 4 (Assign None (node 0 3 (Name (codes "p"))) (node 18 5 (Inner ((statement (at 7) (at 34) (Declare (declaration Plain (OfExpr (node 5 20 (Member (node 4 10 (Cast (type_name (OfExpr (node 2 13 (Unary Follow (node 1 14 (Name (codes "p")))))) 1 []) (node 3 18 (Constant (codes "0"))))) (named (codes "m") 21) true))) ((object (word (codes "__mptr") 24) 1 [] (Some (Value (node 8 31 (Member (node 7 28 (Unary Address (node 6 29 (Name (codes "h"))))) (named (codes "next") 32) true)) (at 34)))) ∷ [])))) ∷ (statement (at 35) (at 61) (Eval (Some (node 17 35 (Cast (type_name (OfExpr (node 10 38 (Unary Follow (node 9 39 (Name (codes "p")))))) 1 []) (node 16 49 (Binary Sub (node 12 44 (Cast (type_name (Basic (Integer Char true)) 1 []) (node 11 48 (Name (codes "__mptr"))))) (node 15 50 (OffsetOf (type_name (OfExpr (node 14 54 (Unary Follow (node 13 55 (Name (codes "p")))))) 0 []) ((NamedPart (named (codes "m") 58)) ∷ [])))))))))) ∷ []) (at 62)))))))) (Some (node 25 69 (Binary NotEqual (node 22 65 (Unary Address (node 21 67 (Member (node 20 66 (Name (codes "p"))) (named (codes "m") 68) true)))) (node 24 71 (Unary Address (node 23 72 (Name (codes "h")))))))) (at 74) (Some (node 45 76 (Assign None (node 26 75 (Name (codes "p"))) (node 44 77 (Inner ((statement (at 79) (at 105) (Declare (declaration Plain (OfExpr (node 31 92 (Member (node 30 82 (Cast (type_name (OfExpr (node 28 85 (Unary Follow (node 27 86 (Name (codes "p")))))) 1 []) (node 29 90 (Constant (codes "0"))))) (named (codes "m") 93) true))) ((object (word (codes "__mptr") 96) 1 [] (Some (Value (node 34 102 (Member (node 33 100 (Member (node 32 99 (Name (codes "p"))) (named (codes "m") 101) true)) (named (codes "next") 103) false)) (at 105)))) ∷ [])))) ∷ (statement (at 106) (at 132) (Eval (Some (node 43 106 (Cast (type_name (OfExpr (node 36 109 (Unary Follow (node 35 110 (Name (codes "p")))))) 1 []) (node 42 120 (Binary Sub (node 38 115 (Cast (type_name (Basic (Integer Char true)) 1 []) (node 37 119 (Name (codes "__mptr"))))) (node 41 121 (OffsetOf (type_name (OfExpr (node 40 125 (Unary Follow (node 39 126 (Name (codes "p")))))) 0 []) ((NamedPart (named (codes "m") 129)) ∷ [])))))))))) ∷ []) (at 133)))))) (at 135) (statement (at 136) (at 140) (Eval (Some (node 48 136 (Call (node 46 136 (Name (codes "f"))) ((node 47 138 (Name (codes "p"))) ∷ [])))))))) ∷ []) 142
    ∷ taken_as (codes "{ ( ( x > 0 ) ? ( void ) ( 0 ) : __assert_fail ( \"x>0\" , \"t.c\" , 3 , __PRETTY_FUNCTION__ ) ) ; }") [] ((statement (at 1) (at 26) (Eval (Some (node 6 7 (Choose (node 2 4 (Binary Greater (node 0 3 (Name (codes "x"))) (node 1 5 (Constant (codes "0"))))) (node 4 8 (Cast (type_name (Basic Void) 0 []) (node 3 12 (Constant (codes "0"))))) (node 5 15 AssertFail)))))) ∷ []) 28
    ∷ []

unfoldable pub StatementRows : Type 0
StatementRows = HaveBlocks statement_table
