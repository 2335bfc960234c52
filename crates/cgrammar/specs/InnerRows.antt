-- Blocks in expressions, and failed assertions (C11 7.2).
use Rattle.std.specs.Prelude.{true, false, List, [], ◌∷◌, None, Some, codes}
use Rattle.cbase.specs.declared.tree.decl.Storage.TheVariants.{Plain, Typedef}
use Rattle.cbase.specs.declared.tree.expr.Expr.{Expr}
use Rattle.cbase.specs.declared.tree.expr.ExprForm.TheVariants.{Name, Constant, Unary, Binary, Assign, Count, Choose, Cast, SizeOf, SizeOfType, OffsetOf, Index, Member, Call, Inner, AssertFail}
use Rattle.cbase.specs.declared.tree.expr.Part.TheVariants.{Member as NamedPart}
use Rattle.cbase.specs.declared.tree.init.Init.TheVariants.{Value}
use Rattle.cbase.specs.declared.tree.operators.BinaryOp.TheVariants.{Add, Sub, Right, Less, Greater, Comma}
use Rattle.cbase.specs.declared.tree.operators.UnaryOp.TheVariants.{Address, Minus}
use Rattle.cbase.specs.declared.tree.spec.BasicType.TheVariants.{Void, Integer}
use Rattle.cbase.specs.declared.tree.spec.Rank.TheVariants.{Char, Int}
use Rattle.cbase.specs.declared.tree.spec.TypeSpec.TheVariants.{Basic, Named, Struct, OfExpr}
use Rattle.cbase.specs.declared.tree.stmt.StmtForm.TheVariants.{Declare, Eval, If, Return}
use Rattle.cgrammar.specs.Rows.{at, node, word, named}
use Rattle.cgrammar.specs.TextRows.{TextRow, taken_as, missed, HaveExpressions}
use Rattle.cgrammar.specs.Trees.{object, type_name, declaration, statement}

abbrev pub inner_table : List (TextRow Expr)
inner_table =
    taken_as (codes "( { } )") [] (node 0 0 (Inner [] (at 2))) 4
    ∷ taken_as (codes "( { } ) ++") [] (node 1 4 (Count true true (node 0 0 (Inner [] (at 2))))) 5
    ∷ taken_as (codes "( { a ; } )") [] (node 1 0 (Inner ((statement (at 2) (at 3) (Eval (Some (node 0 2 (Name (codes "a")))))) ∷ []) (at 4))) 6
    ∷ taken_as (codes "( { a ; } ) + b") [] (node 3 6 (Binary Add (node 1 0 (Inner ((statement (at 2) (at 3) (Eval (Some (node 0 2 (Name (codes "a")))))) ∷ []) (at 4))) (node 2 7 (Name (codes "b"))))) 8
    ∷ taken_as (codes "( { a ; b ; } ) . c ( d )") [] (node 5 2 (Call (node 3 8 (Member (node 2 0 (Inner ((statement (at 2) (at 3) (Eval (Some (node 0 2 (Name (codes "a")))))) ∷ (statement (at 4) (at 5) (Eval (Some (node 1 4 (Name (codes "b")))))) ∷ []) (at 6))) (named (codes "c") 9) false)) ((node 4 11 (Name (codes "d"))) ∷ []))) 13
    ∷ missed (codes "( { a } )") []
    ∷ missed (codes "( { a ; } b )") []
    ∷ missed (codes "( { a ;") []
    ∷ taken_as (codes "( { return ; } ) ( )") [] (node 1 2 (Call (node 0 0 (Inner ((statement (at 2) (at 3) (Return None)) ∷ []) (at 4))) [])) 8
    ∷ missed (codes "{ a ; }") []
    ∷ missed (codes "( { } + a )") []
    ∷ missed (codes "( { } , a )") []
    ∷ taken_as (codes "( ( { } ) , a )") [] (node 2 5 (Binary Comma (node 0 1 (Inner [] (at 3))) (node 1 6 (Name (codes "a"))))) 8
    ∷ taken_as (codes "( { ( { a ; } ) ; b = ( { int c = ( { d ; } ) ; c ; } ) ; } )") [] (node 8 0 (Inner ((statement (at 2) (at 8) (Eval (Some (node 1 2 (Inner ((statement (at 4) (at 5) (Eval (Some (node 0 4 (Name (codes "a")))))) ∷ []) (at 6)))))) ∷ (statement (at 9) (at 27) (Eval (Some (node 7 10 (Assign None (node 2 9 (Name (codes "b"))) (node 6 11 (Inner ((statement (at 13) (at 22) (Declare (declaration Plain (Basic (Integer Int true)) ((object (word (codes "c") 14) 0 [] (Some (Value (node 4 16 (Inner ((statement (at 18) (at 19) (Eval (Some (node 3 18 (Name (codes "d")))))) ∷ []) (at 20))) (at 22)))) ∷ [])))) ∷ (statement (at 23) (at 24) (Eval (Some (node 5 23 (Name (codes "c")))))) ∷ []) (at 25)))))))) ∷ []) (at 28))) 30
    ∷ taken_as (codes "sizeof ( { a ; } )") [] (node 2 0 (SizeOf (node 1 1 (Inner ((statement (at 3) (at 4) (Eval (Some (node 0 3 (Name (codes "a")))))) ∷ []) (at 5))))) 7
    ∷ taken_as (codes "- ( { a ; } )") [] (node 2 0 (Unary Minus (node 1 1 (Inner ((statement (at 3) (at 4) (Eval (Some (node 0 3 (Name (codes "a")))))) ∷ []) (at 5))))) 7
    ∷ taken_as (codes "a ( ( { b ; } ) )") [] (node 3 0 (Call (node 0 0 (Name (codes "a"))) ((node 2 2 (Inner ((statement (at 4) (at 5) (Eval (Some (node 1 4 (Name (codes "b")))))) ∷ []) (at 6))) ∷ []))) 9
    ∷ taken_as (codes "a ( { b ; } )") [] (node 0 0 (Name (codes "a"))) 1
    ∷ taken_as (codes "( { int T ; ( T ) - 1 ; } ) + ( T ) - 1") (codes "T" ∷ []) (node 7 13 (Binary Add (node 3 0 (Inner ((statement (at 2) (at 4) (Declare (declaration Plain (Basic (Integer Int true)) ((object (word (codes "T") 3) 0 [] None) ∷ [])))) ∷ (statement (at 5) (at 10) (Eval (Some (node 2 8 (Binary Sub (node 0 6 (Name (codes "T"))) (node 1 9 (Constant (codes "1")))))))) ∷ []) (at 11))) (node 6 14 (Cast (type_name (Named (codes "T")) 0 []) (node 5 17 (Unary Minus (node 4 18 (Constant (codes "1"))))))))) 19
    ∷ taken_as (codes "( { typedef int U ; ( U ) - 1 ; } ) + ( U ) - 1") [] (node 7 18 (Binary Sub (node 5 14 (Binary Add (node 3 0 (Inner ((statement (at 2) (at 5) (Declare (declaration Typedef (Basic (Integer Int true)) ((object (word (codes "U") 4) 0 [] None) ∷ [])))) ∷ (statement (at 6) (at 11) (Eval (Some (node 2 6 (Cast (type_name (Named (codes "U")) 0 []) (node 1 9 (Unary Minus (node 0 10 (Constant (codes "1")))))))))) ∷ []) (at 12))) (node 4 16 (Name (codes "U"))))) (node 6 19 (Constant (codes "1"))))) 20
    ∷ taken_as (codes "( { typeof ( ( ( struct s * ) 0 ) -> m ) * __mptr = ( p -> q ) ; ( struct s * ) ( ( char * ) __mptr - __builtin_offsetof ( struct s , m ) ) ; } )") [] (node 10 0 (Inner ((statement (at 2) (at 23) (Declare (declaration Plain (OfExpr (node 2 12 (Member (node 1 5 (Cast (type_name (Struct (Some (named (codes "s") 7)) None) 1 []) (node 0 10 (Constant (codes "0"))))) (named (codes "m") 13) true))) ((object (word (codes "__mptr") 16) 1 [] (Some (Value (node 4 20 (Member (node 3 19 (Name (codes "p"))) (named (codes "q") 21) true)) (at 23)))) ∷ [])))) ∷ (statement (at 24) (at 44) (Eval (Some (node 9 24 (Cast (type_name (Struct (Some (named (codes "s") 26)) None) 1 []) (node 8 35 (Binary Sub (node 6 30 (Cast (type_name (Basic (Integer Char true)) 1 []) (node 5 34 (Name (codes "__mptr"))))) (node 7 36 (OffsetOf (type_name (Struct (Some (named (codes "s") 39)) None) 0 []) ((NamedPart (named (codes "m") 41)) ∷ [])))))))))) ∷ []) (at 45))) 47
    ∷ taken_as (codes "( ( void ) sizeof ( ( x > 0 ) ? 1 : 0 ) , ( { if ( x > 0 ) ; else __assert_fail ( \"x>0\" , \"t.c\" , 3 , __PRETTY_FUNCTION__ ) ; } ) )") [] (node 13 16 (Binary Comma (node 7 1 (Cast (type_name (Basic Void) 0 []) (node 6 4 (SizeOf (node 5 11 (Choose (node 2 8 (Binary Greater (node 0 7 (Name (codes "x"))) (node 1 9 (Constant (codes "0"))))) (node 3 12 (Constant (codes "1"))) (node 4 14 (Constant (codes "0"))))))))) (node 12 17 (Inner ((statement (at 19) (at 37) (If (node 10 22 (Binary Greater (node 8 21 (Name (codes "x"))) (node 9 23 (Constant (codes "0"))))) (at 24) (statement (at 25) (at 25) (Eval None)) (Some (statement (at 27) (at 37) (Eval (Some (node 11 27 AssertFail))))))) ∷ []) (at 38))))) 41
    ∷ taken_as (codes "( ( x > 0 ) ? ( void ) ( 0 ) : __assert_fail ( \"x>0\" , \"t.c\" , 3 , __PRETTY_FUNCTION__ ) )") [] (node 6 6 (Choose (node 2 3 (Binary Greater (node 0 2 (Name (codes "x"))) (node 1 4 (Constant (codes "0"))))) (node 4 7 (Cast (type_name (Basic Void) 0 []) (node 3 11 (Constant (codes "0"))))) (node 5 14 AssertFail))) 25
    ∷ missed (codes "( ( void ) sizeof ( ( x > 0 && \"positive\" ) ? 1 : 0 ) , ( { if ( x > 0 && \"positive\" ) ; else __assert_fail ( \"x>0&&\\\"positive\\\"\" , \"t.c\" , 9 , __PRETTY_FUNCTION__ ) ; } ) )") []
    ∷ taken_as (codes "a < b ? ( { if ( a ) b ; else c ; } ) : d") [] (node 8 3 (Choose (node 2 1 (Binary Less (node 0 0 (Name (codes "a"))) (node 1 2 (Name (codes "b"))))) (node 6 4 (Inner ((statement (at 6) (at 14) (If (node 3 8 (Name (codes "a"))) (at 9) (statement (at 10) (at 11) (Eval (Some (node 4 10 (Name (codes "b")))))) (Some (statement (at 13) (at 14) (Eval (Some (node 5 13 (Name (codes "c"))))))))) ∷ []) (at 15))) (node 7 18 (Name (codes "d"))))) 19
    ∷ taken_as (codes "__assert_fail ( )") [] (node 0 0 AssertFail) 3
    ∷ taken_as (codes "__assert_fail ( \"a\" , 1.0 , goto )") [] (node 0 0 AssertFail) 8
    ∷ taken_as (codes "__assert_fail ( [ { ( ) } ] ; )") [] (node 0 0 AssertFail) 10
    ∷ missed (codes "__assert_fail ( [ ) ]") []
    ∷ missed (codes "__assert_fail ( ( )") []
    ∷ missed (codes "__assert_fail") []
    ∷ missed (codes "__assert_fail a") []
    ∷ missed (codes "__assert_fail ( { ) } )") []
    ∷ missed (codes "__assert_fail ( ] )") []
    ∷ taken_as (codes "__assert_fail ( ) ( ) , a") [] (node 3 5 (Binary Comma (node 1 0 (Call (node 0 0 AssertFail) [])) (node 2 6 (Name (codes "a"))))) 7
    ∷ taken_as (codes "__assert_fail ( a ) b") [] (node 0 0 AssertFail) 4
    ∷ taken_as (codes "a . __assert_fail") [] (node 0 0 (Name (codes "a"))) 1
    ∷ taken_as (codes "x -> f ( & ( ( { a ; } ) ) -> m , sizeof ( T * ) ) [ i ++ ] += - ( T ) y >> 2 , z") (codes "T" ∷ []) (node 18 34 (Binary Comma (node 16 26 (Assign (Some Add) (node 10 22 (Index (node 7 0 (Call (node 1 1 (Member (node 0 0 (Name (codes "x"))) (named (codes "f") 2) true)) ((node 5 4 (Unary Address (node 4 13 (Member (node 3 6 (Inner ((statement (at 8) (at 9) (Eval (Some (node 2 8 (Name (codes "a")))))) ∷ []) (at 10))) (named (codes "m") 14) true)))) ∷ (node 6 16 (SizeOfType (type_name (Named (codes "T")) 1 []))) ∷ []))) (node 9 24 (Count true true (node 8 23 (Name (codes "i"))))))) (node 15 32 (Binary Right (node 13 27 (Unary Minus (node 12 28 (Cast (type_name (Named (codes "T")) 0 []) (node 11 31 (Name (codes "y"))))))) (node 14 33 (Constant (codes "2"))))))) (node 17 35 (Name (codes "z"))))) 36
    ∷ []

unfoldable pub InnerRows : Type 0
InnerRows = HaveExpressions inner_table
