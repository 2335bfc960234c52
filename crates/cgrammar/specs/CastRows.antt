-- Casts and sizes (C11 6.5.3.4, 6.5.4).
use Rattle.std.specs.Prelude.{true, false, List, [], ◌∷◌, None, Some, codes}
use Rattle.cbase.specs.declared.tree.expr.Expr.{Expr}
use Rattle.cbase.specs.declared.tree.expr.ExprForm.TheVariants.{Name, Constant, Unary, Binary, Count, Cast, SizeOf, SizeOfType, Index, Member, Call}
use Rattle.cbase.specs.declared.tree.operators.BinaryOp.TheVariants.{Mul, Add, Sub, Comma}
use Rattle.cbase.specs.declared.tree.operators.UnaryOp.TheVariants.{Address, Minus}
use Rattle.cbase.specs.declared.tree.spec.BasicType.TheVariants.{Void, Integer}
use Rattle.cbase.specs.declared.tree.spec.Rank.TheVariants.{Char, Int, Long}
use Rattle.cbase.specs.declared.tree.spec.TypeSpec.TheVariants.{Basic, Named, Struct, Enum, OfExpr, OfType}
use Rattle.cgrammar.specs.Rows.{node, word, named}
use Rattle.cgrammar.specs.TextRows.{TextRow, taken_as, missed, HaveExpressions}
use Rattle.cgrammar.specs.Trees.{enumerator, type_name}

abbrev pub cast_table : List (TextRow Expr)
cast_table =
    taken_as (codes "( T ) - 1") (codes "T" ∷ []) (node 2 0 (Cast (type_name (Named (codes "T")) 0 []) (node 1 3 (Unary Minus (node 0 4 (Constant (codes "1"))))))) 5
    ∷ taken_as (codes "( a ) - 1") [] (node 2 3 (Binary Sub (node 0 1 (Name (codes "a"))) (node 1 4 (Constant (codes "1"))))) 5
    ∷ taken_as (codes "( T ) - 1") [] (node 2 3 (Binary Sub (node 0 1 (Name (codes "T"))) (node 1 4 (Constant (codes "1"))))) 5
    ∷ taken_as (codes "( int ) a") [] (node 1 0 (Cast (type_name (Basic (Integer Int true)) 0 []) (node 0 3 (Name (codes "a"))))) 4
    ∷ taken_as (codes "( int ) a . b") [] (node 2 0 (Cast (type_name (Basic (Integer Int true)) 0 []) (node 1 4 (Member (node 0 3 (Name (codes "a"))) (named (codes "b") 5) false)))) 6
    ∷ taken_as (codes "( int ) a + b") [] (node 3 4 (Binary Add (node 1 0 (Cast (type_name (Basic (Integer Int true)) 0 []) (node 0 3 (Name (codes "a"))))) (node 2 5 (Name (codes "b"))))) 6
    ∷ taken_as (codes "( int ) ( T ) a") (codes "T" ∷ []) (node 2 0 (Cast (type_name (Basic (Integer Int true)) 0 []) (node 1 3 (Cast (type_name (Named (codes "T")) 0 []) (node 0 6 (Name (codes "a"))))))) 7
    ∷ taken_as (codes "( T ) ( a ) ( b )") (codes "T" ∷ []) (node 3 0 (Cast (type_name (Named (codes "T")) 0 []) (node 2 4 (Call (node 0 4 (Name (codes "a"))) ((node 1 7 (Name (codes "b"))) ∷ []))))) 9
    ∷ taken_as (codes "( T * ) a") (codes "T" ∷ []) (node 1 0 (Cast (type_name (Named (codes "T")) 1 []) (node 0 4 (Name (codes "a"))))) 5
    ∷ taken_as (codes "( T * * ) a") (codes "T" ∷ []) (node 1 0 (Cast (type_name (Named (codes "T")) 2 []) (node 0 5 (Name (codes "a"))))) 6
    ∷ taken_as (codes "( T [ 3 ] ) a") (codes "T" ∷ []) (node 2 0 (Cast (type_name (Named (codes "T")) 0 ((Some (node 0 3 (Constant (codes "3")))) ∷ [])) (node 1 6 (Name (codes "a"))))) 7
    ∷ taken_as (codes "( T * [ ] [ 2 ] ) a") (codes "T" ∷ []) (node 2 0 (Cast (type_name (Named (codes "T")) 1 (None ∷ (Some (node 0 6 (Constant (codes "2")))) ∷ [])) (node 1 9 (Name (codes "a"))))) 10
    ∷ missed (codes "( T * a )") (codes "T" ∷ [])
    ∷ missed (codes "( T a ) b") (codes "T" ∷ [])
    ∷ missed (codes "( T ) ;") (codes "T" ∷ [])
    ∷ missed (codes "( int )") []
    ∷ missed (codes "( int ) { 1 }") []
    ∷ taken_as (codes "( T ) ++ a") (codes "T" ∷ []) (node 2 0 (Cast (type_name (Named (codes "T")) 0 []) (node 1 3 (Count true false (node 0 4 (Name (codes "a"))))))) 5
    ∷ taken_as (codes "( T ) a ++") (codes "T" ∷ []) (node 2 0 (Cast (type_name (Named (codes "T")) 0 []) (node 1 4 (Count true true (node 0 3 (Name (codes "a"))))))) 5
    ∷ taken_as (codes "( void ) 0") [] (node 1 0 (Cast (type_name (Basic Void) 0 []) (node 0 3 (Constant (codes "0"))))) 4
    ∷ taken_as (codes "( unsigned char ) a") [] (node 1 0 (Cast (type_name (Basic (Integer Char false)) 0 []) (node 0 4 (Name (codes "a"))))) 5
    ∷ missed (codes "( static int ) a") []
    ∷ taken_as (codes "( struct s ) a") [] (node 1 0 (Cast (type_name (Struct (Some (named (codes "s") 2)) None) 0 []) (node 0 4 (Name (codes "a"))))) 5
    ∷ taken_as (codes "( struct s * ) a") [] (node 1 0 (Cast (type_name (Struct (Some (named (codes "s") 2)) None) 1 []) (node 0 5 (Name (codes "a"))))) 6
    ∷ missed (codes "( struct ) a") []
    ∷ taken_as (codes "( enum e ) a") [] (node 1 0 (Cast (type_name (Enum (Some (named (codes "e") 2)) None) 0 []) (node 0 4 (Name (codes "a"))))) 5
    ∷ taken_as (codes "( typeof ( a ) ) b") [] (node 2 0 (Cast (type_name (OfExpr (node 0 3 (Name (codes "a")))) 0 []) (node 1 6 (Name (codes "b"))))) 7
    ∷ taken_as (codes "( typeof ( int * ) ) b") [] (node 1 0 (Cast (type_name (OfType (type_name (Basic (Integer Int true)) 1 [])) 0 []) (node 0 7 (Name (codes "b"))))) 8
    ∷ taken_as (codes "( U ) a") (codes "T" ∷ []) (node 0 1 (Name (codes "U"))) 3
    ∷ taken_as (codes "( T ) sizeof a") (codes "T" ∷ []) (node 2 0 (Cast (type_name (Named (codes "T")) 0 []) (node 1 3 (SizeOf (node 0 4 (Name (codes "a"))))))) 5
    ∷ taken_as (codes "( long unsigned int ) a") [] (node 1 0 (Cast (type_name (Basic (Integer Long false)) 0 []) (node 0 5 (Name (codes "a"))))) 6
    ∷ missed (codes "( long long long ) a") []
    ∷ missed (codes "( short char ) a") []
    ∷ missed (codes "( T [ a , b ] ) c") (codes "T" ∷ [])
    ∷ missed (codes "( int * ( ) ) a") []
    ∷ missed (codes "( int [ 2 ] a") []
    ∷ taken_as (codes "sizeof a") [] (node 1 0 (SizeOf (node 0 1 (Name (codes "a"))))) 2
    ∷ taken_as (codes "sizeof a + b") [] (node 3 2 (Binary Add (node 1 0 (SizeOf (node 0 1 (Name (codes "a"))))) (node 2 3 (Name (codes "b"))))) 4
    ∷ taken_as (codes "sizeof a . b") [] (node 2 0 (SizeOf (node 1 2 (Member (node 0 1 (Name (codes "a"))) (named (codes "b") 3) false)))) 4
    ∷ taken_as (codes "sizeof - a") [] (node 2 0 (SizeOf (node 1 1 (Unary Minus (node 0 2 (Name (codes "a"))))))) 3
    ∷ taken_as (codes "sizeof ( a )") [] (node 1 0 (SizeOf (node 0 2 (Name (codes "a"))))) 4
    ∷ taken_as (codes "sizeof ( a ) [ 0 ]") [] (node 3 0 (SizeOf (node 2 4 (Index (node 0 2 (Name (codes "a"))) (node 1 5 (Constant (codes "0"))))))) 7
    ∷ taken_as (codes "sizeof ( a ) - 1") [] (node 3 4 (Binary Sub (node 1 0 (SizeOf (node 0 2 (Name (codes "a"))))) (node 2 5 (Constant (codes "1"))))) 6
    ∷ taken_as (codes "sizeof ( T )") (codes "T" ∷ []) (node 0 0 (SizeOfType (type_name (Named (codes "T")) 0 []))) 4
    ∷ taken_as (codes "sizeof ( T ) - 1") (codes "T" ∷ []) (node 2 4 (Binary Sub (node 0 0 (SizeOfType (type_name (Named (codes "T")) 0 []))) (node 1 5 (Constant (codes "1"))))) 6
    ∷ taken_as (codes "sizeof ( T ) [ 0 ]") (codes "T" ∷ []) (node 0 0 (SizeOfType (type_name (Named (codes "T")) 0 []))) 4
    ∷ taken_as (codes "sizeof ( T ) a") (codes "T" ∷ []) (node 0 0 (SizeOfType (type_name (Named (codes "T")) 0 []))) 4
    ∷ taken_as (codes "sizeof ( T ) ++") (codes "T" ∷ []) (node 0 0 (SizeOfType (type_name (Named (codes "T")) 0 []))) 4
    ∷ taken_as (codes "sizeof sizeof a") [] (node 2 0 (SizeOf (node 1 1 (SizeOf (node 0 2 (Name (codes "a"))))))) 3
    ∷ taken_as (codes "sizeof ( int * [ 3 ] )") [] (node 1 0 (SizeOfType (type_name (Basic (Integer Int true)) 1 ((Some (node 0 5 (Constant (codes "3")))) ∷ [])))) 8
    ∷ taken_as (codes "sizeof ( ( T ) a )") (codes "T" ∷ []) (node 2 0 (SizeOf (node 1 2 (Cast (type_name (Named (codes "T")) 0 []) (node 0 5 (Name (codes "a"))))))) 7
    ∷ missed (codes "sizeof ( int") []
    ∷ missed (codes "sizeof int") []
    ∷ missed (codes "sizeof ( )") []
    ∷ taken_as (codes "sizeof ++ a") [] (node 2 0 (SizeOf (node 1 1 (Count true false (node 0 2 (Name (codes "a"))))))) 3
    ∷ taken_as (codes "sizeof ( a ) ++") [] (node 2 0 (SizeOf (node 1 4 (Count true true (node 0 2 (Name (codes "a"))))))) 5
    ∷ taken_as (codes "sizeof ( struct s ) * 2") [] (node 2 5 (Binary Mul (node 0 0 (SizeOfType (type_name (Struct (Some (named (codes "s") 3)) None) 0 []))) (node 1 6 (Constant (codes "2"))))) 7
    ∷ taken_as (codes "sizeof ( enum { A , B } ) + A") [] (node 2 9 (Binary Add (node 0 0 (SizeOfType (type_name (Enum None (Some ((enumerator (word (codes "A") 4) None) ∷ (enumerator (word (codes "B") 6) None) ∷ []))) 0 []))) (node 1 10 (Name (codes "A"))))) 11
    ∷ taken_as (codes "& ( T ) a") (codes "T" ∷ []) (node 2 0 (Unary Address (node 1 1 (Cast (type_name (Named (codes "T")) 0 []) (node 0 4 (Name (codes "a"))))))) 5
    ∷ taken_as (codes "sizeof ( a , b )") [] (node 3 0 (SizeOf (node 2 3 (Binary Comma (node 0 2 (Name (codes "a"))) (node 1 4 (Name (codes "b"))))))) 6
    ∷ taken_as (codes "sizeof sizeof ( T ) a") (codes "T" ∷ []) (node 1 0 (SizeOf (node 0 1 (SizeOfType (type_name (Named (codes "T")) 0 []))))) 5
    ∷ missed (codes "sizeof ;") []
    ∷ []

unfoldable pub CastRows : Type 0
CastRows = HaveExpressions cast_table
