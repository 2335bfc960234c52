-- Operands with prefix and postfix operators (C11 6.5.1 to 6.5.3).
use Rattle.std.specs.Prelude.{true, false, List, [], ◌∷◌, None, codes}
use Rattle.cbase.specs.declared.tree.expr.Expr.{Expr}
use Rattle.cbase.specs.declared.tree.expr.ExprForm.TheVariants.{Name, Constant, Unary, Binary, Assign, Count, Choose, Cast, Index, Member, Call}
use Rattle.cbase.specs.declared.tree.operators.BinaryOp.TheVariants.{Comma}
use Rattle.cbase.specs.declared.tree.operators.UnaryOp.TheVariants.{Address, Follow, Plus, Minus, Flip, Not}
use Rattle.cbase.specs.declared.tree.spec.TypeSpec.TheVariants.{Named}
use Rattle.cgrammar.specs.Rows.{node, named}
use Rattle.cgrammar.specs.TextRows.{TextRow, taken_as, missed, HaveExpressions}
use Rattle.cgrammar.specs.Trees.{type_name}

abbrev pub operand_table : List (TextRow Expr)
operand_table =
    taken_as (codes "a") [] (node 0 0 (Name (codes "a"))) 1
    ∷ taken_as (codes "0") [] (node 0 0 (Constant (codes "0"))) 1
    ∷ taken_as (codes "0x1fULL") [] (node 0 0 (Constant (codes "0x1fULL"))) 1
    ∷ taken_as (codes "'a'") [] (node 0 0 (Constant (codes "'a'"))) 1
    ∷ taken_as (codes "'\\''") [] (node 0 0 (Constant (codes "'\\''"))) 1
    ∷ taken_as (codes "017lu") [] (node 0 0 (Constant (codes "017lu"))) 1
    ∷ missed (codes "08") []
    ∷ missed (codes "1.0") []
    ∷ missed (codes "0b1") []
    ∷ missed (codes "1lL") []
    ∷ missed (codes "\"a\"") []
    ∷ missed (codes ";") []
    ∷ missed (codes ")") []
    ∷ missed (codes "int") []
    ∷ taken_as (codes "& a") [] (node 1 0 (Unary Address (node 0 1 (Name (codes "a"))))) 2
    ∷ taken_as (codes "* a") [] (node 1 0 (Unary Follow (node 0 1 (Name (codes "a"))))) 2
    ∷ taken_as (codes "+ a") [] (node 1 0 (Unary Plus (node 0 1 (Name (codes "a"))))) 2
    ∷ taken_as (codes "- a") [] (node 1 0 (Unary Minus (node 0 1 (Name (codes "a"))))) 2
    ∷ taken_as (codes "~ a") [] (node 1 0 (Unary Flip (node 0 1 (Name (codes "a"))))) 2
    ∷ taken_as (codes "! a") [] (node 1 0 (Unary Not (node 0 1 (Name (codes "a"))))) 2
    ∷ missed (codes "!") []
    ∷ missed (codes "- ;") []
    ∷ taken_as (codes "++ a") [] (node 1 0 (Count true false (node 0 1 (Name (codes "a"))))) 2
    ∷ taken_as (codes "-- a") [] (node 1 0 (Count false false (node 0 1 (Name (codes "a"))))) 2
    ∷ taken_as (codes "++ - a") [] (node 2 0 (Count true false (node 1 1 (Unary Minus (node 0 2 (Name (codes "a"))))))) 3
    ∷ missed (codes "++ ( T ) a") (codes "T" ∷ [])
    ∷ missed (codes "-- ;") []
    ∷ taken_as (codes "- - a") [] (node 2 0 (Unary Minus (node 1 1 (Unary Minus (node 0 2 (Name (codes "a"))))))) 3
    ∷ taken_as (codes "* & ! ~ + - a") [] (node 6 0 (Unary Follow (node 5 1 (Unary Address (node 4 2 (Unary Not (node 3 3 (Unary Flip (node 2 4 (Unary Plus (node 1 5 (Unary Minus (node 0 6 (Name (codes "a"))))))))))))))) 7
    ∷ taken_as (codes "++ -- a") [] (node 2 0 (Count true false (node 1 1 (Count false false (node 0 2 (Name (codes "a"))))))) 3
    ∷ taken_as (codes "& a [ 0 ]") [] (node 3 0 (Unary Address (node 2 2 (Index (node 0 1 (Name (codes "a"))) (node 1 3 (Constant (codes "0"))))))) 5
    ∷ taken_as (codes "- a . b") [] (node 2 0 (Unary Minus (node 1 2 (Member (node 0 1 (Name (codes "a"))) (named (codes "b") 3) false)))) 4
    ∷ taken_as (codes "- ( T ) a") (codes "T" ∷ []) (node 2 0 (Unary Minus (node 1 1 (Cast (type_name (Named (codes "T")) 0 []) (node 0 4 (Name (codes "a"))))))) 5
    ∷ taken_as (codes "- a ++") [] (node 2 0 (Unary Minus (node 1 2 (Count true true (node 0 1 (Name (codes "a"))))))) 3
    ∷ taken_as (codes "a ++") [] (node 1 1 (Count true true (node 0 0 (Name (codes "a"))))) 2
    ∷ taken_as (codes "a --") [] (node 1 1 (Count false true (node 0 0 (Name (codes "a"))))) 2
    ∷ taken_as (codes "a ++ --") [] (node 2 2 (Count false true (node 1 1 (Count true true (node 0 0 (Name (codes "a"))))))) 3
    ∷ taken_as (codes "a [ b ]") [] (node 2 1 (Index (node 0 0 (Name (codes "a"))) (node 1 2 (Name (codes "b"))))) 4
    ∷ taken_as (codes "a [ b , c ]") [] (node 4 1 (Index (node 0 0 (Name (codes "a"))) (node 3 3 (Binary Comma (node 1 2 (Name (codes "b"))) (node 2 4 (Name (codes "c"))))))) 6
    ∷ taken_as (codes "a [ ]") [] (node 0 0 (Name (codes "a"))) 1
    ∷ taken_as (codes "a [ b") [] (node 0 0 (Name (codes "a"))) 1
    ∷ taken_as (codes "a [ b ] [ c ]") [] (node 4 4 (Index (node 2 1 (Index (node 0 0 (Name (codes "a"))) (node 1 2 (Name (codes "b"))))) (node 3 5 (Name (codes "c"))))) 7
    ∷ taken_as (codes "a . b") [] (node 1 1 (Member (node 0 0 (Name (codes "a"))) (named (codes "b") 2) false)) 3
    ∷ taken_as (codes "a -> b") [] (node 1 1 (Member (node 0 0 (Name (codes "a"))) (named (codes "b") 2) true)) 3
    ∷ taken_as (codes "a . b -> c . d") [] (node 3 5 (Member (node 2 3 (Member (node 1 1 (Member (node 0 0 (Name (codes "a"))) (named (codes "b") 2) false)) (named (codes "c") 4) true)) (named (codes "d") 6) false)) 7
    ∷ taken_as (codes "a . int") [] (node 0 0 (Name (codes "a"))) 1
    ∷ taken_as (codes "a -> ;") [] (node 0 0 (Name (codes "a"))) 1
    ∷ taken_as (codes "a . T") (codes "T" ∷ []) (node 1 1 (Member (node 0 0 (Name (codes "a"))) (named (codes "T") 2) false)) 3
    ∷ taken_as (codes "a ( )") [] (node 1 0 (Call (node 0 0 (Name (codes "a"))) [])) 3
    ∷ taken_as (codes "a ( b )") [] (node 2 0 (Call (node 0 0 (Name (codes "a"))) ((node 1 2 (Name (codes "b"))) ∷ []))) 4
    ∷ taken_as (codes "a ( b , c = d , e ? f : g )") [] (node 9 0 (Call (node 0 0 (Name (codes "a"))) ((node 1 2 (Name (codes "b"))) ∷ (node 4 5 (Assign None (node 2 4 (Name (codes "c"))) (node 3 6 (Name (codes "d"))))) ∷ (node 8 9 (Choose (node 5 8 (Name (codes "e"))) (node 6 10 (Name (codes "f"))) (node 7 12 (Name (codes "g"))))) ∷ []))) 14
    ∷ taken_as (codes "a ( b , )") [] (node 0 0 (Name (codes "a"))) 1
    ∷ taken_as (codes "a ( , b )") [] (node 0 0 (Name (codes "a"))) 1
    ∷ taken_as (codes "a ( b") [] (node 0 0 (Name (codes "a"))) 1
    ∷ taken_as (codes "a ( b c )") [] (node 0 0 (Name (codes "a"))) 1
    ∷ taken_as (codes "a ( b ) ( c )") [] (node 4 0 (Call (node 2 0 (Call (node 0 0 (Name (codes "a"))) ((node 1 2 (Name (codes "b"))) ∷ []))) ((node 3 5 (Name (codes "c"))) ∷ []))) 7
    ∷ taken_as (codes "a ( ) [ 0 ] -> b ++") [] (node 5 8 (Count true true (node 4 6 (Member (node 3 3 (Index (node 1 0 (Call (node 0 0 (Name (codes "a"))) [])) (node 2 4 (Constant (codes "0"))))) (named (codes "b") 7) true)))) 9
    ∷ taken_as (codes "( * a ) ( 1 )") [] (node 3 2 (Call (node 1 1 (Unary Follow (node 0 2 (Name (codes "a"))))) ((node 2 5 (Constant (codes "1"))) ∷ []))) 7
    ∷ taken_as (codes "( ( a ) ) ( a )") [] (node 2 2 (Call (node 0 2 (Name (codes "a"))) ((node 1 6 (Name (codes "a"))) ∷ []))) 8
    ∷ taken_as (codes "0 ( 1 )") [] (node 2 0 (Call (node 0 0 (Constant (codes "0"))) ((node 1 2 (Constant (codes "1"))) ∷ []))) 4
    ∷ taken_as (codes "( 0 ) ( 1 )") [] (node 2 0 (Call (node 0 1 (Constant (codes "0"))) ((node 1 4 (Constant (codes "1"))) ∷ []))) 6
    ∷ taken_as (codes "( - a [ b ] ) ( c )") [] (node 5 2 (Call (node 3 1 (Unary Minus (node 2 3 (Index (node 0 2 (Name (codes "a"))) (node 1 4 (Name (codes "b"))))))) ((node 4 8 (Name (codes "c"))) ∷ []))) 10
    ∷ taken_as (codes "'a' ( )") [] (node 1 0 (Call (node 0 0 (Constant (codes "'a'"))) [])) 3
    ∷ taken_as (codes "( a )") [] (node 0 1 (Name (codes "a"))) 3
    ∷ taken_as (codes "( ( ( a ) ) )") [] (node 0 3 (Name (codes "a"))) 7
    ∷ taken_as (codes "( a , b )") [] (node 2 2 (Binary Comma (node 0 1 (Name (codes "a"))) (node 1 3 (Name (codes "b"))))) 5
    ∷ missed (codes "( a") []
    ∷ missed (codes "( )") []
    ∷ taken_as (codes "( a ) b") [] (node 0 1 (Name (codes "a"))) 3
    ∷ taken_as (codes "( a ) ++") [] (node 1 3 (Count true true (node 0 1 (Name (codes "a"))))) 4
    ∷ taken_as (codes "( a ) ( b )") [] (node 2 1 (Call (node 0 1 (Name (codes "a"))) ((node 1 4 (Name (codes "b"))) ∷ []))) 6
    ∷ missed (codes "( a b )") []
    ∷ taken_as (codes "a ( T )") (codes "T" ∷ []) (node 0 0 (Name (codes "a"))) 1
    ∷ taken_as (codes "a ( 1 , T )") (codes "T" ∷ []) (node 3 0 (Call (node 0 0 (Name (codes "a"))) ((node 1 2 (Constant (codes "1"))) ∷ (node 2 4 (Name (codes "T"))) ∷ []))) 6
    ∷ taken_as (codes "a ( ( T ) b )") (codes "T" ∷ []) (node 3 0 (Call (node 0 0 (Name (codes "a"))) ((node 2 2 (Cast (type_name (Named (codes "T")) 0 []) (node 1 5 (Name (codes "b"))))) ∷ []))) 7
    ∷ taken_as (codes "a ( int )") [] (node 0 0 (Name (codes "a"))) 1
    ∷ missed (codes "( T )") (codes "T" ∷ [])
    ∷ taken_as (codes "a [ T ]") (codes "T" ∷ []) (node 2 1 (Index (node 0 0 (Name (codes "a"))) (node 1 2 (Name (codes "T"))))) 4
    ∷ taken_as (codes "a = T ;") (codes "T" ∷ []) (node 2 1 (Assign None (node 0 0 (Name (codes "a"))) (node 1 2 (Name (codes "T"))))) 3
    ∷ taken_as (codes "T") (codes "T" ∷ []) (node 0 0 (Name (codes "T"))) 1
    ∷ missed (codes "sizeof") []
    ∷ missed (codes "goto") []
    ∷ missed (codes "__int128") []
    ∷ missed (codes "_Float32 + a") []
    ∷ taken_as (codes "a + __thread") [] (node 0 0 (Name (codes "a"))) 1
    ∷ taken_as (codes "main ( malloc )") [] (node 2 0 (Call (node 0 0 (Name (codes "main"))) ((node 1 2 (Name (codes "malloc"))) ∷ []))) 4
    ∷ missed (codes "_Generic ( a )") []
    ∷ []

unfoldable pub OperandRows : Type 0
OperandRows = HaveExpressions operand_table
