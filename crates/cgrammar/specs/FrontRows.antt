-- Assignments, conditions and commas, and where an expression stops (C11 6.5.15 to 6.5.17).
use Rattle.std.specs.Prelude.{true, false, List, [], ◌∷◌, None, Some, codes}
use Rattle.cbase.specs.declared.tree.expr.Expr.{Expr}
use Rattle.cbase.specs.declared.tree.expr.ExprForm.TheVariants.{Name, Unary, Binary, Assign, Count, Choose, Cast, SizeOf, SizeOfType, Member, Call}
use Rattle.cbase.specs.declared.tree.operators.BinaryOp.TheVariants.{Mul, Div, Rem, Add, Sub, Left, Right, And, Xor, Or, Both, Either, Comma}
use Rattle.cbase.specs.declared.tree.operators.UnaryOp.TheVariants.{Address, Follow, Minus}
use Rattle.cbase.specs.declared.tree.spec.TypeSpec.TheVariants.{Named}
use Rattle.cgrammar.specs.Rows.{node, named}
use Rattle.cgrammar.specs.TextRows.{TextRow, taken_as, missed, HaveExpressions}
use Rattle.cgrammar.specs.Trees.{type_name}

abbrev pub front_table : List (TextRow Expr)
front_table =
    taken_as (codes "a + ;") [] (node 0 0 (Name (codes "a"))) 1
    ∷ taken_as (codes "a * b - )") [] (node 2 1 (Binary Mul (node 0 0 (Name (codes "a"))) (node 1 2 (Name (codes "b"))))) 3
    ∷ taken_as (codes "a + b * ;") [] (node 2 1 (Binary Add (node 0 0 (Name (codes "a"))) (node 1 2 (Name (codes "b"))))) 3
    ∷ taken_as (codes "a && b || ;") [] (node 2 1 (Binary Both (node 0 0 (Name (codes "a"))) (node 1 2 (Name (codes "b"))))) 3
    ∷ taken_as (codes "a <") [] (node 0 0 (Name (codes "a"))) 1
    ∷ taken_as (codes "a =") [] (node 0 0 (Name (codes "a"))) 1
    ∷ taken_as (codes "a = b + ;") [] (node 2 1 (Assign None (node 0 0 (Name (codes "a"))) (node 1 2 (Name (codes "b"))))) 3
    ∷ taken_as (codes "a = b = ;") [] (node 2 1 (Assign None (node 0 0 (Name (codes "a"))) (node 1 2 (Name (codes "b"))))) 3
    ∷ taken_as (codes "a += ( b ;") [] (node 0 0 (Name (codes "a"))) 1
    ∷ taken_as (codes "a + b = c") [] (node 2 1 (Binary Add (node 0 0 (Name (codes "a"))) (node 1 2 (Name (codes "b"))))) 3
    ∷ taken_as (codes "- a = b") [] (node 3 2 (Assign None (node 1 0 (Unary Minus (node 0 1 (Name (codes "a"))))) (node 2 3 (Name (codes "b"))))) 4
    ∷ taken_as (codes "++ a = b") [] (node 3 2 (Assign None (node 1 0 (Count true false (node 0 1 (Name (codes "a"))))) (node 2 3 (Name (codes "b"))))) 4
    ∷ taken_as (codes "( a ) = b") [] (node 2 3 (Assign None (node 0 1 (Name (codes "a"))) (node 1 4 (Name (codes "b"))))) 5
    ∷ taken_as (codes "( a , b ) = c") [] (node 4 5 (Assign None (node 2 2 (Binary Comma (node 0 1 (Name (codes "a"))) (node 1 3 (Name (codes "b"))))) (node 3 6 (Name (codes "c"))))) 7
    ∷ taken_as (codes "( T ) a = b") (codes "T" ∷ []) (node 1 0 (Cast (type_name (Named (codes "T")) 0 []) (node 0 3 (Name (codes "a"))))) 4
    ∷ taken_as (codes "a ? b = c : d") [] (node 5 1 (Choose (node 0 0 (Name (codes "a"))) (node 3 3 (Assign None (node 1 2 (Name (codes "b"))) (node 2 4 (Name (codes "c"))))) (node 4 6 (Name (codes "d"))))) 7
    ∷ taken_as (codes "a ? b") [] (node 0 0 (Name (codes "a"))) 1
    ∷ taken_as (codes "a ? b :") [] (node 0 0 (Name (codes "a"))) 1
    ∷ taken_as (codes "a ? : b") [] (node 0 0 (Name (codes "a"))) 1
    ∷ taken_as (codes "a + b ? c :") [] (node 2 1 (Binary Add (node 0 0 (Name (codes "a"))) (node 1 2 (Name (codes "b"))))) 3
    ∷ taken_as (codes "a ? b : c = d") [] (node 3 1 (Choose (node 0 0 (Name (codes "a"))) (node 1 2 (Name (codes "b"))) (node 2 4 (Name (codes "c"))))) 5
    ∷ taken_as (codes "a ? b , c : d , e") [] (node 7 7 (Binary Comma (node 5 1 (Choose (node 0 0 (Name (codes "a"))) (node 3 3 (Binary Comma (node 1 2 (Name (codes "b"))) (node 2 4 (Name (codes "c"))))) (node 4 6 (Name (codes "d"))))) (node 6 8 (Name (codes "e"))))) 9
    ∷ taken_as (codes "a ? b : c ? d : e") [] (node 6 1 (Choose (node 0 0 (Name (codes "a"))) (node 1 2 (Name (codes "b"))) (node 5 5 (Choose (node 2 4 (Name (codes "c"))) (node 3 6 (Name (codes "d"))) (node 4 8 (Name (codes "e"))))))) 9
    ∷ taken_as (codes "a = b ? c : d = e") [] (node 5 1 (Assign None (node 0 0 (Name (codes "a"))) (node 4 3 (Choose (node 1 2 (Name (codes "b"))) (node 2 4 (Name (codes "c"))) (node 3 6 (Name (codes "d"))))))) 7
    ∷ taken_as (codes "a = b += c , d") [] (node 6 5 (Binary Comma (node 4 1 (Assign None (node 0 0 (Name (codes "a"))) (node 3 3 (Assign (Some Add) (node 1 2 (Name (codes "b"))) (node 2 4 (Name (codes "c"))))))) (node 5 6 (Name (codes "d"))))) 7
    ∷ taken_as (codes "a , b ,") [] (node 2 1 (Binary Comma (node 0 0 (Name (codes "a"))) (node 1 2 (Name (codes "b"))))) 3
    ∷ taken_as (codes "a , ( )") [] (node 0 0 (Name (codes "a"))) 1
    ∷ missed (codes ", a") []
    ∷ taken_as (codes "a ? b ? c : d : e") [] (node 6 1 (Choose (node 0 0 (Name (codes "a"))) (node 4 3 (Choose (node 1 2 (Name (codes "b"))) (node 2 4 (Name (codes "c"))) (node 3 6 (Name (codes "d"))))) (node 5 8 (Name (codes "e"))))) 9
    ∷ taken_as (codes "* a = & b") [] (node 4 2 (Assign None (node 1 0 (Unary Follow (node 0 1 (Name (codes "a"))))) (node 3 3 (Unary Address (node 2 4 (Name (codes "b"))))))) 5
    ∷ taken_as (codes "a = b , c = d") [] (node 6 3 (Binary Comma (node 2 1 (Assign None (node 0 0 (Name (codes "a"))) (node 1 2 (Name (codes "b"))))) (node 5 5 (Assign None (node 3 4 (Name (codes "c"))) (node 4 6 (Name (codes "d"))))))) 7
    ∷ taken_as (codes "* a ++ = b") [] (node 4 3 (Assign None (node 2 0 (Unary Follow (node 1 2 (Count true true (node 0 1 (Name (codes "a"))))))) (node 3 4 (Name (codes "b"))))) 5
    ∷ taken_as (codes "a ++ = b") [] (node 3 2 (Assign None (node 1 1 (Count true true (node 0 0 (Name (codes "a"))))) (node 2 3 (Name (codes "b"))))) 4
    ∷ taken_as (codes "sizeof a = b") [] (node 3 2 (Assign None (node 1 0 (SizeOf (node 0 1 (Name (codes "a"))))) (node 2 3 (Name (codes "b"))))) 4
    ∷ taken_as (codes "sizeof ( T ) = b") (codes "T" ∷ []) (node 2 4 (Assign None (node 0 0 (SizeOfType (type_name (Named (codes "T")) 0 []))) (node 1 5 (Name (codes "b"))))) 6
    ∷ taken_as (codes "a - ( T ) ;") (codes "T" ∷ []) (node 0 0 (Name (codes "a"))) 1
    ∷ taken_as (codes "a -> b . 3") [] (node 1 1 (Member (node 0 0 (Name (codes "a"))) (named (codes "b") 2) true)) 3
    ∷ taken_as (codes "a ? b : c :") [] (node 3 1 (Choose (node 0 0 (Name (codes "a"))) (node 1 2 (Name (codes "b"))) (node 2 4 (Name (codes "c"))))) 5
    ∷ taken_as (codes "a | b c") [] (node 2 1 (Binary Or (node 0 0 (Name (codes "a"))) (node 1 2 (Name (codes "b"))))) 3
    ∷ taken_as (codes "a = ( b = c") [] (node 0 0 (Name (codes "a"))) 1
    ∷ taken_as (codes "a -= b") [] (node 2 1 (Assign (Some Sub) (node 0 0 (Name (codes "a"))) (node 1 2 (Name (codes "b"))))) 3
    ∷ taken_as (codes "a *= b") [] (node 2 1 (Assign (Some Mul) (node 0 0 (Name (codes "a"))) (node 1 2 (Name (codes "b"))))) 3
    ∷ taken_as (codes "a /= b") [] (node 2 1 (Assign (Some Div) (node 0 0 (Name (codes "a"))) (node 1 2 (Name (codes "b"))))) 3
    ∷ taken_as (codes "a %= b") [] (node 2 1 (Assign (Some Rem) (node 0 0 (Name (codes "a"))) (node 1 2 (Name (codes "b"))))) 3
    ∷ taken_as (codes "a <<= b") [] (node 2 1 (Assign (Some Left) (node 0 0 (Name (codes "a"))) (node 1 2 (Name (codes "b"))))) 3
    ∷ taken_as (codes "a >>= b") [] (node 2 1 (Assign (Some Right) (node 0 0 (Name (codes "a"))) (node 1 2 (Name (codes "b"))))) 3
    ∷ taken_as (codes "a &= b") [] (node 2 1 (Assign (Some And) (node 0 0 (Name (codes "a"))) (node 1 2 (Name (codes "b"))))) 3
    ∷ taken_as (codes "a ^= b") [] (node 2 1 (Assign (Some Xor) (node 0 0 (Name (codes "a"))) (node 1 2 (Name (codes "b"))))) 3
    ∷ taken_as (codes "a |= b") [] (node 2 1 (Assign (Some Or) (node 0 0 (Name (codes "a"))) (node 1 2 (Name (codes "b"))))) 3
    ∷ taken_as (codes "a == = b") [] (node 0 0 (Name (codes "a"))) 1
    ∷ taken_as (codes "a + b [ c + ;") [] (node 2 1 (Binary Add (node 0 0 (Name (codes "a"))) (node 1 2 (Name (codes "b"))))) 3
    ∷ taken_as (codes "a + ( b * c ;") [] (node 0 0 (Name (codes "a"))) 1
    ∷ taken_as (codes "a ( b + c ) ( d + ;") [] (node 4 0 (Call (node 0 0 (Name (codes "a"))) ((node 3 3 (Binary Add (node 1 2 (Name (codes "b"))) (node 2 4 (Name (codes "c"))))) ∷ []))) 6
    ∷ taken_as (codes "a = b * c ? d + e : ;") [] (node 4 1 (Assign None (node 0 0 (Name (codes "a"))) (node 3 3 (Binary Mul (node 1 2 (Name (codes "b"))) (node 2 4 (Name (codes "c"))))))) 5
    ∷ taken_as (codes "- a [ b + ;") [] (node 1 0 (Unary Minus (node 0 1 (Name (codes "a"))))) 2
    ∷ taken_as (codes "sizeof a [ b + ;") [] (node 1 0 (SizeOf (node 0 1 (Name (codes "a"))))) 2
    ∷ taken_as (codes "( T ) a [ 1 + ;") (codes "T" ∷ []) (node 1 0 (Cast (type_name (Named (codes "T")) 0 []) (node 0 3 (Name (codes "a"))))) 4
    ∷ taken_as (codes "a + b ( c , d * ;") [] (node 2 1 (Binary Add (node 0 0 (Name (codes "a"))) (node 1 2 (Name (codes "b"))))) 3
    ∷ taken_as (codes "a , b = c - ( { d ; ;") [] (node 4 1 (Binary Comma (node 0 0 (Name (codes "a"))) (node 3 3 (Assign None (node 1 2 (Name (codes "b"))) (node 2 4 (Name (codes "c"))))))) 5
    ∷ taken_as (codes "a + b . 1") [] (node 2 1 (Binary Add (node 0 0 (Name (codes "a"))) (node 1 2 (Name (codes "b"))))) 3
    ∷ taken_as (codes "a || b && c | ;") [] (node 4 1 (Binary Either (node 0 0 (Name (codes "a"))) (node 3 3 (Binary Both (node 1 2 (Name (codes "b"))) (node 2 4 (Name (codes "c"))))))) 5
    ∷ taken_as (codes "a * b ? c : - ;") [] (node 2 1 (Binary Mul (node 0 0 (Name (codes "a"))) (node 1 2 (Name (codes "b"))))) 3
    ∷ taken_as (codes "( a + b ) * c - ( d") [] (node 4 5 (Binary Mul (node 2 2 (Binary Add (node 0 1 (Name (codes "a"))) (node 1 3 (Name (codes "b"))))) (node 3 6 (Name (codes "c"))))) 7
    ∷ taken_as (codes "++ a [ b") [] (node 1 0 (Count true false (node 0 1 (Name (codes "a"))))) 2
    ∷ taken_as (codes "a = b = c = ;") [] (node 4 1 (Assign None (node 0 0 (Name (codes "a"))) (node 3 3 (Assign None (node 1 2 (Name (codes "b"))) (node 2 4 (Name (codes "c"))))))) 5
    ∷ taken_as (codes "a + sizeof ( T ;") (codes "T" ∷ []) (node 0 0 (Name (codes "a"))) 1
    ∷ taken_as (codes "a - ++ ( T ) b") (codes "T" ∷ []) (node 0 0 (Name (codes "a"))) 1
    ∷ taken_as (codes "a , sizeof") [] (node 0 0 (Name (codes "a"))) 1
    ∷ []

unfoldable pub FrontRows : Type 0
FrontRows = HaveExpressions front_table
