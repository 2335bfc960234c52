-- Binary operators by their levels and sides (C11 6.5.5 to 6.5.14).
use Rattle.std.specs.Prelude.{List, [], ◌∷◌, codes}
use Rattle.cbase.specs.declared.tree.expr.Expr.{Expr}
use Rattle.cbase.specs.declared.tree.expr.ExprForm.TheVariants.{Name, Unary, Binary}
use Rattle.cbase.specs.declared.tree.operators.BinaryOp.TheVariants.{Mul, Div, Rem, Add, Sub, Left, Right, Less, Greater, LessEqual, GreaterEqual, Equal, NotEqual, And, Xor, Or, Both, Either}
use Rattle.cbase.specs.declared.tree.operators.UnaryOp.TheVariants.{Minus}
use Rattle.cgrammar.specs.Rows.{node}
use Rattle.cgrammar.specs.TextRows.{TextRow, taken_as, HaveExpressions}

abbrev pub binary_table : List (TextRow Expr)
binary_table =
    taken_as (codes "a || b && c") [] (node 4 1 (Binary Either (node 0 0 (Name (codes "a"))) (node 3 3 (Binary Both (node 1 2 (Name (codes "b"))) (node 2 4 (Name (codes "c"))))))) 5
    ∷ taken_as (codes "a && b || c") [] (node 4 3 (Binary Either (node 2 1 (Binary Both (node 0 0 (Name (codes "a"))) (node 1 2 (Name (codes "b"))))) (node 3 4 (Name (codes "c"))))) 5
    ∷ taken_as (codes "a && b | c") [] (node 4 1 (Binary Both (node 0 0 (Name (codes "a"))) (node 3 3 (Binary Or (node 1 2 (Name (codes "b"))) (node 2 4 (Name (codes "c"))))))) 5
    ∷ taken_as (codes "a | b && c") [] (node 4 3 (Binary Both (node 2 1 (Binary Or (node 0 0 (Name (codes "a"))) (node 1 2 (Name (codes "b"))))) (node 3 4 (Name (codes "c"))))) 5
    ∷ taken_as (codes "a | b ^ c") [] (node 4 1 (Binary Or (node 0 0 (Name (codes "a"))) (node 3 3 (Binary Xor (node 1 2 (Name (codes "b"))) (node 2 4 (Name (codes "c"))))))) 5
    ∷ taken_as (codes "a ^ b | c") [] (node 4 3 (Binary Or (node 2 1 (Binary Xor (node 0 0 (Name (codes "a"))) (node 1 2 (Name (codes "b"))))) (node 3 4 (Name (codes "c"))))) 5
    ∷ taken_as (codes "a ^ b & c") [] (node 4 1 (Binary Xor (node 0 0 (Name (codes "a"))) (node 3 3 (Binary And (node 1 2 (Name (codes "b"))) (node 2 4 (Name (codes "c"))))))) 5
    ∷ taken_as (codes "a & b ^ c") [] (node 4 3 (Binary Xor (node 2 1 (Binary And (node 0 0 (Name (codes "a"))) (node 1 2 (Name (codes "b"))))) (node 3 4 (Name (codes "c"))))) 5
    ∷ taken_as (codes "a & b == c") [] (node 4 1 (Binary And (node 0 0 (Name (codes "a"))) (node 3 3 (Binary Equal (node 1 2 (Name (codes "b"))) (node 2 4 (Name (codes "c"))))))) 5
    ∷ taken_as (codes "a == b & c") [] (node 4 3 (Binary And (node 2 1 (Binary Equal (node 0 0 (Name (codes "a"))) (node 1 2 (Name (codes "b"))))) (node 3 4 (Name (codes "c"))))) 5
    ∷ taken_as (codes "a == b < c") [] (node 4 1 (Binary Equal (node 0 0 (Name (codes "a"))) (node 3 3 (Binary Less (node 1 2 (Name (codes "b"))) (node 2 4 (Name (codes "c"))))))) 5
    ∷ taken_as (codes "a < b == c") [] (node 4 3 (Binary Equal (node 2 1 (Binary Less (node 0 0 (Name (codes "a"))) (node 1 2 (Name (codes "b"))))) (node 3 4 (Name (codes "c"))))) 5
    ∷ taken_as (codes "a < b << c") [] (node 4 1 (Binary Less (node 0 0 (Name (codes "a"))) (node 3 3 (Binary Left (node 1 2 (Name (codes "b"))) (node 2 4 (Name (codes "c"))))))) 5
    ∷ taken_as (codes "a << b < c") [] (node 4 3 (Binary Less (node 2 1 (Binary Left (node 0 0 (Name (codes "a"))) (node 1 2 (Name (codes "b"))))) (node 3 4 (Name (codes "c"))))) 5
    ∷ taken_as (codes "a << b + c") [] (node 4 1 (Binary Left (node 0 0 (Name (codes "a"))) (node 3 3 (Binary Add (node 1 2 (Name (codes "b"))) (node 2 4 (Name (codes "c"))))))) 5
    ∷ taken_as (codes "a + b << c") [] (node 4 3 (Binary Left (node 2 1 (Binary Add (node 0 0 (Name (codes "a"))) (node 1 2 (Name (codes "b"))))) (node 3 4 (Name (codes "c"))))) 5
    ∷ taken_as (codes "a + b * c") [] (node 4 1 (Binary Add (node 0 0 (Name (codes "a"))) (node 3 3 (Binary Mul (node 1 2 (Name (codes "b"))) (node 2 4 (Name (codes "c"))))))) 5
    ∷ taken_as (codes "a * b + c") [] (node 4 3 (Binary Add (node 2 1 (Binary Mul (node 0 0 (Name (codes "a"))) (node 1 2 (Name (codes "b"))))) (node 3 4 (Name (codes "c"))))) 5
    ∷ taken_as (codes "a || b || c") [] (node 4 3 (Binary Either (node 2 1 (Binary Either (node 0 0 (Name (codes "a"))) (node 1 2 (Name (codes "b"))))) (node 3 4 (Name (codes "c"))))) 5
    ∷ taken_as (codes "a && b && c") [] (node 4 3 (Binary Both (node 2 1 (Binary Both (node 0 0 (Name (codes "a"))) (node 1 2 (Name (codes "b"))))) (node 3 4 (Name (codes "c"))))) 5
    ∷ taken_as (codes "a | b | c") [] (node 4 3 (Binary Or (node 2 1 (Binary Or (node 0 0 (Name (codes "a"))) (node 1 2 (Name (codes "b"))))) (node 3 4 (Name (codes "c"))))) 5
    ∷ taken_as (codes "a ^ b ^ c") [] (node 4 3 (Binary Xor (node 2 1 (Binary Xor (node 0 0 (Name (codes "a"))) (node 1 2 (Name (codes "b"))))) (node 3 4 (Name (codes "c"))))) 5
    ∷ taken_as (codes "a & b & c") [] (node 4 3 (Binary And (node 2 1 (Binary And (node 0 0 (Name (codes "a"))) (node 1 2 (Name (codes "b"))))) (node 3 4 (Name (codes "c"))))) 5
    ∷ taken_as (codes "a == b != c") [] (node 4 3 (Binary NotEqual (node 2 1 (Binary Equal (node 0 0 (Name (codes "a"))) (node 1 2 (Name (codes "b"))))) (node 3 4 (Name (codes "c"))))) 5
    ∷ taken_as (codes "a != b == c") [] (node 4 3 (Binary Equal (node 2 1 (Binary NotEqual (node 0 0 (Name (codes "a"))) (node 1 2 (Name (codes "b"))))) (node 3 4 (Name (codes "c"))))) 5
    ∷ taken_as (codes "a < b > c") [] (node 4 3 (Binary Greater (node 2 1 (Binary Less (node 0 0 (Name (codes "a"))) (node 1 2 (Name (codes "b"))))) (node 3 4 (Name (codes "c"))))) 5
    ∷ taken_as (codes "a > b <= c") [] (node 4 3 (Binary LessEqual (node 2 1 (Binary Greater (node 0 0 (Name (codes "a"))) (node 1 2 (Name (codes "b"))))) (node 3 4 (Name (codes "c"))))) 5
    ∷ taken_as (codes "a <= b >= c") [] (node 4 3 (Binary GreaterEqual (node 2 1 (Binary LessEqual (node 0 0 (Name (codes "a"))) (node 1 2 (Name (codes "b"))))) (node 3 4 (Name (codes "c"))))) 5
    ∷ taken_as (codes "a >= b < c") [] (node 4 3 (Binary Less (node 2 1 (Binary GreaterEqual (node 0 0 (Name (codes "a"))) (node 1 2 (Name (codes "b"))))) (node 3 4 (Name (codes "c"))))) 5
    ∷ taken_as (codes "a << b >> c") [] (node 4 3 (Binary Right (node 2 1 (Binary Left (node 0 0 (Name (codes "a"))) (node 1 2 (Name (codes "b"))))) (node 3 4 (Name (codes "c"))))) 5
    ∷ taken_as (codes "a >> b << c") [] (node 4 3 (Binary Left (node 2 1 (Binary Right (node 0 0 (Name (codes "a"))) (node 1 2 (Name (codes "b"))))) (node 3 4 (Name (codes "c"))))) 5
    ∷ taken_as (codes "a + b - c") [] (node 4 3 (Binary Sub (node 2 1 (Binary Add (node 0 0 (Name (codes "a"))) (node 1 2 (Name (codes "b"))))) (node 3 4 (Name (codes "c"))))) 5
    ∷ taken_as (codes "a - b + c") [] (node 4 3 (Binary Add (node 2 1 (Binary Sub (node 0 0 (Name (codes "a"))) (node 1 2 (Name (codes "b"))))) (node 3 4 (Name (codes "c"))))) 5
    ∷ taken_as (codes "a * b / c") [] (node 4 3 (Binary Div (node 2 1 (Binary Mul (node 0 0 (Name (codes "a"))) (node 1 2 (Name (codes "b"))))) (node 3 4 (Name (codes "c"))))) 5
    ∷ taken_as (codes "a / b % c") [] (node 4 3 (Binary Rem (node 2 1 (Binary Div (node 0 0 (Name (codes "a"))) (node 1 2 (Name (codes "b"))))) (node 3 4 (Name (codes "c"))))) 5
    ∷ taken_as (codes "a % b * c") [] (node 4 3 (Binary Mul (node 2 1 (Binary Rem (node 0 0 (Name (codes "a"))) (node 1 2 (Name (codes "b"))))) (node 3 4 (Name (codes "c"))))) 5
    ∷ taken_as (codes "a || b && c | d ^ e & f == g < h << i + j * k") [] (node 20 1 (Binary Either (node 0 0 (Name (codes "a"))) (node 19 3 (Binary Both (node 1 2 (Name (codes "b"))) (node 18 5 (Binary Or (node 2 4 (Name (codes "c"))) (node 17 7 (Binary Xor (node 3 6 (Name (codes "d"))) (node 16 9 (Binary And (node 4 8 (Name (codes "e"))) (node 15 11 (Binary Equal (node 5 10 (Name (codes "f"))) (node 14 13 (Binary Less (node 6 12 (Name (codes "g"))) (node 13 15 (Binary Left (node 7 14 (Name (codes "h"))) (node 12 17 (Binary Add (node 8 16 (Name (codes "i"))) (node 11 19 (Binary Mul (node 9 18 (Name (codes "j"))) (node 10 20 (Name (codes "k"))))))))))))))))))))))) 21
    ∷ taken_as (codes "a * b + c << d < e == f & g ^ h | i && j || k") [] (node 20 19 (Binary Either (node 18 17 (Binary Both (node 16 15 (Binary Or (node 14 13 (Binary Xor (node 12 11 (Binary And (node 10 9 (Binary Equal (node 8 7 (Binary Less (node 6 5 (Binary Left (node 4 3 (Binary Add (node 2 1 (Binary Mul (node 0 0 (Name (codes "a"))) (node 1 2 (Name (codes "b"))))) (node 3 4 (Name (codes "c"))))) (node 5 6 (Name (codes "d"))))) (node 7 8 (Name (codes "e"))))) (node 9 10 (Name (codes "f"))))) (node 11 12 (Name (codes "g"))))) (node 13 14 (Name (codes "h"))))) (node 15 16 (Name (codes "i"))))) (node 17 18 (Name (codes "j"))))) (node 19 20 (Name (codes "k"))))) 21
    ∷ taken_as (codes "a - ( b - c )") [] (node 4 1 (Binary Sub (node 0 0 (Name (codes "a"))) (node 3 4 (Binary Sub (node 1 3 (Name (codes "b"))) (node 2 5 (Name (codes "c"))))))) 7
    ∷ taken_as (codes "( a + b ) * c") [] (node 4 5 (Binary Mul (node 2 2 (Binary Add (node 0 1 (Name (codes "a"))) (node 1 3 (Name (codes "b"))))) (node 3 6 (Name (codes "c"))))) 7
    ∷ taken_as (codes "a - b - c ; d") [] (node 4 3 (Binary Sub (node 2 1 (Binary Sub (node 0 0 (Name (codes "a"))) (node 1 2 (Name (codes "b"))))) (node 3 4 (Name (codes "c"))))) 5
    ∷ taken_as (codes "- a * - b") [] (node 4 2 (Binary Mul (node 1 0 (Unary Minus (node 0 1 (Name (codes "a"))))) (node 3 3 (Unary Minus (node 2 4 (Name (codes "b"))))))) 5
    ∷ []

unfoldable pub BinaryRows : Type 0
BinaryRows = HaveExpressions binary_table
