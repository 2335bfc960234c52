-- The marks of operators (C11 6.5.3 to 6.5.16).
use Rattle.std.specs.Prelude.{◌≡◌, ℕ, Bool, if◌then◌else◌, List, [], ◌∷◌, Option, None, Some, codes}
use Rattle.std.specs.Str.{bytes_eq}
use Rattle.cbase.specs.declared.tree.operators.UnaryOp.{UnaryOp}
use Rattle.cbase.specs.declared.tree.operators.UnaryOp.TheVariants.{Address, Follow, Plus, Minus, Flip, Not}
use Rattle.cbase.specs.declared.tree.operators.BinaryOp.{BinaryOp}
use Rattle.cbase.specs.declared.tree.operators.BinaryOp.TheVariants.{Mul, Div, Rem, Add, Sub, Left, Right, Less, Greater, LessEqual, GreaterEqual, Equal, NotEqual, And, Xor, Or, Both, Either}
use Rattle.cgrammar.specs.Terminals.{Terminal, is_mark_kind}

-- what a table says of a mark with these bytes
abbrev pub row_of : {A : Type 0} → List ℕ → List (List ℕ × A) → Option A
row_of bytes [] = None
row_of bytes (row ∷ rows) = if bytes_eq row.0 bytes then Some row.1 else row_of bytes rows

-- what a table says of a token: nothing where it is no mark
abbrev pub mark_row : {A : Type 0} → List (List ℕ × A) → Terminal → Option A
mark_row rows token = if is_mark_kind token.kind then row_of token.bytes rows else None

-- the prefix operators (C11 6.5.3.2, 6.5.3.3)
abbrev pub unary_rows : List (List ℕ × UnaryOp)
unary_rows =
    (codes "&", Address) ∷ (codes "*", Follow) ∷ (codes "+", Plus) ∷ (codes "-", Minus) ∷ (codes "~", Flip) ∷ (codes "!", Not) ∷ []

-- `++` and `--` (C11 6.5.2.4, 6.5.3.1), with whether they count up
abbrev pub count_rows : List (List ℕ × Bool)
count_rows = (codes "++", Bool.true) ∷ (codes "--", Bool.false) ∷ []

-- `.` and `->` (C11 6.5.2.3), with whether they go through a pointer
abbrev pub member_rows : List (List ℕ × Bool)
member_rows = (codes ".", Bool.false) ∷ (codes "->", Bool.true) ∷ []

-- the binary operators with their levels, the loosest first (C11 6.5.5 to 6.5.14)
abbrev pub binary_rows : List (List ℕ × (ℕ × BinaryOp))
binary_rows =
    (codes "||", (0, Either)) ∷ (codes "&&", (1, Both)) ∷ (codes "|", (2, Or)) ∷ (codes "^", (3, Xor)) ∷ (codes "&", (4, And))
    ∷ (codes "==", (5, Equal)) ∷ (codes "!=", (5, NotEqual))
    ∷ (codes "<", (6, Less)) ∷ (codes ">", (6, Greater)) ∷ (codes "<=", (6, LessEqual)) ∷ (codes ">=", (6, GreaterEqual))
    ∷ (codes "<<", (7, Left)) ∷ (codes ">>", (7, Right)) ∷ (codes "+", (8, Add)) ∷ (codes "-", (8, Sub))
    ∷ (codes "*", (9, Mul)) ∷ (codes "/", (9, Div)) ∷ (codes "%", (9, Rem)) ∷ []

-- the assignment operators, with what is done before the store (C11 6.5.16)
abbrev pub assignment_rows : List (List ℕ × Option BinaryOp)
assignment_rows =
    (codes "=", None) ∷ (codes "*=", Some Mul) ∷ (codes "/=", Some Div) ∷ (codes "%=", Some Rem) ∷ (codes "+=", Some Add)
    ∷ (codes "-=", Some Sub) ∷ (codes "<<=", Some Left) ∷ (codes ">>=", Some Right) ∷ (codes "&=", Some And)
    ∷ (codes "^=", Some Xor) ∷ (codes "|=", Some Or) ∷ []

-- the token is that prefix operator
abbrev pub IsUnary : UnaryOp → Terminal → Type 0
IsUnary op token = mark_row unary_rows token ≡ Some op

-- the token is `++` where it counts up, and else `--`
abbrev pub IsCount : Bool → Terminal → Type 0
IsCount up token = mark_row count_rows token ≡ Some up

-- the token is `->` where it goes through a pointer, and else `.`
abbrev pub IsMember : Bool → Terminal → Type 0
IsMember through token = mark_row member_rows token ≡ Some through

-- a binary operator of that level
abbrev pub IsBinary : ℕ → BinaryOp → Terminal → Type 0
IsBinary level op token = mark_row binary_rows token ≡ Some (level, op)

-- the token is the assignment operator that does so before the store
abbrev pub IsAssignment : Option BinaryOp → Terminal → Type 0
IsAssignment op token = mark_row assignment_rows token ≡ Some op
