-- Short rows of tokens and what they spell. The number of a token stands for its place.
use Rattle.cbase.specs.declared.place.Place.{Place}
use Rattle.cbase.specs.declared.tree.decl.Storage.TheVariants.{Plain, Extern, Static}
use Rattle.cbase.specs.declared.tree.expr.Expr.{Expr}
use Rattle.cbase.specs.declared.tree.expr.ExprForm.TheVariants.{Name, Constant, Unary, Binary, Assign, Count, Choose, Cast, SizeOf, SizeOfType, OffsetOf, Index, Member, Call, Inner, AssertFail}
use Rattle.cbase.specs.declared.tree.expr.ExprForm.{ExprForm}
use Rattle.cbase.specs.declared.tree.expr.Part.TheVariants.{Member as NamedPart, At}
use Rattle.cbase.specs.declared.tree.identifier.Identifier.{Identifier}
use Rattle.cbase.specs.declared.tree.init.Init.TheVariants.{Value, Braces}
use Rattle.cbase.specs.declared.tree.operators.BinaryOp.TheVariants.{Mul, Add, Sub, Less, Greater, Equal, Both, Either, Comma}
use Rattle.cbase.specs.declared.tree.operators.UnaryOp.TheVariants.{Follow, Minus}
use Rattle.cbase.specs.declared.tree.spec.BasicType.TheVariants.{Void, Integer}
use Rattle.cbase.specs.declared.tree.spec.Rank.TheVariants.{Char, Int, Long}
use Rattle.cbase.specs.declared.tree.spec.TypeSpec.TheVariants.{Basic, Named, Struct, Enum, OfExpr, OfType}
use Rattle.cbase.specs.declared.tree.stmt.StmtForm.TheVariants.{Declare, Eval, Block, If, While, Do, For, Break, Continue, Return}
use Rattle.ctokens.specs.declared.token.Token.{Token}
use Rattle.ctokens.specs.declared.token.TokenKind.{TokenKind}
use Rattle.ctokens.specs.declared.token.Tokens.{Tokens}
use Rattle.cgrammar.specs.Grammar.{Spells}
use Rattle.cgrammar.specs.Readings.{IsReadAt}
use Rattle.cgrammar.specs.Phrases.{Expression, CompoundStatement, context_at}
use Rattle.cgrammar.specs.Scope.{file_scope}
use Rattle.cgrammar.specs.Terminals.{Terminal}
use Rattle.cgrammar.specs.Trees.{identifier, object, function, field, fields, enumerator, parameter, type_name, declaration, initializer, statement}
use Rattle.ctokens.specs.declared.token.TokenKind.TheVariants.{Word, Number, Quoted, Mark}
use Rattle.std.specs.Prelude.{ℕ, ◌+◌, true, false, List, [], ◌∷◌, None, Some, codes}

-- where the token of that number stands
abbrev pub at : ℕ → Place
at number = record { file = 0; line = 1; column = 1; at = number }

-- a token of each kind, with these bytes and the place of that number
abbrev pub word : List ℕ → ℕ → Terminal
word bytes number = record { kind = Word; bytes = bytes; place = at number }

abbrev pub number : List ℕ → ℕ → Terminal
number bytes count = record { kind = Number; bytes = bytes; place = at count }

abbrev pub quoted : List ℕ → ℕ → Terminal
quoted bytes number = record { kind = Quoted; bytes = bytes; place = at number }

abbrev pub mark : List ℕ → ℕ → Terminal
mark bytes number = record { kind = Mark; bytes = bytes; place = at number }

-- an identifier, with the place of the token of that number
abbrev pub named : List ℕ → ℕ → Identifier
named name number = identifier (word name number)

-- tokens that follow one another
abbrev pub numbered_from : ℕ → List (ℕ → Terminal) → List Terminal
numbered_from first [] = []
numbered_from first (token ∷ tokens) = token first ∷ numbered_from (first + 1) tokens

-- tokens that follow one another from the number 0 on
abbrev pub row : List (ℕ → Terminal) → List Terminal
row tokens = numbered_from 0 tokens

-- an expression: its number, the number of the token that has its place, and what it is
abbrev pub node : ℕ → ℕ → ExprForm → Expr
node number place form = record { number = number; place = at place; form = form }

-- `a - b - c` is `(a - b) - c`
abbrev pub TwoSubtractions : Type 0
TwoSubtractions = Spells
    (Expression (node 4 3 (Binary Sub (node 2 1 (Binary Sub (node 0 0 (Name (codes "a"))) (node 1 2 (Name (codes "b"))))) (node 3 4 (Name (codes "c"))))))
    (context_at ([] ∷ []) 0)
    (row (word (codes "a") ∷ mark (codes "-") ∷ word (codes "b") ∷ mark (codes "-") ∷ word (codes "c") ∷ []))
    (context_at ([] ∷ []) 5)

-- each binary operator takes a tighter one on either side
abbrev pub Levels : Type 0
Levels = Spells
    (Expression (node 10 1 (Binary Either (node 0 0 (Name (codes "a"))) (node 9 3 (Binary Both (node 1 2 (Name (codes "b"))) (node 8 5 (Binary Equal (node 2 4 (Name (codes "c"))) (node 7 7 (Binary Add (node 3 6 (Name (codes "d"))) (node 6 9 (Binary Mul (node 4 8 (Name (codes "e"))) (node 5 10 (Name (codes "f"))))))))))))))
    (context_at ([] ∷ []) 0)
    (row (word (codes "a") ∷ mark (codes "||") ∷ word (codes "b") ∷ mark (codes "&&") ∷ word (codes "c") ∷ mark (codes "==") ∷ word (codes "d") ∷ mark (codes "+") ∷ word (codes "e") ∷ mark (codes "*") ∷ word (codes "f") ∷ []))
    (context_at ([] ∷ []) 11)

-- `a ? b : c ? d : e` is `a ? b : (c ? d : e)`
abbrev pub Chosen : Type 0
Chosen = Spells
    (Expression (node 6 1 (Choose (node 0 0 (Name (codes "a"))) (node 1 2 (Name (codes "b"))) (node 5 5 (Choose (node 2 4 (Name (codes "c"))) (node 3 6 (Name (codes "d"))) (node 4 8 (Name (codes "e"))))))))
    (context_at ([] ∷ []) 0)
    (row (word (codes "a") ∷ mark (codes "?") ∷ word (codes "b") ∷ mark (codes ":") ∷ word (codes "c") ∷ mark (codes "?") ∷ word (codes "d") ∷ mark (codes ":") ∷ word (codes "e") ∷ []))
    (context_at ([] ∷ []) 7)

-- `a = b += c, d` assigns to the right, and the comma is last
abbrev pub Assigned : Type 0
Assigned = Spells
    (Expression (node 6 5 (Binary Comma (node 4 1 (Assign None (node 0 0 (Name (codes "a"))) (node 3 3 (Assign (Some Add) (node 1 2 (Name (codes "b"))) (node 2 4 (Name (codes "c"))))))) (node 5 6 (Name (codes "d"))))))
    (context_at ([] ∷ []) 0)
    (row (word (codes "a") ∷ mark (codes "=") ∷ word (codes "b") ∷ mark (codes "+=") ∷ word (codes "c") ∷ mark (codes ",") ∷ word (codes "d") ∷ []))
    (context_at ([] ∷ []) 7)

-- where `T` is a typedef, `(T) - 1` is a cast
abbrev pub CastOfMinus : Type 0
CastOfMinus = Spells
    (Expression (node 2 0 (Cast (type_name (Named (codes "T")) 0 []) (node 1 3 (Unary Minus (node 0 4 (Constant (codes "1"))))))))
    (context_at (((codes "T", true) ∷ []) ∷ []) 0)
    (row (mark (codes "(") ∷ word (codes "T") ∷ mark (codes ")") ∷ mark (codes "-") ∷ number (codes "1") ∷ []))
    (context_at (((codes "T", true) ∷ []) ∷ []) 3)

-- where `a` is none, `(a) - 1` is a subtraction
abbrev pub BracketsAndMinus : Type 0
BracketsAndMinus = Spells
    (Expression (node 2 3 (Binary Sub (node 0 1 (Name (codes "a"))) (node 1 4 (Constant (codes "1"))))))
    (context_at (((codes "T", true) ∷ []) ∷ []) 0)
    (row (mark (codes "(") ∷ word (codes "a") ∷ mark (codes ")") ∷ mark (codes "-") ∷ number (codes "1") ∷ []))
    (context_at (((codes "T", true) ∷ []) ∷ []) 3)

-- `sizeof (T) - 1` takes 1 from the size of a type
abbrev pub SizeAndMinus : Type 0
SizeAndMinus = Spells
    (Expression (node 2 4 (Binary Sub (node 0 0 (SizeOfType (type_name (Named (codes "T")) 0 []))) (node 1 5 (Constant (codes "1"))))))
    (context_at (((codes "T", true) ∷ []) ∷ []) 0)
    (row (word (codes "sizeof") ∷ mark (codes "(") ∷ word (codes "T") ∷ mark (codes ")") ∷ mark (codes "-") ∷ number (codes "1") ∷ []))
    (context_at (((codes "T", true) ∷ []) ∷ []) 3)

-- `sizeof (a)[0]` is the size of an item
abbrev pub SizeOfItem : Type 0
SizeOfItem = Spells
    (Expression (node 3 0 (SizeOf (node 2 4 (Index (node 0 2 (Name (codes "a"))) (node 1 5 (Constant (codes "0"))))))))
    (context_at ([] ∷ []) 0)
    (row (word (codes "sizeof") ∷ mark (codes "(") ∷ word (codes "a") ∷ mark (codes ")") ∷ mark (codes "[") ∷ number (codes "0") ∷ mark (codes "]") ∷ []))
    (context_at ([] ∷ []) 4)

-- a call has the place of the first word in what it calls
abbrev pub CallPlace : Type 0
CallPlace = Spells
    (Expression (node 7 13 (Count true true (node 6 11 (Member (node 5 9 (Member (node 4 2 (Call (node 1 1 (Unary Follow (node 0 2 (Name (codes "f"))))) ((node 2 5 (Constant (codes "1"))) ∷ (node 3 7 (Name (codes "x"))) ∷ []))) (named (codes "m") 10) false)) (named (codes "n") 12) true)))))
    (context_at ([] ∷ []) 0)
    (row (mark (codes "(") ∷ mark (codes "*") ∷ word (codes "f") ∷ mark (codes ")") ∷ mark (codes "(") ∷ number (codes "1") ∷ mark (codes ",") ∷ word (codes "x") ∷ mark (codes ")") ∷ mark (codes ".") ∷ word (codes "m") ∷ mark (codes "->") ∷ word (codes "n") ∷ mark (codes "++") ∷ []))
    (context_at ([] ∷ []) 8)

-- the kernel's `container_of`
abbrev pub Container : Type 0
Container = Spells
    (Expression (node 10 0 (Inner ((statement (at 2) (at 19) (Declare (declaration Plain (OfExpr (node 2 12 (Member (node 1 5 (Cast (type_name (Struct (Some (named (codes "s") 7)) None) 1 []) (node 0 10 (Constant (codes "0"))))) (named (codes "m") 13) true))) ((object (word (codes "p") 16) 1 [] (Some (Value (node 3 18 (Name (codes "q"))) (at 19)))) ∷ [])))) ∷ (statement (at 20) (at 45) (Eval (Some (node 9 20 (Cast (type_name (Struct (Some (named (codes "s") 22)) None) 1 []) (node 8 31 (Binary Sub (node 5 26 (Cast (type_name (Basic (Integer Char true)) 1 []) (node 4 30 (Name (codes "p"))))) (node 7 32 (OffsetOf (type_name (Struct (Some (named (codes "s") 35)) None) 0 []) ((NamedPart (named (codes "m") 37)) ∷ (NamedPart (named (codes "k") 39)) ∷ (At (node 6 41 (Constant (codes "2")))) ∷ [])))))))))) ∷ []) (at 46))))
    (context_at ([] ∷ []) 0)
    (row (mark (codes "(") ∷ mark (codes "{") ∷ word (codes "typeof") ∷ mark (codes "(") ∷ mark (codes "(") ∷ mark (codes "(") ∷ word (codes "struct") ∷ word (codes "s") ∷ mark (codes "*") ∷ mark (codes ")") ∷ number (codes "0") ∷ mark (codes ")") ∷ mark (codes "->") ∷ word (codes "m") ∷ mark (codes ")") ∷ mark (codes "*") ∷ word (codes "p") ∷ mark (codes "=") ∷ word (codes "q") ∷ mark (codes ";") ∷ mark (codes "(") ∷ word (codes "struct") ∷ word (codes "s") ∷ mark (codes "*") ∷ mark (codes ")") ∷ mark (codes "(") ∷ mark (codes "(") ∷ word (codes "char") ∷ mark (codes "*") ∷ mark (codes ")") ∷ word (codes "p") ∷ mark (codes "-") ∷ word (codes "__builtin_offsetof") ∷ mark (codes "(") ∷ word (codes "struct") ∷ word (codes "s") ∷ mark (codes ",") ∷ word (codes "m") ∷ mark (codes ".") ∷ word (codes "k") ∷ mark (codes "[") ∷ number (codes "2") ∷ mark (codes "]") ∷ mark (codes ")") ∷ mark (codes ")") ∷ mark (codes ";") ∷ mark (codes "}") ∷ mark (codes ")") ∷ []))
    (context_at ([] ∷ []) 11)

-- glibc's `assert`
abbrev pub Assertion : Type 0
Assertion = Spells
    (Expression (node 6 5 (Choose (node 2 2 (Binary Greater (node 0 1 (Name (codes "x"))) (node 1 3 (Constant (codes "0u"))))) (node 4 6 (Cast (type_name (Basic Void) 0 []) (node 3 9 (Constant (codes "0"))))) (node 5 11 (AssertFail)))))
    (context_at ([] ∷ []) 0)
    (row (mark (codes "(") ∷ word (codes "x") ∷ mark (codes ">") ∷ number (codes "0u") ∷ mark (codes ")") ∷ mark (codes "?") ∷ mark (codes "(") ∷ word (codes "void") ∷ mark (codes ")") ∷ number (codes "0") ∷ mark (codes ":") ∷ word (codes "__assert_fail") ∷ mark (codes "(") ∷ quoted (codes "\"x\"") ∷ mark (codes ",") ∷ number (codes "3") ∷ mark (codes ",") ∷ word (codes "f") ∷ mark (codes "[") ∷ mark (codes "{") ∷ number (codes "1") ∷ mark (codes "}") ∷ mark (codes "]") ∷ mark (codes ")") ∷ []))
    (context_at ([] ∷ []) 7)

-- an `else` belongs to the nearest `if`
abbrev pub NearestIf : Type 0
NearestIf = Spells
    (CompoundStatement ((statement (at 1) (at 12) (If (node 0 3 (Name (codes "a"))) (at 4) (statement (at 5) (at 12) (If (node 1 7 (Name (codes "b"))) (at 8) (statement (at 9) (at 9) (Eval None)) (Some (statement (at 11) (at 12) (Eval (Some (node 2 11 (Name (codes "x"))))))))) None)) ∷ []))
    (context_at ([] ∷ []) 0)
    (row (mark (codes "{") ∷ word (codes "if") ∷ mark (codes "(") ∷ word (codes "a") ∷ mark (codes ")") ∷ word (codes "if") ∷ mark (codes "(") ∷ word (codes "b") ∷ mark (codes ")") ∷ mark (codes ";") ∷ word (codes "else") ∷ word (codes "x") ∷ mark (codes ";") ∷ mark (codes "}") ∷ []))
    (context_at ([] ∷ []) 3)

-- a label leaves no trace
abbrev pub Labels : Type 0
Labels = Spells
    (CompoundStatement ((statement (at 3) (at 3) (Eval None)) ∷ []))
    (context_at ([] ∷ []) 0)
    (row (mark (codes "{") ∷ word (codes "ERROR") ∷ mark (codes ":") ∷ mark (codes ";") ∷ mark (codes "}") ∷ []))
    (context_at ([] ∷ []) 0)

-- each loop
abbrev pub Loops : Type 0
Loops = Spells
    (CompoundStatement ((statement (at 1) (at 6) (While (node 0 3 (Name (codes "a"))) (at 4) (statement (at 5) (at 6) (Block [])))) ∷ (statement (at 7) (at 13) (Do (statement (at 8) (at 8) (Eval None)) (node 1 11 (Name (codes "b"))) (at 12))) ∷ (statement (at 14) (at 29) (For (statement (at 16) (at 20) (Declare (declaration Plain (Basic (Integer Int true)) ((object (word (codes "i") 17) 0 [] (Some (Value (node 2 19 (Constant (codes "0"))) (at 20)))) ∷ [])))) (Some (node 5 22 (Binary Less (node 3 21 (Name (codes "i"))) (node 4 23 (Constant (codes "9")))))) (at 24) (Some (node 7 26 (Count true true (node 6 25 (Name (codes "i")))))) (at 27) (statement (at 28) (at 29) Break))) ∷ (statement (at 30) (at 36) (For (statement (at 32) (at 32) (Eval None)) None (at 33) None (at 34) (statement (at 35) (at 36) Continue))) ∷ (statement (at 37) (at 39) (Return (Some (node 8 38 (Name (codes "a")))))) ∷ []))
    (context_at ([] ∷ []) 0)
    (row (mark (codes "{") ∷ word (codes "while") ∷ mark (codes "(") ∷ word (codes "a") ∷ mark (codes ")") ∷ mark (codes "{") ∷ mark (codes "}") ∷ word (codes "do") ∷ mark (codes ";") ∷ word (codes "while") ∷ mark (codes "(") ∷ word (codes "b") ∷ mark (codes ")") ∷ mark (codes ";") ∷ word (codes "for") ∷ mark (codes "(") ∷ word (codes "int") ∷ word (codes "i") ∷ mark (codes "=") ∷ number (codes "0") ∷ mark (codes ";") ∷ word (codes "i") ∷ mark (codes "<") ∷ number (codes "9") ∷ mark (codes ";") ∷ word (codes "i") ∷ mark (codes "++") ∷ mark (codes ")") ∷ word (codes "break") ∷ mark (codes ";") ∷ word (codes "for") ∷ mark (codes "(") ∷ mark (codes ";") ∷ mark (codes ";") ∷ mark (codes ")") ∷ word (codes "continue") ∷ mark (codes ";") ∷ word (codes "return") ∷ word (codes "a") ∷ mark (codes ";") ∷ mark (codes "}") ∷ []))
    (context_at ([] ∷ []) 9)

-- a statement that begins with a type is a declaration
abbrev pub Declarations : Type 0
Declarations = Spells
    (CompoundStatement ((statement (at 1) (at 18) (Declare (declaration Plain (Named (codes "T")) ((object (word (codes "x") 3) 1 [] None) ∷ (object (word (codes "y") 5) 0 ((Some (node 0 7 (Constant (codes "2")))) ∷ []) (Some (Braces ((initializer None (Value (node 1 11 (Constant (codes "1"))) (at 12))) ∷ (initializer None (Braces ((initializer None (Value (node 2 14 (Constant (codes "2"))) (at 15))) ∷ []))) ∷ [])))) ∷ [])))) ∷ (statement (at 19) (at 37) (Declare (declaration Extern (Basic (Integer Long false)) ((function (word (codes "g") 23) 1 []) ∷ (function (word (codes "h") 28) 0 ((parameter (Named (codes "T")) 0 (Some (named (codes "T") 31)) []) ∷ (parameter (Basic (Integer Int true)) 0 None (None ∷ [])) ∷ [])) ∷ [])))) ∷ (statement (at 38) (at 41) (Eval (Some (node 5 39 (Binary Mul (node 3 38 (Name (codes "x"))) (node 4 40 (Name (codes "y")))))))) ∷ []))
    (context_at (((codes "T", true) ∷ []) ∷ []) 0)
    (row (mark (codes "{") ∷ word (codes "T") ∷ mark (codes "*") ∷ word (codes "x") ∷ mark (codes ",") ∷ word (codes "y") ∷ mark (codes "[") ∷ number (codes "2") ∷ mark (codes "]") ∷ mark (codes "=") ∷ mark (codes "{") ∷ number (codes "1") ∷ mark (codes ",") ∷ mark (codes "{") ∷ number (codes "2") ∷ mark (codes "}") ∷ mark (codes ",") ∷ mark (codes "}") ∷ mark (codes ";") ∷ word (codes "unsigned") ∷ word (codes "long") ∷ word (codes "extern") ∷ mark (codes "*") ∷ word (codes "g") ∷ mark (codes "(") ∷ word (codes "void") ∷ mark (codes ")") ∷ mark (codes ",") ∷ word (codes "h") ∷ mark (codes "(") ∷ word (codes "T") ∷ word (codes "T") ∷ mark (codes ",") ∷ word (codes "int") ∷ mark (codes "[") ∷ mark (codes "]") ∷ mark (codes ")") ∷ mark (codes ";") ∷ word (codes "x") ∷ mark (codes "*") ∷ word (codes "y") ∷ mark (codes ";") ∷ mark (codes "}") ∷ []))
    (context_at (((codes "T", true) ∷ []) ∷ []) 6)

-- a variable hides a typedef up to the end of its block, and an enumerator too
abbrev pub Hidden : Type 0
Hidden = Spells
    (CompoundStatement ((statement (at 1) (at 13) (Block ((statement (at 2) (at 6) (Declare (declaration Plain (Basic (Integer Int true)) ((object (word (codes "T") 3) 0 [] (Some (Value (node 0 5 (Constant (codes "1"))) (at 6)))) ∷ [])))) ∷ (statement (at 7) (at 12) (Eval (Some (node 3 10 (Binary Sub (node 1 8 (Name (codes "T"))) (node 2 11 (Constant (codes "1")))))))) ∷ []))) ∷ (statement (at 14) (at 19) (Eval (Some (node 6 14 (Cast (type_name (Named (codes "T")) 0 []) (node 5 17 (Unary Minus (node 4 18 (Constant (codes "1")))))))))) ∷ (statement (at 20) (at 35) (Eval (Some (node 9 20 (Cast (type_name (Basic Void) 0 []) (node 8 23 (SizeOfType (type_name (Enum (Some (named (codes "e") 26)) (Some ((enumerator (word (codes "T") 28) (Some (node 7 30 (Constant (codes "3"))))) ∷ (enumerator (word (codes "U") 32) None) ∷ []))) 0 [])))))))) ∷ (statement (at 36) (at 39) (Eval (Some (node 12 37 (Assign None (node 10 36 (Name (codes "T"))) (node 11 38 (Name (codes "U")))))))) ∷ []))
    (context_at (((codes "T", true) ∷ []) ∷ []) 0)
    (row (mark (codes "{") ∷ mark (codes "{") ∷ word (codes "int") ∷ word (codes "T") ∷ mark (codes "=") ∷ number (codes "1") ∷ mark (codes ";") ∷ mark (codes "(") ∷ word (codes "T") ∷ mark (codes ")") ∷ mark (codes "-") ∷ number (codes "1") ∷ mark (codes ";") ∷ mark (codes "}") ∷ mark (codes "(") ∷ word (codes "T") ∷ mark (codes ")") ∷ mark (codes "-") ∷ number (codes "1") ∷ mark (codes ";") ∷ mark (codes "(") ∷ word (codes "void") ∷ mark (codes ")") ∷ word (codes "sizeof") ∷ mark (codes "(") ∷ word (codes "enum") ∷ word (codes "e") ∷ mark (codes "{") ∷ word (codes "T") ∷ mark (codes "=") ∷ number (codes "3") ∷ mark (codes ",") ∷ word (codes "U") ∷ mark (codes "}") ∷ mark (codes ")") ∷ mark (codes ";") ∷ word (codes "T") ∷ mark (codes "=") ∷ word (codes "U") ∷ mark (codes ";") ∷ mark (codes "}") ∷ []))
    (context_at (((codes "T", true) ∷ []) ∷ []) 13)

-- forms that no other row has
abbrev pub Rest : Type 0
Rest = Spells
    (CompoundStatement ((statement (at 1) (at 11) (For (statement (at 3) (at 5) (Eval (Some (node 1 3 (Count true false (node 0 4 (Name (codes "a")))))))) None (at 6) None (at 7) (statement (at 8) (at 11) (Eval (Some (node 3 8 (Call (node 2 8 (Name (codes "f"))) []))))))) ∷ (statement (at 12) (at 14) (Declare (declaration Plain (Enum (Some (named (codes "e") 13)) None) []))) ∷ (statement (at 15) (at 25) (Declare (declaration Plain (OfType (type_name (Basic (Integer Int true)) 1 [])) ((object (word (codes "x") 20) 0 [] None) ∷ (function (word (codes "g") 22) 0 []) ∷ [])))) ∷ []))
    (context_at ([] ∷ []) 0)
    (row (mark (codes "{") ∷ word (codes "for") ∷ mark (codes "(") ∷ mark (codes "++") ∷ word (codes "a") ∷ mark (codes ";") ∷ mark (codes ";") ∷ mark (codes ")") ∷ word (codes "f") ∷ mark (codes "(") ∷ mark (codes ")") ∷ mark (codes ";") ∷ word (codes "enum") ∷ word (codes "e") ∷ mark (codes ";") ∷ word (codes "typeof") ∷ mark (codes "(") ∷ word (codes "int") ∷ mark (codes "*") ∷ mark (codes ")") ∷ word (codes "x") ∷ mark (codes ",") ∷ word (codes "g") ∷ mark (codes "(") ∷ mark (codes ")") ∷ mark (codes ";") ∷ mark (codes "}") ∷ []))
    (context_at ([] ∷ []) 4)

-- the fields of a struct are no names of the scope
abbrev pub Structs : Type 0
Structs = Spells
    (CompoundStatement ((statement (at 1) (at 32) (Declare (declaration Static (Struct (Some (named (codes "s") 3)) (Some ((fields (Named (codes "T")) ((field (at 7) (Some (codes "T")) 1 [] None) ∷ (field (at 9) (Some (codes "b")) 0 ((Some (node 0 11 (Constant (codes "3")))) ∷ []) None) ∷ [])) ∷ (fields (Basic (Integer Int true)) ((field (at 15) None 0 [] (Some (node 1 16 (Constant (codes "3"))))) ∷ (field (at 18) (Some (codes "c")) 0 [] (Some (node 2 20 (Constant (codes "4"))))) ∷ [])) ∷ []))) ((object (word (codes "s") 23) 0 [] (Some (Braces ((initializer (Some (named (codes "b") 27)) (Braces [])) ∷ [])))) ∷ [])))) ∷ (statement (at 33) (at 35) (Declare (declaration Plain (Named (codes "T")) ((object (word (codes "z") 34) 0 [] None) ∷ [])))) ∷ []))
    (context_at (((codes "T", true) ∷ []) ∷ []) 0)
    (row (mark (codes "{") ∷ word (codes "static") ∷ word (codes "struct") ∷ word (codes "s") ∷ mark (codes "{") ∷ word (codes "T") ∷ mark (codes "*") ∷ word (codes "T") ∷ mark (codes ",") ∷ word (codes "b") ∷ mark (codes "[") ∷ number (codes "3") ∷ mark (codes "]") ∷ mark (codes ";") ∷ word (codes "int") ∷ mark (codes ":") ∷ number (codes "3") ∷ mark (codes ",") ∷ word (codes "c") ∷ mark (codes ":") ∷ number (codes "4") ∷ mark (codes ";") ∷ mark (codes "}") ∷ word (codes "s") ∷ mark (codes "=") ∷ mark (codes "{") ∷ mark (codes ".") ∷ word (codes "b") ∷ mark (codes "=") ∷ mark (codes "{") ∷ mark (codes "}") ∷ mark (codes "}") ∷ mark (codes ";") ∷ word (codes "T") ∷ word (codes "z") ∷ mark (codes ";") ∷ mark (codes "}") ∷ []))
    (context_at (((codes "T", true) ∷ []) ∷ []) 3)

-- a text with its tokens
abbrev pub token : TokenKind → ℕ → ℕ → ℕ → Token
token kind from to number = record { kind = kind; from = from; to = to; place = at number }

-- a text with these tokens, and with no names of files and no packing
abbrev pub text_of : List ℕ → List Token → Tokens
text_of text tokens = record { text = text; list = tokens; names = []; packs = [] }

-- `a - b - c` is read at the front of `a - b - c ; d`
abbrev pub ReadsTwoSubtractions : Type 0
ReadsTwoSubtractions = IsReadAt (text_of (codes "a - b - c ; d") (token Word 0 1 0 ∷ token Mark 2 3 1 ∷ token Word 4 5 2 ∷ token Mark 6 7 3 ∷ token Word 8 9 4 ∷ token Mark 10 11 5 ∷ token Word 12 13 6 ∷ [])) file_scope 0 5
    (Expression (node 4 3 (Binary Sub (node 2 1 (Binary Sub (node 0 0 (Name (codes "a"))) (node 1 2 (Name (codes "b"))))) (node 3 4 (Name (codes "c"))))))

-- a word that is passed over keeps its number
abbrev pub ReadsPassedOver : Type 0
ReadsPassedOver = IsReadAt (text_of (codes "( const char * ) a ;") (token Mark 0 1 0 ∷ token Word 2 7 1 ∷ token Word 8 12 2 ∷ token Mark 13 14 3 ∷ token Mark 15 16 4 ∷ token Word 17 18 5 ∷ token Mark 19 20 6 ∷ [])) file_scope 0 6
    (Expression (node 1 0 (Cast (type_name (Basic (Integer Char true)) 1 []) (node 0 5 (Name (codes "a"))))))

-- a block of one empty statement
abbrev pub ReadsBlock : Type 0
ReadsBlock = IsReadAt (text_of (codes "{ ; } x") (token Mark 0 1 0 ∷ token Mark 2 3 1 ∷ token Mark 4 5 2 ∷ token Word 6 7 3 ∷ [])) file_scope 0 3
    (CompoundStatement ((statement (at 1) (at 1) (Eval None)) ∷ []))

-- a label counts among the tokens of its block
abbrev pub ReadsLabel : Type 0
ReadsLabel = IsReadAt (text_of (codes "{ ERROR : ; } x") (token Mark 0 1 0 ∷ token Word 2 7 1 ∷ token Mark 8 9 2 ∷ token Mark 10 11 3 ∷ token Mark 12 13 4 ∷ token Word 14 15 5 ∷ [])) file_scope 0 5
    (CompoundStatement ((statement (at 3) (at 3) (Eval None)) ∷ []))
