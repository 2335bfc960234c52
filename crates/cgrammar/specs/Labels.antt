-- A label and an expression (C11 6.8.1).
use Rattle.std.specs.Prelude.{Bool, not, IsTrue, List, [], ◌∷◌, codes}
use Rattle.cbase.specs.declared.tree.expr.Expr.{Expr}
use Rattle.cgrammar.specs.Firsts.{Begins}
use Rattle.cgrammar.specs.Grammar.{Spells}
use Rattle.cgrammar.specs.Phrases.{Phrase, Context, Expression, Assignment, Conditional, Operation, CastExpression, UnaryExpression, PostfixExpression, PrimaryExpression, CompoundStatement}
use Rattle.cgrammar.specs.Terminals.{Terminal, is_mark, IsMark}

-- the token is a `:`
abbrev pub is_colon : Terminal → Bool
is_colon token = is_mark (codes ":") token

-- the row has a first token, and neither it nor a second one is a `:`
abbrev pub BeginWithoutColon : List Terminal → Type 0
BeginWithoutColon [] = ⊥
BeginWithoutColon (only ∷ []) = IsTrue (not (is_colon only))
BeginWithoutColon (first ∷ (second ∷ others)) = IsTrue (not (is_colon first)) × IsTrue (not (is_colon second))

-- neither of the first two tokens of an expression is a `:`, and a block does not begin with one
abbrev pub IsWithoutColon : Phrase → List Terminal → Type 0
IsWithoutColon (Expression expr) row = BeginWithoutColon row
IsWithoutColon (Assignment expr) row = BeginWithoutColon row
IsWithoutColon (Conditional expr) row = BeginWithoutColon row
IsWithoutColon (Operation level expr) row = BeginWithoutColon row
IsWithoutColon (CastExpression expr) row = BeginWithoutColon row
IsWithoutColon (UnaryExpression expr) row = BeginWithoutColon row
IsWithoutColon (PostfixExpression expr) row = BeginWithoutColon row
IsWithoutColon (PrimaryExpression expr) row = BeginWithoutColon row
IsWithoutColon (CompoundStatement body) row = Begins (λ token. not (is_colon token)) row
IsWithoutColon _ row = Unit {0}

-- no row is an expression whose second token is a `:`, as that behind a label is
abbrev pub LabelsAreNoExpressions : Type 0
LabelsAreNoExpressions =
    (label colon : Terminal) (others : List Terminal) (expr : Expr) (before after : Context)
    → IsMark (codes ":") colon → Spells (Expression expr) before (label ∷ (colon ∷ others)) after → ⊥
