-- What a row that spells a phrase does to the names in scope, and which number an expression has.
use Rattle.std.specs.Prelude.{◌≡◌, ◌+◌, List}
use Rattle.cgrammar.specs.Grammar.{Spells}
use Rattle.cgrammar.specs.Phrases.{Phrase, Context, Expression, Assignment, Conditional, Operation, CastExpression, UnaryExpression, PostfixExpression, PrimaryExpression, CompoundStatement, Substatement, FunctionDeclarator}
use Rattle.cgrammar.specs.Scope.{left}
use Rattle.cgrammar.specs.Terminals.{Terminal}

-- A block leaves the names in scope as they were, and so does a statement in an `if` or in a loop. Behind a function's
-- declarator the scope of its parameters is entered, and outside it all is as it was. Any other phrase declares names
-- in the innermost scope alone.
abbrev pub KeepsOuter : Phrase → Context → Context → Type 0
KeepsOuter (CompoundStatement body) before after = after.scope ≡ before.scope
KeepsOuter (Substatement dangling stmt) before after = after.scope ≡ before.scope
KeepsOuter (FunctionDeclarator name head) before after = left after.scope ≡ before.scope
KeepsOuter _ before after = left after.scope ≡ left before.scope

-- each phrase keeps the names of outer scopes
abbrev pub ScopesAreKept : Type 0
ScopesAreKept = (phrase : Phrase) (before after : Context) (row : List Terminal) → Spells phrase before row after → KeepsOuter phrase before after

-- an expression has the last of the numbers of its row
abbrev pub HasLastNumber : Phrase → Context → Type 0
HasLastNumber (Expression expr) after = expr.number + 1 ≡ after.expressions
HasLastNumber (Assignment expr) after = expr.number + 1 ≡ after.expressions
HasLastNumber (Conditional expr) after = expr.number + 1 ≡ after.expressions
HasLastNumber (Operation level expr) after = expr.number + 1 ≡ after.expressions
HasLastNumber (CastExpression expr) after = expr.number + 1 ≡ after.expressions
HasLastNumber (UnaryExpression expr) after = expr.number + 1 ≡ after.expressions
HasLastNumber (PostfixExpression expr) after = expr.number + 1 ≡ after.expressions
HasLastNumber (PrimaryExpression expr) after = expr.number + 1 ≡ after.expressions
HasLastNumber _ after = Unit {0}

-- each expression has the last number of its row
abbrev pub NumbersAreLast : Type 0
NumbersAreLast = (phrase : Phrase) (before after : Context) (row : List Terminal) → Spells phrase before row after → HasLastNumber phrase after
