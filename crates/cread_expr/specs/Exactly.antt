-- What the reader writes at a token of a text, and what the grammar has there.
use Rattle.std.specs.Prelude.{◌≡◌, ℕ, ◌+◌, true, false, List, [], take, Some}
use Rattle.std.specs.List.{prefix_len}
use Rattle.cbase.specs.declared.tree.expr.Expr.{Expr}
use Rattle.cbase.specs.declared.tree.stmt.Stmt.{Stmt}
use Rattle.cevents.specs.Building.{built_all}
use Rattle.cevents.specs.Workshop.{pushed, start}
use Rattle.cevents.specs.declared.piece.Piece.TheVariants as piece
use Rattle.ctokens.specs.TokenList.{AreNumbered}
use Rattle.cgrammar.specs.Readings.{IsExpressionAt, IsLongestExpressionAt, IsBlockAt}
use Rattle.cgrammar.specs.Scope.{Names}
use Rattle.cgrammar.specs.Terminals.{terminals, last_place, comes_before}
use Rattle.cparser.specs.ReadingSteps.{reads, inner_at}
use Rattle.cparser.specs.State.{State}
use Rattle.cparser.specs.StatementSteps.{block}
use Rattle.cparser.specs.Writings.{Writing, start_at, written_of}
use Rattle.cparser.specs.declared.wanted.Wanted.TheVariants as wanted
use Rattle.ctokens.specs.declared.token.Tokens.{Tokens}

-- the reader at a token of a text, before it reads
abbrev pub at_token : Tokens → List Names → ℕ → State
at_token t scope at = start_at (terminals t) (prefix_len (comes_before at) (terminals t)) scope

-- what is written of an expression of at most so many levels
abbrev pub expression_written : ℕ → Tokens → List Names → ℕ → Writing
expression_written most t scope at = written_of (reads most wanted.Expression (at_token t scope at))

-- what is written of a block of at most so many levels
abbrev pub block_written : ℕ → Tokens → List Names → ℕ → Writing
block_written most t scope at = written_of (block (inner_at most) (at_token t scope at))

-- the number behind that of the last token that is read
abbrev pub end_of : Tokens → Writing → ℕ
end_of t written = (last_place (take written.at (terminals t))).at + 1

-- what is written makes the expression, and nothing beside it
pub record MakesExpression (t : Tokens) (written : Writing) (expr : Expr) : Type 0 where
  pub count : ℕ
  pub made : built_all (terminals t) written.events (Some start) ≡ pushed count (piece.Expr expr) []

-- what is written makes the block's declarations and statements, and nothing beside them
pub record MakesBlock (t : Tokens) (written : Writing) (body : List Stmt) : Type 0 where
  pub count : ℕ
  pub made : built_all (terminals t) written.events (Some start) ≡ pushed count (piece.Statements body) []

-- the longest expression of at most so many levels is written, or none begins there
pub record IsExactExpression (most : ℕ) (t : Tokens) (scope : List Names) (at : ℕ) (written : Writing) : Type 0 where
  pub found : written.found ≡ true → (expr : Expr) × MakesExpression t written expr × IsLongestExpressionAt most t scope at (end_of t written) expr
  pub none : written.found ≡ false → (expr : Expr) (after : ℕ) → IsExpressionAt most t scope at after expr → ⊥

-- a block of at most so many levels is written, or none begins there
pub record IsExactBlock (most : ℕ) (t : Tokens) (scope : List Names) (at : ℕ) (written : Writing) : Type 0 where
  pub found : written.found ≡ true → (body : List Stmt) × MakesBlock t written body × IsBlockAt most t scope at (end_of t written) body
  pub none : written.found ≡ false → (body : List Stmt) (after : ℕ) → IsBlockAt most t scope at after body → ⊥

-- expressions are written exactly: in every text, at every token, with any names in scope
abbrev pub ExpressionsAreExact : Type 0
ExpressionsAreExact =
    (most : ℕ) (t : Tokens) (scope : List Names) (at : ℕ) → AreNumbered t.list → IsExactExpression most t scope at (expression_written most t scope at)

-- blocks are written exactly: in every text, at every token, with any names in scope
abbrev pub BlocksAreExact : Type 0
BlocksAreExact =
    (most : ℕ) (t : Tokens) (scope : List Names) (at : ℕ) → AreNumbered t.list → IsExactBlock most t scope at (block_written most t scope at)
