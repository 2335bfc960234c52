-- What is read at a token of a text: an expression or a block of at most so many levels.
use Rattle.std.specs.Prelude.{◌≡◌, ℕ, ◌+◌, ◌-◌, ◌≤◌, List, take, drop, map}
use Rattle.ctrees.specs.Weight.{joined}
use Rattle.ctrees.specs.Levels.{depth, expr_levels, stmt_levels}
use Rattle.cbase.specs.declared.tree.expr.Expr.{Expr}
use Rattle.cbase.specs.declared.tree.stmt.Stmt.{Stmt}
use Rattle.ctokens.specs.Passed.{passed_tokens, unpassed}
use Rattle.ctokens.specs.declared.token.Tokens.{Tokens}
use Rattle.cgrammar.specs.Grammar.{Spells}
use Rattle.cgrammar.specs.Phrases.{Phrase, Context, context_at, Expression, CompoundStatement}
use Rattle.cgrammar.specs.Scope.{Names}
use Rattle.cgrammar.specs.Terminals.{Terminal, terminal_of, last_place}

-- the tokens from one number up to another, less those that are passed over
abbrev pub row_between : Tokens → ℕ → ℕ → List Terminal
row_between t from to =
    unpassed (take (to - from) (drop from (passed_tokens t))) (take (to - from) (drop from (map (terminal_of t.text) t.list)))

-- these names are in scope, and no expression ends before
abbrev pub at_first : List Names → Context
at_first scope = context_at scope 0

-- the phrase begins at the token `at`, where these names are in scope, and its last token stands before the token `after`
pub record IsReadAt (t : Tokens) (scope : List Names) (at after : ℕ) (phrase : Phrase) : Type 0 where
  pub behind : Context
  pub spelled : Spells phrase (at_first scope) (row_between t at after) behind
  pub last : (last_place (row_between t at after)).at + 1 ≡ after

-- how deep a tree that is read may be
abbrev pub most_levels : ℕ
most_levels = 1024

-- how many levels lie in one another in a block
abbrev pub block_levels : List Stmt → ℕ
block_levels body = joined depth (map stmt_levels body)

-- an expression of at most so many levels is read at the token `at`, and its last token stands before the token `after`
abbrev pub IsExpressionAt : ℕ → Tokens → List Names → ℕ → ℕ → Expr → Type 0
IsExpressionAt most t scope at after expr = IsReadAt t scope at after (Expression expr) × (expr_levels expr ≤ most)

-- of the expressions that begin at a token the longest is read
abbrev pub IsLongestExpressionAt : ℕ → Tokens → List Names → ℕ → ℕ → Expr → Type 0
IsLongestExpressionAt most t scope at after expr =
    IsExpressionAt most t scope at after expr × ((other : Expr) (end : ℕ) → IsExpressionAt most t scope at end other → end ≤ after)

-- a block of at most so many levels is read at the token `at`, and its last token stands before the token `after`
abbrev pub IsBlockAt : ℕ → Tokens → List Names → ℕ → ℕ → List Stmt → Type 0
IsBlockAt most t scope at after body = IsReadAt t scope at after (CompoundStatement body) × (block_levels body ≤ most)
