-- Rows of tokens as texts, in which a blank stands between each token and the next, and what is spelled at their front
-- by an expression or a block of at most twelve levels. Each of the files BinaryRows, FrontRows, OperandRows, CastRows,
-- TypeRows, InnerRows, DeclarationRows, StatementRows and ScopeRows has one table of such texts, and says that it is right.
use Rattle.std.specs.Prelude.{ℕ, ◌+◌, ◌≤◌, true, if◌then◌else◌, List, [], ◌∷◌, map, take, length, nat_eq, Option, None, Some}
use Rattle.cbase.specs.declared.tree.expr.Expr.{Expr}
use Rattle.cbase.specs.declared.tree.stmt.Stmt.{Stmt}
use Rattle.cbase.specs.Bytes.{is_digit}
use Rattle.ctokens.specs.Bytes.{begins_word}
use Rattle.ctokens.specs.declared.token.TokenKind.{TokenKind}
use Rattle.ctokens.specs.declared.token.TokenKind.TheVariants.{Word, Number, Letter, Quoted, Mark}
use Rattle.ctrees.specs.Levels.{expr_levels}
use Rattle.cgrammar.specs.Grammar.{Spells}
use Rattle.cgrammar.specs.Phrases.{Context, Expression, CompoundStatement}
use Rattle.cgrammar.specs.Readings.{at_first, block_levels}
use Rattle.cgrammar.specs.Rows.{at}
use Rattle.cgrammar.specs.Scope.{Names}
use Rattle.cgrammar.specs.Terminals.{Terminal}

-- the words of a text between blanks
abbrev pub before_words : ℕ → List (List ℕ) → List (List ℕ)
before_words byte [] = (byte ∷ []) ∷ []
before_words byte (word ∷ words) = if nat_eq byte 32 then [] ∷ (word ∷ words) else (byte ∷ word) ∷ words

-- the parts of a text between its blanks
abbrev pub words_of : List ℕ → List (List ℕ)
words_of [] = [] ∷ []
words_of (byte ∷ text) = before_words byte (words_of text)

-- the kind of a token, by its first byte
abbrev pub kind_of : List ℕ → TokenKind
kind_of [] = Mark
kind_of (byte ∷ others) =
    if begins_word byte then Word else (if is_digit byte then Number else (if nat_eq byte 39 then Letter else (if nat_eq byte 34 then Quoted else Mark)))

-- each word as a token, whose place has its number
abbrev pub tokens_from : ℕ → List (List ℕ) → List Terminal
tokens_from number [] = []
tokens_from number (word ∷ words) = record { kind = kind_of word; bytes = word; place = at number } ∷ tokens_from (number + 1) words

-- the tokens of a text in which a blank stands between each and the next
abbrev pub row_of_text : List ℕ → List Terminal
row_of_text text = tokens_from 0 (words_of text)

-- a file's scope, in which these are typedefs
abbrev pub typedefs : List (List ℕ) → List Names
typedefs names = map (λ name. (name, true)) names ∷ []

-- how many levels the trees of the tables have at most
abbrev pub few_levels : ℕ
few_levels = 12

-- a text, the typedefs that are in scope, and the tree with the number of tokens that it takes
pub record TextRow (A : Type 0) : Type 0 where
  pub text : List ℕ
  pub names : List (List ℕ)
  pub expected : Option (A × ℕ)

-- the expression stands at the front of the row, and no longer one does
abbrev pub IsLongestFront : List Names → List Terminal → Expr → ℕ → Type 0
IsLongestFront scope row expr taken =
    ((behind : Context) × Spells (Expression expr) (at_first scope) (take taken row) behind)
    × ((other : Expr) (count : ℕ) (behind : Context) → count ≤ length row → Spells (Expression other) (at_first scope) (take count row) behind → expr_levels other ≤ few_levels → count ≤ taken)

-- no expression of at most twelve levels stands at the front of the row
abbrev pub BeginsNoExpression : List Names → List Terminal → Type 0
BeginsNoExpression scope row =
    (other : Expr) (count : ℕ) (behind : Context) → count ≤ length row → Spells (Expression other) (at_first scope) (take count row) behind → expr_levels other ≤ few_levels → ⊥

-- what a table says of the expression at the front of the row, and of its tokens
abbrev pub HasExpression : List Names → List Terminal → Option (Expr × ℕ) → Type 0
HasExpression scope row None = BeginsNoExpression scope row
HasExpression scope row (Some found) = IsLongestFront scope row found.0 found.1

-- the block stands at the front of the row, and no longer one does
abbrev pub IsLongestBlockFront : List Names → List Terminal → List Stmt → ℕ → Type 0
IsLongestBlockFront scope row body taken =
    ((behind : Context) × Spells (CompoundStatement body) (at_first scope) (take taken row) behind)
    × ((other : List Stmt) (count : ℕ) (behind : Context) → count ≤ length row → Spells (CompoundStatement other) (at_first scope) (take count row) behind → block_levels other ≤ few_levels → count ≤ taken)

-- no block of at most twelve levels stands at the front of the row
abbrev pub BeginsNoBlock : List Names → List Terminal → Type 0
BeginsNoBlock scope row =
    (other : List Stmt) (count : ℕ) (behind : Context) → count ≤ length row → Spells (CompoundStatement other) (at_first scope) (take count row) behind → block_levels other ≤ few_levels → ⊥

-- what a table says of the block at the front of the row, and of its tokens
abbrev pub HasBlock : List Names → List Terminal → Option (List Stmt × ℕ) → Type 0
HasBlock scope row None = BeginsNoBlock scope row
HasBlock scope row (Some found) = IsLongestBlockFront scope row found.0 found.1

-- what each row of a table of expressions begins with
abbrev pub HaveExpressions : List (TextRow Expr) → Type 0
HaveExpressions [] = Unit {0}
HaveExpressions (row ∷ rows) = HasExpression (typedefs row.names) (row_of_text row.text) row.expected × HaveExpressions rows

-- what each row of a table of blocks begins with
abbrev pub HaveBlocks : List (TextRow (List Stmt)) → Type 0
HaveBlocks [] = Unit {0}
HaveBlocks (row ∷ rows) = HasBlock (typedefs row.names) (row_of_text row.text) row.expected × HaveBlocks rows

-- a text with the tree at its front and how many tokens that takes, where these names are typedefs
abbrev pub taken_as : {A : Type 0} → List ℕ → List (List ℕ) → A → ℕ → TextRow A
taken_as text names tree taken = record { text = text; names = names; expected = Some (tree, taken) }

-- a text with no tree at its front, where these names are typedefs
abbrev pub missed : {A : Type 0} → List ℕ → List (List ℕ) → TextRow A
missed text names = record { text = text; names = names; expected = None }
