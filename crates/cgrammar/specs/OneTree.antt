-- That a row of tokens has one tree, where the same names are in scope and as many expressions end before it.
use Rattle.std.specs.Prelude.{◌≡◌, Bool, List}
use Rattle.cgrammar.specs.Grammar.{Spells}
use Rattle.cgrammar.specs.Phrases.{Phrase, Context, Expression, NameOfType, Declaration, Statement, CompoundStatement}
use Rattle.cgrammar.specs.Terminals.{Terminal}

-- two trees of one row are equal, and so is what stands behind them
abbrev pub HasOneTree : {A : Type 0} → (A → Phrase) → (A → Phrase) → Type 0
HasOneTree {A} phrase same =
    (one other : A) (before after behind : Context) (row : List Terminal)
    → Spells (phrase one) before row after → Spells (same other) before row behind → (one ≡ other) × (after ≡ behind)

-- Expressions, names of types, declarations, statements and blocks. A statement is the same whether its last `if` is
-- looked at as one without an `else` or not.
pub record EachHasOneTree : Type 0 where
  pub expressions : HasOneTree Expression Expression
  pub types : HasOneTree NameOfType NameOfType
  pub declarations : HasOneTree Declaration Declaration
  pub statements : (dangling other : Bool) → HasOneTree (Statement dangling) (Statement other)
  pub blocks : HasOneTree CompoundStatement CompoundStatement
