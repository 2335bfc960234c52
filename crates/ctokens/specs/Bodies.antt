-- Whether an item ends with a body.
use Rattle.std.specs.Prelude.{ℕ, Bool, false, List, [], ◌∷◌}
use Rattle.ctokens.specs.declared.symbol.Symbol.{Symbol}
use Rattle.ctokens.specs.declared.symbol.Symbol.TheVariants.{Other}
use Rattle.ctokens.specs.declared.symbol.Lexeme.{Lexeme}
use Rattle.ctokens.specs.Passed.{depth_after}
use Rattle.ctokens.specs.ItemEnds.{ends_body, body_after}

module _ {N : Type 0} where
  -- whether an item ends with a body; `last` says whether a body ends at the token before the row
  abbrev pub has_body : ℕ → Symbol → Bool → Bool → List (Lexeme N) → Bool
  has_body depth before body last [] = last
  has_body depth before body last (token ∷ rest) =
      has_body (depth_after depth token.symbol) token.symbol (body_after depth before body token.symbol)
      (ends_body depth body token.symbol) rest

  -- whether an item with this row of tokens ends with a body
  abbrev pub ends_with_body : List (Lexeme N) → Bool
  ends_with_body row = has_body 0 Other false false row
