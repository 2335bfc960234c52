-- The bounds of a text and of the tokens in it.
use Rattle.std.specs.Prelude.{ℕ, ◌<◌, ◌≤◌, length}
use Rattle.std.specs.List.{All}
use Rattle.ctokens.specs.declared.token.Token.{Token}
use Rattle.ctokens.specs.declared.token.Tokens.{Tokens}

-- how many bytes a text has at most
abbrev pub most_bytes : ℕ
most_bytes = 4194304

-- each token has a first byte, and ends in the text; and there are so few that their numbers fit
pub record LieInText (t : Tokens) : Type 0 where
  pub ranges : All (λ (token : Token). (token.from < token.to) × (token.to ≤ length t.text)) t.list
  pub few : length t.list ≤ most_bytes
