-- Brackets that are open, as the bytes of those to come that close them, that of the innermost first: what is open behind
-- one token more.
use Rattle.std.specs.Prelude.{ℕ, if◌then◌else◌, List, [], ◌∷◌, Option, None, Some}
use Rattle.cgrammar.specs.Brackets.{is_bracket}
use Rattle.cgrammar.specs.ReadOperands.{closer_of}
use Rattle.cgrammar.specs.Terminals.{Terminal, is_mark}

-- behind a token that closes none of them
abbrev pub behind_other : List ℕ → Terminal → Option ℕ → Option (List ℕ)
behind_other opened token (Some closer) = Some (closer ∷ opened)
behind_other opened token None = if is_bracket token then None else Some opened

-- behind a token, where the innermost is closed by `closer`
abbrev pub behind_token : ℕ → List ℕ → Terminal → Option (List ℕ)
behind_token closer others token = if is_mark (closer ∷ []) token then Some others else behind_other (closer ∷ others) token (closer_of token)
