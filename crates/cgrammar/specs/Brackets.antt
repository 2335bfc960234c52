-- Rows in which brackets are matched by kind.
use Rattle.std.specs.Prelude.{Bool, ◌||◌, not, IsTrue, ◌⊎◌, List, [], ◌∷◌, ◌++◌, codes}
use Rattle.cgrammar.specs.Terminals.{Terminal, is_mark, IsMark}

-- a bracket of any kind, open or closing
abbrev pub is_bracket : Terminal → Bool
is_bracket token =
    is_mark (codes "(") token || is_mark (codes ")") token || is_mark (codes "[") token
    || is_mark (codes "]") token || is_mark (codes "{") token || is_mark (codes "}") token

-- brackets of one kind
abbrev pub ArePair : Terminal → Terminal → Type 0
ArePair opening closing =
    (IsMark (codes "(") opening × IsMark (codes ")") closing)
    ⊎ ((IsMark (codes "[") opening × IsMark (codes "]") closing) ⊎ (IsMark (codes "{") opening × IsMark (codes "}") closing))

-- each bracket of the row closes one of its kind or is closed by one, and no two pairs cross
pub data AreMatched : List Terminal → Type 0 where
  NothingMore : AreMatched []
  NoBracket : {rest : List Terminal} (token : Terminal) → IsTrue (not (is_bracket token)) → AreMatched rest → AreMatched (token ∷ rest)
  InBrackets : {inside rest : List Terminal} (opening closing : Terminal) → ArePair opening closing → AreMatched inside → AreMatched rest
      → AreMatched (opening ∷ (inside ++ (closing ∷ rest)))
