-- Rows in which brackets are closed, whatever the kinds of the two: a `(` may be closed by a `]`.
use Rattle.std.specs.Prelude.{ℕ, suc, Bool, ◌||◌, not, IsTrue, List, [], ◌∷◌, ◌++◌, codes}
use Rattle.cgrammar.specs.Terminals.{Terminal, is_mark}

-- the token opens a bracket of one of the three kinds
abbrev pub opens : Terminal → Bool
opens token = is_mark (codes "(") token || (is_mark (codes "[") token || is_mark (codes "{") token)

-- the token closes a bracket of one of the three kinds
abbrev pub closes : Terminal → Bool
closes token = is_mark (codes ")") token || (is_mark (codes "]") token || is_mark (codes "}") token)

-- each bracket that opens in the row is closed in it, and each that closes in it was opened in it
pub data AreClosed : List Terminal → Type 0 where
  NothingMore : AreClosed []
  NoBracket : {rest : List Terminal} (token : Terminal) → IsTrue (not (opens token)) → IsTrue (not (closes token)) → AreClosed rest → AreClosed (token ∷ rest)
  InBrackets : {inside rest : List Terminal} (opening closing : Terminal) → IsTrue (opens opening) → AreClosed inside → IsTrue (closes closing) → AreClosed rest
      → AreClosed (opening ∷ (inside ++ (closing ∷ rest)))

-- so many brackets that open in the row are still open behind it, and all others are closed in it
pub data LeaveOpen : ℕ → List Terminal → Type 0 where
  NoneOpen : {row : List Terminal} → AreClosed row → LeaveOpen 0 row
  OneOpen : {front rest : List Terminal} {count : ℕ} (opening : Terminal) → AreClosed front → IsTrue (opens opening) → LeaveOpen count rest
      → LeaveOpen (suc count) (front ++ (opening ∷ rest))
