-- Numbers for words.
use Rattle.std.specs.Prelude.{◌≡◌, ℕ, ◌<◌, ◌≤◌, Option, None, Some, List, [], ◌∷◌, map, length}
use Rattle.std.specs.List.{All, slice_index_or}

-- the name of that number
abbrev pub name_at : List (List ℕ) → ℕ → List ℕ
name_at names number = slice_index_or names number []

-- the number of a word where it is the empty one, which has the number `blank` if it has one
abbrev pub known : Option ℕ → List ℕ → Option ℕ
known blank [] = blank
known blank (byte ∷ bytes) = None

-- the number of the empty word, if it has one, where a word has this number
abbrev pub blank_behind : Option ℕ → List ℕ → ℕ → Option ℕ
blank_behind blank [] number = Some number
blank_behind blank (byte ∷ bytes) number = blank

-- there are so many names, no two alike, and each word is the name of its number
pub record IsNumbering (words : List (List ℕ)) (numbers : List ℕ) (count : ℕ) : Type 0 where
  pub names : List (List ℕ)
  pub counted : length names ≡ count
  pub below : All (λ number. number < count) numbers
  pub named : map (name_at names) numbers ≡ words
  pub apart : (i j : ℕ) → i < count → j < count → name_at names i ≡ name_at names j → i ≡ j
  pub few : count ≤ length words
