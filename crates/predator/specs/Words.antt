-- Which of its two commands the words ask for.
use Rattle.std.specs.Prelude.{ℕ, Bool, false, List, [], ◌∷◌, codes}
use Rattle.std.specs.Str.{bytes_eq}

-- the first word is `replay`
abbrev pub asks_for_replay : List (List ℕ) → Bool
asks_for_replay [] = false
asks_for_replay (word ∷ rest) = bytes_eq word (codes "replay")
