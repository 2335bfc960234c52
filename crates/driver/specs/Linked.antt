-- Items of a list that have one key, listed from the last one back: for each key the number of its last item is known, and for each item that has a key the
-- number of the one before it that has the same.
use Rattle.std.specs.Prelude.{◌≡◌, ℕ, suc, ◌<◌, ◌≤◌, List, Option, None, Some, length, slice_index_or}

-- the item of a number has this key
abbrev pub HasKey : List (Option ℕ) → ℕ → ℕ → Type 0
HasKey keys key number = slice_index_or keys number None ≡ Some key

-- one more than the number of the last item with the key that stands before the one of a number; 0 where there is none
pub record SaysLast (keys : List (Option ℕ)) (key below mark : ℕ) : Type 0 where
  pub all : (number : ℕ) → number < below → HasKey keys key number → number < mark
  pub there : (number : ℕ) → mark ≡ suc number → HasKey keys key number
  pub within : mark ≤ below

-- each key has the mark of its last item, and each item that has a key that of the one before it
pub record AreLinked (keys : List (Option ℕ)) (newest before : List ℕ) : Type 0 where
  pub heads : (key : ℕ) → SaysLast keys key (length keys) (slice_index_or newest key 0)
  pub items : (key number : ℕ) → HasKey keys key number → SaysLast keys key number (slice_index_or before number 0)
  pub long : length before ≡ length keys
