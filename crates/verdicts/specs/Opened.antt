-- Which file is opened before an answer: the one that the words name, and no other.
use Rattle.std.specs.Prelude.{◌≡◌, ◌⊎◌, ℕ, List}
use Rattle.outside.specs.Opened.{Openings, opened}

-- exactly the file of this name was opened, once
abbrev pub IsOpened : Openings → Openings → List ℕ → Type 0
IsOpened before after name = after ≡ opened before name

-- or no file
abbrev pub IsOpenedAtMost : Openings → Openings → List ℕ → Type 0
IsOpenedAtMost before after name = (after ≡ before) ⊎ IsOpened before after name
