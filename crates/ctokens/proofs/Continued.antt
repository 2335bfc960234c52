-- How many bytes go on with a number, found byte by byte.
use Rattle.std.specs.Prelude.{◌≡◌, ℕ, ◌+◌, List, drop}
use Rattle.ctokens.specs.Lengths.{continued_length}

-- the bytes so far go on with the number, and what is left decides how many more do
abbrev pub GoesOn : ℕ → List ℕ → ℕ → ℕ → Type 0
GoesOn before text index last = continued_length before text ≡ index + continued_length last (drop index text)
