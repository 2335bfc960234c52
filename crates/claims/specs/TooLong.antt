-- What it means that a text is too long.
use Rattle.std.specs.Prelude.{◌≡◌, ℕ, ◌<◌, Bool, IsTrue, Option, Some, List, length}
use Rattle.ctokens.specs.InText.{most_bytes}

-- where the content of files is told, that of the file has more bytes than are read
abbrev pub MeansTooLong : Bool → Option (List ℕ) → Type 0
MeansTooLong tells content = IsTrue tells → (bytes : List ℕ) × (content ≡ Some bytes) × (most_bytes < length bytes)
