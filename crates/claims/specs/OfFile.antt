-- What is said of the bytes of a file that was read to its end.
use Rattle.std.specs.Prelude.{◌≡◌, ℕ, Bool, IsTrue, Option, Some, List}

-- that is so of the bytes that were read. Where `tells` says that the content of files is told, they are the content of the file.
abbrev pub OfFile : Bool → Option (List ℕ) → (List ℕ → Type 0) → Type 0
OfFile tells content Means = (bytes : List ℕ) × (IsTrue tells → content ≡ Some bytes) × Means bytes
