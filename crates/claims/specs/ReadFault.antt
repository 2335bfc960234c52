-- What a read fault means.
use Rattle.std.specs.Prelude.{◌≡◌, ℕ, Bool, true, Some, List}
use Rattle.command_line.specs.CommandLine.{file_of}
use Rattle.outside.specs.Faults.{Rose}

-- the count of faults of the files rose, their last call failed, and the file that was opened last is that of the words
abbrev pub MeansReadFault : List (List ℕ) → ℕ → ℕ → Bool → List ℕ → Type 0
MeansReadFault words before after failed begun = Rose before after × (failed ≡ true) × (file_of words ≡ Some begun)
