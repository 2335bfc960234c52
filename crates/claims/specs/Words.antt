-- What the usage line means.
use Rattle.std.specs.Prelude.{◌≡◌, ℕ, None, List}
use Rattle.command_line.specs.CommandLine.{file_of}

-- the words do not have the form of a command
abbrev pub MeansUsage : List (List ℕ) → Type 0
MeansUsage words = file_of words ≡ None
