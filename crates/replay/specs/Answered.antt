-- What an answer of `replay` says of files of which all or a part was read.
use Rattle.std.specs.Prelude.{◌≡◌, ℕ, ◌+◌, Bool, true, false, IsTrue, Option, Some, List, [], ◌++◌, length}
use Rattle.command_line.specs.declared.replay.ReplayCommand.{ReplayCommand}
use Rattle.ctokens.specs.InText.{most_bytes}
use Rattle.report.specs.declared.replay_answer.ReplayAnswer.{ReplayAnswer}
use Rattle.report.specs.declared.replay_answer.ReplayAnswer.TheVariants.{Played, BadChoices, NotRead, Construct, TooLong, Usage, ReadFault, OutOfMemory}
use Rattle.replay.specs.Judged.{HasProgram, Judges}
use Rattle.replay.specs.Shown.{AreNames}

-- the bytes are those of a file with this content, where `tells` says that its content is told
abbrev pub AreBytesOf : Bool → Option (List ℕ) → List ℕ → Type 0
AreBytesOf tells content bytes = IsTrue tells → content ≡ Some bytes

-- so many bytes of a file were taken, and it has them
abbrev pub HasTaken : Bool → Option (List ℕ) → ℕ → Type 0
HasTaken tells content taken = IsTrue tells → (bytes : List ℕ) × (rest : List ℕ) × (length bytes ≡ taken) × (content ≡ Some (bytes ++ rest))

-- an answer with names is true of FILE, whatever is in CHOICES; and of both
abbrev pub IsOfFile : Bool → Option (List ℕ) → ReplayCommand → List (List ℕ) → ReplayAnswer → Type 0
IsOfFile tells content command names answer =
    (bytes : List ℕ) × AreBytesOf tells content bytes × ((second : List ℕ) → Judges command bytes second answer) × AreNames command.file bytes answer names

abbrev pub IsOfBoth : Bool → Option (List ℕ) → Option (List ℕ) → ReplayCommand → List (List ℕ) → ReplayAnswer → Type 0
IsOfBoth tells content other command names answer =
    (bytes : List ℕ) × (second : List ℕ) × AreBytesOf tells content bytes × AreBytesOf tells other second × Judges command bytes second answer
    × AreNames command.file bytes answer names

-- what an answer says of FILE and of CHOICES with these contents
abbrev pub IsAnswered : Bool → Option (List ℕ) → Option (List ℕ) → ReplayCommand → List (List ℕ) → ReplayAnswer → Type 0
IsAnswered tells content other command names (Played what) = IsOfBoth tells content other command names (Played what)
IsAnswered tells content other command names BadChoices = IsOfBoth tells content other command names BadChoices
IsAnswered tells content other command names (NotRead why) = IsOfFile tells content command names (NotRead why)
IsAnswered tells content other command names (Construct number place) = IsOfFile tells content command names (Construct number place)
IsAnswered tells content other command names (TooLong taken false) = (taken ≡ most_bytes + 1) × HasTaken tells content taken × (names ≡ [])
IsAnswered tells content other command names (TooLong taken true) =
    (taken ≡ most_bytes + 1) × HasTaken tells other taken
    × ((bytes : List ℕ) × AreBytesOf tells content bytes × HasProgram command bytes × AreNames command.file bytes (TooLong taken true) names)
IsAnswered tells content other command names Usage = names ≡ []
IsAnswered tells content other command names ReadFault = names ≡ []
IsAnswered tells content other command names OutOfMemory = names ≡ []
