-- What an answer says of a file of which all or a part was read.
use Rattle.std.specs.Prelude.{◌≡◌, ℕ, ◌+◌, Bool, IsTrue, Option, Some, List, [], ◌++◌, length}
use Rattle.ctokens.specs.InText.{most_bytes}
use Rattle.report.specs.declared.answer.Answer.{Answer}
use Rattle.report.specs.declared.answer.Answer.TheVariants.{Safe, Warned, Spent, Large, NotRead, Construct, NotYet, TooLong, Usage, ReadFault, OutOfMemory}
use Rattle.report.specs.declared.limits.Limits.{Limits}
use Rattle.verdicts.specs.Shown.{AreNames}
use Rattle.verdicts.specs.Verdict.{Judges}

-- the bytes are a whole file: its content, read to its end, where `left` is left of it
abbrev pub IsWhole : Option (List ℕ) → List ℕ → List ℕ → Type 0
IsWhole content left bytes = (content ≡ Some bytes) × (left ≡ [])

-- so many bytes of a file were taken, and no more: `left` is left of its content
abbrev pub IsTaken : Option (List ℕ) → List ℕ → ℕ → Type 0
IsTaken content left taken = (bytes : List ℕ) × (length bytes ≡ taken) × (content ≡ Some (bytes ++ left))

-- an answer with names, found within these limits, is true of a whole file. Where `tells` says that its content is told, that is the content.
abbrev pub IsJudged : Bool → Option (List ℕ) → List ℕ → Limits → List ℕ → List (List ℕ) → Answer → Type 0
IsJudged tells content left limits file names answer =
    (bytes : List ℕ) × (IsTrue tells → IsWhole content left bytes) × Judges limits file bytes answer × AreNames file bytes answer names

-- What an answer with names says of a file with this content, where `left` is left of it: of the whole file, read to
-- its end, or, with `TooLong`, of its first 4,194,305 bytes.
abbrev pub IsAnswered : Bool → Option (List ℕ) → List ℕ → Limits → List ℕ → List (List ℕ) → Answer → Type 0
IsAnswered tells content left limits file names Safe = IsJudged tells content left limits file names Safe
IsAnswered tells content left limits file names (Warned warnings complete) = IsJudged tells content left limits file names (Warned warnings complete)
IsAnswered tells content left limits file names Spent = IsJudged tells content left limits file names Spent
IsAnswered tells content left limits file names Large = IsJudged tells content left limits file names Large
IsAnswered tells content left limits file names (NotRead why) = IsJudged tells content left limits file names (NotRead why)
IsAnswered tells content left limits file names (Construct number place) = IsJudged tells content left limits file names (Construct number place)
IsAnswered tells content left limits file names (NotYet place) = IsJudged tells content left limits file names (NotYet place)
IsAnswered tells content left limits file names (TooLong taken) = (taken ≡ most_bytes + 1) × (IsTrue tells → IsTaken content left taken) × (names ≡ [])
IsAnswered tells content left limits file names Usage = names ≡ []
IsAnswered tells content left limits file names ReadFault = names ≡ []
IsAnswered tells content left limits file names OutOfMemory = names ≡ []
