-- What is shown with an answer of `replay`: the names of the text's files, FILE and CHOICES.
use Rattle.std.specs.Prelude.{◌≡◌, ℕ, true, false, Option, None, Some, List, []}
use Rattle.command_line.specs.declared.replay.ReplayCommand.{ReplayCommand}
use Rattle.ctokens.specs.declared.token.Lexical.{Lexical}
use Rattle.ctokens.specs.TokenList.{IsLexical}
use Rattle.report.specs.declared.answer.Why.TheVariants as why
use Rattle.report.specs.declared.replay_answer.ReplayAnswer.{ReplayAnswer}
use Rattle.report.specs.declared.replay_answer.ReplayAnswer.TheVariants.{Played, BadChoices, NotRead, Construct, TooLong, Usage, ReadFault, OutOfMemory}
use Rattle.verdicts.specs.Shown.{AreTextNames}

-- the names of the files of the whole text, or those up to the first place without a token; none where FILE was not read to its end
abbrev pub AreNames : List ℕ → List ℕ → ReplayAnswer → List (List ℕ) → Type 0
AreNames file bytes (Played what) names = AreTextNames file bytes names
AreNames file bytes BadChoices names = AreTextNames file bytes names
AreNames file bytes (NotRead (why.Lexical place)) names = (lexical : Lexical) × IsLexical file bytes lexical × (names ≡ lexical.names)
AreNames file bytes (NotRead other) names = AreTextNames file bytes names
AreNames file bytes (Construct number place) names = AreTextNames file bytes names
AreNames file bytes (TooLong taken false) names = names ≡ []
AreNames file bytes (TooLong taken true) names = AreTextNames file bytes names
AreNames file bytes Usage names = names ≡ []
AreNames file bytes ReadFault names = names ≡ []
AreNames file bytes OutOfMemory names = names ≡ []

-- FILE and CHOICES, where the words ask for a command; with `Usage` and `OutOfMemory` nothing
abbrev pub file_in : Option ReplayCommand → List ℕ
file_in None = []
file_in (Some command) = command.file

abbrev pub choices_in : Option ReplayCommand → List ℕ
choices_in None = []
choices_in (Some command) = command.choices

abbrev pub unless_nothing : List ℕ → ReplayAnswer → List ℕ
unless_nothing name Usage = []
unless_nothing name OutOfMemory = []
unless_nothing name other = name
