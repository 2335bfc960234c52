-- What is shown with an answer: the names of the text's files, FILE and the limits.
use Rattle.std.specs.Prelude.{◌≡◌, ℕ, Option, None, Some, List, []}
use Rattle.command_line.specs.CommandLine.{default_budget, default_int_limit}
use Rattle.command_line.specs.declared.command.Command.{Command}
use Rattle.ctokens.specs.declared.token.Tokens.{Tokens}
use Rattle.ctokens.specs.declared.token.Lexical.{Lexical}
use Rattle.ctokens.specs.TokenList.{AreTokens, IsLexical}
use Rattle.report.specs.declared.answer.Why.TheVariants as why
use Rattle.report.specs.declared.answer.Answer.{Answer}
use Rattle.report.specs.declared.answer.Answer.TheVariants.{Safe, Warned, Spent, Large, NotRead, Construct, NotYet, TooLong, Usage, ReadFault, OutOfMemory}
use Rattle.report.specs.declared.limits.Limits.{Limits}

-- the names of the files of the text, to which places refer by number
abbrev pub AreTextNames : List ℕ → List ℕ → List (List ℕ) → Type 0
AreTextNames file bytes names = (t : Tokens) × AreTokens file bytes t × (names ≡ t.names)

-- the names that are shown with an answer: those of the whole text, or those up to the first place without a
-- token; none where no text is read to its end
abbrev pub AreNames : List ℕ → List ℕ → Answer → List (List ℕ) → Type 0
AreNames file bytes Safe names = AreTextNames file bytes names
AreNames file bytes (Warned warnings complete) names = AreTextNames file bytes names
AreNames file bytes Spent names = AreTextNames file bytes names
AreNames file bytes Large names = AreTextNames file bytes names
AreNames file bytes (NotRead (why.Lexical place)) names = (lexical : Lexical) × IsLexical file bytes lexical × (names ≡ lexical.names)
AreNames file bytes (NotRead (why.Deep place)) names = AreTextNames file bytes names
AreNames file bytes (NotRead why.NoMain) names = AreTextNames file bytes names
AreNames file bytes (NotRead (why.Syntax place)) names = AreTextNames file bytes names
AreNames file bytes (NotRead (why.Rule number place)) names = AreTextNames file bytes names
AreNames file bytes (Construct number place) names = AreTextNames file bytes names
AreNames file bytes (NotYet place) names = AreTextNames file bytes names
AreNames file bytes (TooLong taken) names = names ≡ []
AreNames file bytes Usage names = names ≡ []
AreNames file bytes ReadFault names = names ≡ []
AreNames file bytes OutOfMemory names = names ≡ []

-- FILE, where the words ask for a command
abbrev pub file_in : Option Command → List ℕ
file_in None = []
file_in (Some command) = command.file

-- the limits of the words, and the default ones where they ask for no command
abbrev pub limits_in : Option Command → Limits
limits_in None = record { budget = default_budget; int_limit = default_int_limit }
limits_in (Some command) = record { budget = command.budget; int_limit = command.int_limit }

-- FILE; with `Usage` and `OutOfMemory` nothing
abbrev pub file_shown : List ℕ → Answer → List ℕ
file_shown file Safe = file
file_shown file (Warned warnings complete) = file
file_shown file Spent = file
file_shown file Large = file
file_shown file (NotRead why) = file
file_shown file (Construct number place) = file
file_shown file (NotYet place) = file
file_shown file (TooLong taken) = file
file_shown file Usage = []
file_shown file ReadFault = file
file_shown file OutOfMemory = []

-- the limits of the words; with `Usage` and `OutOfMemory` the default ones
abbrev pub limits_shown : Limits → Answer → Limits
limits_shown limits Safe = limits
limits_shown limits (Warned warnings complete) = limits
limits_shown limits Spent = limits
limits_shown limits Large = limits
limits_shown limits (NotRead why) = limits
limits_shown limits (Construct number place) = limits
limits_shown limits (NotYet place) = limits
limits_shown limits (TooLong taken) = limits
limits_shown limits Usage = limits_in None
limits_shown limits ReadFault = limits
limits_shown limits OutOfMemory = limits_in None
