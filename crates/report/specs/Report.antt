-- The report, line by line, and the exit status.
use Rattle.std.specs.Prelude.{ℕ, ◌<◌, Bool, List, [], ◌∷◌, ◌++◌, map, length, codes, slice_get, unwrap_or, if◌then◌else◌}
use Rattle.std.specs.List.{All}
use Rattle.std.specs.Fmt.{decimal}
use Rattle.cbase.specs.declared.place.Place.{Place}
use Rattle.report.specs.declared.warning.Warning.{Warning}
use Rattle.report.specs.declared.answer.Answer.{Answer}
use Rattle.report.specs.declared.answer.Why.{Why}
use Rattle.report.specs.declared.answer.Why.TheVariants.{Lexical, Deep, NoMain, Syntax, Rule}
use Rattle.report.specs.declared.answer.Answer.TheVariants.{Safe, Warned, Spent, Large, NotRead, Construct, NotYet, TooLong, Usage, ReadFault, OutOfMemory}
use Rattle.report.specs.declared.answer.Shown.{Shown}
use Rattle.cbase.specs.Refused.{IsConstruct}
use Rattle.report.specs.Construct.{construct_name}
use Rattle.report.specs.Kind.{kind_text}

-- `file:line:column`, with the name of the place's file
abbrev pub place_text : List (List ℕ) → Place → List ℕ
place_text names place =
    unwrap_or (slice_get names place.file) [] ++ (codes ":" ++ (decimal place.line ++ (codes ":" ++ decimal place.column)))

-- `error` where a run is known that meets the fault, and else `warning`
abbrev pub severity : Bool → List ℕ
severity error = if error then codes "error" else codes "warning"

-- `TEXT [k]`
abbrev pub kind_phrase : ℕ → List ℕ
kind_phrase kind = kind_text kind ++ (codes " [" ++ (decimal kind ++ codes "]"))

-- `file:line:column: error: TEXT [k]`
abbrev pub warning_line : List (List ℕ) → Warning → List ℕ
warning_line names warning =
    place_text names warning.place ++ (codes ": " ++ (severity warning.error ++ (codes ": " ++ kind_phrase warning.kind)))

-- `FILE: not read: rule R at file:line:column`
abbrev pub rule_line : List ℕ → List (List ℕ) → ℕ → Place → List ℕ
rule_line file names number place = file ++ (codes ": not read: rule " ++ (decimal number ++ (codes " at " ++ place_text names place)))

-- why a file is not read
abbrev pub why_line : List ℕ → List (List ℕ) → Why → List ℕ
why_line file names (Lexical place) = file ++ (codes ": not read: no token at " ++ place_text names place)
why_line file names (Deep place) = file ++ (codes ": not read: too deep at " ++ place_text names place)
why_line file names NoMain = file ++ codes ": not read: no main"
why_line file names (Syntax place) = file ++ (codes ": not read: syntax at " ++ place_text names place)
why_line file names (Rule number place) = rule_line file names number place

-- `FILE: gave up: NAME at file:line:column`
abbrev pub construct_line : List ℕ → List (List ℕ) → ℕ → Place → List ℕ
construct_line file names number place = file ++ (codes ": gave up: " ++ (construct_name number ++ (codes " at " ++ place_text names place)))

-- what is answered to words of another form, whatever command they begin with
abbrev pub usage_line : List ℕ
usage_line = codes "usage: predator [--budget N] [--int-limit K] FILE"

-- `budget of N states spent`
abbrev pub budget_phrase : ℕ → List ℕ
budget_phrase budget = codes "budget of " ++ (decimal budget ++ codes " states spent")

-- the line behind the warnings: `FILE: warned`, or `FILE: warned, budget of N states spent`
abbrev pub warned_phrase : ℕ → Bool → List ℕ
warned_phrase budget complete = if complete then codes ": warned" else codes ": warned, " ++ budget_phrase budget

abbrev pub warned_line : List ℕ → ℕ → Bool → List ℕ
warned_line file budget complete = file ++ warned_phrase budget complete

-- `FILE: gave up: budget of N states spent`
abbrev pub spent_line : List ℕ → ℕ → List ℕ
spent_line file budget = file ++ (codes ": gave up: " ++ budget_phrase budget)

-- `FILE: not read: not yet at file:line:column`
abbrev pub not_yet_line : List ℕ → List (List ℕ) → Place → List ℕ
not_yet_line file names place = file ++ (codes ": not read: not yet at " ++ place_text names place)

-- the lines of an answer about a file, found within a budget
abbrev pub answer_lines : List ℕ → List (List ℕ) → ℕ → Answer → List (List ℕ)
answer_lines file names budget Safe = (file ++ codes ": safe") ∷ []
answer_lines file names budget (Warned warnings complete) = map (warning_line names) warnings ++ warned_line file budget complete ∷ []
answer_lines file names budget Spent = spent_line file budget ∷ []
answer_lines file names budget Large = (file ++ codes ": gave up: state too large") ∷ []
answer_lines file names budget (NotRead why) = why_line file names why ∷ []
answer_lines file names budget (Construct number place) = construct_line file names number place ∷ []
answer_lines file names budget (NotYet place) = not_yet_line file names place ∷ []
answer_lines file names budget (TooLong taken) = (file ++ codes ": not read: over 4194304 bytes") ∷ []
answer_lines file names budget Usage = usage_line ∷ []
answer_lines file names budget ReadFault = []
answer_lines file names budget OutOfMemory = []

-- the lines in a row, each with a newline at its end
abbrev pub lines_text : List (List ℕ) → List ℕ
lines_text [] = []
lines_text (line ∷ rest) = line ++ (codes "\n" ++ lines_text rest)

-- the report of an answer
abbrev pub report_bytes : Shown → List ℕ
report_bytes shown = lines_text (answer_lines shown.file shown.names shown.limits.budget shown.answer)

-- what a warning must be for its line to be printed: its file has a name
pub record IsPrintable (names : List (List ℕ)) (warning : Warning) : Type 0 where
  pub named : warning.place.file < length names

-- the file of the place that is told has a name
abbrev pub HasPlace : List (List ℕ) → Why → Type 0
HasPlace names (Lexical place) = place.file < length names
HasPlace names (Deep place) = place.file < length names
HasPlace names NoMain = Unit {0}
HasPlace names (Syntax place) = place.file < length names
HasPlace names (Rule number place) = place.file < length names

-- each place that is printed has a name for its file, and each construct is one
abbrev pub HasPrintable : List (List ℕ) → Answer → Type 0
HasPrintable names Safe = Unit {0}
HasPrintable names (Warned warnings complete) = All (IsPrintable names) warnings
HasPrintable names Spent = Unit {0}
HasPrintable names Large = Unit {0}
HasPrintable names (NotRead why) = HasPlace names why
HasPrintable names (Construct number place) = IsConstruct number × (place.file < length names)
HasPrintable names (NotYet place) = place.file < length names
HasPrintable names (TooLong taken) = Unit {0}
HasPrintable names Usage = Unit {0}
HasPrintable names ReadFault = Unit {0}
HasPrintable names OutOfMemory = Unit {0}

-- the exit status of an answer that was written whole
abbrev pub status_of : Answer → ℕ
status_of Safe = 0
status_of (Warned warnings complete) = 1
status_of Spent = 2
status_of Large = 2
status_of (NotRead why) = 3
status_of (Construct number place) = 2
status_of (NotYet place) = 3
status_of (TooLong taken) = 3
status_of Usage = 4
status_of ReadFault = 5
status_of OutOfMemory = 7
