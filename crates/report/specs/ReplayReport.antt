-- The report on a run with given choices, line by line, and its exit status.
use Rattle.std.specs.Prelude.{ℕ, ◌<◌, Bool, List, [], ◌∷◌, ◌++◌, length, codes, if◌then◌else◌}
use Rattle.cbase.specs.declared.place.Place.{Place}
use Rattle.cbase.specs.Refused.{IsConstruct}
use Rattle.report.specs.declared.replay_answer.Replayed.{Replayed}
use Rattle.report.specs.declared.replay_answer.Replayed.TheVariants.{Fault, Ended, Waits, Running, Stuck}
use Rattle.report.specs.declared.replay_answer.ReplayAnswer.{ReplayAnswer}
use Rattle.report.specs.declared.replay_answer.ReplayAnswer.TheVariants.{Played, BadChoices, NotRead, Construct, TooLong, Usage, ReadFault, OutOfMemory}
use Rattle.report.specs.declared.replay_answer.ReplayShown.{ReplayShown}
use Rattle.report.specs.Report.{HasPlace, construct_line, kind_phrase, lines_text, place_text, usage_line, why_line}

-- `file:line:column: TEXT [k]`
abbrev pub fault_line : List (List ℕ) → ℕ → Place → List ℕ
fault_line names kind place = place_text names place ++ (codes ": " ++ kind_phrase kind)

-- what the run comes to
abbrev pub replayed_line : List ℕ → List (List ℕ) → Replayed → List ℕ
replayed_line file names (Fault kind place) = fault_line names kind place
replayed_line file names Ended = file ++ codes ": ended"
replayed_line file names Waits = file ++ codes ": waits"
replayed_line file names Running = file ++ codes ": still running"
replayed_line file names Stuck = file ++ codes ": gave up: no step"

-- `FILE: not read: over 4194304 bytes`, of the file that is too long
abbrev pub too_long_line : List ℕ → List ℕ → Bool → List ℕ
too_long_line file choices second = (if second then choices else file) ++ codes ": not read: over 4194304 bytes"

-- the lines of an answer about a file and a file of choices
abbrev pub replay_lines : List ℕ → List ℕ → List (List ℕ) → ReplayAnswer → List (List ℕ)
replay_lines file choices names (Played what) = replayed_line file names what ∷ []
replay_lines file choices names BadChoices = (choices ++ codes ": no choices") ∷ []
replay_lines file choices names (NotRead why) = why_line file names why ∷ []
replay_lines file choices names (Construct number place) = construct_line file names number place ∷ []
replay_lines file choices names (TooLong taken second) = too_long_line file choices second ∷ []
replay_lines file choices names Usage = usage_line ∷ []
replay_lines file choices names ReadFault = []
replay_lines file choices names OutOfMemory = []

-- the report of an answer
abbrev pub replay_bytes : ReplayShown → List ℕ
replay_bytes shown = lines_text (replay_lines shown.file shown.choices shown.names shown.answer)

-- the file of a fault's place has a name
abbrev pub HasPrintableRun : List (List ℕ) → Replayed → Type 0
HasPrintableRun names (Fault kind place) = place.file < length names
HasPrintableRun names Ended = Unit {0}
HasPrintableRun names Waits = Unit {0}
HasPrintableRun names Running = Unit {0}
HasPrintableRun names Stuck = Unit {0}

-- each place that is printed has a name for its file, and each construct is one
abbrev pub HasPrintableReplay : List (List ℕ) → ReplayAnswer → Type 0
HasPrintableReplay names (Played what) = HasPrintableRun names what
HasPrintableReplay names BadChoices = Unit {0}
HasPrintableReplay names (NotRead why) = HasPlace names why
HasPrintableReplay names (Construct number place) = IsConstruct number × (place.file < length names)
HasPrintableReplay names (TooLong taken second) = Unit {0}
HasPrintableReplay names Usage = Unit {0}
HasPrintableReplay names ReadFault = Unit {0}
HasPrintableReplay names OutOfMemory = Unit {0}

-- the exit status of what a run comes to
abbrev pub status_of_run : Replayed → ℕ
status_of_run (Fault kind place) = 1
status_of_run Ended = 0
status_of_run Waits = 2
status_of_run Running = 2
status_of_run Stuck = 2

-- the exit status of an answer that was written whole
abbrev pub replay_status_of : ReplayAnswer → ℕ
replay_status_of (Played what) = status_of_run what
replay_status_of BadChoices = 3
replay_status_of (NotRead why) = 3
replay_status_of (Construct number place) = 2
replay_status_of (TooLong taken second) = 3
replay_status_of Usage = 4
replay_status_of ReadFault = 5
replay_status_of OutOfMemory = 7
