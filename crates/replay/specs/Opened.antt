-- Which of the two files are opened, and which one last: CHOICES only where FILE holds a program.
use Rattle.std.specs.Prelude.{◌≡◌, ◌⊎◌, ℕ, Bool, true, false, Option, List}
use Rattle.command_line.specs.declared.replay.ReplayCommand.{ReplayCommand}
use Rattle.outside.specs.Opened.{Openings, opened}
use Rattle.report.specs.declared.replay_answer.ReplayAnswer.{ReplayAnswer}
use Rattle.report.specs.declared.replay_answer.ReplayAnswer.TheVariants.{Played, BadChoices, NotRead, Construct, TooLong, Usage, ReadFault, OutOfMemory}
use Rattle.replay.specs.Answered.{AreBytesOf}
use Rattle.replay.specs.Judged.{HasProgram}

-- the answer is about FILE alone
abbrev pub IsOfFileAlone : ReplayAnswer → Type 0
IsOfFileAlone (Played what) = ⊥
IsOfFileAlone BadChoices = ⊥
IsOfFileAlone (NotRead reason) = Unit {0}
IsOfFileAlone (Construct number place) = Unit {0}
IsOfFileAlone (TooLong taken false) = Unit {0}
IsOfFileAlone (TooLong taken true) = ⊥
IsOfFileAlone Usage = ⊥
IsOfFileAlone ReadFault = ⊥
IsOfFileAlone OutOfMemory = ⊥

-- a FILE with this content holds a program
abbrev pub HasProgramIn : Bool → Option (List ℕ) → ReplayCommand → Type 0
HasProgramIn tells content command = (bytes : List ℕ) × AreBytesOf tells content bytes × HasProgram command bytes

-- the file of this name is the last one that is opened before an answer about a FILE with this content: FILE where the answer is about FILE alone, CHOICES where
-- it is about both, and where one of them cannot be read that one, CHOICES only where FILE holds a program
abbrev pub IsOpenedLast : Bool → Option (List ℕ) → ReplayCommand → List ℕ → ReplayAnswer → Type 0
IsOpenedLast tells content command name (Played what) = name ≡ command.choices
IsOpenedLast tells content command name BadChoices = name ≡ command.choices
IsOpenedLast tells content command name (NotRead reason) = name ≡ command.file
IsOpenedLast tells content command name (Construct number place) = name ≡ command.file
IsOpenedLast tells content command name (TooLong taken false) = name ≡ command.file
IsOpenedLast tells content command name (TooLong taken true) = name ≡ command.choices
IsOpenedLast tells content command name Usage = Unit {0}
IsOpenedLast tells content command name ReadFault = (name ≡ command.file) ⊎ ((name ≡ command.choices) × HasProgramIn tells content command)
IsOpenedLast tells content command name OutOfMemory = Unit {0}

-- FILE was opened, once, and then CHOICES, once, and FILE holds a program
abbrev pub AreBothOpened : Bool → Option (List ℕ) → ReplayCommand → Openings → Openings → Type 0
AreBothOpened tells content command before after = (after ≡ opened (opened before command.file) command.choices) × HasProgramIn tells content command

-- these files are opened for an answer about a FILE with this content, each once: FILE where the answer is about FILE alone, FILE and then CHOICES where it is about
-- both; where one of them cannot be read that one is the last, and where memory is wanting no more than these are
abbrev pub AreOpened : Bool → Option (List ℕ) → ReplayCommand → Openings → Openings → ReplayAnswer → Type 0
AreOpened tells content command before after (Played what) = AreBothOpened tells content command before after
AreOpened tells content command before after BadChoices = AreBothOpened tells content command before after
AreOpened tells content command before after (NotRead reason) = after ≡ opened before command.file
AreOpened tells content command before after (Construct number place) = after ≡ opened before command.file
AreOpened tells content command before after (TooLong taken false) = after ≡ opened before command.file
AreOpened tells content command before after (TooLong taken true) = AreBothOpened tells content command before after
AreOpened tells content command before after Usage = after ≡ before
AreOpened tells content command before after ReadFault = (after ≡ opened before command.file) ⊎ AreBothOpened tells content command before after
AreOpened tells content command before after OutOfMemory =
    (after ≡ before) ⊎ ((after ≡ opened before command.file) ⊎ AreBothOpened tells content command before after)
