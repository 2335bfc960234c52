-- All that is said of an answer about a FILE with these bytes, by what the calls that read the files tell of them.
use Rattle.std.specs.Prelude.{◌≡◌, ℕ, Bool, true, IfOk, OnErr, Option, Result, List}
use Rattle.command_line.specs.declared.replay.ReplayCommand.{ReplayCommand}
use Rattle.outside.specs.Faults.{Rose}
use Rattle.outside.specs.Opened.{Openings, opened}
use Rattle.report.specs.ReplayReport.{HasPrintableReplay}
use Rattle.report.specs.declared.replay_answer.ReplayAnswer.{ReplayAnswer}
use Rattle.report.specs.declared.replay_answer.ReplayAnswer.TheVariants.{ReadFault, OutOfMemory}
use Rattle.replay.specs.declared.judging.Answered.{Answered}
use Rattle.replay.specs.Answered.{AreBytesOf, IsAnswered}
use Rattle.replay.specs.Opened.{AreOpened, IsOpenedLast}
use Rattle.replay.specs.Told.{IsAboutFiles}

-- whether contents are told, what CHOICES holds where they are, how many faults of reading there were before and are behind, whether the file that was
-- opened last failed, and which openings were counted where FILE was read, and are behind
pub record Around : Type 0 where
  pub tells : Bool
  pub choices : Option (List ℕ)
  pub faults : ℕ
  pub faults_behind : ℕ
  pub failed : Bool
  pub openings : Openings
  pub openings_behind : Openings

-- where FILE with these bytes was opened first, and behind it what is counted `behind`, these are the files that the answer asks for
abbrev pub OpensFor : Bool → Openings → Openings → ReplayCommand → List ℕ → ReplayAnswer → Type 0
OpensFor tells first behind command bytes answer =
    (before : Openings) (content : Option (List ℕ)) → first ≡ opened before command.file → AreBytesOf tells content bytes
    → AreOpened tells content command before behind answer

-- it is about files and can be printed; a fault of reading was counted, and the last file failed; the file that was opened last is the one that it asks for, and so
-- are all that were opened; and it is true of FILE and of CHOICES
pub record IsAnswerOf (around : Around) (command : ReplayCommand) (bytes : List ℕ) (answered : Answered) : Type 0 where
  pub about : IsAboutFiles answered.answer
  pub printable : HasPrintableReplay answered.names answered.answer
  pub rose : answered.answer ≡ ReadFault → Rose around.faults around.faults_behind
  pub failed : answered.answer ≡ ReadFault → around.failed ≡ true
  pub opened : (content : Option (List ℕ)) → AreBytesOf around.tells content bytes
      → IsOpenedLast around.tells content command around.openings_behind.last answered.answer
  pub all_opened : OpensFor around.tells around.openings around.openings_behind command bytes answered.answer
  pub judged : (content : Option (List ℕ)) → AreBytesOf around.tells content bytes
      → IsAnswered around.tells content around.choices command answered.names answered.answer

-- such an answer is given, or memory is wanting, and no more files were opened than an answer asks for
abbrev pub IsOutcomeOf : {E : Type 0} → Around → ReplayCommand → List ℕ → Result Answered E → Type 0
IsOutcomeOf around command bytes result =
    IfOk result (IsAnswerOf around command bytes) × OnErr result (OpensFor around.tells around.openings around.openings_behind command bytes OutOfMemory)
