-- What an answer of `replay` says of the bytes of FILE and of CHOICES.
use Rattle.std.specs.Prelude.{◌≡◌, ℕ, ◌+◌, ◌≤◌, ◌↔◌, true, false, List, length}
use Rattle.choices.specs.declared.choice.Choice.{Choice}
use Rattle.choices.specs.Format.{SpellsChoices}
use Rattle.command_line.specs.declared.replay.ReplayCommand.{ReplayCommand}
use Rattle.ctokens.specs.InText.{most_bytes}
use Rattle.ctokens.specs.declared.item_span.ItemSpan.{ItemSpan}
use Rattle.ctokens.specs.declared.token.Tokens.{Tokens}
use Rattle.ccheck.specs.Checked.{IsRefused}
use Rattle.ccheck.specs.declared.refusal.Refusal.{Refusal}
use Rattle.ccheck.specs.declared.refusal.Refusal.TheVariants as refusal
use Rattle.c_machine.specs.Program.{Program}
use Rattle.c_machine.specs.Run.{run_of}
use Rattle.c_machine.specs.Trees.{text_of}
use Rattle.report.specs.declared.answer.Why.TheVariants as why
use Rattle.report.specs.declared.replay_answer.Replayed.{Replayed}
use Rattle.report.specs.declared.replay_answer.ReplayAnswer.{ReplayAnswer}
use Rattle.report.specs.declared.replay_answer.ReplayAnswer.TheVariants.{Played, BadChoices, NotRead, Construct, TooLong, Usage, ReadFault, OutOfMemory}
use Rattle.verdicts.specs.Program.{HoldsProgram as Holds, IsRead}
use Rattle.verdicts.specs.Verdict.{HasNoMain, HasNoToken, IsTooDeep}
use Rattle.replay.specs.Program.{what_of}

-- the bytes of FILE have these tokens, and the items that main needs are this program
abbrev pub HoldsProgram : ReplayCommand → List ℕ → Tokens → Program → Type 0
HoldsProgram command bytes t p = Holds command.file bytes command.model command.strict t p

-- the first of the items that main needs that is refused is so for this reason
abbrev pub HasRefused : ReplayCommand → List ℕ → Refusal → Type 0
HasRefused command bytes reason =
    (t : Tokens) × (items : List ItemSpan) × (numbers : List ℕ) × IsRead command.file bytes t items numbers
    × IsRefused t items numbers command.model command.strict reason

-- FILE holds a program
abbrev pub HasProgram : ReplayCommand → List ℕ → Type 0
HasProgram command bytes = (t : Tokens) × (p : Program) × HoldsProgram command bytes t p

-- and CHOICES spells these choices, and with them that is what a run of the program does within the steps of the words
abbrev pub HasPlayed : ReplayCommand → List ℕ → List ℕ → Replayed → Type 0
HasPlayed command bytes second what =
    (t : Tokens) × (p : Program) × (choices : List Choice) × HoldsProgram command bytes t p × SpellsChoices second choices
    × (what_of t (run_of (text_of p) choices command.steps) ≡ what)

-- what an answer says of the bytes of both
abbrev pub Judges : ReplayCommand → List ℕ → List ℕ → ReplayAnswer → Type 0
Judges command bytes second (Played what) = (length second ≤ most_bytes) × HasPlayed command bytes second what
Judges command bytes second BadChoices = (length second ≤ most_bytes) × HasProgram command bytes × ((choices : List Choice) → SpellsChoices second choices → ⊥)
Judges command bytes second (NotRead (why.Lexical place)) = (length bytes ≤ most_bytes) × HasNoToken command.file bytes place
Judges command bytes second (NotRead (why.Deep place)) = (length bytes ≤ most_bytes) × IsTooDeep command.file bytes place
Judges command bytes second (NotRead why.NoMain) = (length bytes ≤ most_bytes) × HasNoMain command.file bytes
Judges command bytes second (NotRead (why.Syntax place)) = (length bytes ≤ most_bytes) × HasRefused command bytes (refusal.Syntax place)
Judges command bytes second (NotRead (why.Rule number place)) = (length bytes ≤ most_bytes) × HasRefused command bytes (refusal.Rule number place)
Judges command bytes second (Construct number place) = (length bytes ≤ most_bytes) × HasRefused command bytes (refusal.Construct number place)
Judges command bytes second (TooLong taken false) = (taken ≡ most_bytes + 1) × (taken ≤ length bytes)
Judges command bytes second (TooLong taken true) = (taken ≡ most_bytes + 1) × (taken ≤ length second) × HasProgram command bytes
Judges command bytes second Usage = Unit {0}
Judges command bytes second ReadFault = Unit {0}
Judges command bytes second OutOfMemory = Unit {0}

-- the answer says something of the files
abbrev pub IsVerdict : ReplayAnswer → Type 0
IsVerdict (Played what) = Unit {0}
IsVerdict BadChoices = Unit {0}
IsVerdict (NotRead why) = Unit {0}
IsVerdict (Construct number place) = Unit {0}
IsVerdict (TooLong taken second) = Unit {0}
IsVerdict Usage = ⊥
IsVerdict ReadFault = ⊥
IsVerdict OutOfMemory = ⊥

-- of all answers that say something of the files, this one alone is true of their bytes
pub record IsExact (command : ReplayCommand) (bytes second : List ℕ) (answer : ReplayAnswer) : Type 0 where
  pub only : (other : ReplayAnswer) → IsVerdict other → (answer ≡ other) ↔ Judges command bytes second other
