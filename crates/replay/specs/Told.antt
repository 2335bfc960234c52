-- What is known of FILE before CHOICES is read: its program with its types, or an answer that is true whatever is in CHOICES.
use Rattle.std.specs.Prelude.{◌≡◌, ℕ, ◌≤◌, Bool, Ok, Some, List, length}
use Rattle.std.specs.List.{All}
use Rattle.cbase.specs.declared.tree.item.Item.{Item}
use Rattle.command_line.specs.declared.replay.ReplayCommand.{ReplayCommand}
use Rattle.ctokens.specs.InText.{most_bytes}
use Rattle.ctokens.specs.Items.{IsInside, IsItems}
use Rattle.ctokens.specs.ItemRows.{item_rows}
use Rattle.ctokens.specs.Need.{IsNeed}
use Rattle.ctokens.specs.TokenList.{AreTokens, HasNamedFiles}
use Rattle.ctokens.specs.declared.item_span.ItemSpan.{ItemSpan}
use Rattle.ctokens.specs.declared.token.Tokens.{Tokens}
use Rattle.expressions.specs.Context.{Agrees, Context}
use Rattle.expressions.specs.Numbers.{Numbering}
use Rattle.items.specs.languages.LeadsBack.{LeadsBack}
use Rattle.ccheck.specs.Checked.{IsTyped}
use Rattle.ccheck.specs.declared.program.TypedProgram.{TypedProgram}
use Rattle.ccheck.specs.declared.refusal.Refusal.{Refusal}
use Rattle.ccheck.specs.declared.refusal.Refusal.TheVariants as refusal
use Rattle.report.specs.ReplayReport.{HasPrintableReplay}
use Rattle.report.specs.declared.answer.Why.TheVariants as why
use Rattle.report.specs.declared.replay_answer.ReplayAnswer.{ReplayAnswer}
use Rattle.report.specs.declared.replay_answer.ReplayAnswer.TheVariants.{Played, BadChoices, NotRead, Construct, TooLong, Usage, ReadFault, OutOfMemory}
use Rattle.verdicts.specs.Program.{IsRead}
use Rattle.replay.specs.declared.judging.Answered.{Answered}
use Rattle.replay.specs.declared.judging.JudgedFile.{JudgedFile}
use Rattle.replay.specs.declared.judging.JudgedFile.TheVariants.{Holds, Refused}
use Rattle.replay.specs.declared.judging.Needed.{Needed}
use Rattle.replay.specs.declared.judging.Needed.TheVariants.{Items, None as NoItems}
use Rattle.replay.specs.Judged.{Judges}
use Rattle.replay.specs.Shown.{AreNames}

-- the text of these tokens is that of FILE, each item that main needs is read and passes, and that is found of them. Some numbering reads the numbers of
-- types in it, and has a number for every type
pub record HoldsTyped (command : ReplayCommand) (t : Tokens) (typed : TypedProgram) : Type 0 where
  pub items : List ItemSpan
  pub numbers : List ℕ
  pub is_short : length t.text ≤ most_bytes
  pub is_read : IsRead command.file t.text t items numbers
  pub is_typed : IsTyped t items numbers command.model command.strict typed
  pub numbering : Numbering
  pub agrees : Agrees numbering typed.context
  pub leads_back : LeadsBack numbering

-- these are the items of such a program, what typing hands on of them, and whether an allocated block that lives when main returns is a fault
pub record HoldsProgramOf (command : ReplayCommand) (t : Tokens) (items : List Item) (text : Context) (strict : Bool) : Type 0 where
  pub typed : TypedProgram
  pub holds : HoldsTyped command t typed
  pub items_are : items ≡ typed.program
  pub text_is : text ≡ typed.context
  pub strict_is : strict ≡ typed.strict

-- the answer is true of the bytes of both files, its names are those of FILE's text, and it can be printed
pub record IsTold (command : ReplayCommand) (bytes second : List ℕ) (answered : Answered) : Type 0 where
  pub judged : Judges command bytes second answered.answer
  pub named : AreNames command.file bytes answered.answer answered.names
  pub printable : HasPrintableReplay answered.names answered.answer

-- the answer is about FILE alone, which was read to its end
abbrev pub IsAboutFile : ReplayAnswer → Type 0
IsAboutFile (Played what) = ⊥
IsAboutFile BadChoices = ⊥
IsAboutFile (NotRead reason) = Unit {0}
IsAboutFile (Construct number place) = Unit {0}
IsAboutFile (TooLong taken second) = ⊥
IsAboutFile Usage = ⊥
IsAboutFile ReadFault = ⊥
IsAboutFile OutOfMemory = ⊥

-- or about both files, of which each was read to its end
abbrev pub IsAboutBoth : ReplayAnswer → Type 0
IsAboutBoth (Played what) = Unit {0}
IsAboutBoth BadChoices = Unit {0}
IsAboutBoth (NotRead reason) = ⊥
IsAboutBoth (Construct number place) = ⊥
IsAboutBoth (TooLong taken second) = ⊥
IsAboutBoth Usage = ⊥
IsAboutBoth ReadFault = ⊥
IsAboutBoth OutOfMemory = ⊥

-- or about files in any way
abbrev pub IsAboutFiles : ReplayAnswer → Type 0
IsAboutFiles (Played what) = Unit {0}
IsAboutFiles BadChoices = Unit {0}
IsAboutFiles (NotRead reason) = Unit {0}
IsAboutFiles (Construct number place) = Unit {0}
IsAboutFiles (TooLong taken second) = Unit {0}
IsAboutFiles Usage = ⊥
IsAboutFiles ReadFault = Unit {0}
IsAboutFiles OutOfMemory = ⊥

-- what is found of the bytes of FILE
abbrev pub IsJudged : ReplayCommand → List ℕ → JudgedFile → Type 0
IsJudged command bytes (Holds t typed) = (t.text ≡ bytes) × HasNamedFiles t × HoldsTyped command t typed
IsJudged command bytes (Refused answered) = IsAboutFile answered.answer × ((second : List ℕ) → IsTold command bytes second answered)

-- the items of a text and which of them main needs, or why there are none
abbrev pub AreNeeded : Tokens → Needed → Type 0
AreNeeded t (Items items numbers) = IsItems t (Ok items) × All (IsInside (length t.list)) items × IsNeed (item_rows t items) (Some numbers)
AreNeeded t (NoItems reason) =
    (command : ReplayCommand) (second : List ℕ) → length t.text ≤ most_bytes → AreTokens command.file t.text t
    → IsTold command t.text second (record { answer = NotRead reason; names = t.names })

-- the answer of a text with an item that is refused, for this reason
abbrev pub answer_of : Refusal → ReplayAnswer
answer_of (refusal.Construct number place) = Construct number place
answer_of (refusal.Syntax place) = NotRead (why.Syntax place)
answer_of (refusal.Rule number place) = NotRead (why.Rule number place)
