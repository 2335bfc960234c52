-- What an answer says of a text: the theorem that the program carries.
use Rattle.std.specs.Prelude.{◌≡◌, ℕ, ◌+◌, ◌≤◌, ◌↔◌, false, None, Some, Ok, Err, List, length}
use Rattle.cbase.specs.declared.place.Place.{Place}
use Rattle.ctokens.specs.InText.{most_bytes}
use Rattle.ctokens.specs.declared.token.Tokens.{Tokens}
use Rattle.ctokens.specs.declared.token.Lexical.{Lexical}
use Rattle.ctokens.specs.declared.item_span.ItemSpan.{ItemSpan}
use Rattle.ctokens.specs.TokenList.{AreTokens, IsLexical}
use Rattle.ctokens.specs.Items.{IsItems}
use Rattle.ctokens.specs.Need.{IsNeed}
use Rattle.ctokens.specs.ItemRows.{item_rows}
use Rattle.cbase.specs.declared.abi.Abi.TheVariants.{Lp64}
use Rattle.ccheck.specs.declared.refusal.Refusal.{Refusal}
use Rattle.ccheck.specs.declared.refusal.Refusal.TheVariants as refusal
use Rattle.ccheck.specs.Checked.{IsRefused}
use Rattle.c_machine.specs.Program.{Program}
use Rattle.flow.specs.declared.flow_graph.Flow.{Flow}
use Rattle.lowering.specs.Lowering.{flow_of}
use Rattle.trail.specs.Seen.{HasNoCalls}
use Rattle.judgement.specs.declared.judgement.Judgement.{Judgement}
use Rattle.judgement.specs.Judged.{IsJudgement}
use Rattle.report.specs.declared.answer.Why.TheVariants as why
use Rattle.report.specs.declared.answer.Answer.{Answer}
use Rattle.report.specs.declared.answer.Answer.TheVariants.{Safe, Warned, Spent, Large, NotRead, Construct, NotYet, TooLong, Usage, ReadFault, OutOfMemory}
use Rattle.report.specs.declared.limits.Limits.{Limits}
use Rattle.verdicts.specs.Found.{answer_of_judgement, within}
use Rattle.verdicts.specs.Program.{HoldsProgram, IsRead}

-- at the first place where the bytes have no token
abbrev pub HasNoToken : List ℕ → List ℕ → Place → Type 0
HasNoToken file bytes place = (lexical : Lexical) × IsLexical file bytes lexical × (lexical.place ≡ place)

-- at the first bracket that opens at depth 257
abbrev pub IsTooDeep : List ℕ → List ℕ → Place → Type 0
IsTooDeep file bytes place = (t : Tokens) × AreTokens file bytes t × IsItems t (Err (record { place = place }))

-- there are items, and none defines main
abbrev pub HasNoMain : List ℕ → List ℕ → Type 0
HasNoMain file bytes = (t : Tokens) × (items : List ItemSpan) × AreTokens file bytes t × IsItems t (Ok items) × IsNeed (item_rows t items) None

-- the items that main needs are read and checked in the order of the text, each behind the items before it, and the first that is
-- refused is so for this reason
abbrev pub HasRefused : List ℕ → List ℕ → Refusal → Type 0
HasRefused file bytes reason =
    (t : Tokens) × (items : List ItemSpan) × (numbers : List ℕ) × IsRead file bytes t items numbers × IsRefused t items numbers Lp64 false reason

-- the bytes hold a program, and what is found of it within the limits is answered so
pub record HasVerdict (limits : Limits) (file bytes : List ℕ) (answer : Answer) : Type 0 where
  pub t : Tokens
  pub p : Program
  pub holds : HoldsProgram file bytes Lp64 false t p
  pub judgement : Judgement
  pub found : IsJudgement p (within limits) judgement
  pub answer_is : answer_of_judgement t judgement ≡ Some answer

-- the bytes hold a program that can be analysed: it has a flow graph, and calls no function that it defines
pub record CanBeAnalysed (file bytes : List ℕ) : Type 0 where
  pub t : Tokens
  pub p : Program
  pub holds : HoldsProgram file bytes Lp64 false t p
  pub flow : Flow
  pub graph : flow_of p ≡ Some flow
  pub no_calls : HasNoCalls flow

-- what an answer says of the bytes of the file with this name
abbrev pub Judges : Limits → List ℕ → List ℕ → Answer → Type 0
Judges limits file bytes Safe = HasVerdict limits file bytes Safe
Judges limits file bytes (Warned warnings complete) = HasVerdict limits file bytes (Warned warnings complete)
Judges limits file bytes Spent = HasVerdict limits file bytes Spent
Judges limits file bytes Large = HasVerdict limits file bytes Large
Judges limits file bytes (NotRead (why.Lexical place)) = (length bytes ≤ most_bytes) × HasNoToken file bytes place
Judges limits file bytes (NotRead (why.Deep place)) = (length bytes ≤ most_bytes) × IsTooDeep file bytes place
Judges limits file bytes (NotRead why.NoMain) = (length bytes ≤ most_bytes) × HasNoMain file bytes
Judges limits file bytes (NotRead (why.Syntax place)) = (length bytes ≤ most_bytes) × HasRefused file bytes (refusal.Syntax place)
Judges limits file bytes (NotRead (why.Rule number place)) = (length bytes ≤ most_bytes) × HasRefused file bytes (refusal.Rule number place)
Judges limits file bytes (Construct number place) = (length bytes ≤ most_bytes) × HasRefused file bytes (refusal.Construct number place)
Judges limits file bytes (NotYet place) = HasVerdict limits file bytes (NotYet place)
Judges limits file bytes (TooLong taken) = (taken ≡ most_bytes + 1) × (taken ≤ length bytes)
Judges limits file bytes Usage = Unit {0}
Judges limits file bytes ReadFault = Unit {0}
Judges limits file bytes OutOfMemory = Unit {0}

-- the answer of a text with an item that is refused, for this reason
abbrev pub answer_of : Refusal → Answer
answer_of (refusal.Construct number place) = Construct number place
answer_of (refusal.Syntax place) = NotRead (why.Syntax place)
answer_of (refusal.Rule number place) = NotRead (why.Rule number place)

-- the answer says that the file has no program that is analysed, and why
abbrev pub IsRefusal : Answer → Type 0
IsRefusal Safe = ⊥
IsRefusal (Warned warnings complete) = ⊥
IsRefusal Spent = ⊥
IsRefusal Large = ⊥
IsRefusal (NotRead why) = Unit {0}
IsRefusal (Construct number place) = Unit {0}
IsRefusal (NotYet place) = Unit {0}
IsRefusal (TooLong taken) = Unit {0}
IsRefusal Usage = ⊥
IsRefusal ReadFault = ⊥
IsRefusal OutOfMemory = ⊥

-- or what the analysis of its program came to
abbrev pub IsAnalysed : Answer → Type 0
IsAnalysed Safe = Unit {0}
IsAnalysed (Warned warnings complete) = Unit {0}
IsAnalysed Spent = Unit {0}
IsAnalysed Large = Unit {0}
IsAnalysed (NotRead why) = ⊥
IsAnalysed (Construct number place) = ⊥
IsAnalysed (NotYet place) = ⊥
IsAnalysed (TooLong taken) = ⊥
IsAnalysed Usage = ⊥
IsAnalysed ReadFault = ⊥
IsAnalysed OutOfMemory = ⊥

-- the answer says something of a file
abbrev pub IsVerdict : Answer → Type 0
IsVerdict Safe = Unit {0}
IsVerdict (Warned warnings complete) = Unit {0}
IsVerdict Spent = Unit {0}
IsVerdict Large = Unit {0}
IsVerdict (NotRead why) = Unit {0}
IsVerdict (Construct number place) = Unit {0}
IsVerdict (NotYet place) = Unit {0}
IsVerdict (TooLong taken) = Unit {0}
IsVerdict Usage = ⊥
IsVerdict ReadFault = ⊥
IsVerdict OutOfMemory = ⊥

-- each refusal is given exactly where it is true of the bytes, and what an analysis came to exactly where they hold a program that can be analysed
pub record IsExact (limits : Limits) (file bytes : List ℕ) (answer : Answer) : Type 0 where
  pub only : (other : Answer) → IsRefusal other → (answer ≡ other) ↔ Judges limits file bytes other
  pub analysed : IsAnalysed answer ↔ CanBeAnalysed file bytes
