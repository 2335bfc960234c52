-- What is shown of an answer to a text with these tokens, whatever file they are of.
use Rattle.std.specs.Prelude.{ℕ, ◌≤◌, false, Ok, Some, List, length}
use Rattle.cbase.specs.declared.abi.Abi.TheVariants.{Lp64}
use Rattle.ctokens.specs.InText.{most_bytes}
use Rattle.ctokens.specs.ItemRows.{item_rows}
use Rattle.ctokens.specs.Items.{IsItems}
use Rattle.ctokens.specs.Need.{IsNeed}
use Rattle.ctokens.specs.declared.item_span.ItemSpan.{ItemSpan}
use Rattle.ctokens.specs.declared.token.Tokens.{Tokens}
use Rattle.ctokens.specs.TokenList.{AreTokens}
use Rattle.ccheck.specs.Checked.{IsTyped}
use Rattle.ccheck.specs.declared.program.TypedProgram.{TypedProgram}
use Rattle.report.specs.declared.answer.Answer.{Answer}
use Rattle.report.specs.declared.limits.Limits.{Limits}
use Rattle.report.specs.Report.{HasPrintable}
use Rattle.verdicts.specs.Verdict.{IsVerdict, Judges}
use Rattle.verdicts.specs.Shown.{AreNames}

-- the answer, found within these limits, is true of each file with these tokens, and their names are those that are shown with it
pub record IsTold (limits : Limits) (t : Tokens) (answer : Answer) : Type 0 where
  pub judged : (file bytes : List ℕ) → length bytes ≤ most_bytes → AreTokens file bytes t → Judges limits file bytes answer
  pub named : (file bytes : List ℕ) → AreTokens file bytes t → AreNames file bytes answer t.names
  pub printable : HasPrintable t.names answer
  pub verdict : IsVerdict answer

-- each item of this text that main needs is read and passes, and that is found of them
pub record HoldsTyped (t : Tokens) (typed : TypedProgram) : Type 0 where
  pub items : List ItemSpan
  pub numbers : List ℕ
  pub are_items : IsItems t (Ok items)
  pub are_needed : IsNeed (item_rows t items) (Some numbers)
  pub is_typed : IsTyped t items numbers Lp64 false typed
