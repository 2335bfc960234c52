-- What is answered of a text with these tokens is true of each file with them.
use Rattle.std.proofs.Common.{◌≡◌, ℕ, ◌<◌, Bool, false, None, Some, Ok, Err, List, length, map, refl, sym, subst}
use Rattle.cbase.specs.declared.abi.Abi.{Abi}
use Rattle.cbase.specs.declared.abi.Abi.TheVariants.{Lp64}
use Rattle.cbase.specs.declared.place.Place.{Place}
use Rattle.ctokens.specs.declared.token.Tokens.{Tokens}
use Rattle.ctokens.specs.declared.item_span.ItemSpan.{ItemSpan}
use Rattle.ctokens.specs.declared.item_span.Deep.{Deep}
use Rattle.ctokens.specs.TokenList.{HasNamedFiles}
use Rattle.ctokens.specs.Items.{IsFirstDeep, IsItems}
use Rattle.ctokens.specs.Need.{IsNeed}
use Rattle.ctokens.specs.ItemRows.{item_rows}
use Rattle.expressions.specs.Context.{Agrees, declared}
use Rattle.expressions.specs.Numbers.{Numbering, handed_at}
use Rattle.items.specs.languages.AtTypes.{declarations_at}
use Rattle.items.specs.languages.LeadsBack.{LeadsBack}
use Rattle.ccheck.specs.Checked.{IsAnswer, IsRefused, IsTyped}
use Rattle.ccheck.specs.Named.{AnswerIsNamed, IsNamed}
use Rattle.ccheck.specs.declared.checking.Checked.{Checked}
use Rattle.ccheck.specs.declared.checking.Checked.TheVariants.{Typed, Refused}
use Rattle.ccheck.specs.declared.program.TypedProgram.{TypedProgram}
use Rattle.ccheck.specs.declared.refusal.Refusal.{Refusal}
use Rattle.ccheck.specs.declared.refusal.Refusal.TheVariants as refusal
use Rattle.c_machine.specs.Program.{Program}
use Rattle.c_text.specs.Stands.{StandsFor}
use Rattle.judgement.specs.declared.judgement.Judgement.{Judgement}
use Rattle.judgement.specs.Judged.{IsJudgement}
use Rattle.report.specs.declared.answer.Why.TheVariants as why
use Rattle.report.specs.declared.answer.Answer.{Answer}
use Rattle.report.specs.declared.answer.Answer.TheVariants.{NotRead}
use Rattle.report.specs.declared.limits.Limits.{Limits}
use Rattle.verdicts.specs.Found.{answer_of_judgement, within}
use Rattle.verdicts.specs.Program.{IsProgram}
use Rattle.verdicts.specs.Told.{HoldsTyped, IsTold}
use Rattle.verdicts.specs.Verdict.{answer_of}
use Rattle.verdicts.proofs.AnswersFound.{judges_found, names_found, printable_found, verdict_found}
use Rattle.verdicts.proofs.PlacesNamed.{token_named}

deep_named : (t : Tokens) (deep : Deep) → HasNamedFiles t → IsFirstDeep t deep → deep.place.file < length t.names
deep_named t deep named is = subst (λ (p : Place). p.file < length t.names) (sym is.place) (token_named t is.at is.token named is.is_token)

pub deep_told : (limits : Limits) (t : Tokens) (place : Place) → HasNamedFiles t → IsItems t (Err (record { place = place })) → IsTold limits t (NotRead (why.Deep place))
deep_told limits t place named is = record {
  judged = λ file bytes short are. (short, (t, are, is));
  named = λ file bytes are. (t, are, refl);
  printable = deep_named t (record { place = place }) named is;
  verdict = tt;
}

pub no_main_told : (limits : Limits) (t : Tokens) (items : List ItemSpan) → IsItems t (Ok items) → IsNeed (item_rows t items) None → IsTold limits t (NotRead why.NoMain)
no_main_told limits t items is need = record {
  judged = λ file bytes short are. (short, (t, items, are, is, need));
  named = λ file bytes are. (t, are, refl);
  printable = tt;
  verdict = tt;
}

-- the first item that is refused is told with its reason
refused_told : (limits : Limits) (t : Tokens) (items : List ItemSpan) (numbers : List ℕ) (reason : Refusal) → IsItems t (Ok items) → IsNeed (item_rows t items) (Some numbers)
    → IsRefused t items numbers Lp64 false reason → IsNamed t.names reason → IsTold limits t (answer_of reason)
refused_told limits t items numbers (refusal.Construct number place) is need first named = record {
  judged = λ file bytes short are. (short, (t, items, numbers, record { are_tokens = are; are_items = is; are_needed = need }, first));
  named = λ file bytes are. (t, are, refl);
  printable = named;
  verdict = tt;
}
refused_told limits t items numbers (refusal.Syntax place) is need first named = record {
  judged = λ file bytes short are. (short, (t, items, numbers, record { are_tokens = are; are_items = is; are_needed = need }, first));
  named = λ file bytes are. (t, are, refl);
  printable = named;
  verdict = tt;
}
refused_told limits t items numbers (refusal.Rule number place) is need first named = record {
  judged = λ file bytes short are. (short, (t, items, numbers, record { are_tokens = are; are_items = is; are_needed = need }, first));
  named = λ file bytes are. (t, are, refl);
  printable = named;
  verdict = tt;
}

-- what the check answers is told, or held
pub refusal_told : (limits : Limits) (t : Tokens) (items : List ItemSpan) (numbers : List ℕ) (reason : Refusal) (checked : Checked) → IsItems t (Ok items)
    → IsNeed (item_rows t items) (Some numbers) → checked ≡ Refused reason → IsAnswer t items numbers Lp64 false checked → AnswerIsNamed t.names checked
    → IsTold limits t (answer_of reason)
refusal_told limits t items numbers reason checked is need same answer named =
    refused_told limits t items numbers reason is need (subst (IsAnswer t items numbers Lp64 false) same answer) (subst (AnswerIsNamed t.names) same named)

pub typed_held : (t : Tokens) (items : List ItemSpan) (numbers : List ℕ) (typed : TypedProgram) (checked : Checked) → IsItems t (Ok items)
    → IsNeed (item_rows t items) (Some numbers) → checked ≡ Typed typed → IsAnswer t items numbers Lp64 false checked → HoldsTyped t typed
typed_held t items numbers typed checked is need same answer = record {
  items = items;
  numbers = numbers;
  are_items = is;
  are_needed = need;
  is_typed = subst (IsAnswer t items numbers Lp64 false) same answer;
}

-- the program that is held, its types read by a numbering
abbrev pub program_by : Numbering → TypedProgram → Program
program_by n typed = record {
  items = typed.program;
  handed = map (handed_at n) typed.context.handed;
  structs = typed.context.structs;
  abi = typed.abi;
  strict = typed.strict;
}

pub is_program : (t : Tokens) (items : List ItemSpan) (numbers : List ℕ) (abi : Abi) (strict : Bool) (typed : TypedProgram) (n : Numbering)
    → IsTyped t items numbers abi strict typed → Agrees n typed.context → LeadsBack n → IsProgram t items numbers abi strict (program_by n typed)
is_program t items numbers abi strict typed n is agrees back = record {
  after = is.after;
  behind = declarations_at n (declared typed.context);
  passing = is.passing n agrees back;
  structs_are = refl;
  abi_is = is.abi_is;
  strict_is = is.strict_is;
}

-- what was found of it is told
pub found_told : (limits : Limits) (t : Tokens) (typed : TypedProgram) (found : Judgement) (answer : Answer) → HasNamedFiles t → HoldsTyped t typed
    → (n : Numbering) × Agrees n typed.context × LeadsBack n
    → ((n : Numbering) (p : Program) → StandsFor n typed.context p → p.items ≡ typed.program → p.abi ≡ typed.abi → p.strict ≡ typed.strict → IsJudgement p (within limits) found)
    → answer_of_judgement t found ≡ Some answer → IsTold limits t answer
found_told limits t typed found answer named holds (n, agrees, back) judged is = record {
  judged = λ file bytes short are. judges_found limits file bytes answer (record {
    t = t;
    p = program_by n typed;
    holds = record {
      items = holds.items;
      numbers = holds.numbers;
      is_short = short;
      is_read = record { are_tokens = are; are_items = holds.are_items; are_needed = holds.are_needed };
      is_program = is_program t holds.items holds.numbers Lp64 false typed n holds.is_typed agrees back;
    };
    judgement = found;
    found = judged n (program_by n typed) (record { agrees = agrees; structs = refl; handed = refl }) refl refl refl;
    answer_is = is;
  });
  named = λ file bytes are. names_found t file bytes found answer is are;
  printable = printable_found t found answer named is;
  verdict = verdict_found t found answer is;
}
