-- What is found of FILE's tokens is true of its bytes, whatever is in CHOICES.
use Rattle.std.proofs.Common.{◌≡◌, ℕ, ◌<◌, ◌≤◌, ◌∙◌, Bool, IfOk, Result, None, Some, Ok, Err, List, length, map, refl, sym, subst}
use Rattle.cbase.specs.declared.place.Place.{Place}
use Rattle.cbase.specs.declared.tree.item.Item.{Item}
use Rattle.choices.specs.declared.choice.Choice.{Choice}
use Rattle.choices.specs.Answers.{IsAnswer as IsReadAs}
use Rattle.choices.specs.Format.{SpellsChoices}
use Rattle.choices.specs.declared.refusal.Refusal.{Refusal as ChoicesRefusal}
use Rattle.choices.specs.declared.refusal.ReadChoices.{ReadChoices}
use Rattle.choices.specs.declared.refusal.ReadChoices.TheVariants.{Choices, Refused as NoChoices}
use Rattle.command_line.specs.declared.replay.ReplayCommand.{ReplayCommand}
use Rattle.ctokens.specs.InText.{most_bytes}
use Rattle.ctokens.specs.Items.{IsFirstDeep, IsItems}
use Rattle.ctokens.specs.ItemRows.{item_rows}
use Rattle.ctokens.specs.Need.{IsNeed}
use Rattle.ctokens.specs.TokenList.{AreTokens, HasNamedFiles, IsLexical}
use Rattle.ctokens.specs.declared.item_span.Deep.{Deep}
use Rattle.ctokens.specs.declared.item_span.ItemSpan.{ItemSpan}
use Rattle.ctokens.specs.declared.token.Lexical.{Lexical}
use Rattle.ctokens.specs.declared.token.Tokens.{Tokens}
use Rattle.expressions.specs.Context.{Agrees, Context, declared}
use Rattle.expressions.specs.Numbers.{Numbering, handed_at}
use Rattle.items.specs.languages.AtTypes.{declarations_at}
use Rattle.items.specs.languages.LeadsBack.{LeadsBack}
use Rattle.ccheck.specs.Checked.{IsAnswer, IsRefused, IsTyped}
use Rattle.ccheck.specs.Named.{AnswerIsNamed, IsNamed}
use Rattle.ccheck.specs.declared.checking.Checked.{Checked}
use Rattle.ccheck.specs.declared.checking.Checked.TheVariants.{Typed as TypedAnswer, Refused as RefusedAnswer}
use Rattle.ccheck.specs.declared.program.TypedProgram.{TypedProgram}
use Rattle.ccheck.specs.declared.refusal.Refusal.{Refusal}
use Rattle.ccheck.specs.declared.refusal.Refusal.TheVariants as refusal
use Rattle.c_machine.specs.Program.{Program}
use Rattle.c_machine.specs.Run.{run_of}
use Rattle.c_machine.specs.Trees.{text_of}
use Rattle.c_text.specs.Stands.{StandsFor}
use Rattle.report.specs.ReplayReport.{HasPrintableRun}
use Rattle.report.specs.declared.answer.Why.{Why}
use Rattle.report.specs.declared.answer.Why.TheVariants as why
use Rattle.report.specs.declared.replay_answer.Replayed.{Replayed}
use Rattle.report.specs.declared.replay_answer.ReplayAnswer.TheVariants.{Played, BadChoices, NotRead}
use Rattle.verdicts.proofs.PlacesNamed.{token_named}
use Rattle.replay.specs.declared.judging.JudgedFile.{JudgedFile}
use Rattle.replay.specs.declared.judging.JudgedFile.TheVariants.{Refused}
use Rattle.replay.specs.declared.judging.Needed.{Needed}
use Rattle.replay.specs.declared.judging.Needed.TheVariants.{None as NoItems}
use Rattle.replay.specs.Judged.{HasProgram, HoldsProgram}
use Rattle.replay.specs.Program.{what_of}
use Rattle.replay.specs.Told.{AreNeeded, HoldsProgramOf, HoldsTyped, IsJudged, IsTold, answer_of}

deep_named : (t : Tokens) (deep : Deep) → HasNamedFiles t → IsFirstDeep t deep → deep.place.file < length t.names
deep_named t deep named is = subst (λ (p : Place). p.file < length t.names) (sym is.place) (token_named t is.at is.token named is.is_token)

-- a text is that of its tokens
pub own_text : (file text : List ℕ) (t : Tokens) → AreTokens file text t → AreTokens file t.text t
own_text file text t are = subst (λ (x : List ℕ). AreTokens file x t) (sym are.whole) are

pub own_short : (file text : List ℕ) (t : Tokens) → AreTokens file text t → length text ≤ most_bytes → length t.text ≤ most_bytes
own_short file text t are short = subst (λ (x : List ℕ). length x ≤ most_bytes) (sym are.whole) short

pub judged_text : {E : Type 0} (command : ReplayCommand) (text : List ℕ) (t : Tokens) (result : Result JudgedFile E) → AreTokens command.file text t
    → IfOk result (IsJudged command t.text) → IfOk result (IsJudged command text)
judged_text command text t result are found = subst (λ (x : List ℕ). IfOk result (IsJudged command x)) are.whole found

pub lexical_told : (command : ReplayCommand) (bytes : List ℕ) (lexical : Lexical) → length bytes ≤ most_bytes → IsLexical command.file bytes lexical
    → lexical.place.file < length lexical.names
    → IsJudged command bytes (Refused (record { answer = NotRead (why.Lexical lexical.place); names = lexical.names }))
lexical_told command bytes lexical short is named = (
  tt,
  λ second. record {
    judged = (short, (lexical, is, refl));
    named = (lexical, is, refl);
    printable = named;
  },
)

pub deep_told : (t : Tokens) (place : Place) → HasNamedFiles t → IsItems t (Err (record { place = place })) → AreNeeded t (NoItems (why.Deep place))
deep_told t place named is = λ command second short are. record {
  judged = (short, (t, are, is));
  named = (t, are, refl);
  printable = deep_named t (record { place = place }) named is;
}

pub no_main_told : (t : Tokens) (items : List ItemSpan) → IsItems t (Ok items) → IsNeed (item_rows t items) None → AreNeeded t (NoItems why.NoMain)
no_main_told t items is need = λ command second short are. record {
  judged = (short, (t, items, are, is, need));
  named = (t, are, refl);
  printable = tt;
}

-- where main needs no items, that is told
pub none_told : (command : ReplayCommand) (t : Tokens) (reason : Why) (found : Needed) → found ≡ NoItems reason → AreNeeded t found
    → length t.text ≤ most_bytes → AreTokens command.file t.text t → IsJudged command t.text (Refused (record { answer = NotRead reason; names = t.names }))
none_told command t reason found is needed short are = (tt, λ second. (subst (AreNeeded t) is needed) command second short are)

module _ (command : ReplayCommand) (t : Tokens) (items : List ItemSpan) (numbers : List ℕ) where
  -- the first item that is refused is told with its reason
  pub refused_told : (reason : Refusal) → length t.text ≤ most_bytes → AreTokens command.file t.text t → IsItems t (Ok items)
      → IsNeed (item_rows t items) (Some numbers) → IsRefused t items numbers command.model command.strict reason → IsNamed t.names reason
      → IsJudged command t.text (Refused (record { answer = answer_of reason; names = t.names }))
  refused_told (refusal.Construct number place) short are is need first named = (
    tt,
    λ second. record {
      judged = (short, (t, items, numbers, record { are_tokens = are; are_items = is; are_needed = need }, first));
      named = (t, are, refl);
      printable = named;
    },
  )
  refused_told (refusal.Syntax place) short are is need first named = (
    tt,
    λ second. record {
      judged = (short, (t, items, numbers, record { are_tokens = are; are_items = is; are_needed = need }, first));
      named = (t, are, refl);
      printable = named;
    },
  )
  refused_told (refusal.Rule number place) short are is need first named = (
    tt,
    λ second. record {
      judged = (short, (t, items, numbers, record { are_tokens = are; are_items = is; are_needed = need }, first));
      named = (t, are, refl);
      printable = named;
    },
  )

  -- the items that main needs, where each passes, are held with their types
  pub typed_held : (typed : TypedProgram) → length t.text ≤ most_bytes → AreTokens command.file t.text t → IsItems t (Ok items)
      → IsNeed (item_rows t items) (Some numbers) → IsTyped t items numbers command.model command.strict typed
      → (n : Numbering) × Agrees n typed.context × LeadsBack n → HoldsTyped command t typed
  typed_held typed short are is need passes (n, agrees, back) = record {
    items = items;
    numbers = numbers;
    is_short = short;
    is_read = record { are_tokens = are; are_items = is; are_needed = need };
    is_typed = passes;
    numbering = n;
    agrees = agrees;
    leads_back = back;
  }

  -- what the check answers is told or held
  pub refusal_found : (reason : Refusal) (checked : Checked) → length t.text ≤ most_bytes → AreTokens command.file t.text t → IsItems t (Ok items)
      → IsNeed (item_rows t items) (Some numbers) → checked ≡ RefusedAnswer reason → IsAnswer t items numbers command.model command.strict checked
      → AnswerIsNamed t.names checked → IsJudged command t.text (Refused (record { answer = answer_of reason; names = t.names }))
  refusal_found reason checked short are is need same answer named =
      refused_told reason short are is need (subst (IsAnswer t items numbers command.model command.strict) same answer)
      (subst (AnswerIsNamed t.names) same named)

  pub typed_found : (typed : TypedProgram) (checked : Checked) → length t.text ≤ most_bytes → AreTokens command.file t.text t → IsItems t (Ok items)
      → IsNeed (item_rows t items) (Some numbers) → checked ≡ TypedAnswer typed → IsAnswer t items numbers command.model command.strict checked
      → (n : Numbering) × Agrees n typed.context × LeadsBack n → HoldsTyped command t typed
  typed_found typed checked short are is need same answer back =
      typed_held typed short are is need (subst (IsAnswer t items numbers command.model command.strict) same answer) back

-- what was read of CHOICES
pub spelled : (text : List ℕ) (answer : ReadChoices) (choices : List Choice) → answer ≡ Choices choices → IsReadAs text answer → SpellsChoices text choices
spelled text answer choices is read = subst (IsReadAs text) is read

pub not_spelled : (text : List ℕ) (answer : ReadChoices) (reason : ChoicesRefusal) → answer ≡ NoChoices reason
    → ((other : ReadChoices) → IsReadAs text other → other ≡ answer) → (choices : List Choice) → SpellsChoices text choices → ⊥
not_spelled text answer reason is only choices spells = let both = only (Choices choices) spells ∙ is in absurd cc

-- the program that is held, its types read by a numbering
abbrev program_by : Numbering → TypedProgram → Program
program_by n typed = record {
  items = typed.program;
  handed = map (handed_at n) typed.context.handed;
  structs = typed.context.structs;
  abi = typed.abi;
  strict = typed.strict;
}

module _ (command : ReplayCommand) (t : Tokens) (typed : TypedProgram) (held : HoldsTyped command t typed) where
  holds : HoldsProgram command t.text t (program_by held.numbering typed)
  holds = record {
    items = held.items;
    numbers = held.numbers;
    is_short = held.is_short;
    is_read = held.is_read;
    is_program = record {
      after = held.is_typed.after;
      behind = declarations_at held.numbering (declared typed.context);
      passing = held.is_typed.passing held.numbering held.agrees held.leads_back;
      structs_are = refl;
      abi_is = held.is_typed.abi_is;
      strict_is = held.is_typed.strict_is;
    };
  }

  stands : (text : Context) → text ≡ typed.context → StandsFor held.numbering text (program_by held.numbering typed)
  stands text same = subst (λ (x : Context). StandsFor held.numbering x (program_by held.numbering typed)) (sym same)
      (record { agrees = held.agrees; structs = refl; handed = refl })

module _ (command : ReplayCommand) (t : Tokens) (items : List Item) (text : Context) (strict : Bool) (held : HoldsProgramOf command t items text strict) where
  program : Program
  program = program_by held.holds.numbering held.typed

  program_stands : StandsFor held.holds.numbering text program
  unfolding program
  program_stands = stands command t held.typed held.holds text held.text_is

  program_holds : HoldsProgram command t.text t program
  unfolding program
  program_holds = holds command t held.typed held.holds

  items_of_program : program.items ≡ items
  unfolding program
  items_of_program = sym held.items_are

  strict_program : program.strict ≡ strict
  unfolding program
  strict_program = sym held.strict_is

  pub has_program : HasProgram command t.text
  has_program = (t, program, program_holds)

  -- CHOICES spells no choices
  pub bad_told : (second : List ℕ) → length second ≤ most_bytes → ((choices : List Choice) → SpellsChoices second choices → ⊥)
      → IsTold command t.text second (record { answer = BadChoices; names = t.names })
  bad_told second short none = record {
    judged = (short, has_program, none);
    named = (t, held.holds.is_read.are_tokens, refl);
    printable = tt;
  }

  -- what the run of the program comes to is told
  pub played_told : (second : List ℕ) (choices : List Choice) (what : Replayed) → length second ≤ most_bytes → SpellsChoices second choices
      → ((n : Numbering) (p : Program) → StandsFor n text p → p.items ≡ items → p.strict ≡ strict → what_of t (run_of (text_of p) choices command.steps) ≡ what)
      → HasPrintableRun t.names what → IsTold command t.text second (record { answer = Played what; names = t.names })
  unfolding program
  played_told second choices what short spells plays printable = record {
    judged = (
      short,
      (
        t,
        program,
        choices,
        program_holds,
        spells,
        plays held.holds.numbering program program_stands items_of_program strict_program,
      ),
    );
    named = (t, held.holds.is_read.are_tokens, refl);
    printable = printable;
  }
