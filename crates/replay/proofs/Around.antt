-- All that is said of an answer, by what it is about.
use Rattle.std.proofs.Common.{◌≡◌, ℕ, inr, Bool, true, IsTrue, IfOk, OnErr, Result, Ok, Err, Option, Some, List, [], refl, ap, subst, ◌∙◌}
use Rattle.cbase.specs.declared.tree.item.Item.{Item}
use Rattle.command_line.specs.declared.replay.ReplayCommand.{ReplayCommand}
use Rattle.ctokens.specs.declared.token.Tokens.{Tokens}
use Rattle.expressions.specs.Context.{Context}
use Rattle.outside.specs.Faults.{Rose}
use Rattle.outside.specs.Opened.{Openings, opened}
use Rattle.outside.specs.Reading.{Reads}
use Rattle.outside.specs.declared.reading.Reading.{Reading}
use Rattle.outside.specs.declared.reading.Reading.TheVariants.{Whole}
use Rattle.report.specs.declared.replay_answer.ReplayAnswer.TheVariants.{ReadFault, TooLong, OutOfMemory}
use Rattle.replay.specs.declared.judging.Answered.{Answered}
use Rattle.replay.specs.Answered.{AreBytesOf, HasTaken}
use Rattle.replay.specs.Around.{Around, IsAnswerOf, IsOutcomeOf, OpensFor}
use Rattle.replay.specs.Told.{HoldsProgramOf, IsAboutBoth, IsAboutFile, IsTold}
use Rattle.replay.proofs.Files.{both_about, both_answered, both_no_fault, file_about, file_answered, file_no_fault, long_answered}
use Rattle.replay.proofs.Opened.{both_opened, choices_opened, fault_opened, file_alone, file_opened, opened_behind}

-- what is true of each answer is true of the one that is given
pub each_answer : {E : Type 0} {P Q : Answered → Type 0} (result : Result Answered E) → ((answered : Answered) → P answered → Q answered) → IfOk result P → IfOk result Q
each_answer (Ok answered) also is = also answered is
each_answer (Err error) also is = tt

-- and what is true where there is none
pub each_error : {E : Type 0} {P Q : Type 0} (result : Result Answered E) → (P → Q) → OnErr result P → OnErr result Q
each_error (Ok answered) also is = tt
each_error (Err error) also is = also is

pub or_wanting : {E P : Type 0} (result : Result Answered E) → P → OnErr result P
or_wanting (Ok answered) is = tt
or_wanting (Err error) is = is

-- the bytes that were read are those of the file
pub read_bytes : (tells : Bool) (bytes_of : List ℕ → Option (List ℕ)) (name file left bytes : List ℕ) (reading : Reading) → name ≡ file → reading ≡ Whole bytes
    → (IsTrue tells → Reads (bytes_of name) left reading) → AreBytesOf tells (bytes_of file) bytes
read_bytes tells bytes_of name file left bytes reading named is reads = λ told.
    subst (λ (x : List ℕ). bytes_of x ≡ Some bytes) named (subst (Reads (bytes_of name) left) is (reads told)).0

-- the text is that of the bytes
pub about_text : {E : Type 0} (around : Around) (command : ReplayCommand) (text bytes : List ℕ) (result : Result Answered E) → text ≡ bytes
    → IsOutcomeOf around command text result → IsOutcomeOf around command bytes result
about_text around command text bytes result same outcome = subst (λ (x : List ℕ). IsOutcomeOf around command x result) same outcome

-- an answer about FILE alone
pub about_file : (around : Around) (command : ReplayCommand) (bytes : List ℕ) (answered : Answered) → around.openings_behind ≡ around.openings
    → around.openings_behind.last ≡ command.file → IsAboutFile answered.answer → ((second : List ℕ) → IsTold command bytes second answered)
    → IsAnswerOf around command bytes answered
about_file around command bytes answered same last about told = record {
  about = file_about answered.answer about;
  printable = (told []).printable;
  rose = file_no_fault _ answered.answer about;
  failed = file_no_fault _ answered.answer about;
  opened = λ content are. file_opened around.tells content command around.openings_behind.last answered.answer last about;
  all_opened = λ before content one are. file_alone around.tells content command before around.openings_behind answered.answer (same ∙ one) about;
  judged = λ content are. file_answered around.tells content around.choices command bytes answered are about told;
}

-- where FILE holds a program, CHOICES was opened behind FILE, and memory is wanting
pub choices_wanting : (tells : Bool) (first behind : Openings) (command : ReplayCommand) (t : Tokens) (items : List Item) (text : Context) (strict : Bool)
    → behind ≡ opened first command.choices → HoldsProgramOf command t items text strict → OpensFor tells first behind command t.text OutOfMemory
choices_wanting tells first behind command t items text strict two held = λ before content one are.
    inr (inr (opened_behind tells content command before behind first t items text strict one two are held))

-- or an answer is given
module _ (around : Around) (command : ReplayCommand) (t : Tokens) (items : List Item) (text : Context) (strict : Bool)
    (two : around.openings_behind ≡ opened around.openings command.choices) (held : HoldsProgramOf command t items text strict) where
  last : around.openings_behind.last ≡ command.choices
  last = ap (λ (o : Openings). o.last) two

  -- the answer is about both files
  both_answer : (second : List ℕ) (answered : Answered) → AreBytesOf around.tells around.choices second → IsAboutBoth answered.answer
      → IsTold command t.text second answered → IsAnswerOf around command t.text answered
  both_answer second answered those about told = record {
    about = both_about answered.answer about;
    printable = told.printable;
    rose = both_no_fault _ answered.answer about;
    failed = both_no_fault _ answered.answer about;
    opened = λ content are. choices_opened around.tells content command around.openings_behind.last answered.answer last about;
    all_opened = λ before content one are.
        both_opened around.tells content command before around.openings_behind answered.answer
        (opened_behind around.tells content command before around.openings_behind around.openings t items text strict one two are held) about;
    judged = λ content are. both_answered around.tells content around.choices command t.text second answered are those about told;
  }

  pub about_both : {E : Type 0} (second : List ℕ) (result : Result Answered E) → AreBytesOf around.tells around.choices second
      → IfOk result (λ a. IsAboutBoth a.answer) → IfOk result (IsTold command t.text second) → IsOutcomeOf around command t.text result
  about_both second (Ok answered) those about told = (both_answer second answered those about told, tt)
  about_both second (Err error) those about told =
      (tt, choices_wanting around.tells around.openings around.openings_behind command t items text strict two held)

  -- CHOICES is too long
  pub choices_long : HasTaken around.tells around.choices 4194305
      → IsAnswerOf around command t.text (record { answer = TooLong 4194305 true; names = t.names })
  choices_long taken = record {
    about = tt;
    printable = tt;
    rose = λ is. absurd cc;
    failed = λ is. absurd cc;
    opened = λ content are. last;
    all_opened = λ before content one are.
        opened_behind around.tells content command before around.openings_behind around.openings t items text strict one two are held;
    judged = λ content are. long_answered around.tells content around.choices command t items text strict held taken are;
  }

  -- or cannot be read
  pub choices_fault : Rose around.faults around.faults_behind → around.failed ≡ true
      → IsAnswerOf around command t.text (record { answer = ReadFault; names = [] })
  choices_fault rose failed = record {
    about = tt;
    printable = tt;
    rose = λ is. rose;
    failed = λ is. failed;
    opened = λ content are. fault_opened around.tells content command around.openings_behind.last t items text strict last are held;
    all_opened = λ before content one are.
        inr (opened_behind around.tells content command before around.openings_behind around.openings t items text strict one two are held);
    judged = λ content are. refl;
  }
