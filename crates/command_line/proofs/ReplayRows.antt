-- The rows of the parser's matches, against what the words of `predator replay` have given.
use Rattle.std.proofs.Common.{◌≡◌, ◌∙◌, Bool, true, false, refl, ap, List, [], ◌∷◌, ◌++◌, Option, Some, None, codes}
use Rattle.std.specs.Prelude.{option_and_then, slice_get}
use Rattle.std.specs.List.{find}
use Rattle.std.specs.Option.{option_map}
use Rattle.clap.specs.Walk.{Row, Rule, Text, first_of, has_row, more_values, one_of, row_text, with_default}
use Rattle.clap.specs.Takes.{is_given}
use Rattle.clap.specs.Simple.{filled, with_index}
use Rattle.clap.specs.declared.builder.value_parser.Reading.TheVariants.{AsWritten}
use Rattle.clap.specs.declared.parser.matches.ValueSource.TheVariants.{DefaultValue}
use Rattle.command_line.specs.Words.{Word}
use Rattle.command_line.specs.ReplayParser.{choices_argument, model_argument, steps_argument, strict_argument}
use Rattle.command_line.proofs.Rows.{at_end, found_new, found_old, has_id, no_row, row_for, some_row, value_in}

abbrev pub model_rule : Rule
model_rule = with_index 1 (filled model_argument)

abbrev pub steps_rule : Rule
steps_rule = with_index 1 (filled steps_argument)

abbrev pub strict_rule : Rule
strict_rule = with_index 1 (filled strict_argument)

abbrev pub choices_rule : Rule
choices_rule = with_index 2 (filled choices_argument)

-- the row of a flag that was given
abbrev pub flag_row : Text → Bool → Option Row
flag_row id true = Some (row_for id (codes "true"))
flag_row id false = None

-- the rows hold what was given, and nothing more of these five
pub record Holds (files : List Word) (model steps : Option Word) (strict : Bool) (rows : List Row) : Type 0 where
  pub file_row : find (has_id (codes "file")) rows ≡ option_map (row_for (codes "file")) (slice_get files 0)
  pub choices_row : find (has_id (codes "choices")) rows ≡ option_map (row_for (codes "choices")) (slice_get files 1)
  pub model_row : find (has_id (codes "model")) rows ≡ option_map (row_for (codes "model")) model
  pub steps_row : find (has_id (codes "steps")) rows ≡ option_map (row_for (codes "steps")) steps
  pub strict_row : find (has_id (codes "strict")) rows ≡ flag_row (codes "strict") strict

pub nothing_held : Holds [] None None false []
nothing_held = record { file_row = refl; choices_row = refl; model_row = refl; steps_row = refl; strict_row = refl }

pub holds_file : (model steps : Option Word) (strict : Bool) (word : Word) (rows : List Row) → Holds [] model steps strict rows
    → Holds (word ∷ []) model steps strict (rows ++ row_for (codes "file") word ∷ [])
holds_file model steps strict word rows h = record {
  file_row = found_new (codes "file") rows (row_for (codes "file") word) refl h.file_row;
  choices_row = found_old (codes "choices") rows (row_for (codes "file") word) refl ∙ h.choices_row;
  model_row = found_old (codes "model") rows (row_for (codes "file") word) refl ∙ h.model_row;
  steps_row = found_old (codes "steps") rows (row_for (codes "file") word) refl ∙ h.steps_row;
  strict_row = found_old (codes "strict") rows (row_for (codes "file") word) refl ∙ h.strict_row;
}

pub holds_choices : (file : Word) (model steps : Option Word) (strict : Bool) (word : Word) (rows : List Row) → Holds (file ∷ []) model steps strict rows
    → Holds (file ∷ word ∷ []) model steps strict (rows ++ row_for (codes "choices") word ∷ [])
holds_choices file model steps strict word rows h = record {
  file_row = found_old (codes "file") rows (row_for (codes "choices") word) refl ∙ h.file_row;
  choices_row = found_new (codes "choices") rows (row_for (codes "choices") word) refl h.choices_row;
  model_row = found_old (codes "model") rows (row_for (codes "choices") word) refl ∙ h.model_row;
  steps_row = found_old (codes "steps") rows (row_for (codes "choices") word) refl ∙ h.steps_row;
  strict_row = found_old (codes "strict") rows (row_for (codes "choices") word) refl ∙ h.strict_row;
}

pub holds_model : (files : List Word) (steps : Option Word) (strict : Bool) (word : Word) (rows : List Row) → Holds files None steps strict rows
    → Holds files (Some word) steps strict (rows ++ row_for (codes "model") word ∷ [])
holds_model files steps strict word rows h = record {
  file_row = found_old (codes "file") rows (row_for (codes "model") word) refl ∙ h.file_row;
  choices_row = found_old (codes "choices") rows (row_for (codes "model") word) refl ∙ h.choices_row;
  model_row = found_new (codes "model") rows (row_for (codes "model") word) refl h.model_row;
  steps_row = found_old (codes "steps") rows (row_for (codes "model") word) refl ∙ h.steps_row;
  strict_row = found_old (codes "strict") rows (row_for (codes "model") word) refl ∙ h.strict_row;
}

pub holds_steps : (files : List Word) (model : Option Word) (strict : Bool) (word : Word) (rows : List Row) → Holds files model None strict rows
    → Holds files model (Some word) strict (rows ++ row_for (codes "steps") word ∷ [])
holds_steps files model strict word rows h = record {
  file_row = found_old (codes "file") rows (row_for (codes "steps") word) refl ∙ h.file_row;
  choices_row = found_old (codes "choices") rows (row_for (codes "steps") word) refl ∙ h.choices_row;
  model_row = found_old (codes "model") rows (row_for (codes "steps") word) refl ∙ h.model_row;
  steps_row = found_new (codes "steps") rows (row_for (codes "steps") word) refl h.steps_row;
  strict_row = found_old (codes "strict") rows (row_for (codes "steps") word) refl ∙ h.strict_row;
}

pub holds_strict : (files : List Word) (model steps : Option Word) (rows : List Row) → Holds files model steps false rows
    → Holds files model steps true (rows ++ row_for (codes "strict") (codes "true") ∷ [])
holds_strict files model steps rows h = record {
  file_row = found_old (codes "file") rows (row_for (codes "strict") (codes "true")) refl ∙ h.file_row;
  choices_row = found_old (codes "choices") rows (row_for (codes "strict") (codes "true")) refl ∙ h.choices_row;
  model_row = found_old (codes "model") rows (row_for (codes "strict") (codes "true")) refl ∙ h.model_row;
  steps_row = found_old (codes "steps") rows (row_for (codes "strict") (codes "true")) refl ∙ h.steps_row;
  strict_row = found_new (codes "strict") rows (row_for (codes "strict") (codes "true")) refl h.strict_row;
}

-- ---- behind the words a flag that was not given has a row, too

-- the row of a flag that was not given
abbrev pub default_row : Row
default_row = record {
  id = codes "strict";
  values = codes "false" ∷ [];
  count = None;
  source = Some DefaultValue;
  reading = AsWritten;
}

abbrev pub ended : List Row → List Row
ended rows = with_default rows strict_rule

ended_is : (rows : List Row) → has_row (codes "strict") rows ≡ false → ended rows ≡ rows ++ default_row ∷ []
ended_is rows none = rw none (at_end (codes "strict") (more_values DefaultValue (codes "false" ∷ [])) (default_row ∷ []) rows none)

stays : (rows : List Row) → has_row (codes "strict") rows ≡ true → ended rows ≡ rows
stays rows there = rw there refl

found_behind : (id : Text) → has_id id default_row ≡ false → (strict : Bool) (rows : List Row) → find (has_id (codes "strict")) rows ≡ flag_row (codes "strict") strict
    → find (has_id id) (ended rows) ≡ find (has_id id) rows
found_behind id other true rows is = ap (find (has_id id)) (stays rows (some_row (codes "strict") rows (row_for (codes "strict") (codes "true")) is))
found_behind id other false rows is = ap (find (has_id id)) (ended_is rows (no_row (codes "strict") rows is)) ∙ found_old id rows default_row other

-- ---- what the rows answer

first_behind : (id : Text) → has_id id default_row ≡ false → (given : Option Word) (strict : Bool) (rows : List Row) → find (has_id id) rows ≡ option_map (row_for id) given
    → find (has_id (codes "strict")) rows ≡ flag_row (codes "strict") strict → first_of id (ended rows) ≡ given
first_behind id other given strict rows is flag = value_in id given (ended rows) (found_behind id other strict rows flag ∙ is)

pub first_file : (files : List Word) (model steps : Option Word) (strict : Bool) (rows : List Row) → Holds files model steps strict rows → first_of (codes "file") (ended rows) ≡ slice_get files 0
first_file files model steps strict rows h = first_behind (codes "file") refl (slice_get files 0) strict rows h.file_row h.strict_row

pub first_choices : (files : List Word) (model steps : Option Word) (strict : Bool) (rows : List Row) → Holds files model steps strict rows → first_of (codes "choices") (ended rows) ≡ slice_get files 1
first_choices files model steps strict rows h = first_behind (codes "choices") refl (slice_get files 1) strict rows h.choices_row h.strict_row

pub first_model : (files : List Word) (model steps : Option Word) (strict : Bool) (rows : List Row) → Holds files model steps strict rows → first_of (codes "model") (ended rows) ≡ model
first_model files model steps strict rows h = first_behind (codes "model") refl model strict rows h.model_row h.strict_row

pub first_steps : (files : List Word) (model steps : Option Word) (strict : Bool) (rows : List Row) → Holds files model steps strict rows → first_of (codes "steps") (ended rows) ≡ steps
first_steps files model steps strict rows h = first_behind (codes "steps") refl steps strict rows h.steps_row h.strict_row

abbrev pub flag_text : Bool → Word
flag_text true = codes "true"
flag_text false = codes "false"

pub strict_text : (files : List Word) (model steps : Option Word) (strict : Bool) (rows : List Row) → Holds files model steps strict rows
    → one_of (codes "strict") (ended rows) ≡ Some (flag_text strict)
strict_text files model steps true rows h =
    ap (one_of (codes "strict")) (stays rows (some_row (codes "strict") rows (row_for (codes "strict") (codes "true")) h.strict_row))
    ∙ ap (option_and_then row_text) h.strict_row
strict_text files model steps false rows h =
    ap (one_of (codes "strict")) (ended_is rows (no_row (codes "strict") rows h.strict_row))
    ∙ ap (option_and_then row_text) (found_new (codes "strict") rows default_row refl h.strict_row)

given_behind : (id : Text) → has_id id default_row ≡ false → (word : Word) (strict : Bool) (rows : List Row) → find (has_id id) rows ≡ Some (row_for id word)
    → find (has_id (codes "strict")) rows ≡ flag_row (codes "strict") strict → is_given id (ended rows) ≡ true
given_behind id other word strict rows is flag =
    let there : find (has_id id) (ended rows) ≡ Some (row_for id word) = found_behind id other strict rows flag ∙ is in
    rw there refl

pub file_is_given : (file : Word) (more : List Word) (model steps : Option Word) (strict : Bool) (rows : List Row) → Holds (file ∷ more) model steps strict rows
    → is_given (codes "file") (ended rows) ≡ true
file_is_given file more model steps strict rows h = given_behind (codes "file") refl file strict rows h.file_row h.strict_row

pub choices_are_given : (file choices : Word) (more : List Word) (model steps : Option Word) (strict : Bool) (rows : List Row) → Holds (file ∷ choices ∷ more) model steps strict rows
    → is_given (codes "choices") (ended rows) ≡ true
choices_are_given file choices more model steps strict rows h = given_behind (codes "choices") refl choices strict rows h.choices_row h.strict_row
