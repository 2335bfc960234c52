-- The rows of the parser's matches, against what the words have given.
use Rattle.std.proofs.Common.{◌≡◌, ◌∙◌, true, refl, List, [], ◌∷◌, ◌++◌, Option, Some, None, codes}
use Rattle.std.specs.List.{find}
use Rattle.std.specs.Option.{option_map}
use Rattle.clap.specs.Walk.{Row, Rule, first_of}
use Rattle.clap.specs.Takes.{is_given}
use Rattle.clap.specs.Simple.{filled, with_index}
use Rattle.command_line.specs.Words.{Word}
use Rattle.command_line.specs.Parser.{budget_argument, file_argument, int_limit_argument}
use Rattle.command_line.proofs.Rows.{found_new, found_old, has_id, row_for, value_in}

abbrev pub budget_rule : Rule
budget_rule = with_index 1 (filled budget_argument)

abbrev pub int_limit_rule : Rule
int_limit_rule = with_index 1 (filled int_limit_argument)

abbrev pub file_rule : Rule
file_rule = with_index 1 (filled file_argument)

-- the rows hold what was given, and nothing more of these three
pub record Holds (file budget int_limit : Option Word) (rows : List Row) : Type 0 where
  pub file_row : find (has_id (codes "file")) rows ≡ option_map (row_for (codes "file")) file
  pub budget_row : find (has_id (codes "budget")) rows ≡ option_map (row_for (codes "budget")) budget
  pub int_limit_row : find (has_id (codes "int-limit")) rows ≡ option_map (row_for (codes "int-limit")) int_limit

pub nothing_held : Holds None None None []
nothing_held = record { file_row = refl; budget_row = refl; int_limit_row = refl }

pub holds_file : (budget int_limit : Option Word) (word : Word) (rows : List Row) → Holds None budget int_limit rows
    → Holds (Some word) budget int_limit (rows ++ row_for (codes "file") word ∷ [])
holds_file budget int_limit word rows h = record {
  file_row = found_new (codes "file") rows (row_for (codes "file") word) refl h.file_row;
  budget_row = found_old (codes "budget") rows (row_for (codes "file") word) refl ∙ h.budget_row;
  int_limit_row = found_old (codes "int-limit") rows (row_for (codes "file") word) refl ∙ h.int_limit_row;
}

pub holds_budget : (file int_limit : Option Word) (word : Word) (rows : List Row) → Holds file None int_limit rows
    → Holds file (Some word) int_limit (rows ++ row_for (codes "budget") word ∷ [])
holds_budget file int_limit word rows h = record {
  file_row = found_old (codes "file") rows (row_for (codes "budget") word) refl ∙ h.file_row;
  budget_row = found_new (codes "budget") rows (row_for (codes "budget") word) refl h.budget_row;
  int_limit_row = found_old (codes "int-limit") rows (row_for (codes "budget") word) refl ∙ h.int_limit_row;
}

pub holds_int_limit : (file budget : Option Word) (word : Word) (rows : List Row) → Holds file budget None rows
    → Holds file budget (Some word) (rows ++ row_for (codes "int-limit") word ∷ [])
holds_int_limit file budget word rows h = record {
  file_row = found_old (codes "file") rows (row_for (codes "int-limit") word) refl ∙ h.file_row;
  budget_row = found_old (codes "budget") rows (row_for (codes "int-limit") word) refl ∙ h.budget_row;
  int_limit_row = found_new (codes "int-limit") rows (row_for (codes "int-limit") word) refl h.int_limit_row;
}

-- ---- what the rows answer

pub first_file : (file budget int_limit : Option Word) (rows : List Row) → Holds file budget int_limit rows → first_of (codes "file") rows ≡ file
first_file file budget int_limit rows h = value_in (codes "file") file rows h.file_row

pub first_budget : (file budget int_limit : Option Word) (rows : List Row) → Holds file budget int_limit rows → first_of (codes "budget") rows ≡ budget
first_budget file budget int_limit rows h = value_in (codes "budget") budget rows h.budget_row

pub first_int_limit : (file budget int_limit : Option Word) (rows : List Row) → Holds file budget int_limit rows → first_of (codes "int-limit") rows ≡ int_limit
first_int_limit file budget int_limit rows h = value_in (codes "int-limit") int_limit rows h.int_limit_row

pub file_is_given : (word : Word) (budget int_limit : Option Word) (rows : List Row) → Holds (Some word) budget int_limit rows → is_given (codes "file") rows ≡ true
file_is_given word budget int_limit rows h = rw h.file_row refl
