-- Rows of what typing hands on, of which the first one counts.
use Rattle.std.specs.Prelude.{List, [], ◌∷◌, Option, None, Some}
use Rattle.expressions.specs.declared.handed_row.HandedRow.{HandedRow}

abbrev pub or_else : {A : Type 0} → Option A → Option A → Option A
or_else None other = other
or_else (Some first) other = Some first

abbrev pub first_in : {A : Type 0} → (HandedRow → Option A) → List HandedRow → Option A
first_in here [] = None
first_in here (row ∷ rest) = or_else (here row) (first_in here rest)
