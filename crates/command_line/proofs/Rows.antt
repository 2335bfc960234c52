-- The rows of a parser's matches, where each argument was given once at most.
use Rattle.std.proofs.Common.{◌≡◌, ◌∙◌, ◌||◌, Bool, true, false, cond, refl, ap, List, [], ◌∷◌, ◌++◌, Option, Some, None, append-nil, true≢false}
use Rattle.std.specs.List.{find}
use Rattle.std.specs.Option.{option_map, option_or}
use Rattle.std.specs.Str.{bytes_eq}
use Rattle.std.proofs.lemmas.List.Folds.{find-append}
use Rattle.clap.specs.Walk.{Row, Text, at_row, first_of, has_row, more_values, with_values, without}
use Rattle.clap.specs.declared.builder.value_parser.Reading.TheVariants.{AsWritten}
use Rattle.clap.specs.declared.parser.matches.ValueSource.TheVariants.{CommandLine}
use Rattle.command_line.specs.Words.{Word}

abbrev pub has_id : Text → Row → Bool
has_id id r = bytes_eq r.id id

-- the row of an argument that was given once
abbrev pub row_for : Text → Word → Row
row_for id word = record {
  id = id;
  values = word ∷ [];
  count = None;
  source = Some CommandLine;
  reading = AsWritten;
}

-- ---- whether there is a row

pub no_row : (id : Text) (rows : List Row) → find (has_id id) rows ≡ None → has_row id rows ≡ false
no_row id [] none = refl
no_row id (r ∷ rs) none = go (has_id id r) (no_row id rs) none
  where
    go : (b : Bool) → (find (has_id id) rs ≡ None → has_row id rs ≡ false) → cond b (Some r) (find (has_id id) rs) ≡ None → (b || has_row id rs) ≡ false
    go true later e = absurd cc
    go false later e = later e

pub some_row : (id : Text) (rows : List Row) (row : Row) → find (has_id id) rows ≡ Some row → has_row id rows ≡ true
some_row id [] row found = absurd cc
some_row id (r ∷ rs) row found = go (has_id id r) (some_row id rs row) found
  where
    go : (b : Bool) → (find (has_id id) rs ≡ Some row → has_row id rs ≡ true) → cond b (Some r) (find (has_id id) rs) ≡ Some row → (b || has_row id rs) ≡ true
    go true later e = refl
    go false later e = later e

-- ---- a row that is new

pub at_end : (id : Text) (change : Row → List Row) (missing rows : List Row) → has_row id rows ≡ false → at_row id change missing rows ≡ rows ++ missing
at_end id change missing [] none = refl
at_end id change missing (r ∷ rs) none = go (has_id id r) (at_end id change missing rs) none
  where
    go : (b : Bool) → (has_row id rs ≡ false → at_row id change missing rs ≡ rs ++ missing) → (b || has_row id rs) ≡ false
        → cond b (change r ++ rs) (r ∷ at_row id change missing rs) ≡ r ∷ (rs ++ missing)
    go true later e = absurd (true≢false e)
    go false later e = ap (λ xs. r ∷ xs) (later e)

pub new_row : (id : Text) (word : Word) (rows : List Row) → has_row id rows ≡ false
    → with_values id AsWritten CommandLine (word ∷ []) (without id rows) ≡ rows ++ row_for id word ∷ []
new_row id word rows none =
    ap (with_values id AsWritten CommandLine (word ∷ [])) (at_end id (λ r. []) [] rows none ∙ append-nil rows)
    ∙ at_end id (more_values CommandLine (word ∷ [])) (row_for id word ∷ []) rows none

or_none : {X : Type 0} (o : Option X) → option_or o None ≡ o
or_none None = refl
or_none (Some x) = refl

pub found_new : (id : Text) (rows : List Row) (row : Row) → has_id id row ≡ true → find (has_id id) rows ≡ None → find (has_id id) (rows ++ row ∷ []) ≡ Some row
found_new id rows row is none = find-append (has_id id) rows (row ∷ []) ∙ ap (λ o. option_or o (find (has_id id) (row ∷ []))) none ∙ ap (λ b. cond b (Some row) None) is

pub found_old : (id : Text) (rows : List Row) (row : Row) → has_id id row ≡ false → find (has_id id) (rows ++ row ∷ []) ≡ find (has_id id) rows
found_old id rows row isnt = find-append (has_id id) rows (row ∷ []) ∙ ap (λ b. option_or (find (has_id id) rows) (cond b (Some row) None)) isnt ∙ or_none (find (has_id id) rows)

-- ---- what the rows answer

pub value_in : (id : Text) (given : Option Word) (rows : List Row) → find (has_id id) rows ≡ option_map (row_for id) given → first_of id rows ≡ given
value_in id None rows is = rw is refl
value_in id (Some word) rows is = rw is refl
