-- A word needs to be looked for only among those that have as many bytes.
use Rattle.std.specs.Prelude.{◌≡◌, ℕ, ◌-◌, ◌<◌, Bool, true, false, ◌&&◌, ◌||◌, nat_eq, if◌then◌else◌, List, [], ◌∷◌, ◌++◌, length, codes}
use Rattle.std.specs.List.{list_all, list_any}
use Rattle.std.specs.Str.{bytes_eq}
use Rattle.std.proofs.Common.{refl, sym, ap, ◌∙◌, arith, eq-eqb}
use Rattle.std.proofs.lemmas.Bool.{eqb-true, ne_eqb}
use Rattle.std.proofs.lemmas.Slice.Eq.{bytes_eq-Decides}
use Rattle.ctokens.specs.declared.symbol.Symbol.{Symbol}
use Rattle.ctokens.specs.declared.symbol.Symbol.TheVariants.{Name}
use Rattle.ctokens.specs.SymbolTables.{Rows, passed_rows, keyword_rows, name_rows, symbol_in, name_symbol, keyword_symbol, passed_symbol, word_symbol, read_as}
use Rattle.ctokens.specs.WordLengths.{of_length, word_rows}
use Rattle.ctokens.proofs.Choices.{chosen_no}

-- words of two lengths are not the same
pub not_same : (first second : List ℕ) → nat_eq (length first) (length second) ≡ false → bytes_eq first second ≡ false
not_same first second differ = step (bytes_eq first second) refl
  where
    step : (same : Bool) → bytes_eq first second ≡ same → same ≡ false
    step true is =
        let lengths = ap (λ (bytes : List ℕ). nat_eq (length bytes) (length second)) ((bytes_eq-Decides first second).0 is) in
        let no : true ≡ false = sym (lengths ∙ eq-eqb (length second) (length second) refl) ∙ differ in
        absurd cc
    step false is = refl

-- the symbol of a word is found among those of its length
one_length : (rows : Rows) (otherwise : Symbol) (bytes : List ℕ)
    → symbol_in (of_length (length bytes) rows) otherwise bytes ≡ symbol_in rows otherwise bytes
one_length [] otherwise bytes = refl
one_length (row ∷ rows) otherwise bytes = step (nat_eq (length row.0) (length bytes)) refl (one_length rows otherwise bytes)
  where
    step : (same : Bool) → nat_eq (length row.0) (length bytes) ≡ same
        → symbol_in (of_length (length bytes) rows) otherwise bytes ≡ symbol_in rows otherwise bytes
        → symbol_in (if same then row ∷ of_length (length bytes) rows else of_length (length bytes) rows) otherwise bytes
        ≡ (if bytes_eq row.0 bytes then row.1 else symbol_in rows otherwise bytes)
    step true is others = ap (λ (symbol : Symbol). if bytes_eq row.0 bytes then row.1 else symbol) others
    step false is others = others ∙ sym (chosen_no (bytes_eq row.0 bytes) row.1 (symbol_in rows otherwise bytes) (not_same row.0 bytes is))

-- what stands in no row of a table is looked for in the next one
in_two : (first second : Rows) (otherwise : Symbol) (bytes : List ℕ)
    → symbol_in (first ++ second) otherwise bytes ≡ symbol_in first (symbol_in second otherwise bytes) bytes
in_two [] second otherwise bytes = refl
in_two (row ∷ rows) second otherwise bytes =
    ap (λ (symbol : Symbol). if bytes_eq row.0 bytes then row.1 else symbol) (in_two rows second otherwise bytes)

-- the three tables are one
in_all : (bytes : List ℕ) → symbol_in word_rows Name bytes ≡ word_symbol bytes
unfolding name_symbol keyword_symbol passed_symbol
in_all bytes =
    in_two passed_rows (keyword_rows ++ name_rows) Name bytes
    ∙ ap (λ (symbol : Symbol). symbol_in passed_rows symbol bytes) (in_two keyword_rows name_rows Name bytes)

pub by_length : (count : ℕ) (bytes : List ℕ) → length bytes ≡ count → symbol_in (of_length count word_rows) Name bytes ≡ word_symbol bytes
by_length count bytes is = ap (λ (many : ℕ). symbol_in (of_length many word_rows) Name bytes) (sym is) ∙ (one_length word_rows Name bytes ∙ in_all bytes)

-- a word is not the same as a longer one
not_longer : (count : ℕ) (word bytes : List ℕ) → length word ≡ count → length bytes < count → bytes_eq bytes word ≡ false
not_longer count word bytes is short = not_same bytes word (ne_eqb (length bytes) (length word) (λ same. omega (arith, same, is, short)))

-- a short word is spelled as it is read
pub as_spelled : (bytes : List ℕ) → length bytes < 8 → read_as bytes ≡ bytes
unfolding read_as
as_spelled bytes short =
    let ten : length bytes < 10 = omega (arith, short) in
    chosen_no (bytes_eq bytes (codes "__signed__")) (codes "signed") _ (not_longer 10 (codes "__signed__") bytes refl ten)
    ∙ (chosen_no (bytes_eq bytes (codes "__typeof__")) (codes "typeof") _ (not_longer 10 (codes "__typeof__") bytes refl ten)
    ∙ chosen_no (bytes_eq bytes (codes "__typeof")) (codes "typeof") bytes (not_longer 8 (codes "__typeof") bytes refl short))

-- a word is none of some that all have at least so many bytes, where it has fewer
pub none_longer : (least : ℕ) (words : List (List ℕ)) (bytes : List ℕ) → length bytes < least
    → list_all (λ word. nat_eq (least - length word) 0) words ≡ true → list_any (bytes_eq bytes) words ≡ false
none_longer least [] bytes short all = refl
none_longer least (word ∷ words) bytes short all = step (nat_eq (least - length word) 0) refl all (λ others. none_longer least words bytes short others)
  where
    step : (long : Bool) → nat_eq (least - length word) 0 ≡ long → (long && list_all (λ word. nat_eq (least - length word) 0) words) ≡ true
        → (list_all (λ word. nat_eq (least - length word) 0) words ≡ true → list_any (bytes_eq bytes) words ≡ false)
        → (bytes_eq bytes word || list_any (bytes_eq bytes) words) ≡ false
    step true is all rest =
        let long : least - length word ≡ 0 = eqb-true (least - length word) 0 is in
        let other : bytes_eq bytes word ≡ false = not_same bytes word (ne_eqb (length bytes) (length word) (λ same. omega (arith, same, long, short))) in
        rw other (rest all)
    step false is all rest = absurd cc
