-- String literals: what is found at the front of a text is the only one.
use Rattle.std.specs.Prelude.{◌≡◌, ℕ, suc, ◌+◌, ◌≤◌, ◌<◌, Bool, true, false, ◌&&◌, ◌||◌, not, List, [], ◌∷◌, ◌++◌, length, take, drop, nat_eq, Option, None, Some, option_map, if◌then◌else◌}
use Rattle.std.specs.Option.{unwrap_or}
use Rattle.std.proofs.Common.{refl, sym, ◌∙◌, ap, arith, length-append, length-take-le}
use Rattle.std.proofs.lemmas.Bool.{eqb-true}
use Rattle.std.proofs.lemmas.List.{take-append-drop, append_assoc}
use Rattle.ctokens.proofs.Choices.{both_true, true_and, false_or, chosen_no}
use Rattle.ctokens.specs.Spelled.{is_plain_in_string, is_string}
use Rattle.ctokens.specs.Lengths.{move, by_move, closing_length, quoted_length}
use Rattle.ctokens.specs.declared.closing.Closing.{Closing}
use Rattle.ctokens.specs.declared.closing.Closing.TheVariants.{Quote}
use Rattle.ctokens.specs.declared.closing.Move.{Move}
use Rattle.ctokens.specs.declared.closing.Move.TheVariants.{Goes, Closes, Breaks}

-- what follows from a byte
abbrev pub next : Closing → Move → List ℕ → Option ℕ
next closing to others = by_move to (λ more. option_map (λ (n : ℕ). 1 + n) (closing_length closing more others)) (Some 1) None

-- a row takes bytes of the text alone
pub closing_length-inside : (closing : Closing) (kept : Bool) (text : List ℕ) (count : ℕ) → closing_length closing kept text ≡ Some count → count ≤ length text
closing_length-inside closing kept [] count h = absurd cc
closing_length-inside closing kept (byte ∷ others) count h =
    step (move closing kept byte) h (λ more rest tail. closing_length-inside closing more others rest tail)
  where
    goes : (more : Bool) (found : Option ℕ) → closing_length closing more others ≡ found → option_map (λ (n : ℕ). 1 + n) found ≡ Some count
        → ((more : Bool) (rest : ℕ) → closing_length closing more others ≡ Some rest → rest ≤ length others)
        → count ≤ length (byte ∷ others)
    goes more None is h tail = absurd cc
    goes more (Some rest) is h tail = let same : 1 + rest ≡ count = cc in omega (arith, same, tail more rest is)

    step : (to : Move) → next closing to others ≡ Some count
        → ((more : Bool) (rest : ℕ) → closing_length closing more others ≡ Some rest → rest ≤ length others)
        → count ≤ length (byte ∷ others)
    step (Goes more) h tail = goes more (closing_length closing more others) refl h tail
    step Closes h tail = let same : 1 ≡ count = cc in omega (arith, same)
    step Breaks h tail = absurd cc

-- a byte that stands for itself is passed
passed : (byte : ℕ) → is_plain_in_string byte ≡ true → move Quote false byte ≡ Goes false
passed byte h = step (nat_eq byte 34) (nat_eq byte 92) (nat_eq byte 10) h
  where
    step : (quote slash newline : Bool) → not (quote || (slash || newline)) ≡ true → (if quote then Closes else (if newline then Breaks else Goes slash)) ≡ Goes false
    step true slash newline h = absurd cc
    step false true newline h = absurd cc
    step false false true h = absurd cc
    step false false false h = refl

-- one byte more
further : (count total : ℕ) (found : Option ℕ) → found ≡ Some count → total ≡ 1 + count → option_map (λ (n : ℕ). 1 + n) found ≡ Some total
further count total found is whole = ap (option_map (λ (n : ℕ). 1 + n)) is ∙ ap Some (sym whole)

-- the bytes of a string in front of a quote are a row up to it
string_is_found : (string rest : List ℕ) → is_string string ≡ true → closing_length Quote false (string ++ 34 ∷ rest) ≡ Some (length string + 1)
string_is_found [] rest h = refl
string_is_found (first ∷ []) rest h =
    ap (λ (to : Move). next Quote to (34 ∷ rest)) (passed first h) ∙ further 1 (length (first ∷ []) + 1) (closing_length Quote false (34 ∷ rest)) refl refl
string_is_found (first ∷ (second ∷ others)) rest h =
    step (nat_eq first 92) refl h (string_is_found others rest) (string_is_found (second ∷ others) rest)
  where
    total : ℕ
    total = length (first ∷ (second ∷ others)) + 1

    step : (slash : Bool) → nat_eq first 92 ≡ slash → (if slash then is_string others else (is_plain_in_string first && is_string (second ∷ others))) ≡ true
        → (is_string others ≡ true → closing_length Quote false (others ++ 34 ∷ rest) ≡ Some (length others + 1))
        → (is_string (second ∷ others) ≡ true → closing_length Quote false ((second ∷ others) ++ 34 ∷ rest) ≡ Some (length (second ∷ others) + 1))
        → closing_length Quote false ((first ∷ (second ∷ others)) ++ 34 ∷ rest) ≡ Some (length (first ∷ (second ∷ others)) + 1)
    step true is h behind_two behind_one =
        let same : first ≡ 92 = eqb-true first 92 is in
        ap (λ (b : ℕ). next Quote (move Quote false b) (second ∷ (others ++ 34 ∷ rest))) same
        ∙ further (1 + (length others + 1)) (length (first ∷ (second ∷ others)) + 1) (closing_length Quote true (second ∷ (others ++ 34 ∷ rest)))
        (further (length others + 1) (1 + (length others + 1)) (closing_length Quote false (others ++ 34 ∷ rest)) (behind_two h) refl) (omega arith)
    step false is h behind_two behind_one =
        let (plain, tail) = both_true (is_plain_in_string first) (is_string (second ∷ others)) h in
        ap (λ (to : Move). next Quote to (second ∷ (others ++ 34 ∷ rest))) (passed first plain)
        ∙ further (length (second ∷ others) + 1) (length (first ∷ (second ∷ others)) + 1) (closing_length Quote false ((second ∷ others) ++ 34 ∷ rest)) (behind_one tail) (omega arith)

-- the bytes of a string, where a `\` may stand before them
abbrev string_behind : Bool → List ℕ → Bool
string_behind false string = is_string string
string_behind true [] = false
string_behind true (first ∷ others) = is_string others

record HasString (kept : Bool) (text : List ℕ) (count : ℕ) : Type 0 where
  string : List ℕ
  whole : take count text ≡ string ++ 34 ∷ []
  is_one : string_behind kept string ≡ true

-- one byte more in front of a string
longer : (kept more : Bool) (byte rest count : ℕ) (others : List ℕ) → 1 + rest ≡ count → (has : HasString more others rest) → string_behind kept (byte ∷ has.string) ≡ true
    → HasString kept (byte ∷ others) count
longer kept more byte rest count others is has is_one =
    let same : count ≡ suc rest = omega (arith, is) in
    record { string = byte ∷ has.string; whole = rw same (ap (λ (l : List ℕ). byte ∷ l) has.whole); is_one = is_one }

found_is_string : (kept : Bool) (text : List ℕ) (count : ℕ) → closing_length Quote kept text ≡ Some count → HasString kept text count
found_is_string kept [] count h = absurd cc
found_is_string true (byte ∷ others) count h = goes (closing_length Quote false others) refl h (found_is_string false others)
  where
    goes : (found : Option ℕ) → closing_length Quote false others ≡ found → option_map (λ (n : ℕ). 1 + n) found ≡ Some count
        → ((rest : ℕ) → closing_length Quote false others ≡ Some rest → HasString false others rest) → HasString true (byte ∷ others) count
    goes None is h tail = absurd cc
    goes (Some rest) is h tail = let has = tail rest is in longer true false byte rest count others (cc) has has.is_one
found_is_string false (byte ∷ others) count h =
    quote (nat_eq byte 34) (nat_eq byte 10) (nat_eq byte 92) refl refl refl h (found_is_string true others) (found_is_string false others)
  where
    taken_along : (string : List ℕ) → byte ≡ 92 → string_behind true string ≡ true → is_string (byte ∷ string) ≡ true
    taken_along [] slash h = absurd cc
    taken_along (second ∷ more) slash h = rw slash h

    stands : (string : List ℕ) → is_plain_in_string byte ≡ true → nat_eq byte 92 ≡ false → is_string string ≡ true → is_string (byte ∷ string) ≡ true
    stands [] plain no_slash h = plain
    stands (second ∷ more) plain no_slash h = chosen_no (nat_eq byte 92) _ _ no_slash ∙ true_and (is_plain_in_string byte) _ plain h

    goes : (more : Bool) (found : Option ℕ) → closing_length Quote more others ≡ found → option_map (λ (n : ℕ). 1 + n) found ≡ Some count
        → ((rest : ℕ) → closing_length Quote more others ≡ Some rest → HasString more others rest)
        → ((string : List ℕ) → string_behind more string ≡ true → is_string (byte ∷ string) ≡ true) → HasString false (byte ∷ others) count
    goes more None is h tail joins = absurd cc
    goes more (Some rest) is h tail joins = let has = tail rest is in longer false more byte rest count others (cc) has (joins has.string has.is_one)

    quote : (quote newline slash : Bool) → nat_eq byte 34 ≡ quote → nat_eq byte 10 ≡ newline → nat_eq byte 92 ≡ slash
        → next Quote (if quote then Closes else (if newline then Breaks else Goes slash)) others ≡ Some count
        → ((rest : ℕ) → closing_length Quote true others ≡ Some rest → HasString true others rest)
        → ((rest : ℕ) → closing_length Quote false others ≡ Some rest → HasString false others rest) → HasString false (byte ∷ others) count
    quote true newline slash is_quote is_newline is_slash h escaped tail =
        let same : count ≡ 1 = cc in
        record { string = []; whole = rw same (ap (λ (b : ℕ). b ∷ []) (eqb-true byte 34 is_quote)); is_one = refl }
    quote false true slash is_quote is_newline is_slash h escaped tail = absurd cc
    quote false false true is_quote is_newline is_slash h escaped tail =
        goes true (closing_length Quote true others) refl h escaped (λ string is_one. taken_along string (eqb-true byte 92 is_slash) is_one)
    quote false false false is_quote is_newline is_slash h escaped tail =
        goes false (closing_length Quote false others) refl h tail
        (λ string is_one. stands string (ap not (false_or (nat_eq byte 34) _ is_quote (false_or (nat_eq byte 92) (nat_eq byte 10) is_slash is_newline))) is_slash is_one)

-- the bytes are a string literal, as the definition of tokens says it
abbrev pub IsQuoted : List ℕ → Type 0
IsQuoted bytes = (string : List ℕ) × (bytes ≡ 34 ∷ (string ++ 34 ∷ [])) × (is_string string ≡ true)

-- what is found behind the first quote, as a length
abbrev quoted : Option ℕ → ℕ
quoted found = unwrap_or (option_map (λ (n : ℕ). 1 + n) found) 0

pub quoted_length-reaches : (text : List ℕ) → 0 < quoted_length text → IsQuoted (take (quoted_length text) text)
unfolding quoted_length
quoted_length-reaches [] some = absurd (omega arith)
quoted_length-reaches (first ∷ others) some = step (nat_eq first 34) (closing_length Quote false others) refl refl some
  where
    step : (quote : Bool) (found : Option ℕ) → nat_eq first 34 ≡ quote → closing_length Quote false others ≡ found → 0 < (if quote then quoted found else 0)
        → IsQuoted (take (if quote then quoted found else 0) (first ∷ others))
    step true None is_quote is some = absurd (omega arith)
    step true (Some count) is_quote is some =
        let one : 1 + count ≡ suc count = omega arith in
        let has = found_is_string false others count is in
        let same : first ≡ 34 = eqb-true first 34 is_quote in
        (has.string, rw (one, same) (ap (λ (l : List ℕ). 34 ∷ l) has.whole), has.is_one)
    step false found is_quote is some = absurd (omega arith)

pub quoted_length-exact : (text : List ℕ) (count : ℕ) → count ≤ length text → IsQuoted (take count text) → quoted_length text ≡ count
unfolding quoted_length
quoted_length-exact text count inside (string, is, is_one) =
    let rest : List ℕ = drop count text in
    let whole : text ≡ 34 ∷ (string ++ 34 ∷ rest) =
    sym (take-append-drop count text) ∙ (ap (λ (front : List ℕ). front ++ rest) is ∙ ap (λ (l : List ℕ). 34 ∷ l) (append_assoc string (34 ∷ []) rest)) in
    let taken : 1 + (length string + 1) ≡ count = omega (arith, length-take-le count text inside, ap length is, length-append string (34 ∷ [])) in
    rw whole (ap quoted (string_is_found string rest is_one) ∙ taken)

pub quoted_length-inside : (text : List ℕ) → quoted_length text ≤ length text
unfolding quoted_length
quoted_length-inside [] = omega arith
quoted_length-inside (first ∷ others) = step (nat_eq first 34) (closing_length Quote false others) refl
  where
    step : (quote : Bool) (found : Option ℕ) → closing_length Quote false others ≡ found → (if quote then quoted found else 0) ≤ length (first ∷ others)
    step true None is = omega arith
    step true (Some count) is = omega (arith, closing_length-inside Quote false others count is)
    step false found is = omega arith
