-- What the search finds is what main needs.
use Rattle.std.proofs.Common.{◌≡◌, ℕ, ◌<◌, Bool, true, false, cond, ◌||◌, List, [], ◌∷◌, length, map, Option, None, Some, zero, suc, refl, sym, ap, ◌∙◌, subst, inl, inr, arith, ltb}
use borrow.Author.Tests.{ltb-true, ltb-false}
use Rattle.std.specs.List.{All, Contains, list_any}
use Rattle.std.proofs.lemmas.List.{length-map}
use Rattle.std.proofs.lemmas.List.Elements.{All-head, All-tail, Contains-append_left, Contains-append_right, Contains-push, Contains-append_cases, Contains-push_cases}
use Rattle.ctokens.specs.declared.entry.Entry.{Entry}
use Rattle.ctokens.specs.declared.item_span.ItemSpan.{ItemSpan}
use Rattle.ctokens.specs.declared.symbol.Lexeme.{Lexeme}
use Rattle.ctokens.specs.declared.symbol.Symbol.{Symbol}
use Rattle.ctokens.specs.declared.symbol.Symbol.TheVariants.{Other}
use Rattle.ctokens.specs.declared.token.Tokens.{Tokens}
use Rattle.ctokens.specs.Entry.{IsTextRow, entry_of, entries_of, is_main_entry}
use Rattle.ctokens.specs.Need.{AreNeeded, IsNeed, Needed, Defining, Offering, contained, defines_main, item_at, needed_by}
use Rattle.ctokens.specs.ItemRows.{item_row, item_rows, lexemes}
use Rattle.ctokens.specs.NeedSearch.{Reached, Starting, Leading, entry_at, found, need_of, no_entry}
use Rattle.ctokens.specs.Numbering.{IsNumbering, name_at}
use Rattle.ctokens.specs.Passed.{read_symbols}
use Rattle.ctokens.specs.TokenSymbols.{symbols, words}
use Rattle.ctokens.proofs.Found.{AreNamed, found_all, found_ascending, found_only}
use Rattle.ctokens.proofs.Marks.{contains_cons, contains_none}
use Rattle.ctokens.proofs.Renamed.{all_renamed, defines_main-renamed, needed_by-renamed, contained-renamed, lexemes-renamed, item_row-renamed}

-- ---- lists of names

contains-map : {X : Type 0} (f : ℕ → X) (xs : List ℕ) (x : ℕ) → Contains xs x → Contains (map f xs) (f x)
contains-map f [] x h = absurd (contains_none x h)
contains-map f (y ∷ xs) x h =
    elim (contains_cons y xs x h) as (λ _. Contains (f y ∷ map f xs) (f x)) [
      | inl same ↦ subst (λ (z : ℕ). Contains (f y ∷ map f xs) (f z)) same (Contains-append_left (f y ∷ []) (map f xs) (f y) (Contains-push [] (f y)))
      | inr rest ↦ Contains-append_right (f y ∷ []) (map f xs) (f x) (contains-map f xs x rest)
    ]

map-contains : (f : ℕ → List ℕ) (xs : List ℕ) (name : List ℕ) → Contains (map f xs) name → (x : ℕ) × Contains xs x × (f x ≡ name)
map-contains f [] name (i, less, is) = absurd (omega arith)
map-contains f (y ∷ xs) name h =
    elim (Contains-append_cases (f y ∷ []) (map f xs) name h) as (λ _. (x : ℕ) × Contains (y ∷ xs) x × (f x ≡ name)) [
      | inl first ↦ elim (Contains-push_cases [] (f y) name first) as (λ _. (x : ℕ) × Contains (y ∷ xs) x × (f x ≡ name)) [
        | inl nowhere ↦ let less = nowhere.1 in absurd (omega arith)
        | inr same ↦ (y, Contains-append_left (y ∷ []) xs y (Contains-push [] y), same)
      ]
      | inr rest ↦ let found = map-contains f xs name rest in (found.0, Contains-append_right (y ∷ []) xs found.0 found.1, found.2)
    ]

same_at : {X : Type 0} (f g : ℕ → X) (xs : List ℕ) (x : ℕ) → map f xs ≡ map g xs → Contains xs x → f x ≡ g x
same_at f g [] x e h = absurd (contains_none x h)
same_at f g (y ∷ xs) x e h =
    let first : f y ≡ g y = cc in
    let rest : map f xs ≡ map g xs = cc in
    elim (contains_cons y xs x h) as (λ _. f x ≡ g x) [
      | inl same ↦ subst (λ (z : ℕ). f z ≡ g z) same first
      | inr later ↦ same_at f g xs x rest later
    ]

-- ---- an item under other names

row-under : {X : Type 0} (f : ℕ → X) (text : List Symbol) (numbers : List ℕ) (span : ItemSpan)
    → all_renamed f (item_row (lexemes text numbers) span) ≡ item_row (lexemes text (map f numbers)) span
row-under {X} f text numbers span = item_row-renamed f (lexemes text numbers) span ∙ ap (λ (row : List (Lexeme X)). item_row row span) (lexemes-renamed f text numbers)

needed_by-under : {X : Type 0} (f : ℕ → X) (text : List Symbol) (numbers : List ℕ) (span : ItemSpan)
    → map f (needed_by (item_row (lexemes text numbers) span)) ≡ needed_by (item_row (lexemes text (map f numbers)) span)
needed_by-under {X} f text numbers span =
    needed_by-renamed f (item_row (lexemes text numbers) span) ∙ ap (λ (row : List (Lexeme X)). needed_by row) (row-under f text numbers span)

contained-under : {X : Type 0} (f : ℕ → X) (text : List Symbol) (numbers : List ℕ) (span : ItemSpan)
    → map f (contained Other (item_row (lexemes text numbers) span)) ≡ contained Other (item_row (lexemes text (map f numbers)) span)
contained-under {X} f text numbers span =
    contained-renamed f Other (item_row (lexemes text numbers) span) ∙ ap (λ (row : List (Lexeme X)). contained Other row) (row-under f text numbers span)

defines_main-under : {X : Type 0} (f : ℕ → X) (text : List Symbol) (numbers : List ℕ) (span : ItemSpan)
    → defines_main (item_row (lexemes text numbers) span) ≡ defines_main (item_row (lexemes text (map f numbers)) span)
defines_main-under {X} f text numbers span =
    defines_main-renamed f (item_row (lexemes text numbers) span) ∙ ap (λ (row : List (Lexeme X)). defines_main row) (row-under f text numbers span)

-- ---- numbers stay below their bound

abbrev capped : ℕ → ℕ → Option ℕ
capped count n = cond (ltb n count) (Some n) None

below_capped : (b : Bool) (count n : ℕ) → ltb n count ≡ b → cond b (Some n) None ≡ Some n → n < count
below_capped true count n is e = omega (arith, ltb-true n count is)
below_capped false count n is e = absurd cc

capped_below : (b : Bool) (count n : ℕ) → ltb n count ≡ b → n < count → cond b (Some n) None ≡ Some n
capped_below true count n is h = refl
capped_below false count n is h = absurd (omega (arith, ltb-false n count is))

all_capped : (count : ℕ) (numbers : List ℕ) → All (λ n. n < count) numbers → map (capped count) numbers ≡ map (λ n. Some n) numbers
all_capped count [] below = refl
all_capped count (n ∷ numbers) below =
    ap (λ o. o ∷ map (capped count) numbers) (capped_below (ltb n count) count n refl (All-head (λ k. k < count) n numbers below))
    ∙ ap (λ os. Some n ∷ os) (all_capped count numbers (All-tail (λ k. k < count) n numbers below))

needed_by_below : (count : ℕ) (text : List Symbol) (numbers : List ℕ) (span : ItemSpan) (n : ℕ) → All (λ k. k < count) numbers
    → Contains (needed_by (item_row (lexemes text numbers) span)) n → n < count
needed_by_below count text numbers span n below h =
    let names = needed_by (item_row (lexemes text numbers) span) in
    let e : map (capped count) names ≡ map (λ k. Some k) names =
    needed_by-under (capped count) text numbers span
    ∙ (ap (λ (ns : List (Option ℕ)). needed_by (item_row (lexemes text ns) span)) (all_capped count numbers below) ∙ sym (needed_by-under (λ k. Some k) text numbers span)) in
    below_capped (ltb n count) count n refl (same_at (capped count) (λ k. Some k) names n e h)

contained_below : (count : ℕ) (text : List Symbol) (numbers : List ℕ) (span : ItemSpan) (n : ℕ) → All (λ k. k < count) numbers
    → Contains (contained Other (item_row (lexemes text numbers) span)) n → n < count
contained_below count text numbers span n below h =
    let names = contained Other (item_row (lexemes text numbers) span) in
    let e : map (capped count) names ≡ map (λ k. Some k) names =
    contained-under (capped count) text numbers span
    ∙ (ap (λ (ns : List (Option ℕ)). contained Other (item_row (lexemes text ns) span)) (all_capped count numbers below) ∙ sym (contained-under (λ k. Some k) text numbers span)) in
    below_capped (ltb n count) count n refl (same_at (capped count) (λ k. Some k) names n e h)

-- ---- entries and rows

-- an entry says of an item, by numbers, what the row says by words
record Matches (name : ℕ → List ℕ) (count : ℕ) (entry : Entry) (row : List (Lexeme (List ℕ))) : Type 0 where
  main : entry.main ≡ defines_main row
  offers : map name entry.offers ≡ needed_by row
  contains : map name entry.contains ≡ contained Other row
  offers_below : (n : ℕ) → Contains entry.offers n → n < count
  contains_below : (n : ℕ) → Contains entry.contains n → n < count

no_match : (name : ℕ → List ℕ) (count : ℕ) → Matches name count no_entry []
unfolding defines_main needed_by
no_match name count = record {
  main = refl;
  offers = refl;
  contains = refl;
  offers_below = λ n h. absurd (contains_none n h);
  contains_below = λ n h. absurd (contains_none n h);
}

span_matches : (name : ℕ → List ℕ) (count : ℕ) (text : List Symbol) (numbers : List ℕ) (span : ItemSpan) → All (λ k. k < count) numbers
    → Matches name count (entry_of (item_row (lexemes text numbers) span)) (item_row (lexemes text (map name numbers)) span)
span_matches name count text numbers span below = record {
  main = defines_main-under name text numbers span;
  offers = needed_by-under name text numbers span;
  contains = contained-under name text numbers span;
  offers_below = λ n h. needed_by_below count text numbers span n below h;
  contains_below = λ n h. contained_below count text numbers span n below h;
}

abbrev rows_of : List (Lexeme (List ℕ)) → List ItemSpan → List (List (Lexeme (List ℕ)))
rows_of row items = map (item_row row) items

entry_matches : (name : ℕ → List ℕ) (count : ℕ) (text : List Symbol) (numbers : List ℕ) (items : List ItemSpan) (k : ℕ) → All (λ n. n < count) numbers
    → Matches name count (entry_at (entries_of (lexemes text numbers) items) k) (item_at (rows_of (lexemes text (map name numbers)) items) k)
entry_matches name count text numbers [] k below = no_match name count
entry_matches name count text numbers (span ∷ items) zero below = span_matches name count text numbers span below
entry_matches name count text numbers (span ∷ items) (suc k) below = entry_matches name count text numbers items k below

main_matches : (name : ℕ → List ℕ) (text : List Symbol) (numbers : List ℕ) (items : List ItemSpan)
    → list_any is_main_entry (entries_of (lexemes text numbers) items) ≡ list_any defines_main (rows_of (lexemes text (map name numbers)) items)
main_matches name text numbers [] = refl
main_matches name text numbers (span ∷ items) =
    ap (λ b. b || list_any is_main_entry (entries_of (lexemes text numbers) items)) (defines_main-under name text numbers span)
    ∙ ap (λ b. defines_main (item_row (lexemes text (map name numbers)) span) || b) (main_matches name text numbers items)

-- ---- both least sets are one

module _ (name : ℕ → List ℕ) (count : ℕ) (text : List Symbol) (numbers : List ℕ) (items : List ItemSpan) (below : All (λ n. n < count) numbers)
    (one : (i j : ℕ) → i < count → j < count → name i ≡ name j → i ≡ j) where
  abbrev es : List Entry
  es = entries_of (lexemes text numbers) items

  abbrev rs : List (List (Lexeme (List ℕ)))
  rs = rows_of (lexemes text (map name numbers)) items

  same_length : length es ≡ length rs
  same_length = length-map items (λ span. entry_of (item_row (lexemes text numbers) span)) ∙ sym (length-map items (item_row (lexemes text (map name numbers))))

  needed_from_reached : (k : ℕ) → Reached es k → Needed rs k
  needed_from_reached k (Starting _ less main) =
      let is = entry_matches name count text numbers items k below in
      Defining k (let e = same_length in omega arith) (sym is.main ∙ main)
  needed_from_reached k (Leading _ user n less reached contains offers) =
      let of_user = entry_matches name count text numbers items user below in
      let of_item = entry_matches name count text numbers items k below in
      Offering k user (name n) (let e = same_length in omega arith) (needed_from_reached user reached)
      (subst (λ xs. Contains xs (name n)) of_user.contains (contains-map name (entry_at es user).contains n contains))
      (subst (λ xs. Contains xs (name n)) of_item.offers (contains-map name (entry_at es k).offers n offers))

  reached_from_needed : (k : ℕ) → Needed rs k → Reached es k
  reached_from_needed k (Defining _ less main) =
      let is = entry_matches name count text numbers items k below in
      Starting k (let e = same_length in omega arith) (is.main ∙ main)
  reached_from_needed k (Offering _ user word less needed contains offers) =
      let of_user = entry_matches name count text numbers items user below in
      let of_item = entry_matches name count text numbers items k below in
      let there = map-contains name (entry_at es user).contains word (subst (λ xs. Contains xs word) (sym of_user.contains) contains) in
      let here = map-contains name (entry_at es k).offers word (subst (λ xs. Contains xs word) (sym of_item.offers) offers) in
      let same : there.0 ≡ here.0 =
      one there.0 here.0 (of_user.contains_below there.0 there.1) (of_item.offers_below here.0 here.1) (there.2 ∙ sym here.2) in
      Leading k user here.0 (let e = same_length in omega arith) (reached_from_needed user needed)
      (subst (λ (x : ℕ). Contains (entry_at es user).contains x) same there.1) here.1

  are_named : AreNamed es count
  are_named k n h = (entry_matches name count text numbers items k below).offers_below n h

  are_needed : AreNeeded rs (found es count)
  are_needed = record {
    ascending = found_ascending es count;
    all = λ k needed. found_all es count are_named k (reached_from_needed k needed);
    only = λ k h. needed_from_reached k (found_only es count are_named k h);
  }

pub need_none : (t : Tokens) (items : List ItemSpan) (numbers : List ℕ) (count : ℕ) → IsNumbering (words t) numbers count
    → list_any is_main_entry (entries_of (lexemes (read_symbols (symbols t)) numbers) items) ≡ false → IsNeed (item_rows t items) None
need_none t items numbers count is none =
    subst (λ ws. list_any defines_main (rows_of (lexemes (read_symbols (symbols t)) ws) items) ≡ false) is.named
    (sym (main_matches (name_at is.names) (read_symbols (symbols t)) numbers items) ∙ none)

pub need_some : (t : Tokens) (items : List ItemSpan) (numbers : List ℕ) (count : ℕ) → IsNumbering (words t) numbers count
    → list_any is_main_entry (entries_of (lexemes (read_symbols (symbols t)) numbers) items) ≡ true
    → IsNeed (item_rows t items) (Some (found (entries_of (lexemes (read_symbols (symbols t)) numbers) items) count))
need_some t items numbers count is some =
    let name = name_at is.names in
    let text = read_symbols (symbols t) in (
      subst (λ ws. list_any defines_main (rows_of (lexemes text ws) items) ≡ true) is.named (sym (main_matches name text numbers items) ∙ some),
      subst (λ ws. AreNeeded (rows_of (lexemes text ws) items) (found (entries_of (lexemes text numbers) items) count)) is.named
          (are_needed name count text numbers items is.below is.apart),
    )

need_by : (b : Bool) (t : Tokens) (items : List ItemSpan) (numbers : List ℕ) (count : ℕ) → IsNumbering (words t) numbers count
    → list_any is_main_entry (entries_of (lexemes (read_symbols (symbols t)) numbers) items) ≡ b
    → IsNeed (item_rows t items) (cond b (Some (found (entries_of (lexemes (read_symbols (symbols t)) numbers) items) count)) None)
need_by true t items numbers count is some = need_some t items numbers count is some
need_by false t items numbers count is none = need_none t items numbers count is none

pub need_exact : (t : Tokens) (items : List ItemSpan) (row : List (Lexeme ℕ)) (count : ℕ) → IsTextRow t row count → IsNeed (item_rows t items) (need_of (entries_of row items) count)
need_exact t items row count is =
    subst (λ (r : List (Lexeme ℕ)). IsNeed (item_rows t items) (need_of (entries_of r items) count)) (sym is.is_row)
    (need_by (list_any is_main_entry (entries_of (lexemes (read_symbols (symbols t)) is.numbers) items)) t items is.numbers count is.numbered refl)
