-- A set of words in the order in which they first stand, and the numbers of the words that were put in.
use Rattle.std.proofs.Common.{◌≡◌, ℕ, ◌+◌, ◌<◌, ◌≤◌, Bool, true, false, cond, Option, List, [], ◌∷◌, ◌++◌, Some, length, map, take, get_or, add-one, refl, sym, ap, ◌∙◌, subst, arith, nat_eq, inl, inr}
use Rattle.std.proofs.Math.Seq.{take-suc}
use Rattle.std.proofs.lemmas.Bool.{cases_lt, false≢true}
use denote.Ref.{Bor}
use Rattle.std.specs.List.{All, IsDistinct, slice_get, list_any}
use Rattle.std.specs.Cmp.Lexicographic.{pointwise, bytes_decides}
use Rattle.std.proofs.lemmas.List.Elements.{All-head, All-tail, All-weaker, All-push}
use Rattle.std.proofs.lemmas.List.{map-append, length-map, get_or_append_left, get_or-map, length-append}
use Rattle.std.proofs.lemmas.Option.{get_or_from_slice_get}
use Rattle.std.proofs.lemmas.Map.Keys.{apart_from_distinct}
use Rattle.indexmap.specs.IndexSet.{insert_key}
use Rattle.ctokens.specs.declared.symbol.Symbol.{Symbol}
use Rattle.ctokens.specs.declared.symbol.Lexeme.{Lexeme}
use Rattle.ctokens.specs.declared.token.Token.{Token}
use Rattle.ctokens.specs.declared.token.Tokens.{Tokens}
use Rattle.ctokens.specs.Entry.{IsTextRow}
use Rattle.ctokens.specs.ItemRows.{lexemes, symbols_in, words_in}
use Rattle.ctokens.specs.Numbering.{blank_behind, known, name_at, IsNumbering}
use Rattle.ctokens.specs.Passed.{read_symbols}
use Rattle.ctokens.specs.TokenSymbols.{symbols, token_word, words}

-- how the set compares words
abbrev pub is_same : Bor (List ℕ) → Bor (List ℕ) → Bool
is_same x y = pointwise nat_eq x.now y.now

abbrev pub texts : List (Bor (List ℕ)) → List (List ℕ)
texts keys = map (λ (key : Bor (List ℕ)). key.now) keys

pub record Numbered (keys : List (Bor (List ℕ))) (words : List (List ℕ)) (numbers : List ℕ) : Type 0 where
  pub below : All (λ number. number < length keys) numbers
  pub named : map (name_at (texts keys)) numbers ≡ words
  pub distinct : IsDistinct is_same keys
  pub few : length keys ≤ length words

kept : (keys : List (Bor (List ℕ))) (key : Bor (List ℕ)) (b : Bool) (n : ℕ) → n < length keys
    → name_at (texts (cond b keys (keys ++ key ∷ []))) n ≡ name_at (texts keys) n
kept keys key true n h = refl
kept keys key false n h =
    let inside : n < length (texts keys) = subst (λ (m : ℕ). n < m) (sym (length-map keys (λ (k : Bor (List ℕ)). k.now))) h in
    ap (λ xs. name_at xs n) (map-append (λ (k : Bor (List ℕ)). k.now) keys (key ∷ [])) ∙ get_or_append_left (texts keys) (key.now ∷ []) [] n inside

grown : (keys : List (Bor (List ℕ))) (key : Bor (List ℕ)) (b : Bool) → length keys ≤ length (cond b keys (keys ++ key ∷ []))
grown keys key true = omega arith
grown keys key false = rw length-append (omega arith)

grown_by_one : (keys : List (Bor (List ℕ))) (key : Bor (List ℕ)) (b : Bool) → length (cond b keys (keys ++ key ∷ [])) ≤ length keys + 1
grown_by_one keys key true = omega arith
grown_by_one keys key false = rw length-append (omega arith)

renamed : (names others : List (List ℕ)) (most : ℕ) (numbers : List ℕ) → ((n : ℕ) → n < most → name_at others n ≡ name_at names n)
    → All (λ n. n < most) numbers → map (name_at others) numbers ≡ map (name_at names) numbers
renamed names others most [] same below = refl
renamed names others most (n ∷ numbers) same below =
    let first = same n (All-head (λ n. n < most) n numbers below) in
    let rest = renamed names others most numbers same (All-tail (λ n. n < most) n numbers below) in
    ap (λ xs. name_at others n ∷ xs) rest ∙ ap (λ x. x ∷ map (name_at names) numbers) first

pub numbered_more : (keys after : List (Bor (List ℕ))) (words : List (List ℕ)) (numbers : List ℕ) (key : Bor (List ℕ)) (number : ℕ)
    → Numbered keys words numbers → after ≡ insert_key is_same keys key → number < length after
    → (stored : Bor (List ℕ)) × (slice_get after number ≡ Some stored) × (is_same key stored ≡ true) → IsDistinct is_same after
    → Numbered after (words ++ key.now ∷ []) (numbers ++ number ∷ [])
numbered_more keys after words numbers key number known is_after inside (stored, found, same) distinct =
    let b : Bool = list_any (is_same key) keys in
    let others : (n : ℕ) → n < length keys → name_at (texts after) n ≡ name_at (texts keys) n =
    λ n h. ap (λ xs. name_at (texts xs) n) is_after ∙ kept keys key b n h in
    let longer : length keys ≤ length after = subst (λ xs. length keys ≤ length xs) (sym is_after) (grown keys key b) in
    let by_one : length after ≤ length keys + 1 = subst (λ xs. length xs ≤ length keys + 1) (sym is_after) (grown_by_one keys key b) in
    let earlier : All (λ n. n < length after) numbers =
    All-weaker (λ n. n < length keys) (λ n. n < length after) (λ n h. omega arith) numbers known.below in
    let here : name_at (texts after) number ≡ key.now =
    get_or-map (λ (k : Bor (List ℕ)). k.now) after number stored [] inside
    ∙ (ap (λ (k : Bor (List ℕ)). k.now) (get_or_from_slice_get after number stored stored found)
    ∙ sym ((bytes_decides key.now stored.now).0 same)) in
    record {
      below = All-push (λ n. n < length after) numbers number earlier inside;
      named = map-append (name_at (texts after)) numbers (number ∷ [])
          ∙ (ap (λ xs. xs ++ name_at (texts after) number ∷ []) (renamed (texts keys) (texts after) (length keys) numbers others known.below ∙ known.named)
          ∙ ap (λ x. words ++ x ∷ []) here);
      distinct = distinct;
      few = rw length-append (let few = known.few in omega arith);
    }

-- a number that a word has already
pub numbered_again : (keys : List (Bor (List ℕ))) (words : List (List ℕ)) (numbers : List ℕ) (word : List ℕ) (number : ℕ)
    → Numbered keys words numbers → number < length keys → name_at (texts keys) number ≡ word → Numbered keys (words ++ word ∷ []) (numbers ++ number ∷ [])
numbered_again keys words numbers word number known inside here = record {
  below = All-push (λ n. n < length keys) numbers number known.below inside;
  named = map-append (name_at (texts keys)) numbers (number ∷ [])
      ∙ (ap (λ xs. xs ++ name_at (texts keys) number ∷ []) known.named ∙ ap (λ x. words ++ x ∷ []) here);
  distinct = known.distinct;
  few = rw length-append (let few = known.few in omega arith);
}

-- a word whose number is known is the empty one
pub known_word : (blank : Option ℕ) (word : List ℕ) (number : ℕ) → known blank word ≡ Some number → (word ≡ []) × (blank ≡ Some number)
known_word blank [] number is = (refl, is)
known_word blank (byte ∷ bytes) number is = absurd cc

-- there are at most so many names more than one as words
pub few_more : (keys after : List (Bor (List ℕ))) (words : List (List ℕ)) (numbers : List ℕ) (key : Bor (List ℕ)) → Numbered keys words numbers
    → after ≡ insert_key is_same keys key → length after ≤ length words + 1
few_more keys after words numbers key known is_after =
    let b : Bool = list_any (is_same key) keys in
    let few = known.few in
    let by_one : length after ≤ length keys + 1 = subst (λ xs. length xs ≤ length keys + 1) (sym is_after) (grown_by_one keys key b) in
    omega arith

-- the empty word has that number, if there is one
abbrev pub IsBlank : List (Bor (List ℕ)) → Option ℕ → Type 0
IsBlank keys blank = (number : ℕ) → blank ≡ Some number → (number < length keys) × (name_at (texts keys) number ≡ [])

-- it has that number still where one more word is put in, which may be the empty one
pub blank_more : (keys after : List (Bor (List ℕ))) (key : Bor (List ℕ)) (number : ℕ) (blank : Option ℕ)
    → IsBlank keys blank → after ≡ insert_key is_same keys key → number < length after
    → (stored : Bor (List ℕ)) × (slice_get after number ≡ Some stored) × (is_same key stored ≡ true) → IsBlank after (blank_behind blank key.now number)
blank_more keys after key number blank known is_after inside (stored, found, same) = step key.now refl
  where
    here : name_at (texts after) number ≡ key.now
    here = get_or-map (λ (k : Bor (List ℕ)). k.now) after number stored [] inside
        ∙ (ap (λ (k : Bor (List ℕ)). k.now) (get_or_from_slice_get after number stored stored found)
        ∙ sym ((bytes_decides key.now stored.now).0 same))

    old : (n : ℕ) → blank ≡ Some n → (n < length after) × (name_at (texts after) n ≡ [])
    old n is =
        let b : Bool = list_any (is_same key) keys in
        let within : n < length keys = (known n is).0 in
        let longer : length keys ≤ length after = subst (λ xs. length keys ≤ length xs) (sym is_after) (grown keys key b) in
        (omega arith, ap (λ xs. name_at (texts xs) n) is_after ∙ (kept keys key b n within ∙ (known n is).1))

    step : (bytes : List ℕ) → key.now ≡ bytes → IsBlank after (blank_behind blank bytes number)
    step [] is = λ n same. (subst (λ (m : ℕ). m < length after) (cc same) inside, subst (λ (m : ℕ). name_at (texts after) m ≡ []) (cc same) (here ∙ is))
    step (byte ∷ bytes) is = old

abbrev nobody : Bor (List ℕ)
nobody = record { ref_ptr = (0, 0); now = [] }

name_now : (keys : List (Bor (List ℕ))) (i : ℕ) → i < length keys → name_at (texts keys) i ≡ (get_or keys i nobody).now
name_now keys i h = get_or-map (λ (k : Bor (List ℕ)). k.now) keys i nobody [] h

apart : (keys : List (Bor (List ℕ))) (i j : ℕ) → IsDistinct is_same keys → i < j → j < length keys
    → name_at (texts keys) i ≡ name_at (texts keys) j → ⊥
apart keys i j distinct less inside same =
    let before : i < length keys = omega arith in
    let equal : (get_or keys i nobody).now ≡ (get_or keys j nobody).now = sym (name_now keys i before) ∙ (same ∙ name_now keys j inside) in
    let yes : is_same (get_or keys i nobody) (get_or keys j nobody) ≡ true = (bytes_decides (get_or keys i nobody).now (get_or keys j nobody).now).1 equal in
    let no : is_same (get_or keys i nobody) (get_or keys j nobody) ≡ false = apart_from_distinct is_same keys i j nobody distinct less inside in
    false≢true (sym no ∙ yes)

one_place : (keys : List (Bor (List ℕ))) (i j : ℕ) → IsDistinct is_same keys → i < length keys → j < length keys
    → name_at (texts keys) i ≡ name_at (texts keys) j → i ≡ j
one_place keys i j distinct hi hj same =
    elim (cases_lt i j) as (λ _. i ≡ j) [
      | inl less ↦ absurd (apart keys i j distinct less hj same)
      | inr more ↦ elim (cases_lt j i) as (λ _. i ≡ j) [
        | inl less ↦ absurd (apart keys j i distinct less hi (sym same))
        | inr other ↦ omega arith
      ]
    ]

pub numbering_of : (keys : List (Bor (List ℕ))) (words : List (List ℕ)) (numbers : List ℕ) (count : ℕ) → Numbered keys words numbers
    → count ≡ length keys → IsNumbering words numbers count
numbering_of keys words numbers count known is_count = record {
  names = texts keys;
  counted = length-map keys (λ (k : Bor (List ℕ)). k.now) ∙ sym is_count;
  below = subst (λ (m : ℕ). All (λ number. number < m) numbers) (sym is_count) known.below;
  named = known.named;
  apart = λ i j hi hj same. one_place keys i j known.distinct (omega arith) (omega arith) same;
  few = let few = known.few in omega arith;
}

pub same_numbered : (keys : List (Bor (List ℕ))) (words others : List (List ℕ)) (numbers more : List ℕ) → Numbered keys words numbers
    → words ≡ others → more ≡ numbers → Numbered keys others more
same_numbered keys words others numbers more known same now =
    subst (λ ns. Numbered keys others ns) (sym now) (subst (λ ws. Numbered keys ws numbers) same known)

take_one : {A : Type 0} (xs : List A) (i : ℕ) (other : A) → i < length xs → take (i + 1) xs ≡ take i xs ++ get_or xs i other ∷ []
take_one xs i other inside = rw add-one (take-suc xs i other inside)

-- ---- rows of tokens with numbers for their words

lexemes_of : {N : Type 0} (row : List (Lexeme N)) → row ≡ lexemes (symbols_in row) (words_in row)
lexemes_of [] = refl
lexemes_of (token ∷ row) = ap (λ xs. token ∷ xs) (lexemes_of row)

-- a row with these symbols whose words are numbered is that of the text
pub text_row_of : (t : Tokens) (row : List (Lexeme ℕ)) (count : ℕ) (read all : List Symbol) → IsNumbering (words t) (words_in row) count
    → symbols_in row ≡ read → read ≡ read_symbols all → all ≡ symbols t → IsTextRow t row count
text_row_of t row count read all numbered are_read is_read is_all = record {
  numbers = words_in row;
  numbered = numbered;
  is_row = lexemes_of row ∙ ap (λ ss. lexemes ss (words_in row)) (are_read ∙ (is_read ∙ ap read_symbols is_all));
}

-- the words of a row behind which one more token is put
pub words_more : (old new : List (Lexeme ℕ)) (token : Lexeme ℕ) → new ≡ old ++ token ∷ [] → words_in new ≡ words_in old ++ token.word ∷ []
words_more old new token is = ap words_in is ∙ map-append (λ (token : Lexeme ℕ). token.word) old (token ∷ [])

-- what the tokens of such a row are
pub symbols_more : (old new : List (Lexeme ℕ)) (token : Lexeme ℕ) (read : List Symbol) (i : ℕ) (other : Symbol) → new ≡ old ++ token ∷ [] → i < length read
    → token.symbol ≡ get_or read i other → symbols_in old ≡ take i read → symbols_in new ≡ take (i + 1) read
symbols_more old new token read i other is inside here known =
    ap symbols_in is ∙ (map-append (λ (token : Lexeme ℕ). token.symbol) old (token ∷ []) ∙ (ap (λ xs. xs ++ token.symbol ∷ []) known
    ∙ (ap (λ x. take i read ++ x ∷ []) here ∙ sym (take_one read i other inside))))

-- the words of the first tokens of a text and of one more
pub word_more : (text : List ℕ) (list : List Token) (i : ℕ) (other : Token) → i < length list
    → map (token_word text) (take i list) ++ token_word text (get_or list i other) ∷ [] ≡ map (token_word text) (take (i + 1) list)
word_more text list i other inside =
    sym (ap (map (token_word text)) (take_one list i other inside) ∙ map-append (token_word text) (take i list) (get_or list i other ∷ []))
