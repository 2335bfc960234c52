-- Which tests hold of tokens of which kind and spelling is known, and of the fronts of rows that they begin.
use Rattle.std.proofs.Common.{◌≡◌, ℕ, Bool, true, false, ◌&&◌, ◌||◌, not, refl, ap, sym, ◌∙◌, List, [], ◌∷◌, ◌++◌, length, drop, codes, ◌⊎◌, inl, inr}
use Rattle.std.specs.List.{list_any, list_all}
use Rattle.std.specs.Str.{bytes_eq}
use Rattle.ctokens.specs.declared.token.TokenKind.TheVariants.{Word, Mark}
use Rattle.ctokens.specs.Symbol.{is_identifier}
use Rattle.ctokens.specs.SymbolTables.{keyword_symbol, name_symbol, passed_symbol, word_symbol}
use Rattle.ctokens.proofs.Choices.{false_or}
use Rattle.cgrammar.proofs.Fronts.{stars_before, stars_before_nothing, drop_front}
use Rattle.cgrammar.proofs.Reached.{goes_on_type, goes_on_specifiers, is_storage}
use Rattle.cgrammar.proofs.Starting.{operand_not_mark}
use Rattle.cgrammar.proofs.TokenKinds.{mark_is_mark_kind, word_is_word_kind, mark_bytes, word_bytes, name_is_no_mark, name_is_no_word, mark_kind_is, word_kind_is, no_identifier}
use Rattle.cgrammar.proofs.Truth.{and-left, and-right, or-cases, of-any, or-left, or-right, false-of}
use Rattle.cgrammar.specs.TypeWords.{basic_words}
use Rattle.cgrammar.specs.FrontReadings.{is_basic_word}
use Rattle.cgrammar.specs.Firsts.{is_among, Begins}
use Rattle.cgrammar.specs.Outcomes.{has_first}
use Rattle.cgrammar.specs.ReadTypes.{star_count, behind_stars}
use Rattle.cgrammar.specs.Starts.{begins_operand, operand_marks}
use Rattle.cgrammar.specs.Terminals.{Terminal, is_word_kind, is_word, IsWord, is_mark, IsMark, is_name, IsName, is_left_out, are_stars, AreStars}

-- a token is known by its spelling
pub mark_is : (bytes : List ℕ) (token : Terminal) → IsMark bytes token → ◌≡◌ {A = Terminal} token (record { kind = Mark; bytes = bytes; place = token.place })
mark_is bytes token is = λ i. record { kind = mark_kind_is token.kind (mark_is_mark_kind bytes token is) i; bytes = mark_bytes bytes token is i; place = token.place }

pub word_is : (bytes : List ℕ) (token : Terminal) → IsWord bytes token → ◌≡◌ {A = Terminal} token (record { kind = Word; bytes = bytes; place = token.place })
word_is bytes token is = λ i. record { kind = word_kind_is token.kind (word_is_word_kind bytes token is) i; bytes = word_bytes bytes token is i; place = token.place }

pub by_mark : {A : Type 0} {answer : A} (f : Terminal → A) (bytes : List ℕ) (token : Terminal) → IsMark bytes token → f (record { kind = Mark; bytes = bytes; place = token.place }) ≡ answer → f token ≡ answer
by_mark f bytes token is more = ap f (mark_is bytes token is) ∙ more

pub by_word : {A : Type 0} {answer : A} (f : Terminal → A) (bytes : List ℕ) (token : Terminal) → IsWord bytes token → f (record { kind = Word; bytes = bytes; place = token.place }) ≡ answer → f token ≡ answer
by_word f bytes token is more = ap f (word_is bytes token is) ∙ more

-- a row that begins with one kind of token begins with one of a wider kind
pub begins_later : (test other : Terminal → Bool) → ((token : Terminal) → test token ≡ true → other token ≡ true) → (xs : List Terminal) → Begins test xs → Begins other xs
begins_later test other each [] begins = begins
begins_later test other each (token ∷ xs) begins = each token begins

-- a name is no keyword of a type or of a storage class
name_among : (words : List (List ℕ)) (token : Terminal) → list_all no_identifier words ≡ true → is_name token ≡ true → is_among words token ≡ false
unfolding no_identifier
name_among words token all is =
    false-of (is_among words token) (λ among.
    let any = and-right (is_word_kind token.kind) (list_any (bytes_eq token.bytes) words) among in
    let identifier = and-left (is_identifier (word_symbol token.bytes)) (not (is_left_out token.bytes)) (and-right (is_word_kind token.kind) (is_identifier (word_symbol token.bytes) && not (is_left_out token.bytes)) is) in
    let none : not true ≡ true = sym (ap not identifier) ∙ of-any no_identifier words token.bytes all any in
    cc none)

pub name_no_basic_word : (token : Terminal) → is_name token ≡ true → is_basic_word token ≡ false
unfolding keyword_symbol name_symbol passed_symbol no_identifier
name_no_basic_word token is = name_among basic_words token refl is

pub name_no_storage : (token : Terminal) → is_name token ≡ true → is_storage token ≡ false
name_no_storage token is =
    false_or (is_word (codes "typedef") token) (is_word (codes "extern") token || is_word (codes "static") token) (name_is_no_word (codes "typedef") token refl is)
    (false_or (is_word (codes "extern") token) (is_word (codes "static") token) (name_is_no_word (codes "extern") token refl is) (name_is_no_word (codes "static") token refl is))

pub name_no_type : (token : Terminal) → is_name token ≡ true → goes_on_type token ≡ false
name_no_type token is = false_or (is_basic_word token) (is_mark (codes "{") token) (name_no_basic_word token is) (name_is_no_mark (codes "{") token is)

pub name_no_specifiers : (token : Terminal) → is_name token ≡ true → goes_on_specifiers token ≡ false
name_no_specifiers token is = false_or (goes_on_type token) (is_storage token) (name_no_type token is) (name_no_storage token is)

-- a front that begins with a token
pub begins_apart : (test other : Terminal → Bool) (xs rest : List Terminal) → ((token : Terminal) → test token ≡ true → other token ≡ false) → Begins test xs → has_first other (xs ++ rest) ≡ false
begins_apart test other [] rest each begins = absurd begins
begins_apart test other (first ∷ xs) rest each begins = each first begins

pub operand_no_mark : (bytes : List ℕ) → list_any (bytes_eq bytes) operand_marks ≡ false → (token : Terminal) → begins_operand token ≡ true → is_mark bytes token ≡ false
operand_no_mark bytes none token is = false-of (is_mark bytes token) (λ mark. operand_not_mark bytes token none is mark)

pub operand_row_no_mark : (bytes : List ℕ) (xs rest : List Terminal) → list_any (bytes_eq bytes) operand_marks ≡ false → Begins begins_operand xs → has_first (is_mark bytes) (xs ++ rest) ≡ false
operand_row_no_mark bytes xs rest none begins = begins_apart begins_operand (is_mark bytes) xs rest (operand_no_mark bytes none) begins

-- stars at the front of a row
pub stars_front : (xs rest : List Terminal) → AreStars xs → has_first (is_mark (codes "*")) rest ≡ false → star_count (xs ++ rest) ≡ length xs
stars_front xs [] stars other = stars_before_nothing xs stars
stars_front xs (next ∷ rest) stars other = stars_before xs next rest stars other

pub behind_stars_front : (xs rest : List Terminal) → AreStars xs → has_first (is_mark (codes "*")) rest ≡ false → behind_stars (xs ++ rest) ≡ rest
behind_stars_front xs rest stars other = ap (λ (n : ℕ). drop n (xs ++ rest)) (stars_front xs rest stars other) ∙ drop_front xs rest

-- stars and what stands behind them do not begin with a token
pub stars_first : (test : Terminal → Bool) (xs rest : List Terminal) → ((token : Terminal) → IsMark (codes "*") token → test token ≡ false) → AreStars xs → has_first test rest ≡ false → has_first test (xs ++ rest) ≡ false
stars_first test [] rest each stars other = other
stars_first test (first ∷ xs) rest each stars other = each first (and-left (is_mark (codes "*") first) (are_stars xs) stars)

-- with what a declarator begins: a star or a name
abbrev pub begins_declarator : Terminal → Bool
begins_declarator token = is_mark (codes "*") token || is_name token

pub stars_and_name : (stars : List Terminal) (name : Terminal) (xs : List Terminal) → AreStars stars → IsName name → Begins begins_declarator (stars ++ (name ∷ xs))
stars_and_name [] name xs stars is = or-right (is_mark (codes "*") name) is
stars_and_name (first ∷ stars) name xs are is = or-left (is_name first) (and-left (is_mark (codes "*") first) (are_stars stars) are)

pub declarator_apart : (test : Terminal → Bool) → ((token : Terminal) → IsMark (codes "*") token → test token ≡ false) → ((token : Terminal) → is_name token ≡ true → test token ≡ false) → (token : Terminal) → begins_declarator token ≡ true → test token ≡ false
declarator_apart test star name token is = step (or-cases (is_mark (codes "*") token) (is_name token) is)
  where
    step : (is_mark (codes "*") token ≡ true) ⊎ (is_name token ≡ true) → test token ≡ false
    step (inl s) = star token s
    step (inr n) = name token n
