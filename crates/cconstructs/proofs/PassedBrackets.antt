-- Brackets and attributes' words are those by which tokens are passed over.
use Rattle.std.proofs.Common.{◌≡◌, ℕ, Bool, true, false, ◌||◌, not, if◌then◌else◌, refl, ap, sym, ◌∙◌, List, [], ◌∷◌, codes}
use Rattle.std.specs.List.{list_all, list_any}
use Rattle.std.specs.Str.{bytes_eq}
use Rattle.std.proofs.lemmas.Slice.Eq.{bytes_eq-Decides}
use Rattle.ctokens.specs.Symbol as symbol
use Rattle.ctokens.specs.declared.token.Token.{Token}
use Rattle.ctokens.specs.declared.token.TokenKind.{TokenKind}
use Rattle.ctokens.specs.declared.token.TokenKind.TheVariants.{Word, Number, Letter, Quoted, Mark}
use Rattle.ctokens.specs.Symbol.{is_opening, is_closing}
use Rattle.ctokens.specs.TokenSymbols.{token_symbol, bytes_of as token_bytes}
use Rattle.ctokens.specs.SymbolTables.{Rows, symbol_in, mark_rows, mark_symbol, passed_rows, keyword_rows, name_rows, passed_symbol, keyword_symbol, name_symbol, word_symbol, read_as, symbol_of}
use Rattle.cgrammar.proofs.Truth.{and-left, and-right}
use Rattle.cgrammar.specs.Terminals.{bytes_read, terminal_of}
use Rattle.cconstructs.specs.Layout.{is_attribute}
use Rattle.cconstructs.specs.OpenBrackets.{closes, opens}

-- what a claim about bytes says of each row of a table is what a test says of the row's symbol
abbrev same : Bool → Bool → Bool
same true b = b
same false b = not b

is_same : (a b : Bool) → same a b ≡ true → a ≡ b
is_same true b is = sym is
is_same false true is = is
is_same false false is = refl

agree : (rows : Rows) (claim : List ℕ → Bool) (test : _ → Bool) (otherwise : _) (bytes : List ℕ)
    → list_all (λ row. same (claim row.0) (test row.1)) rows ≡ true
    → (list_any (λ row. bytes_eq row.0 bytes) rows ≡ false → claim bytes ≡ test otherwise)
    → claim bytes ≡ test (symbol_in rows otherwise bytes)
agree [] claim test otherwise bytes all none = none refl
agree (row ∷ rows) claim test otherwise bytes all none =
    step (bytes_eq row.0 bytes) refl (agree rows claim test otherwise bytes (and-right (same (claim row.0) (test row.1)) (list_all (λ r. same (claim r.0) (test r.1)) rows) all)) none
  where
    step : (found : Bool) → bytes_eq row.0 bytes ≡ found
        → ((list_any (λ r. bytes_eq r.0 bytes) rows ≡ false → claim bytes ≡ test otherwise) → claim bytes ≡ test (symbol_in rows otherwise bytes))
        → (found || list_any (λ r. bytes_eq r.0 bytes) rows ≡ false → claim bytes ≡ test otherwise)
        → claim bytes ≡ test (if found then row.1 else symbol_in rows otherwise bytes)
    step true e further rest =
        ap claim (sym ((bytes_eq-Decides row.0 bytes).0 e))
        ∙ is_same (claim row.0) (test row.1) (and-left (same (claim row.0) (test row.1)) (list_all (λ r. same (claim r.0) (test r.1)) rows) all)
    step false e further rest = further rest

absent : (rows : Rows) (bytes name : List ℕ) → list_any (λ row. bytes_eq row.0 name) rows ≡ true → list_any (λ row. bytes_eq row.0 bytes) rows ≡ false → bytes_eq bytes name ≡ false
absent rows bytes name listed none = step (bytes_eq bytes name) refl
  where
    step : (b : Bool) → bytes_eq bytes name ≡ b → b ≡ false
    step false e = refl
    step true e =
        let wrong : true ≡ false = sym listed ∙ (ap (λ (n : List ℕ). list_any (λ row. bytes_eq row.0 n) rows) (sym ((bytes_eq-Decides bytes name).0 e)) ∙ none) in
        cc wrong

word_opening : (bytes : List ℕ) → false ≡ is_opening (word_symbol bytes)
unfolding passed_symbol keyword_symbol name_symbol
word_opening bytes =
    agree passed_rows (λ b. false) is_opening (keyword_symbol (name_symbol bytes) bytes) bytes refl
    (λ n. agree keyword_rows (λ b. false) is_opening (name_symbol bytes) bytes refl
    (λ m. agree name_rows (λ b. false) is_opening _ bytes refl (λ o. refl)))

mark_opening : (bytes : List ℕ) → (bytes_eq bytes (codes "(") || (bytes_eq bytes (codes "[") || bytes_eq bytes (codes "{"))) ≡ is_opening (mark_symbol bytes)
unfolding mark_symbol
mark_opening bytes =
    agree mark_rows (λ b. bytes_eq b (codes "(") || (bytes_eq b (codes "[") || bytes_eq b (codes "{"))) is_opening _ bytes refl
    (λ none. λ i. absent mark_rows bytes (codes "(") refl none i || (absent mark_rows bytes (codes "[") refl none i || absent mark_rows bytes (codes "{") refl none i))

word_closing : (bytes : List ℕ) → false ≡ is_closing (word_symbol bytes)
unfolding passed_symbol keyword_symbol name_symbol
word_closing bytes =
    agree passed_rows (λ b. false) is_closing (keyword_symbol (name_symbol bytes) bytes) bytes refl
    (λ n. agree keyword_rows (λ b. false) is_closing (name_symbol bytes) bytes refl
    (λ m. agree name_rows (λ b. false) is_closing _ bytes refl (λ o. refl)))

mark_closing : (bytes : List ℕ) → (bytes_eq bytes (codes ")") || (bytes_eq bytes (codes "]") || bytes_eq bytes (codes "}"))) ≡ is_closing (mark_symbol bytes)
unfolding mark_symbol
mark_closing bytes =
    agree mark_rows (λ b. bytes_eq b (codes ")") || (bytes_eq b (codes "]") || bytes_eq b (codes "}"))) is_closing _ bytes refl
    (λ none. λ i. absent mark_rows bytes (codes ")") refl none i || (absent mark_rows bytes (codes "]") refl none i || absent mark_rows bytes (codes "}") refl none i))

pub opens_exact : (text : List ℕ) (token : Token) → opens (terminal_of text token) ≡ is_opening (token_symbol text token)
unfolding symbol_of
opens_exact text token = step token.kind (token_bytes text token)
  where
    step : (kind : TokenKind) (bytes : List ℕ) → opens (record { kind = kind; bytes = bytes_read kind bytes; place = token.place }) ≡ is_opening (symbol_of kind bytes)
    step Word bytes = word_opening (read_as bytes)
    step Number bytes = refl
    step Letter bytes = refl
    step Quoted bytes = refl
    step Mark bytes = mark_opening bytes

pub closes_exact : (text : List ℕ) (token : Token) → closes (terminal_of text token) ≡ is_closing (token_symbol text token)
unfolding symbol_of
closes_exact text token = step token.kind (token_bytes text token)
  where
    step : (kind : TokenKind) (bytes : List ℕ) → closes (record { kind = kind; bytes = bytes_read kind bytes; place = token.place }) ≡ is_closing (symbol_of kind bytes)
    step Word bytes = word_closing (read_as bytes)
    step Number bytes = refl
    step Letter bytes = refl
    step Quoted bytes = refl
    step Mark bytes = mark_closing bytes

attribute_word : (bytes : List ℕ) → (bytes_eq bytes (codes "__attribute__") || bytes_eq bytes (codes "__attribute")) ≡ symbol.is_attribute (word_symbol bytes)
unfolding passed_symbol keyword_symbol name_symbol
attribute_word bytes =
    agree passed_rows (λ b. bytes_eq b (codes "__attribute__") || bytes_eq b (codes "__attribute")) symbol.is_attribute (keyword_symbol (name_symbol bytes) bytes) bytes refl
    (λ none. (λ i. absent passed_rows bytes (codes "__attribute__") refl none i || absent passed_rows bytes (codes "__attribute") refl none i)
    ∙ agree keyword_rows (λ b. false) symbol.is_attribute (name_symbol bytes) bytes refl
    (λ a. agree name_rows (λ b. false) symbol.is_attribute _ bytes refl (λ b. refl)))

attribute_mark : (bytes : List ℕ) → false ≡ symbol.is_attribute (mark_symbol bytes)
unfolding mark_symbol
attribute_mark bytes = agree mark_rows (λ b. false) symbol.is_attribute _ bytes refl (λ none. refl)

pub attribute_exact : (text : List ℕ) (token : Token) → is_attribute (terminal_of text token) ≡ symbol.is_attribute (token_symbol text token)
unfolding symbol_of
attribute_exact text token = step token.kind (token_bytes text token)
  where
    step : (kind : TokenKind) (bytes : List ℕ) → is_attribute (record { kind = kind; bytes = bytes_read kind bytes; place = token.place }) ≡ symbol.is_attribute (symbol_of kind bytes)
    step Word bytes = attribute_word (read_as bytes)
    step Number bytes = refl
    step Letter bytes = refl
    step Quoted bytes = refl
    step Mark bytes = attribute_mark bytes
