-- One token of a row, as it is read.
use Rattle.std.proofs.Common.{◌≡◌, ℕ, ◌-◌, ◌<◌, Bool, true, false, List, [], ◌∷◌, ◌++◌, zero, suc, map, drop, length, get_or, nat_eq, nat_le, codes, refl, ap, sym, subst, ◌∙◌, append_assoc, arith}
use Rattle.std.proofs.lemmas.Bool.{eqb-true, leb-true, leb-false}
use Rattle.std.proofs.lemmas.List.{length-take}
use Rattle.std.specs.List.{list_any}
use Rattle.std.specs.Str.{bytes_eq}
use Rattle.ctokens.specs.declared.token.Token.{Token}
use Rattle.ctokens.specs.declared.token.TokenKind.{TokenKind}
use Rattle.ctokens.specs.declared.token.TokenKind.TheVariants.{Word, Number, Letter, Quoted, Mark}
use Rattle.ctokens.specs.declared.symbol.Symbol.{Symbol}
use Rattle.ctokens.specs.declared.symbol.Symbol.TheVariants.{Name, PassedOver, Other}
use Rattle.ctokens.specs.Passed.{depth_after, is_word_kind, may_pass, read_from}
use Rattle.ctokens.specs.Symbol.{is_attribute, is_passed_over}
use Rattle.ctokens.specs.SymbolTables.{Rows, mark_rows, mark_symbol, read_as, symbol_in, symbol_of, word_symbol}
use Rattle.ctokens.specs.TokenSymbols.{bytes_of, token_symbol}
use Rattle.ctokens.specs.WordLengths.{of_length, word_rows}
use Rattle.ctokens.proofs.WordLengths.{by_length, not_same}

-- a token in the bracketed part of an attribute
pub read_inside : (behind : Bool) (unclosed : ℕ) (symbol : Symbol) (rest : List Symbol) → 0 < unclosed
    → read_from behind unclosed (symbol ∷ rest) ≡ PassedOver ∷ read_from false (depth_after unclosed symbol) rest
read_inside behind zero symbol rest h = absurd (omega arith)
read_inside behind (suc unclosed) symbol rest h = refl

-- without an attribute each token is read as it is
pub read_plain : (symbols : List Symbol) → list_any is_attribute symbols ≡ false → read_from false 0 symbols ≡ symbols
read_plain [] none = refl
read_plain (symbol ∷ rest) none = step (is_attribute symbol) refl (λ others. read_plain rest others)
  where
    step : (here : Bool) → is_attribute symbol ≡ here → (list_any is_attribute rest ≡ false → read_from false 0 rest ≡ rest)
        → read_from false 0 (symbol ∷ rest) ≡ symbol ∷ rest
    step true is others = absurd (cc (none, is))
    step false is others =
        let left : list_any is_attribute rest ≡ false = cc (none, is) in
        rw is (ap (λ (r : List Symbol). symbol ∷ r) (others left))

-- a test that no row of a table passes, nor what stands for the others
untrue_in : (test : Symbol → Bool) (rows : Rows) (otherwise : Symbol) (bytes : List ℕ) → test otherwise ≡ false
    → list_any (λ row. test row.1) rows ≡ false → test (symbol_in rows otherwise bytes) ≡ false
untrue_in test [] otherwise bytes other none = other
untrue_in test (row ∷ rows) otherwise bytes other none = step (test row.1) refl (bytes_eq row.0 bytes) refl (λ rest. untrue_in test rows otherwise bytes other rest)
  where
    step : (here : Bool) → test row.1 ≡ here → (same : Bool) → bytes_eq row.0 bytes ≡ same
        → (list_any (λ row. test row.1) rows ≡ false → test (symbol_in rows otherwise bytes) ≡ false)
        → test (symbol_in (row ∷ rows) otherwise bytes) ≡ false
    step true here same is others = absurd (cc (none, here))
    step false here true is others = rw is here
    step false here false is others = rw is (others (cc (none, here)))

-- what is no word neither begins an attribute nor is passed over

wordless_attribute : (kind : TokenKind) (bytes : List ℕ) → is_word_kind kind ≡ false → is_attribute (symbol_of kind bytes) ≡ false
unfolding symbol_of mark_symbol
wordless_attribute Word bytes is = absurd cc
wordless_attribute Number bytes is = refl
wordless_attribute Letter bytes is = refl
wordless_attribute Quoted bytes is = refl
wordless_attribute Mark bytes is = untrue_in is_attribute mark_rows Other bytes refl refl

wordless_kept : (kind : TokenKind) (bytes : List ℕ) → is_word_kind kind ≡ false → is_passed_over (symbol_of kind bytes) ≡ false
unfolding symbol_of mark_symbol
wordless_kept Word bytes is = absurd cc
wordless_kept Number bytes is = refl
wordless_kept Letter bytes is = refl
wordless_kept Quoted bytes is = refl
wordless_kept Mark bytes is = untrue_in is_passed_over mark_rows Other bytes refl refl

-- the symbol of a word among those of its length

of_rows : (count : ℕ) (bytes : List ℕ) → length bytes ≡ count → list_any (λ row. is_attribute row.1) (of_length count word_rows) ≡ false
    → is_attribute (word_symbol bytes) ≡ false
of_rows count bytes is none =
    subst (λ (symbol : Symbol). is_attribute symbol ≡ false) (by_length count bytes is) (untrue_in is_attribute (of_length count word_rows) Name bytes refl none)

kept_of_rows : (count : ℕ) (bytes : List ℕ) → length bytes ≡ count → list_any (λ row. is_passed_over row.1) (of_length count word_rows) ≡ false
    → is_passed_over (word_symbol bytes) ≡ false
kept_of_rows count bytes is none =
    subst (λ (symbol : Symbol). is_passed_over symbol ≡ false) (by_length count bytes is) (untrue_in is_passed_over (of_length count word_rows) Name bytes refl none)

-- nor is a word of fewer than four bytes

read_short : (bytes : List ℕ) → length bytes < 4 → read_as bytes ≡ bytes
unfolding read_as
read_short bytes few =
    rw (other_length (codes "__signed__") refl, other_length (codes "__typeof__") refl, other_length (codes "__typeof") refl) refl
  where
    other_length : (word : List ℕ) → nat_le 4 (length word) ≡ true → bytes_eq bytes word ≡ false
    other_length word long = step (nat_eq (length bytes) (length word)) refl
      where
        step : (same : Bool) → nat_eq (length bytes) (length word) ≡ same → bytes_eq bytes word ≡ false
        step true is = let lengths = eqb-true (length bytes) (length word) is in let more = leb-true 4 (length word) long in absurd (omega (arith, few, lengths, more))
        step false is = not_same bytes word is

short_attribute : (bytes : List ℕ) → length bytes < 4 → is_attribute (word_symbol bytes) ≡ false
short_attribute [] few = of_rows 0 [] refl refl
short_attribute (a ∷ []) few = of_rows 1 (a ∷ []) refl refl
short_attribute (a ∷ (b ∷ [])) few = of_rows 2 (a ∷ (b ∷ [])) refl refl
short_attribute (a ∷ (b ∷ (c ∷ []))) few = of_rows 3 (a ∷ (b ∷ (c ∷ []))) refl refl
short_attribute (a ∷ (b ∷ (c ∷ (d ∷ rest)))) few = absurd (omega (arith, few))

short_kept : (bytes : List ℕ) → length bytes < 4 → is_passed_over (word_symbol bytes) ≡ false
short_kept [] few = kept_of_rows 0 [] refl refl
short_kept (a ∷ []) few = kept_of_rows 1 (a ∷ []) refl refl
short_kept (a ∷ (b ∷ [])) few = kept_of_rows 2 (a ∷ (b ∷ [])) refl refl
short_kept (a ∷ (b ∷ (c ∷ []))) few = kept_of_rows 3 (a ∷ (b ∷ (c ∷ []))) refl refl
short_kept (a ∷ (b ∷ (c ∷ (d ∷ rest)))) few = absurd (omega (arith, few))

-- what may not be passed over is not

bytes_few : (text : List ℕ) (token : Token) → nat_le 4 (token.to - token.from) ≡ false → length (bytes_of text token) < 4
bytes_few text token few =
    let less = leb-false 4 (token.to - token.from) few in
    let taken = length-take (token.to - token.from) (drop token.from text) in
    omega (arith, less, taken)

plain_attribute : (text : List ℕ) (token : Token) → may_pass token ≡ false → is_attribute (token_symbol text token) ≡ false
unfolding symbol_of
plain_attribute text token plain = step token.kind refl (nat_le 4 (token.to - token.from)) refl
  where
    step : (kind : TokenKind) → token.kind ≡ kind → (long : Bool) → nat_le 4 (token.to - token.from) ≡ long → is_attribute (symbol_of kind (bytes_of text token)) ≡ false
    step Word is true long = absurd (cc (plain, is, long))
    step Word is false long =
        let few = bytes_few text token long in
        rw (read_short (bytes_of text token) few) (short_attribute (bytes_of text token) few)
    step Number is long h = refl
    step Letter is long h = refl
    step Quoted is long h = refl
    step Mark is long h = wordless_attribute Mark (bytes_of text token) refl

plain_kept : (text : List ℕ) (token : Token) → may_pass token ≡ false → is_passed_over (token_symbol text token) ≡ false
unfolding symbol_of
plain_kept text token plain = step token.kind refl (nat_le 4 (token.to - token.from)) refl
  where
    step : (kind : TokenKind) → token.kind ≡ kind → (long : Bool) → nat_le 4 (token.to - token.from) ≡ long → is_passed_over (symbol_of kind (bytes_of text token)) ≡ false
    step Word is true long = absurd (cc (plain, is, long))
    step Word is false long =
        let few = bytes_few text token long in
        rw (read_short (bytes_of text token) few) (short_kept (bytes_of text token) few)
    step Number is long h = refl
    step Letter is long h = refl
    step Quoted is long h = refl
    step Mark is long h = wordless_kept Mark (bytes_of text token) refl

-- outside of attributes such a token stays
pub read_wordless : (behind : Bool) (unclosed : ℕ) (text : List ℕ) (token : Token) (rest : List Symbol) → unclosed ≡ 0 → behind ≡ false → may_pass token ≡ false
    → map is_passed_over (read_from behind unclosed (token_symbol text token ∷ rest)) ≡ false ∷ map is_passed_over (read_from behind unclosed rest)
read_wordless true unclosed text token rest none outside is = absurd cc
read_wordless false (suc unclosed) text token rest none outside is = absurd (omega (arith, none))
read_wordless false zero text token rest none outside is =
    rw (plain_attribute text token is)
    (ap (λ (passed : Bool). passed ∷ map is_passed_over (read_from false 0 rest)) (plain_kept text token is))

pub rest_wordless : (behind : Bool) (unclosed : ℕ) (text : List ℕ) (list : List Token) (at : ℕ) (d : Token) → at < length list → unclosed ≡ 0 → behind ≡ false
    → may_pass (get_or list at d) ≡ false
    → map is_passed_over (read_from behind unclosed (map (token_symbol text) (drop at list)))
    ≡ false ∷ map is_passed_over (read_from behind unclosed (map (token_symbol text) (drop (suc at) list)))
rest_wordless behind unclosed text [] at d inside none outside is = absurd (omega (arith, inside))
rest_wordless behind unclosed text (token ∷ list) zero d inside none outside is =
    read_wordless behind unclosed text token (map (token_symbol text) list) none outside is
rest_wordless behind unclosed text (token ∷ list) (suc at) d inside none outside is =
    rest_wordless behind unclosed text list at d (omega (arith, inside)) none outside is

pub wordless_turn : (before after whole : List Bool) (behind : Bool) (unclosed : ℕ) (text : List ℕ) (list : List Token) (at : ℕ) (d : Token) → at < length list
    → unclosed ≡ 0 → behind ≡ false → may_pass (get_or list at d) ≡ false → after ≡ before ++ false ∷ []
    → before ++ map is_passed_over (read_from behind unclosed (map (token_symbol text) (drop at list))) ≡ whole
    → after ++ map is_passed_over (read_from behind unclosed (map (token_symbol text) (drop (suc at) list))) ≡ whole
wordless_turn before after whole behind unclosed text list at d inside none outside is more so_far =
    let rest : List Bool = map is_passed_over (read_from behind unclosed (map (token_symbol text) (drop (suc at) list))) in
    ap (λ (a : List Bool). a ++ rest) more
    ∙ (append_assoc before (false ∷ []) rest
    ∙ (ap (λ (r : List Bool). before ++ r) (sym (rest_wordless behind unclosed text list at d inside none outside is)) ∙ so_far))
