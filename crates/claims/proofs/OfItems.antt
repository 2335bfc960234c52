-- That each name which an item defines is one that it offers: the tokens of its two rows are read alike, one by one.
use Rattle.std.proofs.Common.{◌≡◌, ℕ, ◌+◌, ◌-◌, Bool, true, false, not, ◌&&◌, ◌||◌, if◌then◌else◌, List, [], ◌∷◌, ◌++◌, zero, suc, map, take, drop, nat_eq, codes, refl, sym, ap, subst, ◌∙◌, inl, inr, arith}
use Rattle.std.specs.Prelude.{◌⊎◌, slice_range}
use Rattle.std.specs.List.{Contains, list_any}
use Rattle.std.specs.Str.{bytes_eq}
use Rattle.std.proofs.lemmas.List.{map-append, drop-map, take-map}
use Rattle.std.proofs.lemmas.List.Elements.{Contains-append_left, Contains-append_right, Contains-append_cases}
use Rattle.std.proofs.lemmas.Slice.Eq.{bytes_eq-Decides}
use Rattle.ctokens.specs.Bodies as offered_body
use Rattle.ctokens.specs.ItemEnds as offered_end
use Rattle.ctokens.specs.ItemRows.{all_lexemes, kept, lexemes, item_row, words_in}
use Rattle.ctokens.specs.Need.{declares_built_in, needed_by}
use Rattle.ctokens.specs.Offered as offered
use Rattle.ctokens.specs.Passed.{passed_tokens, read_from, read_symbols, unpassed}
use Rattle.ctokens.specs.Passed as passed
use Rattle.ctokens.specs.Symbol as symbol
use Rattle.ctokens.specs.SymbolTables.{Rows, keyword_rows, name_rows, passed_rows, mark_rows, symbol_in, symbol_of, name_symbol, keyword_symbol, passed_symbol, mark_symbol, word_symbol, read_as}
use Rattle.ctokens.specs.TokenSymbols.{bytes_of, token_symbol, token_word, symbols, words}
use Rattle.ctokens.specs.declared.item_span.ItemSpan.{ItemSpan}
use Rattle.ctokens.specs.declared.token.Token.{Token}
use Rattle.ctokens.specs.declared.token.TokenKind.{TokenKind}
use Rattle.ctokens.specs.declared.token.TokenKind.TheVariants.{Word, Number, Letter, Quoted, Mark}
use Rattle.ctokens.specs.declared.token.Tokens.{Tokens}
use Rattle.definitions.specs.Defined as defined
use Rattle.definitions.specs.Roles as role
use Rattle.definitions.specs.Roles.{RoleRows, word_rows, role_in, role_of, token_role, word_role, mark_role}
use Rattle.definitions.specs.Rows as row
use Rattle.claims.specs.OfItems.{AreOffered, AreNeededBy, DoBodiesAgree}

-- the types that the two crates keep to themselves: what a token is to each, and rows of these
abbrev TypeOf : {X : Type 0} → X → Type 0
TypeOf {X} x = X

abbrev ItemOf : {X : Type 0} → List X → Type 0
ItemOf {X} xs = X

abbrev ResultOf : {X Y : Type 0} → (X → Y) → Type 0
ResultOf {X} {Y} f = Y

abbrev Symbol : Type 0
Symbol = TypeOf (name_symbol [])

abbrev Role : Type 0
Role = TypeOf (role_in [] [])

abbrev Lexeme : Type 0
Lexeme = ItemOf (lexemes {N = List ℕ} [] [])

abbrev Sign : Type 0
Sign = ResultOf (row.sign_of [])

abbrev Form : Type 0
Form = TypeOf (defined.form_of [])

-- the tokens of a row, as `ctokens` reads them
abbrev of_tokens : List ℕ → List Token → List Lexeme
of_tokens text tokens = lexemes (map (token_symbol text) tokens) (map (token_word text) tokens)

-- a choice of which both sides pass a test, or fail it
chosen : {X : Type 0} (test : X → Bool) (here value : Bool) (one other : X) → test one ≡ value → test other ≡ value → test (if here then one else other) ≡ value
chosen {X} test true value one other first second = first
chosen {X} test false value one other first second = second

-- two choices by one test
both_chosen : {X Y : Type 0} (test : X → Bool) (like : Y → Bool) (here also : Bool) (one two : X) (other next : Y) → here ≡ also
    → test one ≡ like other → test two ≡ like next → test (if here then one else two) ≡ like (if also then other else next)
both_chosen {X} {Y} test like true true one two other next is first second = first
both_chosen {X} {Y} test like false false one two other next is first second = second
both_chosen {X} {Y} test like true false one two other next is first second = absurd cc
both_chosen {X} {Y} test like false true one two other next is first second = absurd cc

-- what a table has for some bytes
abbrev in_table : {X : Type 0} → List (List ℕ × X) → X → List ℕ → X
in_table {X} [] otherwise bytes = otherwise
in_table {X} (first ∷ rows) otherwise bytes = if bytes_eq first.0 bytes then first.1 else in_table rows otherwise bytes

of_roles : (rows : RoleRows) (bytes : List ℕ) → role_in rows bytes ≡ in_table rows (role_in [] bytes) bytes
of_roles [] bytes = refl
of_roles (first ∷ rows) bytes = ap (λ r. if bytes_eq first.0 bytes then first.1 else r) (of_roles rows bytes)

of_symbols : (rows : Rows) (otherwise : Symbol) (bytes : List ℕ) → symbol_in rows otherwise bytes ≡ in_table rows otherwise bytes
of_symbols [] otherwise bytes = refl
of_symbols (first ∷ rows) otherwise bytes = ap (λ s. if bytes_eq first.0 bytes then first.1 else s) (of_symbols rows otherwise bytes)

-- a test that no row of a table passes, nor what stands for the others
untrue_in : {X : Type 0} (test : X → Bool) (rows : List (List ℕ × X)) (otherwise : X) (bytes : List ℕ) → test otherwise ≡ false
    → list_any (λ (r : List ℕ × X). test r.1) rows ≡ false → test (in_table rows otherwise bytes) ≡ false
untrue_in {X} test [] otherwise bytes other none = other
untrue_in {X} test (first ∷ rows) otherwise bytes other none = step (test first.1) refl (λ rest. untrue_in test rows otherwise bytes other rest)
  where
    step : (here : Bool) → test first.1 ≡ here
        → (list_any (λ (r : List ℕ × X). test r.1) rows ≡ false → test (in_table rows otherwise bytes) ≡ false)
        → test (in_table (first ∷ rows) otherwise bytes) ≡ false
    step true here others = absurd (cc (none, here))
    step false here others = chosen test (bytes_eq first.0 bytes) false first.1 (in_table rows otherwise bytes) here (others (cc (none, here)))

-- two tables with the same bytes, row by row, whose rows pass two tests alike; further rows of the second fail
abbrev AreAlike : {X Y : Type 0} → (X → Bool) → (Y → Bool) → List (List ℕ × X) → List (List ℕ × Y) → Type 0
AreAlike {X} {Y} test like [] [] = Unit {0}
AreAlike {X} {Y} test like [] (next ∷ others) = (like next.1 ≡ false) × AreAlike test like [] others
AreAlike {X} {Y} test like (first ∷ rows) [] = ⊥
AreAlike {X} {Y} test like (first ∷ rows) (next ∷ others) = (first.0 ≡ next.0) × ((test first.1 ≡ like next.1) × AreAlike test like rows others)

alike_in : {X Y : Type 0} (test : X → Bool) (like : Y → Bool) (rows : List (List ℕ × X)) (others : List (List ℕ × Y)) (one : X) (other : Y) (bytes : List ℕ)
    → test one ≡ false → like other ≡ false → AreAlike test like rows others → test (in_table rows one bytes) ≡ like (in_table others other bytes)
alike_in {X} {Y} test like [] [] one other bytes fails also_fails alike = fails ∙ sym also_fails
alike_in {X} {Y} test like [] (next ∷ others) one other bytes fails also_fails alike =
    fails ∙ sym (chosen like (bytes_eq next.0 bytes) false next.1 (in_table others other bytes) alike.0 (sym (alike_in test like [] others one other bytes fails also_fails alike.1) ∙ fails))
alike_in {X} {Y} test like (first ∷ rows) [] one other bytes fails also_fails alike = absurd alike
alike_in {X} {Y} test like (first ∷ rows) (next ∷ others) one other bytes fails also_fails alike =
    both_chosen test like (bytes_eq first.0 bytes) (bytes_eq next.0 bytes) first.1 (in_table rows one bytes) next.1 (in_table others other bytes)
    (ap (λ (key : List ℕ). bytes_eq key bytes) alike.0) alike.1.0 (alike_in test like rows others one other bytes fails also_fails alike.1.1)

-- a test that no word passes, by its role and by its symbol
no_role : (test : Role → Bool) (word : List ℕ) → test (word_role (codes "x")) ≡ false → test (role_in [] word) ≡ false → list_any (λ r. test r.1) word_rows ≡ false
    → test (word_role word) ≡ false
unfolding word_role passed_symbol keyword_symbol name_symbol
no_role test word name other none =
    chosen test (symbol.is_identifier (word_symbol word)) false _ (role_in word_rows word) name
    (ap test (of_roles word_rows word) ∙ untrue_in test word_rows (role_in [] word) word other none)

no_symbol : (test : Symbol → Bool) (word : List ℕ) → test (name_symbol (codes "x")) ≡ false → list_any (λ r. test r.1) name_rows ≡ false
    → list_any (λ r. test r.1) keyword_rows ≡ false → list_any (λ r. test r.1) passed_rows ≡ false → test (word_symbol word) ≡ false
unfolding name_symbol keyword_symbol passed_symbol
no_symbol test word name names keywords passed =
    ap test (of_symbols passed_rows (keyword_symbol (name_symbol word) word) word)
    ∙ untrue_in test passed_rows (keyword_symbol (name_symbol word) word) word
    (ap test (of_symbols keyword_rows (name_symbol word) word)
    ∙ untrue_in test keyword_rows (name_symbol word) word (ap test (of_symbols name_rows _ word) ∙ untrue_in test name_rows _ word name names) keywords) passed

-- tests that tokens pass alike, where words and marks do
token_alike : (test : Role → Bool) (like : Symbol → Bool) → test (role_in [] []) ≡ false → like (symbol_of Number []) ≡ false → AreAlike test like role.mark_rows mark_rows
    → ((word : List ℕ) → test (word_role word) ≡ like (word_symbol word)) → (kind : TokenKind) (bytes : List ℕ) → test (role_of kind bytes) ≡ like (symbol_of kind bytes)
unfolding symbol_of mark_role mark_symbol
token_alike test like fails also_fails marks spelled Word bytes = spelled (read_as bytes)
token_alike test like fails also_fails marks spelled Number bytes = fails ∙ sym also_fails
token_alike test like fails also_fails marks spelled Letter bytes = fails ∙ sym also_fails
token_alike test like fails also_fails marks spelled Quoted bytes = fails ∙ sym also_fails
token_alike test like fails also_fails marks spelled Mark bytes =
    ap test (of_roles role.mark_rows bytes) ∙ (alike_in test like role.mark_rows mark_rows (role_in [] bytes) (symbol_of Number []) bytes fails also_fails marks
    ∙ sym (ap like (of_symbols mark_rows (symbol_of Number []) bytes)))

-- a word that is no keyword is a name by both
name_alike : (word : List ℕ) → role.is_name (word_role word) ≡ symbol.is_identifier (word_symbol word)
unfolding word_role passed_symbol keyword_symbol name_symbol
name_alike word = step (symbol.is_identifier (word_symbol word))
  where
    step : (here : Bool) → role.is_name (if here then word_role (codes "x") else role_in word_rows word) ≡ here
    step true = refl
    step false = ap role.is_name (of_roles word_rows word) ∙ untrue_in role.is_name word_rows (role_in [] word) word refl refl

-- in two tables, one behind the other
in_two : {X : Type 0} (front back : List (List ℕ × X)) (otherwise : X) (bytes : List ℕ) → in_table (front ++ back) otherwise bytes ≡ in_table front (in_table back otherwise bytes) bytes
in_two {X} [] back otherwise bytes = refl
in_two {X} (first ∷ front) back otherwise bytes = ap (λ (x : X). if bytes_eq first.0 bytes then first.1 else x) (in_two front back otherwise bytes)

-- `asm` and its like may stand behind a name, by both, and no other word
follows_alike : (word : List ℕ) → role.follows_declared (word_role word) ≡ offered.follows_declared (word_symbol word)
unfolding word_role name_symbol keyword_symbol passed_symbol
follows_alike word = step (bytes_eq (codes "asm") word) refl (bytes_eq (codes "__asm") word) refl (bytes_eq (codes "__asm__") word) refl
  where
    is_same : (spelled : List ℕ) → bytes_eq spelled word ≡ true → role.follows_declared (word_role spelled) ≡ offered.follows_declared (word_symbol spelled)
        → role.follows_declared (word_role word) ≡ offered.follows_declared (word_symbol word)
    is_same spelled same = subst (λ (w : List ℕ). role.follows_declared (word_role w) ≡ offered.follows_declared (word_symbol w)) ((bytes_eq-Decides spelled word).0 same)

    by_role : bytes_eq (codes "asm") word ≡ false → bytes_eq (codes "__asm") word ≡ false → bytes_eq (codes "__asm__") word ≡ false
        → role.follows_declared (word_role word) ≡ false
    by_role first second third =
        chosen role.follows_declared (symbol.is_identifier (word_symbol word)) false _ (role_in word_rows word) refl
        (ap role.follows_declared (of_roles word_rows word ∙ in_two (take 6 word_rows) (drop 6 word_rows) (role_in [] word) word)
        ∙ untrue_in role.follows_declared (take 6 word_rows) (in_table (drop 6 word_rows) (role_in [] word) word) word (rw first (rw second (rw third refl))) refl)

    by_symbol : bytes_eq (codes "asm") word ≡ false → bytes_eq (codes "__asm") word ≡ false → bytes_eq (codes "__asm__") word ≡ false
        → offered.follows_declared (word_symbol word) ≡ false
    by_symbol first second third =
        let names : offered.follows_declared (name_symbol word) ≡ false =
        ap offered.follows_declared (of_symbols name_rows _ word) ∙ untrue_in offered.follows_declared name_rows _ word refl refl in
        let last : offered.follows_declared (in_table (drop 40 keyword_rows) (name_symbol word) word) ≡ false = rw first (rw second (rw third names)) in
        let keywords : offered.follows_declared (keyword_symbol (name_symbol word) word) ≡ false =
        ap offered.follows_declared (of_symbols keyword_rows (name_symbol word) word ∙ in_two (take 40 keyword_rows) (drop 40 keyword_rows) (name_symbol word) word)
        ∙ untrue_in offered.follows_declared (take 40 keyword_rows) (in_table (drop 40 keyword_rows) (name_symbol word) word) word last refl in
        ap offered.follows_declared (of_symbols passed_rows (keyword_symbol (name_symbol word) word) word)
        ∙ untrue_in offered.follows_declared passed_rows (keyword_symbol (name_symbol word) word) word keywords refl

    of_asm : role.follows_declared (word_role (codes "asm")) ≡ offered.follows_declared (word_symbol (codes "asm"))
    of_asm = refl

    of_asm_before : role.follows_declared (word_role (codes "__asm")) ≡ offered.follows_declared (word_symbol (codes "__asm"))
    of_asm_before = refl

    of_asm_around : role.follows_declared (word_role (codes "__asm__")) ≡ offered.follows_declared (word_symbol (codes "__asm__"))
    of_asm_around = refl

    step : (a : Bool) → bytes_eq (codes "asm") word ≡ a → (b : Bool) → bytes_eq (codes "__asm") word ≡ b → (c : Bool) → bytes_eq (codes "__asm__") word ≡ c
        → role.follows_declared (word_role word) ≡ offered.follows_declared (word_symbol word)
    step true first b second c third = is_same (codes "asm") first of_asm
    step false first true second c third = is_same (codes "__asm") second of_asm_before
    step false first false second true third = is_same (codes "__asm__") third of_asm_around
    step false first false second false third = by_role first second third ∙ sym (by_symbol first second third)

-- what the tokens of a text are, to both
module _ (text : List ℕ) (token : Token) where
  opening : role.is_opening (token_role text token) ≡ symbol.is_opening (token_symbol text token)
  unfolding word_role name_symbol keyword_symbol passed_symbol symbol_of
  opening = token_alike role.is_opening symbol.is_opening refl refl
      (refl, (refl, (refl, (refl, (refl, (refl, (refl, (refl, (refl, (refl, (refl, (refl, (refl, (refl, (refl, (refl, (refl, (refl, (refl, (refl, (refl, tt)))))))))))))))))))))
      (λ word. no_role role.is_opening word refl refl refl ∙ sym (no_symbol symbol.is_opening word refl refl refl refl)) token.kind (bytes_of text token)

  closing : role.is_closing (token_role text token) ≡ symbol.is_closing (token_symbol text token)
  unfolding word_role name_symbol keyword_symbol passed_symbol symbol_of
  closing = token_alike role.is_closing symbol.is_closing refl refl
      (refl, (refl, (refl, (refl, (refl, (refl, (refl, (refl, (refl, (refl, (refl, (refl, (refl, (refl, (refl, (refl, (refl, (refl, (refl, (refl, (refl, tt)))))))))))))))))))))
      (λ word. no_role role.is_closing word refl refl refl ∙ sym (no_symbol symbol.is_closing word refl refl refl refl)) token.kind (bytes_of text token)

  left_brace : role.is_left_brace (token_role text token) ≡ symbol.is_left_brace (token_symbol text token)
  unfolding word_role name_symbol keyword_symbol passed_symbol symbol_of
  left_brace = token_alike role.is_left_brace symbol.is_left_brace refl refl
      (refl, (refl, (refl, (refl, (refl, (refl, (refl, (refl, (refl, (refl, (refl, (refl, (refl, (refl, (refl, (refl, (refl, (refl, (refl, (refl, (refl, tt)))))))))))))))))))))
      (λ word. no_role role.is_left_brace word refl refl refl ∙ sym (no_symbol symbol.is_left_brace word refl refl refl refl)) token.kind (bytes_of text token)

  right_brace : role.is_right_brace (token_role text token) ≡ symbol.is_right_brace (token_symbol text token)
  unfolding word_role name_symbol keyword_symbol passed_symbol symbol_of
  right_brace = token_alike role.is_right_brace symbol.is_right_brace refl refl
      (refl, (refl, (refl, (refl, (refl, (refl, (refl, (refl, (refl, (refl, (refl, (refl, (refl, (refl, (refl, (refl, (refl, (refl, (refl, (refl, (refl, tt)))))))))))))))))))))
      (λ word. no_role role.is_right_brace word refl refl refl ∙ sym (no_symbol symbol.is_right_brace word refl refl refl refl)) token.kind (bytes_of text token)

  right_parenthesis : role.is_right_parenthesis (token_role text token) ≡ symbol.is_right_parenthesis (token_symbol text token)
  unfolding word_role name_symbol keyword_symbol passed_symbol symbol_of
  right_parenthesis = token_alike role.is_right_parenthesis symbol.is_right_parenthesis refl refl
      (refl, (refl, (refl, (refl, (refl, (refl, (refl, (refl, (refl, (refl, (refl, (refl, (refl, (refl, (refl, (refl, (refl, (refl, (refl, (refl, (refl, tt)))))))))))))))))))))
      (λ word. no_role role.is_right_parenthesis word refl refl refl ∙ sym (no_symbol symbol.is_right_parenthesis word refl refl refl refl)) token.kind (bytes_of text token)

  equals : role.is_equals (token_role text token) ≡ symbol.is_equals (token_symbol text token)
  unfolding word_role name_symbol keyword_symbol passed_symbol symbol_of
  equals = token_alike role.is_equals symbol.is_equals refl refl
      (refl, (refl, (refl, (refl, (refl, (refl, (refl, (refl, (refl, (refl, (refl, (refl, (refl, (refl, (refl, (refl, (refl, (refl, (refl, (refl, (refl, tt)))))))))))))))))))))
      (λ word. no_role role.is_equals word refl refl refl ∙ sym (no_symbol symbol.is_equals word refl refl refl refl)) token.kind (bytes_of text token)

  comma : role.is_comma (token_role text token) ≡ symbol.is_comma (token_symbol text token)
  unfolding word_role name_symbol keyword_symbol passed_symbol symbol_of
  comma = token_alike role.is_comma symbol.is_comma refl refl
      (refl, (refl, (refl, (refl, (refl, (refl, (refl, (refl, (refl, (refl, (refl, (refl, (refl, (refl, (refl, (refl, (refl, (refl, (refl, (refl, (refl, tt)))))))))))))))))))))
      (λ word. no_role role.is_comma word refl refl refl ∙ sym (no_symbol symbol.is_comma word refl refl refl refl)) token.kind (bytes_of text token)

  name : role.is_name (token_role text token) ≡ symbol.is_identifier (token_symbol text token)
  unfolding word_role name_symbol keyword_symbol passed_symbol symbol_of
  name = token_alike role.is_name symbol.is_identifier refl refl
      (refl, (refl, (refl, (refl, (refl, (refl, (refl, (refl, (refl, (refl, (refl, (refl, (refl, (refl, (refl, (refl, (refl, (refl, (refl, (refl, (refl, tt)))))))))))))))))))))
      name_alike token.kind (bytes_of text token)

  follows : role.follows_declared (token_role text token) ≡ offered.follows_declared (token_symbol text token)
  unfolding word_role name_symbol keyword_symbol passed_symbol symbol_of
  follows = token_alike role.follows_declared offered.follows_declared refl refl
      (refl, (refl, (refl, (refl, (refl, (refl, (refl, (refl, (refl, (refl, (refl, (refl, (refl, (refl, (refl, (refl, (refl, (refl, (refl, (refl, (refl, tt)))))))))))))))))))))
      follows_alike token.kind (bytes_of text token)

  depth : (before : ℕ) → row.depth_after before (token_role text token) ≡ passed.depth_after before (token_symbol text token)
  depth before =
      ap (λ (is : Bool). if is then before + 1 else (if role.is_closing (token_role text token) then before - 1 else before)) opening
      ∙ ap (λ (is : Bool). if symbol.is_opening (token_symbol text token) then before + 1 else (if is then before - 1 else before)) closing

  set_behind : (before : ℕ) (set : Bool) → defined.set_after before set (token_role text token) ≡ offered.set_after before set (token_symbol text token)
  set_behind before set =
      ap (λ (is : Bool). if nat_eq before 0 then (is || (not (role.is_comma (token_role text token)) && set)) else set) equals
      ∙ ap (λ (is : Bool). if nat_eq before 0 then (symbol.is_equals (token_symbol text token) || (not is && set)) else set) comma

-- where a word is defined, it is declared
all_of : (a n t d : Bool) → ((a && (n && t)) && d) ≡ true → (a && n) ≡ true
all_of true true t d is = refl
all_of true false t d is = absurd cc
all_of false n t d is = absurd cc

module _ (text : List ℕ) (form : Form) where
  at_front : (before : Role) (deep : ℕ) (set typed : Bool) (token : Token) (rest : List Token) → defined.defines_word form before deep set typed (map (row.sign_of text) (token ∷ rest)) ≡ true
      → offered.declared_at deep set (lexemes (map (token_symbol text) (token ∷ rest)) (map (token_word text) (token ∷ rest))) ≡ record { symbol = token_symbol text token; word = token_word text token } ∷ []
  at_front before deep set typed token [] is = absurd cc
  at_front before deep set typed token (next ∷ rest) is =
      let there : ((nat_eq deep 0 && not set) && (role.is_name (token_role text token) && role.follows_declared (token_role text next))) ≡ true =
      all_of (nat_eq deep 0 && not set) (role.is_name (token_role text token) && role.follows_declared (token_role text next)) _ _ is in
      let also : ((nat_eq deep 0 && not set) && (symbol.is_identifier (token_symbol text token) && offered.follows_declared (token_symbol text next))) ≡ true =
      ap (λ (b : Bool). (nat_eq deep 0 && not set) && (b && offered.follows_declared (token_symbol text next))) (sym (name text token))
      ∙ (ap (λ (b : Bool). (nat_eq deep 0 && not set) && (role.is_name (token_role text token) && b)) (sym (follows text next)) ∙ there) in
      rw also refl

  front : (before : Role) (deep : ℕ) (set typed : Bool) (token : Token) (rest : List Token) (word : List ℕ) (is : Bool)
      → defined.defines_word form before deep set typed (map (row.sign_of text) (token ∷ rest)) ≡ is
      → Contains (map (row.sign_word text) (if is then row.sign_of text token ∷ [] else [])) word
      → Contains (words_in (offered.declared_at deep set (lexemes (map (token_symbol text) (token ∷ rest)) (map (token_word text) (token ∷ rest))))) word
  front before deep set typed token rest word true is has = rw (at_front before deep set typed token rest is) has
  front before deep set typed token rest word false is (at, below, there) = absurd (omega (arith, below))

  offers : (before : Role) (deep : ℕ) (set typed : Bool) (tokens : List Token) (word : List ℕ)
      → Contains (map (row.sign_word text) (defined.defined_in form before deep set typed (map (row.sign_of text) tokens))) word
      → Contains (words_in (offered.declared deep set (lexemes (map (token_symbol text) tokens) (map (token_word text) tokens)))) word
  offers before deep set typed [] word has = has
  offers before deep set typed (token ∷ rest) word has =
      let one = if defined.defines_word form before deep set typed (map (row.sign_of text) (token ∷ rest)) then row.sign_of text token ∷ [] else [] in
      let others = defined.defined_in form (token_role text token) (row.depth_after deep (token_role text token)) (defined.set_after deep set (token_role text token))
      (defined.typed_after typed (token_role text token)) (map (row.sign_of text) rest) in
      let here = offered.declared_at deep set (lexemes (map (token_symbol text) (token ∷ rest)) (map (token_word text) (token ∷ rest))) in
      let behind = offered.declared (passed.depth_after deep (token_symbol text token)) (offered.set_after deep set (token_symbol text token)) (lexemes (map (token_symbol text) rest) (map (token_word text) rest)) in
      subst (λ (found : List (List ℕ)). Contains found word) (sym (map-append (λ (lexeme : Lexeme). lexeme.word) here behind))
      (elim (Contains-append_cases (map (row.sign_word text) one) (map (row.sign_word text) others) word
      (subst (λ (found : List (List ℕ)). Contains found word) (map-append (row.sign_word text) one others) has)) [
        | inl now ↦ Contains-append_left (words_in here) (words_in behind) word (front before deep set typed token rest word _ refl now)
        | inr later ↦ Contains-append_right (words_in here) (words_in behind) word
            (subst (λ (level : ℕ). Contains (words_in (offered.declared level (offered.set_after deep set (token_symbol text token)) (lexemes (map (token_symbol text) rest) (map (token_word text) rest)))) word) (depth text token deep)
            (subst (λ (is : Bool). Contains (words_in (offered.declared (row.depth_after deep (token_role text token)) is (lexemes (map (token_symbol text) rest) (map (token_word text) rest)))) word) (set_behind text token deep set)
            (offers (token_role text token) (row.depth_after deep (token_role text token)) (defined.set_after deep set (token_role text token))
            (defined.typed_after typed (token_role text token)) rest word later)))
      ])

-- a body, token by token
bodies : (text : List ℕ) (deep : ℕ) (before : Role) (also : Symbol) (body last : Bool) (tokens : List Token) → role.is_right_parenthesis before ≡ symbol.is_right_parenthesis also
    → row.has_body deep before body last (map (row.sign_of text) tokens) ≡ offered_body.has_body deep also body last (lexemes (map (token_symbol text) tokens) (map (token_word text) tokens))
bodies text deep before also body last [] alike = refl
bodies text deep before also body last (token ∷ rest) alike =
    let level = depth text token deep in
    let behind : row.body_after deep before body (token_role text token) ≡ offered_end.body_after deep also body (token_symbol text token) =
    ap (λ (is : Bool). if nat_eq deep 0 && is then role.is_left_brace (token_role text token) && role.is_right_parenthesis before else body) (opening text token)
    ∙ (ap (λ (is : Bool). if nat_eq deep 0 && symbol.is_opening (token_symbol text token) then is && role.is_right_parenthesis before else body) (left_brace text token)
    ∙ ap (λ (is : Bool). if nat_eq deep 0 && symbol.is_opening (token_symbol text token) then symbol.is_left_brace (token_symbol text token) && is else body) alike) in
    let ends : row.ends_body deep body (token_role text token) ≡ offered_end.ends_body deep body (token_symbol text token) =
    ap (λ (is : Bool). nat_eq deep 1 && (body && is)) (right_brace text token) in
    ap (λ (n : ℕ). row.has_body n (token_role text token) (row.body_after deep before body (token_role text token)) (row.ends_body deep body (token_role text token)) (map (row.sign_of text) rest)) level
    ∙ (ap (λ (is : Bool). row.has_body (passed.depth_after deep (token_symbol text token)) (token_role text token) is (row.ends_body deep body (token_role text token)) (map (row.sign_of text) rest)) behind
    ∙ (ap (λ (is : Bool). row.has_body (passed.depth_after deep (token_symbol text token)) (token_role text token)
    (offered_end.body_after deep also body (token_symbol text token)) is (map (row.sign_of text) rest)) ends
    ∙ bodies text (passed.depth_after deep (token_symbol text token)) (token_role text token) (token_symbol text token) (offered_end.body_after deep also body (token_symbol text token))
    (offered_end.ends_body deep body (token_symbol text token)) rest (right_parenthesis text token)))

-- each token is passed over, or read by its symbol
abbrev AreRead : List ℕ → List Token → List Symbol → Type 0
AreRead text [] [] = Unit {0}
AreRead text [] (read ∷ reads) = ⊥
AreRead text (token ∷ tokens) [] = ⊥
AreRead text (token ∷ tokens) (read ∷ reads) = ((symbol.is_passed_over read ≡ true) ⊎ (read ≡ token_symbol text token)) × AreRead text tokens reads

either_read : (text : List ℕ) (tokens : List Token) (one other : Bool) (a b c : List Symbol) → AreRead text tokens a → AreRead text tokens b → AreRead text tokens c
    → AreRead text tokens (if one then a else (if other then b else c))
either_read text tokens true other a b c first second third = first
either_read text tokens false true a b c first second third = second
either_read text tokens false false a b c first second third = third

all_read : (text : List ℕ) (behind : Bool) (unclosed : ℕ) (tokens : List Token) → AreRead text tokens (read_from behind unclosed (map (token_symbol text) tokens))
all_read text behind unclosed [] = tt
all_read text behind zero (token ∷ tokens) =
    either_read text (token ∷ tokens) (behind && symbol.is_opening (token_symbol text token)) (symbol.is_attribute (token_symbol text token)) _ _ _
    (inl refl, all_read text false 1 tokens) (inl refl, all_read text true 0 tokens) (inr refl, all_read text false 0 tokens)
all_read text behind (suc unclosed) (token ∷ tokens) = (inl refl, all_read text false (passed.depth_after (suc unclosed) (token_symbol text token)) tokens)

dropped_read : (text : List ℕ) (count : ℕ) (tokens : List Token) (reads : List Symbol) → AreRead text tokens reads → AreRead text (drop count tokens) (drop count reads)
dropped_read text zero tokens reads are = are
dropped_read text (suc count) [] [] are = are
dropped_read text (suc count) [] (read ∷ reads) are = absurd are
dropped_read text (suc count) (token ∷ tokens) [] are = absurd are
dropped_read text (suc count) (token ∷ tokens) (read ∷ reads) are = dropped_read text count tokens reads are.1

taken_read : (text : List ℕ) (count : ℕ) (tokens : List Token) (reads : List Symbol) → AreRead text tokens reads → AreRead text (take count tokens) (take count reads)
taken_read text zero tokens reads are = tt
taken_read text (suc count) [] [] are = are
taken_read text (suc count) [] (read ∷ reads) are = absurd are
taken_read text (suc count) (token ∷ tokens) [] are = absurd are
taken_read text (suc count) (token ∷ tokens) (read ∷ reads) are = (are.0, taken_read text count tokens reads are.1)

-- the tokens that are left of a row are its tokens that are not passed over
kept_tokens : (text : List ℕ) (tokens : List Token) (reads : List Symbol) → AreRead text tokens reads
    → kept (lexemes reads (map (token_word text) tokens)) ≡ of_tokens text (unpassed (map symbol.is_passed_over reads) tokens)
kept_tokens text [] [] are = refl
kept_tokens text [] (read ∷ reads) are = absurd are
kept_tokens text (token ∷ tokens) [] are = absurd are
kept_tokens text (token ∷ tokens) (read ∷ reads) are = step (symbol.is_passed_over read) refl are.0 (kept_tokens text tokens reads are.1)
  where
    left : List Lexeme
    left = kept (lexemes reads (map (token_word text) tokens))

    step : (is : Bool) → symbol.is_passed_over read ≡ is → (symbol.is_passed_over read ≡ true) ⊎ (read ≡ token_symbol text token)
        → kept (lexemes reads (map (token_word text) tokens)) ≡ of_tokens text (unpassed (map symbol.is_passed_over reads) tokens)
        → kept (lexemes (read ∷ reads) (map (token_word text) (token ∷ tokens))) ≡ of_tokens text (unpassed (map symbol.is_passed_over (read ∷ reads)) (token ∷ tokens))
    step true is how rest = rw is rest
    step false is (inl over) rest = absurd (cc (is, over))
    step false is (inr same) rest = rw is (ap (λ (more : List Lexeme). record { symbol = read; word = token_word text token } ∷ more) rest
        ∙ ap (λ (s : Symbol). record { symbol = s; word = token_word text token } ∷ of_tokens text (unpassed (map symbol.is_passed_over reads) tokens)) same)

-- tokens with their words, cut
no_words : (reads : List Symbol) → lexemes {N = List ℕ} reads [] ≡ []
no_words [] = refl
no_words (read ∷ reads) = refl

dropped : (count : ℕ) (reads : List Symbol) (spelled : List (List ℕ)) → drop count (lexemes reads spelled) ≡ lexemes (drop count reads) (drop count spelled)
dropped zero reads spelled = refl
dropped (suc count) [] spelled = refl
dropped (suc count) (read ∷ reads) [] = sym (no_words (drop count reads))
dropped (suc count) (read ∷ reads) (word ∷ spelled) = dropped count reads spelled

taken : (count : ℕ) (reads : List Symbol) (spelled : List (List ℕ)) → take count (lexemes reads spelled) ≡ lexemes (take count reads) (take count spelled)
taken zero reads spelled = refl
taken (suc count) [] spelled = refl
taken (suc count) (read ∷ reads) [] = refl
taken (suc count) (read ∷ reads) (word ∷ spelled) = ap (λ (more : List Lexeme). record { symbol = read; word = word } ∷ more) (taken count reads spelled)

sliced : {X Y : Type 0} (f : X → Y) (xs : List X) (from to : ℕ) → slice_range (map f xs) from to ≡ map f (slice_range xs from to)
sliced {X} {Y} f xs from to = ap (λ (ys : List Y). take (to - from) ys) (drop-map f from xs) ∙ take-map f (to - from) (drop from xs)

-- the tokens of an item that are not passed over
abbrev left_of : Tokens → ItemSpan → List Token
left_of t span = unpassed (slice_range (passed_tokens t) span.first span.after) (slice_range t.list span.first span.after)

row_is : (t : Tokens) (span : ItemSpan) → item_row (all_lexemes t) span ≡ of_tokens t.text (left_of t span)
row_is t span =
    let reads = read_symbols (symbols t) in
    let cut : slice_range (lexemes reads (words t)) span.first span.after
    ≡ lexemes (slice_range reads span.first span.after) (map (token_word t.text) (slice_range t.list span.first span.after)) =
    ap (λ (ls : List Lexeme). take (span.after - span.first) ls) (dropped span.first reads (words t))
    ∙ (taken (span.after - span.first) (drop span.first reads) (drop span.first (words t))
    ∙ ap (λ (ws : List (List ℕ)). lexemes (slice_range reads span.first span.after) ws) (sliced (token_word t.text) t.list span.first span.after)) in
    ap (λ (ls : List Lexeme). kept ls) cut
    ∙ (kept_tokens t.text (slice_range t.list span.first span.after) (slice_range reads span.first span.after)
    (taken_read t.text (span.after - span.first) (drop span.first t.list) (drop span.first reads) (dropped_read t.text span.first t.list reads (all_read t.text false 0 t.list)))
    ∙ ap (λ (over : List Bool). of_tokens t.text (unpassed over (slice_range t.list span.first span.after))) (sym (sliced symbol.is_passed_over reads span.first span.after)))

pub are_offered : AreOffered
are_offered t typedefs span word has =
    let form = defined.form_of (row.item_row t span) in
    let untyped = defined.is_untyped t.text typedefs (row.item_row t span) in
    subst (λ (ls : List Lexeme). Contains (words_in (offered.declared 0 false ls)) word) (sym (row_is t span))
    (offers t.text form _ 0 false untyped (left_of t span) word has)

pub are_needed_by : AreNeededBy
unfolding needed_by symbol_of
are_needed_by t typedefs span word others has =
    let row = item_row (all_lexemes t) span in
    let found : Contains (words_in (offered.declared 0 false row)) word = are_offered t typedefs span word has in
    let front = offered.tags row in
    let enums = offered.enumerators (symbol_of Number []) (symbol_of Number []) [] row in
    let back = offered.pointers 0 row ++ offered.bracketed 0 false row in
    let word_in = λ (lexeme : Lexeme). lexeme.word in
    rw others
    (subst (λ (ws : List (List ℕ)). Contains ws word) (sym (map-append word_in front (enums ++ (offered.declared 0 false row ++ back))))
    (Contains-append_right (map word_in front) (map word_in (enums ++ (offered.declared 0 false row ++ back))) word
    (subst (λ (ws : List (List ℕ)). Contains ws word) (sym (map-append word_in enums (offered.declared 0 false row ++ back)))
    (Contains-append_right (map word_in enums) (map word_in (offered.declared 0 false row ++ back)) word
    (subst (λ (ws : List (List ℕ)). Contains ws word) (sym (map-append word_in (offered.declared 0 false row) back))
    (Contains-append_left (map word_in (offered.declared 0 false row)) (map word_in back) word found))))))

pub bodies_agree : DoBodiesAgree
bodies_agree t span =
    bodies t.text 0 _ _ false false (left_of t span) refl
    ∙ sym (ap (λ (ls : List Lexeme). offered_body.ends_with_body ls) (row_is t span))
