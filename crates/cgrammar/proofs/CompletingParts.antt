-- What is read of the parts of a phrase, and what stands at their fronts.
use Rattle.std.proofs.Common.{◌≡◌, ℕ, ◌<◌, ◌≤◌, Bool, true, false, ◌&&◌, ◌||◌, not, refl, ap, ◌∙◌, List, [], ◌∷◌, ◌++◌, length, codes, arith}
use Rattle.std.specs.List.{list_any}
use Rattle.std.specs.Str.{bytes_eq}
use Rattle.std.proofs.lemmas.List.{length-append}
use Rattle.cbase.specs.declared.tree.expr.Expr.{Expr}
use Rattle.ctokens.specs.declared.token.TokenKind.TheVariants.{Mark}
use Rattle.ctokens.specs.Symbol.{is_identifier}
use Rattle.ctokens.specs.SymbolTables.{word_symbol}
use Rattle.ctrees.specs.Levels.{expr_levels}
use Rattle.cgrammar.proofs.CompletingOutcomes.{not_is, exactly}
use Rattle.cgrammar.proofs.Reached.{Completes, Ends, goes_on_conditional, goes_on_assignment, goes_on_expression}
use Rattle.cgrammar.proofs.TokenKinds.{word_kind_no_mark}
use Rattle.cgrammar.proofs.CompletingTokens.{mark_is}
use Rattle.cgrammar.proofs.Truth.{not-true}
use Rattle.cgrammar.specs.Firsts.{Begins, begins_type, begins_declaration, is_plain, is_among, type_words, storage_words}
use Rattle.cgrammar.specs.Grammar.{Spells, NoMoreSizes, SizeLeftOut, SizeGiven}
use Rattle.cgrammar.specs.Outcomes.{Read, has_first}
use Rattle.cgrammar.specs.Phrases.{Context, Expression, Assignment, Conditional, ArraySizes}
use Rattle.cgrammar.specs.Reader.{level}
use Rattle.cgrammar.specs.Scope.{Names, is_typedef_name}
use Rattle.cgrammar.specs.Terminals.{Terminal, is_word_kind, is_mark, IsMark, is_left_out, is_typedef, IsNoType}
use Rattle.std.specs.Prelude.{Option}

pub read_levels : {A : Type 0} {k l : ℕ} (tree : A) (after : Context) (rest : List Terminal) → k ≡ l → Read tree k after rest ≡ Read tree l after rest
read_levels tree after rest is = ap (λ (n : ℕ). Read tree n after rest) is

-- a token with known bytes ends what it does not go on with
pub ends_known : (test : Terminal → Bool) (bytes : List ℕ) (token : Terminal) (rest : List Terminal) → IsMark bytes token → test (record { kind = Mark; bytes = bytes; place = token.place }) ≡ false → Ends test (token ∷ rest)
ends_known test bytes token rest is off = not_is (test token) (ap test (mark_is bytes token is) ∙ off)

-- expressions, where what follows does not go on
pub expression_read : (n : ℕ) (before : Context) (xs : List Terminal) (expr : Expr) (after : Context) (rest : List Terminal) → Completes (Expression expr) before xs after → expr_levels expr ≤ n → Ends goes_on_expression rest
    → (level n).expression before (xs ++ rest) ≡ Read expr (expr_levels expr) after rest
expression_read n before xs expr after rest completes small ends = exactly goes_on_expression expr (expr_levels expr) after rest _ (completes n rest small) ends

pub assignment_read : (n : ℕ) (before : Context) (xs : List Terminal) (expr : Expr) (after : Context) (rest : List Terminal) → Completes (Assignment expr) before xs after → expr_levels expr ≤ n → Ends goes_on_assignment rest
    → (level n).assignment before (xs ++ rest) ≡ Read expr (expr_levels expr) after rest
assignment_read n before xs expr after rest completes small ends = exactly goes_on_assignment expr (expr_levels expr) after rest _ (completes n rest small) ends

pub conditional_read : (n : ℕ) (before : Context) (xs : List Terminal) (expr : Expr) (after : Context) (rest : List Terminal) → Completes (Conditional expr) before xs after → expr_levels expr ≤ n → Ends goes_on_conditional rest
    → (level n).conditional before (xs ++ rest) ≡ Read expr (expr_levels expr) after rest
conditional_read n before xs expr after rest completes small ends = exactly goes_on_conditional expr (expr_levels expr) after rest _ (completes n rest small) ends

-- a plain first token that is no typedef's name begins no type and no declaration
plain_no_type : (storage type typedef : Bool) → not (storage || type) ≡ true → not typedef ≡ true → (type || typedef) ≡ false
plain_no_type true type typedef is no-typedef = absurd (let wrong : false ≡ true = is in cc wrong)
plain_no_type false true typedef is no-typedef = absurd (let wrong : false ≡ true = is in cc wrong)
plain_no_type false false typedef is no-typedef = not-true typedef no-typedef

plain_no_declaration : (storage type typedef : Bool) → not (storage || type) ≡ true → not typedef ≡ true → (storage || (type || typedef)) ≡ false
plain_no_declaration true type typedef is no-typedef = absurd (let wrong : false ≡ true = is in cc wrong)
plain_no_declaration false true typedef is no-typedef = absurd (let wrong : false ≡ true = is in cc wrong)
plain_no_declaration false false typedef is no-typedef = not-true typedef no-typedef

pub not_type_row : (scopes : List Names) (xs rest : List Terminal) → Begins is_plain xs → IsNoType scopes xs → has_first (begins_type scopes) (xs ++ rest) ≡ false
not_type_row scopes [] rest begins none = absurd begins
not_type_row scopes (token ∷ xs) rest begins none = plain_no_type (is_among storage_words token) (is_among type_words token) (is_typedef scopes token) begins none

pub not_declaration_row : (scopes : List Names) (xs rest : List Terminal) → Begins is_plain xs → IsNoType scopes xs → has_first (begins_declaration scopes) (xs ++ rest) ≡ false
not_declaration_row scopes [] rest begins none = absurd begins
not_declaration_row scopes (token ∷ xs) rest begins none = plain_no_declaration (is_among storage_words token) (is_among type_words token) (is_typedef scopes token) begins none

pub type_row : (scopes : List Names) (xs rest : List Terminal) → Begins (begins_type scopes) xs → has_first (begins_type scopes) (xs ++ rest) ≡ true
type_row scopes [] rest begins = absurd begins
type_row scopes (token ∷ xs) rest begins = begins

pub declaration_row : (scopes : List Names) (xs rest : List Terminal) → Begins (begins_declaration scopes) xs → has_first (begins_declaration scopes) (xs ++ rest) ≡ true
declaration_row scopes [] rest begins = absurd begins
declaration_row scopes (token ∷ xs) rest begins = begins

-- what begins a type or a declaration is a word
type_is_word : (word listed identifier typedef : Bool) → ((word && listed) || ((word && identifier) && typedef)) ≡ true → word ≡ true
type_is_word true listed identifier typedef is = refl
type_is_word false listed identifier typedef is = is

declaration_is_word : (word stored listed identifier typedef : Bool) → ((word && stored) || ((word && listed) || ((word && identifier) && typedef))) ≡ true → word ≡ true
declaration_is_word true stored listed identifier typedef is = refl
declaration_is_word false stored listed identifier typedef is = is

no_mark_word : (bytes : List ℕ) (token : Terminal) → is_word_kind token.kind ≡ true → is_mark bytes token ≡ false
no_mark_word bytes token is = ap (λ (mark : Bool). mark && bytes_eq token.bytes bytes) (word_kind_no_mark token.kind is)

pub type_no_mark : (scopes : List Names) (bytes : List ℕ) (token : Terminal) → begins_type scopes token ≡ true → is_mark bytes token ≡ false
type_no_mark scopes bytes token is =
    no_mark_word bytes token (type_is_word (is_word_kind token.kind) (list_any (bytes_eq token.bytes) type_words) (is_identifier (word_symbol token.bytes) && not (is_left_out token.bytes)) (is_typedef_name scopes token.bytes) is)

pub declaration_no_mark : (scopes : List Names) (bytes : List ℕ) (token : Terminal) → begins_declaration scopes token ≡ true → is_mark bytes token ≡ false
declaration_no_mark scopes bytes token is =
    no_mark_word bytes token (declaration_is_word (is_word_kind token.kind) (list_any (bytes_eq token.bytes) storage_words) (list_any (bytes_eq token.bytes) type_words) (is_identifier (word_symbol token.bytes) && not (is_left_out token.bytes)) (is_typedef_name scopes token.bytes) is)

pub type_row_no_mark : (scopes : List Names) (bytes : List ℕ) (xs rest : List Terminal) → Begins (begins_type scopes) xs → has_first (is_mark bytes) (xs ++ rest) ≡ false
type_row_no_mark scopes bytes [] rest begins = absurd begins
type_row_no_mark scopes bytes (token ∷ xs) rest begins = type_no_mark scopes bytes token begins

pub declaration_row_no_mark : (scopes : List Names) (bytes : List ℕ) (xs rest : List Terminal) → Begins (begins_declaration scopes) xs → has_first (is_mark bytes) (xs ++ rest) ≡ false
declaration_row_no_mark scopes bytes [] rest begins = absurd begins
declaration_row_no_mark scopes bytes (token ∷ xs) rest begins = declaration_no_mark scopes bytes token begins

-- sizes begin with a `[`, or nothing stands there
pub sizes_first : (test : Terminal → Bool) (sizes : List (Option Expr)) (before after : Context) (xs rest : List Terminal) → Spells (ArraySizes sizes) before xs after
    → ((token : Terminal) → IsMark (codes "[") token → test token ≡ false) → has_first test rest ≡ false → has_first test (xs ++ rest) ≡ false
sizes_first test sizes before after xs rest NoMoreSizes each none = none
sizes_first test sizes before after xs rest (SizeLeftOut opening closing is other more) each none = each opening is
sizes_first test sizes before after xs rest (SizeGiven opening closing is size other more) each none = each opening is

-- what is left behind a token, or behind a front that is not empty, is shorter
pub fewer : (test : Terminal → Bool) (xs rest : List Terminal) → Begins test xs → length rest < length (xs ++ rest)
fewer test [] rest begins = absurd begins
fewer test (token ∷ xs) rest begins = let all = length-append xs rest in omega (arith, all)
