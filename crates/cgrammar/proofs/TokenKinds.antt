-- A token is of one kind and has one spelling: what a mark, a word, a name and a constant exclude.
use Rattle.std.proofs.Common.{◌≡◌, ℕ, Bool, true, false, ◌&&◌, not, refl, ap, sym, ◌∙◌, List, [], ◌∷◌, codes, Some, None}
use Rattle.std.specs.Prelude.{if◌then◌else◌}
use Rattle.std.specs.List.{list_any}
use Rattle.std.specs.Str.{bytes_eq}
use Rattle.std.proofs.lemmas.Slice.Eq.{bytes_eq-Decides}
use Rattle.ctokens.specs.declared.token.TokenKind.{TokenKind}
use Rattle.ctokens.specs.declared.token.TokenKind.TheVariants.{Word, Number, Letter, Quoted, Mark}
use Rattle.ctokens.specs.Symbol.{is_identifier}
use Rattle.ctokens.specs.SymbolTables.{keyword_symbol, name_symbol, passed_symbol, word_symbol}
use Rattle.ctokens.proofs.Choices.{false_and}
use Rattle.cgrammar.proofs.Truth.{and-left, and-right, of-any, and-false, false-of}
use Rattle.cgrammar.specs.Constants.{IsConstant, IsOfKind}
use Rattle.cgrammar.specs.Operators.{row_of, mark_row}
use Rattle.cgrammar.specs.Terminals.{Terminal, is_word_kind, is_mark_kind, is_word, IsWord, is_mark, IsMark, is_name, IsName, is_left_out}

-- kinds
pub mark_kind_no_word : (kind : TokenKind) → is_mark_kind kind ≡ true → is_word_kind kind ≡ false
mark_kind_no_word Word is = sym is
mark_kind_no_word Number is = refl
mark_kind_no_word Letter is = refl
mark_kind_no_word Quoted is = refl
mark_kind_no_word Mark is = refl

pub word_kind_no_mark : (kind : TokenKind) → is_word_kind kind ≡ true → is_mark_kind kind ≡ false
word_kind_no_mark Word is = refl
word_kind_no_mark Number is = refl
word_kind_no_mark Letter is = refl
word_kind_no_mark Quoted is = refl
word_kind_no_mark Mark is = sym is

pub mark_kind_is : (kind : TokenKind) → is_mark_kind kind ≡ true → kind ≡ Mark
mark_kind_is Word is = cc is
mark_kind_is Number is = cc is
mark_kind_is Letter is = cc is
mark_kind_is Quoted is = cc is
mark_kind_is Mark is = refl

pub word_kind_is : (kind : TokenKind) → is_word_kind kind ≡ true → kind ≡ Word
word_kind_is Word is = refl
word_kind_is Number is = cc is
word_kind_is Letter is = cc is
word_kind_is Quoted is = cc is
word_kind_is Mark is = cc is

constant_no_word_kind : (kind : TokenKind) (bytes : List ℕ) → IsOfKind kind bytes → is_word_kind kind ≡ false
constant_no_word_kind Word bytes is = absurd is
constant_no_word_kind Number bytes is = refl
constant_no_word_kind Letter bytes is = refl
constant_no_word_kind Quoted bytes is = refl
constant_no_word_kind Mark bytes is = refl

constant_no_mark_kind : (kind : TokenKind) (bytes : List ℕ) → IsOfKind kind bytes → is_mark_kind kind ≡ false
constant_no_mark_kind Word bytes is = refl
constant_no_mark_kind Number bytes is = refl
constant_no_mark_kind Letter bytes is = refl
constant_no_mark_kind Quoted bytes is = refl
constant_no_mark_kind Mark bytes is = absurd is

pub mark_is_mark_kind : (bytes : List ℕ) (token : Terminal) → IsMark bytes token → is_mark_kind token.kind ≡ true
mark_is_mark_kind bytes token is = and-left (is_mark_kind token.kind) (bytes_eq token.bytes bytes) is

pub word_is_word_kind : (bytes : List ℕ) (token : Terminal) → IsWord bytes token → is_word_kind token.kind ≡ true
word_is_word_kind bytes token is = and-left (is_word_kind token.kind) (bytes_eq token.bytes bytes) is

pub name_is_word_kind : (token : Terminal) → IsName token → is_word_kind token.kind ≡ true
name_is_word_kind token is = and-left (is_word_kind token.kind) (is_identifier (word_symbol token.bytes) && not (is_left_out token.bytes)) is

pub constant_is_no_word_kind : (token : Terminal) → IsConstant token → is_word_kind token.kind ≡ false
constant_is_no_word_kind token is = constant_no_word_kind token.kind token.bytes is

pub constant_is_no_mark_kind : (token : Terminal) → IsConstant token → is_mark_kind token.kind ≡ false
constant_is_no_mark_kind token is = constant_no_mark_kind token.kind token.bytes is

pub row_is_mark_kind : {A : Type 0} (answer : A) (rows : List (List ℕ × A)) (token : Terminal) → mark_row rows token ≡ Some answer → is_mark_kind token.kind ≡ true
row_is_mark_kind {A} answer rows token is = step (is_mark_kind token.kind) is
  where
    step : (test : Bool) → (if test then row_of token.bytes rows else None) ≡ Some answer → test ≡ true
    step true is = refl
    step false is = cc is

-- spellings
pub mark_bytes : (bytes : List ℕ) (token : Terminal) → IsMark bytes token → token.bytes ≡ bytes
mark_bytes bytes token is = (bytes_eq-Decides token.bytes bytes).0 (and-right (is_mark_kind token.kind) (bytes_eq token.bytes bytes) is)

pub word_bytes : (bytes : List ℕ) (token : Terminal) → IsWord bytes token → token.bytes ≡ bytes
word_bytes bytes token is = (bytes_eq-Decides token.bytes bytes).0 (and-right (is_word_kind token.kind) (bytes_eq token.bytes bytes) is)

pub bytes_same : (bytes : List ℕ) → bytes_eq bytes bytes ≡ true
bytes_same bytes = (bytes_eq-Decides bytes bytes).1 refl

pub one_word : (a b : List ℕ) (token : Terminal) → IsWord a token → IsWord b token → a ≡ b
one_word a b token one other = sym (word_bytes a token one) ∙ word_bytes b token other

pub other_mark : (a b : List ℕ) (token : Terminal) → bytes_eq a b ≡ false → is_mark a token ≡ true → is_mark b token ≡ false
other_mark a b token differ is =
    false_and (is_mark_kind token.kind) (bytes_eq token.bytes b) (ap (λ (bytes : List ℕ). bytes_eq bytes b) (mark_bytes a token is) ∙ differ)

pub other_word : (a b : List ℕ) (token : Terminal) → bytes_eq a b ≡ false → is_word a token ≡ true → is_word b token ≡ false
other_word a b token differ is =
    false_and (is_word_kind token.kind) (bytes_eq token.bytes b) (ap (λ (bytes : List ℕ). bytes_eq bytes b) (word_bytes a token is) ∙ differ)

-- a mark is no word, no name and no constant
pub mark_kind_is_no_word : (token : Terminal) (bytes : List ℕ) → is_mark_kind token.kind ≡ true → is_word bytes token ≡ false
mark_kind_is_no_word token bytes is = and-false (is_word_kind token.kind) (bytes_eq token.bytes bytes) (mark_kind_no_word token.kind is)

pub mark_kind_is_no_name : (token : Terminal) → is_mark_kind token.kind ≡ true → is_name token ≡ false
mark_kind_is_no_name token is = and-false (is_word_kind token.kind) (is_identifier (word_symbol token.bytes) && not (is_left_out token.bytes)) (mark_kind_no_word token.kind is)

pub mark_is_no_word : (a b : List ℕ) (token : Terminal) → is_mark a token ≡ true → is_word b token ≡ false
mark_is_no_word a b token is = mark_kind_is_no_word token b (mark_is_mark_kind a token is)

pub mark_is_no_name : (bytes : List ℕ) (token : Terminal) → is_mark bytes token ≡ true → is_name token ≡ false
mark_is_no_name bytes token is = mark_kind_is_no_name token (mark_is_mark_kind bytes token is)

pub word_is_no_mark : (a b : List ℕ) (token : Terminal) → is_word a token ≡ true → is_mark b token ≡ false
word_is_no_mark a b token is = and-false (is_mark_kind token.kind) (bytes_eq token.bytes b) (word_kind_no_mark token.kind (word_is_word_kind a token is))

pub name_is_no_mark : (bytes : List ℕ) (token : Terminal) → is_name token ≡ true → is_mark bytes token ≡ false
name_is_no_mark bytes token is = and-false (is_mark_kind token.kind) (bytes_eq token.bytes bytes) (word_kind_no_mark token.kind (name_is_word_kind token is))

pub constant_is_no_mark : (bytes : List ℕ) (token : Terminal) → IsConstant token → is_mark bytes token ≡ false
constant_is_no_mark bytes token is = and-false (is_mark_kind token.kind) (bytes_eq token.bytes bytes) (constant_is_no_mark_kind token is)

pub constant_is_no_name : (token : Terminal) → IsConstant token → is_name token ≡ false
constant_is_no_name token is = and-false (is_word_kind token.kind) (is_identifier (word_symbol token.bytes) && not (is_left_out token.bytes)) (constant_is_no_word_kind token is)

-- the words that the rules of the grammar name
abbrev pub named_words : List (List ℕ)
named_words =
    codes "sizeof" ∷ codes "__builtin_offsetof" ∷ codes "__assert_fail" ∷ codes "typeof" ∷ codes "struct" ∷ codes "enum"
    ∷ codes "void" ∷ codes "_Bool" ∷ codes "char" ∷ codes "signed" ∷ codes "unsigned" ∷ codes "short" ∷ codes "int" ∷ codes "long"
    ∷ codes "typedef" ∷ codes "extern" ∷ codes "static"
    ∷ codes "if" ∷ codes "else" ∷ codes "while" ∷ codes "do" ∷ codes "for" ∷ codes "break" ∷ codes "continue" ∷ codes "return" ∷ []

-- the word is no identifier
unfoldable pub no_identifier : List ℕ → Bool
no_identifier bytes = not (is_identifier (word_symbol bytes))

named_is_no_identifier : (bytes : List ℕ) → list_any (bytes_eq bytes) named_words ≡ true → not (is_identifier (word_symbol bytes)) ≡ true
unfolding keyword_symbol name_symbol passed_symbol no_identifier
named_is_no_identifier bytes is = of-any no_identifier named_words bytes refl is

name_is_identifier : (token : Terminal) → IsName token → is_identifier (word_symbol token.bytes) ≡ true
name_is_identifier token is =
    and-left (is_identifier (word_symbol token.bytes)) (not (is_left_out token.bytes))
    (and-right (is_word_kind token.kind) (is_identifier (word_symbol token.bytes) && not (is_left_out token.bytes)) is)

-- a name is none of them
pub name_not_word : (bytes : List ℕ) (token : Terminal) → list_any (bytes_eq bytes) named_words ≡ true → IsName token → IsWord bytes token → ⊥
name_not_word bytes token named name word =
    let identifier : is_identifier (word_symbol bytes) ≡ true = ap (λ (b : List ℕ). is_identifier (word_symbol b)) (sym (word_bytes bytes token word)) ∙ name_is_identifier token name in
    let wrong : not true ≡ true = sym (ap not identifier) ∙ named_is_no_identifier bytes named in
    cc wrong

pub name_is_no_word : (bytes : List ℕ) (token : Terminal) → list_any (bytes_eq bytes) named_words ≡ true → is_name token ≡ true → is_word bytes token ≡ false
name_is_no_word bytes token named name = false-of (is_word bytes token) (name_not_word bytes token named name)

pub word_is_no_name : (bytes : List ℕ) (token : Terminal) → list_any (bytes_eq bytes) named_words ≡ true → is_word bytes token ≡ true → is_name token ≡ false
word_is_no_name bytes token named word = false-of (is_name token) (λ name. name_not_word bytes token named name word)
