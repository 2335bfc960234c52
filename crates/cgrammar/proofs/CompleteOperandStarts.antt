-- With what an operand is seen to begin, by its first token (C11 6.5.1 to 6.5.4).
use Rattle.std.proofs.Common.{◌≡◌, ℕ, Bool, true, false, ◌&&◌, ◌||◌, not, refl, ap, ◌∙◌, List, ◌∷◌, codes, Some, None, IsTrue}
use Rattle.std.specs.Prelude.{if◌then◌else◌, Option}
use Rattle.std.specs.List.{list_any}
use Rattle.std.specs.Str.{bytes_eq}
use Rattle.cbase.specs.declared.place.Place.{Place}
use Rattle.cbase.specs.declared.tree.operators.UnaryOp.{UnaryOp}
use Rattle.ctokens.specs.declared.token.TokenKind.{TokenKind}
use Rattle.ctokens.specs.declared.token.TokenKind.TheVariants.{Word, Number, Letter, Quoted, Mark}
use Rattle.ctokens.proofs.Choices.{false_and, chosen_yes, chosen_no}
use Rattle.cgrammar.proofs.CompleteTokens.{mark_test, row_fails, row_test}
use Rattle.cgrammar.proofs.Integers.{integer_exact}
use Rattle.cgrammar.proofs.Starting.{operand_not_mark}
use Rattle.cgrammar.proofs.TokenKinds.{named_words, mark_kind_is_no_word, mark_kind_is_no_name, row_is_mark_kind, word_is_word_kind, word_is_no_mark, word_is_no_name, other_word, constant_is_no_name}
use Rattle.cgrammar.proofs.Truth.{false-of}
use Rattle.cgrammar.specs.Constants.{IsConstant, IsOfKind}
use Rattle.cgrammar.specs.Firsts.{is_among, is_plain, begins_type, storage_words, type_words}
use Rattle.cgrammar.specs.Operators.{mark_row, unary_rows, count_rows, IsUnary, IsCount}
use Rattle.cgrammar.specs.Outcomes.{has_first}
use Rattle.cgrammar.specs.Phrases.{Context}
use Rattle.cgrammar.specs.ReadLevels.{Level}
use Rattle.cgrammar.specs.ReadOperands.{opens, plain_with, read_plain, read_cast}
use Rattle.cgrammar.specs.ReadStarts.{operand_start, is_constant, unary_start, counting_start}
use Rattle.cgrammar.specs.Scope.{Names}
use Rattle.cgrammar.specs.Starts.{begins_operand}
use Rattle.cgrammar.specs.Terminals.{Terminal, is_word_kind, is_mark_kind, is_mark, IsMark, is_word, IsWord, is_name, IsName, is_typedef}
use Rattle.cgrammar.specs.declared.reading.starts.OperandStart.{OperandStart}
use Rattle.cgrammar.specs.declared.reading.starts.OperandStart.TheVariants as operand

-- constants
constant_found : (kind : TokenKind) (bytes : List ℕ) (place : Place) → IsOfKind kind bytes → is_constant (record { kind = kind; bytes = bytes; place = place }) ≡ true
constant_found Word bytes place is = absurd is
constant_found Number bytes place is = (integer_exact bytes).1 is
constant_found Letter bytes place is = refl
constant_found Quoted bytes place is = absurd is
constant_found Mark bytes place is = absurd is

word_is_no_constant : (kind : TokenKind) (bytes : List ℕ) (place : Place) → is_word_kind kind ≡ true → is_constant (record { kind = kind; bytes = bytes; place = place }) ≡ false
word_is_no_constant Word bytes place is = refl
word_is_no_constant Number bytes place is = cc is
word_is_no_constant Letter bytes place is = cc is
word_is_no_constant Quoted bytes place is = refl
word_is_no_constant Mark bytes place is = refl

mark_is_no_constant : (kind : TokenKind) (bytes : List ℕ) (place : Place) → is_mark_kind kind ≡ true → is_constant (record { kind = kind; bytes = bytes; place = place }) ≡ false
mark_is_no_constant Word bytes place is = refl
mark_is_no_constant Number bytes place is = cc is
mark_is_no_constant Letter bytes place is = cc is
mark_is_no_constant Quoted bytes place is = refl
mark_is_no_constant Mark bytes place is = refl

-- the chain of tests
behind_constant : Terminal → OperandStart
behind_constant token =
    if is_mark (codes "(") token then operand.Bracket
    else (if is_word (codes "sizeof") token then operand.SizeOf
    else (if is_word (codes "__builtin_offsetof") token then operand.OffsetOf
    else (if is_word (codes "__assert_fail") token then operand.AssertFail
    else unary_start (mark_row unary_rows token) token)))

no_name_no_constant : (token : Terminal) → is_name token ≡ false → is_constant token ≡ false → operand_start token ≡ behind_constant token
unfolding operand_start behind_constant
no_name_no_constant token one other =
    chosen_no (is_name token) operand.Name (if is_constant token then operand.Constant else behind_constant token) one
    ∙ chosen_no (is_constant token) operand.Constant (behind_constant token) other

pub name_starts : (token : Terminal) → IsName token → operand_start token ≡ operand.Name
unfolding operand_start behind_constant
name_starts token is = chosen_yes (is_name token) operand.Name (if is_constant token then operand.Constant else behind_constant token) is

pub constant_starts : (token : Terminal) → IsConstant token → operand_start token ≡ operand.Constant
unfolding operand_start behind_constant
constant_starts token is =
    chosen_no (is_name token) operand.Name (if is_constant token then operand.Constant else behind_constant token) (constant_is_no_name token is)
    ∙ chosen_yes (is_constant token) operand.Constant (behind_constant token) (constant_found token.kind token.bytes token.place is)

pub bracket_starts : (token : Terminal) → IsMark (codes "(") token → operand_start token ≡ operand.Bracket
unfolding operand_start
bracket_starts token is = mark_test operand_start operand.Bracket (codes "(") token is (λ place. refl)

word_first : (bytes : List ℕ) (token : Terminal) → list_any (bytes_eq bytes) named_words ≡ true → IsWord bytes token → operand_start token ≡ behind_constant token
word_first bytes token named is =
    no_name_no_constant token (word_is_no_name bytes token named is) (word_is_no_constant token.kind token.bytes token.place (word_is_word_kind bytes token is))

pub size_of_starts : (token : Terminal) → IsWord (codes "sizeof") token → operand_start token ≡ operand.SizeOf
unfolding behind_constant
size_of_starts token is =
    word_first (codes "sizeof") token refl is
    ∙ chosen_no (is_mark (codes "(") token) operand.Bracket _ (word_is_no_mark (codes "sizeof") (codes "(") token is)
    ∙ chosen_yes (is_word (codes "sizeof") token) operand.SizeOf _ is

pub offset_of_starts : (token : Terminal) → IsWord (codes "__builtin_offsetof") token → operand_start token ≡ operand.OffsetOf
unfolding behind_constant
offset_of_starts token is =
    word_first (codes "__builtin_offsetof") token refl is
    ∙ chosen_no (is_mark (codes "(") token) operand.Bracket _ (word_is_no_mark (codes "__builtin_offsetof") (codes "(") token is)
    ∙ chosen_no (is_word (codes "sizeof") token) operand.SizeOf _ (other_word (codes "__builtin_offsetof") (codes "sizeof") token refl is)
    ∙ chosen_yes (is_word (codes "__builtin_offsetof") token) operand.OffsetOf _ is

pub assert_fail_starts : (token : Terminal) → IsWord (codes "__assert_fail") token → operand_start token ≡ operand.AssertFail
unfolding behind_constant
assert_fail_starts token is =
    word_first (codes "__assert_fail") token refl is
    ∙ chosen_no (is_mark (codes "(") token) operand.Bracket _ (word_is_no_mark (codes "__assert_fail") (codes "(") token is)
    ∙ chosen_no (is_word (codes "sizeof") token) operand.SizeOf _ (other_word (codes "__assert_fail") (codes "sizeof") token refl is)
    ∙ chosen_no (is_word (codes "__builtin_offsetof") token) operand.OffsetOf _ (other_word (codes "__assert_fail") (codes "__builtin_offsetof") token refl is)
    ∙ chosen_yes (is_word (codes "__assert_fail") token) operand.AssertFail _ is

mark_first : (token : Terminal) → is_mark_kind token.kind ≡ true → is_mark (codes "(") token ≡ false → operand_start token ≡ unary_start (mark_row unary_rows token) token
unfolding behind_constant
mark_first token is other =
    no_name_no_constant token (mark_kind_is_no_name token is) (mark_is_no_constant token.kind token.bytes token.place is)
    ∙ chosen_no (is_mark (codes "(") token) operand.Bracket _ other
    ∙ chosen_no (is_word (codes "sizeof") token) operand.SizeOf _ (mark_kind_is_no_word token (codes "sizeof") is)
    ∙ chosen_no (is_word (codes "__builtin_offsetof") token) operand.OffsetOf _ (mark_kind_is_no_word token (codes "__builtin_offsetof") is)
    ∙ chosen_no (is_word (codes "__assert_fail") token) operand.AssertFail _ (mark_kind_is_no_word token (codes "__assert_fail") is)

pub unary_no_bracket : (op : UnaryOp) (token : Terminal) → IsUnary op token → is_mark (codes "(") token ≡ false
unary_no_bracket op token is = row_fails (is_mark (codes "(")) unary_rows token op is (λ place. refl)

pub count_no_bracket : (up : Bool) (token : Terminal) → IsCount up token → is_mark (codes "(") token ≡ false
count_no_bracket up token is = row_fails (is_mark (codes "(")) count_rows token up is (λ place. refl)

pub unary_starts : (op : UnaryOp) (token : Terminal) → IsUnary op token → operand_start token ≡ operand.Unary op
unary_starts op token is =
    mark_first token (row_is_mark_kind op unary_rows token is) (unary_no_bracket op token is)
    ∙ ap (λ (o : Option UnaryOp). unary_start o token) is

is_no_unary : Option UnaryOp → Bool
is_no_unary None = true
is_no_unary (Some op) = false

no_unary_is : (o : Option UnaryOp) → is_no_unary o ≡ true → o ≡ None
unfolding is_no_unary
no_unary_is None is = refl
no_unary_is (Some op) is = cc is

pub counting_starts : (up : Bool) (token : Terminal) → IsCount up token → operand_start token ≡ operand.Count up
unfolding is_no_unary
counting_starts up token is =
    mark_first token (row_is_mark_kind up count_rows token is) (count_no_bracket up token is)
    ∙ ap (λ (o : Option UnaryOp). unary_start o token) (no_unary_is (mark_row unary_rows token) (row_test (λ t. is_no_unary (mark_row unary_rows t)) count_rows token up is (λ place. refl)))
    ∙ ap counting_start is

-- an operand that is not opened by a bracket around an expression
pub opens_not : (context : Context) (first : Terminal) (row : List Terminal) → is_mark (codes "(") first ≡ false → opens context.scope first row ≡ false
opens_not context first row is = ap (λ (b : Bool). b && has_first (λ token. not (is_mark (codes "{") token) && not (begins_type context.scope token)) row) is

pub opens_no_block : (context : Context) (first next : Terminal) (row : List Terminal) → is_mark (codes "{") next ≡ true → opens context.scope first (next ∷ row) ≡ false
opens_no_block context first next row is =
    false_and (is_mark (codes "(") first) (not (is_mark (codes "{") next) && not (begins_type context.scope next)) (ap (λ (b : Bool). not b && not (begins_type context.scope next)) is)

pub opens_no_type : (context : Context) (first next : Terminal) (row : List Terminal) → begins_type context.scope next ≡ true → opens context.scope first (next ∷ row) ≡ false
opens_no_type context first next row is =
    false_and (is_mark (codes "(") first) (not (is_mark (codes "{") next) && not (begins_type context.scope next)) (false_and (not (is_mark (codes "{") next)) (not (begins_type context.scope next)) (ap not is))

pub read_as_plain : (inner : Level) (context : Context) (first : Terminal) (row : List Terminal) (kind : OperandStart) → opens context.scope first row ≡ false → operand_start first ≡ kind
    → read_cast inner context (first ∷ row) ≡ plain_with inner context first row kind
unfolding read_cast read_plain
read_as_plain inner context first row kind is starts =
    chosen_no (opens context.scope first row) _ (read_plain inner context (first ∷ row)) is ∙ ap (plain_with inner context first row) starts

-- an expression in brackets: no block and no type stands there
pub begins_no_block : (token : Terminal) → IsTrue (begins_operand token) → is_mark (codes "{") token ≡ false
begins_no_block token is = false-of (is_mark (codes "{") token) (λ mark. operand_not_mark (codes "{") token refl is mark)

pub begins_no_type : (scopes : List Names) (token : Terminal) → IsTrue (is_plain token) → is_typedef scopes token ≡ false → begins_type scopes token ≡ false
begins_no_type scopes token plain no_type = step (is_among storage_words token) (is_among type_words token) plain ∙ no_type
  where
    step : (storage type : Bool) → not (storage || type) ≡ true → (type || is_typedef scopes token) ≡ is_typedef scopes token
    step true type is = cc is
    step false true is = cc is
    step false false is = refl

pub opens_expression : (context : Context) (first next : Terminal) (row : List Terminal) → is_mark (codes "(") first ≡ true → IsTrue (begins_operand next) → IsTrue (is_plain next) → is_typedef context.scope next ≡ false
    → opens context.scope first (next ∷ row) ≡ true
opens_expression context first next row is begins plain no_type =
    ap (λ (b : Bool). b && (not (is_mark (codes "{") next) && not (begins_type context.scope next))) is
    ∙ ap (λ (b : Bool). not b && not (begins_type context.scope next)) (begins_no_block next begins)
    ∙ ap not (begins_no_type context.scope next plain no_type)
