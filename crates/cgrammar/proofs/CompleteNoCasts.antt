-- A unary expression begins with no type in a bracket (C11 6.5.3).
use Rattle.std.proofs.Common.{◌≡◌, Bool, false, ◌&&◌, ◌||◌, not, List, [], ◌∷◌, ◌++◌, codes, ap, ◌∙◌}
use Rattle.std.proofs.lemmas.List.{append_assoc}
use Rattle.std.specs.List.{list_any}
use Rattle.std.specs.Str.{bytes_eq}
use Rattle.ctokens.proofs.Choices.{false_and}
use Rattle.cgrammar.proofs.CompleteOperandStarts.{unary_no_bracket, count_no_bracket, begins_no_type}
use Rattle.cgrammar.proofs.CompleteUnaryOutcomes.{is_cast_row}
use Rattle.cgrammar.proofs.Firsts.{first_tokens}
use Rattle.cgrammar.proofs.Starting.{starts}
use Rattle.cgrammar.proofs.TokenKinds.{mark_is_mark_kind, mark_kind_no_word, name_is_no_mark, constant_is_no_mark, word_is_no_mark}
use Rattle.cgrammar.proofs.Truth.{not-true}
use Rattle.cgrammar.specs.Firsts.{Begins, is_plain, begins_type, type_words}
use Rattle.cgrammar.specs.Grammar.{Spells, OnePostfix, CountBefore, UnaryOperator, SizeOfExpression, SizeOfTypeName, OnePrimary, IndexOperator, CallOfNothing, CallOperator, MemberOperator, CountBehind, OneName, OneConstant, Bracketed, StatementExpression, OffsetOfMember, FailedAssertion}
use Rattle.cgrammar.specs.Phrases.{Phrase, Context, Expression, UnaryExpression, PostfixExpression, PrimaryExpression}
use Rattle.cgrammar.specs.Scope.{Names, is_typedef_name}
use Rattle.ctokens.specs.Symbol.{is_identifier}
use Rattle.ctokens.specs.SymbolTables.{word_symbol}
use Rattle.cgrammar.specs.Starts.{begins_operand}
use Rattle.cgrammar.specs.Terminals.{Terminal, is_mark, IsMark, is_left_out, IsNoType}

abbrev pub NoCast : Phrase → Context → List Terminal → Type 0
NoCast (UnaryExpression expr) before row = (rest : List Terminal) → is_cast_row before (row ++ rest) ≡ false
NoCast (PostfixExpression expr) before row = (rest : List Terminal) → is_cast_row before (row ++ rest) ≡ false
NoCast (PrimaryExpression expr) before row = (rest : List Terminal) → is_cast_row before (row ++ rest) ≡ false
NoCast _ before row = Unit {0}

-- a first token that is no bracket
no_bracket : (context : Context) (first : Terminal) (row : List Terminal) → is_mark (codes "(") first ≡ false → is_cast_row context (first ∷ row) ≡ false
no_bracket context first [] is = is
no_bracket context first (second ∷ row) is = ap (λ (b : Bool). b && begins_type context.scope second) is

-- an expression behind a bracket
expression_behind : (context : Context) (first : Terminal) (xs more : List Terminal) → Begins begins_operand xs → Begins is_plain xs → IsNoType context.scope xs → is_cast_row context (first ∷ (xs ++ more)) ≡ false
expression_behind context first [] more begins plain no_type = absurd begins
expression_behind context first (next ∷ xs) more begins plain no_type =
    false_and (is_mark (codes "(") first) (begins_type context.scope next) (begins_no_type context.scope next plain (not-true _ no_type))

-- a block behind a bracket
mark_begins_no_type : (scopes : List Names) (token : Terminal) → IsMark (codes "{") token → begins_type scopes token ≡ false
mark_begins_no_type scopes token is =
    ap (λ (word : Bool). (word && list_any (bytes_eq token.bytes) type_words) || ((word && (is_identifier (word_symbol token.bytes) && not (is_left_out token.bytes))) && is_typedef_name scopes token.bytes))
    (mark_kind_no_word token.kind (mark_is_mark_kind (codes "{") token is))

block_behind : (context : Context) (first : Terminal) (xs more : List Terminal) → Begins (is_mark (codes "{")) xs → is_cast_row context (first ∷ (xs ++ more)) ≡ false
block_behind context first [] more begins = absurd begins
block_behind context first (next ∷ xs) more begins = false_and (is_mark (codes "(") first) (begins_type context.scope next) (mark_begins_no_type context.scope next begins)

-- what begins another expression
longer : (context : Context) (xs ys : List Terminal) → ((rest : List Terminal) → is_cast_row context (xs ++ rest) ≡ false) → (rest : List Terminal) → is_cast_row context ((xs ++ ys) ++ rest) ≡ false
longer context xs ys whole rest = ap (is_cast_row context) (append_assoc xs ys rest) ∙ whole (ys ++ rest)

pub no_cast : {phrase : Phrase} {before after : Context} {row : List Terminal} → Spells phrase before row after → NoCast phrase before row
no_cast (OnePostfix d) = no_cast d
no_cast (CountBefore {before} {xs} {up} mark is _) = λ rest. no_bracket before mark (xs ++ rest) (count_no_bracket up mark is)
no_cast (UnaryOperator {before} {xs} {op} mark is _) = λ rest. no_bracket before mark (xs ++ rest) (unary_no_bracket op mark is)
no_cast (SizeOfExpression {before} {xs} word is _) = λ rest. no_bracket before word (xs ++ rest) (word_is_no_mark (codes "sizeof") (codes "(") word is)
no_cast (SizeOfTypeName {before} {xs} word opening closing is _ _ _) = λ rest. no_bracket before word (opening ∷ ((xs ++ (closing ∷ [])) ++ rest)) (word_is_no_mark (codes "sizeof") (codes "(") word is)
no_cast (OnePrimary d) = no_cast d
no_cast (IndexOperator {before} {xs} _ _ d _ _ _) = longer before xs _ (no_cast d)
no_cast (CallOfNothing {before} {xs} _ _ d _ _) = longer before xs _ (no_cast d)
no_cast (CallOperator {before} {xs} _ _ d _ _ _ _) = longer before xs _ (no_cast d)
no_cast (MemberOperator {before} {xs} _ _ d _ _) = longer before xs _ (no_cast d)
no_cast (CountBehind {before} {xs} _ d _) = longer before xs _ (no_cast d)
no_cast (OneName {before} name is) = λ rest. no_bracket before name rest (name_is_no_mark (codes "(") name is)
no_cast (OneConstant {before} token is) = λ rest. no_bracket before token rest (constant_is_no_mark (codes "(") token is)
no_cast (Bracketed {before} {after} {xs} {expr} opening closing _ no_type d _) =
    λ rest. ap (λ (row : List Terminal). is_cast_row before (opening ∷ row)) (append_assoc xs (closing ∷ []) rest) ∙ expression_behind before opening xs (closing ∷ rest) (starts d) (first_tokens (Expression expr) before after xs d) no_type
no_cast (StatementExpression {before} {xs} opening closing _ d _) =
    λ rest. ap (λ (row : List Terminal). is_cast_row before (opening ∷ row)) (append_assoc xs (closing ∷ []) rest) ∙ block_behind before opening xs (closing ∷ rest) (starts d)
no_cast (OffsetOfMember {before} {xs} {ys} word opening comma name closing is _ _ _ _ _ _) = λ rest. no_bracket before word (opening ∷ ((xs ++ (comma ∷ (name ∷ (ys ++ (closing ∷ []))))) ++ rest)) (word_is_no_mark (codes "__builtin_offsetof") (codes "(") word is)
no_cast (FailedAssertion {before} {xs} word opening closing is _ _ _) = λ rest. no_bracket before word (opening ∷ ((xs ++ (closing ∷ [])) ++ rest)) (word_is_no_mark (codes "__assert_fail") (codes "(") word is)
no_cast _ = tt
