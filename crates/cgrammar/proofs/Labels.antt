-- No expression has a `:` as its first or second token, rule by rule.
use Rattle.std.proofs.Common.{◌≡◌, ℕ, Bool, true, false, ◌&&◌, ◌||◌, not, refl, ap, sym, ◌∙◌, List, [], ◌∷◌, ◌++◌, codes, Option, Some, None}
use Rattle.std.specs.Prelude.{if◌then◌else◌}
use Rattle.std.specs.List.{list_any}
use Rattle.std.specs.Str.{bytes_eq}
use Rattle.std.proofs.lemmas.Slice.Eq.{bytes_eq-Decides}
use Rattle.ctokens.specs.declared.token.TokenKind.{TokenKind}
use Rattle.ctokens.specs.declared.token.TokenKind.TheVariants.{Word, Number, Letter, Quoted, Mark}
use Rattle.ctokens.specs.Symbol.{is_identifier}
use Rattle.ctokens.specs.SymbolTables.{word_symbol}
use Rattle.cgrammar.proofs.Firsts.{first, begins-append}
use Rattle.cgrammar.proofs.TokenKinds.{word_kind_no_mark}
use Rattle.cgrammar.proofs.Truth.{and-left, and-right}
use Rattle.cgrammar.specs.Constants.{IsConstant, IsOfKind}
use Rattle.cgrammar.specs.Firsts.{Begins, begins_type, type_words}
use Rattle.cgrammar.specs.Grammar.{Spells, OneAssignment, CommaOperator, OneConditional, AssignmentOperator, OneOperation, ConditionalOperator, OneCast, BinaryOperator, OneUnary, CastOperator, OnePostfix, CountBefore, UnaryOperator, SizeOfExpression, SizeOfTypeName, OnePrimary, IndexOperator, CallOfNothing, CallOperator, MemberOperator, CountBehind, OneArgument, MoreArguments, OneName, OneConstant, Bracketed, StatementExpression, OffsetOfMember, NoMoreMembers, PathToMember, PathToItem, FailedAssertion, BasicWords, TypedefName, TypeOfExpression, TypeOfType, StructWithFields, StructByTag, NoMoreFields, MoreFields, OneFieldDeclaration, OneField, MoreFieldNames, NamedField, NamedBits, UnnamedBits, EnumWithValues, EnumByTag, LastEnumerator, MoreEnumerators, PlainEnumerator, ValuedEnumerator, OneTypeName, NoMoreSizes, SizeLeftOut, SizeGiven, TypeAlone, StorageBefore, StorageBehind, NoDeclarator, WithDeclarators, OneDeclarator, MoreDeclarators, ObjectDeclarator, InitializedDeclarator, DeclaratorOfFunction, NoParameters, VoidParameters, WithParameters, OneParameter, MoreParameters, NamedParameter, UnnamedParameter, InitializedTo, EmptyBraces, InBraces, OneInitializer, MoreInitializers, NextPart, MemberPart, OneBlock, NoMoreItems, NextDeclaration, NextStatement, BlockStatement, EmptyStatement, ExpressionStatement, OneSubstatement, IfStatement, IfElseStatement, WhileStatement, DoStatement, ForStatement, FirstDeclaration, FirstLeftOut, FirstExpression, NoExpression, SomeExpression, BreakStatement, ContinueStatement, ReturnStatement, LabeledStatement}
use Rattle.cgrammar.specs.Labels.{is_colon, BeginWithoutColon, IsWithoutColon, LabelsAreNoExpressions}
use Rattle.cgrammar.specs.Operators.{row_of, mark_row, unary_rows, count_rows, member_rows, binary_rows, assignment_rows}
use Rattle.cgrammar.specs.Phrases.{Phrase, Context}
use Rattle.cgrammar.specs.Scope.{Names, is_typedef_name}
use Rattle.cgrammar.specs.Terminals.{Terminal, is_word_kind, is_mark_kind, IsMark, is_left_out}

-- tokens that are no `:`
kind-apart : (token : Terminal) → is_mark_kind token.kind ≡ false → not (is_colon token) ≡ true
kind-apart token is = ap (λ (mark : Bool). not (mark && bytes_eq token.bytes (codes ":"))) is

word-apart : (token : Terminal) → is_word_kind token.kind ≡ true → not (is_colon token) ≡ true
word-apart token is = kind-apart token (word_kind_no_mark token.kind is)

constant-apart : (token : Terminal) → IsConstant token → not (is_colon token) ≡ true
constant-apart token is = kind-apart token (step token.kind is)
  where
    step : (kind : TokenKind) → IsOfKind kind token.bytes → is_mark_kind kind ≡ false
    step Word i = refl
    step Number i = refl
    step Letter i = refl
    step Quoted i = refl
    step Mark i = absurd i

bytes-apart : (token : Terminal) → bytes_eq token.bytes (codes ":") ≡ false → not (is_colon token) ≡ true
bytes-apart token is = step (is_mark_kind token.kind)
  where
    step : (mark : Bool) → not (mark && bytes_eq token.bytes (codes ":")) ≡ true
    step true = ap not is
    step false = refl

mark-apart : (bytes : List ℕ) (token : Terminal) → IsMark bytes token → bytes_eq bytes (codes ":") ≡ false → not (is_colon token) ≡ true
mark-apart bytes token is apart = bytes-apart token (ap (λ (n : List ℕ). bytes_eq n (codes ":")) ((bytes_eq-Decides token.bytes bytes).0 (and-right (is_mark_kind token.kind) (bytes_eq token.bytes bytes) is)) ∙ apart)

row-apart : {A : Type 0} {answer : A} (rows : List (List ℕ × A)) (token : Terminal) → row_of (codes ":") rows ≡ None → mark_row rows token ≡ Some answer → not (is_colon token) ≡ true
row-apart {A} {answer} rows token none is = bytes-apart token (step (bytes_eq token.bytes (codes ":")) refl)
  where
    found : (mark : Bool) → (if mark then row_of token.bytes rows else None) ≡ Some answer → row_of token.bytes rows ≡ Some answer
    found true i = i
    found false i = cc i

    step : (same : Bool) → bytes_eq token.bytes (codes ":") ≡ same → bytes_eq token.bytes (codes ":") ≡ false
    step true e = let nothing : Option A = None in let clash : nothing ≡ Some answer = sym none ∙ (ap (λ (n : List ℕ). row_of n rows) (sym ((bytes_eq-Decides token.bytes (codes ":")).0 e)) ∙ found (is_mark_kind token.kind) is) in cc clash
    step false e = e

type-apart : (scopes : List Names) (row : List Terminal) → Begins (begins_type scopes) row → Begins (λ token. not (is_colon token)) row
type-apart scopes [] is = is
type-apart scopes (token ∷ row) is = step (is_word_kind token.kind) refl is
  where
    step : (word : Bool) → is_word_kind token.kind ≡ word → ((word && list_any (bytes_eq token.bytes) type_words) || ((word && (is_identifier (word_symbol token.bytes) && not (is_left_out token.bytes))) && is_typedef_name scopes token.bytes)) ≡ true → not (is_colon token) ≡ true
    step true e i = word-apart token e
    step false e i = cc i

-- rows
first-of-two : (row : List Terminal) → BeginWithoutColon row → Begins (λ token. not (is_colon token)) row
first-of-two [] is = is
first-of-two (only ∷ []) is = is
first-of-two (front ∷ (second ∷ row)) is = is.0

before-two : (token : Terminal) (row : List Terminal) → not (is_colon token) ≡ true → Begins (λ token. not (is_colon token)) row → BeginWithoutColon (token ∷ row)
before-two token [] is begins = is
before-two token (second ∷ row) is begins = (is, begins)

append-two : (row : List Terminal) (token : Terminal) (others : List Terminal) → BeginWithoutColon row → not (is_colon token) ≡ true → BeginWithoutColon (row ++ (token ∷ others))
append-two [] token others is apart = absurd is
append-two (only ∷ []) token others is apart = (is, apart)
append-two (front ∷ (second ∷ row)) token others is apart = is

two : {phrase : Phrase} {before after : Context} {row : List Terminal} → Spells phrase before row after → IsWithoutColon phrase row
two (OneAssignment d1) = two d1
two (CommaOperator {xs} mark d1 p1 _) = append-two xs mark _ (two d1) (mark-apart (codes ",") mark p1 refl)
two (OneConditional d1) = two d1
two (AssignmentOperator {xs} mark d1 p1 _) = append-two xs mark _ (two d1) (row-apart assignment_rows mark refl p1)
two (OneOperation d1) = two d1
two (ConditionalOperator {xs} mark _ d1 p1 _ _ _) = append-two xs mark _ (two d1) (mark-apart (codes "?") mark p1 refl)
two (OneCast d1) = two d1
two (BinaryOperator {xs} mark _ d1 p2 _) = append-two xs mark _ (two d1) (row-apart binary_rows mark refl p2)
two (OneUnary d1) = two d1
two (CastOperator {before} {xs} opening _ p1 d1 _ _) = before-two opening (xs ++ _) (mark-apart (codes "(") opening p1 refl) (begins-append (λ token. not (is_colon token)) xs _ (type-apart before.scope xs (first d1)))
two (OnePostfix d1) = two d1
two (CountBefore {xs} mark p1 d1) = before-two mark xs (row-apart count_rows mark refl p1) (first-of-two xs (two d1))
two (UnaryOperator {xs} mark p1 d1) = before-two mark xs (row-apart unary_rows mark refl p1) (first-of-two xs (two d1))
two (SizeOfExpression {xs} word p1 d1) = before-two word xs (word-apart word (and-left (is_word_kind word.kind) (bytes_eq word.bytes (codes "sizeof")) p1)) (first-of-two xs (two d1))
two (SizeOfTypeName word opening _ p1 p2 _ _) = (word-apart word (and-left (is_word_kind word.kind) (bytes_eq word.bytes (codes "sizeof")) p1), mark-apart (codes "(") opening p2 refl)
two (OnePrimary d1) = two d1
two (IndexOperator {xs} opening _ d1 p1 _ _) = append-two xs opening _ (two d1) (mark-apart (codes "[") opening p1 refl)
two (CallOfNothing {xs} opening _ d1 p1 _) = append-two xs opening _ (two d1) (mark-apart (codes "(") opening p1 refl)
two (CallOperator {xs} opening _ d1 p1 _ _ _) = append-two xs opening _ (two d1) (mark-apart (codes "(") opening p1 refl)
two (MemberOperator {xs} mark _ d1 p1 _) = append-two xs mark _ (two d1) (row-apart member_rows mark refl p1)
two (CountBehind {xs} mark d1 p1) = append-two xs mark _ (two d1) (row-apart count_rows mark refl p1)
two (OneArgument _) = tt
two (MoreArguments _ _ _ _) = tt
two (OneName name p1) = word-apart name (and-left (is_word_kind name.kind) (is_identifier (word_symbol name.bytes) && not (is_left_out name.bytes)) p1)
two (OneConstant token p1) = constant-apart token p1
two (Bracketed {xs} opening _ p1 _ d1 _) = before-two opening (xs ++ _) (mark-apart (codes "(") opening p1 refl) (begins-append (λ token. not (is_colon token)) xs _ (first-of-two xs (two d1)))
two (StatementExpression {xs} opening _ p1 d1 _) = before-two opening (xs ++ _) (mark-apart (codes "(") opening p1 refl) (begins-append (λ token. not (is_colon token)) xs _ (two d1))
two (OffsetOfMember word opening _ _ _ p1 p2 _ _ _ _ _) = (word-apart word (and-left (is_word_kind word.kind) (bytes_eq word.bytes (codes "__builtin_offsetof")) p1), mark-apart (codes "(") opening p2 refl)
two NoMoreMembers = tt
two (PathToMember _ _ _ _ _) = tt
two (PathToItem _ _ _ _ _ _) = tt
two (FailedAssertion word opening _ p1 p2 _ _) = (word-apart word (and-left (is_word_kind word.kind) (bytes_eq word.bytes (codes "__assert_fail")) p1), mark-apart (codes "(") opening p2 refl)
two (BasicWords _ _) = tt
two (TypedefName _ _) = tt
two (TypeOfExpression _ _ _ _ _ _ _ _) = tt
two (TypeOfType _ _ _ _ _ _ _) = tt
two (StructWithFields _ _ _ _ _ _ _ _ _) = tt
two (StructByTag _ _ _ _) = tt
two NoMoreFields = tt
two (MoreFields _ _) = tt
two (OneFieldDeclaration _ _ _ _) = tt
two (OneField _) = tt
two (MoreFieldNames _ _ _ _) = tt
two (NamedField _ _ _ _ _ _) = tt
two (NamedBits _ _ _ _ _ _ _ _ _) = tt
two (UnnamedBits _ _ _) = tt
two (EnumWithValues _ _ _ _ _ _ _ _ _ _ _) = tt
two (EnumByTag _ _ _ _) = tt
two (LastEnumerator _) = tt
two (MoreEnumerators _ _ _ _) = tt
two (PlainEnumerator _ _) = tt
two (ValuedEnumerator _ _ _ _ _) = tt
two (OneTypeName _ _ _ _) = tt
two NoMoreSizes = tt
two (SizeLeftOut _ _ _ _ _) = tt
two (SizeGiven _ _ _ _ _ _) = tt
two (TypeAlone _) = tt
two (StorageBefore _ _ _) = tt
two (StorageBehind _ _ _) = tt
two (NoDeclarator _ _ _) = tt
two (WithDeclarators _ _ _ _) = tt
two (OneDeclarator _) = tt
two (MoreDeclarators _ _ _ _) = tt
two (ObjectDeclarator _ _ _ _ _) = tt
two (InitializedDeclarator _ _ _ _ _ _ _ _) = tt
two (DeclaratorOfFunction _) = tt
two (NoParameters _ _ _ _ _ _ _ _) = tt
two (VoidParameters _ _ _ _ _ _ _ _ _ _) = tt
two (WithParameters _ _ _ _ _ _ _ _ _ _) = tt
two (OneParameter _) = tt
two (MoreParameters _ _ _ _) = tt
two (NamedParameter _ _ _ _ _ _) = tt
two (UnnamedParameter _ _ _ _) = tt
two (InitializedTo _) = tt
two (EmptyBraces _ _ _ _) = tt
two (InBraces _ _ _ _ _ _ _) = tt
two (OneInitializer _) = tt
two (MoreInitializers _ _ _ _) = tt
two (NextPart _) = tt
two (MemberPart _ _ _ _ _ _ _) = tt
two (OneBlock opening _ p1 _ _) = mark-apart (codes "{") opening p1 refl
two NoMoreItems = tt
two (NextDeclaration _ _) = tt
two (NextStatement _ _) = tt
two (BlockStatement _) = tt
two (EmptyStatement _ _) = tt
two (ExpressionStatement _ _ _ _) = tt
two (OneSubstatement _) = tt
two (IfStatement _ _ _ _ _ _ _ _ _) = tt
two (IfElseStatement _ _ _ _ _ _ _ _ _ _ _ _) = tt
two (WhileStatement _ _ _ _ _ _ _ _ _) = tt
two (DoStatement _ _ _ _ _ _ _ _ _ _ _ _ _) = tt
two (ForStatement _ _ _ _ _ _ _ _ _ _ _ _) = tt
two (FirstDeclaration _) = tt
two (FirstLeftOut _ _) = tt
two (FirstExpression _ _ _ _) = tt
two NoExpression = tt
two (SomeExpression _) = tt
two (BreakStatement _ _ _ _) = tt
two (ContinueStatement _ _ _ _) = tt
two (ReturnStatement _ _ _ _ _) = tt
two (LabeledStatement _ _ _ _ _ _) = tt

pub labels_apart : LabelsAreNoExpressions
labels_apart label colon others expr before after is spelled = let clash : not true ≡ true = sym (ap not is) ∙ (two spelled).1 in cc clash
