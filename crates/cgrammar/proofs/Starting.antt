-- With which tokens operands and statements begin, rule by rule, and which tokens they do not begin with.
use Rattle.std.proofs.Common.{◌≡◌, ℕ, Bool, true, false, ◌&&◌, ◌||◌, not, refl, ap, sym, ◌∙◌, List, [], ◌∷◌, ◌++◌, codes, Some, None, IsTrue}
use Rattle.std.specs.Prelude.{if◌then◌else◌}
use Rattle.std.specs.List.{list_any, list_all}
use Rattle.std.specs.Str.{bytes_eq}
use Rattle.std.proofs.lemmas.Slice.Eq.{bytes_eq-Decides}
use Rattle.ctokens.specs.declared.token.TokenKind.{TokenKind}
use Rattle.ctokens.specs.declared.token.TokenKind.TheVariants.{Word, Number, Letter, Quoted, Mark}
use Rattle.ctokens.proofs.Choices.{false_or}
use Rattle.cgrammar.proofs.Firsts.{begins-append, first}
use Rattle.cgrammar.proofs.TokenKinds.{mark_bytes, word_bytes, mark_is_mark_kind, word_is_word_kind, row_is_mark_kind, mark_is_no_name, word_is_no_name, mark_kind_no_word, word_kind_no_mark, named_words, other_mark}
use Rattle.cgrammar.proofs.Truth.{and-left, and-right, and-both, or-left, or-right, clash, false-of, and-false}
use Rattle.cgrammar.specs.Constants.{IsConstant, IsOfKind}
use Rattle.cgrammar.specs.Firsts.{is_among, Begins, begins_type}
use Rattle.cgrammar.specs.Grammar.{Spells, OneAssignment, CommaOperator, OneConditional, AssignmentOperator, OneOperation, ConditionalOperator, OneCast, BinaryOperator, OneUnary, CastOperator, OnePostfix, CountBefore, UnaryOperator, SizeOfExpression, SizeOfTypeName, OnePrimary, IndexOperator, CallOfNothing, CallOperator, MemberOperator, CountBehind, OneArgument, MoreArguments, OneName, OneConstant, Bracketed, StatementExpression, OffsetOfMember, NoMoreMembers, PathToMember, PathToItem, FailedAssertion, BasicWords, TypedefName, TypeOfExpression, TypeOfType, StructWithFields, StructByTag, NoMoreFields, MoreFields, OneFieldDeclaration, OneField, MoreFieldNames, NamedField, NamedBits, UnnamedBits, EnumWithValues, EnumByTag, LastEnumerator, MoreEnumerators, PlainEnumerator, ValuedEnumerator, OneTypeName, NoMoreSizes, SizeLeftOut, SizeGiven, TypeAlone, StorageBefore, StorageBehind, NoDeclarator, WithDeclarators, OneDeclarator, MoreDeclarators, ObjectDeclarator, InitializedDeclarator, DeclaratorOfFunction, NoParameters, VoidParameters, WithParameters, OneParameter, MoreParameters, NamedParameter, UnnamedParameter, InitializedTo, EmptyBraces, InBraces, OneInitializer, MoreInitializers, NextPart, MemberPart, OneBlock, NoMoreItems, NextDeclaration, NextStatement, BlockStatement, EmptyStatement, ExpressionStatement, OneSubstatement, IfStatement, IfElseStatement, WhileStatement, DoStatement, ForStatement, FirstDeclaration, FirstLeftOut, FirstExpression, NoExpression, SomeExpression, BreakStatement, ContinueStatement, ReturnStatement, LabeledStatement}
use Rattle.cgrammar.specs.Operators.{row_of, mark_row, unary_rows, count_rows}
use Rattle.cgrammar.specs.Phrases.{Phrase, Context}
use Rattle.cgrammar.specs.Starts.{is_mark_among, is_constant_kind, operand_marks, operand_words, begins_operand, statement_marks, statement_words, begins_statement, HasFirst, StartsAs}
use Rattle.cgrammar.specs.Terminals.{Terminal, is_word_kind, is_mark_kind, IsWord, is_mark, IsMark, is_name, IsName}

among : (kind : Bool) (bytes other : List ℕ) (texts : List (List ℕ)) → kind ≡ true → bytes ≡ other → list_any (bytes_eq other) texts ≡ true → (kind && list_any (bytes_eq bytes) texts) ≡ true
among kind bytes other texts is same any = and-both is (ap (λ (b : List ℕ). list_any (bytes_eq b) texts) same ∙ any)

mark-among : (marks : List (List ℕ)) (bytes : List ℕ) (token : Terminal) → IsMark bytes token → list_any (bytes_eq bytes) marks ≡ true → is_mark_among marks token ≡ true
mark-among marks bytes token is any = among (is_mark_kind token.kind) token.bytes bytes marks (mark_is_mark_kind bytes token is) (mark_bytes bytes token is) any

word-among : (words : List (List ℕ)) (bytes : List ℕ) (token : Terminal) → IsWord bytes token → list_any (bytes_eq bytes) words ≡ true → is_among words token ≡ true
word-among words bytes token is any = among (is_word_kind token.kind) token.bytes bytes words (word_is_word_kind bytes token is) (word_bytes bytes token is) any

name-operand : (token : Terminal) → IsName token → begins_operand token ≡ true
name-operand token is = or-left (is_constant_kind token.kind || (is_mark_among operand_marks token || is_among operand_words token)) is

constant-operand : (token : Terminal) → IsConstant token → begins_operand token ≡ true
constant-operand token is = or-right (is_name token) (or-left (is_mark_among operand_marks token || is_among operand_words token) (step token.kind is))
  where
    step : (kind : TokenKind) → IsOfKind kind token.bytes → is_constant_kind kind ≡ true
    step Word is = absurd is
    step Number is = refl
    step Letter is = refl
    step Quoted is = absurd is
    step Mark is = absurd is

mark-of-operand : (token : Terminal) → is_mark_among operand_marks token ≡ true → begins_operand token ≡ true
mark-of-operand token is = or-right (is_name token) (or-right (is_constant_kind token.kind) (or-left (is_among operand_words token) is))

mark-operand : (bytes : List ℕ) (token : Terminal) → IsMark bytes token → list_any (bytes_eq bytes) operand_marks ≡ true → begins_operand token ≡ true
mark-operand bytes token is any = mark-of-operand token (mark-among operand_marks bytes token is any)

word-operand : (bytes : List ℕ) (token : Terminal) → IsWord bytes token → list_any (bytes_eq bytes) operand_words ≡ true → begins_operand token ≡ true
word-operand bytes token is any = or-right (is_name token) (or-right (is_constant_kind token.kind) (or-right (is_mark_among operand_marks token) (word-among operand_words bytes token is any)))

row-marks : {A : Type 0} {answer : A} (rows : List (List ℕ × A)) (bytes : List ℕ) → list_all (λ row. list_any (bytes_eq row.0) operand_marks) rows ≡ true → row_of bytes rows ≡ Some answer → list_any (bytes_eq bytes) operand_marks ≡ true
row-marks [] bytes all is = cc is
row-marks {A} {answer} (row ∷ rows) bytes all is = step (bytes_eq row.0 bytes) refl (row-marks rows bytes (and-right (list_any (bytes_eq row.0) operand_marks) (list_all (λ r. list_any (bytes_eq r.0) operand_marks) rows) all)) is
  where
    step : (same : Bool) → bytes_eq row.0 bytes ≡ same → (row_of bytes rows ≡ Some answer → list_any (bytes_eq bytes) operand_marks ≡ true) → (if same then Some row.1 else row_of bytes rows) ≡ Some answer → list_any (bytes_eq bytes) operand_marks ≡ true
    step true same further i = ap (λ (b : List ℕ). list_any (bytes_eq b) operand_marks) (sym ((bytes_eq-Decides row.0 bytes).0 same)) ∙ and-left (list_any (bytes_eq row.0) operand_marks) (list_all (λ r. list_any (bytes_eq r.0) operand_marks) rows) all
    step false same further i = further i

row-operand : {A : Type 0} {answer : A} (rows : List (List ℕ × A)) (token : Terminal) → mark_row rows token ≡ Some answer → list_all (λ row. list_any (bytes_eq row.0) operand_marks) rows ≡ true → begins_operand token ≡ true
row-operand {A} {answer} rows token is all =
    let kind = row_is_mark_kind answer rows token is in
    mark-of-operand token (and-both kind (row-marks rows token.bytes all (sym (ap (λ (mark : Bool). if mark then row_of token.bytes rows else None) kind) ∙ is)))

operand-statement : (row : List Terminal) → Begins begins_operand row → Begins begins_statement row
operand-statement [] no-first = no-first
operand-statement (token ∷ row) is = or-left (is_mark_among statement_marks token || is_among statement_words token) is

mark-statement : (bytes : List ℕ) (token : Terminal) → IsMark bytes token → list_any (bytes_eq bytes) statement_marks ≡ true → begins_statement token ≡ true
mark-statement bytes token is any = or-right (begins_operand token) (or-left (is_among statement_words token) (mark-among statement_marks bytes token is any))

word-statement : (bytes : List ℕ) (token : Terminal) → IsWord bytes token → list_any (bytes_eq bytes) statement_words ≡ true → begins_statement token ≡ true
word-statement bytes token is any = or-right (begins_operand token) (or-right (is_mark_among statement_marks token) (word-among statement_words bytes token is any))

brace-statement : (row : List Terminal) → Begins (is_mark (codes "{")) row → Begins begins_statement row
brace-statement [] no-first = no-first
brace-statement (token ∷ row) is = mark-statement (codes "{") token is refl

-- what does not begin an operand or a statement
not-among : (kind : Bool) (bytes other : List ℕ) (texts : List (List ℕ)) → bytes ≡ other → list_any (bytes_eq other) texts ≡ false → (kind && list_any (bytes_eq bytes) texts) ≡ false
not-among false bytes other texts same none = refl
not-among true bytes other texts same none = ap (λ (b : List ℕ). list_any (bytes_eq b) texts) same ∙ none

mark-no-constant : (kind : TokenKind) → is_mark_kind kind ≡ true → is_constant_kind kind ≡ false
mark-no-constant Word is = refl
mark-no-constant Number is = sym is
mark-no-constant Letter is = sym is
mark-no-constant Quoted is = refl
mark-no-constant Mark is = refl

word-no-constant : (kind : TokenKind) → is_word_kind kind ≡ true → is_constant_kind kind ≡ false
word-no-constant Word is = refl
word-no-constant Number is = sym is
word-no-constant Letter is = sym is
word-no-constant Quoted is = refl
word-no-constant Mark is = refl

mark-no-operand : (bytes : List ℕ) (token : Terminal) → list_any (bytes_eq bytes) operand_marks ≡ false → IsMark bytes token → begins_operand token ≡ false
mark-no-operand bytes token none mark =
    false_or (is_name token) _ (mark_is_no_name bytes token mark)
    (false_or (is_constant_kind token.kind) _ (mark-no-constant token.kind (mark_is_mark_kind bytes token mark))
    (false_or (is_mark_among operand_marks token) _ (not-among (is_mark_kind token.kind) token.bytes bytes operand_marks (mark_bytes bytes token mark) none)
    (and-false (is_word_kind token.kind) (list_any (bytes_eq token.bytes) operand_words) (mark_kind_no_word token.kind (mark_is_mark_kind bytes token mark)))))

word-no-operand : (bytes : List ℕ) (token : Terminal) → list_any (bytes_eq bytes) named_words ≡ true → list_any (bytes_eq bytes) operand_words ≡ false → IsWord bytes token → begins_operand token ≡ false
word-no-operand bytes token named none word =
    false_or (is_name token) _ (word_is_no_name bytes token named word)
    (false_or (is_constant_kind token.kind) _ (word-no-constant token.kind (word_is_word_kind bytes token word))
    (false_or (is_mark_among operand_marks token) _ (and-false (is_mark_kind token.kind) (list_any (bytes_eq token.bytes) operand_marks) (word_kind_no_mark token.kind (word_is_word_kind bytes token word)))
    (not-among (is_word_kind token.kind) token.bytes bytes operand_words (word_bytes bytes token word) none)))

pub operand_not_mark : (bytes : List ℕ) (token : Terminal) → list_any (bytes_eq bytes) operand_marks ≡ false → IsTrue (begins_operand token) → IsMark bytes token → ⊥
operand_not_mark bytes token none is mark = clash (begins_operand token) is (mark-no-operand bytes token none mark)

pub operand_not_word : (bytes : List ℕ) (token : Terminal) → list_any (bytes_eq bytes) named_words ≡ true → list_any (bytes_eq bytes) operand_words ≡ false → IsTrue (begins_operand token) → IsWord bytes token → ⊥
operand_not_word bytes token named none is word = clash (begins_operand token) is (word-no-operand bytes token named none word)

pub statement_not_mark : (bytes : List ℕ) (token : Terminal) → list_any (bytes_eq bytes) operand_marks ≡ false → list_any (bytes_eq bytes) statement_marks ≡ false → IsTrue (begins_statement token) → IsMark bytes token → ⊥
statement_not_mark bytes token none other is mark =
    clash (begins_statement token) is
    (false_or (begins_operand token) _ (mark-no-operand bytes token none mark)
    (false_or (is_mark_among statement_marks token) _ (not-among (is_mark_kind token.kind) token.bytes bytes statement_marks (mark_bytes bytes token mark) other)
    (and-false (is_word_kind token.kind) (list_any (bytes_eq token.bytes) statement_words) (mark_kind_no_word token.kind (mark_is_mark_kind bytes token mark)))))

pub statement_not_else : (token : Terminal) → IsTrue (begins_statement token) → IsWord (codes "else") token → ⊥
statement_not_else token is word =
    clash (begins_statement token) is
    (false_or (begins_operand token) _ (word-no-operand (codes "else") token refl refl word)
    (false_or (is_mark_among statement_marks token) _ (and-false (is_mark_kind token.kind) (list_any (bytes_eq token.bytes) statement_marks) (word_kind_no_mark token.kind (word_is_word_kind (codes "else") token word)))
    (not-among (is_word_kind token.kind) token.bytes (codes "else") statement_words (word_bytes (codes "else") token word) refl)))

abbrev has-first : Terminal → Bool
has-first token = true

abbrev closes-nothing : Terminal → Bool
closes-nothing token = not (is_mark (codes "}") token)

some-first : (test : Terminal → Bool) (row : List Terminal) → Begins test row → HasFirst row
some-first test [] no-first = no-first
some-first test (token ∷ row) is = refl

behind-stars : (stars : List Terminal) (name : Terminal) (row : List Terminal) → HasFirst (stars ++ (name ∷ row))
behind-stars [] name row = refl
behind-stars (star ∷ stars) name row = refl

no-brace : (bytes : List ℕ) (token : Terminal) → IsMark bytes token → bytes_eq bytes (codes "}") ≡ false → not (is_mark (codes "}") token) ≡ true
no-brace bytes token is differ = ap not (other_mark bytes (codes "}") token differ is)

operand-no-brace : (row : List Terminal) → Begins begins_operand row → Begins (λ token. not (is_mark (codes "}") token)) row
operand-no-brace [] no-first = no-first
operand-no-brace (token ∷ row) is = ap not (false-of (is_mark (codes "}") token) (λ mark. operand_not_mark (codes "}") token refl is mark))

pub starts : {phrase : Phrase} {before after : Context} {row : List Terminal} → Spells phrase before row after → StartsAs phrase row
starts (OneAssignment d1) = starts d1
starts (CommaOperator {xs} _ d1 _ _) = begins-append begins_operand xs _ (starts d1)
starts (OneConditional d1) = starts d1
starts (AssignmentOperator {xs} _ d1 _ _) = begins-append begins_operand xs _ (starts d1)
starts (OneOperation d1) = starts d1
starts (ConditionalOperator {xs} _ _ d1 _ _ _ _) = begins-append begins_operand xs _ (starts d1)
starts (OneCast d1) = starts d1
starts (BinaryOperator {xs} _ _ d1 _ _) = begins-append begins_operand xs _ (starts d1)
starts (OneUnary d1) = starts d1
starts (CastOperator opening _ p1 _ _ _) = mark-operand (codes "(") opening p1 refl
starts (OnePostfix d1) = starts d1
starts (CountBefore mark p1 _) = row-operand count_rows mark p1 refl
starts (UnaryOperator mark p1 _) = row-operand unary_rows mark p1 refl
starts (SizeOfExpression word p1 _) = word-operand (codes "sizeof") word p1 refl
starts (SizeOfTypeName word _ _ p1 _ _ _) = word-operand (codes "sizeof") word p1 refl
starts (OnePrimary d1) = starts d1
starts (IndexOperator {xs} _ _ d1 _ _ _) = begins-append begins_operand xs _ (starts d1)
starts (CallOfNothing {xs} _ _ d1 _ _) = begins-append begins_operand xs _ (starts d1)
starts (CallOperator {xs} _ _ d1 _ _ _ _) = begins-append begins_operand xs _ (starts d1)
starts (MemberOperator {xs} _ _ d1 _ _) = begins-append begins_operand xs _ (starts d1)
starts (CountBehind {xs} _ d1 _) = begins-append begins_operand xs _ (starts d1)
starts (OneArgument d1) = starts d1
starts (MoreArguments {xs} _ d1 _ _) = begins-append begins_operand xs _ (starts d1)
starts (OneName name p1) = name-operand name p1
starts (OneConstant token p1) = constant-operand token p1
starts (Bracketed opening _ p1 _ _ _) = mark-operand (codes "(") opening p1 refl
starts (StatementExpression opening _ p1 _ _) = mark-operand (codes "(") opening p1 refl
starts (OffsetOfMember word _ _ _ _ p1 _ _ _ _ _ _) = word-operand (codes "__builtin_offsetof") word p1 refl
starts NoMoreMembers = tt
starts (PathToMember _ _ _ _ _) = tt
starts (PathToItem _ _ _ _ _ _) = tt
starts (FailedAssertion word _ _ p1 _ _ _) = word-operand (codes "__assert_fail") word p1 refl
starts (BasicWords {before} row p1) = some-first (begins_type before.scope) row (first (BasicWords {before = before} row p1))
starts (TypedefName _ _) = refl
starts (TypeOfExpression _ _ _ _ _ _ _ _) = refl
starts (TypeOfType _ _ _ _ _ _ _) = refl
starts (StructWithFields _ _ _ _ _ _ _ _ _) = refl
starts (StructByTag _ _ _ _) = refl
starts NoMoreFields = tt
starts (MoreFields _ _) = tt
starts (OneFieldDeclaration {xs} _ d1 _ _) = begins-append has-first xs _ (starts d1)
starts (OneField d1) = starts d1
starts (MoreFieldNames {xs} _ d1 _ _) = begins-append has-first xs _ (starts d1)
starts (NamedField stars name _ _ _ _) = behind-stars stars name _
starts (NamedBits stars name _ _ _ _ _ _ _) = behind-stars stars name _
starts (UnnamedBits _ _ _) = refl
starts (EnumWithValues _ _ _ _ _ _ _ _ _ _ _) = refl
starts (EnumByTag _ _ _ _) = refl
starts (LastEnumerator d1) = starts d1
starts (MoreEnumerators {xs} _ d1 _ _) = begins-append has-first xs _ (starts d1)
starts (PlainEnumerator _ _) = refl
starts (ValuedEnumerator _ _ _ _ _) = refl
starts (OneTypeName {xs} _ d1 _ _) = begins-append has-first xs _ (starts d1)
starts NoMoreSizes = tt
starts (SizeLeftOut _ _ _ _ _) = tt
starts (SizeGiven _ _ _ _ _ _) = tt
starts (TypeAlone d1) = starts d1
starts (StorageBefore _ _ _) = refl
starts (StorageBehind {xs} word d1 _) = begins-append has-first xs _ (starts d1)
starts (NoDeclarator {xs} _ d1 _) = begins-append has-first xs _ (starts d1)
starts (WithDeclarators {xs} _ d1 _ _) = begins-append has-first xs _ (starts d1)
starts (OneDeclarator d1) = starts d1
starts (MoreDeclarators {xs} _ d1 _ _) = begins-append has-first xs _ (starts d1)
starts (ObjectDeclarator stars name _ _ _) = behind-stars stars name _
starts (InitializedDeclarator stars name _ _ _ _ _ _) = behind-stars stars name _
starts (DeclaratorOfFunction d1) = starts d1
starts (NoParameters stars name _ _ _ _ _ _) = behind-stars stars name _
starts (VoidParameters stars name _ _ _ _ _ _ _ _) = behind-stars stars name _
starts (WithParameters stars name _ _ _ _ _ _ _ _) = behind-stars stars name _
starts (OneParameter d1) = starts d1
starts (MoreParameters {xs} _ d1 _ _) = begins-append has-first xs _ (starts d1)
starts (NamedParameter {xs} _ _ d1 _ _ _) = begins-append has-first xs _ (starts d1)
starts (UnnamedParameter {xs} _ d1 _ _) = begins-append has-first xs _ (starts d1)
starts (InitializedTo {xs} d1) = operand-no-brace xs (starts d1)
starts (EmptyBraces opening _ p1 _) = no-brace (codes "{") opening p1 refl
starts (InBraces _ opening _ p1 _ _ _) = no-brace (codes "{") opening p1 refl
starts (OneInitializer d1) = starts d1
starts (MoreInitializers {xs} _ d1 _ _) = begins-append closes-nothing xs _ (starts d1)
starts (NextPart d1) = starts d1
starts (MemberPart dot _ _ p1 _ _ _) = no-brace (codes ".") dot p1 refl
starts (OneBlock opening _ p1 _ _) = p1
starts NoMoreItems = tt
starts (NextDeclaration _ _) = tt
starts (NextStatement _ _) = tt
starts (BlockStatement {xs} d1) = brace-statement xs (starts d1)
starts (EmptyStatement semicolon p1) = mark-statement (codes ";") semicolon p1 refl
starts (ExpressionStatement {xs} semicolon p1 d1 _) = begins-append begins_statement xs (semicolon ∷ []) (operand-statement xs (starts d1))
starts (OneSubstatement d1) = starts d1
starts (IfStatement word _ _ p1 _ _ _ _ _) = word-statement (codes "if") word p1 refl
starts (IfElseStatement word _ _ _ p1 _ _ _ _ _ _ _) = word-statement (codes "if") word p1 refl
starts (WhileStatement word _ _ p1 _ _ _ _ _) = word-statement (codes "while") word p1 refl
starts (DoStatement word _ _ _ _ p1 _ _ _ _ _ _ _) = word-statement (codes "do") word p1 refl
starts (ForStatement word _ _ _ p1 _ _ _ _ _ _ _) = word-statement (codes "for") word p1 refl
starts (FirstDeclaration _) = tt
starts (FirstLeftOut _ _) = tt
starts (FirstExpression _ _ _ _) = tt
starts NoExpression = tt
starts (SomeExpression _) = tt
starts (BreakStatement word _ p1 _) = word-statement (codes "break") word p1 refl
starts (ContinueStatement word _ p1 _) = word-statement (codes "continue") word p1 refl
starts (ReturnStatement word _ p1 _ _) = word-statement (codes "return") word p1 refl
starts (LabeledStatement label _ p1 p2 _ _) = operand-statement (label ∷ []) (name-operand label p1)
