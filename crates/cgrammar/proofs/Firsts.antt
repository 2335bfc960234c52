-- With which tokens the parts of the grammar begin, rule by rule.
use Rattle.std.proofs.Common.{◌≡◌, ℕ, Bool, true, false, ◌&&◌, ◌||◌, not, refl, ap, sym, ◌∙◌, List, [], ◌∷◌, ◌++◌, map, codes, Option, Some, IsTrue, suc, ◌+◌, length, nat_eq, arith, eqb-true}
use Rattle.std.specs.Prelude.{if◌then◌else◌}
use Rattle.std.specs.List.{list_any, list_all}
use Rattle.std.specs.Str.{bytes_eq}
use Rattle.std.proofs.lemmas.Slice.Eq.{bytes_eq-Decides}
use Rattle.cbase.specs.declared.tree.decl.Storage.{Storage}
use Rattle.cbase.specs.declared.tree.decl.Storage.TheVariants.{Plain, Typedef, Extern, Static}
use Rattle.cbase.specs.declared.tree.spec.BasicType.{BasicType}
use Rattle.ctokens.specs.Symbol.{is_identifier}
use Rattle.ctokens.specs.SymbolTables.{keyword_symbol, name_symbol, passed_symbol, word_symbol}
use Rattle.cgrammar.proofs.BasicRows.{some-times}
use Rattle.cgrammar.proofs.Scopes.{found_entered}
use Rattle.cgrammar.proofs.TokenKinds.{mark_is_mark_kind, mark_kind_no_word, no_identifier, bytes_same, row_is_mark_kind, constant_is_no_word_kind}
use Rattle.cgrammar.proofs.Truth.{and-left, and-right, or-left, or-right, of-any}
use Rattle.cgrammar.specs.Constants.{IsConstant}
use Rattle.cgrammar.specs.Firsts.{type_words, storage_words, is_among, begins_type, begins_declaration, is_plain, Begins, BeginsAs, FirstTokens, DeclarationsAreNoStatements, TypesAreNoExpressions}
use Rattle.cgrammar.specs.Grammar.{Spells, OneAssignment, CommaOperator, OneConditional, AssignmentOperator, OneOperation, ConditionalOperator, OneCast, BinaryOperator, OneUnary, CastOperator, OnePostfix, CountBefore, UnaryOperator, SizeOfExpression, SizeOfTypeName, OnePrimary, IndexOperator, CallOfNothing, CallOperator, MemberOperator, CountBehind, OneArgument, MoreArguments, OneName, OneConstant, Bracketed, StatementExpression, OffsetOfMember, NoMoreMembers, PathToMember, PathToItem, FailedAssertion, BasicWords, TypedefName, TypeOfExpression, TypeOfType, StructWithFields, StructByTag, NoMoreFields, MoreFields, OneFieldDeclaration, OneField, MoreFieldNames, NamedField, NamedBits, UnnamedBits, EnumWithValues, EnumByTag, LastEnumerator, MoreEnumerators, PlainEnumerator, ValuedEnumerator, OneTypeName, NoMoreSizes, SizeLeftOut, SizeGiven, TypeAlone, StorageBefore, StorageBehind, NoDeclarator, WithDeclarators, OneDeclarator, MoreDeclarators, ObjectDeclarator, InitializedDeclarator, DeclaratorOfFunction, NoParameters, VoidParameters, WithParameters, OneParameter, MoreParameters, NamedParameter, UnnamedParameter, InitializedTo, EmptyBraces, InBraces, OneInitializer, MoreInitializers, NextPart, MemberPart, OneBlock, NoMoreItems, NextDeclaration, NextStatement, BlockStatement, EmptyStatement, ExpressionStatement, OneSubstatement, IfStatement, IfElseStatement, WhileStatement, DoStatement, ForStatement, FirstDeclaration, FirstLeftOut, FirstExpression, NoExpression, SomeExpression, BreakStatement, ContinueStatement, ReturnStatement, LabeledStatement}
use Rattle.cgrammar.specs.Operators.{unary_rows, count_rows}
use Rattle.cgrammar.specs.Phrases.{Phrase, Context}
use Rattle.cgrammar.specs.Scope.{Names, says_typedef, is_typedef_name, entered}
use Rattle.cgrammar.specs.Terminals.{Terminal, is_word_kind, is_mark_kind, IsWord, is_name, IsName, is_left_out, is_typedef, IsNoType, is_any_word, bytes_of}
use Rattle.cgrammar.specs.TypeWords.{IsStorage, basic_rows, basic_of, are_same, times}

pub begins-append : (test : Terminal → Bool) (xs ys : List Terminal) → Begins test xs → Begins test (xs ++ ys)
begins-append test [] ys no-first = absurd no-first
begins-append test (first ∷ xs) ys is = is

-- a token that is no word
plain-kind : (token : Terminal) → is_word_kind token.kind ≡ false → is_plain token ≡ true
plain-kind token is = ap (λ (word : Bool). not ((word && list_any (bytes_eq token.bytes) storage_words) || (word && list_any (bytes_eq token.bytes) type_words))) is

mark-plain : (token : Terminal) → is_mark_kind token.kind ≡ true → is_plain token ≡ true
mark-plain token is = plain-kind token (mark_kind_no_word token.kind is)

mark-statement : (scopes : List Names) (token : Terminal) → is_mark_kind token.kind ≡ true → not (begins_declaration scopes token) ≡ true
mark-statement scopes token is = ap (λ (word : Bool). not ((word && list_any (bytes_eq token.bytes) storage_words) || ((word && list_any (bytes_eq token.bytes) type_words) || ((word && (is_identifier (word_symbol token.bytes) && not (is_left_out token.bytes))) && is_typedef_name scopes token.bytes)))) (mark_kind_no_word token.kind is)

constant-plain : (token : Terminal) → IsConstant token → is_plain token ≡ true
constant-plain token is = plain-kind token (constant_is_no_word_kind token is)

-- a word with known bytes
word-plain : (bytes : List ℕ) (token : Terminal) → IsWord bytes token → not (list_any (bytes_eq bytes) storage_words || list_any (bytes_eq bytes) type_words) ≡ true → is_plain token ≡ true
word-plain bytes token is plain =
    let same : token.bytes ≡ bytes = (bytes_eq-Decides token.bytes bytes).0 (and-right (is_word_kind token.kind) (bytes_eq token.bytes bytes) is) in
    ap (λ (word : Bool). not ((word && list_any (bytes_eq token.bytes) storage_words) || (word && list_any (bytes_eq token.bytes) type_words))) (and-left (is_word_kind token.kind) (bytes_eq token.bytes bytes) is)
    ∙ (ap (λ (n : List ℕ). not (list_any (bytes_eq n) storage_words || list_any (bytes_eq n) type_words)) same ∙ plain)

word-statement : (scopes : List Names) (bytes : List ℕ) (token : Terminal) → IsWord bytes token → not (list_any (bytes_eq bytes) storage_words || list_any (bytes_eq bytes) type_words) ≡ true → is_identifier (word_symbol bytes) ≡ false → not (begins_declaration scopes token) ≡ true
word-statement scopes bytes token is plain keyword =
    let same : token.bytes ≡ bytes = (bytes_eq-Decides token.bytes bytes).0 (and-right (is_word_kind token.kind) (bytes_eq token.bytes bytes) is) in
    step (is_word_kind token.kind) (list_any (bytes_eq token.bytes) storage_words) (list_any (bytes_eq token.bytes) type_words) (is_identifier (word_symbol token.bytes)) (not (is_left_out token.bytes)) (is_typedef_name scopes token.bytes)
    (ap (λ (n : List ℕ). not (list_any (bytes_eq n) storage_words || list_any (bytes_eq n) type_words)) same ∙ plain)
    (ap (λ (n : List ℕ). is_identifier (word_symbol n)) same ∙ keyword)
  where
    step : (word storage type name kept typedef : Bool) → not (storage || type) ≡ true → name ≡ false → not ((word && storage) || ((word && type) || ((word && (name && kept)) && typedef))) ≡ true
    step false storage type name kept typedef is no-name = refl
    step true true type name kept typedef is no-name = is
    step true false true name kept typedef is no-name = is
    step true false false name kept typedef is no-name = ap (λ (n : Bool). not ((n && kept) && typedef)) no-name

word-type : (scopes : List Names) (bytes : List ℕ) (token : Terminal) → IsWord bytes token → list_any (bytes_eq bytes) type_words ≡ true → begins_type scopes token ≡ true
word-type scopes bytes token is type =
    let same : token.bytes ≡ bytes = (bytes_eq-Decides token.bytes bytes).0 (and-right (is_word_kind token.kind) (bytes_eq token.bytes bytes) is) in
    or-left (is_typedef scopes token)
    (ap (λ (word : Bool). word && list_any (bytes_eq token.bytes) type_words) (and-left (is_word_kind token.kind) (bytes_eq token.bytes bytes) is)
    ∙ (ap (λ (n : List ℕ). list_any (bytes_eq n) type_words) same ∙ type))

-- an identifier is no keyword of a type or of a storage class
name-plain : (name : Terminal) → IsName name → is_plain name ≡ true
unfolding keyword_symbol name_symbol passed_symbol no_identifier
name-plain name is =
    step (is_word_kind name.kind) (list_any (bytes_eq name.bytes) storage_words) (list_any (bytes_eq name.bytes) type_words) refl refl
  where
    identifier : is_identifier (word_symbol name.bytes) ≡ true
    identifier = and-left (is_identifier (word_symbol name.bytes)) (not (is_left_out name.bytes)) (and-right (is_word_kind name.kind) (is_identifier (word_symbol name.bytes) && not (is_left_out name.bytes)) is)

    clash : (words : List (List ℕ)) → list_all no_identifier words ≡ true → list_any (bytes_eq name.bytes) words ≡ true → ⊥
    clash words all any = let no : not true ≡ true = sym (ap not identifier) ∙ of-any no_identifier words name.bytes all any in cc no

    step : (word storage type : Bool) → list_any (bytes_eq name.bytes) storage_words ≡ storage → list_any (bytes_eq name.bytes) type_words ≡ type → not ((word && storage) || (word && type)) ≡ true
    step false storage type s t = refl
    step true true type s t = absurd (clash storage_words refl s)
    step true false true s t = absurd (clash type_words refl t)
    step true false false s t = refl

-- a basic type begins with a keyword of a type
same-word : (word : List ℕ) (words others : List (List ℕ)) → are_same (word ∷ words) others ≡ true → list_any (bytes_eq word) others ≡ true
same-word word words others is =
    let each : list_all (λ w. nat_eq (times w (word ∷ words)) (times w others)) (word ∷ words) ≡ true = and-right (nat_eq (length (word ∷ words)) (length others)) (list_all (λ w. nat_eq (times w (word ∷ words)) (times w others)) (word ∷ words)) is in
    let counts : times word (word ∷ words) ≡ times word others = eqb-true (times word (word ∷ words)) (times word others) (and-left (nat_eq (times word (word ∷ words)) (times word others)) (list_all (λ w. nat_eq (times w (word ∷ words)) (times w others)) words) each) in
    let here : times word (word ∷ words) ≡ 1 + times word words = ap (λ (b : Bool). if b then 1 + times word words else times word words) (bytes_same word) in
    let more : times word others ≡ suc (times word words) = omega (arith, counts, here) in
    some-times word others (times word words) more

is-type-word : List ℕ → Bool
is-type-word bytes = list_any (bytes_eq bytes) type_words

of-basic : (rows : List (List (List ℕ) × BasicType)) (type : BasicType) (word : List ℕ) (words : List (List ℕ))
    → list_all (λ row. list_all is-type-word row.0) rows ≡ true → basic_of rows (word ∷ words) ≡ Some type → is-type-word word ≡ true
of-basic [] type word words all is = cc is
of-basic (row ∷ rows) type word words all is = step (are_same (word ∷ words) row.0) (of-basic rows type word words (and-right (list_all is-type-word row.0) (list_all (λ r. list_all is-type-word r.0) rows) all)) refl is
  where
    step : (same : Bool) → (basic_of rows (word ∷ words) ≡ Some type → is-type-word word ≡ true) → are_same (word ∷ words) row.0 ≡ same → (if same then Some row.1 else basic_of rows (word ∷ words)) ≡ Some type → is-type-word word ≡ true
    step true further s i = of-any is-type-word row.0 word (and-left (list_all is-type-word row.0) (list_all (λ r. list_all is-type-word r.0) rows) all) (same-word word words row.0 s)
    step false further s i = further i

pub no-basic : (type : BasicType) → basic_of basic_rows [] ≡ Some type → ⊥
no-basic type is = cc is

basic-type : {type : BasicType} (scopes : List Names) (row : List Terminal) → IsTrue (list_all is_any_word row) → basic_of basic_rows (map bytes_of row) ≡ Some type → Begins (begins_type scopes) row
unfolding is-type-word
basic-type {type} scopes [] all is = no-basic type is
basic-type {type} scopes (token ∷ row) all is =
    or-left (is_typedef scopes token)
    (ap (λ (word : Bool). word && list_any (bytes_eq token.bytes) type_words) (and-left (is_any_word token) (list_all is_any_word row) all)
    ∙ of-basic basic_rows type token.bytes (map bytes_of row) refl is)

type-declaration : (scopes : List Names) (row : List Terminal) → Begins (begins_type scopes) row → Begins (begins_declaration scopes) row
type-declaration scopes [] no-first = no-first
type-declaration scopes (token ∷ row) is = or-right (is_among storage_words token) is

storage-word : (scopes : List Names) (bytes : List ℕ) (token : Terminal) → IsWord bytes token → list_any (bytes_eq bytes) storage_words ≡ true → begins_declaration scopes token ≡ true
storage-word scopes bytes token is storage =
    let same : token.bytes ≡ bytes = (bytes_eq-Decides token.bytes bytes).0 (and-right (is_word_kind token.kind) (bytes_eq token.bytes bytes) is) in
    or-left (begins_type scopes token)
    (ap (λ (word : Bool). word && list_any (bytes_eq token.bytes) storage_words) (and-left (is_word_kind token.kind) (bytes_eq token.bytes bytes) is)
    ∙ (ap (λ (n : List ℕ). list_any (bytes_eq n) storage_words) same ∙ storage))

storage-declaration : (scopes : List Names) (storage : Storage) (token : Terminal) → IsStorage storage token → begins_declaration scopes token ≡ true
storage-declaration scopes Plain token is = absurd is
storage-declaration scopes Typedef token is = storage-word scopes (codes "typedef") token is refl
storage-declaration scopes Extern token is = storage-word scopes (codes "extern") token is refl
storage-declaration scopes Static token is = storage-word scopes (codes "static") token is refl

-- an expression that begins with no typedef's name begins with nothing that a declaration begins with
expression-statement : (scopes : List Names) (row : List Terminal) → Begins is_plain row → IsNoType scopes row → Begins (λ token. not (begins_declaration scopes token)) row
expression-statement scopes [] no-first is = no-first
expression-statement scopes (token ∷ row) plain is = step (is_among storage_words token) (is_among type_words token) (is_typedef scopes token) plain is
  where
    step : (storage type typedef : Bool) → not (storage || type) ≡ true → not typedef ≡ true → not (storage || (type || typedef)) ≡ true
    step true type typedef p t = p
    step false true typedef p t = p
    step false false typedef p t = t

-- a scope that is entered makes no name a typedef's
not-entered : (scopes : List Names) (row : List Terminal) → Begins (λ token. not (begins_declaration (entered scopes) token)) row → Begins (λ token. not (begins_declaration scopes token)) row
not-entered scopes [] no-first = no-first
not-entered scopes (token ∷ row) is =
    ap (λ (answer : Option Bool). not (is_among storage_words token || (is_among type_words token || (is_name token && says_typedef answer)))) (sym (found_entered token.bytes scopes)) ∙ is

pub first : {phrase : Phrase} {before after : Context} {row : List Terminal} → Spells phrase before row after → BeginsAs phrase before.scope row
unfolding keyword_symbol name_symbol passed_symbol
first (OneAssignment d1) = first d1
first (CommaOperator {xs} _ d1 _ _) = begins-append is_plain xs _ (first d1)
first (OneConditional d1) = first d1
first (AssignmentOperator {xs} _ d1 _ _) = begins-append is_plain xs _ (first d1)
first (OneOperation d1) = first d1
first (ConditionalOperator {xs} _ _ d1 _ _ _ _) = begins-append is_plain xs _ (first d1)
first (OneCast d1) = first d1
first (BinaryOperator {xs} _ _ d1 _ _) = begins-append is_plain xs _ (first d1)
first (OneUnary d1) = first d1
first (CastOperator opening _ p1 _ _ _) = mark-plain opening (mark_is_mark_kind (codes "(") opening p1)
first (OnePostfix d1) = first d1
first (CountBefore mark p1 _) = mark-plain mark (row_is_mark_kind _ count_rows mark p1)
first (UnaryOperator mark p1 _) = mark-plain mark (row_is_mark_kind _ unary_rows mark p1)
first (SizeOfExpression word p1 _) = word-plain (codes "sizeof") word p1 refl
first (SizeOfTypeName word _ _ p1 _ _ _) = word-plain (codes "sizeof") word p1 refl
first (OnePrimary d1) = first d1
first (IndexOperator {xs} _ _ d1 _ _ _) = begins-append is_plain xs _ (first d1)
first (CallOfNothing {xs} _ _ d1 _ _) = begins-append is_plain xs _ (first d1)
first (CallOperator {xs} _ _ d1 _ _ _ _) = begins-append is_plain xs _ (first d1)
first (MemberOperator {xs} _ _ d1 _ _) = begins-append is_plain xs _ (first d1)
first (CountBehind {xs} _ d1 _) = begins-append is_plain xs _ (first d1)
first (OneArgument _) = tt
first (MoreArguments _ _ _ _) = tt
first (OneName name p1) = name-plain name p1
first (OneConstant token p1) = constant-plain token p1
first (Bracketed opening _ p1 _ _ _) = mark-plain opening (mark_is_mark_kind (codes "(") opening p1)
first (StatementExpression opening _ p1 _ _) = mark-plain opening (mark_is_mark_kind (codes "(") opening p1)
first (OffsetOfMember word _ _ _ _ p1 _ _ _ _ _ _) = word-plain (codes "__builtin_offsetof") word p1 refl
first NoMoreMembers = tt
first (PathToMember _ _ _ _ _) = tt
first (PathToItem _ _ _ _ _ _) = tt
first (FailedAssertion word _ _ p1 _ _ _) = word-plain (codes "__assert_fail") word p1 refl
first (BasicWords {before} row p1) = basic-type before.scope row p1.0 p1.1
first (TypedefName {before} name p1) = or-right (is_among type_words name) p1
first (TypeOfExpression {before} word _ _ p1 _ _ _ _) = word-type before.scope (codes "typeof") word p1 refl
first (TypeOfType {before} word _ _ p1 _ _ _) = word-type before.scope (codes "typeof") word p1 refl
first (StructWithFields {before} _ word _ _ p1 _ _ _ _) = word-type before.scope (codes "struct") word p1 refl
first (StructByTag {before} word _ p1 _) = word-type before.scope (codes "struct") word p1 refl
first NoMoreFields = tt
first (MoreFields _ _) = tt
first (OneFieldDeclaration _ _ _ _) = tt
first (OneField _) = tt
first (MoreFieldNames _ _ _ _) = tt
first (NamedField _ _ _ _ _ _) = tt
first (NamedBits _ _ _ _ _ _ _ _ _) = tt
first (UnnamedBits _ _ _) = tt
first (EnumWithValues {before} _ _ word _ _ p1 _ _ _ _ _) = word-type before.scope (codes "enum") word p1 refl
first (EnumByTag {before} word _ p1 _) = word-type before.scope (codes "enum") word p1 refl
first (LastEnumerator _) = tt
first (MoreEnumerators _ _ _ _) = tt
first (PlainEnumerator _ _) = tt
first (ValuedEnumerator _ _ _ _ _) = tt
first (OneTypeName {before} {xs} _ d1 _ _) = begins-append (begins_type before.scope) xs _ (first d1)
first NoMoreSizes = tt
first (SizeLeftOut _ _ _ _ _) = tt
first (SizeGiven _ _ _ _ _ _) = tt
first (TypeAlone {before} {xs} d1) = type-declaration before.scope xs (first d1)
first (StorageBefore {before} {storage} word p1 _) = storage-declaration before.scope storage word p1
first (StorageBehind {before} {xs} word d1 _) = begins-append (begins_declaration before.scope) xs (word ∷ []) (type-declaration before.scope xs (first d1))
first (NoDeclarator {before} {xs} _ d1 _) = begins-append (begins_declaration before.scope) xs _ (first d1)
first (WithDeclarators {before} {xs} _ d1 _ _) = begins-append (begins_declaration before.scope) xs _ (first d1)
first (OneDeclarator _) = tt
first (MoreDeclarators _ _ _ _) = tt
first (ObjectDeclarator _ _ _ _ _) = tt
first (InitializedDeclarator _ _ _ _ _ _ _ _) = tt
first (DeclaratorOfFunction _) = tt
first (NoParameters _ _ _ _ _ _ _ _) = tt
first (VoidParameters _ _ _ _ _ _ _ _ _ _) = tt
first (WithParameters _ _ _ _ _ _ _ _ _ _) = tt
first (OneParameter _) = tt
first (MoreParameters _ _ _ _) = tt
first (NamedParameter _ _ _ _ _ _) = tt
first (UnnamedParameter _ _ _ _) = tt
first (InitializedTo _) = tt
first (EmptyBraces _ _ _ _) = tt
first (InBraces _ _ _ _ _ _ _) = tt
first (OneInitializer _) = tt
first (MoreInitializers _ _ _ _) = tt
first (NextPart _) = tt
first (MemberPart _ _ _ _ _ _ _) = tt
first (OneBlock {before} opening _ p1 _ _) = mark-statement before.scope opening (mark_is_mark_kind (codes "{") opening p1)
first NoMoreItems = tt
first (NextDeclaration _ _) = tt
first (NextStatement _ _) = tt
first (BlockStatement d1) = first d1
first (EmptyStatement {before} semicolon p1) = mark-statement before.scope semicolon (mark_is_mark_kind (codes ";") semicolon p1)
first (ExpressionStatement {before} {xs} semicolon p1 d1 _) = begins-append (λ token. not (begins_declaration before.scope token)) xs (semicolon ∷ []) (expression-statement before.scope xs (first d1) p1)
first (OneSubstatement {before} {xs} d1) = not-entered before.scope xs (first d1)
first (IfStatement {before} word _ _ p1 _ _ _ _ _) = word-statement before.scope (codes "if") word p1 refl refl
first (IfElseStatement {before} word _ _ _ p1 _ _ _ _ _ _ _) = word-statement before.scope (codes "if") word p1 refl refl
first (WhileStatement {before} word _ _ p1 _ _ _ _ _) = word-statement before.scope (codes "while") word p1 refl refl
first (DoStatement {before} word _ _ _ _ p1 _ _ _ _ _ _ _) = word-statement before.scope (codes "do") word p1 refl refl
first (ForStatement {before} word _ _ _ p1 _ _ _ _ _ _ _) = word-statement before.scope (codes "for") word p1 refl refl
first (FirstDeclaration _) = tt
first (FirstLeftOut _ _) = tt
first (FirstExpression _ _ _ _) = tt
first NoExpression = tt
first (SomeExpression _) = tt
first (BreakStatement {before} word _ p1 _) = word-statement before.scope (codes "break") word p1 refl refl
first (ContinueStatement {before} word _ p1 _) = word-statement before.scope (codes "continue") word p1 refl refl
first (ReturnStatement {before} word _ p1 _ _) = word-statement before.scope (codes "return") word p1 refl refl
first (LabeledStatement {before} label _ p1 p2 _ _) = expression-statement before.scope (label ∷ []) (name-plain label p1) p2

pub first_tokens : FirstTokens
first_tokens phrase before after row spelled = first spelled

not-both : (test : Terminal → Bool) (row : List Terminal) → Begins test row → Begins (λ token. not (test token)) row → ⊥
not-both test [] no-first other = no-first
not-both test (token ∷ row) yes-first other = let clash : not true ≡ true = sym (ap not yes-first) ∙ other in cc clash

pub no_statement : DeclarationsAreNoStatements
no_statement decl dangling stmt before one other row d s = not-both (begins_declaration before.scope) row (first d) (first s)

pub no_expression : TypesAreNoExpressions
no_expression name expr before one other row n is e =
    not-both (begins_declaration before.scope) row (type-declaration before.scope row (first n)) (expression-statement before.scope row (first e) is)
