-- With which tokens operands and statements begin, and which parts of the grammar have a first token (C11 6.5.1 to
-- 6.5.3, 6.8).
use Rattle.std.specs.Prelude.{ℕ, Bool, true, false, ◌||◌, not, List, [], ◌∷◌, codes}
use Rattle.ctokens.specs.declared.token.TokenKind.{TokenKind}
use Rattle.ctokens.specs.declared.token.TokenKind.TheVariants.{Number, Letter}
use Rattle.cgrammar.specs.Firsts.{is_one_among, is_among, Begins}
use Rattle.cgrammar.specs.Phrases.{Phrase, Expression, Assignment, Conditional, Operation, CastExpression, UnaryExpression, PostfixExpression, PrimaryExpression, Arguments, TypeSpecifier, NameOfType, FieldDeclaration, FieldDeclarators, FieldDeclarator, Enumerators, OneEnumerator, Specifiers, Declaration, Declarators, Declarator, FunctionDeclarator, Parameters, Parameter, Initializer, Initializers, DesignatedInitializer, CompoundStatement, Statement, Substatement}
use Rattle.cgrammar.specs.Terminals.{Terminal, is_mark_kind, is_mark, is_name}

-- the token is one of these marks
abbrev pub is_mark_among : List (List ℕ) → Terminal → Bool
is_mark_among marks token = is_one_among is_mark_kind marks token

-- the kinds of constants: numbers and characters
abbrev pub is_constant_kind : TokenKind → Bool
is_constant_kind Number = true
is_constant_kind Letter = true
is_constant_kind _ = false

-- an open bracket, and the operators that stand before their operand
abbrev pub operand_marks : List (List ℕ)
operand_marks =
    codes "(" ∷ codes "&" ∷ codes "*" ∷ codes "+" ∷ codes "-" ∷ codes "~" ∷ codes "!" ∷ codes "++" ∷ codes "--" ∷ []

-- the words that an operand begins with, names aside (C11 6.5.3, 7.2, 7.19)
abbrev pub operand_words : List (List ℕ)
operand_words = codes "sizeof" ∷ codes "__builtin_offsetof" ∷ codes "__assert_fail" ∷ []

-- a token that an expression begins with
abbrev pub begins_operand : Terminal → Bool
begins_operand token =
    is_name token || (is_constant_kind token.kind || (is_mark_among operand_marks token || is_among operand_words token))

-- the open brace of a block, and the `;` of an empty statement
abbrev pub statement_marks : List (List ℕ)
statement_marks = codes "{" ∷ codes ";" ∷ []

-- the keywords that a statement begins with (C11 6.8.4 to 6.8.6)
abbrev pub statement_words : List (List ℕ)
statement_words =
    codes "if" ∷ codes "while" ∷ codes "do" ∷ codes "for" ∷ codes "break" ∷ codes "continue" ∷ codes "return" ∷ []

-- a token that a statement begins with; a label is a name
abbrev pub begins_statement : Terminal → Bool
begins_statement token = begins_operand token || (is_mark_among statement_marks token || is_among statement_words token)

-- the row has a token
abbrev pub HasFirst : List Terminal → Type 0
HasFirst row = Begins (λ token. true) row

-- what the first token of a phrase is
abbrev pub StartsAs : Phrase → List Terminal → Type 0
StartsAs (Expression expr) row = Begins begins_operand row
StartsAs (Assignment expr) row = Begins begins_operand row
StartsAs (Conditional expr) row = Begins begins_operand row
StartsAs (Operation level expr) row = Begins begins_operand row
StartsAs (CastExpression expr) row = Begins begins_operand row
StartsAs (UnaryExpression expr) row = Begins begins_operand row
StartsAs (PostfixExpression expr) row = Begins begins_operand row
StartsAs (PrimaryExpression expr) row = Begins begins_operand row
StartsAs (Arguments exprs) row = Begins begins_operand row
StartsAs (Statement dangling stmt) row = Begins begins_statement row
StartsAs (Substatement dangling stmt) row = Begins begins_statement row
StartsAs (CompoundStatement body) row = Begins (is_mark (codes "{")) row
StartsAs (Initializer behind init) row = Begins (λ token. not (is_mark (codes "}") token)) row
StartsAs (DesignatedInitializer behind part) row = Begins (λ token. not (is_mark (codes "}") token)) row
StartsAs (Initializers behind parts) row = Begins (λ token. not (is_mark (codes "}") token)) row
StartsAs (TypeSpecifier type) row = HasFirst row
StartsAs (NameOfType name) row = HasFirst row
StartsAs (FieldDeclaration decl) row = HasFirst row
StartsAs (FieldDeclarators names) row = HasFirst row
StartsAs (FieldDeclarator name) row = HasFirst row
StartsAs (Enumerators values) row = HasFirst row
StartsAs (OneEnumerator value) row = HasFirst row
StartsAs (Specifiers storage type) row = HasFirst row
StartsAs (Declaration decl) row = HasFirst row
StartsAs (Declarators typedef behind names) row = HasFirst row
StartsAs (Declarator typedef behind name) row = HasFirst row
StartsAs (FunctionDeclarator name head) row = HasFirst row
StartsAs (Parameters params) row = HasFirst row
StartsAs (Parameter param) row = HasFirst row
StartsAs _ row = Unit {0}
