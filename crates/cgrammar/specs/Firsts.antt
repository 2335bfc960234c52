-- With which tokens the parts of the grammar begin: a declaration and a type with a word that no expression and no
-- statement begins with (C11 6.7, 6.8.2).
use Rattle.std.specs.Prelude.{ℕ, Bool, ◌&&◌, ◌||◌, not, IsTrue, List, [], ◌∷◌, ◌++◌, codes}
use Rattle.std.specs.List.{list_any}
use Rattle.std.specs.Str.{bytes_eq}
use Rattle.cbase.specs.declared.tree.decl.Decl.{Decl}
use Rattle.cbase.specs.declared.tree.decl.TypeName.{TypeName}
use Rattle.cbase.specs.declared.tree.expr.Expr.{Expr}
use Rattle.cbase.specs.declared.tree.stmt.Stmt.{Stmt}
use Rattle.ctokens.specs.declared.token.TokenKind.{TokenKind}
use Rattle.cgrammar.specs.Phrases.{Phrase, Context, Expression, Assignment, Conditional, Operation, CastExpression, UnaryExpression, PostfixExpression, PrimaryExpression, TypeSpecifier, NameOfType, Specifiers, Declaration, CompoundStatement, Statement, Substatement}
use Rattle.cgrammar.specs.Grammar.{Spells}
use Rattle.cgrammar.specs.Scope.{Names}
use Rattle.cgrammar.specs.Terminals.{Terminal, is_word_kind, is_typedef, IsNoType}
use Rattle.cgrammar.specs.TypeWords.{basic_words}

-- the keywords that a type begins with
abbrev pub type_words : List (List ℕ)
type_words = basic_words ++ codes "struct" ∷ codes "enum" ∷ codes "typeof" ∷ []

-- the keywords of storage classes that are read (C11 6.7.1)
abbrev pub storage_words : List (List ℕ)
storage_words = codes "typedef" ∷ codes "extern" ∷ codes "static" ∷ []

-- the token is of such a kind, and has one of these texts
abbrev pub is_one_among : (TokenKind → Bool) → List (List ℕ) → Terminal → Bool
is_one_among is_kind texts token = is_kind token.kind && list_any (bytes_eq token.bytes) texts

-- the token is one of these words
abbrev pub is_among : List (List ℕ) → Terminal → Bool
is_among words token = is_one_among is_word_kind words token

-- a token that a type begins with, where these names are in scope
abbrev pub begins_type : List Names → Terminal → Bool
begins_type scopes token = is_among type_words token || is_typedef scopes token

-- a token that a declaration begins with
abbrev pub begins_declaration : List Names → Terminal → Bool
begins_declaration scopes token = is_among storage_words token || begins_type scopes token

-- no keyword of a type or of a storage class
abbrev pub is_plain : Terminal → Bool
is_plain token = not (is_among storage_words token || is_among type_words token)

-- the row has a first token, of which the test holds
abbrev pub Begins : (Terminal → Bool) → List Terminal → Type 0
Begins test [] = ⊥
Begins test (first ∷ others) = IsTrue (test first)

-- what the first token of a phrase is
abbrev pub BeginsAs : Phrase → List Names → List Terminal → Type 0
BeginsAs (Expression expr) scopes row = Begins is_plain row
BeginsAs (Assignment expr) scopes row = Begins is_plain row
BeginsAs (Conditional expr) scopes row = Begins is_plain row
BeginsAs (Operation level expr) scopes row = Begins is_plain row
BeginsAs (CastExpression expr) scopes row = Begins is_plain row
BeginsAs (UnaryExpression expr) scopes row = Begins is_plain row
BeginsAs (PostfixExpression expr) scopes row = Begins is_plain row
BeginsAs (PrimaryExpression expr) scopes row = Begins is_plain row
BeginsAs (TypeSpecifier type) scopes row = Begins (begins_type scopes) row
BeginsAs (NameOfType name) scopes row = Begins (begins_type scopes) row
BeginsAs (Specifiers storage type) scopes row = Begins (begins_declaration scopes) row
BeginsAs (Declaration decl) scopes row = Begins (begins_declaration scopes) row
BeginsAs (CompoundStatement body) scopes row = Begins (λ token. not (begins_declaration scopes token)) row
BeginsAs (Statement dangling stmt) scopes row = Begins (λ token. not (begins_declaration scopes token)) row
BeginsAs (Substatement dangling stmt) scopes row = Begins (λ token. not (begins_declaration scopes token)) row
BeginsAs _ scopes row = Unit {0}

-- each phrase begins with such a token
abbrev pub FirstTokens : Type 0
FirstTokens = (phrase : Phrase) (before after : Context) (row : List Terminal) → Spells phrase before row after → BeginsAs phrase before.scope row

-- no row is a declaration and a statement
abbrev pub DeclarationsAreNoStatements : Type 0
DeclarationsAreNoStatements =
    (decl : Decl) (dangling : Bool) (stmt : Stmt) (before one other : Context) (row : List Terminal)
    → Spells (Declaration decl) before row one → Spells (Statement dangling stmt) before row other → ⊥

-- no row between brackets is a type's name and an expression
abbrev pub TypesAreNoExpressions : Type 0
TypesAreNoExpressions =
    (name : TypeName) (expr : Expr) (before one other : Context) (row : List Terminal)
    → Spells (NameOfType name) before row one → IsNoType before.scope row → Spells (Expression expr) before row other → ⊥
