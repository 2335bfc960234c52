-- What a row of tokens may be read as: each part of the grammar (C11 6.5, 6.7, 6.8) with the tree that it gives.
use Rattle.std.specs.Prelude.{ℕ, ◌+◌, Bool, List, Option}
use Rattle.cbase.specs.declared.place.Place.{Place}
use Rattle.cbase.specs.declared.tree.decl.Decl.{Decl}
use Rattle.cbase.specs.declared.tree.decl.Declared.{Declared}
use Rattle.cbase.specs.declared.tree.decl.Param.{Param}
use Rattle.cbase.specs.declared.tree.decl.Storage.{Storage}
use Rattle.cbase.specs.declared.tree.decl.TypeName.{TypeName}
use Rattle.cbase.specs.declared.tree.expr.Expr.{Expr}
use Rattle.cbase.specs.declared.tree.expr.ExprForm.{ExprForm}
use Rattle.cbase.specs.declared.tree.expr.Part.{Part}
use Rattle.cbase.specs.declared.tree.init.Init.{Init}
use Rattle.cbase.specs.declared.tree.init.InitPart.{InitPart}
use Rattle.cbase.specs.declared.tree.spec.Enumerator.{Enumerator}
use Rattle.cbase.specs.declared.tree.spec.FieldDecl.{FieldDecl}
use Rattle.cbase.specs.declared.tree.spec.FieldName.{FieldName}
use Rattle.cbase.specs.declared.tree.spec.TypeSpec.{TypeSpec}
use Rattle.cbase.specs.declared.tree.stmt.Stmt.{Stmt}
use Rattle.cgrammar.specs.Scope.{Names}

-- `Operation level` has no binary operator that is looser than the level. `Declarators` and `Declarator` say whether
-- they declare typedefs, and `FunctionDeclarator` says which name it declares. Declarators and initialisers say where the token
-- behind them stands. `Statement dangling` says whether the statement ends with an `if` that has no `else`, and so does
-- `Substatement dangling`, a statement that stands in an `if` or in a loop.
pub data Phrase : Type 0 where
  Expression : Expr → Phrase
  Assignment : Expr → Phrase
  Conditional : Expr → Phrase
  Operation : ℕ → Expr → Phrase
  CastExpression : Expr → Phrase
  UnaryExpression : Expr → Phrase
  PostfixExpression : Expr → Phrase
  PrimaryExpression : Expr → Phrase
  Arguments : List Expr → Phrase
  MemberPath : List Part → Phrase
  TypeSpecifier : TypeSpec → Phrase
  NameOfType : TypeName → Phrase
  ArraySizes : List (Option Expr) → Phrase
  Fields : List FieldDecl → Phrase
  FieldDeclaration : FieldDecl → Phrase
  FieldDeclarators : List FieldName → Phrase
  FieldDeclarator : FieldName → Phrase
  Enumerators : List Enumerator → Phrase
  OneEnumerator : Enumerator → Phrase
  Specifiers : Storage → TypeSpec → Phrase
  Declaration : Decl → Phrase
  Declarators : Bool → Place → List Declared → Phrase
  Declarator : Bool → Place → Declared → Phrase
  FunctionDeclarator : List ℕ → Declared → Phrase
  Parameters : List Param → Phrase
  Parameter : Param → Phrase
  Initializer : Place → Init → Phrase
  Initializers : Place → List InitPart → Phrase
  DesignatedInitializer : Place → InitPart → Phrase
  CompoundStatement : List Stmt → Phrase
  BlockItems : List Stmt → Phrase
  Statement : Bool → Stmt → Phrase
  Substatement : Bool → Stmt → Phrase
  FirstClause : Stmt → Phrase
  MaybeExpression : Option Expr → Phrase

-- what stands before a place: the names that are in scope there, and how many expressions end before it
pub record Context : Type 0 where
  pub scope : List Names
  pub expressions : ℕ

-- these names are in scope, and so many expressions end before
abbrev pub context_at : List Names → ℕ → Context
context_at scope expressions = record { scope = scope; expressions = expressions }

-- behind one more expression
abbrev pub counted : Context → Context
counted context = record { scope = context.scope; expressions = context.expressions + 1 }

-- the expression that ends there: its number is that of the expressions that end before it
abbrev pub numbered : Context → Place → ExprForm → Expr
numbered context place form = record { number = context.expressions; place = place; form = form }

-- the same expressions before it, and other names in scope
abbrev pub scoped : Context → List Names → Context
scoped context scope = record { scope = scope; expressions = context.expressions }
