-- The trees that are walked, each as one layer: the parts of a form, a type or a way stand in it as trees.
use Rattle.std.specs.Prelude.{ℕ, Bool, true, false, List, Option, None, Some}
use Rattle.cbase.specs.declared.tree.decl.Decl.{Decl}
use Rattle.cbase.specs.declared.tree.decl.Declared.{Declared}
use Rattle.cbase.specs.declared.tree.decl.Param.{Param}
use Rattle.cbase.specs.declared.tree.decl.TypeName.{TypeName}
use Rattle.cbase.specs.declared.tree.expr.Expr.{Expr}
use Rattle.cbase.specs.declared.tree.expr.ExprForm.{ExprForm}
use Rattle.cbase.specs.declared.tree.expr.ExprForm.TheOpen.{ExprForm-F, Part-F, TypeSpec-F, StmtForm-F, TypeName-F, FieldDecl-F, FieldName-F, Enumerator-F, Decl-F, Declared-F, Param-F, Init-F, InitPart-F}
use Rattle.cbase.specs.declared.tree.expr.ExprForm.TheOpen.{Name, Eval}
use Rattle.cbase.specs.declared.tree.expr.Part.{Part}
use Rattle.cbase.specs.declared.tree.init.Init.{Init}
use Rattle.cbase.specs.declared.tree.init.InitPart.{InitPart}
use Rattle.cbase.specs.declared.tree.spec.Enumerator.{Enumerator}
use Rattle.cbase.specs.declared.tree.spec.FieldDecl.{FieldDecl}
use Rattle.cbase.specs.declared.tree.spec.FieldName.{FieldName}
use Rattle.cbase.specs.declared.tree.spec.TypeSpec.{TypeSpec}
use Rattle.cbase.specs.declared.tree.stmt.Stmt.{Stmt}
use Rattle.cbase.specs.declared.tree.stmt.StmtForm.{StmtForm}

-- what an expression is, a step of a way, the words of a type, what a statement is, and a type name
abbrev pub Form : Type 0
Form = ExprForm-F ExprForm Part Init TypeSpec StmtForm Decl Declared Param TypeName Expr InitPart Enumerator FieldDecl FieldName Stmt

abbrev pub Step : Type 0
Step = Part-F ExprForm Part Init TypeSpec StmtForm Decl Declared Param TypeName Expr InitPart Enumerator FieldDecl FieldName Stmt

abbrev pub Words : Type 0
Words = TypeSpec-F ExprForm Part Init TypeSpec StmtForm Decl Declared Param TypeName Expr InitPart Enumerator FieldDecl FieldName Stmt

abbrev pub Clause : Type 0
Clause = StmtForm-F ExprForm Part Init TypeSpec StmtForm Decl Declared Param TypeName Expr InitPart Enumerator FieldDecl FieldName Stmt

abbrev pub NameParts : Type 0
NameParts = TypeName-F ExprForm Part Init TypeSpec StmtForm Decl Declared Param TypeName Expr InitPart Enumerator FieldDecl FieldName Stmt

-- a declaration of members, one of its names, and a constant of an enum
abbrev pub DeclarationParts : Type 0
DeclarationParts = FieldDecl-F ExprForm Part Init TypeSpec StmtForm Decl Declared Param TypeName Expr InitPart Enumerator FieldDecl FieldName Stmt

abbrev pub MemberParts : Type 0
MemberParts = FieldName-F ExprForm Part Init TypeSpec StmtForm Decl Declared Param TypeName Expr InitPart Enumerator FieldDecl FieldName Stmt

abbrev pub EnumeratorParts : Type 0
EnumeratorParts = Enumerator-F ExprForm Part Init TypeSpec StmtForm Decl Declared Param TypeName Expr InitPart Enumerator FieldDecl FieldName Stmt

-- a declaration in a block, one of its names, a parameter, an initialiser, and a part of one in braces
abbrev pub NamesParts : Type 0
NamesParts = Decl-F ExprForm Part Init TypeSpec StmtForm Decl Declared Param TypeName Expr InitPart Enumerator FieldDecl FieldName Stmt

abbrev pub DeclaratorParts : Type 0
DeclaratorParts = Declared-F ExprForm Part Init TypeSpec StmtForm Decl Declared Param TypeName Expr InitPart Enumerator FieldDecl FieldName Stmt

abbrev pub ParameterParts : Type 0
ParameterParts = Param-F ExprForm Part Init TypeSpec StmtForm Decl Declared Param TypeName Expr InitPart Enumerator FieldDecl FieldName Stmt

abbrev pub Initialiser : Type 0
Initialiser = Init-F ExprForm Part Init TypeSpec StmtForm Decl Declared Param TypeName Expr InitPart Enumerator FieldDecl FieldName Stmt

abbrev pub PartOfInitialiser : Type 0
PartOfInitialiser = InitPart-F ExprForm Part Init TypeSpec StmtForm Decl Declared Param TypeName Expr InitPart Enumerator FieldDecl FieldName Stmt

-- the name that an expression is
abbrev pub name_in : Form → Option (List ℕ)
name_in (Name name) = Some name
name_in other = None

-- the expression that is a statement, where it is one
abbrev pub value_in : Clause → Option Expr
value_in (Eval expr) = expr
value_in other = None

-- an empty statement (C11 6.8.3p3)
abbrev pub is_empty : Clause → Bool
is_empty (Eval None) = true
is_empty other = false
