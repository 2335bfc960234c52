-- Trees from their parts. `roll-` makes a struct of C's trees out of its fields.
use Rattle.std.specs.Prelude.{ℕ, List, [], Option, None, Some}
use Rattle.cbase.specs.declared.place.Place.{Place}
use Rattle.cbase.specs.declared.tree.decl.Decl.{Decl}
use Rattle.cbase.specs.declared.tree.decl.Declared.{Declared}
use Rattle.cbase.specs.declared.tree.decl.Param.{Param}
use Rattle.cbase.specs.declared.tree.decl.Storage.{Storage}
use Rattle.cbase.specs.declared.tree.decl.TypeName.{TypeName}
use Rattle.cbase.specs.declared.tree.expr.Expr.{Expr}
use Rattle.cbase.specs.declared.tree.expr.ExprForm.TheViews.{roll-Decl, roll-Declared, roll-Enumerator, roll-FieldDecl, roll-FieldName, roll-Param, roll-TypeName}
use Rattle.cbase.specs.declared.tree.identifier.Identifier.{Identifier}
use Rattle.cbase.specs.declared.tree.init.Init.{Init}
use Rattle.cbase.specs.declared.tree.init.InitPart.{InitPart}
use Rattle.cbase.specs.declared.tree.spec.Enumerator.{Enumerator}
use Rattle.cbase.specs.declared.tree.spec.FieldDecl.{FieldDecl}
use Rattle.cbase.specs.declared.tree.spec.FieldName.{FieldName}
use Rattle.cbase.specs.declared.tree.spec.TypeSpec.{TypeSpec}
use Rattle.cbase.specs.declared.tree.stmt.Stmt.{Stmt}
use Rattle.cbase.specs.declared.tree.stmt.StmtForm.{StmtForm}
use Rattle.cgrammar.specs.Terminals.{Terminal}

-- the identifier that a token is, with its place
abbrev pub identifier : Terminal → Identifier
identifier token = record { place = token.place; name = token.bytes }

-- a declared object and a declared function
abbrev pub object : Terminal → ℕ → List (Option Expr) → Option Init → Declared
object token stars sizes init = roll-Declared (record { place = token.place; name = token.bytes; stars = stars; sizes = sizes; params = None; init = init })

abbrev pub function : Terminal → ℕ → List Param → Declared
function token stars params = roll-Declared (record { place = token.place; name = token.bytes; stars = stars; sizes = []; params = Some params; init = None })

abbrev pub field : Place → Option (List ℕ) → ℕ → List (Option Expr) → Option Expr → FieldName
field place name stars sizes bits = roll-FieldName (record { place = place; name = name; stars = stars; sizes = sizes; bits = bits })

abbrev pub parameter : TypeSpec → ℕ → Option Identifier → List (Option Expr) → Param
parameter type stars name sizes = roll-Param (record { spec = type; stars = stars; name = name; sizes = sizes })

abbrev pub type_name : TypeSpec → ℕ → List (Option Expr) → TypeName
type_name type stars sizes = roll-TypeName (record { spec = type; stars = stars; sizes = sizes })

abbrev pub fields : TypeSpec → List FieldName → FieldDecl
fields type names = roll-FieldDecl (record { spec = type; names = names })

abbrev pub enumerator : Terminal → Option Expr → Enumerator
enumerator token value = roll-Enumerator (record { place = token.place; name = token.bytes; value = value })

abbrev pub declaration : Storage → TypeSpec → List Declared → Decl
declaration storage type names = roll-Decl (record { storage = storage; spec = type; names = names })

abbrev pub initializer : Option Identifier → Init → InitPart
initializer member init = record { member = member; init = init }

-- a statement with the places of its first and its last token
abbrev pub statement : Place → Place → StmtForm → Stmt
statement place last form = record { place = place; after = last; form = form }
