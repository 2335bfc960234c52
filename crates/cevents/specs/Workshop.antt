-- What trees are made of: the pieces that are made so far, the last one first, and how many expressions are among them
-- and in them.
use Rattle.std.specs.Prelude.{ℕ, ◌+◌, Bool, true, false, List, [], ◌∷◌, Option, None, Some, slice_index_or}
use Rattle.cbase.specs.declared.place.Place.{Place}
use Rattle.cbase.specs.declared.tree.decl.Decl.{Decl}
use Rattle.cbase.specs.declared.tree.decl.Declared.{Declared}
use Rattle.cbase.specs.declared.tree.decl.Param.{Param}
use Rattle.cbase.specs.declared.tree.decl.TypeName.{TypeName}
use Rattle.cbase.specs.declared.tree.expr.Expr.{Expr}
use Rattle.cbase.specs.declared.tree.expr.ExprForm.{ExprForm}
use Rattle.cbase.specs.declared.tree.expr.Part.{Part}
use Rattle.cbase.specs.declared.tree.identifier.Identifier.{Identifier}
use Rattle.cbase.specs.declared.tree.init.Init.{Init}
use Rattle.cbase.specs.declared.tree.init.InitPart.{InitPart}
use Rattle.cbase.specs.declared.tree.spec.Enumerator.{Enumerator}
use Rattle.cbase.specs.declared.tree.spec.FieldDecl.{FieldDecl}
use Rattle.cbase.specs.declared.tree.spec.FieldName.{FieldName}
use Rattle.cbase.specs.declared.tree.spec.TypeSpec.{TypeSpec}
use Rattle.cbase.specs.declared.tree.stmt.Stmt.{Stmt}
use Rattle.cbase.specs.declared.tree.stmt.StmtForm.{StmtForm}
use Rattle.cevents.specs.declared.piece.Piece.{Piece}
use Rattle.cevents.specs.declared.piece.Piece.TheVariants as piece
use Rattle.ctokens.specs.declared.token.TokenKind.TheVariants.{Mark}
use Rattle.cgrammar.specs.Terminals.{Terminal, no_place}
use Rattle.cgrammar.specs.Trees.{identifier}

-- `count` is the number of the next expression, and `pieces` has the piece on top first
pub record Workshop : Type 0 where
  pub count : ℕ
  pub pieces : List Piece

-- what is taken for a token where there is none: it has no bytes, and the place of no token
abbrev pub no_token : Terminal
no_token = record { kind = Mark; bytes = []; place = no_place }

-- the token of a row with that number, and `no_token` where there is none
abbrev pub token_at : List Terminal → ℕ → Terminal
token_at row at = slice_index_or row at no_token

-- where that token stands in its text
abbrev pub place_at : List Terminal → ℕ → Place
place_at row at = (token_at row at).place

-- its bytes
abbrev pub bytes_at : List Terminal → ℕ → List ℕ
bytes_at row at = (token_at row at).bytes

-- the identifier that it is
abbrev pub identifier_at : List Terminal → ℕ → Identifier
identifier_at row at = identifier (token_at row at)

-- the identifier with a number that may be left out
abbrev pub maybe_identifier_at : List Terminal → Option ℕ → Option Identifier
maybe_identifier_at row None = None
maybe_identifier_at row (Some at) = Some (identifier_at row at)

-- a piece that is made of none
abbrev pub pushed : ℕ → Piece → List Piece → Option Workshop
pushed count piece pieces = Some (record { count = count; pieces = piece ∷ pieces })

-- an expression that ends there: it has the next number
abbrev pub expressed : ℕ → Place → ExprForm → List Piece → Option Workshop
expressed count place form pieces =
    Some (record { count = count + 1; pieces = piece.Expr (record { number = count; place = place; form = form }) ∷ pieces })

-- a statement that ends there
abbrev pub stated : ℕ → Place → Place → StmtForm → List Piece → Option Workshop
stated count place after form pieces =
    Some (record { count = count; pieces = piece.Statement (record { place = place; after = after; form = form }) ∷ pieces })

-- nothing is made yet
abbrev pub start : Workshop
start = record { count = 0; pieces = [] }

-- what is left of it: all, or nothing where it could not be made
abbrev pub left_by : Bool → Workshop → Option Workshop
left_by true workshop = Some workshop
left_by false workshop = None

-- the pieces below the one on top
abbrev pub below : List Piece → List Piece
below [] = []
below (piece ∷ pieces) = pieces

-- what the piece on top is, where it is of the kind that is wanted
abbrev pub top_of : {A : Type 0} → (Piece → Option A) → List Piece → Option A
top_of kind [] = None
top_of kind (piece ∷ pieces) = kind piece

-- what is made of a tree and the pieces below it; nothing where there is no such tree
abbrev pub with_tree : {A : Type 0} → Option A → List Piece → (A → List Piece → Option Workshop) → Option Workshop
with_tree None pieces go = None
with_tree (Some tree) pieces go = go tree pieces

-- a piece as the tree, or the trees, of one kind
abbrev pub expr_of : Piece → Option Expr
expr_of (piece.Expr tree) = Some tree
expr_of _ = None

abbrev pub arguments_of : Piece → Option (List Expr)
arguments_of (piece.Arguments tree) = Some tree
arguments_of _ = None

abbrev pub path_of : Piece → Option (List Part)
path_of (piece.Path tree) = Some tree
path_of _ = None

abbrev pub type_of : Piece → Option TypeSpec
type_of (piece.Type tree) = Some tree
type_of _ = None

abbrev pub sizes_of : Piece → Option (List (Option Expr))
sizes_of (piece.Sizes tree) = Some tree
sizes_of _ = None

abbrev pub type_name_of : Piece → Option TypeName
type_name_of (piece.TypeName tree) = Some tree
type_name_of _ = None

abbrev pub field_names_of : Piece → Option (List FieldName)
field_names_of (piece.FieldNames tree) = Some tree
field_names_of _ = None

abbrev pub fields_of : Piece → Option (List FieldDecl)
fields_of (piece.Fields tree) = Some tree
fields_of _ = None

abbrev pub enumerators_of : Piece → Option (List Enumerator)
enumerators_of (piece.Enumerators tree) = Some tree
enumerators_of _ = None

abbrev pub parameters_of : Piece → Option (List Param)
parameters_of (piece.Parameters tree) = Some tree
parameters_of _ = None

abbrev pub declarators_of : Piece → Option (List Declared)
declarators_of (piece.Declarators tree) = Some tree
declarators_of _ = None

-- a declarator alone
abbrev pub single : {A : Type 0} → List A → Option A
single (tree ∷ []) = Some tree
single _ = None

abbrev pub single_in : {A : Type 0} → Option (List A) → Option A
single_in None = None
single_in (Some trees) = single trees

abbrev pub declarator_of : Piece → Option Declared
declarator_of piece = single_in (declarators_of piece)

abbrev pub declaration_of : Piece → Option Decl
declaration_of (piece.Declaration tree) = Some tree
declaration_of _ = None

abbrev pub init_of : Piece → Option Init
init_of (piece.Init tree) = Some tree
init_of _ = None

abbrev pub parts_of : Piece → Option (List InitPart)
parts_of (piece.Parts tree) = Some tree
parts_of _ = None

abbrev pub maybe_of : Piece → Option (Option Expr)
maybe_of (piece.Maybe tree) = Some tree
maybe_of _ = None

abbrev pub statement_of : Piece → Option Stmt
statement_of (piece.Statement tree) = Some tree
statement_of _ = None

abbrev pub statements_of : Piece → Option (List Stmt)
statements_of (piece.Statements tree) = Some tree
statements_of _ = None

-- the piece on top, where it is of the kind that is wanted, with those below it
abbrev pub with_expr : List Piece → (Expr → List Piece → Option Workshop) → Option Workshop
with_expr pieces go = with_tree (top_of expr_of pieces) (below pieces) go

abbrev pub with_arguments : List Piece → (List Expr → List Piece → Option Workshop) → Option Workshop
with_arguments pieces go = with_tree (top_of arguments_of pieces) (below pieces) go

abbrev pub with_path : List Piece → (List Part → List Piece → Option Workshop) → Option Workshop
with_path pieces go = with_tree (top_of path_of pieces) (below pieces) go

abbrev pub with_type : List Piece → (TypeSpec → List Piece → Option Workshop) → Option Workshop
with_type pieces go = with_tree (top_of type_of pieces) (below pieces) go

abbrev pub with_sizes : List Piece → (List (Option Expr) → List Piece → Option Workshop) → Option Workshop
with_sizes pieces go = with_tree (top_of sizes_of pieces) (below pieces) go

abbrev pub with_type_name : List Piece → (TypeName → List Piece → Option Workshop) → Option Workshop
with_type_name pieces go = with_tree (top_of type_name_of pieces) (below pieces) go

abbrev pub with_field_names : List Piece → (List FieldName → List Piece → Option Workshop) → Option Workshop
with_field_names pieces go = with_tree (top_of field_names_of pieces) (below pieces) go

abbrev pub with_fields : List Piece → (List FieldDecl → List Piece → Option Workshop) → Option Workshop
with_fields pieces go = with_tree (top_of fields_of pieces) (below pieces) go

abbrev pub with_enumerators : List Piece → (List Enumerator → List Piece → Option Workshop) → Option Workshop
with_enumerators pieces go = with_tree (top_of enumerators_of pieces) (below pieces) go

abbrev pub with_parameters : List Piece → (List Param → List Piece → Option Workshop) → Option Workshop
with_parameters pieces go = with_tree (top_of parameters_of pieces) (below pieces) go

abbrev pub with_declarators : List Piece → (List Declared → List Piece → Option Workshop) → Option Workshop
with_declarators pieces go = with_tree (top_of declarators_of pieces) (below pieces) go

abbrev pub with_declarator : List Piece → (Declared → List Piece → Option Workshop) → Option Workshop
with_declarator pieces go = with_tree (top_of declarator_of pieces) (below pieces) go

abbrev pub with_declaration : List Piece → (Decl → List Piece → Option Workshop) → Option Workshop
with_declaration pieces go = with_tree (top_of declaration_of pieces) (below pieces) go

abbrev pub with_init : List Piece → (Init → List Piece → Option Workshop) → Option Workshop
with_init pieces go = with_tree (top_of init_of pieces) (below pieces) go

abbrev pub with_parts : List Piece → (List InitPart → List Piece → Option Workshop) → Option Workshop
with_parts pieces go = with_tree (top_of parts_of pieces) (below pieces) go

abbrev pub with_maybe : List Piece → (Option Expr → List Piece → Option Workshop) → Option Workshop
with_maybe pieces go = with_tree (top_of maybe_of pieces) (below pieces) go

abbrev pub with_statement : List Piece → (Stmt → List Piece → Option Workshop) → Option Workshop
with_statement pieces go = with_tree (top_of statement_of pieces) (below pieces) go

abbrev pub with_statements : List Piece → (List Stmt → List Piece → Option Workshop) → Option Workshop
with_statements pieces go = with_tree (top_of statements_of pieces) (below pieces) go

-- the piece that is left, where it is the only one
abbrev pub only : List Piece → Option Piece
only (piece ∷ []) = Some piece
only _ = None

-- the piece that is left in the end, where all is made and it is the only one
abbrev pub alone : Option Workshop → Option Piece
alone None = None
alone (Some workshop) = only workshop.pieces

-- what that piece is, where it is of the kind that is wanted
abbrev pub kind_in : {A : Type 0} → (Piece → Option A) → Option Piece → Option A
kind_in kind None = None
kind_in kind (Some piece) = kind piece

-- the expression that is left, where it is all that is left
abbrev pub expr_alone : Option Workshop → Option Expr
expr_alone workshop = kind_in expr_of (alone workshop)

-- the statements that are left, where they are all that is left
abbrev pub block_alone : Option Workshop → Option (List Stmt)
block_alone workshop = kind_in statements_of (alone workshop)
