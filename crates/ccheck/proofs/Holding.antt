-- What holds of each place of a tree at which something may be refused: of the places of its expressions and of the names in it, of the first tokens of its
-- statements.
use Rattle.std.proofs.Common.{ℕ, List, [], ◌∷◌, map, Option, Some, None}
use Rattle.cbase.specs.declared.place.Place.{Place}
use Rattle.cbase.specs.declared.tree.decl.Decl.{Decl}
use Rattle.cbase.specs.declared.tree.decl.Declared.{Declared}
use Rattle.cbase.specs.declared.tree.decl.Param.{Param}
use Rattle.cbase.specs.declared.tree.decl.TypeName.{TypeName}
use Rattle.cbase.specs.declared.tree.expr.Expr.{Expr}
use Rattle.cbase.specs.declared.tree.expr.ExprForm.TheOpen.{Name, Constant, Unary, Binary, Assign, Count, Choose, Cast, SizeOf, SizeOfType, OffsetOf, Index, ExprForm::Member, Call, Inner, AssertFail, Part::Member, At, Basic, Named, Struct, Enum, OfExpr, OfType, Value, Braces}
use Rattle.cbase.specs.declared.tree.expr.ExprForm.TheViews.{out-ExprForm, out-Part, out-StmtForm, out-TypeName, out-TypeSpec, out-FieldDecl, out-FieldName, out-Enumerator, out-Decl, out-Declared, out-Param, out-Init, out-InitPart}
use Rattle.cbase.specs.declared.tree.identifier.Identifier.{Identifier}
use Rattle.cbase.specs.declared.tree.init.Init.{Init}
use Rattle.cbase.specs.declared.tree.init.InitPart.{InitPart}
use Rattle.cbase.specs.declared.tree.spec.BasicType.{BasicType}
use Rattle.cbase.specs.declared.tree.spec.Enumerator.{Enumerator}
use Rattle.cbase.specs.declared.tree.spec.FieldDecl.{FieldDecl}
use Rattle.cbase.specs.declared.tree.spec.FieldName.{FieldName}
use Rattle.cbase.specs.declared.tree.stmt.Stmt.{Stmt}
use Rattle.typing.specs.Forms.{Form, Step, Words, NameParts, DeclarationParts, MemberParts, EnumeratorParts, NamesParts, DeclaratorParts, ParameterParts, Initialiser, PartOfInitialiser}
use Rattle.typing.specs.Heads.{params_of}
use Rattle.typing.specs.Pieces.{Piece, Loaded, Unloaded, Called, OfType as OfTypeName, ConstantIndex, SizeOfArray, BlockOf, pieces_in}
use Rattle.typing.specs.Statements.{Demand, Condition, Dropped, Returned, Stored, Surplus, StatementPart, ValueOf, Whole, Branch, LoopBody, StatementsOf, LeavesLoop, ReturnsNothing, Returns, Declares, parts_in}

-- a tree, or what stands in one
pub data Tree : Type 0 where
  AnExpression : Expr → Tree
  AForm : Form → Tree
  Pieces : List Piece → Tree
  SomeWords : Words → Tree
  Perhaps : Option Expr → Tree
  SomeSizes : List (Option Expr) → Tree
  ATypeName : NameParts → Tree
  Statements : List Stmt → Tree
  PartsOfStatement : List StatementPart → Tree
  PartOfStatement : StatementPart → Tree
  ADeclaration : NamesParts → Tree
  DeclaredNames : List Declared → Tree
  ADeclarator : DeclaratorParts → Tree
  SomeParameters : List Param → Tree
  AParameter : ParameterParts → Tree
  PerhapsInitialised : Option Init → Tree
  AnInitialiser : Initialiser → Tree
  PartsInBraces : List InitPart → Tree
  APartInBraces : PartOfInitialiser → Tree
  MemberDeclarations : List FieldDecl → Tree
  AMemberDeclaration : DeclarationParts → Tree
  MemberNames : List FieldName → Tree
  AMemberName : MemberParts → Tree
  Constants : List Enumerator → Tree
  AConstant : EnumeratorParts → Tree

-- what a part of an expression is as a tree, and a statement
abbrev pub tree_of : Piece → Tree
tree_of (Loaded expr) = AnExpression expr
tree_of (Unloaded expr) = AnExpression expr
tree_of (Called expr) = AnExpression expr
tree_of (OfTypeName to) = ATypeName (out-TypeName to)
tree_of (ConstantIndex expr) = AnExpression expr
tree_of (SizeOfArray expr) = AnExpression expr
tree_of (BlockOf body) = Statements body

abbrev pub statement_tree : Stmt → Tree
statement_tree stmt = PartsOfStatement (parts_in stmt.place (out-StmtForm stmt.form))

-- of a name that may be left out, of the names on a way, and of those that stand in an expression itself
abbrev pub NameHolds : (Place → Type 0) → Option Identifier → Type 0
NameHolds P None = Unit {0}
NameHolds P (Some name) = P name.place

abbrev pub WayHolds : (Place → Type 0) → List Step → Type 0
WayHolds P [] = Unit {0}
WayHolds P (Part::Member name ∷ path) = P name.place × WayHolds P path
WayHolds P (At index ∷ path) = WayHolds P path

abbrev pub NamesHold : (Place → Type 0) → Form → Type 0
NamesHold P (Name name) = Unit {0}
NamesHold P (Constant spelling) = Unit {0}
NamesHold P (Unary op arg) = Unit {0}
NamesHold P (Binary op left right) = Unit {0}
NamesHold P (Assign op left right) = Unit {0}
NamesHold P (Count up after arg) = Unit {0}
NamesHold P (Choose test one other) = Unit {0}
NamesHold P (Cast to arg) = Unit {0}
NamesHold P (SizeOf arg) = Unit {0}
NamesHold P (SizeOfType to) = Unit {0}
NamesHold P (OffsetOf to path) = WayHolds P (map out-Part path)
NamesHold P (Index base index) = Unit {0}
NamesHold P (ExprForm::Member base name through) = P name.place
NamesHold P (Call callee args) = Unit {0}
NamesHold P (Inner body close) = Unit {0}
NamesHold P AssertFail = Unit {0}

-- of what a value is taken for
abbrev pub DemandHolds : (Place → Type 0) → Demand → Type 0
DemandHolds P Condition = Unit {0}
DemandHolds P Dropped = Unit {0}
DemandHolds P (Returned word t) = P word
DemandHolds P (Stored fixed t) = Unit {0}
DemandHolds P Surplus = Unit {0}

-- it holds of all of them
pub data Holds (P : Place → Type 0) : Tree → Type 0 where
  InExpression : {expr : Expr} → P expr.place → Holds P (AForm (out-ExprForm expr.form)) → Holds P (AnExpression expr)
  InForm : {form : Form} → NamesHold P form → Holds P (Pieces (pieces_in form)) → Holds P (AForm form)
  InNoPiece : Holds P (Pieces [])
  InPieces : {piece : Piece} {pieces : List Piece} → Holds P (tree_of piece) → Holds P (Pieces pieces) → Holds P (Pieces (piece ∷ pieces))
  InBasic : {basic : BasicType} → Holds P (SomeWords (Basic basic))
  InNamed : {name : List ℕ} → Holds P (SomeWords (Named name))
  InStructTag : {name : Option Identifier} → NameHolds P name → Holds P (SomeWords (Struct name None))
  InStruct : {name : Option Identifier} {fields : List FieldDecl} → NameHolds P name → Holds P (MemberDeclarations fields) → Holds P (SomeWords (Struct name (Some fields)))
  InEnumTag : {name : Option Identifier} → NameHolds P name → Holds P (SomeWords (Enum name None))
  InEnum : {name : Option Identifier} {values : List Enumerator} → NameHolds P name → Holds P (Constants values) → Holds P (SomeWords (Enum name (Some values)))
  InTypeofExpression : {expr : Expr} → Holds P (AnExpression expr) → Holds P (SomeWords (OfExpr expr))
  InTypeofType : {to : TypeName} → Holds P (ATypeName (out-TypeName to)) → Holds P (SomeWords (OfType to))
  InNothing : Holds P (Perhaps None)
  InSome : {expr : Expr} → Holds P (AnExpression expr) → Holds P (Perhaps (Some expr))
  InNoSize : Holds P (SomeSizes [])
  InSizes : {size : Option Expr} {sizes : List (Option Expr)} → Holds P (Perhaps size) → Holds P (SomeSizes sizes) → Holds P (SomeSizes (size ∷ sizes))
  InTypeName : {parts : NameParts} → Holds P (SomeWords (out-TypeSpec parts.spec)) → Holds P (SomeSizes parts.sizes) → Holds P (ATypeName parts)
  InNoStatement : Holds P (Statements [])
  InStatements : {stmt : Stmt} {stmts : List Stmt} → Holds P (statement_tree stmt) → Holds P (Statements stmts) → Holds P (Statements (stmt ∷ stmts))
  InNoPart : Holds P (PartsOfStatement [])
  InParts : {part : StatementPart} {parts : List StatementPart} → Holds P (PartOfStatement part) → Holds P (PartsOfStatement parts) → Holds P (PartsOfStatement (part ∷ parts))
  InValue : {demand : Demand} {expr : Expr} → DemandHolds P demand → Holds P (AnExpression expr) → Holds P (PartOfStatement (ValueOf demand expr))
  InWhole : {stmt : Stmt} → Holds P (statement_tree stmt) → Holds P (PartOfStatement (Whole stmt))
  InBranch : {stmt : Stmt} → Holds P (statement_tree stmt) → Holds P (PartOfStatement (Branch stmt))
  InLoopBody : {stmt : Stmt} → Holds P (statement_tree stmt) → Holds P (PartOfStatement (LoopBody stmt))
  InBlock : {body : List Stmt} → Holds P (Statements body) → Holds P (PartOfStatement (StatementsOf body))
  InLeaving : {place : Place} → P place → Holds P (PartOfStatement (LeavesLoop place))
  InReturn : {place : Place} → P place → Holds P (PartOfStatement (ReturnsNothing place))
  InReturned : {place : Place} {expr : Expr} → P place → Holds P (AnExpression expr) → Holds P (PartOfStatement (Returns place expr))
  InDeclaring : {place : Place} {decl : Decl} → P place → Holds P (ADeclaration (out-Decl decl)) → Holds P (PartOfStatement (Declares place decl))
  InDeclaration : {parts : NamesParts} → Holds P (SomeWords (out-TypeSpec parts.spec)) → Holds P (DeclaredNames parts.names) → Holds P (ADeclaration parts)
  InNoName : Holds P (DeclaredNames [])
  InNames : {name : Declared} {names : List Declared} → Holds P (ADeclarator (out-Declared name)) → Holds P (DeclaredNames names) → Holds P (DeclaredNames (name ∷ names))
  InDeclarator : {parts : DeclaratorParts} → P parts.place → Holds P (SomeSizes parts.sizes) → Holds P (SomeParameters (params_of parts.params)) → Holds P (PerhapsInitialised parts.init)
      → Holds P (ADeclarator parts)
  InNoParameter : Holds P (SomeParameters [])
  InParameters : {param : Param} {params : List Param} → Holds P (AParameter (out-Param param)) → Holds P (SomeParameters params) → Holds P (SomeParameters (param ∷ params))
  InParameter : {parts : ParameterParts} → Holds P (SomeWords (out-TypeSpec parts.spec)) → NameHolds P parts.name → Holds P (SomeSizes parts.sizes) → Holds P (AParameter parts)
  InNoInitialiser : Holds P (PerhapsInitialised None)
  InInitialised : {init : Init} → Holds P (AnInitialiser (out-Init init)) → Holds P (PerhapsInitialised (Some init))
  InValueGiven : {value : Expr} {after : Place} → Holds P (AnExpression value) → Holds P (AnInitialiser (Value value after))
  InBraces : {parts : List InitPart} → Holds P (PartsInBraces parts) → Holds P (AnInitialiser (Braces parts))
  InNoInitialiserPart : Holds P (PartsInBraces [])
  InInitialiserParts : {part : InitPart} {parts : List InitPart} → Holds P (APartInBraces (out-InitPart part)) → Holds P (PartsInBraces parts) → Holds P (PartsInBraces (part ∷ parts))
  InInitialiserPart : {this : PartOfInitialiser} → NameHolds P this.member → Holds P (AnInitialiser (out-Init this.init)) → Holds P (APartInBraces this)
  InNoMemberDeclaration : Holds P (MemberDeclarations [])
  InMemberDeclarations : {field : FieldDecl} {fields : List FieldDecl} → Holds P (AMemberDeclaration (out-FieldDecl field)) → Holds P (MemberDeclarations fields) → Holds P (MemberDeclarations (field ∷ fields))
  InMemberDeclaration : {parts : DeclarationParts} → Holds P (SomeWords (out-TypeSpec parts.spec)) → Holds P (MemberNames parts.names) → Holds P (AMemberDeclaration parts)
  InNoMemberName : Holds P (MemberNames [])
  InMemberNames : {name : FieldName} {names : List FieldName} → Holds P (AMemberName (out-FieldName name)) → Holds P (MemberNames names) → Holds P (MemberNames (name ∷ names))
  InMemberName : {parts : MemberParts} → P parts.place → Holds P (SomeSizes parts.sizes) → Holds P (Perhaps parts.bits) → Holds P (AMemberName parts)
  InNoConstant : Holds P (Constants [])
  InConstants : {constant : Enumerator} {constants : List Enumerator} → Holds P (AConstant (out-Enumerator constant)) → Holds P (Constants constants) → Holds P (Constants (constant ∷ constants))
  InConstant : {parts : EnumeratorParts} → P parts.place → Holds P (Perhaps parts.value) → Holds P (AConstant parts)

-- it holds of what stands in a tree of which it holds
module _ (P : Place → Type 0) where
  pub at_expression : {expr : Expr} → Holds P (AnExpression expr) → P expr.place
  at_expression (InExpression place form) = place

  pub form_in : {expr : Expr} → Holds P (AnExpression expr) → Holds P (AForm (out-ExprForm expr.form))
  form_in (InExpression place form) = form

  pub names_in_form : {form : Form} → Holds P (AForm form) → NamesHold P form
  names_in_form (InForm names pieces) = names

  pub pieces_in_form : {form : Form} → Holds P (AForm form) → Holds P (Pieces (pieces_in form))
  pieces_in_form (InForm names pieces) = pieces

  pub first_piece : {piece : Piece} {pieces : List Piece} → Holds P (Pieces (piece ∷ pieces)) → Holds P (tree_of piece)
  first_piece (InPieces first rest) = first

  pub other_pieces : {piece : Piece} {pieces : List Piece} → Holds P (Pieces (piece ∷ pieces)) → Holds P (Pieces pieces)
  other_pieces (InPieces first rest) = rest

  pub struct_tag : {name : Option Identifier} → Holds P (SomeWords (Struct name None)) → NameHolds P name
  struct_tag (InStructTag name) = name

  pub struct_name : {name : Option Identifier} {fields : List FieldDecl} → Holds P (SomeWords (Struct name (Some fields))) → NameHolds P name
  struct_name (InStruct name fields) = name

  pub members_in : {name : Option Identifier} {fields : List FieldDecl} → Holds P (SomeWords (Struct name (Some fields))) → Holds P (MemberDeclarations fields)
  members_in (InStruct name fields) = fields

  pub enum_tag : {name : Option Identifier} → Holds P (SomeWords (Enum name None)) → NameHolds P name
  enum_tag (InEnumTag name) = name

  pub enum_name : {name : Option Identifier} {values : List Enumerator} → Holds P (SomeWords (Enum name (Some values))) → NameHolds P name
  enum_name (InEnum name values) = name

  pub constants_in : {name : Option Identifier} {values : List Enumerator} → Holds P (SomeWords (Enum name (Some values))) → Holds P (Constants values)
  constants_in (InEnum name values) = values

  pub typeof_expression : {expr : Expr} → Holds P (SomeWords (OfExpr expr)) → Holds P (AnExpression expr)
  typeof_expression (InTypeofExpression expr) = expr

  pub typeof_type : {to : TypeName} → Holds P (SomeWords (OfType to)) → Holds P (ATypeName (out-TypeName to))
  typeof_type (InTypeofType to) = to

  pub some_in : {expr : Expr} → Holds P (Perhaps (Some expr)) → Holds P (AnExpression expr)
  some_in (InSome expr) = expr

  pub first_size : {size : Option Expr} {sizes : List (Option Expr)} → Holds P (SomeSizes (size ∷ sizes)) → Holds P (Perhaps size)
  first_size (InSizes first rest) = first

  pub other_sizes : {size : Option Expr} {sizes : List (Option Expr)} → Holds P (SomeSizes (size ∷ sizes)) → Holds P (SomeSizes sizes)
  other_sizes (InSizes first rest) = rest

  pub words_in_name : {parts : NameParts} → Holds P (ATypeName parts) → Holds P (SomeWords (out-TypeSpec parts.spec))
  words_in_name (InTypeName words sizes) = words

  pub sizes_in_name : {parts : NameParts} → Holds P (ATypeName parts) → Holds P (SomeSizes parts.sizes)
  sizes_in_name (InTypeName words sizes) = sizes

  pub first_statement : {stmt : Stmt} {stmts : List Stmt} → Holds P (Statements (stmt ∷ stmts)) → Holds P (statement_tree stmt)
  first_statement (InStatements first rest) = first

  pub other_statements : {stmt : Stmt} {stmts : List Stmt} → Holds P (Statements (stmt ∷ stmts)) → Holds P (Statements stmts)
  other_statements (InStatements first rest) = rest

  pub first_part : {part : StatementPart} {parts : List StatementPart} → Holds P (PartsOfStatement (part ∷ parts)) → Holds P (PartOfStatement part)
  first_part (InParts first rest) = first

  pub other_parts : {part : StatementPart} {parts : List StatementPart} → Holds P (PartsOfStatement (part ∷ parts)) → Holds P (PartsOfStatement parts)
  other_parts (InParts first rest) = rest

  pub demand_in : {demand : Demand} {expr : Expr} → Holds P (PartOfStatement (ValueOf demand expr)) → DemandHolds P demand
  demand_in (InValue demand expr) = demand

  pub value_in_part : {demand : Demand} {expr : Expr} → Holds P (PartOfStatement (ValueOf demand expr)) → Holds P (AnExpression expr)
  value_in_part (InValue demand expr) = expr

  pub whole_in : {stmt : Stmt} → Holds P (PartOfStatement (Whole stmt)) → Holds P (statement_tree stmt)
  whole_in (InWhole stmt) = stmt

  pub branch_in : {stmt : Stmt} → Holds P (PartOfStatement (Branch stmt)) → Holds P (statement_tree stmt)
  branch_in (InBranch stmt) = stmt

  pub loop_body_in : {stmt : Stmt} → Holds P (PartOfStatement (LoopBody stmt)) → Holds P (statement_tree stmt)
  loop_body_in (InLoopBody stmt) = stmt

  pub block_in : {body : List Stmt} → Holds P (PartOfStatement (StatementsOf body)) → Holds P (Statements body)
  block_in (InBlock body) = body

  pub leaving_at : {place : Place} → Holds P (PartOfStatement (LeavesLoop place)) → P place
  leaving_at (InLeaving place) = place

  pub return_at : {place : Place} → Holds P (PartOfStatement (ReturnsNothing place)) → P place
  return_at (InReturn place) = place

  pub returned_at : {place : Place} {expr : Expr} → Holds P (PartOfStatement (Returns place expr)) → P place
  returned_at (InReturned place expr) = place

  pub returned_in : {place : Place} {expr : Expr} → Holds P (PartOfStatement (Returns place expr)) → Holds P (AnExpression expr)
  returned_in (InReturned place expr) = expr

  pub declaring_at : {place : Place} {decl : Decl} → Holds P (PartOfStatement (Declares place decl)) → P place
  declaring_at (InDeclaring place decl) = place

  pub declaration_in : {place : Place} {decl : Decl} → Holds P (PartOfStatement (Declares place decl)) → Holds P (ADeclaration (out-Decl decl))
  declaration_in (InDeclaring place decl) = decl

  pub words_in_declaration : {parts : NamesParts} → Holds P (ADeclaration parts) → Holds P (SomeWords (out-TypeSpec parts.spec))
  words_in_declaration (InDeclaration words names) = words

  pub names_in_declaration : {parts : NamesParts} → Holds P (ADeclaration parts) → Holds P (DeclaredNames parts.names)
  names_in_declaration (InDeclaration words names) = names

  pub first_name : {name : Declared} {names : List Declared} → Holds P (DeclaredNames (name ∷ names)) → Holds P (ADeclarator (out-Declared name))
  first_name (InNames first rest) = first

  pub other_names : {name : Declared} {names : List Declared} → Holds P (DeclaredNames (name ∷ names)) → Holds P (DeclaredNames names)
  other_names (InNames first rest) = rest

  pub at_declarator : {parts : DeclaratorParts} → Holds P (ADeclarator parts) → P parts.place
  at_declarator (InDeclarator place sizes params init) = place

  pub sizes_in_declarator : {parts : DeclaratorParts} → Holds P (ADeclarator parts) → Holds P (SomeSizes parts.sizes)
  sizes_in_declarator (InDeclarator place sizes params init) = sizes

  pub parameters_in : {parts : DeclaratorParts} → Holds P (ADeclarator parts) → Holds P (SomeParameters (params_of parts.params))
  parameters_in (InDeclarator place sizes params init) = params

  pub initialiser_behind : {parts : DeclaratorParts} → Holds P (ADeclarator parts) → Holds P (PerhapsInitialised parts.init)
  initialiser_behind (InDeclarator place sizes params init) = init

  pub first_parameter : {param : Param} {params : List Param} → Holds P (SomeParameters (param ∷ params)) → Holds P (AParameter (out-Param param))
  first_parameter (InParameters first rest) = first

  pub other_parameters : {param : Param} {params : List Param} → Holds P (SomeParameters (param ∷ params)) → Holds P (SomeParameters params)
  other_parameters (InParameters first rest) = rest

  pub words_in_parameter : {parts : ParameterParts} → Holds P (AParameter parts) → Holds P (SomeWords (out-TypeSpec parts.spec))
  words_in_parameter (InParameter words name sizes) = words

  pub name_of_parameter : {parts : ParameterParts} → Holds P (AParameter parts) → NameHolds P parts.name
  name_of_parameter (InParameter words name sizes) = name

  pub sizes_in_parameter : {parts : ParameterParts} → Holds P (AParameter parts) → Holds P (SomeSizes parts.sizes)
  sizes_in_parameter (InParameter words name sizes) = sizes

  pub initialiser_in : {init : Init} → Holds P (PerhapsInitialised (Some init)) → Holds P (AnInitialiser (out-Init init))
  initialiser_in (InInitialised init) = init

  pub value_given : {value : Expr} {after : Place} → Holds P (AnInitialiser (Value value after)) → Holds P (AnExpression value)
  value_given (InValueGiven value) = value

  pub parts_given : {parts : List InitPart} → Holds P (AnInitialiser (Braces parts)) → Holds P (PartsInBraces parts)
  parts_given (InBraces parts) = parts

  pub first_initialiser : {part : InitPart} {parts : List InitPart} → Holds P (PartsInBraces (part ∷ parts)) → Holds P (APartInBraces (out-InitPart part))
  first_initialiser (InInitialiserParts first rest) = first

  pub other_initialisers : {part : InitPart} {parts : List InitPart} → Holds P (PartsInBraces (part ∷ parts)) → Holds P (PartsInBraces parts)
  other_initialisers (InInitialiserParts first rest) = rest

  pub designator_in : {this : PartOfInitialiser} → Holds P (APartInBraces this) → NameHolds P this.member
  designator_in (InInitialiserPart member init) = member

  pub initialiser_in_part : {this : PartOfInitialiser} → Holds P (APartInBraces this) → Holds P (AnInitialiser (out-Init this.init))
  initialiser_in_part (InInitialiserPart member init) = init

  pub first_declaration : {field : FieldDecl} {fields : List FieldDecl} → Holds P (MemberDeclarations (field ∷ fields)) → Holds P (AMemberDeclaration (out-FieldDecl field))
  first_declaration (InMemberDeclarations first rest) = first

  pub other_declarations : {field : FieldDecl} {fields : List FieldDecl} → Holds P (MemberDeclarations (field ∷ fields)) → Holds P (MemberDeclarations fields)
  other_declarations (InMemberDeclarations first rest) = rest

  pub words_in_members : {parts : DeclarationParts} → Holds P (AMemberDeclaration parts) → Holds P (SomeWords (out-TypeSpec parts.spec))
  words_in_members (InMemberDeclaration words names) = words

  pub names_in_members : {parts : DeclarationParts} → Holds P (AMemberDeclaration parts) → Holds P (MemberNames parts.names)
  names_in_members (InMemberDeclaration words names) = names

  pub first_member : {name : FieldName} {names : List FieldName} → Holds P (MemberNames (name ∷ names)) → Holds P (AMemberName (out-FieldName name))
  first_member (InMemberNames first rest) = first

  pub other_members : {name : FieldName} {names : List FieldName} → Holds P (MemberNames (name ∷ names)) → Holds P (MemberNames names)
  other_members (InMemberNames first rest) = rest

  pub at_member : {parts : MemberParts} → Holds P (AMemberName parts) → P parts.place
  at_member (InMemberName place sizes bits) = place

  pub sizes_in_member : {parts : MemberParts} → Holds P (AMemberName parts) → Holds P (SomeSizes parts.sizes)
  sizes_in_member (InMemberName place sizes bits) = sizes

  pub bits_in_member : {parts : MemberParts} → Holds P (AMemberName parts) → Holds P (Perhaps parts.bits)
  bits_in_member (InMemberName place sizes bits) = bits

  pub first_constant : {constant : Enumerator} {constants : List Enumerator} → Holds P (Constants (constant ∷ constants)) → Holds P (AConstant (out-Enumerator constant))
  first_constant (InConstants first rest) = first

  pub other_constants : {constant : Enumerator} {constants : List Enumerator} → Holds P (Constants (constant ∷ constants)) → Holds P (Constants constants)
  other_constants (InConstants first rest) = rest

  pub at_constant : {parts : EnumeratorParts} → Holds P (AConstant parts) → P parts.place
  at_constant (InConstant place value) = place

  pub value_of_constant : {parts : EnumeratorParts} → Holds P (AConstant parts) → Holds P (Perhaps parts.value)
  value_of_constant (InConstant place value) = value
