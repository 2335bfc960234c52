-- Which type an expression has in an environment, or what is refused in it, or in a statement or a declaration in a block,
-- first (C11 6.3, 6.5 to 6.8).
--
-- `Finds before saying after` says what is found of a part of a tree, where `before` is declared in front of it and `after` behind
-- it. The parts of an expression are walked in the order of the text, and the expression itself behind them: what is found in a part
-- is found of the whole, and where all parts pass, what is named of all that is broken at the expression itself.
use Rattle.std.specs.Prelude.{◌≡◌, ℕ, suc, Bool, true, false, List, [], ◌∷◌, ◌++◌, Option, None, Some, option_and_then, length}
use Rattle.cbase.specs.declared.ctype.CType.{CType}
use Rattle.cbase.specs.declared.ctype.CType.TheVariants.{Void as VoidType, Struct as StructType, Array as ArrayType}
use Rattle.cbase.specs.declared.place.Place.{Place}
use Rattle.cbase.specs.declared.structs.Field.{Field}
use Rattle.cbase.specs.declared.tree.decl.Decl.{Decl}
use Rattle.cbase.specs.declared.tree.decl.Declared.{Declared}
use Rattle.cbase.specs.declared.tree.decl.Param.{Param}
use Rattle.cbase.specs.declared.tree.decl.Storage.{Storage}
use Rattle.cbase.specs.declared.tree.decl.TypeName.{TypeName}
use Rattle.cbase.specs.declared.tree.expr.Expr.{Expr}
use Rattle.cbase.specs.declared.tree.expr.ExprForm.TheOpen.{Basic, Named, Struct, Enum, OfExpr, OfType, Value, Braces}
use Rattle.cbase.specs.declared.tree.expr.ExprForm.TheViews.{out-ExprForm, out-StmtForm, out-TypeName, out-TypeSpec, out-FieldDecl, out-FieldName, out-Enumerator, out-Decl, out-Declared, out-Param, out-Init, out-InitPart}
use Rattle.cbase.specs.declared.tree.identifier.Identifier.{Identifier}
use Rattle.cbase.specs.declared.tree.init.Init.{Init}
use Rattle.cbase.specs.declared.tree.init.InitPart.{InitPart}
use Rattle.cbase.specs.declared.tree.spec.BasicType.{BasicType}
use Rattle.cbase.specs.declared.tree.spec.Enumerator.{Enumerator}
use Rattle.cbase.specs.declared.tree.spec.FieldDecl.{FieldDecl}
use Rattle.cbase.specs.declared.tree.spec.FieldName.{FieldName}
use Rattle.cbase.specs.declared.tree.stmt.Stmt.{Stmt}
use Rattle.typing.specs.declared.ctypes.found.Broken.TheVariants.{Rule}
use Rattle.typing.specs.ctypes.Binary.{int_type}
use Rattle.typing.specs.ctypes.Operands.{Operand}
use Rattle.typing.specs.declared.fault.Fault.{Fault}
use Rattle.typing.specs.declared.size.Size.{Size}
use Rattle.typing.specs.declared.size.Size.TheVariants.{LeftOut}
use Rattle.typing.specs.Braces.{Opens, IsTwice, struct_opening, enum_opening, fixed_size, width_found, member, member_type, faults_of_member}
use Rattle.typing.specs.Calls.{is_struct}
use Rattle.typing.specs.Declarations.{Given, ObjectGiven, LinkedGiven, TypeGiven, Parameter, tag_alone, alone, is_fixed_size, given, given_type, IsAgain, faults_of_name, name_declared, name_of, object_row, in_braces, initialised, told_type, told_faults, parameter, with_parameter, is_named_here, parameter_declared, faults_of_function, function_given}
use Rattle.typing.specs.Entities.{FunctionEntity, FunctionIs, DeclaredType, WholeType, ItemsOf, Linked, StructTag, EnumTag}
use Rattle.typing.specs.Faults.{fault, all_at, IsFirst}
use Rattle.typing.specs.Forms.{Form, Words, Clause, NameParts, DeclarationParts, MemberParts, EnumeratorParts, NamesParts, DeclaratorParts, ParameterParts, Initialiser, PartOfInitialiser, name_in, value_in}
use Rattle.typing.specs.Initialisers.{Slot, Subject, Filled, Sets, NoMember, Full, filled_of, next_in, ended, stored, IsAsked}
use Rattle.typing.specs.Known.{Known, operand, can_load, value_type, behind}
use Rattle.typing.specs.Language.{Language}
use Rattle.typing.specs.NamedTypes.{NamedType, whole, basic_type, no_type, typedef_of, size_of, declared_type, declared, is_large}
use Rattle.typing.specs.Nodes.{function_faults, is_function, called_of, are_empty, is_last_value}
use Rattle.typing.specs.Outcomes.{Outcome, Handed, Passes, Refused, IsSettled, with_front}
use Rattle.typing.specs.Pieces.{Piece, Loaded, Unloaded, Called, OfType as OfTypeName, ConstantIndex, SizeOfArray, BlockOf, pieces_in}
use Rattle.typing.specs.Rules.{AtNode}
use Rattle.typing.specs.Statements.{Demand, Returned, Stored, Surplus, StatementPart, ValueOf, Whole, Branch, LoopBody, StatementsOf, LeavesLoop, ReturnsNothing, Returns, Declares, parts_in, has_scope, faults_of_value, return_faults, without_value}
use Rattle.typing.specs.Told.{Told, OperandIs, FunctionNamed, NoFunction, TypeIs, IndexIs, SizeIs, ValueIs}
use Rattle.typing.specs.values.Values.{word_of, int_value, next_value}

-- what is said of which part of a tree
pub data Saying : Type 0 where
  ExpressionIs : Expr → Outcome Known → Saying
  PieceIs : Piece → Outcome Told → Saying
  PiecesAre : List Piece → Outcome (List Told) → Saying
  WordsAre : Words → Outcome NamedType → Saying
  SizesAre : List (Option Expr) → Outcome (List Size) → Saying
  NameOfTypeIs : TypeName → Outcome NamedType → Saying
  -- the statements of a block, a statement, what it is made of, and a value in it
  StatementsAre : List Stmt → Outcome CType → Saying
  StatementIs : Stmt → Outcome (Unit {0}) → Saying
  StatementPartsAre : List StatementPart → Outcome (Unit {0}) → Saying
  StatementPartIs : StatementPart → Outcome (Unit {0}) → Saying
  ValueUsed : Demand → Expr → Outcome (Unit {0}) → Saying
  -- a declaration in a block, whose first token stands there; all its names, where it has any; these one behind the other; and one of them
  DeclaredIs : Place → Decl → Outcome (Unit {0}) → Saying
  DeclaratorsAre : Place → Storage → NamedType → List Declared → Outcome (Unit {0}) → Saying
  DeclaredNamesAre : Storage → NamedType → List Declared → Outcome (Unit {0}) → Saying
  DeclaredNameIs : Storage → NamedType → Declared → Outcome (Unit {0}) → Saying
  -- its sizes, which are integer constant expressions or not
  DeclaredSizesAre : Bool → List (Option Expr) → Outcome (List Size) → Saying
  -- the parameters of a function, and one of them
  ParametersAre : List Param → Outcome (List Parameter) → Saying
  ParameterIs : Param → Outcome Parameter → Saying
  -- what stands behind a name that a declaration gives something; an initialiser; its parts in braces, from an index on; and those for which
  -- there is no place
  InitialisedIs : Identifier → Given → Option Init → Outcome (Unit {0}) → Saying
  InitialiserIs : Subject → Slot → Init → Outcome (Unit {0}) → Saying
  PartsFill : Subject → Filled → ℕ → List InitPart → Outcome (Unit {0}) → Saying
  SurplusIs : Place → Init → Outcome (Unit {0}) → Saying
  SurplusAre : Place → List InitPart → Outcome (Unit {0}) → Saying
  -- the members of a struct, behind those that it has so far: declarations, one of them, names of a type, and one of them
  MembersAre : List Field → List FieldDecl → Outcome (List Field) → Saying
  DeclarationIs : List Field → FieldDecl → Outcome (List Field) → Saying
  NamesAre : NamedType → List Field → List FieldName → Outcome (List Field) → Saying
  MemberIs : NamedType → List Field → FieldName → Outcome (List Field) → Saying
  -- the sizes of a member, one of them, and how many bits it has
  MemberSizesAre : List (Option Expr) → Outcome (List Size) → Saying
  MemberSizeIs : Option Expr → Outcome Size → Saying
  WidthIs : Option Expr → Outcome (Unit {0}) → Saying
  -- the constants of an enum, of which the first has this value where none is given; and the value of one at a place, as the bits of an int
  EnumeratorsAre : Option ℕ → List Enumerator → Outcome NamedType → Saying
  ValueOfEnumerator : Place → Option ℕ → Option Expr → Outcome ℕ → Saying

-- the name that an expression is
abbrev pub named : Expr → Option (List ℕ)
named expr = name_in (out-ExprForm expr.form)

pub data Finds (l : Language) : l.Environment → Saying → l.Environment → Type 0 where
  -- what is refused in a part is refused in the whole
  RefusedInside : {before after : l.Environment} {expr : Expr} {form : Form} {first : Fault}
      → out-ExprForm expr.form ≡ form
      → Finds l before (PiecesAre (pieces_in form) (Refused first)) after
      → Finds l before (ExpressionIs expr (Refused first)) after
  -- and where all parts pass, what is found at it
  Walked : {before after : l.Environment} {expr : Expr} {form : Form} {told : List Told} {handed : List Handed} {outcome : Outcome Known}
      → out-ExprForm expr.form ≡ form
      → Finds l before (PiecesAre (pieces_in form) (Passes told handed)) after
      → AtNode l after expr.number expr.place handed form told outcome
      → Finds l before (ExpressionIs expr outcome) after
  -- the parts, one behind the other
  NoPieces : {env : l.Environment} → Finds l env (PiecesAre [] (Passes [] [])) env
  MorePieces : {before middle after : l.Environment} {piece : Piece} {pieces : List Piece} {told : Told} {others : List Told} {handed further : List Handed}
      → Finds l before (PieceIs piece (Passes told handed)) middle
      → Finds l middle (PiecesAre pieces (Passes others further)) after
      → Finds l before (PiecesAre (piece ∷ pieces) (Passes (told ∷ others) (handed ++ further))) after
  RefusedHere : {before after : l.Environment} {piece : Piece} {pieces : List Piece} {first : Fault}
      → Finds l before (PieceIs piece (Refused first)) after
      → Finds l before (PiecesAre (piece ∷ pieces) (Refused first)) after
  RefusedBehind : {before middle after : l.Environment} {piece : Piece} {pieces : List Piece} {told : Told} {handed : List Handed} {first : Fault}
      → Finds l before (PieceIs piece (Passes told handed)) middle
      → Finds l middle (PiecesAre pieces (Refused first)) after
      → Finds l before (PiecesAre (piece ∷ pieces) (Refused first)) after
  -- a value that is taken, or a target that is stored to: an lvalue of an incomplete type is rule 3 at it (6.3.2.1p2)
  LoadedValue : {before after : l.Environment} {expr : Expr} {known : Known} {handed : List Handed}
      → Finds l before (ExpressionIs expr (Passes known handed)) after
      → can_load (l.structs after) known ≡ true
      → Finds l before (PieceIs (Loaded expr) (Passes (OperandIs known) handed)) after
  LoadOfIncomplete : {before after : l.Environment} {expr : Expr} {known : Known} {handed : List Handed}
      → Finds l before (ExpressionIs expr (Passes known handed)) after
      → can_load (l.structs after) known ≡ false
      → Finds l before (PieceIs (Loaded expr) (Refused (fault expr.place (Rule 3)))) after
  LoadedRefused : {before after : l.Environment} {expr : Expr} {first : Fault}
      → Finds l before (ExpressionIs expr (Refused first)) after
      → Finds l before (PieceIs (Loaded expr) (Refused first)) after
  -- an operand of which only the place or the type is asked
  UnloadedOperand : {before after : l.Environment} {expr : Expr} {known : Known} {handed : List Handed}
      → Finds l before (ExpressionIs expr (Passes known handed)) after
      → Finds l before (PieceIs (Unloaded expr) (Passes (OperandIs known) handed)) after
  UnloadedRefused : {before after : l.Environment} {expr : Expr} {first : Fault}
      → Finds l before (ExpressionIs expr (Refused first)) after
      → Finds l before (PieceIs (Unloaded expr) (Refused first)) after
  -- a callee that names a function; one without definition is construct 12. It is handed on with the type of the call
  CalledFunction : {env : l.Environment} {callee : Expr} {name : List ℕ} {function : FunctionEntity} {outcome : Outcome Told}
      → named callee ≡ Some name
      → l.entity name env ≡ Some (FunctionIs function)
      → IsSettled (function_faults callee.place function) (FunctionNamed name function) (behind [] callee.number (called_of function)) outcome
      → Finds l env (PieceIs (Called callee) outcome) env
  -- any other callee is a value
  CalledOther : {before after : l.Environment} {callee : Expr} {told : Told} {handed : List Handed}
      → is_function (option_and_then (λ name. l.entity name before) (named callee)) ≡ false
      → Finds l before (PieceIs (Loaded callee) (Passes told handed)) after
      → Finds l before (PieceIs (Called callee) (Passes NoFunction handed)) after
  CalledRefused : {before after : l.Environment} {callee : Expr} {first : Fault}
      → is_function (option_and_then (λ name. l.entity name before) (named callee)) ≡ false
      → Finds l before (PieceIs (Loaded callee) (Refused first)) after
      → Finds l before (PieceIs (Called callee) (Refused first)) after
  -- a type name
  TypeInside : {before after : l.Environment} {to : TypeName} {named : NamedType} {handed : List Handed}
      → Finds l before (NameOfTypeIs to (Passes named handed)) after
      → Finds l before (PieceIs (OfTypeName to) (Passes (TypeIs named) handed)) after
  TypeRefused : {before after : l.Environment} {to : TypeName} {first : Fault}
      → Finds l before (NameOfTypeIs to (Refused first)) after
      → Finds l before (PieceIs (OfTypeName to) (Refused first)) after
  -- an index of `__builtin_offsetof` that is no integer constant expression is rule 9 at it
  IndexOfPath : {before after : l.Environment} {expr : Expr} {known : Known} {index : Operand} {word : ℕ} {handed : List Handed}
      → Finds l before (PieceIs (Loaded expr) (Passes (OperandIs known) handed)) after
      → operand (l.structs after) known ≡ index
      → word_of index.kind known.value ≡ Some word
      → Finds l before (PieceIs (ConstantIndex expr) (Passes (IndexIs word) handed)) after
  IndexNotConstant : {before after : l.Environment} {expr : Expr} {known : Known} {index : Operand} {handed : List Handed}
      → Finds l before (PieceIs (Loaded expr) (Passes (OperandIs known) handed)) after
      → operand (l.structs after) known ≡ index
      → word_of index.kind known.value ≡ None
      → Finds l before (PieceIs (ConstantIndex expr) (Refused (fault expr.place (Rule 9)))) after
  IndexRefused : {before after : l.Environment} {expr : Expr} {first : Fault}
      → Finds l before (PieceIs (Loaded expr) (Refused first)) after
      → Finds l before (PieceIs (ConstantIndex expr) (Refused first)) after
  -- a size of an array that is a constant under 1 is rule 9 at it (6.7.6.2p1)
  SizeOfItems : {before after : l.Environment} {expr : Expr} {known : Known} {count : Operand} {size : Size} {handed : List Handed}
      → Finds l before (PieceIs (Loaded expr) (Passes (OperandIs known) handed)) after
      → operand (l.structs after) known ≡ count
      → size_of count.kind known.value ≡ Some size
      → Finds l before (PieceIs (SizeOfArray expr) (Passes (SizeIs size) handed)) after
  SizeUnderOne : {before after : l.Environment} {expr : Expr} {known : Known} {count : Operand} {handed : List Handed}
      → Finds l before (PieceIs (Loaded expr) (Passes (OperandIs known) handed)) after
      → operand (l.structs after) known ≡ count
      → size_of count.kind known.value ≡ None
      → Finds l before (PieceIs (SizeOfArray expr) (Refused (fault expr.place (Rule 9)))) after
  SizeRefused : {before after : l.Environment} {expr : Expr} {first : Fault}
      → Finds l before (PieceIs (Loaded expr) (Refused first)) after
      → Finds l before (PieceIs (SizeOfArray expr) (Refused first)) after
  -- the block of a statement expression is a scope of its own
  BlockInside : {before after : l.Environment} {body : List Stmt} {t : CType} {handed : List Handed}
      → Finds l (l.entered before) (StatementsAre body (Passes t handed)) after
      → Finds l before (PieceIs (BlockOf body) (Passes (ValueIs t) handed)) (l.left after)
  BlockRefused : {before after : l.Environment} {body : List Stmt} {first : Fault}
      → Finds l (l.entered before) (StatementsAre body (Refused first)) after
      → Finds l before (PieceIs (BlockOf body) (Refused first)) (l.left after)
  -- a block's value is that of its last statement that is not empty, where that is an expression, and else there is none
  NoStatements : {env : l.Environment} → Finds l env (StatementsAre [] (Passes VoidType [])) env
  LastExpression : {before after : l.Environment} {stmt : Stmt} {stmts : List Stmt} {expr : Expr} {known : Known} {last : Operand} {handed : List Handed}
      → value_in (out-StmtForm stmt.form) ≡ Some expr
      → are_empty stmts ≡ true
      → Finds l before (PieceIs (Loaded expr) (Passes (OperandIs known) handed)) after
      → operand (l.structs after) known ≡ last
      → is_struct last.kind ≡ false
      → Finds l before (StatementsAre (stmt ∷ stmts) (Passes (value_type last.kind known.ctype) handed)) after
  -- a struct is no value of it: rule 4 at the expression
  LastStruct : {before after : l.Environment} {stmt : Stmt} {stmts : List Stmt} {expr : Expr} {known : Known} {last : Operand} {handed : List Handed}
      → value_in (out-StmtForm stmt.form) ≡ Some expr
      → are_empty stmts ≡ true
      → Finds l before (PieceIs (Loaded expr) (Passes (OperandIs known) handed)) after
      → operand (l.structs after) known ≡ last
      → is_struct last.kind ≡ true
      → Finds l before (StatementsAre (stmt ∷ stmts) (Refused (fault expr.place (Rule 4)))) after
  LastRefused : {before after : l.Environment} {stmt : Stmt} {stmts : List Stmt} {expr : Expr} {first : Fault}
      → value_in (out-StmtForm stmt.form) ≡ Some expr
      → are_empty stmts ≡ true
      → Finds l before (PieceIs (Loaded expr) (Refused first)) after
      → Finds l before (StatementsAre (stmt ∷ stmts) (Refused first)) after
  -- statements and declarations before it
  MoreStatements : {before middle after : l.Environment} {stmt : Stmt} {stmts : List Stmt} {t : CType} {further : List Handed} (handed : List Handed)
      → is_last_value (stmt ∷ stmts) ≡ false
      → Finds l before (StatementIs stmt (Passes tt handed)) middle
      → Finds l middle (StatementsAre stmts (Passes t further)) after
      → Finds l before (StatementsAre (stmt ∷ stmts) (Passes t (handed ++ further))) after
  StatementRefused : {before after : l.Environment} {stmt : Stmt} {stmts : List Stmt} {first : Fault}
      → is_last_value (stmt ∷ stmts) ≡ false
      → Finds l before (StatementIs stmt (Refused first)) after
      → Finds l before (StatementsAre (stmt ∷ stmts) (Refused first)) after
  StatementsRefused : {before middle after : l.Environment} {stmt : Stmt} {stmts : List Stmt} {first : Fault} (handed : List Handed)
      → is_last_value (stmt ∷ stmts) ≡ false
      → Finds l before (StatementIs stmt (Passes tt handed)) middle
      → Finds l middle (StatementsAre stmts (Refused first)) after
      → Finds l before (StatementsAre (stmt ∷ stmts) (Refused first)) after
  -- a statement: what it is made of, one behind the other (6.8)
  StatementOfParts : {before after : l.Environment} {stmt : Stmt} {clause : Clause} {outcome : Outcome (Unit {0})}
      → out-StmtForm stmt.form ≡ clause
      → has_scope clause ≡ false
      → Finds l before (StatementPartsAre (parts_in stmt.place clause) outcome) after
      → Finds l before (StatementIs stmt outcome) after
  -- an `if` and a loop is a block (6.8.4p3, 6.8.5p5)
  StatementInScope : {before after : l.Environment} {stmt : Stmt} {clause : Clause} {outcome : Outcome (Unit {0})}
      → out-StmtForm stmt.form ≡ clause
      → has_scope clause ≡ true
      → Finds l (l.entered before) (StatementPartsAre (parts_in stmt.place clause) outcome) after
      → Finds l before (StatementIs stmt outcome) (l.left after)
  NoStatementParts : {env : l.Environment} → Finds l env (StatementPartsAre [] (Passes tt [])) env
  MoreStatementParts : {before middle after : l.Environment} {part : StatementPart} {parts : List StatementPart} {handed : List Handed} {outcome : Outcome (Unit {0})}
      → Finds l before (StatementPartIs part (Passes tt handed)) middle
      → Finds l middle (StatementPartsAre parts outcome) after
      → Finds l before (StatementPartsAre (part ∷ parts) (with_front handed outcome)) after
  StatementPartRefused : {before after : l.Environment} {part : StatementPart} {parts : List StatementPart} {first : Fault}
      → Finds l before (StatementPartIs part (Refused first)) after
      → Finds l before (StatementPartsAre (part ∷ parts) (Refused first)) after
  -- a value that is used as the statement says, and a statement in it
  ValueInStatement : {before after : l.Environment} {demand : Demand} {expr : Expr} {outcome : Outcome (Unit {0})}
      → Finds l before (ValueUsed demand expr outcome) after
      → Finds l before (StatementPartIs (ValueOf demand expr) outcome) after
  StatementInside : {before after : l.Environment} {stmt : Stmt} {outcome : Outcome (Unit {0})}
      → Finds l before (StatementIs stmt outcome) after
      → Finds l before (StatementPartIs (Whole stmt) outcome) after
  -- the body of a loop (6.8.5p5), in which `break` and `continue` may stand; behind it they may where they might before
  BodyOfLoop : {before after : l.Environment} {stmt : Stmt} {outcome : Outcome (Unit {0})}
      → Finds l (l.loop_set true (l.entered before)) (StatementIs stmt outcome) after
      → Finds l before (StatementPartIs (LoopBody stmt) outcome) (l.loop_set (l.in_loop before) (l.left after))
  -- a statement in an `if` (6.8.4p3)
  StatementOfIf : {before after : l.Environment} {stmt : Stmt} {outcome : Outcome (Unit {0})}
      → Finds l (l.entered before) (StatementIs stmt outcome) after
      → Finds l before (StatementPartIs (Branch stmt) outcome) (l.left after)
  -- a block (6.8.2p2)
  BlockOfStatements : {before after : l.Environment} {body : List Stmt} {found : Outcome CType}
      → Finds l (l.entered before) (StatementsAre body found) after
      → Finds l before (StatementPartIs (StatementsOf body) (without_value found)) (l.left after)
  -- `break` and `continue` stand in the body of a loop, else it is rule 10 at the word (6.8.6.2p1, 6.8.6.3p1)
  LoopLeft : {env : l.Environment} {place : Place}
      → l.in_loop env ≡ true
      → Finds l env (StatementPartIs (LeavesLoop place) (Passes tt [])) env
  NoLoopToLeave : {env : l.Environment} {place : Place}
      → l.in_loop env ≡ false
      → Finds l env (StatementPartIs (LeavesLoop place) (Refused (fault place (Rule 10)))) env
  -- `return` (6.8.6.4): its value is walked first
  NothingReturned : {env : l.Environment} {place : Place} {faults : List Fault} {outcome : Outcome (Unit {0})}
      → return_faults (l.structs env) place (l.result env) ≡ faults
      → IsSettled faults tt [] outcome
      → Finds l env (StatementPartIs (ReturnsNothing place) outcome) env
  ValueReturned : {before after : l.Environment} {place : Place} {expr : Expr} {outcome : Outcome (Unit {0})}
      → Finds l before (ValueUsed (Returned place (l.result before)) expr outcome) after
      → Finds l before (StatementPartIs (Returns place expr) outcome) after
  -- a value that is taken, and what is broken at it
  ValueTaken : {before after : l.Environment} {demand : Demand} {expr : Expr} {known : Known} {faults : List Fault} {handed : List Handed} {outcome : Outcome (Unit {0})} (constant : Bool)
      → Finds l before (PieceIs (Loaded expr) (Passes (OperandIs known) handed)) after
      → IsAsked demand handed expr constant
      → faults_of_value (l.structs after) demand constant expr.place known ≡ faults
      → IsSettled faults tt handed outcome
      → Finds l before (ValueUsed demand expr outcome) after
  ValueRefused : {before after : l.Environment} {demand : Demand} {expr : Expr} {first : Fault}
      → Finds l before (PieceIs (Loaded expr) (Refused first)) after
      → Finds l before (ValueUsed demand expr (Refused first)) after
  -- a declaration in a block (6.7), as a part of a statement
  DeclarationInside : {before after : l.Environment} {place : Place} {decl : Decl} {outcome : Outcome (Unit {0})}
      → Finds l before (DeclaredIs place decl outcome) after
      → Finds l before (StatementPartIs (Declares place decl) outcome) after
  -- `struct s;` declares its tag in the innermost scope (6.7.2.3p7); a tag of another kind there is rule 2 at it
  TagAlone : {before after : l.Environment} {place : Place} {decl : Decl} {parts : NamesParts} {words : Words} {name : Identifier}
      → out-Decl decl ≡ parts
      → out-TypeSpec parts.spec ≡ words
      → tag_alone parts.storage words parts.names ≡ Some name
      → alone l name before ≡ Opens after
      → Finds l before (DeclaredIs place decl (Passes tt [])) after
  TagAloneOfOther : {env : l.Environment} {place : Place} {decl : Decl} {parts : NamesParts} {words : Words} {name : Identifier} {first : Fault}
      → out-Decl decl ≡ parts
      → out-TypeSpec parts.spec ≡ words
      → tag_alone parts.storage words parts.names ≡ Some name
      → alone l name env ≡ IsTwice first
      → Finds l env (DeclaredIs place decl (Refused first)) env
  -- any other one: its words, then its names
  WordsWithNames : {before middle after : l.Environment} {place : Place} {decl : Decl} {parts : NamesParts} {words : Words} {base : NamedType} {handed : List Handed} {outcome : Outcome (Unit {0})}
      → out-Decl decl ≡ parts
      → out-TypeSpec parts.spec ≡ words
      → tag_alone parts.storage words parts.names ≡ None
      → Finds l before (WordsAre words (Passes base handed)) middle
      → Finds l middle (DeclaratorsAre place parts.storage base parts.names outcome) after
      → Finds l before (DeclaredIs place decl (with_front handed outcome)) after
  DeclaredWordsRefused : {before after : l.Environment} {place : Place} {decl : Decl} {parts : NamesParts} {words : Words} {first : Fault}
      → out-Decl decl ≡ parts
      → out-TypeSpec parts.spec ≡ words
      → tag_alone parts.storage words parts.names ≡ None
      → Finds l before (WordsAre words (Refused first)) after
      → Finds l before (DeclaredIs place decl (Refused first)) after
  -- where nothing is declared, what the words hold is found at the first token
  NoDeclarators : {env : l.Environment} {place : Place} {storage : Storage} {base : NamedType} {outcome : Outcome (Unit {0})}
      → IsSettled (all_at place base.found) tt [] outcome
      → Finds l env (DeclaratorsAre place storage base [] outcome) env
  SomeDeclarators : {before after : l.Environment} {place : Place} {storage : Storage} {base : NamedType} {name : Declared} {names : List Declared} {outcome : Outcome (Unit {0})}
      → Finds l before (DeclaredNamesAre storage base (name ∷ names) outcome) after
      → Finds l before (DeclaratorsAre place storage base (name ∷ names) outcome) after
  NoMoreDeclarators : {env : l.Environment} {storage : Storage} {base : NamedType} → Finds l env (DeclaredNamesAre storage base [] (Passes tt [])) env
  MoreDeclarators : {before middle after : l.Environment} {storage : Storage} {base : NamedType} {name : Declared} {names : List Declared} {handed : List Handed} {outcome : Outcome (Unit {0})}
      → Finds l before (DeclaredNameIs storage base name (Passes tt handed)) middle
      → Finds l middle (DeclaredNamesAre storage base names outcome) after
      → Finds l before (DeclaredNamesAre storage base (name ∷ names) (with_front handed outcome)) after
  DeclaratorRefused : {before after : l.Environment} {storage : Storage} {base : NamedType} {name : Declared} {names : List Declared} {first : Fault}
      → Finds l before (DeclaredNameIs storage base name (Refused first)) after
      → Finds l before (DeclaredNamesAre storage base (name ∷ names) (Refused first)) after
  -- the name of an object or of a typedef: its sizes, then what is found at it, then its initialiser, in which it is in scope (6.2.1p7)
  NameWithSizesRefused : {before after : l.Environment} {storage : Storage} {base : NamedType} {name : Declared} {parts : DeclaratorParts} {first : Fault}
      → out-Declared name ≡ parts
      → parts.params ≡ None
      → Finds l before (DeclaredSizesAre (is_fixed_size storage) parts.sizes (Refused first)) after
      → Finds l before (DeclaredNameIs storage base name (Refused first)) after
  NameBroken : {before after : l.Environment} {storage : Storage} {base : NamedType} {name : Declared} {parts : DeclaratorParts} {counts : List Size} {faults : List Fault} {handed : List Handed} {first : Fault} (again : Bool)
      → out-Declared name ≡ parts
      → parts.params ≡ None
      → Finds l before (DeclaredSizesAre (is_fixed_size storage) parts.sizes (Passes counts handed)) after
      → IsAgain (l.name_here parts.name after) (l.linked parts.name after) (given storage (given_type base parts.stars counts)) again
      → faults_of_name l.abi (l.structs after) parts base counts (given storage (given_type base parts.stars counts)) again ≡ faults
      → IsFirst faults first
      → Finds l before (DeclaredNameIs storage base name (Refused first)) after
  NameGiven : {before middle after : l.Environment} {storage : Storage} {base : NamedType} {name : Declared} {parts : DeclaratorParts} {counts : List Size} {handed : List Handed} {outcome : Outcome (Unit {0})} (again : Bool)
      → out-Declared name ≡ parts
      → parts.params ≡ None
      → Finds l before (DeclaredSizesAre (is_fixed_size storage) parts.sizes (Passes counts handed)) middle
      → IsAgain (l.name_here parts.name middle) (l.linked parts.name middle) (given storage (given_type base parts.stars counts)) again
      → faults_of_name l.abi (l.structs middle) parts base counts (given storage (given_type base parts.stars counts)) again ≡ []
      → Finds l (name_declared l parts.name parts.place.at (given storage (given_type base parts.stars counts)) middle)
      (InitialisedIs (name_of parts) (given storage (given_type base parts.stars counts)) parts.init outcome) after
      → Finds l before (DeclaredNameIs storage base name (with_front handed outcome)) after
  -- its sizes: those of a static object and of what has linkage are integer constant expressions, as those of members, else it is rule 9 at them
  -- (6.7.6.2p2)
  FixedSizes : {before after : l.Environment} {sizes : List (Option Expr)} {outcome : Outcome (List Size)}
      → Finds l before (MemberSizesAre sizes outcome) after
      → Finds l before (DeclaredSizesAre true sizes outcome) after
  AnySizes : {before after : l.Environment} {sizes : List (Option Expr)} {outcome : Outcome (List Size)}
      → Finds l before (SizesAre sizes outcome) after
      → Finds l before (DeclaredSizesAre false sizes outcome) after
  -- the name of a function (6.7.6.3): its parameters, in a scope of their own (6.2.1p4), then what is found at it. The grammar reads no sizes and no
  -- initialiser beside them
  ParametersRefused : {before after : l.Environment} {storage : Storage} {base : NamedType} {name : Declared} {parts : DeclaratorParts} {params : List Param} {first : Fault}
      → out-Declared name ≡ parts
      → parts.params ≡ Some params
      → Finds l (l.entered before) (ParametersAre params (Refused first)) after
      → Finds l before (DeclaredNameIs storage base name (Refused first)) (l.left after)
  FunctionBroken : {before after : l.Environment} {storage : Storage} {base : NamedType} {name : Declared} {parts : DeclaratorParts} {params : List Param} {told : List Parameter} {faults : List Fault} {handed : List Handed} {first : Fault} (again : Bool)
      → out-Declared name ≡ parts
      → parts.params ≡ Some params
      → Finds l (l.entered before) (ParametersAre params (Passes told handed)) after
      → IsAgain (l.name_here parts.name (l.left after)) (l.linked parts.name (l.left after)) (LinkedGiven (function_given parts base told)) again
      → faults_of_function (l.structs (l.left after)) storage parts base told again ≡ faults
      → IsFirst faults first
      → Finds l before (DeclaredNameIs storage base name (Refused first)) (l.left after)
  FunctionGiven : {before after : l.Environment} {storage : Storage} {base : NamedType} {name : Declared} {parts : DeclaratorParts} {params : List Param} {told : List Parameter} {handed : List Handed} (again : Bool)
      → out-Declared name ≡ parts
      → parts.params ≡ Some params
      → Finds l (l.entered before) (ParametersAre params (Passes told handed)) after
      → IsAgain (l.name_here parts.name (l.left after)) (l.linked parts.name (l.left after)) (LinkedGiven (function_given parts base told)) again
      → faults_of_function (l.structs (l.left after)) storage parts base told again ≡ []
      → Finds l before (DeclaredNameIs storage base name (Passes tt handed))
      (name_declared l parts.name parts.place.at (LinkedGiven (function_given parts base told)) (l.left after))
  -- its parameters, one behind the other, each in scope in those behind it
  NoParameters : {env : l.Environment} → Finds l env (ParametersAre [] (Passes [] [])) env
  MoreParameters : {before middle after : l.Environment} {param : Param} {params : List Param} {told : Parameter} {handed : List Handed} {outcome : Outcome (List Parameter)}
      → Finds l before (ParameterIs param (Passes told handed)) middle
      → Finds l middle (ParametersAre params outcome) after
      → Finds l before (ParametersAre (param ∷ params) (with_parameter told handed outcome)) after
  ParameterRefused : {before after : l.Environment} {param : Param} {params : List Param} {first : Fault}
      → Finds l before (ParameterIs param (Refused first)) after
      → Finds l before (ParametersAre (param ∷ params) (Refused first)) after
  ParameterFound : {before middle after : l.Environment} {param : Param} {parts : ParameterParts} {words : Words} {base : NamedType} {counts : List Size} {told : Parameter} {handed further : List Handed}
      → out-Param param ≡ parts
      → out-TypeSpec parts.spec ≡ words
      → Finds l before (WordsAre words (Passes base handed)) middle
      → Finds l middle (SizesAre parts.sizes (Passes counts further)) after
      → parameter l.abi (l.structs after) base parts counts (is_named_here l parts.name after) ≡ told
      → Finds l before (ParameterIs param (Passes told (handed ++ further))) (parameter_declared l parts.name told.ctype after)
  ParameterWordsRefused : {before after : l.Environment} {param : Param} {parts : ParameterParts} {words : Words} {first : Fault}
      → out-Param param ≡ parts
      → out-TypeSpec parts.spec ≡ words
      → Finds l before (WordsAre words (Refused first)) after
      → Finds l before (ParameterIs param (Refused first)) after
  ParameterSizesRefused : {before middle after : l.Environment} {param : Param} {parts : ParameterParts} {words : Words} {base : NamedType} {handed : List Handed} {first : Fault}
      → out-Param param ≡ parts
      → out-TypeSpec parts.spec ≡ words
      → Finds l before (WordsAre words (Passes base handed)) middle
      → Finds l middle (SizesAre parts.sizes (Refused first)) after
      → Finds l before (ParameterIs param (Refused first)) after
  -- what stands behind a name: no initialiser
  NotInitialised : {env : l.Environment} {name : Identifier} {gives : Given}
      → Finds l env (InitialisedIs name gives None (Passes tt (object_row name.place gives false))) env
  -- that of an object of a whole type (6.7.9)
  ObjectInitialised : {before after : l.Environment} {name : Identifier} {fixed : Bool} {t : CType} {init : Init} {form : Initialiser} {found : Outcome (Unit {0})}
      → out-Init init ≡ form
      → Finds l before (InitialiserIs (record { place = name.place; fixed = fixed }) (record { ctype = t; offset = 0; braces = true }) init found) after
      → Finds l before (InitialisedIs name (ObjectGiven fixed (WholeType t)) (Some init) (initialised name.place (ObjectGiven fixed (WholeType t)) (in_braces form) found)) after
  -- that of an array whose size is left out, which has as many items as there are parts, behind them (6.7.9p22)
  ArrayInitialised : {before after : l.Environment} {name : Identifier} {fixed : Bool} {item : CType} {init : Init} {parts : List InitPart} {handed : List Handed}
      → out-Init init ≡ Braces parts
      → Finds l before (InitialiserIs (record { place = name.place; fixed = fixed }) (record { ctype = ArrayType item (length parts); offset = 0; braces = true }) init (Passes tt handed)) after
      → told_faults l.abi (l.structs after) name.place item (length parts) ≡ []
      → Finds l before (InitialisedIs name (ObjectGiven fixed (ItemsOf item)) (Some init)
      (initialised name.place (ObjectGiven fixed (told_type item (length parts))) true (Passes tt handed)))
      (name_declared l name.name name.place.at (ObjectGiven fixed (told_type item (length parts))) after)
  ArrayOfWrongSize : {before after : l.Environment} {name : Identifier} {fixed : Bool} {item : CType} {init : Init} {parts : List InitPart} {handed : List Handed} {faults : List Fault} {first : Fault}
      → out-Init init ≡ Braces parts
      → Finds l before (InitialiserIs (record { place = name.place; fixed = fixed }) (record { ctype = ArrayType item (length parts); offset = 0; braces = true }) init (Passes tt handed)) after
      → told_faults l.abi (l.structs after) name.place item (length parts) ≡ faults
      → IsFirst faults first
      → Finds l before (InitialisedIs name (ObjectGiven fixed (ItemsOf item)) (Some init) (Refused first)) after
  ArrayPartsRefused : {before after : l.Environment} {name : Identifier} {fixed : Bool} {item : CType} {init : Init} {parts : List InitPart} {first : Fault}
      → out-Init init ≡ Braces parts
      → Finds l before (InitialiserIs (record { place = name.place; fixed = fixed }) (record { ctype = ArrayType item (length parts); offset = 0; braces = true }) init (Refused first)) after
      → Finds l before (InitialisedIs name (ObjectGiven fixed (ItemsOf item)) (Some init) (Refused first)) after
  -- by an expression no array is initialised
  ArrayByValue : {before after : l.Environment} {name : Identifier} {fixed : Bool} {item : CType} {init : Init} {value : Expr} {behind_it : Place} {outcome : Outcome (Unit {0})}
      → out-Init init ≡ Value value behind_it
      → Finds l before (SurplusIs name.place init outcome) after
      → Finds l before (InitialisedIs name (ObjectGiven fixed (ItemsOf item)) (Some init) outcome) after
  -- nor is, in a block, what has linkage, or a typedef (6.7.9p5, 6.7.8)
  LinkedInitialised : {before after : l.Environment} {name : Identifier} {linked : Linked} {init : Init} {outcome : Outcome (Unit {0})}
      → Finds l before (SurplusIs name.place init outcome) after
      → Finds l before (InitialisedIs name (LinkedGiven linked) (Some init) outcome) after
  TypeInitialised : {before after : l.Environment} {name : Identifier} {t : DeclaredType} {init : Init} {outcome : Outcome (Unit {0})}
      → Finds l before (SurplusIs name.place init outcome) after
      → Finds l before (InitialisedIs name (TypeGiven t) (Some init) outcome) after
  -- an initialiser: a value, which is stored whole (6.7.9p11, p13)
  ValueStored : {before after : l.Environment} {subject : Subject} {slot : Slot} {init : Init} {value : Expr} {behind_it : Place} {found : Outcome (Unit {0})}
      → out-Init init ≡ Value value behind_it
      → Finds l before (ValueUsed (Stored subject.fixed slot.ctype) value found) after
      → Finds l before (InitialiserIs subject slot init (stored subject slot value.number found)) after
  -- braces, where they may stand (6.7.9p16), and too many of them
  BracesFill : {before after : l.Environment} {subject : Subject} {slot : Slot} {init : Init} {parts : List InitPart} {filled : Filled} {outcome : Outcome (Unit {0})}
      → out-Init init ≡ Braces parts
      → filled_of l.abi (l.structs before) slot ≡ Some filled
      → Finds l before (PartsFill subject filled 0 parts outcome) after
      → Finds l before (InitialiserIs subject slot init outcome) after
  BracesTooMany : {before after : l.Environment} {subject : Subject} {slot : Slot} {init : Init} {parts : List InitPart} {found : Outcome (Unit {0})}
      → out-Init init ≡ Braces parts
      → filled_of l.abi (l.structs before) slot ≡ None
      → Finds l before (SurplusAre subject.place parts found) after
      → Finds l before (InitialiserIs subject slot init found) after
  -- the parts in braces (6.7.9p17 to p19): each sets what follows the one before, or the member that its designator names
  NoMoreParts : {env : l.Environment} {subject : Subject} {filled : Filled} {index : ℕ}
      → Finds l env (PartsFill subject filled index [] (ended subject.place filled index)) env
  PartSets : {before middle after : l.Environment} {subject : Subject} {filled : Filled} {index at : ℕ} {part : InitPart} {parts : List InitPart} {this : PartOfInitialiser} {slot : Slot} {handed : List Handed} {outcome : Outcome (Unit {0})}
      → out-InitPart part ≡ this
      → next_in l.abi (l.structs before) filled index this.member ≡ Sets at slot
      → Finds l before (InitialiserIs subject slot this.init (Passes tt handed)) middle
      → Finds l middle (PartsFill subject filled (suc at) parts outcome) after
      → Finds l before (PartsFill subject filled index (part ∷ parts) (with_front handed outcome)) after
  PartRefused : {before after : l.Environment} {subject : Subject} {filled : Filled} {index at : ℕ} {part : InitPart} {parts : List InitPart} {this : PartOfInitialiser} {slot : Slot} {first : Fault}
      → out-InitPart part ≡ this
      → next_in l.abi (l.structs before) filled index this.member ≡ Sets at slot
      → Finds l before (InitialiserIs subject slot this.init (Refused first)) after
      → Finds l before (PartsFill subject filled index (part ∷ parts) (Refused first)) after
  -- a designator that names no member is rule 6 at its name (6.7.9p7)
  NoMemberToSet : {env : l.Environment} {subject : Subject} {filled : Filled} {index : ℕ} {part : InitPart} {parts : List InitPart} {this : PartOfInitialiser} {place : Place}
      → out-InitPart part ≡ this
      → next_in l.abi (l.structs env) filled index this.member ≡ NoMember place
      → Finds l env (PartsFill subject filled index (part ∷ parts) (Refused (fault place (Rule 6)))) env
  -- a part too many (6.7.9p2)
  NothingToSet : {before after : l.Environment} {subject : Subject} {filled : Filled} {index : ℕ} {part : InitPart} {parts : List InitPart} {this : PartOfInitialiser} {found : Outcome (Unit {0})}
      → out-InitPart part ≡ this
      → next_in l.abi (l.structs before) filled index this.member ≡ Full
      → Finds l before (SurplusAre subject.place (part ∷ parts) found) after
      → Finds l before (PartsFill subject filled index (part ∷ parts) found) after
  -- what stands where there is no place for it is rule 5 at its first expression, which is walked before, and where it has none at the declared
  -- name. Of a designator in front of it nothing is asked
  SurplusValue : {before after : l.Environment} {place : Place} {init : Init} {value : Expr} {behind_it : Place} {outcome : Outcome (Unit {0})}
      → out-Init init ≡ Value value behind_it
      → Finds l before (ValueUsed Surplus value outcome) after
      → Finds l before (SurplusIs place init outcome) after
  SurplusBraces : {before after : l.Environment} {place : Place} {init : Init} {parts : List InitPart} {outcome : Outcome (Unit {0})}
      → out-Init init ≡ Braces parts
      → Finds l before (SurplusAre place parts outcome) after
      → Finds l before (SurplusIs place init outcome) after
  NoSurplusValue : {env : l.Environment} {place : Place} → Finds l env (SurplusAre place [] (Refused (fault place (Rule 5)))) env
  SurplusPart : {before after : l.Environment} {place : Place} {part : InitPart} {parts : List InitPart} {this : PartOfInitialiser} {outcome : Outcome (Unit {0})}
      → out-InitPart part ≡ this
      → Finds l before (SurplusIs place this.init outcome) after
      → Finds l before (SurplusAre place (part ∷ parts) outcome) after
  -- the words of a type (6.7.2)
  BasicSpecifier : {env : l.Environment} {basic : BasicType}
      → Finds l env (WordsAre (Basic basic) (Passes (whole (basic_type l.abi basic)) [])) env
  -- a name, of a type or of none
  TypedefSpecifier : {env : l.Environment} {name : List ℕ}
      → Finds l env (WordsAre (Named name) (Passes (typedef_of (l.entity name env)) [])) env
  -- a tag that is visible, one that is not and is declared here, one of another kind (6.7.2.3p2, p8, p9). Structs have their numbers in the
  -- order in which they are declared
  StructSpecifier : {env : l.Environment} {number : ℕ} {name : Identifier}
      → l.tag name.name env ≡ Some (StructTag number)
      → Finds l env (WordsAre (Struct (Some name) None) (Passes (whole (StructType number)) [])) env
  StructDeclared : {env : l.Environment} {name : Identifier}
      → l.tag name.name env ≡ None
      → Finds l env (WordsAre (Struct (Some name) None) (Passes (whole (StructType (length (l.structs env)))) [])) (l.struct_declared name.name env)
  StructIsEnum : {env : l.Environment} {name : Identifier}
      → l.tag name.name env ≡ Some EnumTag
      → Finds l env (WordsAre (Struct (Some name) None) (Refused (fault name.place (Rule 2)))) env
  EnumSpecifier : {env : l.Environment} {name : Identifier}
      → l.tag name.name env ≡ Some EnumTag
      → Finds l env (WordsAre (Enum (Some name) None) (Passes (whole int_type) [])) env
  EnumDeclared : {env : l.Environment} {name : Identifier}
      → l.tag name.name env ≡ None
      → Finds l env (WordsAre (Enum (Some name) None) (Passes (whole int_type) [])) (l.enum_declared name.name env)
  EnumIsStruct : {env : l.Environment} {number : ℕ} {name : Identifier}
      → l.tag name.name env ≡ Some (StructTag number)
      → Finds l env (WordsAre (Enum (Some name) None) (Refused (fault name.place (Rule 2)))) env
  -- neither a tag nor braces name no type; the grammar reads none
  StructOfNothing : {env : l.Environment} → Finds l env (WordsAre (Struct None None) (Passes no_type [])) env
  EnumOfNothing : {env : l.Environment} → Finds l env (WordsAre (Enum None None) (Passes no_type [])) env
  -- a struct with its members (6.7.2.1): its tag decides first. It is complete behind its `}`; a tag that stands in this scope for an enum, or for a struct
  -- whose members are listed, is rule 2, also inside the braces of that struct (6.7.2.3p1)
  StructWithMembers : {before inside middle : l.Environment} {number : ℕ} {members : List Field} {handed : List Handed} {name : Option Identifier} {fields : List FieldDecl}
      → struct_opening l name before ≡ Opens (number, inside)
      → Finds l inside (MembersAre [] fields (Passes members handed)) middle
      → Finds l before (WordsAre (Struct name (Some fields)) (Passes (whole (StructType number)) handed)) (l.struct_completed number members middle)
  MembersRefused : {before inside after : l.Environment} {number : ℕ} {first : Fault} {name : Option Identifier} {fields : List FieldDecl}
      → struct_opening l name before ≡ Opens (number, inside)
      → Finds l inside (MembersAre [] fields (Refused first)) after
      → Finds l before (WordsAre (Struct name (Some fields)) (Refused first)) after
  StructTwice : {env : l.Environment} {first : Fault} {name : Option Identifier} {fields : List FieldDecl}
      → struct_opening l name env ≡ IsTwice first
      → Finds l env (WordsAre (Struct name (Some fields)) (Refused first)) env
  -- an enum with its constants (6.7.2.2), by its tag in the same way
  EnumWithConstants : {before inside after : l.Environment} {outcome : Outcome NamedType} {name : Option Identifier} {values : List Enumerator}
      → enum_opening l name before ≡ Opens inside
      → Finds l inside (EnumeratorsAre (Some 0) values outcome) after
      → Finds l before (WordsAre (Enum name (Some values)) outcome) after
  EnumTwice : {env : l.Environment} {first : Fault} {name : Option Identifier} {values : List Enumerator}
      → enum_opening l name env ≡ IsTwice first
      → Finds l env (WordsAre (Enum name (Some values)) (Refused first)) env
  -- `typeof` of an expression, in which an array stays one, and of a type; C11 has none
  TypeofExpression : {before after : l.Environment} {expr : Expr} {known : Known} {handed : List Handed}
      → Finds l before (PieceIs (Unloaded expr) (Passes (OperandIs known) handed)) after
      → Finds l before (WordsAre (OfExpr expr) (Passes (whole known.ctype) handed)) after
  TypeofRefused : {before after : l.Environment} {expr : Expr} {first : Fault}
      → Finds l before (PieceIs (Unloaded expr) (Refused first)) after
      → Finds l before (WordsAre (OfExpr expr) (Refused first)) after
  TypeofType : {before after : l.Environment} {to : TypeName} {outcome : Outcome NamedType}
      → Finds l before (NameOfTypeIs to outcome) after
      → Finds l before (WordsAre (OfType to) outcome) after
  -- the sizes behind a type, the outermost first (6.7.6.2)
  NoSizes : {env : l.Environment} → Finds l env (SizesAre [] (Passes [] [])) env
  SizeLeftOut : {before after : l.Environment} {sizes : List (Option Expr)} {others : List Size} {handed : List Handed}
      → Finds l before (SizesAre sizes (Passes others handed)) after
      → Finds l before (SizesAre (None ∷ sizes) (Passes (LeftOut ∷ others) handed)) after
  SizeLeftOutRefused : {before after : l.Environment} {sizes : List (Option Expr)} {first : Fault}
      → Finds l before (SizesAre sizes (Refused first)) after
      → Finds l before (SizesAre (None ∷ sizes) (Refused first)) after
  MoreSizes : {before middle after : l.Environment} {expr : Expr} {sizes : List (Option Expr)} {size : Size} {others : List Size} {handed further : List Handed}
      → Finds l before (PieceIs (SizeOfArray expr) (Passes (SizeIs size) handed)) middle
      → Finds l middle (SizesAre sizes (Passes others further)) after
      → Finds l before (SizesAre (Some expr ∷ sizes) (Passes (size ∷ others) (handed ++ further))) after
  SizesRefusedHere : {before after : l.Environment} {expr : Expr} {sizes : List (Option Expr)} {first : Fault}
      → Finds l before (PieceIs (SizeOfArray expr) (Refused first)) after
      → Finds l before (SizesAre (Some expr ∷ sizes) (Refused first)) after
  SizesRefusedBehind : {before middle after : l.Environment} {expr : Expr} {sizes : List (Option Expr)} {size : Size} {handed : List Handed} {first : Fault}
      → Finds l before (PieceIs (SizeOfArray expr) (Passes (SizeIs size) handed)) middle
      → Finds l middle (SizesAre sizes (Refused first)) after
      → Finds l before (SizesAre (Some expr ∷ sizes) (Refused first)) after
  -- a type name (6.7.7): words, stars, sizes
  TypeNamed : {before middle after : l.Environment} {to : TypeName} {name : NameParts} {words : Words} {base : NamedType} {counts : List Size} {large : Bool} {handed further : List Handed}
      → out-TypeName to ≡ name
      → out-TypeSpec name.spec ≡ words
      → Finds l before (WordsAre words (Passes base handed)) middle
      → Finds l middle (SizesAre name.sizes (Passes counts further)) after
      → is_large l.abi (l.structs after) (declared_type base name.stars counts) ≡ large
      → Finds l before (NameOfTypeIs to (Passes (declared base name.stars counts large) (handed ++ further))) after
  WordsRefused : {before after : l.Environment} {to : TypeName} {name : NameParts} {words : Words} {first : Fault}
      → out-TypeName to ≡ name
      → out-TypeSpec name.spec ≡ words
      → Finds l before (WordsAre words (Refused first)) after
      → Finds l before (NameOfTypeIs to (Refused first)) after
  SizesRefused : {before middle after : l.Environment} {to : TypeName} {name : NameParts} {words : Words} {base : NamedType} {handed : List Handed} {first : Fault}
      → out-TypeName to ≡ name
      → out-TypeSpec name.spec ≡ words
      → Finds l before (WordsAre words (Passes base handed)) middle
      → Finds l middle (SizesAre name.sizes (Refused first)) after
      → Finds l before (NameOfTypeIs to (Refused first)) after
  -- the declarations of a struct's members, one behind the other
  NoDeclarations : {env : l.Environment} {members : List Field} → Finds l env (MembersAre members [] (Passes members [])) env
  MoreDeclarations : {before middle after : l.Environment} {members more : List Field} {field : FieldDecl} {fields : List FieldDecl} {handed : List Handed} {outcome : Outcome (List Field)}
      → Finds l before (DeclarationIs members field (Passes more handed)) middle
      → Finds l middle (MembersAre more fields outcome) after
      → Finds l before (MembersAre members (field ∷ fields) (with_front handed outcome)) after
  DeclarationRefused : {before after : l.Environment} {members : List Field} {field : FieldDecl} {fields : List FieldDecl} {first : Fault}
      → Finds l before (DeclarationIs members field (Refused first)) after
      → Finds l before (MembersAre members (field ∷ fields) (Refused first)) after
  -- one of them: its words, and its names
  MembersDeclared : {before middle after : l.Environment} {members : List Field} {field : FieldDecl} {parts : DeclarationParts} {words : Words} {base : NamedType} {handed : List Handed} {outcome : Outcome (List Field)}
      → out-FieldDecl field ≡ parts
      → out-TypeSpec parts.spec ≡ words
      → Finds l before (WordsAre words (Passes base handed)) middle
      → Finds l middle (NamesAre base members parts.names outcome) after
      → Finds l before (DeclarationIs members field (with_front handed outcome)) after
  MemberWordsRefused : {before after : l.Environment} {members : List Field} {field : FieldDecl} {parts : DeclarationParts} {words : Words} {first : Fault}
      → out-FieldDecl field ≡ parts
      → out-TypeSpec parts.spec ≡ words
      → Finds l before (WordsAre words (Refused first)) after
      → Finds l before (DeclarationIs members field (Refused first)) after
  -- its names, one behind the other
  NoNames : {env : l.Environment} {base : NamedType} {members : List Field} → Finds l env (NamesAre base members [] (Passes members [])) env
  MoreNames : {before middle after : l.Environment} {base : NamedType} {members more : List Field} {name : FieldName} {names : List FieldName} {handed : List Handed} {outcome : Outcome (List Field)}
      → Finds l before (MemberIs base members name (Passes more handed)) middle
      → Finds l middle (NamesAre base more names outcome) after
      → Finds l before (NamesAre base members (name ∷ names) (with_front handed outcome)) after
  NameRefused : {before after : l.Environment} {base : NamedType} {members : List Field} {name : FieldName} {names : List FieldName} {first : Fault}
      → Finds l before (MemberIs base members name (Refused first)) after
      → Finds l before (NamesAre base members (name ∷ names) (Refused first)) after
  -- one member: its sizes, its width, and what is found at its name behind them
  MemberFound : {before middle after : l.Environment} {base named : NamedType} {members : List Field} {name : FieldName} {parts : MemberParts} {counts : List Size} {faults : List Fault} {handed further : List Handed} {outcome : Outcome (List Field)}
      → out-FieldName name ≡ parts
      → Finds l before (MemberSizesAre parts.sizes (Passes counts handed)) middle
      → Finds l middle (WidthIs parts.bits (Passes tt further)) after
      → member_type l.abi (l.structs after) base parts counts ≡ named
      → faults_of_member l.abi (l.structs after) members parts named ≡ faults
      → IsSettled faults (members ++ member parts.name named.ctype ∷ []) (handed ++ further) outcome
      → Finds l before (MemberIs base members name outcome) after
  MemberSizesRefused : {before after : l.Environment} {base : NamedType} {members : List Field} {name : FieldName} {parts : MemberParts} {first : Fault}
      → out-FieldName name ≡ parts
      → Finds l before (MemberSizesAre parts.sizes (Refused first)) after
      → Finds l before (MemberIs base members name (Refused first)) after
  MemberWidthRefused : {before middle after : l.Environment} {base : NamedType} {members : List Field} {name : FieldName} {parts : MemberParts} {counts : List Size} {handed : List Handed} {first : Fault}
      → out-FieldName name ≡ parts
      → Finds l before (MemberSizesAre parts.sizes (Passes counts handed)) middle
      → Finds l middle (WidthIs parts.bits (Refused first)) after
      → Finds l before (MemberIs base members name (Refused first)) after
  -- its sizes, the outermost first
  NoMemberSizes : {env : l.Environment} → Finds l env (MemberSizesAre [] (Passes [] [])) env
  MoreMemberSizes : {before middle after : l.Environment} {given : Option Expr} {sizes : List (Option Expr)} {size : Size} {others : List Size} {handed further : List Handed}
      → Finds l before (MemberSizeIs given (Passes size handed)) middle
      → Finds l middle (MemberSizesAre sizes (Passes others further)) after
      → Finds l before (MemberSizesAre (given ∷ sizes) (Passes (size ∷ others) (handed ++ further))) after
  MemberSizeRefusedHere : {before after : l.Environment} {given : Option Expr} {sizes : List (Option Expr)} {first : Fault}
      → Finds l before (MemberSizeIs given (Refused first)) after
      → Finds l before (MemberSizesAre (given ∷ sizes) (Refused first)) after
  MemberSizeRefusedBehind : {before middle after : l.Environment} {given : Option Expr} {sizes : List (Option Expr)} {size : Size} {handed : List Handed} {first : Fault}
      → Finds l before (MemberSizeIs given (Passes size handed)) middle
      → Finds l middle (MemberSizesAre sizes (Refused first)) after
      → Finds l before (MemberSizesAre (given ∷ sizes) (Refused first)) after
  -- one that is no integer constant expression, or is under 1, is rule 9 at it (6.7.2.1p9, 6.7.6.2p1)
  MemberSizeLeftOut : {env : l.Environment} → Finds l env (MemberSizeIs None (Passes LeftOut [])) env
  MemberSizeGiven : {before after : l.Environment} {expr : Expr} {size : Size} {handed : List Handed}
      → Finds l before (PieceIs (SizeOfArray expr) (Passes (SizeIs size) handed)) after
      → Finds l before (MemberSizeIs (Some expr) (fixed_size expr.place size handed)) after
  MemberSizeRefused : {before after : l.Environment} {expr : Expr} {first : Fault}
      → Finds l before (PieceIs (SizeOfArray expr) (Refused first)) after
      → Finds l before (MemberSizeIs (Some expr) (Refused first)) after
  -- how many bits it has, of which nothing is asked: it is construct 21 at the name
  NoWidth : {env : l.Environment} → Finds l env (WidthIs None (Passes tt [])) env
  WidthGiven : {before after : l.Environment} {expr : Expr} {found : Outcome Told}
      → Finds l before (PieceIs (Loaded expr) found) after
      → Finds l before (WidthIs (Some expr) (width_found found)) after
  -- the constants of an enum, each in scope behind its value (6.2.1p7): a name that is declared in this scope is rule 2 at it, also where that
  -- stands in its own value
  NoEnumerators : {env : l.Environment} {next : Option ℕ} → Finds l env (EnumeratorsAre next [] (Passes (whole int_type) [])) env
  EnumeratorTwice : {env : l.Environment} {next : Option ℕ} {constant : Enumerator} {parts : EnumeratorParts} {constants : List Enumerator}
      → out-Enumerator constant ≡ parts
      → l.is_declared_here parts.name env ≡ true
      → Finds l env (EnumeratorsAre next (constant ∷ constants) (Refused (fault parts.place (Rule 2)))) env
  EnumeratorRefused : {before after : l.Environment} {next : Option ℕ} {constant : Enumerator} {parts : EnumeratorParts} {constants : List Enumerator} {first : Fault}
      → out-Enumerator constant ≡ parts
      → l.is_declared_here parts.name before ≡ false
      → Finds l before (ValueOfEnumerator parts.place next parts.value (Refused first)) after
      → Finds l before (EnumeratorsAre next (constant ∷ constants) (Refused first)) after
  EnumeratorTwiceInside : {before after : l.Environment} {next : Option ℕ} {constant : Enumerator} {parts : EnumeratorParts} {constants : List Enumerator} {bits : ℕ} {handed : List Handed}
      → out-Enumerator constant ≡ parts
      → l.is_declared_here parts.name before ≡ false
      → Finds l before (ValueOfEnumerator parts.place next parts.value (Passes bits handed)) after
      → l.is_declared_here parts.name after ≡ true
      → Finds l before (EnumeratorsAre next (constant ∷ constants) (Refused (fault parts.place (Rule 2)))) after
  MoreEnumerators : {before middle after : l.Environment} {next : Option ℕ} {constant : Enumerator} {parts : EnumeratorParts} {constants : List Enumerator} {bits : ℕ} {handed : List Handed} {outcome : Outcome NamedType}
      → out-Enumerator constant ≡ parts
      → l.is_declared_here parts.name before ≡ false
      → Finds l before (ValueOfEnumerator parts.place next parts.value (Passes bits handed)) middle
      → l.is_declared_here parts.name middle ≡ false
      → Finds l (l.constant_declared parts.name bits middle) (EnumeratorsAre (next_value bits) constants outcome) after
      → Finds l before (EnumeratorsAre next (constant ∷ constants) (with_front handed outcome)) after
  -- the value of one: where none is given, one more than that before it, if an int has that (6.7.2.2p2, p3)
  NextValue : {env : l.Environment} {place : Place} {bits : ℕ} → Finds l env (ValueOfEnumerator place (Some bits) None (Passes bits [])) env
  NoNextValue : {env : l.Environment} {place : Place} → Finds l env (ValueOfEnumerator place None None (Refused (fault place (Rule 9)))) env
  -- one that is given is an integer constant expression whose value an int has, or rule 9 at it
  GivenValue : {before after : l.Environment} {place : Place} {next : Option ℕ} {expr : Expr} {known : Known} {given : Operand} {bits : ℕ} {handed : List Handed}
      → Finds l before (PieceIs (Loaded expr) (Passes (OperandIs known) handed)) after
      → operand (l.structs after) known ≡ given
      → int_value given.kind known.value ≡ Some bits
      → Finds l before (ValueOfEnumerator place next (Some expr) (Passes bits handed)) after
  GivenNoInt : {before after : l.Environment} {place : Place} {next : Option ℕ} {expr : Expr} {known : Known} {given : Operand} {handed : List Handed}
      → Finds l before (PieceIs (Loaded expr) (Passes (OperandIs known) handed)) after
      → operand (l.structs after) known ≡ given
      → int_value given.kind known.value ≡ None
      → Finds l before (ValueOfEnumerator place next (Some expr) (Refused (fault expr.place (Rule 9)))) after
  GivenRefused : {before after : l.Environment} {place : Place} {next : Option ℕ} {expr : Expr} {first : Fault}
      → Finds l before (PieceIs (Loaded expr) (Refused first)) after
      → Finds l before (ValueOfEnumerator place next (Some expr) (Refused first)) after
