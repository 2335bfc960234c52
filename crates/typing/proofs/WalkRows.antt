-- An expression has one outcome in an environment, and so has each part of the walk.
--
-- Of each part but those of braces a lemma says what a derivation of it holds: what is found of the parts below, and what is made of that. So a derivation is compared
-- with any other one of the same part.
use Rattle.std.proofs.Common.{◌≡◌, ℕ, Bool, true, false, List, [], ◌∷◌, ◌++◌, Option, Some, None, refl, sym, ap, ◌∙◌, subst}
use Rattle.std.specs.Prelude.{◌&&◌, is_some, length, option_and_then, if◌then◌else◌}
use Rattle.cbase.specs.declared.ctype.CType.{CType}
use Rattle.cbase.specs.declared.ctype.CType.TheVariants.{Void as VoidType, Struct as StructType}
use Rattle.cbase.specs.declared.structs.StructDef.{StructDef}
use Rattle.cbase.specs.declared.tree.decl.TypeName.{TypeName}
use Rattle.cbase.specs.declared.tree.expr.Expr.{Expr}
use Rattle.cbase.specs.declared.tree.expr.ExprForm.TheOpen.{Basic, Named, Struct, Enum, OfExpr, OfType as OfTypeWords}
use Rattle.cbase.specs.declared.tree.expr.ExprForm.TheViews.{out-ExprForm, out-StmtForm, out-TypeName, out-TypeSpec}
use Rattle.cbase.specs.declared.tree.identifier.Identifier.{Identifier}
use Rattle.cbase.specs.declared.tree.spec.BasicType.{BasicType}
use Rattle.cbase.specs.declared.tree.stmt.Stmt.{Stmt}
use Rattle.typing.specs.declared.ctypes.found.Broken.TheVariants.{Rule}
use Rattle.typing.specs.ctypes.Binary.{int_type}
use Rattle.typing.specs.ctypes.Kinds.{Kind}
use Rattle.typing.specs.ctypes.Operands.{Operand}
use Rattle.typing.specs.Calls.{is_struct}
use Rattle.typing.specs.declared.size.Size.{Size}
use Rattle.typing.specs.declared.size.Size.TheVariants.{LeftOut}
use Rattle.typing.specs.Entities.{FunctionEntity, FunctionIs, Tag, StructTag, EnumTag}
use Rattle.typing.specs.Faults.{fault}
use Rattle.typing.specs.Forms.{Form, Words, NameParts, value_in}
use Rattle.typing.specs.Known.{Known, operand, can_load, value_type, behind}
use Rattle.typing.specs.Language.{Language}
use Rattle.typing.specs.NamedTypes.{NamedType, whole, basic_type, no_type, typedef_of, size_of, declared_type, declared, is_large}
use Rattle.typing.specs.Nodes.{function_faults, is_function, called_of, is_last_value}
use Rattle.typing.specs.Outcomes.{Outcome, Handed, Passes, Refused, IsSettled}
use Rattle.typing.specs.Pieces.{Piece, Loaded, Unloaded, Called, OfType, ConstantIndex, SizeOfArray, BlockOf, pieces_in}
use Rattle.typing.specs.Rules.{AtNode}
use Rattle.typing.specs.Told.{Told, OperandIs, FunctionNamed, NoFunction, TypeIs, IndexIs, SizeIs, ValueIs}
use Rattle.typing.specs.Typing.{ExpressionIs, PieceIs, PiecesAre, WordsAre, SizesAre, NameOfTypeIs, StatementsAre, StatementIs, named, Finds, RefusedInside, Walked, NoPieces, MorePieces, RefusedHere, RefusedBehind, LoadedValue, LoadOfIncomplete, LoadedRefused, UnloadedOperand, UnloadedRefused, CalledFunction, CalledOther, CalledRefused, TypeInside, TypeRefused, IndexOfPath, IndexNotConstant, IndexRefused, SizeOfItems, SizeUnderOne, SizeRefused, BlockInside, BlockRefused, NoStatements, LastExpression, LastStruct, LastRefused, MoreStatements, StatementRefused, StatementsRefused, BasicSpecifier, TypedefSpecifier, StructSpecifier, StructDeclared, StructIsEnum, EnumSpecifier, EnumDeclared, EnumIsStruct, StructOfNothing, EnumOfNothing, TypeofExpression, TypeofRefused, TypeofType, NoSizes, SizeLeftOut, SizeLeftOutRefused, MoreSizes, SizesRefusedHere, SizesRefusedBehind, TypeNamed, WordsRefused, SizesRefused}
use Rattle.typing.specs.values.Values.{word_of}
use Rattle.typing.proofs.OneRule.{one_rule}
use Rattle.typing.proofs.Sequences.{Same}

-- an expression: what is found of its parts, and of it
abbrev pub IsNode : (l : Language) → l.Environment → Expr → Outcome (List Told) → Outcome Known → Type 0
IsNode l after expr (Passes told handed) outcome = AtNode l after expr.number expr.place handed (out-ExprForm expr.form) told outcome
IsNode l after expr (Refused first) outcome = outcome ≡ Refused first

abbrev pub IsExpression : (l : Language) → l.Environment → Expr → Outcome Known → l.Environment → Type 0
IsExpression l before expr outcome after =
    (walked : Outcome (List Told)) × Finds l before (PiecesAre (pieces_in (out-ExprForm expr.form)) walked) after × IsNode l after expr walked outcome

pub expression_row : {l : Language} {before after : l.Environment} {expr : Expr} {outcome : Outcome Known}
    → Finds l before (ExpressionIs expr outcome) after → IsExpression l before expr outcome after
expression_row {l} {before} {after} (RefusedInside {first = first} e parts) =
    (Refused first, subst (λ (form : Form). Finds l before (PiecesAre (pieces_in form) (Refused first)) after) (sym e) parts, refl)
expression_row {l} {before} {after} (Walked {expr = expr} {told = told} {handed = handed} {outcome = outcome} e parts node) = (
  Passes told handed,
  subst (λ (form : Form). Finds l before (PiecesAre (pieces_in form) (Passes told handed)) after) (sym e) parts,
  subst (λ (form : Form). AtNode l after expr.number expr.place handed form told outcome) (sym e) node,
)

pub one_node : (l : Language) (after : l.Environment) (expr : Expr) (walked : Outcome (List Told)) (first second : Outcome Known)
    → IsNode l after expr walked first → IsNode l after expr walked second → first ≡ second
one_node l after expr (Passes told handed) first second a b = one_rule l after expr.number expr.place handed (out-ExprForm expr.form) told first second a b
one_node l after expr (Refused f) first second a b = a ∙ sym b

-- two expressions whose parts are found alike
pub nodes_alike : (l : Language) (expr : Expr) (after other : l.Environment) (walked further : Outcome (List Told)) (first second : Outcome Known)
    → IsNode l after expr walked first → IsNode l other expr further second → Same walked further after other → Same first second after other
nodes_alike l expr after other walked further first second a b same = (
  one_node l after expr walked first second a
      (subst (λ (w : Outcome (List Told)). IsNode l after expr w second) (sym same.0)
      (subst (λ (env : l.Environment). IsNode l env expr further second) (sym same.1) b)),
  same.1,
)

-- parts one behind the other
abbrev pub joined : Told → List Handed → Outcome (List Told) → Outcome (List Told)
joined told handed (Passes others further) = Passes (told ∷ others) (handed ++ further)
joined told handed (Refused first) = Refused first

abbrev pub IsRest : (l : Language) → l.Environment → Outcome Told → List Piece → Outcome (List Told) → l.Environment → Type 0
IsRest l middle (Passes told handed) pieces outcome after =
    (others : Outcome (List Told)) × Finds l middle (PiecesAre pieces others) after × (outcome ≡ joined told handed others)
IsRest l middle (Refused first) pieces outcome after = (outcome ≡ Refused first) × (middle ≡ after)

abbrev pub IsPieces : (l : Language) → l.Environment → Piece → List Piece → Outcome (List Told) → l.Environment → Type 0
IsPieces l before piece pieces outcome after =
    (first : Outcome Told) × (middle : l.Environment) × Finds l before (PieceIs piece first) middle × IsRest l middle first pieces outcome after

pub pieces_row : {l : Language} {before after : l.Environment} {piece : Piece} {pieces : List Piece} {outcome : Outcome (List Told)}
    → Finds l before (PiecesAre (piece ∷ pieces) outcome) after → IsPieces l before piece pieces outcome after
pieces_row {after = after} (MorePieces {middle = middle} {told = told} {others = others} {handed = handed} {further = further} first rest) = (Passes told handed, middle, first, (Passes others further, rest, refl))
pieces_row {after = after} (RefusedHere {first = broken} first) = (Refused broken, after, first, (refl, refl))
pieces_row {after = after} (RefusedBehind {middle = middle} {told = told} {handed = handed} {first = broken} first rest) = (Passes told handed, middle, first, (Refused broken, rest, refl))

pub none_row : {l : Language} {before after : l.Environment} {outcome : Outcome (List Told)}
    → Finds l before (PiecesAre [] outcome) after → (outcome ≡ Passes [] []) × (before ≡ after)
none_row NoPieces = (refl, refl)

pub rest_of : (l : Language) (middle other after : l.Environment) (first second : Outcome Told) (pieces : List Piece) (outcome : Outcome (List Told))
    → Same first second middle other → IsRest l other second pieces outcome after → IsRest l middle first pieces outcome after
rest_of l middle other after first second pieces outcome same rest =
    subst (λ (f : Outcome Told). IsRest l middle f pieces outcome after) (sym same.0)
    (subst (λ (env : l.Environment). IsRest l env second pieces outcome after) (sym same.1) rest)

-- a value that is taken
abbrev pub load_found : List StructDef → Expr → Outcome Known → Outcome Told
load_found structs expr (Passes known handed) = if can_load structs known then Passes (OperandIs known) handed else Refused (fault expr.place (Rule 3))
load_found structs expr (Refused first) = Refused first

abbrev pub if_loaded : Bool → Expr → Known → List Handed → Outcome Told
if_loaded sized expr known handed = if sized then Passes (OperandIs known) handed else Refused (fault expr.place (Rule 3))

abbrev pub IsLoad : (l : Language) → l.Environment → Expr → Outcome Told → l.Environment → Type 0
IsLoad l before expr outcome after = (inner : Outcome Known) × Finds l before (ExpressionIs expr inner) after × (outcome ≡ load_found (l.structs after) expr inner)

pub load_row : {l : Language} {before after : l.Environment} {expr : Expr} {outcome : Outcome Told}
    → Finds l before (PieceIs (Loaded expr) outcome) after → IsLoad l before expr outcome after
load_row (LoadedValue {expr = expr} {known = known} {handed = handed} found sized) = (Passes known handed, found, ap (λ (b : Bool). if_loaded b expr known handed) (sym sized))
load_row (LoadOfIncomplete {expr = expr} {known = known} {handed = handed} found sized) = (Passes known handed, found, ap (λ (b : Bool). if_loaded b expr known handed) (sym sized))
load_row (LoadedRefused {first = first} found) = (Refused first, found, refl)

-- an operand that is not loaded
abbrev pub unload_found : Outcome Known → Outcome Told
unload_found (Passes known handed) = Passes (OperandIs known) handed
unload_found (Refused first) = Refused first

abbrev pub IsUnload : (l : Language) → l.Environment → Expr → Outcome Told → l.Environment → Type 0
IsUnload l before expr outcome after = (inner : Outcome Known) × Finds l before (ExpressionIs expr inner) after × (outcome ≡ unload_found inner)

pub unload_row : {l : Language} {before after : l.Environment} {expr : Expr} {outcome : Outcome Told}
    → Finds l before (PieceIs (Unloaded expr) outcome) after → IsUnload l before expr outcome after
unload_row (UnloadedOperand {known = known} {handed = handed} found) = (Passes known handed, found, refl)
unload_row (UnloadedRefused {first = first} found) = (Refused first, found, refl)

-- what is called
abbrev pub called_found : Outcome Told → Outcome Told
called_found (Passes told handed) = Passes NoFunction handed
called_found (Refused first) = Refused first

abbrev pub names_function : (l : Language) → l.Environment → Expr → Bool
names_function l before callee = is_function (option_and_then (λ (name : List ℕ). l.entity name before) (named callee))

pub data IsCall (l : Language) (before : l.Environment) (callee : Expr) (outcome : Outcome Told) (after : l.Environment) : Type 0 where
  Direct : (name : List ℕ) (function : FunctionEntity) → named callee ≡ Some name → l.entity name before ≡ Some (FunctionIs function)
      → IsSettled (function_faults callee.place function) (FunctionNamed name function) (behind [] callee.number (called_of function)) outcome
      → before ≡ after → IsCall l before callee outcome after
  Otherwise : names_function l before callee ≡ false → (inner : Outcome Told) → Finds l before (PieceIs (Loaded callee) inner) after
      → outcome ≡ called_found inner → IsCall l before callee outcome after

pub call_row : {l : Language} {before after : l.Environment} {callee : Expr} {outcome : Outcome Told}
    → Finds l before (PieceIs (Called callee) outcome) after → IsCall l before callee outcome after
call_row (CalledFunction {name = name} {function = function} e g settled) = Direct name function e g settled refl
call_row (CalledOther {told = told} {handed = handed} e found) = Otherwise e (Passes told handed) found refl
call_row (CalledRefused {first = first} e found) = Otherwise e (Refused first) found refl

pub is_named_function : (l : Language) (before : l.Environment) (callee : Expr) (name : List ℕ) (function : FunctionEntity)
    → named callee ≡ Some name → l.entity name before ≡ Some (FunctionIs function) → names_function l before callee ≡ true
is_named_function l before callee name function e g =
    ap (λ (o : Option (List ℕ)). is_function (option_and_then (λ (n : List ℕ). l.entity n before) o)) e ∙ ap is_function g

-- a type name as a part
abbrev pub type_found : Outcome NamedType → Outcome Told
type_found (Passes named handed) = Passes (TypeIs named) handed
type_found (Refused first) = Refused first

abbrev pub IsTypePiece : (l : Language) → l.Environment → TypeName → Outcome Told → l.Environment → Type 0
IsTypePiece l before to outcome after = (inner : Outcome NamedType) × Finds l before (NameOfTypeIs to inner) after × (outcome ≡ type_found inner)

pub type_row : {l : Language} {before after : l.Environment} {to : TypeName} {outcome : Outcome Told}
    → Finds l before (PieceIs (OfType to) outcome) after → IsTypePiece l before to outcome after
type_row (TypeInside {named = name} {handed = handed} found) = (Passes name handed, found, refl)
type_row (TypeRefused {first = first} found) = (Refused first, found, refl)

-- an index, and a size
abbrev pub if_index : Expr → Option ℕ → List Handed → Outcome Told
if_index expr (Some value) handed = Passes (IndexIs value) handed
if_index expr None handed = Refused (fault expr.place (Rule 9))

abbrev pub index_found : List StructDef → Expr → Outcome Told → Outcome Told
index_found structs expr (Refused first) = Refused first
index_found structs expr (Passes (OperandIs known) handed) = if_index expr (word_of (operand structs known).kind known.value) handed
index_found structs expr (Passes other handed) = Refused (fault expr.place (Rule 9))

abbrev pub IsIndexPiece : (l : Language) → l.Environment → Expr → Outcome Told → l.Environment → Type 0
IsIndexPiece l before expr outcome after = (inner : Outcome Told) × Finds l before (PieceIs (Loaded expr) inner) after × (outcome ≡ index_found (l.structs after) expr inner)

pub index_row : {l : Language} {before after : l.Environment} {expr : Expr} {outcome : Outcome Told}
    → Finds l before (PieceIs (ConstantIndex expr) outcome) after → IsIndexPiece l before expr outcome after
index_row (IndexOfPath {expr = expr} {known = known} {index = index} {handed = handed} found e is) =
    (Passes (OperandIs known) handed, found, ap (λ (o : Option ℕ). if_index expr o handed) (sym (ap (λ (op : Operand). word_of op.kind known.value) e ∙ is)))
index_row (IndexNotConstant {expr = expr} {known = known} {index = index} {handed = handed} found e is) =
    (Passes (OperandIs known) handed, found, ap (λ (o : Option ℕ). if_index expr o handed) (sym (ap (λ (op : Operand). word_of op.kind known.value) e ∙ is)))
index_row (IndexRefused {first = first} found) = (Refused first, found, refl)

abbrev pub if_size : Expr → Option Size → List Handed → Outcome Told
if_size expr (Some size) handed = Passes (SizeIs size) handed
if_size expr None handed = Refused (fault expr.place (Rule 9))

abbrev pub size_found : List StructDef → Expr → Outcome Told → Outcome Told
size_found structs expr (Refused first) = Refused first
size_found structs expr (Passes (OperandIs known) handed) = if_size expr (size_of (operand structs known).kind known.value) handed
size_found structs expr (Passes other handed) = Refused (fault expr.place (Rule 9))

abbrev pub IsSizePiece : (l : Language) → l.Environment → Expr → Outcome Told → l.Environment → Type 0
IsSizePiece l before expr outcome after = (inner : Outcome Told) × Finds l before (PieceIs (Loaded expr) inner) after × (outcome ≡ size_found (l.structs after) expr inner)

pub size_row : {l : Language} {before after : l.Environment} {expr : Expr} {outcome : Outcome Told}
    → Finds l before (PieceIs (SizeOfArray expr) outcome) after → IsSizePiece l before expr outcome after
size_row (SizeOfItems {expr = expr} {known = known} {handed = handed} found e is) =
    (Passes (OperandIs known) handed, found, ap (λ (o : Option Size). if_size expr o handed) (sym (ap (λ (op : Operand). size_of op.kind known.value) e ∙ is)))
size_row (SizeUnderOne {expr = expr} {known = known} {handed = handed} found e is) =
    (Passes (OperandIs known) handed, found, ap (λ (o : Option Size). if_size expr o handed) (sym (ap (λ (op : Operand). size_of op.kind known.value) e ∙ is)))
size_row (SizeRefused {first = first} found) = (Refused first, found, refl)

-- a block
abbrev pub block_found : Outcome CType → Outcome Told
block_found (Passes t handed) = Passes (ValueIs t) handed
block_found (Refused first) = Refused first

abbrev pub IsBlockPiece : (l : Language) → l.Environment → List Stmt → Outcome Told → l.Environment → Type 0
IsBlockPiece l before body outcome after =
    (inner : Outcome CType) × (inside : l.Environment) × Finds l (l.entered before) (StatementsAre body inner) inside × (outcome ≡ block_found inner) × (l.left inside ≡ after)

pub block_row : {l : Language} {before after : l.Environment} {body : List Stmt} {outcome : Outcome Told}
    → Finds l before (PieceIs (BlockOf body) outcome) after → IsBlockPiece l before body outcome after
block_row (BlockInside {after = inside} {t = t} {handed = handed} found) = (Passes t handed, inside, found, refl, refl)
block_row (BlockRefused {after = inside} {first = first} found) = (Refused first, inside, found, refl, refl)

-- statements
abbrev pub if_struct : Expr → Bool → Kind → CType → List Handed → Outcome CType
if_struct expr true kind t handed = Refused (fault expr.place (Rule 4))
if_struct expr false kind t handed = Passes (value_type kind t) handed

abbrev pub last_found : List StructDef → Expr → Outcome Told → Outcome CType
last_found structs expr (Refused first) = Refused first
last_found structs expr (Passes (OperandIs known) handed) = if_struct expr (is_struct (operand structs known).kind) (operand structs known).kind known.ctype handed
last_found structs expr (Passes other handed) = Refused (fault expr.place (Rule 4))

abbrev pub statement_joined : List Handed → Outcome CType → Outcome CType
statement_joined handed (Passes t further) = Passes t (handed ++ further)
statement_joined handed (Refused first) = Refused first

abbrev pub IsRestOfBlock : (l : Language) → l.Environment → Outcome (Unit {0}) → List Stmt → Outcome CType → l.Environment → Type 0
IsRestOfBlock l middle (Passes told handed) stmts outcome after =
    (others : Outcome CType) × Finds l middle (StatementsAre stmts others) after × (outcome ≡ statement_joined handed others)
IsRestOfBlock l middle (Refused first) stmts outcome after = (outcome ≡ Refused first) × (middle ≡ after)

pub data IsBlock (l : Language) (before : l.Environment) (stmt : Stmt) (stmts : List Stmt) (outcome : Outcome CType) (after : l.Environment) : Type 0 where
  Last : (expr : Expr) → is_last_value (stmt ∷ stmts) ≡ true → value_in (out-StmtForm stmt.form) ≡ Some expr → (inner : Outcome Told)
      → Finds l before (PieceIs (Loaded expr) inner) after → outcome ≡ last_found (l.structs after) expr inner → IsBlock l before stmt stmts outcome after
  Front : is_last_value (stmt ∷ stmts) ≡ false → (first : Outcome (Unit {0})) (middle : l.Environment) → Finds l before (StatementIs stmt first) middle
      → IsRestOfBlock l middle first stmts outcome after → IsBlock l before stmt stmts outcome after

pub block_rows : {l : Language} {before after : l.Environment} {stmt : Stmt} {stmts : List Stmt} {outcome : Outcome CType}
    → Finds l before (StatementsAre (stmt ∷ stmts) outcome) after → IsBlock l before stmt stmts outcome after
block_rows {l} {after = after} (LastExpression {expr = expr} {known = known} {last = last} {handed = handed} e empty found is no_struct) =
    Last expr (λ i. empty i && is_some (e i)) e (Passes (OperandIs known) handed) found
    ((λ i. if_struct expr (sym no_struct i) last.kind known.ctype handed) ∙ ap (λ (op : Operand). if_struct expr (is_struct op.kind) op.kind known.ctype handed) (sym is))
block_rows {l} {after = after} (LastStruct {expr = expr} {known = known} {last = last} {handed = handed} e empty found is struct) =
    Last expr (λ i. empty i && is_some (e i)) e (Passes (OperandIs known) handed) found
    ((λ i. if_struct expr (sym struct i) last.kind known.ctype handed) ∙ ap (λ (op : Operand). if_struct expr (is_struct op.kind) op.kind known.ctype handed) (sym is))
block_rows (LastRefused {expr = expr} {first = first} e empty found) = Last expr (λ i. empty i && is_some (e i)) e (Refused first) found refl
block_rows (MoreStatements {middle = middle} {t = t} {further = further} handed not_last is rest) = Front not_last (Passes tt handed) middle is (Passes t further, rest, refl)
block_rows {after = after} (StatementRefused {first = first} not_last is) = Front not_last (Refused first) after is (refl, refl)
block_rows (StatementsRefused {middle = middle} {first = first} handed not_last is rest) = Front not_last (Passes tt handed) middle is (Refused first, rest, refl)

pub no_statements : {l : Language} {before after : l.Environment} {outcome : Outcome CType}
    → Finds l before (StatementsAre [] outcome) after → (outcome ≡ Passes VoidType []) × (before ≡ after)
no_statements NoStatements = (refl, refl)

-- the words of a type
abbrev pub typeof_found : Outcome Told → Outcome NamedType
typeof_found (Refused first) = Refused first
typeof_found (Passes (OperandIs known) handed) = Passes (whole known.ctype) handed
typeof_found (Passes other handed) = Passes (whole VoidType) handed

abbrev pub IsStructTag : (l : Language) → l.Environment → Identifier → Option Tag → Outcome NamedType → l.Environment → Type 0
IsStructTag l before name None outcome after =
    (outcome ≡ Passes (whole (StructType (length (l.structs before)))) []) × (l.struct_declared name.name before ≡ after)
IsStructTag l before name (Some (StructTag number)) outcome after = (outcome ≡ Passes (whole (StructType number)) []) × (before ≡ after)
IsStructTag l before name (Some EnumTag) outcome after = (outcome ≡ Refused (fault name.place (Rule 2))) × (before ≡ after)

abbrev pub IsEnumTag : (l : Language) → l.Environment → Identifier → Option Tag → Outcome NamedType → l.Environment → Type 0
IsEnumTag l before name None outcome after = (outcome ≡ Passes (whole int_type) []) × (l.enum_declared name.name before ≡ after)
IsEnumTag l before name (Some (StructTag number)) outcome after = (outcome ≡ Refused (fault name.place (Rule 2))) × (before ≡ after)
IsEnumTag l before name (Some EnumTag) outcome after = (outcome ≡ Passes (whole int_type) []) × (before ≡ after)

-- those of a struct and of an enum without braces
abbrev pub IsStructWords : (l : Language) → l.Environment → Option Identifier → Outcome NamedType → l.Environment → Type 0
IsStructWords l before (Some name) outcome after = IsStructTag l before name (l.tag name.name before) outcome after
IsStructWords l before None outcome after = (outcome ≡ Passes no_type []) × (before ≡ after)

abbrev pub IsEnumWords : (l : Language) → l.Environment → Option Identifier → Outcome NamedType → l.Environment → Type 0
IsEnumWords l before (Some name) outcome after = IsEnumTag l before name (l.tag name.name before) outcome after
IsEnumWords l before None outcome after = (outcome ≡ Passes no_type []) × (before ≡ after)

pub struct_row : {l : Language} {before after : l.Environment} {name : Option Identifier} {outcome : Outcome NamedType}
    → Finds l before (WordsAre (Struct name None) outcome) after → IsStructWords l before name outcome after
struct_row {l} {before} {outcome = outcome} (StructSpecifier {number = number} {name = name} e) = subst (λ (tag : Option Tag). IsStructTag l before name tag (Passes (whole (StructType number)) []) before) (sym e) (refl, refl)
struct_row {l} {before} {after} (StructDeclared {name = name} e) = subst (λ (tag : Option Tag). IsStructTag l before name tag (Passes (whole (StructType (length (l.structs before)))) []) after) (sym e) (refl, refl)
struct_row {l} {before} (StructIsEnum {name = name} e) = subst (λ (tag : Option Tag). IsStructTag l before name tag (Refused (fault name.place (Rule 2))) before) (sym e) (refl, refl)
struct_row StructOfNothing = (refl, refl)

pub enum_row : {l : Language} {before after : l.Environment} {name : Option Identifier} {outcome : Outcome NamedType}
    → Finds l before (WordsAre (Enum name None) outcome) after → IsEnumWords l before name outcome after
enum_row {l} {before} (EnumSpecifier {name = name} e) = subst (λ (tag : Option Tag). IsEnumTag l before name tag (Passes (whole int_type) []) before) (sym e) (refl, refl)
enum_row {l} {before} {after} (EnumDeclared {name = name} e) = subst (λ (tag : Option Tag). IsEnumTag l before name tag (Passes (whole int_type) []) after) (sym e) (refl, refl)
enum_row {l} {before} (EnumIsStruct {name = name} e) = subst (λ (tag : Option Tag). IsEnumTag l before name tag (Refused (fault name.place (Rule 2))) before) (sym e) (refl, refl)
enum_row EnumOfNothing = (refl, refl)

pub one_struct_tag : (l : Language) (before : l.Environment) (name : Identifier) (tag : Option Tag) (first second : Outcome NamedType) (after other : l.Environment)
    → IsStructTag l before name tag first after → IsStructTag l before name tag second other → Same first second after other
one_struct_tag l before name None first second after other a b = (a.0 ∙ sym b.0, sym a.1 ∙ b.1)
one_struct_tag l before name (Some (StructTag number)) first second after other a b = (a.0 ∙ sym b.0, sym a.1 ∙ b.1)
one_struct_tag l before name (Some EnumTag) first second after other a b = (a.0 ∙ sym b.0, sym a.1 ∙ b.1)

pub one_enum_tag : (l : Language) (before : l.Environment) (name : Identifier) (tag : Option Tag) (first second : Outcome NamedType) (after other : l.Environment)
    → IsEnumTag l before name tag first after → IsEnumTag l before name tag second other → Same first second after other
one_enum_tag l before name None first second after other a b = (a.0 ∙ sym b.0, sym a.1 ∙ b.1)
one_enum_tag l before name (Some (StructTag number)) first second after other a b = (a.0 ∙ sym b.0, sym a.1 ∙ b.1)
one_enum_tag l before name (Some EnumTag) first second after other a b = (a.0 ∙ sym b.0, sym a.1 ∙ b.1)

both_made : {E : Type 0} {made first second : Outcome NamedType} {before after other : E}
    → (first ≡ made) × (before ≡ after) → (second ≡ made) × (before ≡ other) → Same first second after other
both_made a b = (a.0 ∙ sym b.0, sym a.1 ∙ b.1)

pub one_struct : (l : Language) (before : l.Environment) (name : Option Identifier) (first second : Outcome NamedType) (after other : l.Environment)
    → Finds l before (WordsAre (Struct name None) first) after → Finds l before (WordsAre (Struct name None) second) other → Same first second after other
one_struct l before (Some name) first second after other a b = one_struct_tag l before name (l.tag name.name before) first second after other (struct_row a) (struct_row b)
one_struct l before None first second after other a b = both_made (struct_row a) (struct_row b)

pub one_enum : (l : Language) (before : l.Environment) (name : Option Identifier) (first second : Outcome NamedType) (after other : l.Environment)
    → Finds l before (WordsAre (Enum name None) first) after → Finds l before (WordsAre (Enum name None) second) other → Same first second after other
one_enum l before (Some name) first second after other a b = one_enum_tag l before name (l.tag name.name before) first second after other (enum_row a) (enum_row b)
one_enum l before None first second after other a b = both_made (enum_row a) (enum_row b)

pub basic_row : {l : Language} {before after : l.Environment} {basic : BasicType} {outcome : Outcome NamedType}
    → Finds l before (WordsAre (Basic basic) outcome) after → (outcome ≡ Passes (whole (basic_type l.abi basic)) []) × (before ≡ after)
basic_row BasicSpecifier = (refl, refl)

pub named_row : {l : Language} {before after : l.Environment} {name : List ℕ} {outcome : Outcome NamedType}
    → Finds l before (WordsAre (Named name) outcome) after → (outcome ≡ Passes (typedef_of (l.entity name before)) []) × (before ≡ after)
named_row TypedefSpecifier = (refl, refl)

abbrev pub IsTypeof : (l : Language) → l.Environment → Expr → Outcome NamedType → l.Environment → Type 0
IsTypeof l before expr outcome after = (inner : Outcome Told) × Finds l before (PieceIs (Unloaded expr) inner) after × (outcome ≡ typeof_found inner)

pub typeof_row : {l : Language} {before after : l.Environment} {expr : Expr} {outcome : Outcome NamedType}
    → Finds l before (WordsAre (OfExpr expr) outcome) after → IsTypeof l before expr outcome after
typeof_row (TypeofExpression {known = known} {handed = handed} found) = (Passes (OperandIs known) handed, found, refl)
typeof_row (TypeofRefused {first = first} found) = (Refused first, found, refl)

pub typeof_type_row : {l : Language} {before after : l.Environment} {to : TypeName} {outcome : Outcome NamedType}
    → Finds l before (WordsAre (OfTypeWords to) outcome) after → Finds l before (NameOfTypeIs to outcome) after
typeof_type_row (TypeofType found) = found

-- sizes
abbrev pub sizes_joined : Size → List Handed → Outcome (List Size) → Outcome (List Size)
sizes_joined size handed (Passes others further) = Passes (size ∷ others) (handed ++ further)
sizes_joined size handed (Refused first) = Refused first

abbrev pub left_out : Outcome (List Size) → Outcome (List Size)
left_out (Passes others handed) = Passes (LeftOut ∷ others) handed
left_out (Refused first) = Refused first

abbrev pub IsRestOfSizes : (l : Language) → l.Environment → Outcome Told → List (Option Expr) → Outcome (List Size) → l.Environment → Type 0
IsRestOfSizes l middle (Refused first) sizes outcome after = (outcome ≡ Refused first) × (middle ≡ after)
IsRestOfSizes l middle (Passes (SizeIs size) handed) sizes outcome after =
    (others : Outcome (List Size)) × Finds l middle (SizesAre sizes others) after × (outcome ≡ sizes_joined size handed others)
IsRestOfSizes l middle (Passes other handed) sizes outcome after = ⊥

abbrev pub IsSizes : (l : Language) → l.Environment → Expr → List (Option Expr) → Outcome (List Size) → l.Environment → Type 0
IsSizes l before expr sizes outcome after =
    (first : Outcome Told) × (middle : l.Environment) × Finds l before (PieceIs (SizeOfArray expr) first) middle × IsRestOfSizes l middle first sizes outcome after

pub sizes_row : {l : Language} {before after : l.Environment} {expr : Expr} {sizes : List (Option Expr)} {outcome : Outcome (List Size)}
    → Finds l before (SizesAre (Some expr ∷ sizes) outcome) after → IsSizes l before expr sizes outcome after
sizes_row (MoreSizes {middle = middle} {size = size} {others = others} {handed = handed} {further = further} found rest) = (Passes (SizeIs size) handed, middle, found, (Passes others further, rest, refl))
sizes_row {after = after} (SizesRefusedHere {first = first} found) = (Refused first, after, found, (refl, refl))
sizes_row (SizesRefusedBehind {middle = middle} {size = size} {handed = handed} {first = first} found rest) = (Passes (SizeIs size) handed, middle, found, (Refused first, rest, refl))

pub no_sizes : {l : Language} {before after : l.Environment} {outcome : Outcome (List Size)}
    → Finds l before (SizesAre [] outcome) after → (outcome ≡ Passes [] []) × (before ≡ after)
no_sizes NoSizes = (refl, refl)

abbrev pub IsLeftOut : (l : Language) → l.Environment → List (Option Expr) → Outcome (List Size) → l.Environment → Type 0
IsLeftOut l before sizes outcome after = (inner : Outcome (List Size)) × Finds l before (SizesAre sizes inner) after × (outcome ≡ left_out inner)

pub left_out_row : {l : Language} {before after : l.Environment} {sizes : List (Option Expr)} {outcome : Outcome (List Size)}
    → Finds l before (SizesAre (None ∷ sizes) outcome) after → IsLeftOut l before sizes outcome after
left_out_row (SizeLeftOut {others = others} {handed = handed} found) = (Passes others handed, found, refl)
left_out_row (SizeLeftOutRefused {first = first} found) = (Refused first, found, refl)

-- a type name
abbrev pub type_joined : (l : Language) → NamedType → ℕ → List Handed → l.Environment → Outcome (List Size) → Outcome NamedType
type_joined l base stars handed after (Passes counts further) =
    Passes (declared base stars counts (is_large l.abi (l.structs after) (declared_type base stars counts))) (handed ++ further)
type_joined l base stars handed after (Refused first) = Refused first

abbrev pub IsRestOfType : (l : Language) → l.Environment → Outcome NamedType → NameParts → Outcome NamedType → l.Environment → Type 0
IsRestOfType l middle (Passes base handed) name outcome after =
    (counts : Outcome (List Size)) × Finds l middle (SizesAre name.sizes counts) after × (outcome ≡ type_joined l base name.stars handed after counts)
IsRestOfType l middle (Refused first) name outcome after = (outcome ≡ Refused first) × (middle ≡ after)

abbrev pub IsTypeName : (l : Language) → l.Environment → NameParts → Words → Outcome NamedType → l.Environment → Type 0
IsTypeName l before name words outcome after =
    (first : Outcome NamedType) × (middle : l.Environment) × Finds l before (WordsAre words first) middle × IsRestOfType l middle first name outcome after

-- whatever its parts are called
pub moved : (l : Language) (before after : l.Environment) (to : TypeName) (name : NameParts) (words : Words) (outcome : Outcome NamedType)
    → out-TypeName to ≡ name → out-TypeSpec name.spec ≡ words → IsTypeName l before name words outcome after
    → IsTypeName l before (out-TypeName to) (out-TypeSpec (out-TypeName to).spec) outcome after
moved l before after to name words outcome e f is =
    subst (λ (n : NameParts). IsTypeName l before n (out-TypeSpec n.spec) outcome after) (sym e)
    (subst (λ (w : Words). IsTypeName l before name w outcome after) (sym f) is)

-- and by names for its parts again
pub settled_name : (l : Language) (before after : l.Environment) (to : TypeName) (name : NameParts) (words : Words) (outcome : Outcome NamedType)
    → out-TypeName to ≡ name → out-TypeSpec name.spec ≡ words → IsTypeName l before (out-TypeName to) (out-TypeSpec (out-TypeName to).spec) outcome after
    → IsTypeName l before name words outcome after
settled_name l before after to name words outcome e f is =
    subst (λ (w : Words). IsTypeName l before name w outcome after) f
    (subst (λ (n : NameParts). IsTypeName l before n (out-TypeSpec n.spec) outcome after) e is)

pub type_name_row : {l : Language} {before after : l.Environment} {to : TypeName} {outcome : Outcome NamedType}
    → Finds l before (NameOfTypeIs to outcome) after → IsTypeName l before (out-TypeName to) (out-TypeSpec (out-TypeName to).spec) outcome after
type_name_row {l} {before} {after} {to} (TypeNamed {name = name} {words = spec} {base = base} {counts = counts} {handed = handed} {further = further} e f words sizes large) =
    moved l before after to name spec _ e f (Passes base handed, _, words, (Passes counts further, sizes, ap (λ (b : Bool). Passes (declared base name.stars counts b) (handed ++ further)) (sym large)))
type_name_row {l} {before} {after} {to} (WordsRefused {name = name} {words = spec} {first = first} e f words) = moved l before after to name spec _ e f (Refused first, after, words, (refl, refl))
type_name_row {l} {before} {after} {to} (SizesRefused {name = name} {words = spec} {base = base} {handed = handed} {first = first} e f words sizes) = moved l before after to name spec _ e f (Passes base handed, _, words, (Refused first, sizes, refl))
