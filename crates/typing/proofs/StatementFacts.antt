-- Values, statements and blocks of the examples, in any environment.
use Rattle.std.proofs.Common.{◌≡◌, ℕ, Bool, true, false, List, [], ◌∷◌, ◌++◌, Some, None, refl, ap, ◌∙◌}
use Rattle.std.specs.Prelude.{◌&&◌, not, is_some, codes, length, option_map}
use Rattle.cbase.specs.declared.abi.Abi.TheVariants.{Lp64}
use Rattle.cbase.specs.declared.ctype.CType.{CType}
use Rattle.cbase.specs.declared.ctype.CType.TheVariants.{Void as VoidType, Pointer as PointerType, Struct as StructType, Array as ArrayType}
use Rattle.cbase.specs.declared.structs.StructDef.{StructDef}
use Rattle.cbase.specs.declared.tree.expr.Expr.{Expr}
use Rattle.cbase.specs.declared.tree.expr.ExprForm.TheViews.{out-StmtForm, outs-Name, outs-Eval, outs-Block}
use Rattle.cbase.specs.declared.tree.stmt.Stmt.{Stmt}
use Rattle.cbase.specs.declared.tree.stmt.StmtForm.{StmtForm}
use Rattle.cbase.specs.declared.tree.stmt.StmtForm.TheVariants.{Eval, Block}
use Rattle.cbase.specs.Layout.{layout_of, struct_at, scalar, repeated}
use Rattle.cbase.proofs.Types.{type_layout-Void, type_layout-Int, type_layout-Pointer, type_layout-Array}
use Rattle.typing.specs.declared.ctypes.found.Broken.TheVariants.{Rule}
use Rattle.typing.specs.ctypes.Binary.{int_type, is_scalar}
use Rattle.typing.specs.ctypes.Kinds.{Kind, kind_of, decayed}
use Rattle.typing.specs.Calls.{is_struct}
use Rattle.typing.specs.declared.fault.Fault.{Fault}
use Rattle.typing.specs.Entities.{ObjectIs}
use Rattle.typing.specs.Faults.{fault, unless}
use Rattle.typing.specs.Forms.{Clause, is_empty, value_in}
use Rattle.typing.specs.Known.{Known, behind}
use Rattle.typing.specs.Nodes.{object_known, is_last_value}
use Rattle.typing.specs.Outcomes.{Handed, Passes, Refused}
use Rattle.typing.specs.Pieces.{Loaded}
use Rattle.typing.specs.Rules.{UndeclaredName}
use Rattle.typing.specs.Sample.{sample, Declarations, scope_entered, entity_in, token, name, object, char_type, statement_at}
use Rattle.typing.specs.Statements.{Condition, Dropped, Returned, StatementPart, result_faults}
use Rattle.typing.specs.Told.{OperandIs}
use Rattle.typing.specs.Typing.{Finds, PieceIs, StatementsAre, StatementIs, StatementPartsAre, StatementPartIs, ValueUsed, Walked, NoPieces, LoadedRefused, MoreStatements, NoStatements, StatementOfParts, NoStatementParts, MoreStatementParts, StatementPartRefused, ValueInStatement, BlockOfStatements, ValueTaken}
use Rattle.typing.proofs.SampleFacts.{structs, alone, loaded_in, laid_s}

-- layouts, whatever is declared
pub int_laid : (among : List StructDef) → layout_of Lp64 among int_type ≡ Some (scalar 4)
int_laid among = type_layout-Int Lp64 (struct_at Lp64 (length among) among) 4 true

pub char_laid : (among : List StructDef) → layout_of Lp64 among char_type ≡ Some (scalar 1)
char_laid among = type_layout-Int Lp64 (struct_at Lp64 (length among) among) 1 true

pub to_laid : (among : List StructDef) (item : CType) → layout_of Lp64 among (PointerType item) ≡ Some (scalar 8)
to_laid among item = type_layout-Pointer Lp64 (struct_at Lp64 (length among) among) item

pub void_laid : (among : List StructDef) → layout_of Lp64 among VoidType ≡ None
void_laid among = type_layout-Void Lp64 (struct_at Lp64 (length among) among)

pub ints_laid : (among : List StructDef) (count : ℕ) → layout_of Lp64 among (ArrayType int_type count) ≡ Some (repeated count (scalar 4))
ints_laid among count = type_layout-Array Lp64 (struct_at Lp64 (length among) among) int_type count ∙ ap (option_map (repeated count)) (int_laid among)

pub chars_laid : (among : List StructDef) (count : ℕ) → layout_of Lp64 among (ArrayType char_type count) ≡ Some (repeated count (scalar 1))
chars_laid among count = type_layout-Array Lp64 (struct_at Lp64 (length among) among) char_type count ∙ ap (option_map (repeated count)) (char_laid among)

-- an int, and a name that is not declared, as values
pub an_int : {env : Declarations} (bytes : List ℕ) (number at : ℕ) → entity_in env bytes ≡ Some (ObjectIs (object int_type))
    → Finds sample env (PieceIs (Loaded (name bytes number at)) (Passes (OperandIs (object_known (object int_type))) (behind [] number (object_known (object int_type))))) env
an_int {env} bytes number at is = loaded_in env bytes (object int_type) number at is (ap is_some (int_laid env.structs)) refl refl

pub none_of : {env : Declarations} (bytes : List ℕ) (number at : ℕ) → entity_in env bytes ≡ None
    → Finds sample env (PieceIs (Loaded (name bytes number at)) (Refused (fault (token at) (Rule 1)))) env
none_of bytes number at is = LoadedRefused (Walked (outs-Name bytes) NoPieces (UndeclaredName is))

-- and a struct and a pointer
pub a_struct : {env : Declarations} (number at : ℕ) → entity_in env (codes "x") ≡ Some (ObjectIs (object (StructType 0))) → env.structs ≡ structs
    → Finds sample env (PieceIs (Loaded (name (codes "x") number at)) (Passes (OperandIs (object_known (object (StructType 0)))) (behind [] number (object_known (object (StructType 0)))))) env
a_struct {env} number at is same = loaded_in env (codes "x") (object (StructType 0)) number at is (ap (λ (among : List StructDef). is_some (layout_of Lp64 among (StructType 0))) same ∙ ap is_some laid_s) refl refl

pub a_pointer : {env : Declarations} (number at : ℕ) → entity_in env (codes "p") ≡ Some (ObjectIs (object (PointerType VoidType)))
    → Finds sample env (PieceIs (Loaded (name (codes "p") number at)) (Passes (OperandIs (object_known (object (PointerType VoidType)))) (behind [] number (object_known (object (PointerType VoidType)))))) env
a_pointer {env} number at is = loaded_in env (codes "p") (object (PointerType VoidType)) number at is (ap is_some (to_laid env.structs VoidType)) refl refl

-- values that are used
pub condition : {env after : Declarations} {expr : Expr} {known : Known} {handed : List Handed} {kind : Kind}
    → Finds sample env (PieceIs (Loaded expr) (Passes (OperandIs known) handed)) after → kind_of after.structs known.ctype ≡ kind → is_scalar kind ≡ true
    → Finds sample env (ValueUsed Condition expr (Passes tt handed)) after
condition {expr = expr} found k e = ValueTaken true found refl (ap (λ (kind : Kind). unless (is_scalar kind) expr.place (Rule 4)) k ∙ ap (λ (b : Bool). unless b expr.place (Rule 4)) e) (refl, refl, refl)

pub no_condition : {env after : Declarations} {expr : Expr} {known : Known} {handed : List Handed} {kind : Kind}
    → Finds sample env (PieceIs (Loaded expr) (Passes (OperandIs known) handed)) after → kind_of after.structs known.ctype ≡ kind → is_scalar kind ≡ false
    → Finds sample env (ValueUsed Condition expr (Refused (fault expr.place (Rule 4)))) after
no_condition {expr = expr} found k e = ValueTaken true found refl (ap (λ (kind : Kind). unless (is_scalar kind) expr.place (Rule 4)) k ∙ ap (λ (b : Bool). unless b expr.place (Rule 4)) e) (alone _)

pub dropped : {env after : Declarations} {expr : Expr} {known : Known} {handed : List Handed} {kind : Kind}
    → Finds sample env (PieceIs (Loaded expr) (Passes (OperandIs known) handed)) after → kind_of after.structs known.ctype ≡ kind → is_struct kind ≡ false
    → Finds sample env (ValueUsed Dropped expr (Passes tt handed)) after
dropped {expr = expr} found k e = ValueTaken true found refl (ap (λ (kind : Kind). unless (not (is_struct kind)) expr.place (Rule 4)) k ∙ ap (λ (b : Bool). unless (not b) expr.place (Rule 4)) e) (refl, refl, refl)

pub not_dropped : {env after : Declarations} {expr : Expr} {known : Known} {handed : List Handed} {kind : Kind}
    → Finds sample env (PieceIs (Loaded expr) (Passes (OperandIs known) handed)) after → kind_of after.structs known.ctype ≡ kind → is_struct kind ≡ true
    → Finds sample env (ValueUsed Dropped expr (Refused (fault expr.place (Rule 4)))) after
not_dropped {expr = expr} found k e = ValueTaken true found refl (ap (λ (kind : Kind). unless (not (is_struct kind)) expr.place (Rule 4)) k ∙ ap (λ (b : Bool). unless (not b) expr.place (Rule 4)) e) (alone _)

-- one part, two, and more
pub one_part : {env after : Declarations} {part : StatementPart} {handed : List Handed}
    → Finds sample env (StatementPartIs part (Passes tt handed)) after → Finds sample env (StatementPartsAre (part ∷ []) (Passes tt (handed ++ []))) after
one_part found = MoreStatementParts {outcome = Passes tt []} found NoStatementParts

pub more_parts : {env middle after : Declarations} {part : StatementPart} {parts : List StatementPart} {handed further : List Handed}
    → Finds sample env (StatementPartIs part (Passes tt handed)) middle → Finds sample middle (StatementPartsAre parts (Passes tt further)) after
    → Finds sample env (StatementPartsAre (part ∷ parts) (Passes tt (handed ++ further))) after
more_parts {further = further} found rest = MoreStatementParts {outcome = Passes tt further} found rest

pub broken_behind : {env middle after : Declarations} {part : StatementPart} {parts : List StatementPart} {handed : List Handed} {first : Fault}
    → Finds sample env (StatementPartIs part (Passes tt handed)) middle → Finds sample middle (StatementPartsAre parts (Refused first)) after
    → Finds sample env (StatementPartsAre (part ∷ parts) (Refused first)) after
broken_behind {first = first} found rest = MoreStatementParts {outcome = Refused first} found rest

-- an expression statement, and nothing
pub evaluated : {env after : Declarations} {at : ℕ} (expr : Expr) {handed : List Handed}
    → Finds sample env (ValueUsed Dropped expr (Passes tt handed)) after → Finds sample env (StatementIs (statement_at at (Eval (Some expr))) (Passes tt (handed ++ []))) after
evaluated expr used = StatementOfParts (outs-Eval (Some expr)) refl (one_part (ValueInStatement used))

pub not_evaluated : {env after : Declarations} {at : ℕ} (expr : Expr) {first : Fault}
    → Finds sample env (ValueUsed Dropped expr (Refused first)) after → Finds sample env (StatementIs (statement_at at (Eval (Some expr))) (Refused first)) after
not_evaluated expr used = StatementOfParts (outs-Eval (Some expr)) refl (StatementPartRefused (ValueInStatement used))

pub empty : {env : Declarations} {at : ℕ} → Finds sample env (StatementIs (statement_at at (Eval None)) (Passes tt [])) env
empty = StatementOfParts (outs-Eval None) refl NoStatementParts

-- a block
pub in_braces : {env after : Declarations} {at : ℕ} (body : List Stmt) {t : CType} {handed : List Handed}
    → Finds sample (scope_entered env) (StatementsAre body (Passes t handed)) after
    → Finds sample env (StatementIs (statement_at at (Block body)) (Passes tt (handed ++ []))) (sample.left after)
in_braces body {t = t} {handed = handed} found = StatementOfParts (outs-Block body) refl (one_part (BlockOfStatements {found = Passes t handed} found))

pub refused_in_braces : {env after : Declarations} {at : ℕ} (body : List Stmt) {first : Fault}
    → Finds sample (scope_entered env) (StatementsAre body (Refused first)) after
    → Finds sample env (StatementIs (statement_at at (Block body)) (Refused first)) (sample.left after)
refused_in_braces body {first = first} found = StatementOfParts (outs-Block body) refl (StatementPartRefused (BlockOfStatements {found = Refused first} found))

-- the last statement of a block, which is no expression
pub last : {env after : Declarations} {stmt : Stmt} {handed : List Handed}
    → is_last_value (stmt ∷ []) ≡ false → Finds sample env (StatementIs stmt (Passes tt handed)) after → Finds sample env (StatementsAre (stmt ∷ []) (Passes VoidType (handed ++ []))) after
last {handed = handed} e found = MoreStatements handed e found NoStatements

-- one in front of another that is not empty
pub followed : (form : StmtForm) {clause : Clause} (others first : Bool) → out-StmtForm form ≡ clause → is_empty clause ≡ false → ((is_empty (out-StmtForm form) && others) && first) ≡ false
followed form others first e f = ap (λ (c : Clause). (is_empty c && others) && first) e ∙ ap (λ (b : Bool). (b && others) && first) f

pub no_value : (stmt : Stmt) {clause : Clause} → out-StmtForm stmt.form ≡ clause → is_some (value_in clause) ≡ false → is_last_value (stmt ∷ []) ≡ false
no_value stmt e f = ap (λ (c : Clause). is_some (value_in c)) e ∙ f

-- a value that is returned
pub returned : {env after : Declarations} {expr : Expr} {known : Known} {handed : List Handed} {at : ℕ} {t : CType} {to from : Kind}
    → Finds sample env (PieceIs (Loaded expr) (Passes (OperandIs known) handed)) after
    → kind_of after.structs t ≡ to → kind_of after.structs known.ctype ≡ from → result_faults (token at) expr.place to (decayed from) known.null ≡ []
    → Finds sample env (ValueUsed (Returned (token at) (Some t)) expr (Passes tt handed)) after
returned {expr = expr} {known = known} {at = at} found k f e =
    ValueTaken true found refl ((λ i. result_faults (token at) expr.place (k i) (decayed (f i)) known.null) ∙ e) (refl, refl, refl)

pub not_returned : {env after : Declarations} {expr : Expr} {known : Known} {handed : List Handed} {at : ℕ} {t : CType} {to from : Kind} {first : Fault}
    → Finds sample env (PieceIs (Loaded expr) (Passes (OperandIs known) handed)) after
    → kind_of after.structs t ≡ to → kind_of after.structs known.ctype ≡ from → result_faults (token at) expr.place to (decayed from) known.null ≡ first ∷ []
    → Finds sample env (ValueUsed (Returned (token at) (Some t)) expr (Refused first)) after
not_returned {expr = expr} {known = known} {at = at} {first = first} found k f e =
    ValueTaken true found refl ((λ i. result_faults (token at) expr.place (k i) (decayed (f i)) known.null) ∙ e) (alone first)
