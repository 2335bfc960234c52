-- What a derivation of each part of a statement holds (C11 6.8), and that it has one outcome where those below have.
use Rattle.std.proofs.Common.{◌≡◌, Bool, true, false, List, [], ◌∷◌, refl, sym, ◌∙◌, subst}
use Rattle.cbase.specs.declared.ctype.CType.{CType}
use Rattle.cbase.specs.declared.place.Place.{Place}
use Rattle.cbase.specs.declared.tree.decl.Decl.{Decl}
use Rattle.cbase.specs.declared.tree.expr.Expr.{Expr}
use Rattle.cbase.specs.declared.tree.expr.ExprForm.TheViews.{out-StmtForm}
use Rattle.cbase.specs.declared.tree.stmt.Stmt.{Stmt}
use Rattle.typing.specs.declared.ctypes.found.Broken.TheVariants.{Rule}
use Rattle.typing.specs.declared.fault.Fault.{Fault}
use Rattle.typing.specs.Faults.{fault}
use Rattle.typing.specs.Forms.{Clause}
use Rattle.typing.specs.Initialisers.{Use, AsValue, Ends, GoesOn, IsConstant, EndsThere, LeadsOn, IsAsked}
use Rattle.typing.specs.Known.{Known}
use Rattle.typing.specs.Language.{Language}
use Rattle.typing.specs.Outcomes.{Outcome, Handed, Passes, Refused, IsSettled, with_front}
use Rattle.typing.specs.Pieces.{Loaded}
use Rattle.typing.specs.Statements.{Demand, Condition, Dropped, Returned, Stored, Surplus, StatementPart, ValueOf, Whole, Branch, LoopBody, StatementsOf, LeavesLoop, ReturnsNothing, Returns, Declares, parts_in, has_scope, faults_of_value, return_faults, without_value}
use Rattle.typing.specs.Told.{Told, OperandIs, FunctionNamed, NoFunction, TypeIs, IndexIs, SizeIs, ValueIs}
use Rattle.typing.specs.Typing.{Finds, PieceIs, StatementsAre, StatementIs, StatementPartsAre, StatementPartIs, ValueUsed, StatementOfParts, StatementInScope, NoStatementParts, MoreStatementParts, StatementPartRefused, ValueInStatement, StatementInside, BodyOfLoop, StatementOfIf, BlockOfStatements, LoopLeft, NoLoopToLeave, NothingReturned, ValueReturned, ValueTaken, ValueRefused, DeclaredIs, DeclarationInside}
use Rattle.typing.proofs.OneFault.{one_settled}
use Rattle.typing.proofs.Sequences.{OneOf, Given, Made, Both, Inside, Asked, Here, one_asked, one_here}

-- what is found of each part, by the part
abbrev pub LoadedFound : (l : Language) → l.Environment → Expr → Outcome Told → l.Environment → Type 0
LoadedFound l before expr outcome after = Finds l before (PieceIs (Loaded expr) outcome) after

abbrev pub StatementFound : (l : Language) → l.Environment → Stmt → Outcome (Unit {0}) → l.Environment → Type 0
StatementFound l before stmt outcome after = Finds l before (StatementIs stmt outcome) after

abbrev pub BlockFound : (l : Language) → l.Environment → List Stmt → Outcome CType → l.Environment → Type 0
BlockFound l before body outcome after = Finds l before (StatementsAre body outcome) after

abbrev pub PartsFound : (l : Language) → l.Environment → List StatementPart → Outcome (Unit {0}) → l.Environment → Type 0
PartsFound l before parts outcome after = Finds l before (StatementPartsAre parts outcome) after

abbrev pub PartFound : (l : Language) → l.Environment → StatementPart → Outcome (Unit {0}) → l.Environment → Type 0
PartFound l before part outcome after = Finds l before (StatementPartIs part outcome) after

abbrev pub ValueFound : (l : Language) → l.Environment → Demand → Expr → Outcome (Unit {0}) → l.Environment → Type 0
ValueFound l before demand expr outcome after = Finds l before (ValueUsed demand expr outcome) after

abbrev pub DeclaredFound : (l : Language) → l.Environment → Place → Decl → Outcome (Unit {0}) → l.Environment → Type 0
DeclaredFound l before place decl outcome after = Finds l before (DeclaredIs place decl outcome) after

-- a statement, whose parts stand in a scope of their own or not
abbrev pub IsScoped : (l : Language) → l.Environment → Bool → List StatementPart → Outcome (Unit {0}) → l.Environment → Type 0
IsScoped l before false parts outcome after = PartsFound l before parts outcome after
IsScoped l before true parts outcome after = Inside l.left (PartsFound l (l.entered before) parts) outcome after

abbrev pub IsStatement : (l : Language) → l.Environment → Place → Clause → Outcome (Unit {0}) → l.Environment → Type 0
IsStatement l before place clause outcome after = IsScoped l before (has_scope clause) (parts_in place clause) outcome after

statement_moved : (l : Language) (before after : l.Environment) (stmt : Stmt) (clause : Clause) (scoped : Bool) (outcome : Outcome (Unit {0}))
    → out-StmtForm stmt.form ≡ clause → has_scope clause ≡ scoped → IsScoped l before scoped (parts_in stmt.place clause) outcome after
    → IsStatement l before stmt.place (out-StmtForm stmt.form) outcome after
statement_moved l before after stmt clause scoped outcome e f is =
    subst (λ (c : Clause). IsStatement l before stmt.place c outcome after) (sym e)
    (subst (λ (b : Bool). IsScoped l before b (parts_in stmt.place clause) outcome after) (sym f) is)

pub statement_by : (l : Language) (before after : l.Environment) (stmt : Stmt) (clause : Clause) (scoped : Bool) (outcome : Outcome (Unit {0}))
    → out-StmtForm stmt.form ≡ clause → has_scope clause ≡ scoped → IsStatement l before stmt.place (out-StmtForm stmt.form) outcome after
    → IsScoped l before scoped (parts_in stmt.place clause) outcome after
statement_by l before after stmt clause scoped outcome e f is =
    subst (λ (b : Bool). IsScoped l before b (parts_in stmt.place clause) outcome after) f
    (subst (λ (c : Clause). IsStatement l before stmt.place c outcome after) e is)

pub statement_row : {l : Language} {before after : l.Environment} {stmt : Stmt} {outcome : Outcome (Unit {0})}
    → Finds l before (StatementIs stmt outcome) after → IsStatement l before stmt.place (out-StmtForm stmt.form) outcome after
statement_row {l} {before} {after} {stmt} {outcome} (StatementOfParts {clause = clause} e f found) = statement_moved l before after stmt clause false outcome e f found
statement_row {l} {before} {stmt = stmt} {outcome = outcome} (StatementInScope {after = inside} {clause = clause} e f found) =
    statement_moved l before (l.left inside) stmt clause true outcome e f (inside, found, refl)

-- its parts
abbrev pub PartsBehind : (l : Language) → List StatementPart → Unit {0} → List Handed → l.Environment → Outcome (Unit {0}) → l.Environment → Type 0
PartsBehind l parts told handed middle outcome after = Made (with_front handed) (PartsFound l middle parts) outcome after

abbrev pub AreParts : (l : Language) → l.Environment → StatementPart → List StatementPart → Outcome (Unit {0}) → l.Environment → Type 0
AreParts l before part parts outcome after = Both (PartFound l before part) (PartsBehind l parts) outcome after

pub no_parts : {l : Language} {before after : l.Environment} {outcome : Outcome (Unit {0})}
    → Finds l before (StatementPartsAre [] outcome) after → Given (Passes tt []) before outcome after
no_parts NoStatementParts = (refl, refl)

pub parts_row : {l : Language} {before after : l.Environment} {part : StatementPart} {parts : List StatementPart} {outcome : Outcome (Unit {0})}
    → Finds l before (StatementPartsAre (part ∷ parts) outcome) after → AreParts l before part parts outcome after
parts_row (MoreStatementParts {middle = middle} {handed = handed} {outcome = inner} found rest) = (Passes tt handed, middle, found, (inner, rest, refl))
parts_row {after = after} (StatementPartRefused {first = first} found) = (Refused first, after, found, (refl, refl))

-- one part
abbrev pub IsLeft : {E : Type 0} → Place → Bool → E → Outcome (Unit {0}) → E → Type 0
IsLeft place true before outcome after = Given (Passes tt []) before outcome after
IsLeft place false before outcome after = Given (Refused (fault place (Rule 10))) before outcome after

abbrev pub IsReturned : (l : Language) → l.Environment → Place → Outcome (Unit {0}) → Type 0
IsReturned l env place outcome = IsSettled (return_faults (l.structs env) place (l.result env)) tt [] outcome

abbrev pub IsPart : (l : Language) → l.Environment → StatementPart → Outcome (Unit {0}) → l.Environment → Type 0
IsPart l before (ValueOf demand expr) outcome after = ValueFound l before demand expr outcome after
IsPart l before (Whole stmt) outcome after = StatementFound l before stmt outcome after
IsPart l before (LoopBody stmt) outcome after =
    Inside (λ (inside : l.Environment). l.loop_set (l.in_loop before) (l.left inside)) (StatementFound l (l.loop_set true (l.entered before)) stmt) outcome after
IsPart l before (Branch stmt) outcome after = Inside l.left (StatementFound l (l.entered before) stmt) outcome after
IsPart l before (StatementsOf body) outcome after = Inside l.left (Made without_value (BlockFound l (l.entered before) body)) outcome after
IsPart l before (LeavesLoop place) outcome after = IsLeft place (l.in_loop before) before outcome after
IsPart l before (ReturnsNothing place) outcome after = Here (IsReturned l before place) before outcome after
IsPart l before (Returns place expr) outcome after = ValueFound l before (Returned place (l.result before)) expr outcome after
IsPart l before (Declares place decl) outcome after = DeclaredFound l before place decl outcome after

pub part_row : {l : Language} {before after : l.Environment} {part : StatementPart} {outcome : Outcome (Unit {0})}
    → Finds l before (StatementPartIs part outcome) after → IsPart l before part outcome after
part_row (ValueInStatement found) = found
part_row (StatementInside found) = found
part_row (BodyOfLoop {after = inside} found) = (inside, found, refl)
part_row (StatementOfIf {after = inside} found) = (inside, found, refl)
part_row (BlockOfStatements {after = inside} {found = inner} found) = (inside, (inner, found, refl), refl)
part_row {before = before} (LoopLeft {place = place} e) = subst (λ (b : Bool). IsLeft place b before (Passes tt []) before) (sym e) (refl, refl)
part_row {before = before} (NoLoopToLeave {place = place} e) = subst (λ (b : Bool). IsLeft place b before (Refused (fault place (Rule 10))) before) (sym e) (refl, refl)
part_row {outcome = outcome} (NothingReturned e settled) = (subst (λ (faults : List Fault). IsSettled faults tt [] outcome) (sym e) settled, refl)
part_row (ValueReturned found) = found
part_row (DeclarationInside found) = found

pub one_left : {E : Type 0} (place : Place) (inside : Bool) (before : E) (first : Outcome (Unit {0})) (after : E)
    → IsLeft place inside before first after → OneOf (IsLeft place inside before) first after
one_left place true before first after is second other also = (is.0 ∙ sym also.0, sym is.1 ∙ also.1)
one_left place false before first after is second other also = (is.0 ∙ sym also.0, sym is.1 ∙ also.1)

-- a value
abbrev pub IsJudged : (l : Language) → Demand → Expr → Known → List Handed → l.Environment → Bool → Outcome (Unit {0}) → l.Environment → Type 0
IsJudged l demand expr known handed env constant outcome after =
    Here (λ (o : Outcome (Unit {0})). IsSettled (faults_of_value (l.structs env) demand constant expr.place known) tt handed o) env outcome after

abbrev pub TakenBehind : (l : Language) → Demand → Expr → Told → List Handed → l.Environment → Outcome (Unit {0}) → l.Environment → Type 0
TakenBehind l demand expr (OperandIs known) handed env outcome after = Asked (IsAsked demand handed expr) (IsJudged l demand expr known handed env) outcome after
TakenBehind l demand expr (FunctionNamed name function) handed env outcome after = ⊥
TakenBehind l demand expr NoFunction handed env outcome after = ⊥
TakenBehind l demand expr (TypeIs named) handed env outcome after = ⊥
TakenBehind l demand expr (IndexIs index) handed env outcome after = ⊥
TakenBehind l demand expr (SizeIs size) handed env outcome after = ⊥
TakenBehind l demand expr (ValueIs t) handed env outcome after = ⊥

abbrev pub IsValue : (l : Language) → l.Environment → Demand → Expr → Outcome (Unit {0}) → l.Environment → Type 0
IsValue l before demand expr outcome after = Both (LoadedFound l before expr) (TakenBehind l demand expr) outcome after

pub value_row : {l : Language} {before after : l.Environment} {demand : Demand} {expr : Expr} {outcome : Outcome (Unit {0})}
    → Finds l before (ValueUsed demand expr outcome) after → IsValue l before demand expr outcome after
value_row {after = after} {outcome = outcome} (ValueTaken {known = known} {handed = handed} constant found asked e settled) =
    (Passes (OperandIs known) handed, after, found, (constant, asked, (subst (λ (faults : List Fault). IsSettled faults tt handed outcome) (sym e) settled, refl)))
value_row {after = after} (ValueRefused {first = first} found) = (Refused first, after, found, (refl, refl))

-- whether it is a constant is told in one way
one_constant : (handed : List Handed) (manner : Use) (expr : Expr) (first second : Bool) → IsConstant handed manner expr first → IsConstant handed manner expr second → first ≡ second
one_constant handed manner expr first second (EndsThere e) (EndsThere f) = (let both : Ends first ≡ Ends second = sym e ∙ f in cc both)
one_constant handed manner expr first second (EndsThere e) (LeadsOn {next = next} {inner = inner} f on) = (let both : Ends first ≡ GoesOn next inner = sym e ∙ f in absurd (cc both))
one_constant handed manner expr first second (LeadsOn {next = next} {inner = inner} e on) (EndsThere f) = (let both : GoesOn next inner ≡ Ends second = sym e ∙ f in absurd (cc both))
one_constant handed manner expr first second (LeadsOn {next = next} {inner = inner} e on) (LeadsOn {next = other} {inner = below} f further) =
    let uses : next ≡ other = (let both : GoesOn next inner ≡ GoesOn other below = sym e ∙ f in cc both) in
    let inners : inner ≡ below = (let both : GoesOn next inner ≡ GoesOn other below = sym e ∙ f in cc both) in
    one_constant handed next inner first second on
    (subst (λ (u : Use). IsConstant handed u inner second) (sym uses) (subst (λ (x : Expr). IsConstant handed other x second) (sym inners) further))

one_asked_so : (demand : Demand) (handed : List Handed) (expr : Expr) (first second : Bool) → IsAsked demand handed expr first → IsAsked demand handed expr second → first ≡ second
one_asked_so (Stored true t) handed expr first second is also = one_constant handed AsValue expr first second is also
one_asked_so (Stored false t) handed expr first second is also = is ∙ sym also
one_asked_so Condition handed expr first second is also = is ∙ sym also
one_asked_so Dropped handed expr first second is also = is ∙ sym also
one_asked_so (Returned word t) handed expr first second is also = is ∙ sym also
one_asked_so Surplus handed expr first second is also = is ∙ sym also

pub one_taken : (l : Language) (demand : Demand) (expr : Expr) (known : Known) (constant : Bool) (faults : List Fault) (handed : List Handed) (env : l.Environment) (first : Outcome (Unit {0}))
    → IsAsked demand handed expr constant → faults_of_value (l.structs env) demand constant expr.place known ≡ faults → IsSettled faults tt handed first
    → OneOf (TakenBehind l demand expr (OperandIs known) handed env) first env
one_taken l demand expr known constant faults handed env first asked e settled =
    one_asked (IsAsked demand handed expr) (IsJudged l demand expr known handed env) constant first env
    (λ other also. one_asked_so demand handed expr constant other asked also)
    (one_here (λ (o : Outcome (Unit {0})). IsSettled (faults_of_value (l.structs env) demand constant expr.place known) tt handed o) env first
    (λ second also. one_settled _ tt handed first second (subst (λ (f : List Fault). IsSettled f tt handed first) (sym e) settled) also))
