-- What statements are made of, in the order in which it is walked, and what is asked of their values (C11 6.8).
use Rattle.std.specs.Prelude.{◌&&◌, Bool, true, false, not, List, [], ◌∷◌, ◌++◌, Option, None, Some}
use Rattle.cbase.specs.declared.ctype.CType.{CType}
use Rattle.cbase.specs.declared.place.Place.{Place}
use Rattle.cbase.specs.declared.structs.StructDef.{StructDef}
use Rattle.cbase.specs.declared.tree.decl.Decl.{Decl}
use Rattle.cbase.specs.declared.tree.expr.Expr.{Expr}
use Rattle.cbase.specs.declared.tree.expr.ExprForm.TheOpen.{Declare, Eval, Block, If, While, Do, For, Break, Continue, Return}
use Rattle.cbase.specs.declared.tree.stmt.Stmt.{Stmt}
use Rattle.typing.specs.declared.ctypes.found.Broken.TheVariants.{Rule}
use Rattle.typing.specs.ctypes.Binary.{is_scalar}
use Rattle.typing.specs.ctypes.Converting.{converts}
use Rattle.typing.specs.ctypes.Kinds.{Kind, Integer, Pointer, Array, Struct, Void, kind_of, decayed}
use Rattle.typing.specs.Calls.{is_struct}
use Rattle.typing.specs.declared.fault.Fault.{Fault}
use Rattle.typing.specs.Faults.{fault, unless}
use Rattle.typing.specs.Forms.{Clause}
use Rattle.typing.specs.Known.{Known}
use Rattle.typing.specs.Outcomes.{Outcome, Passes, Refused}

-- what a value is taken for
pub data Demand : Type 0 where
  -- a condition (6.8.4.1p1, 6.8.5p2)
  Condition : Demand
  -- an expression statement, or a part of `for`, whose value is not used (6.8.3p2, 6.8.5.3p1)
  Dropped : Demand
  -- the value of `return`, whose word stands there, in a function of that result, or outside of functions (6.8.6.4)
  Returned : Place → Option CType → Demand
  -- a value that an object of a type is set to by its initialiser; the object lives as long as the program runs, or not (6.7.9)
  Stored : Bool → CType → Demand
  -- a value of an initialiser for which there is no place
  Surplus : Demand

-- what a statement is made of
pub data StatementPart : Type 0 where
  -- an expression whose value is taken
  ValueOf : Demand → Expr → StatementPart
  -- a statement
  Whole : Stmt → StatementPart
  -- a statement in an `if`, which is a block (6.8.4p3)
  Branch : Stmt → StatementPart
  -- the body of a loop, which is a block (6.8.5p5)
  LoopBody : Stmt → StatementPart
  -- the statements of a block
  StatementsOf : List Stmt → StatementPart
  -- `break` and `continue`, of which the word stands there
  LeavesLoop : Place → StatementPart
  -- `return` without a value
  ReturnsNothing : Place → StatementPart
  -- `return` with one
  Returns : Place → Expr → StatementPart
  -- a declaration, whose first token stands there
  Declares : Place → Decl → StatementPart

-- what may be left out: an expression, and the statement behind `else`
abbrev pub optional : Demand → Option Expr → List StatementPart
optional demand None = []
optional demand (Some expr) = ValueOf demand expr ∷ []

abbrev pub other_branch : Option Stmt → List StatementPart
other_branch None = []
other_branch (Some stmt) = Branch stmt ∷ []

abbrev pub returned : Place → Option Expr → StatementPart
returned place None = ReturnsNothing place
returned place (Some expr) = Returns place expr

-- the parts of each form, whose first token stands there. A condition and the parts of `for` are not in the body of their loop
abbrev pub parts_in : Place → Clause → List StatementPart
parts_in place (Declare decl) = Declares place decl ∷ []
parts_in place (Eval expr) = optional Dropped expr
parts_in place (Block body) = StatementsOf body ∷ []
parts_in place (If test close first second) = ValueOf Condition test ∷ Branch first ∷ other_branch second
parts_in place (While test close body) = ValueOf Condition test ∷ LoopBody body ∷ []
parts_in place (Do body test close) = LoopBody body ∷ ValueOf Condition test ∷ []
parts_in place (For first test semicolon next close body) =
    Whole first ∷ (optional Condition test ++ (optional Dropped next ++ LoopBody body ∷ []))
parts_in place Break = LeavesLoop place ∷ []
parts_in place Continue = LeavesLoop place ∷ []
parts_in place (Return expr) = returned place expr ∷ []

-- whether the parts stand in a scope of their own: an `if` and a loop is a block, also without braces (6.8.4p3, 6.8.5p5)
abbrev pub has_scope : Clause → Bool
has_scope (Declare decl) = false
has_scope (Eval expr) = false
has_scope (Block body) = false
has_scope (If test close first second) = true
has_scope (While test close body) = true
has_scope (Do body test close) = true
has_scope (For first test semicolon next close body) = true
has_scope Break = false
has_scope Continue = false
has_scope (Return expr) = false

-- `return` with a value stands in a function that has a result, else it is rule 11 at the word (6.8.6.4p1); the value is converted to the
-- result (6.8.6.4p3), else it is rule 5 at it
abbrev pub result_faults : Place → Place → Kind → Kind → Bool → List Fault
result_faults word place Void value null = fault word (Rule 11) ∷ []
result_faults word place (Integer t) value null = unless (converts (Integer t) value null) place (Rule 5)
result_faults word place (Pointer item target) value null = unless (converts (Pointer item target) value null) place (Rule 5)
result_faults word place (Array item target) value null = unless (converts (Array item target) value null) place (Rule 5)
result_faults word place (Struct number) value null = unless (converts (Struct number) value null) place (Rule 5)

-- a value of an initialiser is converted as by an assignment, or rule 5 at it (6.7.9p11, p13); that of an object that lives as long as the program
-- runs is also of the form of a constant, and no pointer that becomes a `_Bool`, or rule 9 at it (6.7.9p4)
abbrev pub stored_faults : Bool → Bool → Place → Bool → List Fault
stored_faults false constant place converted = unless converted place (Rule 5)
stored_faults true constant place converted = unless converted place (Rule 5) ++ unless constant place (Rule 9)

-- whether a pointer becomes a `_Bool`, by whether it is null (6.3.1.2). Of an object that lives as long as the program runs it is never so: where such
-- an object stands is known only when the program runs, and with it whether an address behind its front or before it is null
abbrev pub is_truth : Kind → Bool
is_truth (Integer t) = t.truth
is_truth (Pointer item target) = false
is_truth (Array item target) = false
is_truth (Struct number) = false
is_truth Void = false

abbrev pub is_pointer : Kind → Bool
is_pointer (Pointer item target) = true
is_pointer (Integer t) = false
is_pointer (Array item target) = false
is_pointer (Struct number) = false
is_pointer Void = false

abbrev pub is_test_of_pointer : Kind → Kind → Bool
is_test_of_pointer to from = is_truth to && is_pointer from

-- what is broken at a value, which has the form of a constant or not, where that is asked. What is no condition, and a struct that is dropped, is
-- rule 4 at the expression
abbrev pub faults_of_value : List StructDef → Demand → Bool → Place → Known → List Fault
faults_of_value structs Condition constant place known = unless (is_scalar (kind_of structs known.ctype)) place (Rule 4)
faults_of_value structs Dropped constant place known = unless (not (is_struct (kind_of structs known.ctype))) place (Rule 4)
faults_of_value structs (Returned word None) constant place known = fault word (Rule 11) ∷ []
faults_of_value structs (Returned word (Some t)) constant place known =
    result_faults word place (kind_of structs t) (decayed (kind_of structs known.ctype)) known.null
faults_of_value structs (Stored fixed t) constant place known =
    stored_faults fixed (constant && not (is_test_of_pointer (kind_of structs t) (decayed (kind_of structs known.ctype)))) place
    (converts (kind_of structs t) (decayed (kind_of structs known.ctype)) known.null)
faults_of_value structs Surplus constant place known = fault place (Rule 5) ∷ []

-- `return` without a value stands in a function that has none (6.8.6.4p1)
abbrev pub is_void : Kind → Bool
is_void Void = true
is_void (Integer t) = false
is_void (Pointer item target) = false
is_void (Array item target) = false
is_void (Struct number) = false

abbrev pub return_faults : List StructDef → Place → Option CType → List Fault
return_faults structs word None = fault word (Rule 11) ∷ []
return_faults structs word (Some t) = unless (is_void (kind_of structs t)) word (Rule 11)

-- of a block only what is refused in it counts, and what is handed on
abbrev pub without_value : {A : Type 0} → Outcome A → Outcome (Unit {0})
without_value (Passes told handed) = Passes tt handed
without_value (Refused first) = Refused first
