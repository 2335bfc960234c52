-- One operand for each value that is awaited: what is to be done finds the operands that it takes, and none that other things await.
use Rattle.std.specs.Prelude.{◌≡◌, ℕ, suc, ◌+◌, ◌≤◌, List, [], ◌∷◌, length, Some, slice_get}
use Rattle.std.specs.Option.{option_map_or}
use Rattle.c_machine.specs.declared.built_in.BuiltIn.{BuiltIn}
use Rattle.c_machine.specs.declared.built_in.BuiltIn.TheVariants.{Malloc, Calloc, Free, Memset, Memcpy, Memmove, EndsRun, Assume, Expect, GivesInput}
use Rattle.c_machine.specs.declared.task.Task.TheVariants.{ValueOf, AddressOf, Push, ObjectAt, Operate, AndThen, OrElse, Pick, Drop, Store, Update, CopyStruct, RunBuiltIn, CallDefined, EndRun, Finish, Execute, Branch, Test, Again, OpenBlock, MakeObject, MakeParameter, MakeStatic, LeaveBlock, Zero, Initialise, BreakAt, ContinueAt, GiveBack, LeaveFunction, EndOfBody, Unknown}
use Rattle.c_machine.specs.Expressions.{built_in}
use Rattle.c_machine.specs.Fitting.{Each, IfThere}
use Rattle.c_machine.specs.State.{TaskIn, StateIn}
use Rattle.c_machine.specs.Text.{Standing, BuiltInStands, BodyStands, Form, Name, Known, Unary, Binary, Assign, Count, Choose, Cast, Index, Member, Call, Inner, AssertFail, Initialiser, Value, Braces, Clause, Declare, Eval, Block, If, While, Do, For, Break, Continue, Return, Function, Text}

-- how many arguments a function that is built in has; of those that end the run any number
abbrev pub TakesArguments : BuiltIn → ℕ → Type 0
TakesArguments Malloc count = count ≡ 1
TakesArguments Calloc count = count ≡ 2
TakesArguments Free count = count ≡ 1
TakesArguments Memset count = count ≡ 3
TakesArguments Memcpy count = count ≡ 3
TakesArguments Memmove count = count ≡ 3
TakesArguments EndsRun count = Unit {0}
TakesArguments Assume count = count ≡ 1
TakesArguments Expect count = count ≡ 2
TakesArguments GivesInput count = count ≡ 0

-- how many parameters the function of a number has
abbrev pub count_of_parameters : Text → ℕ → ℕ
count_of_parameters t number = option_map_or (λ function. length function.params) (slice_get t.functions number) 0

-- a thing to do takes so many operands and leaves so many in their place; of a built-in function and of a loop see below
abbrev pub takes : (t : Text) → TaskIn t → ℕ
takes t (ValueOf expr) = 0
takes t (AddressOf expr) = 0
takes t (Push number) = 0
takes t (ObjectAt token) = 0
takes t (Operate op left right) = 2
takes t (Store place kind) = 2
takes t (Update op place kind right) = 2
takes t (CopyStruct place bytes) = 2
takes t (CallDefined number) = count_of_parameters t number
takes t EndRun = 0
takes t (Execute stmt) = 0
takes t (Test stmt) = 0
takes t OpenBlock = 0
takes t (MakeObject object) = 0
takes t (MakeStatic object) = 0
takes t (LeaveBlock place) = 0
takes t (Initialise place init) = 0
takes t (BreakAt place) = 0
takes t (ContinueAt place) = 0
takes t (LeaveFunction place) = 0
takes t (RunBuiltIn what place result) = 0
takes t (Again stmt held) = 0
takes t (EndOfBody is_main result close held) = 0
takes t Unknown = 0
takes t other = 1

abbrev pub gives : (t : Text) → TaskIn t → ℕ
gives t Drop = 0
gives t (Finish place) = 0
gives t (Execute stmt) = 0
gives t (Branch stmt) = 0
gives t (Test stmt) = 0
gives t (Again stmt held) = 0
gives t OpenBlock = 0
gives t (MakeObject object) = 0
gives t (MakeParameter object) = 0
gives t (MakeStatic object) = 0
gives t (LeaveBlock place) = 0
gives t (Zero place bytes) = 0
gives t (Initialise place init) = 0
gives t (BreakAt place) = 0
gives t (ContinueAt place) = 0
gives t (GiveBack place kind) = 0
gives t (LeaveFunction place) = 0
gives t other = 1

-- how many operands stand before a thing to do, which of them it lets stand, and how many stand behind it. A loop and the end of a body stand where there
-- are as many as the unfinished expressions around them hold. Behind what no program of C does anything may stand
abbrev pub Changes : (t : Text) → TaskIn t → (before left after : ℕ) → Type 0
Changes t (RunBuiltIn what place result) before left after = (count : ℕ) × TakesArguments what count × (before ≡ count + left) × (after ≡ suc left)
Changes t (Again stmt held) before left after = (before ≡ held) × (left ≡ held) × (after ≡ held)
Changes t (EndOfBody is_main result close held) before left after = (before ≡ held) × (left ≡ held) × (after ≡ suc held)
Changes t Unknown before left after = (left ≤ before) × (left ≤ after)
Changes t task before left after = (before ≡ takes t task + left) × (after ≡ gives t task + left)

-- how many the unfinished expressions around a loop or a call hold; no loop and no body holds more than so many
abbrev pub held_by : (t : Text) → TaskIn t → ℕ
held_by t (Again stmt held) = held
held_by t (EndOfBody is_main result close held) = held
held_by t other = 0

abbrev pub HoldAtMost : (t : Text) → ℕ → List (TaskIn t) → Type 0
HoldAtMost t count [] = Unit {0}
HoldAtMost t count (task ∷ rest) = (held_by t task ≤ count) × HoldAtMost t count rest

-- things to do lead from so many operands to so many, one behind the other: each finds those that it takes, and lets stand the `low` ones that are awaited
-- behind all of them, and those that a loop or a body behind it awaits, to which a jump may lead
abbrev pub Leads : (t : Text) → (low before : ℕ) → List (TaskIn t) → ℕ → Type 0
Leads t low before [] after = before ≡ after
Leads t low before (task ∷ rest) after =
    (left : ℕ) × (mid : ℕ) × Changes t task before left mid × (low ≤ left) × HoldAtMost t left rest × Leads t low mid rest after

-- a set of expressions, statements and initialisers of a text
pub record Parts (t : Text) : Type 1 where
  pub expr : t.Expr → Type 0
  pub stmt : t.Stmt → Type 0
  pub init : t.Init → Type 0

-- what is called has as many parameters as the call has arguments
abbrev pub CallsRightly : (t : Text) → List t.Expr → Standing → Type 0
CallsRightly t args (BuiltInStands name params result) = (length args ≡ length params) × TakesArguments (built_in name) (length params)
CallsRightly t args (BodyStands number) = IfThere (λ function. length args ≡ length function.params) (slice_get t.functions number)
CallsRightly t args other = Unit {0}

-- the parts of an expression, a statement and an initialiser are in a set, and it calls rightly
abbrev pub FormIn : (t : Text) (parts : Parts t) → Form t.Expr t.Stmt → Type 0
FormIn t parts Name = Unit {0}
FormIn t parts (Known bits) = Unit {0}
FormIn t parts (Unary op arg) = parts.expr arg
FormIn t parts (Binary op left right) = parts.expr left × parts.expr right
FormIn t parts (Assign op left right) = parts.expr left × parts.expr right
FormIn t parts (Count up after arg) = parts.expr arg
FormIn t parts (Choose test one other) = parts.expr test × (parts.expr one × parts.expr other)
FormIn t parts (Cast arg) = parts.expr arg
FormIn t parts (Index base index) = parts.expr base × parts.expr index
FormIn t parts (Member base bytes through) = parts.expr base
FormIn t parts (Call callee args) = Each parts.expr args × CallsRightly t args (t.stands callee)
FormIn t parts (Inner body close) = Each parts.stmt body
FormIn t parts AssertFail = Unit {0}

abbrev pub ClauseIn : (t : Text) (parts : Parts t) → Clause t.Expr t.Stmt t.Init → Type 0
ClauseIn t parts (Declare names) = Each (λ name. IfThere parts.init name.init) names
ClauseIn t parts (Eval expr) = IfThere parts.expr expr
ClauseIn t parts (Block body) = Each parts.stmt body
ClauseIn t parts (If test close one other) = parts.expr test × (parts.stmt one × IfThere parts.stmt other)
ClauseIn t parts (While test close body) = parts.expr test × parts.stmt body
ClauseIn t parts (Do body test close) = parts.stmt body × parts.expr test
ClauseIn t parts (For first test semicolon next close body) = parts.stmt first × (IfThere parts.expr test × (IfThere parts.expr next × parts.stmt body))
ClauseIn t parts Break = Unit {0}
ClauseIn t parts Continue = Unit {0}
ClauseIn t parts (Return expr) = IfThere parts.expr expr

abbrev pub InitialiserIn : (t : Text) (parts : Parts t) → Initialiser t.Expr t.Init → Type 0
InitialiserIn t parts (Value value after) = parts.expr value
InitialiserIn t parts (Braces inits) = Each parts.init inits

-- a set that has all that the functions and the static initialisers of a text have, in which each call is right
pub record AreParts (t : Text) (parts : Parts t) : Type 0 where
  pub forms : (expr : t.Expr) → parts.expr expr → FormIn t parts (t.form expr)
  pub clauses : (stmt : t.Stmt) → parts.stmt stmt → ClauseIn t parts (t.clause stmt)
  pub initialisers : (init : t.Init) → parts.init init → InitialiserIn t parts (t.initialiser init)
  pub functions : Each (λ function. Each parts.stmt function.body) t.functions
  pub main : IfThere (λ function. Each parts.stmt function.body) t.main
  pub sets : Each (λ set. parts.init set.init) t.sets

-- what a thing to do names is in the set, and a function that it calls is there
abbrev pub TaskIsIn : (t : Text) (parts : Parts t) → TaskIn t → Type 0
TaskIsIn t parts (ValueOf expr) = parts.expr expr
TaskIsIn t parts (AddressOf expr) = parts.expr expr
TaskIsIn t parts (AndThen right) = parts.expr right
TaskIsIn t parts (OrElse right) = parts.expr right
TaskIsIn t parts (Pick kind one other) = parts.expr one × parts.expr other
TaskIsIn t parts (Execute stmt) = parts.stmt stmt
TaskIsIn t parts (Branch stmt) = parts.stmt stmt
TaskIsIn t parts (Test stmt) = parts.stmt stmt
TaskIsIn t parts (Again stmt held) = parts.stmt stmt
TaskIsIn t parts (Initialise place init) = parts.init init
TaskIsIn t parts (CallDefined number) = (function : Function t.Stmt) × (slice_get t.functions number ≡ Some function)
TaskIsIn t parts other = Unit {0}

-- so many operands stand as the things to do await, of which `rest` are left at their end: behind main its result
pub record IsAwaiting (t : Text) (parts : Parts t) (rest : ℕ) (state : StateIn t) : Type 0 where
  pub tasks : Each (TaskIsIn t parts) state.tasks
  pub operands : Leads t 0 (length state.operands) state.tasks rest
