-- What a text makes room for has fitting numbers, where the text has.
use Rattle.std.proofs.Common.{◌≡◌, ℕ, zero, suc, List, [], ◌∷◌, ◌++◌, map, Bool, true, false, refl, Option, None, Some, arith}
use Rattle.std.specs.Prelude.{if◌then◌else◌, slice_get}
use Rattle.std.specs.List.{flat_map}
use Rattle.cbase.specs.declared.place.Place.{Place}
use Rattle.cbase.specs.declared.tree.operators.BinaryOp.{BinaryOp}
use Rattle.cbase.specs.declared.tree.operators.BinaryOp.TheVariants as op
use Rattle.cbase.specs.declared.tree.operators.UnaryOp.TheVariants.{Address, Follow, Plus, Minus, Flip, Not}
use Rattle.c_machine.specs.declared.kind.Kind.{Kind}
use Rattle.c_machine.specs.declared.kind.Kind.TheVariants.{Integer, Pointer, Array, Struct, Void}
use Rattle.c_machine.specs.declared.object.Object.{Object}
use Rattle.c_machine.specs.declared.task.Task.TheVariants.{Execute, LeaveBlock, MakeParameter, Initialise, EndOfBody, RunBuiltIn, CallDefined, Finish, Test}
use Rattle.c_machine.specs.Blocks.{names_in, made, objects_in, entered, in_block, are_empty, last_tasks, valued, in_inner_block, set_by, set, initialiser_parts, initialiser_tasks, zeroed, declared_by, declared_tasks}
use Rattle.c_machine.specs.Calls.{body_tasks, function_tasks}
use Rattle.c_machine.specs.Expressions.{value_kind, named, address_parts, address_tasks, name_parts, known, assign_parts, argument_tasks, body_call, call_parts, binary_parts, value_parts, value_tasks, built_in}
use Rattle.c_machine.specs.Fitting.{Each, IfThere, IsNumber, HasSize, IsSized, IsLocalOf, ParameterIs, AutomaticIs, TaskFits, FormFits, StandingFits, StoreFits, FunctionFits, IsFittingText}
use Rattle.c_machine.specs.State.{TaskIn}
use Rattle.c_machine.specs.Statements.{return_tasks, eval_tasks, clause_tasks, statement_tasks, test_or_turn, test_parts, test_tasks, again_parts, again_tasks, other_branch, branch_parts, branch_tasks}
use Rattle.c_machine.specs.Text.{Standing, ObjectStands, ConstantStands, BuiltInStands, BodyStands, NothingStands, Form, Name, Known, Unary, Binary, Assign, Count, Choose, Cast, Index, Member, Call, Inner, AssertFail, Declared, Initialiser, Value, Braces, Clause, Declare, Eval, Block, If, While, Do, For, Break, Continue, Return, Store as Stored, Parameter, Function, Text}
use Rattle.c_machine.specs.Words.{decayed}

-- lists
pub each_both : {X : Type 0} (P : X → Type 0) (one other : List X) → Each P one → Each P other → Each P (one ++ other)
each_both P [] other first second = second
each_both P (item ∷ one) other first second = (first.0, each_both P one other first.1 second)

pub each_flat : {X Y : Type 0} (P : Y → Type 0) (f : X → List Y) (items : List X) → ((item : X) → Each P (f item)) → Each P (flat_map f items)
each_flat P f [] all = tt
each_flat P f (item ∷ rest) all = each_both P (f item) (flat_map f rest) (all item) (each_flat P f rest all)

pub each_map : {X Y : Type 0} (P : Y → Type 0) (f : X → Y) (items : List X) → ((item : X) → P (f item)) → Each P (map f items)
each_map P f [] all = tt
each_map P f (item ∷ rest) all = (all item, each_map P f rest all)

pub each_get : {X : Type 0} (P : X → Type 0) (items : List X) (number : ℕ) → Each P items → IfThere P (slice_get items number)
each_get P [] number all = tt
each_get P (item ∷ rest) zero all = all.0
each_get P (item ∷ rest) (suc number) all = each_get P rest number all.1

-- kinds
decayed_size : (kind : Kind) → HasSize kind → HasSize (decayed kind)
decayed_size (Integer of) is = is
decayed_size (Pointer bytes) is = is
decayed_size (Array bytes) is = is
decayed_size (Struct bytes) is = is
decayed_size Void is = is

pub value_size : (t : Text) → IsFittingText t → (expr : t.Expr) → HasSize (value_kind t expr)
value_size t fit expr = decayed_size (t.kind expr) (fit.kinds expr)

-- addresses
named_fits : (t : Text) (standing : Standing) → Each (TaskFits t) (named t standing)
named_fits t (ObjectStands token) = (tt, tt)
named_fits t (ConstantStands bits) = (tt, tt)
named_fits t (BuiltInStands name params result) = (tt, tt)
named_fits t (BodyStands number) = (tt, tt)
named_fits t NothingStands = (tt, tt)

address_fits : (t : Text) → IsFittingText t → (expr : t.Expr) (form : Form t.Expr t.Stmt) → FormFits form → Each (TaskFits t) (address_parts t expr form)
address_fits t fit expr Name fits = named_fits t (t.stands expr)
address_fits t fit expr (Unary Follow arg) fits = (tt, tt)
address_fits t fit expr (Index base index) fits = (tt, (tt, ((value_size t fit base, value_size t fit index), tt)))
address_fits t fit expr (Member base offset false) fits = (tt, (fits, tt))
address_fits t fit expr (Member base offset true) fits = (tt, (fits, tt))
address_fits t fit expr other fits = (tt, tt)

pub addresses_fit : (t : Text) → IsFittingText t → (expr : t.Expr) → Each (TaskFits t) (address_tasks t expr)
addresses_fit t fit expr = address_fits t fit expr (t.form expr) (fit.forms expr)

-- blocks
made_fits : (t : Text) (place : Place) (object : Option Object) → t.automatic place ≡ object → IfThere IsSized object → Each (TaskFits t) (made t object)
made_fits t place None is fits = tt
made_fits t place (Some object) is fits = ((fits, AutomaticIs place object is), tt)

objects_fit : (t : Text) → IsFittingText t → (stmt : t.Stmt) → Each (TaskFits t) (objects_in t stmt)
objects_fit t fit stmt = each_flat (TaskFits t) (λ name. made t (t.automatic name.place)) (names_in (t.clause stmt)) (λ name. made_fits t name.place (t.automatic name.place) refl (fit.objects name.place))

entered_fits : (t : Text) → IsFittingText t → (body : List t.Stmt) → Each (TaskFits t) (entered t body)
entered_fits t fit body = each_flat (TaskFits t) (objects_in t) body (objects_fit t fit)

executed : (t : Text) (body : List t.Stmt) (rest : List (TaskIn t)) → Each (TaskFits t) rest → Each (TaskFits t) (map Execute body ++ rest)
executed t body rest later = each_both (TaskFits t) (map Execute body) rest (each_map (TaskFits t) Execute body (λ stmt. tt)) later

block_fits : (t : Text) → IsFittingText t → (body : List t.Stmt) (close : Place) → Each (TaskFits t) (in_block t body close)
block_fits t fit body close =
    (tt, each_both (TaskFits t) (entered t body) (map Execute body ++ LeaveBlock close ∷ []) (entered_fits t fit body) (executed t body (LeaveBlock close ∷ []) (tt, tt)))

last_fits : (t : Text) (stmt : t.Stmt) (clause : Clause t.Expr t.Stmt t.Init) → Each (TaskFits t) (last_tasks t stmt clause)
last_fits t stmt (Eval (Some expr)) = (tt, (tt, tt))
last_fits t stmt other = (tt, (omega arith, tt))

valued_fits : (t : Text) (body : List t.Stmt) → Each (TaskFits t) (valued t body)
valued_fits t [] = (omega arith, tt)
valued_fits t (stmt ∷ body) = by_last (are_empty t body) (valued_fits t body)
  where
    by_last : (b : Bool) → Each (TaskFits t) (valued t body) → Each (TaskFits t) (if b then last_tasks t stmt (t.clause stmt) else Execute stmt ∷ valued t body)
    by_last true later = last_fits t stmt (t.clause stmt)
    by_last false later = (tt, later)

inner_fits : (t : Text) → IsFittingText t → (body : List t.Stmt) (close : Place) → Each (TaskFits t) (in_inner_block t body close)
inner_fits t fit body close =
    (tt, each_both (TaskFits t) (entered t body) (valued t body ++ LeaveBlock close ∷ []) (entered_fits t fit body) (each_both (TaskFits t) (valued t body) (LeaveBlock close ∷ []) (valued_fits t body) (tt, tt)))

-- initialisers
set_by_fits : (t : Text) → IsFittingText t → (place : Place) (kind : Kind) (expr : t.Expr) → HasSize kind → Each (TaskFits t) (set_by t place kind expr)
set_by_fits t fit place (Struct bytes) expr is = (tt, (is, tt))
set_by_fits t fit place (Integer of) expr is = (tt, ((value_size t fit expr, is), (is, tt)))
set_by_fits t fit place (Pointer bytes) expr is = (tt, ((value_size t fit expr, is), (is, tt)))
set_by_fits t fit place (Array bytes) expr is = (tt, ((value_size t fit expr, is), (is, tt)))
set_by_fits t fit place Void expr is = (tt, ((value_size t fit expr, is), (is, tt)))

set_fits : (t : Text) → IsFittingText t → (place : Place) (expr : t.Expr) (after : Place) (stored : Option Stored) → IfThere StoreFits stored → Each (TaskFits t) (set t place expr after stored)
set_fits t fit place expr after None is = (tt, tt)
set_fits t fit place expr after (Some stored) is =
    (tt, (is.offset, each_both (TaskFits t) (set_by t place stored.kind expr) (Finish after ∷ []) (set_by_fits t fit place stored.kind expr is.kind) (tt, tt)))

initialiser_fits : (t : Text) → IsFittingText t → (place : Place) (init : Initialiser t.Expr t.Init) → Each (TaskFits t) (initialiser_parts t place init)
initialiser_fits t fit place (Value value after) = set_fits t fit place value after (t.store place value) (fit.stores place value)
initialiser_fits t fit place (Braces parts) = each_map (TaskFits t) (Initialise place) parts (λ part. tt)

pub initialisers_fit : (t : Text) → IsFittingText t → (place : Place) (init : t.Init) → Each (TaskFits t) (initialiser_tasks t place init)
initialisers_fit t fit place init = initialiser_fits t fit place (t.initialiser init)

zeroed_fits : (t : Text) (place : Place) (object : Object) (init : Initialiser t.Expr t.Init) → IsSized object → Each (TaskFits t) (zeroed t place object init)
zeroed_fits t place object (Value value after) is = tt
zeroed_fits t place object (Braces parts) is = (tt, (is, tt))

declared_by_fits : (t : Text) (place : Place) (object : Option Object) (init : Option t.Init) → IfThere IsSized object → Each (TaskFits t) (declared_by t place object init)
declared_by_fits t place None init is = tt
declared_by_fits t place (Some object) None is = tt
declared_by_fits t place (Some object) (Some init) is =
    each_both (TaskFits t) (zeroed t place object (t.initialiser init)) (Initialise place init ∷ []) (zeroed_fits t place object (t.initialiser init) is) (tt, tt)

declared_fits : (t : Text) → IsFittingText t → (name : Declared t.Init) → Each (TaskFits t) (declared_tasks t name)
declared_fits t fit name = declared_by_fits t name.place (t.automatic name.place) name.init (fit.objects name.place)

-- calls
arguments_fit : (t : Text) → IsFittingText t → (args : List t.Expr) (params : List Kind) → Each HasSize params → Each (TaskFits t) (argument_tasks t args params)
arguments_fit t fit [] params are = tt
arguments_fit t fit (arg ∷ args) [] are = (tt, tt)
arguments_fit t fit (arg ∷ args) (param ∷ params) are = (tt, ((value_size t fit arg, are.0), arguments_fit t fit args params are.1))

parameter_kinds : (params : List Parameter) → Each (λ param. HasSize param.kind) params → Each HasSize (map (λ (param : Parameter). param.kind) params)
parameter_kinds [] are = tt
parameter_kinds (param ∷ params) are = (are.0, parameter_kinds params are.1)

body_call_fits : (t : Text) → IsFittingText t → (args : List t.Expr) (number : ℕ) (function : Option (Function t.Stmt)) → IfThere FunctionFits function →
    Each (TaskFits t) (body_call t args number function)
body_call_fits t fit args number None fits = (tt, tt)
body_call_fits t fit args number (Some function) fits =
    each_both (TaskFits t) (argument_tasks t args (map (λ param. param.kind) function.params)) (CallDefined number ∷ [])
    (arguments_fit t fit args (map (λ param. param.kind) function.params) (parameter_kinds function.params fits.kinds)) (tt, tt)

call_fits : (t : Text) → IsFittingText t → (callee : t.Expr) (args : List t.Expr) (standing : Standing) → StandingFits standing → Each (TaskFits t) (call_parts t callee args standing)
call_fits t fit callee args (BuiltInStands name params result) fits =
    each_both (TaskFits t) (argument_tasks t args params) (RunBuiltIn (built_in name) (t.place callee) result ∷ []) (arguments_fit t fit args params fits.0) (fits.1, tt)
call_fits t fit callee args (BodyStands number) fits = body_call_fits t fit args number (slice_get t.functions number) (each_get FunctionFits t.functions number fit.functions)
call_fits t fit callee args other fits = (tt, tt)

made_parameters : (t : Text) (params : List Parameter) → Each (λ param. IsSized param.object × IsLocalOf t param.object) params →
    Each (TaskFits t) (map (λ (param : Parameter). MakeParameter param.object) params)
made_parameters t [] are = tt
made_parameters t (param ∷ params) are = (are.0, made_parameters t params are.1)

-- parameters are objects of the text
pub each_with : {X : Type 0} (P Q : X → Type 0) (items : List X) → Each P items → ((place : ℕ) (item : X) → slice_get items place ≡ Some item → Q item) → Each (λ item. P item × Q item) items
each_with P Q [] are all = tt
each_with P Q (item ∷ rest) are all = ((are.0, all 0 item refl), each_with P Q rest are.1 (λ place other is. all (suc place) other is))

pub body_fits : (t : Text) → IsFittingText t → (function : Function t.Stmt) (held : ℕ) → FunctionFits function → Each (TaskFits t) (body_tasks t function held)
body_fits t fit function held fits =
    each_both (TaskFits t) (entered t function.body) (map Execute function.body ++ EndOfBody function.is_main function.result function.close held ∷ []) (entered_fits t fit function.body)
    (executed t function.body (EndOfBody function.is_main function.result function.close held ∷ []) (fits.result, tt))

pub function_tasks_fit : (t : Text) → IsFittingText t → (number : ℕ) (function : Function t.Stmt) (held : ℕ) → slice_get t.functions number ≡ Some function → FunctionFits function →
    Each (TaskFits t) (function_tasks t function held)
function_tasks_fit t fit number function held is fits = (
  tt,
  each_both (TaskFits t) (map (λ param. MakeParameter param.object) function.params) (body_tasks t function held) (made_parameters t function.params
      (each_with (λ (param : Parameter). IsSized param.object) (λ (param : Parameter). IsLocalOf t param.object) function.params fits.objects (λ place param stands. ParameterIs number function place param is stands))) (body_fits t fit function held fits),
)

-- values
name_fits : (t : Text) → IsFittingText t → (expr : t.Expr) (standing : Standing) → StandingFits standing → Each (TaskFits t) (name_parts t expr standing)
name_fits t fit expr (ConstantStands bits) fits = (fits, tt)
name_fits t fit expr (ObjectStands token) fits = (tt, (fit.kinds expr, tt))
name_fits t fit expr (BuiltInStands name params result) fits = (tt, (fit.kinds expr, tt))
name_fits t fit expr (BodyStands number) fits = (tt, (fit.kinds expr, tt))
name_fits t fit expr NothingStands fits = (tt, (fit.kinds expr, tt))

known_fits : (t : Text) (bits : Option ℕ) → IfThere IsNumber bits → Each (TaskFits t) (known t bits)
known_fits t None fits = (tt, tt)
known_fits t (Some bits) fits = (fits, tt)

assign_fits : (t : Text) → IsFittingText t → (place : Place) (left right : t.Expr) (kind : Kind) → HasSize kind → Each (TaskFits t) (assign_parts t place left right kind)
assign_fits t fit place left right (Struct bytes) is = (tt, (tt, (is, tt)))
assign_fits t fit place left right (Integer of) is = (tt, (tt, ((value_size t fit right, is), (is, tt))))
assign_fits t fit place left right (Pointer bytes) is = (tt, (tt, ((value_size t fit right, is), (is, tt))))
assign_fits t fit place left right (Array bytes) is = (tt, (tt, ((value_size t fit right, is), (is, tt))))
assign_fits t fit place left right Void is = (tt, (tt, ((value_size t fit right, is), (is, tt))))

binary_fits : (t : Text) → IsFittingText t → (what : BinaryOp) (left right : t.Expr) → Each (TaskFits t) (binary_parts t what left right)
binary_fits t fit op.Both left right = (tt, (tt, tt))
binary_fits t fit op.Either left right = (tt, (tt, tt))
binary_fits t fit op.Comma left right = (tt, (tt, (tt, tt)))
binary_fits t fit other left right = (tt, (tt, ((value_size t fit left, value_size t fit right), tt)))

value_fits : (t : Text) → IsFittingText t → (expr : t.Expr) (form : Form t.Expr t.Stmt) → FormFits form → Each (TaskFits t) (value_parts t expr form)
value_fits t fit expr Name fits = name_fits t fit expr (t.stands expr) (fit.names expr)
value_fits t fit expr (Known bits) fits = known_fits t bits fits
value_fits t fit expr (Unary Address arg) fits = (tt, tt)
value_fits t fit expr (Unary Follow arg) fits = (tt, (fit.kinds expr, tt))
value_fits t fit expr (Unary Not arg) fits = (tt, (tt, tt))
value_fits t fit expr (Unary Plus arg) fits = (tt, (value_size t fit arg, tt))
value_fits t fit expr (Unary Minus arg) fits = (tt, (value_size t fit arg, tt))
value_fits t fit expr (Unary Flip arg) fits = (tt, (value_size t fit arg, tt))
value_fits t fit expr (Binary what left right) fits = binary_fits t fit what left right
value_fits t fit expr (Assign None left right) fits = assign_fits t fit (t.place expr) left right (t.kind left) (fit.kinds left)
value_fits t fit expr (Assign (Some what) left right) fits = (tt, (tt, ((fit.kinds left, value_size t fit right), tt)))
value_fits t fit expr (Count up after arg) fits = (tt, (fit.kinds arg, tt))
value_fits t fit expr (Choose test one other) fits = (tt, (value_size t fit expr, tt))
value_fits t fit expr (Cast arg) fits = (tt, ((value_size t fit arg, fit.kinds expr), tt))
value_fits t fit expr (Index base index) fits = (tt, (fit.kinds expr, tt))
value_fits t fit expr (Member base offset through) fits = (tt, (fit.kinds expr, tt))
value_fits t fit expr (Call callee args) fits = call_fits t fit callee args (t.stands callee) (fit.names callee)
value_fits t fit expr (Inner body close) fits = inner_fits t fit body close
value_fits t fit expr AssertFail fits = (tt, tt)

pub values_fit : (t : Text) → IsFittingText t → (expr : t.Expr) → Each (TaskFits t) (value_tasks t expr)
values_fit t fit expr = value_fits t fit expr (t.form expr) (fit.forms expr)

-- statements
return_fits : (t : Text) → IsFittingText t → (word : Place) (expr : Option t.Expr) → Each (TaskFits t) (return_tasks t word expr)
return_fits t fit word None = (omega arith, (tt, tt))
return_fits t fit word (Some expr) = (tt, (value_size t fit expr, tt))

eval_fits : (t : Text) (expr : Option t.Expr) (after : Place) → Each (TaskFits t) (eval_tasks t expr after)
eval_fits t None after = tt
eval_fits t (Some expr) after = (tt, (tt, tt))

clause_fits : (t : Text) → IsFittingText t → (stmt : t.Stmt) (held : ℕ) (clause : Clause t.Expr t.Stmt t.Init) → Each (TaskFits t) (clause_tasks t stmt held clause)
clause_fits t fit stmt held (Declare names) = each_flat (TaskFits t) (declared_tasks t) names (declared_fits t fit)
clause_fits t fit stmt held (Eval expr) = eval_fits t expr (t.last stmt)
clause_fits t fit stmt held (Block body) = block_fits t fit body (t.last stmt)
clause_fits t fit stmt held (If test close one other) = (tt, (tt, tt))
clause_fits t fit stmt held (While test close body) = (tt, tt)
clause_fits t fit stmt held (Do body test close) = (tt, (tt, tt))
clause_fits t fit stmt held (For first test semicolon next close body) =
    (tt, each_both (TaskFits t) (objects_in t first) (Execute first ∷ Test stmt ∷ LeaveBlock (t.first stmt) ∷ []) (objects_fit t fit first) (tt, (tt, (tt, tt))))
clause_fits t fit stmt held Break = (tt, tt)
clause_fits t fit stmt held Continue = (tt, tt)
clause_fits t fit stmt held (Return expr) = return_fits t fit (t.first stmt) expr

pub statements_fit : (t : Text) → IsFittingText t → (stmt : t.Stmt) (held : ℕ) → Each (TaskFits t) (statement_tasks t stmt held)
statements_fit t fit stmt held = clause_fits t fit stmt held (t.clause stmt)

test_or_turn_fits : (t : Text) (stmt : t.Stmt) (held : ℕ) (test : Option t.Expr) (body : t.Stmt) → Each (TaskFits t) (test_or_turn t stmt held test body)
test_or_turn_fits t stmt held None body = (tt, (tt, tt))
test_or_turn_fits t stmt held (Some test) body = (tt, (tt, tt))

test_fits : (t : Text) (stmt : t.Stmt) (held : ℕ) (clause : Clause t.Expr t.Stmt t.Init) → Each (TaskFits t) (test_parts t stmt held clause)
test_fits t stmt held (While test close body) = (tt, (tt, tt))
test_fits t stmt held (Do body test close) = (tt, (tt, tt))
test_fits t stmt held (For first test semicolon next close body) = test_or_turn_fits t stmt held test body
test_fits t stmt held other = (tt, tt)

pub tests_fit : (t : Text) (stmt : t.Stmt) (held : ℕ) → Each (TaskFits t) (test_tasks t stmt held)
tests_fit t stmt held = test_fits t stmt held (t.clause stmt)

again_fits : (t : Text) (stmt : t.Stmt) (clause : Clause t.Expr t.Stmt t.Init) → Each (TaskFits t) (again_parts t stmt clause)
again_fits t stmt (For first test semicolon next close body) = each_both (TaskFits t) (eval_tasks t next close) (Test stmt ∷ []) (eval_fits t next close) (tt, tt)
again_fits t stmt other = (tt, tt)

pub turns_fit : (t : Text) (stmt : t.Stmt) → Each (TaskFits t) (again_tasks t stmt)
turns_fit t stmt = again_fits t stmt (t.clause stmt)

other_fits : (t : Text) (stmt : Option t.Stmt) → Each (TaskFits t) (other_branch t stmt)
other_fits t None = tt
other_fits t (Some stmt) = (tt, tt)

branch_fits : (t : Text) (stmt : t.Stmt) (held : ℕ) (clause : Clause t.Expr t.Stmt t.Init) (holds : Bool) → Each (TaskFits t) (branch_parts t stmt held clause holds)
branch_fits t stmt held (If test close one other) true = (tt, tt)
branch_fits t stmt held (If test close one other) false = other_fits t other
branch_fits t stmt held (While test close body) true = (tt, (tt, tt))
branch_fits t stmt held (While test close body) false = tt
branch_fits t stmt held (Do body test close) true = (tt, (tt, tt))
branch_fits t stmt held (Do body test close) false = tt
branch_fits t stmt held (For first test semicolon next close body) true = (tt, (tt, tt))
branch_fits t stmt held (For first test semicolon next close body) false = tt
branch_fits t stmt held other holds = (tt, tt)

pub branches_fit : (t : Text) (stmt : t.Stmt) (held : ℕ) (holds : Bool) → Each (TaskFits t) (branch_tasks t stmt held holds)
branches_fit t stmt held holds = branch_fits t stmt held (t.clause stmt) holds
