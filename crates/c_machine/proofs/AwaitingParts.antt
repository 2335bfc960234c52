-- What a text makes room for stands in a set of its parts.
use Rattle.std.proofs.Common.{◌≡◌, ℕ, List, [], ◌∷◌, ◌++◌, map, Bool, true, false, refl, Option, None, Some}
use Rattle.std.specs.Prelude.{if◌then◌else◌, slice_get}
use Rattle.std.specs.List.{flat_map}
use Rattle.cbase.specs.declared.place.Place.{Place}
use Rattle.cbase.specs.declared.tree.operators.BinaryOp.{BinaryOp}
use Rattle.cbase.specs.declared.tree.operators.BinaryOp.TheVariants as op
use Rattle.cbase.specs.declared.tree.operators.UnaryOp.TheVariants.{Address, Follow, Not}
use Rattle.c_machine.specs.declared.kind.Kind.{Kind}
use Rattle.c_machine.specs.declared.kind.Kind.TheVariants.{Integer, Pointer, Array, Struct, Void}
use Rattle.c_machine.specs.declared.object.Object.{Object}
use Rattle.c_machine.specs.declared.task.Task.TheVariants.{Execute, LeaveBlock, MakeObject, MakeParameter, Initialise, EndOfBody, RunBuiltIn, CallDefined, Finish, Test}
use Rattle.c_machine.specs.Awaiting.{Parts, FormIn, ClauseIn, InitialiserIn, AreParts, TaskIsIn}
use Rattle.c_machine.specs.Blocks.{names_in, made, objects_in, entered, in_block, are_empty, last_tasks, valued, in_inner_block, set_by, set, initialiser_parts, initialiser_tasks, zeroed, declared_by, declared_tasks}
use Rattle.c_machine.specs.Calls.{body_tasks, function_tasks}
use Rattle.c_machine.specs.Expressions.{named, address_parts, address_tasks, name_parts, known, assign_parts, argument_tasks, body_call, call_parts, binary_parts, value_parts, value_tasks, built_in}
use Rattle.c_machine.specs.Fitting.{Each, IfThere}
use Rattle.c_machine.specs.State.{TaskIn}
use Rattle.c_machine.specs.Statements.{return_tasks, eval_tasks, clause_tasks, statement_tasks, test_or_turn, test_parts, test_tasks, again_parts, again_tasks, other_branch, branch_parts, branch_tasks}
use Rattle.c_machine.specs.Text.{Standing, ObjectStands, ConstantStands, BuiltInStands, BodyStands, NothingStands, Form, Name, Known, Unary, Binary, Assign, Count, Choose, Cast, Index, Member, Call, Inner, AssertFail, Initialiser, Value, Braces, Clause, Declare, Eval, Block, If, While, Do, For, Break, Continue, Return, Store as Stored, Parameter, Function, Text}
use Rattle.c_machine.proofs.FittingTasks.{each_both, each_flat, each_map}

-- each item of a list that has something of its own
each_from : {X Y : Type 0} (P : X → Type 0) (Q : Y → Type 0) (f : X → Y) (items : List X) → ((item : X) → P item → Q (f item)) → Each P items → Each Q (map f items)
each_from P Q f [] all are = tt
each_from P Q f (item ∷ rest) all are = (all item are.0, each_from P Q f rest all are.1)

flat_from : {X Y : Type 0} (P : X → Type 0) (Q : Y → Type 0) (f : X → List Y) (items : List X) → ((item : X) → P item → Each Q (f item)) → Each P items → Each Q (flat_map f items)
flat_from P Q f [] all are = tt
flat_from P Q f (item ∷ rest) all are = each_both Q (f item) (flat_map f rest) (all item are.0) (flat_from P Q f rest all are.1)

-- addresses
named_in : (t : Text) (parts : Parts t) (standing : Standing) → Each (TaskIsIn t parts) (named t standing)
named_in t parts (ObjectStands token) = (tt, tt)
named_in t parts (ConstantStands bits) = (tt, tt)
named_in t parts (BuiltInStands name params result) = (tt, tt)
named_in t parts (BodyStands number) = (tt, tt)
named_in t parts NothingStands = (tt, tt)

address_in : (t : Text) (parts : Parts t) (expr : t.Expr) (form : Form t.Expr t.Stmt) → FormIn t parts form → Each (TaskIsIn t parts) (address_parts t expr form)
address_in t parts expr Name are = named_in t parts (t.stands expr)
address_in t parts expr (Unary Follow arg) are = (are, tt)
address_in t parts expr (Index base index) are = (are.0, (are.1, (tt, tt)))
address_in t parts expr (Member base offset false) are = (are, (tt, tt))
address_in t parts expr (Member base offset true) are = (are, (tt, tt))
address_in t parts expr other are = (tt, tt)

pub addresses_in : (t : Text) (parts : Parts t) → AreParts t parts → (expr : t.Expr) → parts.expr expr → Each (TaskIsIn t parts) (address_tasks t expr)
addresses_in t parts all expr is = address_in t parts expr (t.form expr) (all.forms expr is)

-- blocks
made_in : (t : Text) (parts : Parts t) (object : Option Object) → Each (TaskIsIn t parts) (made t object)
made_in t parts None = tt
made_in t parts (Some object) = (tt, tt)

objects_are_in : (t : Text) (parts : Parts t) (stmt : t.Stmt) → Each (TaskIsIn t parts) (objects_in t stmt)
objects_are_in t parts stmt = each_flat (TaskIsIn t parts) (λ name. made t (t.automatic name.place)) (names_in (t.clause stmt)) (λ name. made_in t parts (t.automatic name.place))

entered_in : (t : Text) (parts : Parts t) (body : List t.Stmt) → Each (TaskIsIn t parts) (entered t body)
entered_in t parts body = each_flat (TaskIsIn t parts) (objects_in t) body (objects_are_in t parts)

executed_in : (t : Text) (parts : Parts t) (body : List t.Stmt) (rest : List (TaskIn t)) → Each parts.stmt body → Each (TaskIsIn t parts) rest → Each (TaskIsIn t parts) (map Execute body ++ rest)
executed_in t parts body rest are later = each_both (TaskIsIn t parts) (map Execute body) rest (each_from parts.stmt (TaskIsIn t parts) Execute body (λ stmt is. is) are) later

block_in : (t : Text) (parts : Parts t) (body : List t.Stmt) (close : Place) → Each parts.stmt body → Each (TaskIsIn t parts) (in_block t body close)
block_in t parts body close are =
    (tt, each_both (TaskIsIn t parts) (entered t body) (map Execute body ++ LeaveBlock close ∷ []) (entered_in t parts body) (executed_in t parts body (LeaveBlock close ∷ []) are (tt, tt)))

last_in : (t : Text) (parts : Parts t) (stmt : t.Stmt) (clause : Clause t.Expr t.Stmt t.Init) → parts.stmt stmt → ClauseIn t parts clause → Each (TaskIsIn t parts) (last_tasks t stmt clause)
last_in t parts stmt (Eval (Some expr)) is are = (are, (tt, tt))
last_in t parts stmt other is are = (is, (tt, tt))

valued_in : (t : Text) (parts : Parts t) → AreParts t parts → (body : List t.Stmt) → Each parts.stmt body → Each (TaskIsIn t parts) (valued t body)
valued_in t parts all [] are = (tt, tt)
valued_in t parts all (stmt ∷ body) are = by_last (are_empty t body) (valued_in t parts all body are.1)
  where
    by_last : (b : Bool) → Each (TaskIsIn t parts) (valued t body) → Each (TaskIsIn t parts) (if b then last_tasks t stmt (t.clause stmt) else Execute stmt ∷ valued t body)
    by_last true later = last_in t parts stmt (t.clause stmt) are.0 (all.clauses stmt are.0)
    by_last false later = (are.0, later)

inner_in : (t : Text) (parts : Parts t) → AreParts t parts → (body : List t.Stmt) (close : Place) → Each parts.stmt body → Each (TaskIsIn t parts) (in_inner_block t body close)
inner_in t parts all body close are = (
  tt,
  each_both (TaskIsIn t parts) (entered t body) (valued t body ++ LeaveBlock close ∷ []) (entered_in t parts body)
      (each_both (TaskIsIn t parts) (valued t body) (LeaveBlock close ∷ []) (valued_in t parts all body are) (tt, tt)),
)

-- initialisers
set_by_in : (t : Text) (parts : Parts t) (place : Place) (kind : Kind) (expr : t.Expr) → parts.expr expr → Each (TaskIsIn t parts) (set_by t place kind expr)
set_by_in t parts place (Struct bytes) expr is = (is, (tt, tt))
set_by_in t parts place (Integer of) expr is = (is, (tt, (tt, tt)))
set_by_in t parts place (Pointer bytes) expr is = (is, (tt, (tt, tt)))
set_by_in t parts place (Array bytes) expr is = (is, (tt, (tt, tt)))
set_by_in t parts place Void expr is = (is, (tt, (tt, tt)))

set_in : (t : Text) (parts : Parts t) (place : Place) (expr : t.Expr) (after : Place) (stored : Option Stored) → parts.expr expr → Each (TaskIsIn t parts) (set t place expr after stored)
set_in t parts place expr after None is = (tt, tt)
set_in t parts place expr after (Some stored) is =
    (tt, (tt, each_both (TaskIsIn t parts) (set_by t place stored.kind expr) (Finish after ∷ []) (set_by_in t parts place stored.kind expr is) (tt, tt)))

initialiser_in : (t : Text) (parts : Parts t) (place : Place) (init : Initialiser t.Expr t.Init) → InitialiserIn t parts init → Each (TaskIsIn t parts) (initialiser_parts t place init)
initialiser_in t parts place (Value value after) is = set_in t parts place value after (t.store place value) is
initialiser_in t parts place (Braces inits) are = each_from parts.init (TaskIsIn t parts) (Initialise place) inits (λ init is. is) are

pub initialisers_in : (t : Text) (parts : Parts t) → AreParts t parts → (place : Place) (init : t.Init) → parts.init init → Each (TaskIsIn t parts) (initialiser_tasks t place init)
initialisers_in t parts all place init is = initialiser_in t parts place (t.initialiser init) (all.initialisers init is)

zeroed_in : (t : Text) (parts : Parts t) (place : Place) (object : Object) (init : Initialiser t.Expr t.Init) → Each (TaskIsIn t parts) (zeroed t place object init)
zeroed_in t parts place object (Value value after) = tt
zeroed_in t parts place object (Braces inits) = (tt, (tt, tt))

declared_by_in : (t : Text) (parts : Parts t) (place : Place) (object : Option Object) (init : Option t.Init) → IfThere parts.init init → Each (TaskIsIn t parts) (declared_by t place object init)
declared_by_in t parts place None init is = tt
declared_by_in t parts place (Some object) None is = tt
declared_by_in t parts place (Some object) (Some init) is =
    each_both (TaskIsIn t parts) (zeroed t place object (t.initialiser init)) (Initialise place init ∷ []) (zeroed_in t parts place object (t.initialiser init)) (is, tt)

-- calls
arguments_in : (t : Text) (parts : Parts t) (args : List t.Expr) (params : List Kind) → Each parts.expr args → Each (TaskIsIn t parts) (argument_tasks t args params)
arguments_in t parts [] params are = tt
arguments_in t parts (arg ∷ args) [] are = (tt, tt)
arguments_in t parts (arg ∷ args) (param ∷ params) are = (are.0, (tt, arguments_in t parts args params are.1))

body_call_in : (t : Text) (parts : Parts t) (args : List t.Expr) (number : ℕ) (function : Option (Function t.Stmt)) → slice_get t.functions number ≡ function → Each parts.expr args → Each (TaskIsIn t parts) (body_call t args number function)
body_call_in t parts args number None stands are = (tt, tt)
body_call_in t parts args number (Some function) stands are =
    each_both (TaskIsIn t parts) (argument_tasks t args (map (λ param. param.kind) function.params)) (CallDefined number ∷ [])
    (arguments_in t parts args (map (λ param. param.kind) function.params) are) ((function, stands), tt)

call_in : (t : Text) (parts : Parts t) (callee : t.Expr) (args : List t.Expr) (standing : Standing) → Each parts.expr args → Each (TaskIsIn t parts) (call_parts t callee args standing)
call_in t parts callee args (BuiltInStands name params result) are =
    each_both (TaskIsIn t parts) (argument_tasks t args params) (RunBuiltIn (built_in name) (t.place callee) result ∷ []) (arguments_in t parts args params are) (tt, tt)
call_in t parts callee args (BodyStands number) are = body_call_in t parts args number (slice_get t.functions number) refl are
call_in t parts callee args other are = (tt, tt)

pub body_in : (t : Text) (parts : Parts t) (function : Function t.Stmt) (held : ℕ) → Each parts.stmt function.body → Each (TaskIsIn t parts) (body_tasks t function held)
body_in t parts function held are =
    each_both (TaskIsIn t parts) (entered t function.body) (map Execute function.body ++ EndOfBody function.is_main function.result function.close held ∷ []) (entered_in t parts function.body)
    (executed_in t parts function.body (EndOfBody function.is_main function.result function.close held ∷ []) are (tt, tt))

pub function_in : (t : Text) (parts : Parts t) (function : Function t.Stmt) (held : ℕ) → Each parts.stmt function.body → Each (TaskIsIn t parts) (function_tasks t function held)
function_in t parts function held are = (
  tt,
  each_both (TaskIsIn t parts) (map (λ param. MakeParameter param.object) function.params) (body_tasks t function held)
      (each_map (TaskIsIn t parts) (λ (param : Parameter). MakeParameter param.object) function.params (λ param. tt)) (body_in t parts function held are),
)

pub main_in : (t : Text) (parts : Parts t) (main : Function t.Stmt) (held : ℕ) → Each parts.stmt main.body →
    Each (TaskIsIn t parts) (map (λ param. MakeObject param.object) main.params ++ body_tasks t main held)
main_in t parts main held are =
    each_both (TaskIsIn t parts) (map (λ param. MakeObject param.object) main.params) (body_tasks t main held)
    (each_map (TaskIsIn t parts) (λ (param : Parameter). MakeObject param.object) main.params (λ param. tt)) (body_in t parts main held are)

-- values
name_in : (t : Text) (parts : Parts t) (expr : t.Expr) (standing : Standing) → parts.expr expr → Each (TaskIsIn t parts) (name_parts t expr standing)
name_in t parts expr (ConstantStands bits) is = (tt, tt)
name_in t parts expr (ObjectStands token) is = (is, (tt, tt))
name_in t parts expr (BuiltInStands name params result) is = (is, (tt, tt))
name_in t parts expr (BodyStands number) is = (is, (tt, tt))
name_in t parts expr NothingStands is = (is, (tt, tt))

known_in : (t : Text) (parts : Parts t) (bits : Option ℕ) → Each (TaskIsIn t parts) (known t bits)
known_in t parts None = (tt, tt)
known_in t parts (Some bits) = (tt, tt)

assign_in : (t : Text) (parts : Parts t) (place : Place) (left right : t.Expr) (kind : Kind) → parts.expr left → parts.expr right → Each (TaskIsIn t parts) (assign_parts t place left right kind)
assign_in t parts place left right (Struct bytes) first second = (first, (second, (tt, tt)))
assign_in t parts place left right (Integer of) first second = (first, (second, (tt, (tt, tt))))
assign_in t parts place left right (Pointer bytes) first second = (first, (second, (tt, (tt, tt))))
assign_in t parts place left right (Array bytes) first second = (first, (second, (tt, (tt, tt))))
assign_in t parts place left right Void first second = (first, (second, (tt, (tt, tt))))

binary_in : (t : Text) (parts : Parts t) (what : BinaryOp) (left right : t.Expr) → parts.expr left → parts.expr right → Each (TaskIsIn t parts) (binary_parts t what left right)
binary_in t parts op.Both left right first second = (first, (second, tt))
binary_in t parts op.Either left right first second = (first, (second, tt))
binary_in t parts op.Comma left right first second = (first, (tt, (second, tt)))
binary_in t parts other left right first second = (first, (second, (tt, tt)))

value_in : (t : Text) (parts : Parts t) → AreParts t parts → (expr : t.Expr) (form : Form t.Expr t.Stmt) → parts.expr expr → FormIn t parts form → Each (TaskIsIn t parts) (value_parts t expr form)
value_in t parts all expr Name is are = name_in t parts expr (t.stands expr) is
value_in t parts all expr (Known bits) is are = known_in t parts bits
value_in t parts all expr (Unary Address arg) is are = (are, tt)
value_in t parts all expr (Unary Follow arg) is are = (is, (tt, tt))
value_in t parts all expr (Unary Not arg) is are = (are, (tt, tt))
value_in t parts all expr (Unary what arg) is are = (are, (tt, tt))
value_in t parts all expr (Binary what left right) is are = binary_in t parts what left right are.0 are.1
value_in t parts all expr (Assign None left right) is are = assign_in t parts (t.place expr) left right (t.kind left) are.0 are.1
value_in t parts all expr (Assign (Some what) left right) is are = (are.0, (are.1, (tt, tt)))
value_in t parts all expr (Count up after arg) is are = (are, (tt, tt))
value_in t parts all expr (Choose test one other) is are = (are.0, (are.1, tt))
value_in t parts all expr (Cast arg) is are = (are, (tt, tt))
value_in t parts all expr (Index base index) is are = (is, (tt, tt))
value_in t parts all expr (Member base offset through) is are = (is, (tt, tt))
value_in t parts all expr (Call callee args) is are = call_in t parts callee args (t.stands callee) are.0
value_in t parts all expr (Inner body close) is are = inner_in t parts all body close are
value_in t parts all expr AssertFail is are = (tt, tt)

pub values_in : (t : Text) (parts : Parts t) → AreParts t parts → (expr : t.Expr) → parts.expr expr → Each (TaskIsIn t parts) (value_tasks t expr)
values_in t parts all expr is = value_in t parts all expr (t.form expr) is (all.forms expr is)

-- statements
return_in : (t : Text) (parts : Parts t) (word : Place) (expr : Option t.Expr) → IfThere parts.expr expr → Each (TaskIsIn t parts) (return_tasks t word expr)
return_in t parts word None is = (tt, (tt, tt))
return_in t parts word (Some expr) is = (is, (tt, tt))

eval_in : (t : Text) (parts : Parts t) (expr : Option t.Expr) (after : Place) → IfThere parts.expr expr → Each (TaskIsIn t parts) (eval_tasks t expr after)
eval_in t parts None after is = tt
eval_in t parts (Some expr) after is = (is, (tt, tt))

clause_in : (t : Text) (parts : Parts t) (stmt : t.Stmt) (held : ℕ) (clause : Clause t.Expr t.Stmt t.Init) → parts.stmt stmt → ClauseIn t parts clause →
    Each (TaskIsIn t parts) (clause_tasks t stmt held clause)
clause_in t parts stmt held (Declare names) is are =
    flat_from (λ name. IfThere parts.init name.init) (TaskIsIn t parts) (declared_tasks t) names (λ name one. declared_by_in t parts name.place (t.automatic name.place) name.init one) are
clause_in t parts stmt held (Eval expr) is are = eval_in t parts expr (t.last stmt) are
clause_in t parts stmt held (Block body) is are = block_in t parts body (t.last stmt) are
clause_in t parts stmt held (If test close one other) is are = (are.0, (is, tt))
clause_in t parts stmt held (While test close body) is are = (is, tt)
clause_in t parts stmt held (Do body test close) is are = (are.0, (is, tt))
clause_in t parts stmt held (For first test semicolon next close body) is are =
    (tt, each_both (TaskIsIn t parts) (objects_in t first) (Execute first ∷ Test stmt ∷ LeaveBlock (t.first stmt) ∷ []) (objects_are_in t parts first) (are.0, (is, (tt, tt))))
clause_in t parts stmt held Break is are = (tt, tt)
clause_in t parts stmt held Continue is are = (tt, tt)
clause_in t parts stmt held (Return expr) is are = return_in t parts (t.first stmt) expr are

pub statements_in : (t : Text) (parts : Parts t) → AreParts t parts → (stmt : t.Stmt) (held : ℕ) → parts.stmt stmt → Each (TaskIsIn t parts) (statement_tasks t stmt held)
statements_in t parts all stmt held is = clause_in t parts stmt held (t.clause stmt) is (all.clauses stmt is)

test_or_turn_in : (t : Text) (parts : Parts t) (stmt : t.Stmt) (held : ℕ) (test : Option t.Expr) (body : t.Stmt) → parts.stmt stmt → IfThere parts.expr test → parts.stmt body →
    Each (TaskIsIn t parts) (test_or_turn t stmt held test body)
test_or_turn_in t parts stmt held None body is one other = (other, (is, tt))
test_or_turn_in t parts stmt held (Some test) body is one other = (one, (is, tt))

test_in : (t : Text) (parts : Parts t) (stmt : t.Stmt) (held : ℕ) (clause : Clause t.Expr t.Stmt t.Init) → parts.stmt stmt → ClauseIn t parts clause → Each (TaskIsIn t parts) (test_parts t stmt held clause)
test_in t parts stmt held (While test close body) is are = (are.0, (is, tt))
test_in t parts stmt held (Do body test close) is are = (are.1, (is, tt))
test_in t parts stmt held (For first test semicolon next close body) is are = test_or_turn_in t parts stmt held test body is are.1.0 are.1.1.1
test_in t parts stmt held other is are = (tt, tt)

pub tests_in : (t : Text) (parts : Parts t) → AreParts t parts → (stmt : t.Stmt) (held : ℕ) → parts.stmt stmt → Each (TaskIsIn t parts) (test_tasks t stmt held)
tests_in t parts all stmt held is = test_in t parts stmt held (t.clause stmt) is (all.clauses stmt is)

again_in : (t : Text) (parts : Parts t) (stmt : t.Stmt) (clause : Clause t.Expr t.Stmt t.Init) → parts.stmt stmt → ClauseIn t parts clause → Each (TaskIsIn t parts) (again_parts t stmt clause)
again_in t parts stmt (For first test semicolon next close body) is are = each_both (TaskIsIn t parts) (eval_tasks t next close) (Test stmt ∷ []) (eval_in t parts next close are.1.1.0) (is, tt)
again_in t parts stmt other is are = (is, tt)

pub turns_in : (t : Text) (parts : Parts t) → AreParts t parts → (stmt : t.Stmt) → parts.stmt stmt → Each (TaskIsIn t parts) (again_tasks t stmt)
turns_in t parts all stmt is = again_in t parts stmt (t.clause stmt) is (all.clauses stmt is)

other_in : (t : Text) (parts : Parts t) (stmt : Option t.Stmt) → IfThere parts.stmt stmt → Each (TaskIsIn t parts) (other_branch t stmt)
other_in t parts None is = tt
other_in t parts (Some stmt) is = (is, tt)

branch_in : (t : Text) (parts : Parts t) (stmt : t.Stmt) (held : ℕ) (clause : Clause t.Expr t.Stmt t.Init) (holds : Bool) → parts.stmt stmt → ClauseIn t parts clause →
    Each (TaskIsIn t parts) (branch_parts t stmt held clause holds)
branch_in t parts stmt held (If test close one other) true is are = (are.1.0, tt)
branch_in t parts stmt held (If test close one other) false is are = other_in t parts other are.1.1
branch_in t parts stmt held (While test close body) true is are = (are.1, (is, tt))
branch_in t parts stmt held (While test close body) false is are = tt
branch_in t parts stmt held (Do body test close) true is are = (are.0, (is, tt))
branch_in t parts stmt held (Do body test close) false is are = tt
branch_in t parts stmt held (For first test semicolon next close body) true is are = (are.1.1.1, (is, tt))
branch_in t parts stmt held (For first test semicolon next close body) false is are = tt
branch_in t parts stmt held other holds is are = (tt, tt)

pub branches_in : (t : Text) (parts : Parts t) → AreParts t parts → (stmt : t.Stmt) (held : ℕ) (holds : Bool) → parts.stmt stmt → Each (TaskIsIn t parts) (branch_tasks t stmt held holds)
branches_in t parts all stmt held holds is = branch_in t parts stmt held (t.clause stmt) holds is (all.clauses stmt is)
