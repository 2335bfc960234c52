-- What a text makes room for takes the operands that it may, and leaves those that it should.
use Rattle.std.proofs.Common.{◌≡◌, ℕ, suc, ◌+◌, ◌-◌, ◌≤◌, List, [], ◌∷◌, ◌++◌, map, length, Bool, true, false, refl, sym, ap, subst, ◌∙◌, Option, None, Some, arith}
use Rattle.std.specs.Prelude.{◌&&◌, nat_le, if◌then◌else◌, slice_get}
use Rattle.std.specs.List.{flat_map}
use Rattle.std.specs.Option.{option_map_or}
use Rattle.std.proofs.lemmas.Bool.{and_parts, leb-true, false≢true}
use Rattle.std.proofs.lemmas.List.{length-map}
use Rattle.cbase.specs.declared.place.Place.{Place}
use Rattle.cbase.specs.declared.tree.operators.BinaryOp.{BinaryOp}
use Rattle.cbase.specs.declared.tree.operators.BinaryOp.TheVariants as op
use Rattle.cbase.specs.declared.tree.operators.UnaryOp.TheVariants.{Address, Follow, Not}
use Rattle.c_machine.specs.declared.kind.Kind.{Kind}
use Rattle.c_machine.specs.declared.kind.Kind.TheVariants.{Integer, Pointer, Array, Struct, Void}
use Rattle.c_machine.specs.declared.object.Object.{Object}
use Rattle.c_machine.specs.declared.task.Task.TheVariants.{ValueOf, AddressOf, Push, ObjectAt, Shift, Load, Convert, Apply, Operate, Answer, AndThen, OrElse, Pick, Drop, Update, CountBy, CopyStruct, RunBuiltIn, CallDefined, EndRun, Finish, Keep, Execute, Branch, Test, Again, OpenBlock, MakeObject, MakeParameter, LeaveBlock, Zero, Initialise, BreakAt, ContinueAt, EndOfBody, Unknown}
use Rattle.c_machine.specs.Awaiting.{count_of_parameters, takes, gives, Changes, held_by, HoldAtMost, Leads, Parts, CallsRightly, FormIn, AreParts}
use Rattle.c_machine.specs.Blocks.{names_in, made, objects_in, entered, in_block, are_empty, last_tasks, valued, in_inner_block, set_by, set, initialiser_parts, initialiser_tasks, zeroed, declared_by, declared_tasks}
use Rattle.c_machine.specs.Calls.{body_tasks, function_tasks}
use Rattle.c_machine.specs.Expressions.{value_kind, named, address_parts, address_tasks, name_parts, known, assign_parts, argument_tasks, body_call, call_parts, binary_parts, value_parts, value_tasks, built_in}
use Rattle.c_machine.specs.Fitting.{IfThere}
use Rattle.c_machine.specs.State.{TaskIn}
use Rattle.c_machine.specs.Statements.{return_tasks, eval_tasks, clause_tasks, statement_tasks, test_or_turn, test_parts, test_tasks, again_parts, again_tasks, other_branch, branch_parts, branch_tasks}
use Rattle.c_machine.specs.Text.{Standing, ObjectStands, ConstantStands, BuiltInStands, BodyStands, NothingStands, Form, Name, Known, Unary, Binary, Assign, Count, Choose, Cast, Index, Member, Call, Inner, AssertFail, Initialiser, Value, Braces, Clause, Declare, Eval, Block, If, While, Do, For, Break, Continue, Return, Store as Stored, Parameter, Function, Text}

-- fewer and more operands
pub hold_more : (t : Text) (count more : ℕ) (tasks : List (TaskIn t)) → count ≤ more → HoldAtMost t count tasks → HoldAtMost t more tasks
hold_more t count more [] enough hold = tt
hold_more t count more (task ∷ rest) enough hold = (let own : held_by t task ≤ count = hold.0 in omega arith, hold_more t count more rest enough hold.1)

pub hold_both : (t : Text) (count : ℕ) (one other : List (TaskIn t)) → HoldAtMost t count one → HoldAtMost t count other → HoldAtMost t count (one ++ other)
hold_both t count [] other first second = second
hold_both t count (task ∷ one) other first second = (first.0, hold_both t count one other first.1 second)

pub leads_lower : (t : Text) (low base before after : ℕ) (tasks : List (TaskIn t)) → low ≤ base → Leads t base before tasks after → Leads t low before tasks after
leads_lower t low base before after [] enough leads = leads
leads_lower t low base before after (task ∷ rest) enough (left, mid, changes, more, hold, later) =
    (left, mid, changes, omega arith, hold, leads_lower t low base mid after rest enough later)

-- one list behind another
pub leads_both : (t : Text) (low base before mid after : ℕ) (one other : List (TaskIn t)) → low ≤ base → HoldAtMost t base other → Leads t base before one mid → Leads t low mid other after →
    Leads t low before (one ++ other) after
leads_both t low base before mid after [] other enough hold first second = subst (λ (n : ℕ). Leads t low n other after) (sym first) second
leads_both t low base before mid after (task ∷ one) other enough hold (left, next, changes, more, held, later) second =
    (left, next, changes, omega arith, hold_both t left one other held (hold_more t base left other more hold), leads_both t low base next mid after one other enough hold later second)

-- above `base` operands such a list leads from some to some, and no loop or body in it holds more than `base`
abbrev pub Part : (t : Text) → (base before : ℕ) → List (TaskIn t) → ℕ → Type 0
Part t base before tasks after = Leads t base (before + base) tasks (after + base) × HoldAtMost t base tasks

pub part_both : (t : Text) (base before mid after : ℕ) (one other : List (TaskIn t)) → Part t base before one mid → Part t base mid other after → Part t base before (one ++ other) after
part_both t base before mid after one other first second =
    (leads_both t base base (before + base) (mid + base) (after + base) one other (omega arith) second.1 first.0 second.0, hold_both t base one other first.1 second.1)

-- things to do of which each takes and leaves a number of operands that is known
abbrev is_plain : (t : Text) → TaskIn t → Bool
is_plain t (RunBuiltIn what place result) = false
is_plain t (CallDefined number) = false
is_plain t (Again stmt held) = false
is_plain t (EndOfBody is_main result close held) = false
is_plain t Unknown = false
is_plain t other = true

plain_changes : (t : Text) (task : TaskIn t) (left : ℕ) → is_plain t task ≡ true → Changes t task (takes t task + left) left (gives t task + left)
plain_changes t (RunBuiltIn what place result) left plain = absurd (false≢true plain)
plain_changes t (CallDefined number) left plain = absurd (false≢true plain)
plain_changes t (Again stmt held) left plain = absurd (false≢true plain)
plain_changes t (EndOfBody is_main result close held) left plain = absurd (false≢true plain)
plain_changes t Unknown left plain = absurd (false≢true plain)
plain_changes t other left plain = (refl, refl)

plain_holds : (t : Text) (task : TaskIn t) (count : ℕ) → is_plain t task ≡ true → held_by t task ≤ count
plain_holds t (Again stmt held) count plain = absurd (false≢true plain)
plain_holds t (EndOfBody is_main result close held) count plain = absurd (false≢true plain)
plain_holds t other count plain = omega arith

abbrev balance : (t : Text) → ℕ → List (TaskIn t) → Option ℕ
balance t count [] = Some count
balance t count (task ∷ rest) = if is_plain t task && nat_le (takes t task) count then balance t (gives t task + (count - takes t task)) rest else None

balance_holds : (t : Text) (base count after : ℕ) (tasks : List (TaskIn t)) → balance t count tasks ≡ Some after → HoldAtMost t base tasks
balance_holds t base count after [] is = tt
balance_holds t base count after (task ∷ rest) is = by_test (is_plain t task && nat_le (takes t task) count) refl is (balance_holds t base (gives t task + (count - takes t task)) after rest)
  where
    by_test : (b : Bool) → is_plain t task && nat_le (takes t task) count ≡ b → (if b then balance t (gives t task + (count - takes t task)) rest else None) ≡ Some after →
        (balance t (gives t task + (count - takes t task)) rest ≡ Some after → HoldAtMost t base rest) → HoldAtMost t base (task ∷ rest)
    by_test true passes is later = (plain_holds t task base (and_parts (is_plain t task) (nat_le (takes t task) count) passes).0, later is)
    by_test false passes is later = absurd cc

balance_leads : (t : Text) (base count after : ℕ) (tasks : List (TaskIn t)) → balance t count tasks ≡ Some after → Leads t base (count + base) tasks (after + base)
balance_leads t base count after [] is = let same : count ≡ after = cc in ap (λ (n : ℕ). n + base) same
balance_leads t base count after (task ∷ rest) is =
    by_test (is_plain t task && nat_le (takes t task) count) refl is (balance_leads t base (gives t task + (count - takes t task)) after rest)
  where
    by_test : (b : Bool) → is_plain t task && nat_le (takes t task) count ≡ b → (if b then balance t (gives t task + (count - takes t task)) rest else None) ≡ Some after →
        (balance t (gives t task + (count - takes t task)) rest ≡ Some after → Leads t base ((gives t task + (count - takes t task)) + base) rest (after + base)) →
        Leads t base (count + base) (task ∷ rest) (after + base)
    by_test true passes is further =
        let parts = and_parts (is_plain t task) (nat_le (takes t task) count) passes in
        let room : takes t task ≤ count = leb-true (takes t task) count parts.1 in
        let left : ℕ = (count - takes t task) + base in
        let before : takes t task + left ≡ count + base = omega arith in
        let later : Leads t base ((gives t task + (count - takes t task)) + base) rest (after + base) = further is in
        let mid : (gives t task + (count - takes t task)) + base ≡ gives t task + left = omega arith in (
          left,
          gives t task + left,
          subst (λ (n : ℕ). Changes t task n left (gives t task + left)) before (plain_changes t task left parts.0),
          omega arith,
          balance_holds t left (gives t task + (count - takes t task)) after rest is,
          subst (λ (n : ℕ). Leads t base n rest (after + base)) mid later,
        )
    by_test false passes is further = absurd cc

pub plain_part : (t : Text) (base before after : ℕ) (tasks : List (TaskIn t)) → balance t before tasks ≡ Some after → Part t base before tasks after
plain_part t base before after tasks is = (balance_leads t base before after tasks is, balance_holds t base before after tasks is)

-- what no program does
unknown_part : (t : Text) (base after : ℕ) → Part t base 0 (Unknown ∷ []) after
unknown_part t base after = ((base, after + base, (omega arith, omega arith), omega arith, tt, refl), (omega arith, tt))

-- parts that leave as many as there were
flat_part : {X : Type 0} (t : Text) (base : ℕ) (f : X → List (TaskIn t)) (items : List X) → ((item : X) → Part t base 0 (f item) 0) → Part t base 0 (flat_map f items) 0
flat_part t base f [] each = (refl, tt)
flat_part t base f (item ∷ rest) each = part_both t base 0 0 0 (f item) (flat_map f rest) (each item) (flat_part t base f rest each)

pub map_part : {X : Type 0} (t : Text) (base : ℕ) (f : X → TaskIn t) (items : List X) → ((item : X) → balance t 0 (f item ∷ []) ≡ Some 0) → Part t base 0 (map f items) 0
map_part t base f [] each = (refl, tt)
map_part t base f (item ∷ rest) each = part_both t base 0 0 0 (f item ∷ []) (map f rest) (plain_part t base 0 0 (f item ∷ []) (each item)) (map_part t base f rest each)

-- addresses
named_part : (t : Text) (base : ℕ) (standing : Standing) → Part t base 0 (named t standing) 1
named_part t base (ObjectStands token) = plain_part t base 0 1 (ObjectAt token ∷ []) refl
named_part t base (ConstantStands bits) = unknown_part t base 1
named_part t base (BuiltInStands name params result) = unknown_part t base 1
named_part t base (BodyStands number) = unknown_part t base 1
named_part t base NothingStands = unknown_part t base 1

address_part : (t : Text) (base : ℕ) (expr : t.Expr) (form : Form t.Expr t.Stmt) → Part t base 0 (address_parts t expr form) 1
address_part t base expr Name = named_part t base (t.stands expr)
address_part t base expr (Unary Follow arg) = plain_part t base 0 1 (ValueOf arg ∷ []) refl
address_part t base expr (Index one index) = plain_part t base 0 1 (address_parts t expr (Index one index)) refl
address_part t base expr (Member one offset false) = plain_part t base 0 1 (AddressOf one ∷ Shift offset ∷ []) refl
address_part t base expr (Member one offset true) = plain_part t base 0 1 (ValueOf one ∷ Shift offset ∷ []) refl
address_part t base expr other = unknown_part t base 1

pub addresses : (t : Text) (base : ℕ) (expr : t.Expr) → Part t base 0 (address_tasks t expr) 1
addresses t base expr = address_part t base expr (t.form expr)

-- blocks
made_part : (t : Text) (base : ℕ) (object : Option Object) → Part t base 0 (made t object) 0
made_part t base None = (refl, tt)
made_part t base (Some object) = plain_part t base 0 0 (MakeObject object ∷ []) refl

objects_part : (t : Text) (base : ℕ) (stmt : t.Stmt) → Part t base 0 (objects_in t stmt) 0
objects_part t base stmt = flat_part t base (λ name. made t (t.automatic name.place)) (names_in (t.clause stmt)) (λ name. made_part t base (t.automatic name.place))

entered_part : (t : Text) (base : ℕ) (body : List t.Stmt) → Part t base 0 (entered t body) 0
entered_part t base body = flat_part t base (objects_in t) body (objects_part t base)

executed_part : (t : Text) (base : ℕ) (body : List t.Stmt) → Part t base 0 (map Execute body) 0
executed_part t base body = map_part t base Execute body (λ stmt. refl)

in_front : (t : Text) (base before mid after : ℕ) (task : TaskIn t) (rest : List (TaskIn t)) → balance t before (task ∷ []) ≡ Some mid → Part t base mid rest after → Part t base before (task ∷ rest) after
in_front t base before mid after task rest is later = part_both t base before mid after (task ∷ []) rest (plain_part t base before mid (task ∷ []) is) later

block_part : (t : Text) (base : ℕ) (body : List t.Stmt) (close : Place) → Part t base 0 (in_block t body close) 0
block_part t base body close =
    in_front t base 0 0 0 OpenBlock _ refl (part_both t base 0 0 0 (entered t body) (map Execute body ++ LeaveBlock close ∷ []) (entered_part t base body)
    (part_both t base 0 0 0 (map Execute body) (LeaveBlock close ∷ []) (executed_part t base body) (plain_part t base 0 0 (LeaveBlock close ∷ []) refl)))

last_part : (t : Text) (base : ℕ) (stmt : t.Stmt) (clause : Clause t.Expr t.Stmt t.Init) → Part t base 0 (last_tasks t stmt clause) 1
last_part t base stmt (Eval (Some expr)) = plain_part t base 0 1 (ValueOf expr ∷ Keep (t.last stmt) ∷ []) refl
last_part t base stmt other = plain_part t base 0 1 (Execute stmt ∷ Push 0 ∷ []) refl

valued_part : (t : Text) (base : ℕ) (body : List t.Stmt) → Part t base 0 (valued t body) 1
valued_part t base [] = plain_part t base 0 1 (Push 0 ∷ []) refl
valued_part t base (stmt ∷ body) = by_last (are_empty t body) (valued_part t base body)
  where
    by_last : (b : Bool) → Part t base 0 (valued t body) 1 → Part t base 0 (if b then last_tasks t stmt (t.clause stmt) else Execute stmt ∷ valued t body) 1
    by_last true later = last_part t base stmt (t.clause stmt)
    by_last false later = in_front t base 0 0 1 (Execute stmt) (valued t body) refl later

inner_part : (t : Text) (base : ℕ) (body : List t.Stmt) (close : Place) → Part t base 0 (in_inner_block t body close) 1
inner_part t base body close =
    in_front t base 0 0 1 OpenBlock _ refl (part_both t base 0 0 1 (entered t body) (valued t body ++ LeaveBlock close ∷ []) (entered_part t base body)
    (part_both t base 0 1 1 (valued t body) (LeaveBlock close ∷ []) (valued_part t base body) (plain_part t base 1 1 (LeaveBlock close ∷ []) refl)))

-- initialisers
set_by_part : (t : Text) (base : ℕ) (place : Place) (kind : Kind) (expr : t.Expr) → Part t base 1 (set_by t place kind expr) 1
set_by_part t base place (Struct bytes) expr = plain_part t base 1 1 (AddressOf expr ∷ CopyStruct place bytes ∷ []) refl
set_by_part t base place (Integer of) expr = plain_part t base 1 1 (set_by t place (Integer of) expr) refl
set_by_part t base place (Pointer bytes) expr = plain_part t base 1 1 (set_by t place (Pointer bytes) expr) refl
set_by_part t base place (Array bytes) expr = plain_part t base 1 1 (set_by t place (Array bytes) expr) refl
set_by_part t base place Void expr = plain_part t base 1 1 (set_by t place Void expr) refl

set_part : (t : Text) (base : ℕ) (place : Place) (expr : t.Expr) (after : Place) (stored : Option Stored) → Part t base 0 (set t place expr after stored) 0
set_part t base place expr after None = unknown_part t base 0
set_part t base place expr after (Some stored) =
    part_both t base 0 1 0 (ObjectAt (t.token place) ∷ Shift stored.offset ∷ []) (set_by t place stored.kind expr ++ Finish after ∷ [])
    (plain_part t base 0 1 (ObjectAt (t.token place) ∷ Shift stored.offset ∷ []) refl)
    (part_both t base 1 1 0 (set_by t place stored.kind expr) (Finish after ∷ []) (set_by_part t base place stored.kind expr) (plain_part t base 1 0 (Finish after ∷ []) refl))

initialiser_part : (t : Text) (base : ℕ) (place : Place) (init : Initialiser t.Expr t.Init) → Part t base 0 (initialiser_parts t place init) 0
initialiser_part t base place (Value value after) = set_part t base place value after (t.store place value)
initialiser_part t base place (Braces parts) = map_part t base (Initialise place) parts (λ part. refl)

pub initialisers : (t : Text) (base : ℕ) (place : Place) (init : t.Init) → Part t base 0 (initialiser_tasks t place init) 0
initialisers t base place init = initialiser_part t base place (t.initialiser init)

zeroed_part : (t : Text) (base : ℕ) (place : Place) (object : Object) (init : Initialiser t.Expr t.Init) → Part t base 0 (zeroed t place object init) 0
zeroed_part t base place object (Value value after) = (refl, tt)
zeroed_part t base place object (Braces parts) = plain_part t base 0 0 (ObjectAt (t.token place) ∷ Zero place object.bytes ∷ []) refl

declared_by_part : (t : Text) (base : ℕ) (place : Place) (object : Option Object) (init : Option t.Init) → Part t base 0 (declared_by t place object init) 0
declared_by_part t base place None init = (refl, tt)
declared_by_part t base place (Some object) None = (refl, tt)
declared_by_part t base place (Some object) (Some init) =
    part_both t base 0 0 0 (zeroed t place object (t.initialiser init)) (Initialise place init ∷ []) (zeroed_part t base place object (t.initialiser init)) (plain_part t base 0 0 (Initialise place init ∷ []) refl)

-- calls
arguments_part : (t : Text) (base before : ℕ) (args : List t.Expr) (params : List Kind) → length args ≡ length params → Part t base before (argument_tasks t args params) (length args + before)
arguments_part t base before [] params same = (omega arith, tt)
arguments_part t base before (arg ∷ args) [] same = absurd (omega arith)
arguments_part t base before (arg ∷ args) (param ∷ params) same =
    let one : Part t (before + base) 0 (ValueOf arg ∷ Convert (value_kind t arg) param ∷ []) 1 = plain_part t (before + base) 0 1 (ValueOf arg ∷ Convert (value_kind t arg) param ∷ []) refl in
    let first : Leads t base (before + base) (ValueOf arg ∷ Convert (value_kind t arg) param ∷ []) (suc before + base) =
    leads_lower t base (before + base) (before + base) (suc before + base) (ValueOf arg ∷ Convert (value_kind t arg) param ∷ []) (omega arith)
    (subst (λ (n : ℕ). Leads t (before + base) (before + base) (ValueOf arg ∷ Convert (value_kind t arg) param ∷ []) n) (omega arith)
    (subst (λ (n : ℕ). Leads t (before + base) n (ValueOf arg ∷ Convert (value_kind t arg) param ∷ []) (1 + (before + base))) (omega arith) one.0)) in
    let others : Part t base (suc before) (argument_tasks t args params) (length args + suc before) = arguments_part t base (suc before) args params (omega arith) in
    let both = part_both t base before (suc before) (length args + suc before) (ValueOf arg ∷ Convert (value_kind t arg) param ∷ []) (argument_tasks t args params) (first, (omega arith, (omega arith, tt))) others in
    subst (λ (n : ℕ). Part t base before (argument_tasks t (arg ∷ args) (param ∷ params)) n) (omega arith) both

body_call_part : (t : Text) (base : ℕ) (args : List t.Expr) (number : ℕ) (found : Option (Function t.Stmt)) → slice_get t.functions number ≡ found →
    IfThere (λ function. length args ≡ length function.params) found → Part t base 0 (body_call t args number found) 1
body_call_part t base args number None stands same = unknown_part t base 1
body_call_part t base args number (Some function) stands same =
    let kinds : List Kind = map (λ (param : Parameter). param.kind) function.params in
    let count : count_of_parameters t number ≡ length function.params = ap (λ (found : Option (Function t.Stmt)). option_map_or (λ (function : Function t.Stmt). length function.params) found 0) stands in
    let long : length args ≡ length kinds = same ∙ sym (length-map function.params (λ (param : Parameter). param.kind)) in
    part_both t base 0 (length args + 0) 1 (argument_tasks t args kinds) (CallDefined number ∷ []) (arguments_part t base 0 args kinds long)
    ((base, suc base, (omega arith, omega arith), omega arith, tt, omega arith), (omega arith, tt))

call_part : (t : Text) (base : ℕ) (callee : t.Expr) (args : List t.Expr) (standing : Standing) → CallsRightly t args standing → Part t base 0 (call_parts t callee args standing) 1
call_part t base callee args (BuiltInStands name params result) right =
    part_both t base 0 (length args + 0) 1 (argument_tasks t args params) (RunBuiltIn (built_in name) (t.place callee) result ∷ []) (arguments_part t base 0 args params right.0)
    ((base, suc base, (length params, right.1, (let same : length args ≡ length params = right.0 in omega arith), refl), omega arith, tt, omega arith), (omega arith, tt))
call_part t base callee args (BodyStands number) right = body_call_part t base args number (slice_get t.functions number) refl right
call_part t base callee args (ObjectStands token) right = unknown_part t base 1
call_part t base callee args (ConstantStands bits) right = unknown_part t base 1
call_part t base callee args NothingStands right = unknown_part t base 1

body_part : (t : Text) (base : ℕ) (function : Function t.Stmt) → Part t base 0 (body_tasks t function base) 1
body_part t base function =
    part_both t base 0 0 1 (entered t function.body) _ (entered_part t base function.body)
    (part_both t base 0 0 1 (map Execute function.body) (EndOfBody function.is_main function.result function.close base ∷ []) (executed_part t base function.body)
    ((base, suc base, (omega arith, refl, refl), omega arith, tt, omega arith), (omega arith, tt)))

parameters_part : (t : Text) (base : ℕ) (params : List Parameter) → Part t base (length params) (map (λ param. MakeParameter param.object) params) 0
parameters_part t base [] = (refl, tt)
parameters_part t base (param ∷ params) =
    let others : Part t base (length params) (map (λ param. MakeParameter param.object) params) 0 = parameters_part t base params in (
      (length params + base, length params + base, (omega arith, omega arith), omega arith, hold_more t base (length params + base) (map (λ param. MakeParameter param.object) params) (omega arith) others.1, others.0),
      (omega arith, others.1),
    )

pub functions_part : (t : Text) (base : ℕ) (function : Function t.Stmt) → Part t base (length function.params) (function_tasks t function base) 1
functions_part t base function =
    let rest : Part t base (length function.params) (map (λ param. MakeParameter param.object) function.params ++ body_tasks t function base) 1 =
    part_both t base (length function.params) 0 1 (map (λ param. MakeParameter param.object) function.params) (body_tasks t function base) (parameters_part t base function.params) (body_part t base function) in
    ((length function.params + base, length function.params + base, (omega arith, omega arith), omega arith, hold_more t base (length function.params + base) _ (omega arith) rest.1, rest.0), (omega arith, rest.1))

pub main_part : (t : Text) (base : ℕ) (main : Function t.Stmt) → Part t base 0 (OpenBlock ∷ (map (λ param. MakeObject param.object) main.params ++ body_tasks t main base)) 1
main_part t base main =
    in_front t base 0 0 1 OpenBlock _ refl (part_both t base 0 0 1 (map (λ param. MakeObject param.object) main.params) (body_tasks t main base)
    (map_part t base (λ (param : Parameter). MakeObject param.object) main.params (λ param. refl)) (body_part t base main))

-- values
name_part : (t : Text) (base : ℕ) (expr : t.Expr) (standing : Standing) → Part t base 0 (name_parts t expr standing) 1
name_part t base expr (ConstantStands bits) = plain_part t base 0 1 (Push bits ∷ []) refl
name_part t base expr (ObjectStands token) = plain_part t base 0 1 (AddressOf expr ∷ Load (t.place expr) (t.kind expr) ∷ []) refl
name_part t base expr (BuiltInStands name params result) = plain_part t base 0 1 (AddressOf expr ∷ Load (t.place expr) (t.kind expr) ∷ []) refl
name_part t base expr (BodyStands number) = plain_part t base 0 1 (AddressOf expr ∷ Load (t.place expr) (t.kind expr) ∷ []) refl
name_part t base expr NothingStands = plain_part t base 0 1 (AddressOf expr ∷ Load (t.place expr) (t.kind expr) ∷ []) refl

known_part : (t : Text) (base : ℕ) (bits : Option ℕ) → Part t base 0 (known t bits) 1
known_part t base None = unknown_part t base 1
known_part t base (Some bits) = plain_part t base 0 1 (Push bits ∷ []) refl

assign_part : (t : Text) (base : ℕ) (place : Place) (left right : t.Expr) (kind : Kind) → Part t base 0 (assign_parts t place left right kind) 1
assign_part t base place left right (Struct bytes) = plain_part t base 0 1 (AddressOf left ∷ AddressOf right ∷ CopyStruct place bytes ∷ []) refl
assign_part t base place left right (Integer of) = plain_part t base 0 1 (assign_parts t place left right (Integer of)) refl
assign_part t base place left right (Pointer bytes) = plain_part t base 0 1 (assign_parts t place left right (Pointer bytes)) refl
assign_part t base place left right (Array bytes) = plain_part t base 0 1 (assign_parts t place left right (Array bytes)) refl
assign_part t base place left right Void = plain_part t base 0 1 (assign_parts t place left right Void) refl

binary_part : (t : Text) (base : ℕ) (what : BinaryOp) (left right : t.Expr) → Part t base 0 (binary_parts t what left right) 1
binary_part t base op.Both left right = plain_part t base 0 1 (ValueOf left ∷ AndThen right ∷ []) refl
binary_part t base op.Either left right = plain_part t base 0 1 (ValueOf left ∷ OrElse right ∷ []) refl
binary_part t base op.Comma left right = plain_part t base 0 1 (ValueOf left ∷ Drop ∷ ValueOf right ∷ []) refl
binary_part t base other left right = plain_part t base 0 1 (ValueOf left ∷ ValueOf right ∷ Operate other (value_kind t left) (value_kind t right) ∷ []) refl

value_part : (t : Text) (parts : Parts t) (base : ℕ) (expr : t.Expr) (form : Form t.Expr t.Stmt) → FormIn t parts form → Part t base 0 (value_parts t expr form) 1
value_part t parts base expr Name are = name_part t base expr (t.stands expr)
value_part t parts base expr (Known bits) are = known_part t base bits
value_part t parts base expr (Unary Address arg) are = plain_part t base 0 1 (AddressOf arg ∷ []) refl
value_part t parts base expr (Unary Follow arg) are = plain_part t base 0 1 (AddressOf expr ∷ Load (t.place expr) (t.kind expr) ∷ []) refl
value_part t parts base expr (Unary Not arg) are = plain_part t base 0 1 (ValueOf arg ∷ Answer false ∷ []) refl
value_part t parts base expr (Unary what arg) are = plain_part t base 0 1 (ValueOf arg ∷ Apply what (value_kind t arg) ∷ []) refl
value_part t parts base expr (Binary what left right) are = binary_part t base what left right
value_part t parts base expr (Assign None left right) are = assign_part t base (t.place expr) left right (t.kind left)
value_part t parts base expr (Assign (Some what) left right) are = plain_part t base 0 1 (AddressOf left ∷ ValueOf right ∷ Update what (t.place left) (t.kind left) (value_kind t right) ∷ []) refl
value_part t parts base expr (Count up after arg) are = plain_part t base 0 1 (AddressOf arg ∷ CountBy up after (t.place arg) (t.kind arg) ∷ []) refl
value_part t parts base expr (Choose test one other) are = plain_part t base 0 1 (ValueOf test ∷ Pick (value_kind t expr) one other ∷ []) refl
value_part t parts base expr (Cast arg) are = plain_part t base 0 1 (ValueOf arg ∷ Convert (value_kind t arg) (t.kind expr) ∷ []) refl
value_part t parts base expr (Index one index) are = plain_part t base 0 1 (AddressOf expr ∷ Load (t.place expr) (t.kind expr) ∷ []) refl
value_part t parts base expr (Member one offset through) are = plain_part t base 0 1 (AddressOf expr ∷ Load (t.place expr) (t.kind expr) ∷ []) refl
value_part t parts base expr (Call callee args) are = call_part t base callee args (t.stands callee) are.1
value_part t parts base expr (Inner body close) are = inner_part t base body close
value_part t parts base expr AssertFail are = plain_part t base 0 1 (EndRun ∷ []) refl

pub values : (t : Text) (parts : Parts t) → AreParts t parts → (base : ℕ) (expr : t.Expr) → parts.expr expr → Part t base 0 (value_tasks t expr) 1
values t parts all base expr is = value_part t parts base expr (t.form expr) (all.forms expr is)

-- statements
return_part : (t : Text) (base : ℕ) (word : Place) (expr : Option t.Expr) → Part t base 0 (return_tasks t word expr) 0
return_part t base word None = plain_part t base 0 0 (return_tasks t word None) refl
return_part t base word (Some expr) = plain_part t base 0 0 (return_tasks t word (Some expr)) refl

eval_part : (t : Text) (base : ℕ) (expr : Option t.Expr) (after : Place) → Part t base 0 (eval_tasks t expr after) 0
eval_part t base None after = (refl, tt)
eval_part t base (Some expr) after = plain_part t base 0 0 (ValueOf expr ∷ Finish after ∷ []) refl

turn_part : (t : Text) (base : ℕ) (stmt body : t.Stmt) → Part t base 0 (Execute body ∷ Again stmt base ∷ []) 0
turn_part t base stmt body =
    in_front t base 0 0 0 (Execute body) (Again stmt base ∷ []) refl ((base, base, (omega arith, refl, refl), omega arith, tt, omega arith), (omega arith, tt))

clause_part : (t : Text) (base : ℕ) (stmt : t.Stmt) (clause : Clause t.Expr t.Stmt t.Init) → Part t base 0 (clause_tasks t stmt base clause) 0
clause_part t base stmt (Declare names) = flat_part t base (declared_tasks t) names (λ name. declared_by_part t base name.place (t.automatic name.place) name.init)
clause_part t base stmt (Eval expr) = eval_part t base expr (t.last stmt)
clause_part t base stmt (Block body) = block_part t base body (t.last stmt)
clause_part t base stmt (If test close one other) = plain_part t base 0 0 (ValueOf test ∷ Branch stmt ∷ []) refl
clause_part t base stmt (While test close body) = plain_part t base 0 0 (Test stmt ∷ []) refl
clause_part t base stmt (Do body test close) = turn_part t base stmt body
clause_part t base stmt (For first test semicolon next close body) =
    in_front t base 0 0 0 OpenBlock _ refl (part_both t base 0 0 0 (objects_in t first) (Execute first ∷ Test stmt ∷ LeaveBlock (t.first stmt) ∷ []) (objects_part t base first)
    (plain_part t base 0 0 (Execute first ∷ Test stmt ∷ LeaveBlock (t.first stmt) ∷ []) refl))
clause_part t base stmt Break = plain_part t base 0 0 (BreakAt (t.first stmt) ∷ []) refl
clause_part t base stmt Continue = plain_part t base 0 0 (ContinueAt (t.first stmt) ∷ []) refl
clause_part t base stmt (Return expr) = return_part t base (t.first stmt) expr

pub statements : (t : Text) (base : ℕ) (stmt : t.Stmt) → Part t base 0 (statement_tasks t stmt base) 0
statements t base stmt = clause_part t base stmt (t.clause stmt)

test_or_turn_part : (t : Text) (base : ℕ) (stmt : t.Stmt) (test : Option t.Expr) (body : t.Stmt) → Part t base 0 (test_or_turn t stmt base test body) 0
test_or_turn_part t base stmt None body = turn_part t base stmt body
test_or_turn_part t base stmt (Some test) body = plain_part t base 0 0 (ValueOf test ∷ Branch stmt ∷ []) refl

test_part : (t : Text) (base : ℕ) (stmt : t.Stmt) (clause : Clause t.Expr t.Stmt t.Init) → Part t base 0 (test_parts t stmt base clause) 0
test_part t base stmt (While test close body) = plain_part t base 0 0 (ValueOf test ∷ Branch stmt ∷ []) refl
test_part t base stmt (Do body test close) = plain_part t base 0 0 (ValueOf test ∷ Branch stmt ∷ []) refl
test_part t base stmt (For first test semicolon next close body) = test_or_turn_part t base stmt test body
test_part t base stmt other = unknown_part t base 0

pub tests : (t : Text) (base : ℕ) (stmt : t.Stmt) → Part t base 0 (test_tasks t stmt base) 0
tests t base stmt = test_part t base stmt (t.clause stmt)

again_part : (t : Text) (base : ℕ) (stmt : t.Stmt) (clause : Clause t.Expr t.Stmt t.Init) → Part t base 0 (again_parts t stmt clause) 0
again_part t base stmt (For first test semicolon next close body) =
    part_both t base 0 0 0 (eval_tasks t next close) (Test stmt ∷ []) (eval_part t base next close) (plain_part t base 0 0 (Test stmt ∷ []) refl)
again_part t base stmt other = plain_part t base 0 0 (Test stmt ∷ []) refl

pub turns : (t : Text) (base : ℕ) (stmt : t.Stmt) → Part t base 0 (again_tasks t stmt) 0
turns t base stmt = again_part t base stmt (t.clause stmt)

other_part : (t : Text) (base : ℕ) (stmt : Option t.Stmt) → Part t base 0 (other_branch t stmt) 0
other_part t base None = (refl, tt)
other_part t base (Some stmt) = plain_part t base 0 0 (Execute stmt ∷ []) refl

branch_part : (t : Text) (base : ℕ) (stmt : t.Stmt) (clause : Clause t.Expr t.Stmt t.Init) (holds : Bool) → Part t base 0 (branch_parts t stmt base clause holds) 0
branch_part t base stmt (If test close one other) true = plain_part t base 0 0 (Execute one ∷ []) refl
branch_part t base stmt (If test close one other) false = other_part t base other
branch_part t base stmt (While test close body) true = turn_part t base stmt body
branch_part t base stmt (While test close body) false = (refl, tt)
branch_part t base stmt (Do body test close) true = turn_part t base stmt body
branch_part t base stmt (Do body test close) false = (refl, tt)
branch_part t base stmt (For first test semicolon next close body) true = turn_part t base stmt body
branch_part t base stmt (For first test semicolon next close body) false = (refl, tt)
branch_part t base stmt other holds = unknown_part t base 0

pub branches : (t : Text) (base : ℕ) (stmt : t.Stmt) (holds : Bool) → Part t base 0 (branch_tasks t stmt base holds) 0
branches t base stmt holds = branch_part t base stmt (t.clause stmt) holds
