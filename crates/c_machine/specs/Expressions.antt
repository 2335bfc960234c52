-- What expressions are made of, in the order in which it is done: from left to right (C11 6.5 leaves that open).
use Rattle.std.specs.Prelude.{ℕ, Bool, true, false, ◌||◌, List, [], ◌∷◌, ◌++◌, map, codes, Option, None, Some, slice_get, if◌then◌else◌}
use Rattle.std.specs.Str.{bytes_eq}
use Rattle.cbase.specs.declared.place.Place.{Place}
use Rattle.cbase.specs.declared.tree.operators.BinaryOp.{BinaryOp}
use Rattle.cbase.specs.declared.tree.operators.BinaryOp.TheVariants.{Add, Both, Either, Comma}
use Rattle.cbase.specs.declared.tree.operators.UnaryOp.TheVariants.{Address, Follow, Not}
use Rattle.c_machine.specs.declared.kind.Kind.TheVariants.{Struct}
use Rattle.c_machine.specs.declared.kind.Kind.{Kind}
use Rattle.c_machine.specs.Text.{Standing, ObjectStands, ConstantStands, BuiltInStands, BodyStands, Form, Name, Known, Unary, Binary, Assign, Count, Choose, Cast, Index, Member, Call, Inner, AssertFail, Function, Text}
use Rattle.c_machine.specs.declared.built_in.BuiltIn.TheVariants.{Malloc, Calloc, Free, Memset, Memcpy, Memmove, EndsRun, Assume, Expect, GivesInput}
use Rattle.c_machine.specs.declared.built_in.BuiltIn.{BuiltIn}
use Rattle.c_machine.specs.declared.task.Task.TheVariants.{ValueOf, AddressOf, Push, ObjectAt, Shift, Load, Convert, Apply, Operate, Answer, AndThen, OrElse, Pick, Drop, Store, Update, CountBy, CopyStruct, RunBuiltIn, CallDefined, EndRun, Unknown}
use Rattle.c_machine.specs.State.{TaskIn}
use Rattle.c_machine.specs.Words.{decayed}
use Rattle.c_machine.specs.Blocks.{in_inner_block}

-- the kind of the value of an expression
abbrev pub value_kind : (t : Text) → t.Expr → Kind
value_kind t expr = decayed (t.kind expr)

-- the object that a name stands for
abbrev pub named : (t : Text) → Standing → List (TaskIn t)
named t (ObjectStands token) = ObjectAt token ∷ []
named t other = Unknown ∷ []

-- the address of an lvalue: no access (6.3.2.1, 6.5.2.1, 6.5.2.3, 6.5.3.2). `a[i]` is `*(a + i)`
abbrev pub address_parts : (t : Text) → t.Expr → Form t.Expr t.Stmt → List (TaskIn t)
address_parts t expr Name = named t (t.stands expr)
address_parts t expr (Unary Follow arg) = ValueOf arg ∷ []
address_parts t expr (Index base index) = ValueOf base ∷ ValueOf index ∷ Operate Add (value_kind t base) (value_kind t index) ∷ []
address_parts t expr (Member base offset false) = AddressOf base ∷ Shift offset ∷ []
address_parts t expr (Member base offset true) = ValueOf base ∷ Shift offset ∷ []
address_parts t expr other = Unknown ∷ []

abbrev pub address_tasks : (t : Text) → t.Expr → List (TaskIn t)
address_tasks t expr = address_parts t expr (t.form expr)

-- the value of an lvalue: one load, at its place (6.3.2.1p2)
abbrev pub loaded : (t : Text) → t.Expr → List (TaskIn t)
loaded t expr = AddressOf expr ∷ Load (t.place expr) (t.kind expr) ∷ []

-- the value of a name: a constant of an enum, or an object (6.4.4.3, 6.5.1)
abbrev pub name_parts : (t : Text) → t.Expr → Standing → List (TaskIn t)
name_parts t expr (ConstantStands bits) = Push bits ∷ []
name_parts t expr other = loaded t expr

abbrev pub known : (t : Text) → Option ℕ → List (TaskIn t)
known t None = Unknown ∷ []
known t (Some bits) = Push bits ∷ []

-- an assignment: the address of the left side, the value of the right one, its conversion, one store at the place of the left side. A struct is copied
-- as a whole, at the `=`, and holds two addresses (6.5.16.1)
abbrev pub assign_parts : (t : Text) → Place → t.Expr → t.Expr → Kind → List (TaskIn t)
assign_parts t place left right (Struct bytes) = AddressOf left ∷ AddressOf right ∷ CopyStruct place bytes ∷ []
assign_parts t place left right kind =
    AddressOf left ∷ ValueOf right ∷ Convert (value_kind t right) kind ∷ Store (t.place left) kind ∷ []

-- built-in functions by their names
abbrev pub ends_run : List ℕ → Bool
ends_run name =
    bytes_eq name (codes "abort") || (bytes_eq name (codes "exit") || (bytes_eq name (codes "__VERIFIER_error") || bytes_eq name (codes "reach_error")))

abbrev pub built_in : List ℕ → BuiltIn
built_in name =
    if bytes_eq name (codes "malloc") then Malloc
    else (if bytes_eq name (codes "calloc") then Calloc
    else (if bytes_eq name (codes "free") then Free
    else (if bytes_eq name (codes "memset") then Memset
    else (if bytes_eq name (codes "memcpy") then Memcpy
    else (if bytes_eq name (codes "memmove") then Memmove
    else (if ends_run name then EndsRun
    else (if bytes_eq name (codes "__VERIFIER_assume") then Assume
    else (if bytes_eq name (codes "__builtin_expect") then Expect
    else GivesInput))))))))

-- the arguments of a call, from left to right, each converted to its parameter (6.5.2.2p4, p7)
abbrev pub argument_tasks : (t : Text) → List t.Expr → List Kind → List (TaskIn t)
argument_tasks t [] params = []
argument_tasks t (arg ∷ args) [] = Unknown ∷ []
argument_tasks t (arg ∷ args) (param ∷ params) = ValueOf arg ∷ Convert (value_kind t arg) param ∷ argument_tasks t args params

-- a function that has a body is called behind its arguments
abbrev pub body_call : (t : Text) → List t.Expr → ℕ → Option (Function t.Stmt) → List (TaskIn t)
body_call t args number None = Unknown ∷ []
body_call t args number (Some function) = argument_tasks t args (map (λ param. param.kind) function.params) ++ CallDefined number ∷ []

-- what is called is built in, or has a body in the text (6.5.2.2)
abbrev pub call_parts : (t : Text) → t.Expr → List t.Expr → Standing → List (TaskIn t)
call_parts t callee args (BuiltInStands name params result) =
    argument_tasks t args params ++ RunBuiltIn (built_in name) (t.place callee) result ∷ []
call_parts t callee args (BodyStands number) = body_call t args number (slice_get t.functions number)
call_parts t callee args other = Unknown ∷ []

-- the value of an expression
abbrev pub binary_parts : (t : Text) → BinaryOp → t.Expr → t.Expr → List (TaskIn t)
binary_parts t Both left right = ValueOf left ∷ AndThen right ∷ []
binary_parts t Either left right = ValueOf left ∷ OrElse right ∷ []
binary_parts t Comma left right = ValueOf left ∷ Drop ∷ ValueOf right ∷ []
binary_parts t op left right = ValueOf left ∷ ValueOf right ∷ Operate op (value_kind t left) (value_kind t right) ∷ []

abbrev pub value_parts : (t : Text) → t.Expr → Form t.Expr t.Stmt → List (TaskIn t)
value_parts t expr Name = name_parts t expr (t.stands expr)
value_parts t expr (Known bits) = known t bits
value_parts t expr (Unary Address arg) = AddressOf arg ∷ []
value_parts t expr (Unary Follow arg) = loaded t expr
value_parts t expr (Unary Not arg) = ValueOf arg ∷ Answer false ∷ []
value_parts t expr (Unary op arg) = ValueOf arg ∷ Apply op (value_kind t arg) ∷ []
value_parts t expr (Binary op left right) = binary_parts t op left right
value_parts t expr (Assign None left right) = assign_parts t (t.place expr) left right (t.kind left)
value_parts t expr (Assign (Some op) left right) =
    AddressOf left ∷ ValueOf right ∷ Update op (t.place left) (t.kind left) (value_kind t right) ∷ []
value_parts t expr (Count up after arg) = AddressOf arg ∷ CountBy up after (t.place arg) (t.kind arg) ∷ []
value_parts t expr (Choose test one other) = ValueOf test ∷ Pick (value_kind t expr) one other ∷ []
value_parts t expr (Cast arg) = ValueOf arg ∷ Convert (value_kind t arg) (t.kind expr) ∷ []
value_parts t expr (Index base index) = loaded t expr
value_parts t expr (Member base offset through) = loaded t expr
value_parts t expr (Call callee args) = call_parts t callee args (t.stands callee)
value_parts t expr (Inner body close) = in_inner_block t body close
value_parts t expr AssertFail = EndRun ∷ []

abbrev pub value_tasks : (t : Text) → t.Expr → List (TaskIn t)
value_tasks t expr = value_parts t expr (t.form expr)
