-- Blocks and what is declared directly in them (C11 6.2.4, 6.7, 6.8.2).
use Rattle.std.specs.Prelude.{Bool, true, false, ◌&&◌, List, [], ◌∷◌, ◌++◌, map, Option, None, Some, if◌then◌else◌}
use Rattle.std.specs.List.{flat_map}
use Rattle.cbase.specs.declared.place.Place.{Place}
use Rattle.c_machine.specs.declared.kind.Kind.TheVariants.{Struct}
use Rattle.c_machine.specs.declared.kind.Kind.{Kind}
use Rattle.c_machine.specs.declared.object.Object.{Object}
use Rattle.c_machine.specs.Text.{Clause, Declare, Eval, Initialiser, Value, Braces, Declared, Store as Stored, Text}
use Rattle.c_machine.specs.declared.task.Task.TheVariants.{ValueOf, AddressOf, Push, ObjectAt, Shift, Convert, Store, CopyStruct, Finish, Keep, Execute, OpenBlock, MakeObject, LeaveBlock, Zero, Initialise, Unknown}
use Rattle.c_machine.specs.State.{TaskIn}
use Rattle.c_machine.specs.Words.{decayed}

-- the names of a declaration, where a statement is one
abbrev pub names_in : {E S I : Type 0} → Clause E S I → List (Declared I)
names_in (Declare names) = names
names_in other = []

-- the automatic objects that a statement declares, in order: they are made where the block is entered, all of them, before anything in it runs
-- (6.2.4p6)
abbrev pub made : (t : Text) → Option Object → List (TaskIn t)
made t None = []
made t (Some object) = MakeObject object ∷ []

abbrev pub objects_in : (t : Text) → t.Stmt → List (TaskIn t)
objects_in t stmt = flat_map (λ name. made t (t.automatic name.place)) (names_in (t.clause stmt))

abbrev pub entered : (t : Text) → List t.Stmt → List (TaskIn t)
entered t body = flat_map (objects_in t) body

-- a block (6.8.2)
abbrev pub in_block : (t : Text) → List t.Stmt → Place → List (TaskIn t)
in_block t body close = OpenBlock ∷ (entered t body ++ (map Execute body ++ LeaveBlock close ∷ []))

-- a statement that is `;` alone, and statements that are all so
abbrev pub is_empty : {E S I : Type 0} → Clause E S I → Bool
is_empty (Eval None) = true
is_empty other = false

abbrev pub are_empty : (t : Text) → List t.Stmt → Bool
are_empty t [] = true
are_empty t (stmt ∷ body) = is_empty (t.clause stmt) && are_empty t body

-- the block of a statement expression: where the last statement that is not empty is an expression statement, the value of that is kept over the `;` behind it
-- and over the `}`, as GNU C has it. Else it has no value
abbrev pub last_tasks : (t : Text) → t.Stmt → Clause t.Expr t.Stmt t.Init → List (TaskIn t)
last_tasks t stmt (Eval (Some expr)) = ValueOf expr ∷ Keep (t.last stmt) ∷ []
last_tasks t stmt other = Execute stmt ∷ Push 0 ∷ []

abbrev pub valued : (t : Text) → List t.Stmt → List (TaskIn t)
valued t [] = Push 0 ∷ []
valued t (stmt ∷ body) = if are_empty t body then last_tasks t stmt (t.clause stmt) else Execute stmt ∷ valued t body

abbrev pub in_inner_block : (t : Text) → List t.Stmt → Place → List (TaskIn t)
in_inner_block t body close = OpenBlock ∷ (entered t body ++ (valued t body ++ LeaveBlock close ∷ []))

-- a value of an initialiser is a full expression: the address of what it sets, the value, its conversion, one store at the declared name. A struct is
-- copied as a whole, at the name, too (6.7.9p11, p13)
abbrev pub set_by : (t : Text) → Place → Kind → t.Expr → List (TaskIn t)
set_by t place (Struct bytes) expr = AddressOf expr ∷ CopyStruct place bytes ∷ []
set_by t place kind expr = ValueOf expr ∷ Convert (decayed (t.kind expr)) kind ∷ Store place kind ∷ []

abbrev pub set : (t : Text) → Place → t.Expr → Place → Option Stored → List (TaskIn t)
set t place expr after None = Unknown ∷ []
set t place expr after (Some stored) =
    ObjectAt (t.token place) ∷ Shift stored.offset ∷ (set_by t place stored.kind expr ++ Finish after ∷ [])

-- an initialiser of the object whose name stands there: its values, from left to right
abbrev pub initialiser_parts : (t : Text) → Place → Initialiser t.Expr t.Init → List (TaskIn t)
initialiser_parts t place (Value value after) = set t place value after (t.store place value)
initialiser_parts t place (Braces parts) = map (Initialise place) parts

abbrev pub initialiser_tasks : (t : Text) → Place → t.Init → List (TaskIn t)
initialiser_tasks t place init = initialiser_parts t place (t.initialiser init)

-- braces first fill the whole automatic object with 0 (6.7.9p19, p21)
abbrev pub zeroed : (t : Text) → Place → Object → Initialiser t.Expr t.Init → List (TaskIn t)
zeroed t place object (Value value after) = []
zeroed t place object (Braces parts) = ObjectAt (t.token place) ∷ Zero place object.bytes ∷ []

-- a declared name: only an automatic object with an initialiser does something
abbrev pub declared_by : (t : Text) → Place → Option Object → Option t.Init → List (TaskIn t)
declared_by t place None init = []
declared_by t place (Some object) None = []
declared_by t place (Some object) (Some init) = zeroed t place object (t.initialiser init) ++ Initialise place init ∷ []

abbrev pub declared_tasks : (t : Text) → Declared t.Init → List (TaskIn t)
declared_tasks t name = declared_by t name.place (t.automatic name.place) name.init
