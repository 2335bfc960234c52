-- The form table of the flow graph: what each form of expression gives, a line each, in the order of the text.
--
-- A register stands from the edge that fills it to the edge that empties it. `r` is the first register of the form itself.
use Rattle.std.specs.Prelude.{ℕ, suc, ◌+◌, ◌-◌, ◌^◌, Bool, true, false, not, ◌&&◌, List, [], ◌∷◌, ◌++◌, map, length, pos, nat_eq, nat_le, Option, None, Some, slice_get, if◌then◌else◌}
use Rattle.std.specs.List.{list_all}
use Rattle.cbase.specs.declared.place.Place.{Place}
use Rattle.cbase.specs.declared.tree.operators.BinaryOp.{BinaryOp}
use Rattle.cbase.specs.declared.tree.operators.BinaryOp.TheVariants.{Add, Both, Either, Equal, NotEqual, Comma}
use Rattle.cbase.specs.declared.tree.operators.UnaryOp.{UnaryOp}
use Rattle.cbase.specs.declared.tree.operators.UnaryOp.TheVariants.{Address, Follow, Plus, Minus, Flip, Not}
use Rattle.arithmetic.specs.declared.op.Op.TheVariants as op
use Rattle.typing.specs.declared.ctypes.kind.IntegerType.{IntegerType}
use Rattle.typing.specs.ctypes.Integers.{int, promoted, common}
use Rattle.c_machine.specs.declared.built_in.BuiltIn.{BuiltIn}
use Rattle.c_machine.specs.declared.built_in.BuiltIn.TheVariants.{Malloc, Calloc, Free, Memset, Memcpy, Memmove, EndsRun, Assume, Expect, GivesInput}
use Rattle.c_machine.specs.declared.kind.Kind.{Kind}
use Rattle.c_machine.specs.declared.kind.Kind.TheVariants.{Integer, Pointer, Struct, Void}
use Rattle.c_machine.specs.Text.{Standing, ObjectStands, ConstantStands, BuiltInStands, BodyStands, Form, Name, Known, Unary, Binary, Assign, Count, Choose, Cast, Index, Member, Call, Inner, AssertFail, Clause, Eval, Parameter, Function, Text}
use Rattle.c_machine.specs.Blocks.{are_empty}
use Rattle.c_machine.specs.Expressions.{value_kind, built_in}
use Rattle.c_machine.specs.Step.{counting}
use Rattle.c_machine.specs.Words.{kind_after, scalar_bytes, is_pointer}
use Rattle.flow.specs.declared.instruction.Instr.TheVariants as i
use Rattle.lowering.specs.Kinds.{width, is_void, is_address, fits, conversion, as_operand, is_plain_operator, made_by}
use Rattle.lowering.specs.declared.conversion.Conversion.{Conversion}
use Rattle.lowering.specs.declared.conversion.Conversion.TheVariants.{Nothing, Resized, Tested, Dropped, Unknown}
use Rattle.lowering.specs.Known.{size_as, product_as}
use Rattle.lowering.specs.LetGo.{leaves_nothing}
use Rattle.lowering.specs.Moves.{Move, MoveOf, Emits, Pairs, Evaluates, Converts, Answers, Locates, Works, Stops, Fails, Line, LineOf, taking, resizes, adapts, stands_in, combines, operates}

-- The variable of an object by its name is asked of `variable`.

-- the address of an object
abbrev pub object_moves : {E S I : Type 0} → Option ℕ → Place → ℕ → List (MoveOf E S I)
object_moves None place into = Fails ∷ []
object_moves (Some variable) place into = Emits (i.Address into variable) place ∷ []

abbrev pub named_moves : {E S I : Type 0} → (ℕ → Option ℕ) → Place → ℕ → Standing → List (MoveOf E S I)
named_moves variable place into (ObjectStands token) = object_moves (variable token) place into
named_moves variable place into other = Fails ∷ []

-- an address moved by a constant, if it is
abbrev pub shifts : {E S I : Type 0} → ℕ → ℕ → ℕ → Place → List (MoveOf E S I)
shifts from into bytes place = if nat_eq bytes 0 then [] else Emits (i.Shift into from (pos bytes)) place ∷ []

-- where an address stands that may be moved
abbrev pub shifted_in : ℕ → ℕ → ℕ → ℕ
shifted_in bytes from into = if nat_eq bytes 0 then into else from

-- the addresses of lvalues (6.3.2.1, 6.5.2.1, 6.5.2.3, 6.5.3.2)
abbrev pub addressed : {E S I : Type 0} → Kind → ℕ → List (MoveOf E S I) → LineOf E S I
addressed kind registers moves = if is_address kind then taking registers moves else taking 0 (Fails ∷ [])

abbrev pub place_line : (t : Text) → (ℕ → Option ℕ) → t.Expr → ℕ → ℕ → ℕ → Form t.Expr t.Stmt → Line t
place_line t variable expr spare into r Name = taking 0 (named_moves variable (t.place expr) into (t.stands expr))
place_line t variable expr spare into r (Unary Follow arg) = addressed (value_kind t arg) 0 (Evaluates arg spare into ∷ [])
place_line t variable expr spare into r (Index base index) =
    addressed (made_by Add (value_kind t base) (value_kind t index)) 4 (Evaluates base spare r ∷ Evaluates index spare (r + 1)
    ∷ operates Add (value_kind t base) (value_kind t index) r (r + 1) (r + 2) (r + 3) into (t.place expr))
place_line t variable expr spare into r (Member base bytes false) =
    taking 1 (Locates base spare (shifted_in bytes r into) ∷ shifts r into bytes (t.place expr))
place_line t variable expr spare into r (Member base bytes true) =
    addressed (value_kind t base) 1 (Evaluates base spare (shifted_in bytes r into) ∷ shifts r into bytes (t.place expr))
place_line t variable expr spare into r other = taking 0 (Stops ∷ [])

-- the value of an lvalue: one load at its place; an array and a struct have none (6.3.2.1p2, p3)
abbrev pub load_line : (t : Text) → t.Expr → ℕ → ℕ → ℕ → Option ℕ → Line t
load_line t expr spare into r None = taking 0 (Locates expr spare into ∷ [])
load_line t expr spare into r (Some bytes) =
    taking 1 (Locates expr spare r ∷ Emits (i.Read into r bytes (is_pointer (t.kind expr))) (t.place expr) ∷ [])

abbrev pub name_line : (t : Text) → t.Expr → ℕ → ℕ → ℕ → Standing → Line t
name_line t expr spare into r (ConstantStands bits) = taking 0 (Emits (i.Number into bits (width (value_kind t expr))) (t.place expr) ∷ [])
name_line t expr spare into r other = load_line t expr spare into r (scalar_bytes (t.kind expr))

-- `+`, `-` and `~` on an integer (6.5.3.3): behind its promotion, `-x` is 0 - x, and `~x` is -1 - x
abbrev pub taken_from : (t : Text) → t.Expr → t.Expr → ℕ → ℕ → ℕ → ℕ → Conversion → IntegerType → Line t
taken_from t expr arg spare into r bits change of =
    taking 3 (Evaluates arg spare r ∷ (resizes change r (r + 1) (t.place expr)
    ++ Emits (i.Number (r + 2) bits of.bytes) (t.place expr)
    ∷ Emits (i.Compute into op.Sub (r + 2) (stands_in change r (r + 1)) of.bytes of.signed) (t.place expr) ∷ []))

abbrev pub plus_line : (t : Text) → t.Expr → t.Expr → ℕ → ℕ → ℕ → Conversion → Line t
plus_line t expr arg spare into r Nothing = taking 0 (Evaluates arg spare into ∷ [])
plus_line t expr arg spare into r change = taking 1 (Evaluates arg spare r ∷ resizes change r into (t.place expr))

abbrev pub unary_line : (t : Text) → t.Expr → UnaryOp → t.Expr → ℕ → ℕ → ℕ → Kind → Line t
unary_line t expr Plus arg spare into r (Integer of) = plus_line t expr arg spare into r (as_operand of (promoted of))
unary_line t expr Minus arg spare into r (Integer of) = taken_from t expr arg spare into r 0 (as_operand of (promoted of)) (promoted of)
unary_line t expr Flip arg spare into r (Integer of) =
    taken_from t expr arg spare into r (256 ^ (promoted of).bytes - 1) (as_operand of (promoted of)) (promoted of)
unary_line t expr op arg spare into r kind = taking 0 (Fails ∷ [])

-- operators with two sides (6.5.5 to 6.5.14, 6.5.17)
abbrev pub binary_line : (t : Text) → t.Expr → BinaryOp → t.Expr → t.Expr → ℕ → ℕ → ℕ → Line t
binary_line t expr Both left right spare into r = taking 0 (Answers expr spare into 4 ∷ [])
binary_line t expr Either left right spare into r = taking 0 (Answers expr spare into 4 ∷ [])
binary_line t expr Equal left right spare into r = taking 0 (Answers expr spare into 4 ∷ [])
binary_line t expr NotEqual left right spare into r = taking 0 (Answers expr spare into 4 ∷ [])
binary_line t expr Comma left right spare into r = taking 0 (Works left spare ∷ Evaluates right spare into ∷ [])
binary_line t expr what left right spare into r =
    taking 4 (Evaluates left spare r ∷ Evaluates right spare (r + 1)
    ∷ operates what (value_kind t left) (value_kind t right) r (r + 1) (r + 2) (r + 3) into (t.place expr))

-- a value that is used, too, is moved to a register that keeps it
abbrev pub keeps : {E S I : Type 0} → Option ℕ → ℕ → Place → List (MoveOf E S I)
keeps None from place = []
keeps (Some into) from place = Emits (i.Move into from) place ∷ []

-- `=` (6.5.16.1): one store at the place of the left side; a struct is copied at the `=`
abbrev pub store_line : (t : Text) → t.Expr → t.Expr → t.Expr → ℕ → Option ℕ → ℕ → Kind → Option ℕ → Line t
store_line t expr left right spare kept r kind None = taking 0 (Fails ∷ [])
store_line t expr left right spare kept r kind (Some bytes) =
    taking 2 (Locates left spare r ∷ Converts right kind spare (r + 1)
    ∷ (keeps kept (r + 1) (t.place expr) ++ Emits (i.Write r (r + 1) bytes) (t.place left) ∷ []))

abbrev pub copies : {E S I : Type 0} → ℕ → ℕ → ℕ → Bool → Place → List (MoveOf E S I)
copies to from bytes disjoint place = if nat_le bytes 65536 then Emits (i.Copy to from bytes disjoint) place ∷ [] else Fails ∷ []

-- the machine holds a 0 behind the assignment of a struct
abbrev pub keeps_zero : {E S I : Type 0} → Option ℕ → Place → List (MoveOf E S I)
keeps_zero None place = []
keeps_zero (Some into) place = Emits (i.Number into 0 8) place ∷ []

abbrev pub assign_line : (t : Text) → t.Expr → t.Expr → t.Expr → ℕ → Option ℕ → ℕ → Kind → Line t
assign_line t expr left right spare kept r (Struct bytes) =
    taking 2 (Locates left spare r ∷ Locates right spare (r + 1) ∷ (copies r (r + 1) bytes false (t.place expr) ++ keeps_zero kept (t.place expr)))
assign_line t expr left right spare kept r kind = store_line t expr left right spare kept r kind (scalar_bytes kind)

-- `+=` and its like (6.5.16.2): the address of the left side, the value of the right one, then a load, the operation, its conversion and the store
abbrev pub update_moves : (t : Text) → BinaryOp → t.Expr → t.Expr → t.Expr → ℕ → Option ℕ → ℕ → Kind → ℕ → Conversion → List (Move t)
update_moves t what expr left right spare kept r kind bytes change =
    Locates left spare r ∷ Evaluates right spare (r + 1)
    ∷ Emits (i.Move (r + 2) r) (t.place left) ∷ Emits (i.Read (r + 3) (r + 2) bytes (is_pointer kind)) (t.place left)
    ∷ (operates what kind (value_kind t right) (r + 3) (r + 1) (r + 4) (r + 5) (r + 6) (t.place expr)
    ++ (adapts change (r + 6) (width (kind_after what kind (value_kind t right))) (r + 7) (t.place expr)
    ++ (keeps kept (stands_in change (r + 6) (r + 7)) (t.place expr)
    ++ Emits (i.Write r (stands_in change (r + 6) (r + 7)) bytes) (t.place left) ∷ [])))

abbrev pub update_line : (t : Text) → BinaryOp → t.Expr → t.Expr → t.Expr → ℕ → Option ℕ → ℕ → Kind → Option ℕ → Line t
update_line t what expr left right spare kept r kind None = taking 0 (Fails ∷ [])
update_line t what expr left right spare kept r kind (Some bytes) =
    if is_plain_operator what && fits (made_by what kind (value_kind t right)) (kind_after what kind (value_kind t right))
    then taking 8 (update_moves t what expr left right spare kept r kind bytes (conversion (kind_after what kind (value_kind t right)) kind))
    else taking 0 (Fails ∷ [])

-- `++` and `--` (6.5.2.4, 6.5.3.1): a 1 in the type of the operation, or of 8 bytes beside a pointer; behind its operand the old value is kept
abbrev pub one_bytes : Kind → ℕ
one_bytes (Integer of) = (common of int).bytes
one_bytes kind = 8

abbrev pub one_change : Kind → Conversion
one_change (Integer of) = as_operand of (common of int)
one_change kind = Nothing

abbrev pub old_kept : Bool → Option ℕ → Option ℕ
old_kept true kept = kept
old_kept false kept = None

abbrev pub new_kept : Bool → Option ℕ → Option ℕ
new_kept true kept = None
new_kept false kept = kept

abbrev pub count_moves : (t : Text) → Bool → Bool → t.Expr → t.Expr → ℕ → Option ℕ → ℕ → Kind → ℕ → Conversion → List (Move t)
count_moves t up after expr arg spare kept r kind bytes change =
    Locates arg spare r ∷ Emits (i.Move (r + 1) r) (t.place arg) ∷ Emits (i.Read (r + 2) (r + 1) bytes (is_pointer kind)) (t.place arg)
    ∷ (keeps (old_kept after kept) (r + 2) (t.place expr)
    ++ (resizes (one_change kind) (r + 2) (r + 3) (t.place expr)
    ++ Emits (i.Number (r + 4) 1 (one_bytes kind)) (t.place expr)
    ∷ (combines (counting up) kind (Integer int) (stands_in (one_change kind) (r + 2) (r + 3)) (r + 4) (r + 5) (t.place expr)
    ++ (adapts change (r + 5) (width (kind_after (counting up) kind (Integer int))) (r + 6) (t.place expr)
    ++ (keeps (new_kept after kept) (stands_in change (r + 5) (r + 6)) (t.place expr)
    ++ Emits (i.Write r (stands_in change (r + 5) (r + 6)) bytes) (t.place arg) ∷ [])))))

abbrev pub count_line : (t : Text) → Bool → Bool → t.Expr → t.Expr → ℕ → Option ℕ → ℕ → Kind → Option ℕ → Line t
count_line t up after expr arg spare kept r kind None = taking 0 (Fails ∷ [])
count_line t up after expr arg spare kept r kind (Some bytes) =
    taking 7 (count_moves t up after expr arg spare kept r kind bytes (conversion (kind_after (counting up) kind (Integer int)) kind))

-- arguments, from left to right, each in a register of its own (6.5.2.2p4, p7)
abbrev pub argument_moves : (t : Text) → List t.Expr → List Kind → ℕ → ℕ → List (Move t)
argument_moves t [] [] spare r = []
argument_moves t (arg ∷ args) (param ∷ params) spare r = Converts arg param spare r ∷ argument_moves t args params spare (suc r)
argument_moves t args params spare r = Fails ∷ []

-- functions that are built in (7.22.3, 7.24); sizes and lengths are constants of their instructions. A kept value is moved first
abbrev pub allocates : {E S I : Type 0} → Option ℕ → Option ℕ → Bool → Place → List (MoveOf E S I)
allocates (Some into) (Some bytes) zeroed place = Pairs (i.Allocate into bytes zeroed) (i.AllocateNone into) place ∷ []
allocates kept bytes zeroed place = Fails ∷ []

abbrev pub fill_moves : (t : Text) → t.Expr → Kind → t.Expr → Kind → ℕ → Option ℕ → ℕ → Place → Option ℕ → List (Move t)
fill_moves t at kind byte kind' spare kept r place None = Fails ∷ []
fill_moves t at kind byte kind' spare kept r place (Some count) =
    Converts at kind spare r ∷ Converts byte kind' spare (r + 1) ∷ (keeps kept r place ++ Emits (i.Fill r (r + 1) count) place ∷ [])

abbrev pub copy_moves : (t : Text) → t.Expr → Kind → t.Expr → Kind → ℕ → Option ℕ → ℕ → Bool → Place → Option ℕ → List (Move t)
copy_moves t to kind from kind' spare kept r disjoint place None = Fails ∷ []
copy_moves t to kind from kind' spare kept r disjoint place (Some count) =
    Converts to kind spare r ∷ Converts from kind' spare (r + 1) ∷ (keeps kept r place ++ Emits (i.Copy r (r + 1) count disjoint) place ∷ [])

abbrev pub receives : {E S I : Type 0} → Option ℕ → Kind → Place → List (MoveOf E S I)
receives (Some into) (Integer of) place = Emits (i.Input into of.bytes of.signed of.truth) place ∷ []
receives (Some into) (Pointer bytes) place = Emits (i.Input into 8 false false) place ∷ []
receives kept kind place = Fails ∷ []

-- the second argument of `__builtin_expect` is let go of: in the spare register, or behind it where the first one is there
abbrev pub beside : ℕ → ℕ → ℕ
beside into spare = if nat_eq into spare then suc spare else spare

abbrev pub expect_moves : (t : Text) → t.Expr → Kind → t.Expr → Kind → ℕ → ℕ → ℕ → Place → List (Move t)
expect_moves t arg kind expected kind' spare into other place =
    Converts arg kind spare into ∷ Converts expected kind' other other ∷ Emits (i.Number other 0 8) place ∷ []

abbrev pub built_in_line : (t : Text) → BuiltIn → List t.Expr → List Kind → Kind → ℕ → Option ℕ → ℕ → Place → Line t
built_in_line t Malloc (size ∷ []) (param ∷ []) result spare kept r place = taking 0 (allocates kept (size_as t size param) false place)
built_in_line t Calloc (count ∷ size ∷ []) (param ∷ param' ∷ []) result spare kept r place =
    taking 0 (allocates kept (product_as t count param size param') true place)
built_in_line t Free (at ∷ []) (param ∷ []) result spare kept r place =
    taking 1 (Converts at param spare r ∷ Emits (i.Release r) place ∷ [])
built_in_line t Memset (at ∷ byte ∷ count ∷ []) (param ∷ param' ∷ param'' ∷ []) result spare kept r place =
    taking 2 (fill_moves t at param byte param' spare kept r place (size_as t count param''))
built_in_line t Memcpy (to ∷ from ∷ count ∷ []) (param ∷ param' ∷ param'' ∷ []) result spare kept r place =
    taking 2 (copy_moves t to param from param' spare kept r true place (size_as t count param''))
built_in_line t Memmove (to ∷ from ∷ count ∷ []) (param ∷ param' ∷ param'' ∷ []) result spare kept r place =
    taking 2 (copy_moves t to param from param' spare kept r false place (size_as t count param''))
built_in_line t EndsRun args params result spare kept r place = taking (length args) (argument_moves t args params spare r ++ Stops ∷ [])
built_in_line t Assume (arg ∷ []) (param ∷ []) result spare kept r place =
    taking 2 (Converts arg param spare r ∷ Emits (i.Number (r + 1) 0 (width param)) place ∷ Emits (i.IfDifferent r (r + 1)) place ∷ [])
built_in_line t Expect (arg ∷ expected ∷ []) (param ∷ param' ∷ []) result spare (Some into) r place =
    taking 0 (expect_moves t arg param expected param' spare into (beside into spare) place)
built_in_line t GivesInput [] [] result spare kept r place = taking 0 (receives kept result place)
built_in_line t what args params result spare kept r place = taking 0 (Fails ∷ [])

-- functions that the program defines (6.5.2.2)
abbrev pub registers_from : {A : Type 0} → ℕ → List A → List ℕ
registers_from r [] = []
registers_from r (first ∷ rest) = r ∷ registers_from (suc r) rest

-- a result goes into a register exactly where there is one
abbrev pub result_into : Kind → ℕ → Option ℕ
result_into Void into = None
result_into kind into = Some into

-- an argument has a value, and the size of its parameter
abbrev pub are_sized : List Parameter → Bool
are_sized [] = true
are_sized (param ∷ params) = not (is_void param.kind) && (nat_eq (width param.kind) param.object.bytes && are_sized params)

abbrev pub body_line : (t : Text) → List t.Expr → ℕ → ℕ → ℕ → ℕ → Place → Option (Function t.Stmt) → Line t
body_line t args number spare into r place None = taking 0 (Fails ∷ [])
body_line t args number spare into r place (Some function) =
    if are_sized function.params
    then taking (length args) (argument_moves t args (map (λ param. param.kind) function.params) spare r
    ++ Emits (i.Call number (registers_from r args) (result_into function.result into)) place ∷ [])
    else taking 0 (Fails ∷ [])

-- whether the result of a built-in function is of the kind of what it makes, and its parameters have values
abbrev pub have_values : List Kind → Bool
have_values params = list_all (λ param. not (is_void param)) params

abbrev pub gives : BuiltIn → List Kind → Kind → Bool
gives Malloc params result = is_address result
gives Calloc params result = is_address result
gives Free params result = have_values params && is_void result
gives Memset (param ∷ params) result = is_address param && (have_values params && is_address result)
gives Memcpy (param ∷ params) result = is_address param && (have_values params && is_address result)
gives Memmove (param ∷ params) result = is_address param && (have_values params && is_address result)
gives EndsRun params result = true
gives Assume params result = have_values params && is_void result
gives Expect (param ∷ params) result = fits param result
gives GivesInput params result = true
gives what params result = false

abbrev pub call_line : (t : Text) → t.Expr → List t.Expr → ℕ → Option ℕ → ℕ → ℕ → Standing → Line t
call_line t callee args spare kept into r (BuiltInStands name params result) =
    if gives (built_in name) params result then built_in_line t (built_in name) args params result spare kept r (t.place callee) else taking 0 (Fails ∷ [])
call_line t callee args spare kept into r (BodyStands number) = body_line t args number spare into r (t.place callee) (slice_get t.functions number)
call_line t callee args spare kept into r other = taking 0 (Fails ∷ [])

-- the values of expressions; `?:` and statement expressions have arms and statements, which are placed apart
abbrev pub value_line : (t : Text) → t.Expr → ℕ → ℕ → ℕ → Form t.Expr t.Stmt → Line t
value_line t expr spare into r Name = name_line t expr spare into r (t.stands expr)
value_line t expr spare into r (Known None) = taking 0 (Stops ∷ [])
value_line t expr spare into r (Known (Some bits)) = taking 0 (Emits (i.Number into bits (width (value_kind t expr))) (t.place expr) ∷ [])
value_line t expr spare into r (Unary Address arg) = taking 0 (Locates arg spare into ∷ [])
value_line t expr spare into r (Unary Follow arg) = load_line t expr spare into r (scalar_bytes (t.kind expr))
value_line t expr spare into r (Unary Not arg) = taking 0 (Answers expr spare into 4 ∷ [])
value_line t expr spare into r (Unary op arg) = unary_line t expr op arg spare into r (value_kind t arg)
value_line t expr spare into r (Binary op left right) = binary_line t expr op left right spare into r
value_line t expr spare into r (Assign None left right) = assign_line t expr left right spare (Some into) r (t.kind left)
value_line t expr spare into r (Assign (Some op) left right) =
    update_line t op expr left right spare (Some into) r (t.kind left) (scalar_bytes (t.kind left))
value_line t expr spare into r (Count up after arg) = count_line t up after expr arg spare (Some into) r (t.kind arg) (scalar_bytes (t.kind arg))
value_line t expr spare into r (Choose test one other) = taking 0 (Fails ∷ [])
value_line t expr spare into r (Cast arg) = taking 0 (Converts arg (t.kind expr) spare into ∷ [])
value_line t expr spare into r (Index base index) = load_line t expr spare into r (scalar_bytes (t.kind expr))
value_line t expr spare into r (Member base bytes through) = load_line t expr spare into r (scalar_bytes (t.kind expr))
value_line t expr spare into r (Call callee args) = call_line t callee args spare (Some into) into r (t.stands callee)
value_line t expr spare into r (Inner body close) = taking 0 (Fails ∷ [])
value_line t expr spare into r AssertFail = taking 0 (Stops ∷ [])

-- expressions whose value is not used: a store keeps none, and any other value is put into the spare register, and 0 over it
abbrev pub dropped_line : (t : Text) → t.Expr → ℕ → Line t
dropped_line t expr spare = taking 0 (Evaluates expr spare spare ∷ Emits (i.Number spare 0 8) (t.place expr) ∷ [])

abbrev pub void_line : (t : Text) → t.Expr → ℕ → ℕ → Form t.Expr t.Stmt → Line t
void_line t expr spare r (Assign None left right) = assign_line t expr left right spare None r (t.kind left)
void_line t expr spare r (Assign (Some op) left right) = update_line t op expr left right spare None r (t.kind left) (scalar_bytes (t.kind left))
void_line t expr spare r (Count up after arg) = count_line t up after expr arg spare None r (t.kind arg) (scalar_bytes (t.kind arg))
void_line t expr spare r (Cast arg) = taking 0 (Works arg spare ∷ [])
void_line t expr spare r (Call callee args) = call_line t callee args spare None spare r (t.stands callee)
void_line t expr spare r AssertFail = taking 0 (Stops ∷ [])
void_line t expr spare r other = taking 0 (Fails ∷ [])

abbrev pub work_line : (t : Text) → t.Expr → ℕ → ℕ → Form t.Expr t.Stmt → Line t
work_line t expr spare r (Binary Comma left right) = taking 0 (Works left spare ∷ Works right spare ∷ [])
work_line t expr spare r form =
    if is_void (value_kind t expr) then void_line t expr spare r form
    else (if leaves_nothing t form then void_line t expr spare r form else dropped_line t expr spare)

-- a value that becomes one of a kind: one that becomes a `_Bool` is a condition
abbrev pub converted_line : (t : Text) → t.Expr → ℕ → ℕ → ℕ → Conversion → Line t
converted_line t expr spare into r Nothing = taking 0 (Evaluates expr spare into ∷ [])
converted_line t expr spare into r (Resized bytes signed) =
    taking 1 (Evaluates expr spare r ∷ Emits (i.Convert into r bytes signed) (t.place expr) ∷ [])
converted_line t expr spare into r Tested = taking 0 (Answers expr spare into 1 ∷ [])
converted_line t expr spare into r Dropped = taking 0 (Works expr spare ∷ [])
converted_line t expr spare into r Unknown = taking 0 (Fails ∷ [])

-- The kind of what a form makes, where that is not said by the kind of the expression itself.
abbrev pub result_of : (t : Text) → Standing → Kind
result_of t (BuiltInStands name params result) = result
result_of t (BodyStands number) = by_function (slice_get t.functions number)
  where
    by_function : Option (Function t.Stmt) → Kind
    by_function None = Void
    by_function (Some function) = function.result
result_of t other = Void

-- the expression statement at the end of a statement expression, if it has one
abbrev pub ending : (t : Text) → Clause t.Expr t.Stmt t.Init → Option t.Expr
ending t (Eval expr) = expr
ending t other = None

abbrev pub last_of : (t : Text) → List t.Stmt → Option t.Expr
last_of t [] = None
last_of t (stmt ∷ body) = if are_empty t body then ending t (t.clause stmt) else last_of t body

abbrev pub kind_of_last : (t : Text) → Option t.Expr → Kind
kind_of_last t None = Void
kind_of_last t (Some expr) = value_kind t expr

abbrev pub kind_by_binary : (t : Text) → BinaryOp → t.Expr → t.Expr → Kind
kind_by_binary t Comma left right = value_kind t right
kind_by_binary t op left right = made_by op (value_kind t left) (value_kind t right)

abbrev pub kind_by_unary : (t : Text) → UnaryOp → Kind → Kind
kind_by_unary t Address kind = Pointer 1
kind_by_unary t Not kind = Integer int
kind_by_unary t op (Integer of) = Integer (promoted of)
kind_by_unary t op kind = kind

-- an assignment of a struct makes no value
abbrev pub assigned : Kind → Kind
assigned (Struct bytes) = Void
assigned kind = kind

abbrev pub kind_made : (t : Text) → t.Expr → Form t.Expr t.Stmt → Kind
kind_made t expr (Unary Follow arg) = value_kind t expr
kind_made t expr (Unary op arg) = kind_by_unary t op (value_kind t arg)
kind_made t expr (Binary op left right) = kind_by_binary t op left right
kind_made t expr (Assign None left right) = assigned (t.kind left)
kind_made t expr (Assign (Some op) left right) = t.kind left
kind_made t expr (Count up after arg) = t.kind arg
kind_made t expr (Call callee args) = result_of t (t.stands callee)
kind_made t expr (Inner body close) = kind_of_last t (last_of t body)
kind_made t expr form = value_kind t expr

-- whether a value is made as the expression says
abbrev pub is_made : (t : Text) → t.Expr → Form t.Expr t.Stmt → Bool
is_made t expr form = not (is_void (value_kind t expr)) && fits (kind_made t expr form) (value_kind t expr)
