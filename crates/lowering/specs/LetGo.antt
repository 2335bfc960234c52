-- How many registers an expression leaves that hold values which it let go of.
--
-- Such a value is one that is cast to `void`, that stands in front of a comma, or the second argument of `__builtin_expect`. All those of a full expression
-- share a register of its own, the spare one, which holds 0 from there on to the end of the full expression. Only where the value of `__builtin_expect` is in
-- that register itself does its second argument take the one behind it. So what is left stands in the spare register and in those right behind it: a number.
use Rattle.std.specs.Prelude.{ℕ, zero, suc, max, Bool, true, false, ◌&&◌, List, [], ◌∷◌, map, nat_eq, Option, None, Some, slice_get, if◌then◌else◌}
use Rattle.cbase.specs.declared.tree.operators.BinaryOp.{BinaryOp}
use Rattle.cbase.specs.declared.tree.operators.BinaryOp.TheVariants.{Both, Either, Equal, NotEqual, Comma}
use Rattle.cbase.specs.declared.tree.operators.UnaryOp.{UnaryOp}
use Rattle.cbase.specs.declared.tree.operators.UnaryOp.TheVariants.{Address, Follow, Not, Plus}
use Rattle.typing.specs.ctypes.Integers.{promoted}
use Rattle.c_machine.specs.declared.built_in.BuiltIn.{BuiltIn}
use Rattle.c_machine.specs.declared.built_in.BuiltIn.TheVariants.{Malloc, Calloc, Expect, Memset, Memcpy, Memmove}
use Rattle.c_machine.specs.declared.kind.Kind.{Kind}
use Rattle.c_machine.specs.declared.kind.Kind.TheVariants.{Integer, Struct}
use Rattle.c_machine.specs.Text.{Standing, BuiltInStands, BodyStands, Form, Name, Known, Unary, Binary, Assign, Count, Choose, Cast, Index, Member, Call, Inner, AssertFail, Function, Text}
use Rattle.c_machine.specs.Expressions.{value_kind, built_in}
use Rattle.c_machine.specs.Words.{scalar_bytes}
use Rattle.lowering.specs.Kinds.{is_void, conversion, as_operand}
use Rattle.lowering.specs.declared.conversion.Conversion.{Conversion}
use Rattle.lowering.specs.declared.conversion.Conversion.TheVariants.{Nothing, Resized, Tested, Dropped, Unknown}
pub use Rattle.lowering.specs.declared.wanted.Wanted.{Wanted}
pub use Rattle.lowering.specs.declared.wanted.Wanted.TheVariants.{AsValue, AsPlace, AsWork, AsTest}

-- a value that becomes one of a kind
abbrev pub left_converted : (t : Text) → (Wanted → t.Expr → ℕ) → t.Expr → Bool → Conversion → ℕ
left_converted t left expr in_spare Nothing = left (AsValue in_spare) expr
left_converted t left expr in_spare (Resized bytes signed) = left (AsValue false) expr
left_converted t left expr in_spare Tested = left AsTest expr
left_converted t left expr in_spare Dropped = left AsWork expr
left_converted t left expr in_spare Unknown = 0

abbrev pub left_as : (t : Text) → (Wanted → t.Expr → ℕ) → t.Expr → Bool → Kind → ℕ
left_as t left expr in_spare kind = left_converted t left expr in_spare (conversion (value_kind t expr) kind)

abbrev pub left_both : ℕ → ℕ → ℕ
left_both one other = max one other

-- a load has its address in a register of its own
abbrev pub left_by_load : (t : Text) → (Wanted → t.Expr → ℕ) → t.Expr → Bool → Option ℕ → ℕ
left_by_load t left expr in_spare None = left (AsPlace in_spare) expr
left_by_load t left expr in_spare (Some bytes) = left (AsPlace false) expr

-- an operator without a conversion of its own hands its register on
abbrev pub stays : Conversion → Bool
stays Nothing = true
stays other = false

abbrev pub in_spare_still : UnaryOp → Kind → Bool → Bool
in_spare_still Plus (Integer of) in_spare = stays (as_operand of (promoted of)) && in_spare
in_spare_still op kind in_spare = false

abbrev pub left_by_binary : (t : Text) → (Wanted → t.Expr → ℕ) → t.Expr → BinaryOp → t.Expr → t.Expr → Bool → ℕ
left_by_binary t left expr Both one other in_spare = left AsTest expr
left_by_binary t left expr Either one other in_spare = left AsTest expr
left_by_binary t left expr Equal one other in_spare = left AsTest expr
left_by_binary t left expr NotEqual one other in_spare = left AsTest expr
left_by_binary t left expr Comma one other in_spare = left_both (left AsWork one) (left (AsValue in_spare) other)
left_by_binary t left expr op one other in_spare = left_both (left (AsValue false) one) (left (AsValue false) other)

abbrev pub left_by_assign : (t : Text) → (Wanted → t.Expr → ℕ) → t.Expr → t.Expr → Kind → ℕ
left_by_assign t left one other (Struct bytes) = left_both (left (AsPlace false) one) (left (AsPlace false) other)
left_by_assign t left one other kind = left_both (left (AsPlace false) one) (left_as t left other false kind)

-- arguments
abbrev pub left_by_arguments : (t : Text) → (Wanted → t.Expr → ℕ) → List t.Expr → List Kind → ℕ
left_by_arguments t left (arg ∷ args) (param ∷ params) = left_both (left_as t left arg false param) (left_by_arguments t left args params)
left_by_arguments t left args params = 0

abbrev pub behind_spare : Bool → ℕ → ℕ
behind_spare true count = suc count
behind_spare false count = count

abbrev pub left_by_built_in : (t : Text) → (Wanted → t.Expr → ℕ) → BuiltIn → List t.Expr → List Kind → Bool → ℕ
left_by_built_in t left Malloc args params in_spare = 0
left_by_built_in t left Calloc args params in_spare = 0
left_by_built_in t left Expect (arg ∷ expected ∷ []) (param ∷ param' ∷ []) in_spare =
    left_both (left_as t left arg in_spare param) (behind_spare in_spare (left_both 1 (left_as t left expected true param')))
left_by_built_in t left Memset (arg ∷ byte ∷ args) (param ∷ param' ∷ params) in_spare = left_both (left_as t left arg false param) (left_as t left byte false param')
left_by_built_in t left Memcpy (to ∷ from ∷ args) (param ∷ param' ∷ params) in_spare = left_both (left_as t left to false param) (left_as t left from false param')
left_by_built_in t left Memmove (to ∷ from ∷ args) (param ∷ param' ∷ params) in_spare = left_both (left_as t left to false param) (left_as t left from false param')
left_by_built_in t left what args params in_spare = left_by_arguments t left args params

abbrev pub left_by_body : (t : Text) → (Wanted → t.Expr → ℕ) → List t.Expr → Option (Function t.Stmt) → ℕ
left_by_body t left args None = 0
left_by_body t left args (Some function) = left_by_arguments t left args (map (λ param. param.kind) function.params)

abbrev pub left_by_call : (t : Text) → (Wanted → t.Expr → ℕ) → List t.Expr → Bool → Standing → ℕ
left_by_call t left args in_spare (BuiltInStands name params result) = left_by_built_in t left (built_in name) args params in_spare
left_by_call t left args in_spare (BodyStands number) = left_by_body t left args (slice_get t.functions number)
left_by_call t left args in_spare other = 0

abbrev pub left_by_value : (t : Text) → (Wanted → t.Expr → ℕ) → t.Expr → Bool → Form t.Expr t.Stmt → ℕ
left_by_value t left expr in_spare Name = 0
left_by_value t left expr in_spare (Known bits) = 0
left_by_value t left expr in_spare (Unary Address arg) = left (AsPlace in_spare) arg
left_by_value t left expr in_spare (Unary Follow arg) = left_by_load t left expr in_spare (scalar_bytes (t.kind expr))
left_by_value t left expr in_spare (Unary Not arg) = left AsTest expr
left_by_value t left expr in_spare (Unary op arg) = left (AsValue (in_spare_still op (value_kind t arg) in_spare)) arg
left_by_value t left expr in_spare (Binary op one other) = left_by_binary t left expr op one other in_spare
left_by_value t left expr in_spare (Assign None one other) = left_by_assign t left one other (t.kind one)
left_by_value t left expr in_spare (Assign (Some op) one other) = left_both (left (AsPlace false) one) (left (AsValue false) other)
left_by_value t left expr in_spare (Count up after arg) = left (AsPlace false) arg
left_by_value t left expr in_spare (Choose test one other) =
    left_both (left AsTest test) (left_both (left_as t left one in_spare (value_kind t expr)) (left_as t left other in_spare (value_kind t expr)))
left_by_value t left expr in_spare (Cast arg) = left_as t left arg in_spare (t.kind expr)
left_by_value t left expr in_spare (Index base index) = left_by_load t left expr in_spare (scalar_bytes (t.kind expr))
left_by_value t left expr in_spare (Member base offset through) = left_by_load t left expr in_spare (scalar_bytes (t.kind expr))
left_by_value t left expr in_spare (Call callee args) = left_by_call t left args in_spare (t.stands callee)
left_by_value t left expr in_spare (Inner body close) = 0
left_by_value t left expr in_spare AssertFail = 0

abbrev pub left_by_place : (t : Text) → (Wanted → t.Expr → ℕ) → Bool → Form t.Expr t.Stmt → ℕ
left_by_place t left in_spare (Unary Follow arg) = left (AsValue in_spare) arg
left_by_place t left in_spare (Index base index) = left_both (left (AsValue false) base) (left (AsValue false) index)
left_by_place t left in_spare (Member base offset false) = left (AsPlace (in_spare && nat_eq offset 0)) base
left_by_place t left in_spare (Member base offset true) = left (AsValue (in_spare && nat_eq offset 0)) base
left_by_place t left in_spare other = 0

-- whether a form leaves no register where its value is not used: a store, and what has no value
abbrev pub fills : BuiltIn → Bool
fills Memset = true
fills Memcpy = true
fills Memmove = true
fills what = false

abbrev pub fills_by : Standing → Bool
fills_by (BuiltInStands name params result) = fills (built_in name)
fills_by other = false

abbrev pub leaves_nothing : (t : Text) → Form t.Expr t.Stmt → Bool
leaves_nothing t (Assign op one other) = true
leaves_nothing t (Count up after arg) = true
leaves_nothing t (Call callee args) = fills_by (t.stands callee)
leaves_nothing t other = false

abbrev pub left_by_work : (t : Text) → (Wanted → t.Expr → ℕ) → t.Expr → Form t.Expr t.Stmt → ℕ
left_by_work t left expr (Binary Comma one other) = left_both (left AsWork one) (left AsWork other)
left_by_work t left expr form =
    if is_void (value_kind t expr) then left_by_value t left expr false form
    else (if leaves_nothing t form then left_by_value t left expr false form else left_both 1 (left (AsValue true) expr))

abbrev pub left_by_test : (t : Text) → (Wanted → t.Expr → ℕ) → t.Expr → Form t.Expr t.Stmt → ℕ
left_by_test t left expr (Unary Not arg) = left AsTest arg
left_by_test t left expr (Binary Both one other) = left_both (left AsTest one) (left AsTest other)
left_by_test t left expr (Binary Either one other) = left_both (left AsTest one) (left AsTest other)
left_by_test t left expr (Binary Equal one other) = left_both (left (AsValue false) one) (left (AsValue false) other)
left_by_test t left expr (Binary NotEqual one other) = left_both (left (AsValue false) one) (left (AsValue false) other)
left_by_test t left expr form = left (AsValue false) expr

-- of expressions of at most so many levels
abbrev pub left_within : ℕ → (t : Text) → Wanted → t.Expr → ℕ
left_within zero t wanted expr = 0
left_within (suc levels) t (AsValue in_spare) expr = left_by_value t (left_within levels t) expr in_spare (t.form expr)
left_within (suc levels) t (AsPlace in_spare) expr = left_by_place t (left_within levels t) in_spare (t.form expr)
left_within (suc levels) t AsWork expr = left_by_work t (left_within levels t) expr (t.form expr)
left_within (suc levels) t AsTest expr = left_by_test t (left_within levels t) expr (t.form expr)

abbrev pub left_of : (t : Text) → Wanted → t.Expr → ℕ
left_of t wanted expr = left_within t.enough t wanted expr
