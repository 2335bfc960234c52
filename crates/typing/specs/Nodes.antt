-- What is asked at single nodes, and what is known of an expression that passes.
use Rattle.std.specs.Prelude.{ℕ, ◌++◌, ◌&&◌, ◌||◌, not, Bool, true, false, List, [], ◌∷◌, Option, None, Some, is_some, nat_eq, if◌then◌else◌}
use Rattle.cbase.specs.declared.abi.Abi.{Abi}
use Rattle.cbase.specs.declared.ctype.CType.{CType}
use Rattle.cbase.specs.declared.ctype.CType.TheVariants.{Void as VoidType, Int as IntType}
use Rattle.cbase.specs.declared.measure.Extent.{Extent}
use Rattle.cbase.specs.declared.measure.Extent.TheVariants.{Bytes, Incomplete, TooLarge}
use Rattle.cbase.specs.declared.place.Place.{Place}
use Rattle.cbase.specs.declared.structs.StructDef.{StructDef}
use Rattle.cbase.specs.declared.tree.expr.ExprForm.TheViews.{out-StmtForm}
use Rattle.cbase.specs.declared.tree.operators.UnaryOp.{UnaryOp}
use Rattle.cbase.specs.declared.tree.operators.UnaryOp.TheVariants.{Address, Follow, Plus, Minus, Flip, Not}
use Rattle.cbase.specs.declared.tree.stmt.Stmt.{Stmt}
use Rattle.cbase.specs.Layout.{layout_of, extent_of}
use Rattle.arithmetic.specs.Conversion.{converted, truth}
use Rattle.typing.specs.declared.constants.meaning.Constant.{Constant}
use Rattle.typing.specs.declared.ctypes.found.Broken.{Broken}
use Rattle.typing.specs.declared.ctypes.found.Broken.TheVariants.{Construct, Rule}
use Rattle.typing.specs.declared.ctypes.kind.IntegerType.{IntegerType}
use Rattle.typing.specs.declared.ctypes.kind.Target.TheVariants.{Void as VoidTarget}
use Rattle.typing.specs.ctypes.Binary.{int_type}
use Rattle.typing.specs.ctypes.Kinds.{Kind, Integer, Pointer, Array, Struct, Void, has_size}
use Rattle.typing.specs.ctypes.Unary.{size_type}
use Rattle.typing.specs.Entities.{Entity, ObjectEntity, FunctionEntity, ObjectIs, FunctionIs, EnumeratorIs, TypedefIs}
use Rattle.typing.specs.declared.fault.Fault.{Fault}
use Rattle.typing.specs.declared.idiom.Idiom.TheVariants.{Outside}
use Rattle.typing.specs.Faults.{fault, unless}
use Rattle.typing.specs.Idiom.{offset_in, null_cast, member_offset}
use Rattle.typing.specs.Known.{Known, valued, is_zero}
use Rattle.typing.specs.Forms.{is_empty, value_in}
use Rattle.typing.specs.values.Values.{is_whole, cast_value}

-- an object by its name (C11 6.5.1p2)
abbrev pub object_type : Option CType → CType
object_type None = VoidType
object_type (Some t) = t

abbrev pub is_sized : List StructDef → Option CType → Bool
is_sized structs None = false
is_sized structs (Some t) = has_size structs t

abbrev pub object_faults : Place → ObjectEntity → Bool → List Fault
object_faults place object sized =
    unless object.defined place (Construct 12) ++ (unless sized place (Rule 3) ++ unless (not object.of_main) place (Rule 12))

abbrev pub object_known : ObjectEntity → Known
object_known object = record { ctype = object_type object.ctype; lvalue = true; null = false; value = None; idiom = Outside; stands = Some (ObjectIs object) }

-- a constant of an enum (6.4.4.3p2)
abbrev pub enumerator_known : ℕ → Known
enumerator_known value = record { ctype = int_type; lvalue = false; null = nat_eq value 0; value = Some value; idiom = Outside; stands = Some (EnumeratorIs value) }

-- a function by its name: what is used has a definition or is built in
abbrev pub function_faults : Place → FunctionEntity → List Fault
function_faults place function = unless (function.defined || function.built_in) place (Construct 12)

abbrev pub is_function : Option Entity → Bool
is_function None = false
is_function (Some (ObjectIs object)) = false
is_function (Some (FunctionIs function)) = true
is_function (Some (EnumeratorIs value)) = false
is_function (Some (TypedefIs t)) = false

abbrev pub called_of : FunctionEntity → Known
called_of function = record { ctype = function.result; lvalue = false; null = false; value = None; idiom = Outside; stands = Some (FunctionIs function) }

-- a constant (6.4.4)
abbrev pub constant_known : Constant → Known
constant_known constant = valued (Some constant.bits) (IntType constant.bytes constant.signed)

-- members: a name that is none is named itself; what is no struct, or an incomplete one, at the mark
abbrev pub place_of_member : Place → Place → Broken → Place
place_of_member mark name (Construct number) = mark
place_of_member mark name (Rule number) = if nat_eq number 6 then name else mark

abbrev pub pointed_offset : Abi → List StructDef → Kind → List ℕ → Option ℕ
pointed_offset abi structs (Pointer item target) name = member_offset abi structs item name
pointed_offset abi structs (Array item target) name = member_offset abi structs item name
pointed_offset abi structs (Integer t) name = None
pointed_offset abi structs (Struct number) name = None
pointed_offset abi structs Void name = None

-- unary operators on values
abbrev pub is_arithmetic : UnaryOp → Bool
is_arithmetic Address = false
is_arithmetic Follow = false
is_arithmetic Plus = true
is_arithmetic Minus = true
is_arithmetic Flip = true
is_arithmetic Not = true

-- `sizeof` (6.5.3.4): an incomplete type has no size, which is rule 3, and no object has more than 65,536 bytes, which is construct 19
abbrev pub size_in : Abi → List StructDef → CType → Extent
size_in abi structs t = extent_of (layout_of abi structs t)

abbrev pub size_faults : Place → Extent → List Fault
size_faults place (Bytes count) = []
size_faults place Incomplete = fault place (Rule 3) ∷ []
size_faults place TooLarge = fault place (Construct 19) ∷ []

abbrev pub size_told : Extent → Option ℕ
size_told (Bytes count) = Some count
size_told Incomplete = None
size_told TooLarge = None

abbrev pub sized_known : Extent → Known
sized_known size = valued (size_told size) size_type

-- `__builtin_offsetof` (7.19p3)
abbrev pub offset_known : ℕ → Known
offset_known offset = valued (Some offset) size_type

-- casts (6.5.4): the offset that the idiom has
abbrev pub offset_as : IntegerType → ℕ → ℕ
offset_as to offset = if to.truth then truth 8 offset else converted 8 false to.bytes offset

abbrev pub value_of_cast : Kind → Kind → Option ℕ → Option ℕ → Option ℕ
value_of_cast (Integer to) from value (Some offset) = if is_whole to then Some (offset_as to offset) else None
value_of_cast to from value offset = cast_value to from value

-- a null pointer constant: a constant 0, or one cast to `void *` once (6.3.2.3p3)
abbrev pub null_of_cast : Kind → Kind → Option ℕ → Option ℕ → Bool
null_of_cast (Integer to) from value result = is_zero result
null_of_cast (Pointer item VoidTarget) (Integer from) value result = is_zero value
null_of_cast to from value result = false

abbrev pub cast_known : CType → Kind → Kind → Known → Known
cast_known t target from arg = record {
  ctype = t;
  lvalue = false;
  null = null_of_cast target from arg.value (value_of_cast target from arg.value (offset_in arg.idiom));
  value = value_of_cast target from arg.value (offset_in arg.idiom);
  idiom = null_cast (is_zero arg.value) target from;
  stands = None;
}

-- assignments (6.5.16.1): a value that does not convert is named itself
abbrev pub place_of_assignment : Place → Place → Broken → Place
place_of_assignment mark value (Construct number) = mark
place_of_assignment mark value (Rule number) = if nat_eq number 5 then value else mark

-- whether statements are all empty, as those of `;` alone
abbrev pub are_empty : List Stmt → Bool
are_empty [] = true
are_empty (stmt ∷ stmts) = is_empty (out-StmtForm stmt.form) && are_empty stmts

-- whether the first statement is the last that is not empty, and an expression: GNU C passes over empty statements at the end of a statement expression
abbrev pub is_last_value : List Stmt → Bool
is_last_value [] = false
is_last_value (stmt ∷ stmts) = are_empty stmts && is_some (value_in (out-StmtForm stmt.form))
