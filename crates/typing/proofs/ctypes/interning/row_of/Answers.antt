use Rattle.std.proofs.Common.{◌<◌, length, arith}
use Rattle.typing.proofs.ctypes.Rows.{void_row, bool_row, pointer_row, struct_row, integer_is_row, array_is_row}
use Rattle.typing.specs.ctypes.Table.{type_at}
use Rattle.typing.proofs.ctypes.interning.row_of.Goals as goal

pub returns-in-Void : goal.returns-in-Void
returns-in-Void c = λ types are. rw c.in-Void.is (void_row, (omega arith, tt))

pub returns-in-Bool : goal.returns-in-Bool
returns-in-Bool c = λ types are. rw c.in-Bool.is (bool_row, (omega arith, (omega arith, omega arith)))

pub returns-in-Int : goal.returns-in-Int
returns-in-Int c = λ types are. rw (c.in-Int.is, c.integer_part.ensures) (integer_is_row c.in-Int.bytes c.in-Int.signed)

pub returns-in-Pointer : goal.returns-in-Pointer
returns-in-Pointer c = λ types are. rw (c.in-Pointer.is, c.pointer_bytes.ensures) (pointer_row (type_at types c.in-Pointer.field-0), (omega arith, (omega arith, omega arith)))

pub returns-in-Struct : goal.returns-in-Struct
returns-in-Struct c = λ types are. rw c.in-Struct.is (struct_row c.in-Struct.number, (omega arith, tt))

pub returns-in-Array : goal.returns-in-Array
returns-in-Array c = λ types are.
    let within : c.in-Array.item < length c.args.rows.now = rw c.in-Array.is at c.requires.below in
    rw (c.in-Array.is, c.parts_of.ensures) (array_is_row types c.args.rows.now c.in-Array.item c.in-Array.items _ are within)
