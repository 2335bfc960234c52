-- What braces fill, by the shape of the type.
use Rattle.std.proofs.Common.{arith}
use Rattle.items.proofs.initialisers.Slots.{void_filled, truth_filled, integer_filled, pointer_filled, struct_filled, array_filled}
use Rattle.items.proofs.initialisers.filled.filled_of.Goals as goal

pub returns-in-Void : goal.returns-in-Void
returns-in-Void c = void_filled c.args.context.now c.args.slot c.shape.result c.requires c.shape.ensures.is c.in-Void.is

pub returns-in-Bool : goal.returns-in-Bool
returns-in-Bool c = truth_filled c.args.context.now c.args.slot c.shape.result c.requires c.shape.ensures.is c.one_of.result c.one_of.ensures.is c.one_of.ensures.kept c.in-Bool.is

pub returns-in-Int : goal.returns-in-Int
returns-in-Int c = integer_filled c.args.context.now c.args.slot c.shape.result c.requires c.shape.ensures.is c.one_of-in-Int.result c.one_of-in-Int.ensures.is c.one_of-in-Int.ensures.kept c.in-Int.bytes c.in-Int.signed c.in-Int.is

pub returns-in-Pointer : goal.returns-in-Pointer
returns-in-Pointer c = pointer_filled c.args.context.now c.args.slot c.shape.result c.requires c.shape.ensures.is c.one_of-in-Pointer.result c.one_of-in-Pointer.ensures.is c.one_of-in-Pointer.ensures.kept c.in-Pointer.field-0 c.in-Pointer.is

pub returns-in_ok-members_of-in-Struct : goal.returns-in_ok-members_of-in-Struct
returns-in_ok-members_of-in-Struct c = struct_filled c.args.context.now c.args.slot c.shape.result c.requires c.shape.ensures.is c.in-Struct.of c.in_ok-members_of-in-Struct.field-0 c.in-Struct.is
    c.in_ok-members_of-in-Struct.ensures.kept c.in_ok-members_of-in-Struct.ensures.is

pub returns-in_ok-items_of-in-Array : goal.returns-in_ok-items_of-in-Array
returns-in_ok-items_of-in-Array c = array_filled c.args.context.now c.args.slot c.shape.result c.requires c.shape.ensures.is c.in-Array.item c.in-Array.count c.in_ok-items_of-in-Array.field-0 c.in-Array.is
    (omega (arith, c.requires, c.in-Array.ensures.below)) c.in_ok-items_of-in-Array.ensures.kept c.in_ok-items_of-in-Array.ensures.is
