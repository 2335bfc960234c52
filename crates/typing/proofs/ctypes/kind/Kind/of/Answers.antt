-- The kind of a type follows from its shape.
use Rattle.std.proofs.Common.{ap, ◌∙◌}
use Rattle.typing.specs.declared.ctypes.shape.Shape.TheVariants.{Void as VoidShape, Bool as BoolShape, Int as IntShape, Pointer as PointerShape, Struct as StructShape, Array as ArrayShape}
use Rattle.typing.specs.ctypes.Kinds.{Integer, Pointer, Array}
use Rattle.typing.specs.ctypes.Table.{type_at}
use Rattle.typing.proofs.ctypes.ShapeKinds.{kind_is}
use Rattle.typing.proofs.ctypes.kind.Kind.of.Goals as goal

pub returns-in-Void-clause-is : goal.returns-in-Void-clause-is
returns-in-Void-clause-is c = kind_is c.args.types.now.structs c.args.types.now.types (type_at c.args.types.now.types c.args.number) VoidShape c.in-Void.ensures.is

pub returns-in-Bool-clause-is : goal.returns-in-Bool-clause-is
returns-in-Bool-clause-is c = kind_is c.args.types.now.structs c.args.types.now.types (type_at c.args.types.now.types c.args.number) BoolShape c.in-Bool.ensures.is

pub returns-in-Int-clause-is : goal.returns-in-Int-clause-is
returns-in-Int-clause-is c = ap Integer c.new.ensures ∙ kind_is c.args.types.now.structs c.args.types.now.types (type_at c.args.types.now.types c.args.number) (IntShape c.in-Int.bytes c.in-Int.signed) c.in-Int.ensures.is

pub returns-in-Pointer-clause-is : goal.returns-in-Pointer-clause-is
returns-in-Pointer-clause-is c = ap (Pointer (type_at c.args.types.now.types c.in-Pointer.item)) c.of.ensures ∙ kind_is c.args.types.now.structs c.args.types.now.types (type_at c.args.types.now.types c.args.number) (PointerShape c.in-Pointer.item) c.in-Pointer.ensures.is

pub returns-in-Struct-clause-is : goal.returns-in-Struct-clause-is
returns-in-Struct-clause-is c = kind_is c.args.types.now.structs c.args.types.now.types (type_at c.args.types.now.types c.args.number) (StructShape c.in-Struct.of) c.in-Struct.ensures.is

pub returns-in-Array-clause-is : goal.returns-in-Array-clause-is
returns-in-Array-clause-is c = ap (Array (type_at c.args.types.now.types c.in-Array.item)) c.of-in-Array.ensures ∙ kind_is c.args.types.now.structs c.args.types.now.types (type_at c.args.types.now.types c.args.number) (ArrayShape c.in-Array.item c.in-Array.field-1) c.in-Array.ensures.is
