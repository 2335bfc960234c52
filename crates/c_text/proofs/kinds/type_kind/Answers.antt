-- The kind of a type follows from its shape.
use Rattle.std.proofs.Common.{ap, ◌∙◌}
use Rattle.std.specs.Prelude.{option_map}
use Rattle.typing.specs.declared.ctypes.shape.Shape.TheVariants.{Void as VoidShape, Bool as BoolShape, Int as IntShape, Pointer as PointerShape, Struct as StructShape, Array as ArrayShape}
use Rattle.typing.specs.ctypes.Table.{type_at}
use Rattle.c_machine.specs.declared.kind.Kind.TheVariants.{Pointer, Array, Struct}
use Rattle.c_text.proofs.TypeKinds.{kind_of_type}
use Rattle.c_text.proofs.kinds.type_kind.Goals as goal

pub returns-in-Void : goal.returns-in-Void
returns-in-Void c = λ p same.
    kind_of_type p c.args.types.now.types (type_at c.args.types.now.types c.args.number) VoidShape c.in-Void.ensures.is

pub returns-in-Bool : goal.returns-in-Bool
returns-in-Bool c = λ p same.
    c.integer_kind.ensures
    ∙ kind_of_type p c.args.types.now.types (type_at c.args.types.now.types c.args.number) BoolShape c.in-Bool.ensures.is

pub returns-in-Int : goal.returns-in-Int
returns-in-Int c = λ p same.
    c.integer_kind-in-Int.ensures
    ∙ kind_of_type p c.args.types.now.types (type_at c.args.types.now.types c.args.number) (IntShape c.in-Int.bytes c.in-Int.signed) c.in-Int.ensures.is

pub returns-in-Pointer : goal.returns-in-Pointer
returns-in-Pointer c = λ p same.
    c.pointer_kind.ensures
    ∙ ap (option_map Pointer) (c.step_of.ensures p same)
    ∙ kind_of_type p c.args.types.now.types (type_at c.args.types.now.types c.args.number) (PointerShape c.in-Pointer.item) c.in-Pointer.ensures.is

pub returns-in-Array : goal.returns-in-Array
returns-in-Array c = λ p same.
    c.array_kind.ensures
    ∙ ap (option_map Array) (c.step_of-in-Array.ensures p same)
    ∙ kind_of_type p c.args.types.now.types (type_at c.args.types.now.types c.args.number) (ArrayShape c.in-Array.item c.in-Array.field-1) c.in-Array.ensures.is

pub returns-in-Struct : goal.returns-in-Struct
returns-in-Struct c = λ p same.
    c.struct_kind.ensures
    ∙ ap (option_map Struct) (c.bytes_of.ensures p same)
    ∙ kind_of_type p c.args.types.now.types (type_at c.args.types.now.types c.args.number) (StructShape c.in-Struct.field-0) c.in-Struct.ensures.is
