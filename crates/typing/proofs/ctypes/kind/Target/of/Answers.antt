-- What a pointer leads to follows from the shape of the type.
use Rattle.std.proofs.Common.{sym, ◌∙◌}
use Rattle.typing.specs.declared.ctypes.shape.Shape.TheVariants.{Void as VoidShape}
use Rattle.typing.specs.ctypes.Table.{type_at}
use Rattle.typing.proofs.ctypes.ShapeKinds.{target_is, sized_target_is}
use Rattle.typing.proofs.ctypes.kind.Target.of.Goals as goal

pub returns-in-Void : goal.returns-in-Void
returns-in-Void c = target_is c.args.types.now.structs c.args.types.now.types (type_at c.args.types.now.types c.args.number) VoidShape c.in-Void.ensures.is

pub returns-then-has_size : goal.returns-then-has_size
returns-then-has_size c = sized_target_is c.args.types.now.structs c.args.types.now.types (type_at c.args.types.now.types c.args.number) c.shape.result _ c.shape.ensures.is c.in_default.not-Void (sym c.if-has_size.true ∙ c.has_size.ensures)

pub returns-else-has_size : goal.returns-else-has_size
returns-else-has_size c = sized_target_is c.args.types.now.structs c.args.types.now.types (type_at c.args.types.now.types c.args.number) c.shape.result _ c.shape.ensures.is c.in_default.not-Void (sym c.if-has_size.false ∙ c.has_size.ensures)
