-- The numbers of types that are found are those of the operands.
use Rattle.std.proofs.Common.{length}
use Rattle.typing.proofs.ctypes.unary.unary_type.Goals as goal

pub settle-requires : goal.settle-requires
settle-requires c = c.operated_alone-found.ensures.below (length c.args.types.now.types) c.seen.ensures.below
