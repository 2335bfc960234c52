-- The numbers of types that are found are those of the operands.
use Rattle.std.proofs.Common.{length}
use Rattle.typing.proofs.ctypes.binary.binary_type.Goals as goal

pub settle-requires : goal.settle-requires
settle-requires c = c.operated-found.ensures.below (length c.args.types.now.types) c.seen.ensures.below c.seen-2.ensures.below
