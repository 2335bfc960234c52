-- The numbers of types that are found are those of the operands.
use Rattle.std.proofs.Common.{length}
use Rattle.typing.proofs.ctypes.assigning.assignment_type.Goals as goal

pub settle-requires : goal.settle-requires
settle-requires c = c.assigned-found.ensures.below (length c.args.types.now.types) c.seen.ensures.below
