-- The numbers of types that are found are those of the operands.
use Rattle.std.proofs.Common.{length}
use Rattle.typing.proofs.ctypes.members.index_type.Goals as goal

pub settle-requires : goal.settle-requires
settle-requires c = c.indexed-found.ensures.below (length c.args.types.now.types) (c.decayed.ensures.below (length c.args.types.now.types) c.seen.ensures.below.1) (c.decayed-2.ensures.below (length c.args.types.now.types) c.seen-2.ensures.below.1)
