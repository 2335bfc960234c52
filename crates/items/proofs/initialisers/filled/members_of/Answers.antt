use Rattle.std.proofs.Common.{ap}
use Rattle.typing.specs.Initialisers.{Members}
use Rattle.cbase.specs.Offset.{fields_of}
use Rattle.items.proofs.initialisers.Slots.{nothing_first}
use Rattle.items.proofs.initialisers.filled.members_of.Goals as goal

pub returns-in_default-clause-is : goal.returns-in_default-clause-is
returns-in_default-clause-is c = λ n. ap (Members c.args.offset) (nothing_first (fields_of c.args.context.now.structs c.args.of) c.in_default.ensures.none)
