-- What is broken is one thing alone.
use Rattle.std.proofs.Common.{ap}
use Rattle.typing.specs.Nodes.{size_faults}
use Rattle.expressions.proofs.Firsts.{first_alone}
use Rattle.expressions.proofs.nodes.sizes.size_fault.Goals as goal

pub returns-in-Incomplete : goal.returns-in-Incomplete
returns-in-Incomplete c = first_alone _ _ (ap (size_faults c.args.place) c.in-Incomplete.is)

pub returns-in-TooLarge : goal.returns-in-TooLarge
returns-in-TooLarge c = first_alone _ _ (ap (size_faults c.args.place) c.in-TooLarge.is)
