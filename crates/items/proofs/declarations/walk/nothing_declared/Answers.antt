-- What the words hold is the one thing that is found.
use Rattle.std.proofs.Common.{ap}
use Rattle.typing.specs.Faults.{all_at}
use Rattle.expressions.proofs.Firsts.{first_alone}
use Rattle.items.proofs.declarations.walk.nothing_declared.Goals as goal

pub returns-in-Some : goal.returns-in-Some
returns-in-Some c = first_alone _ _ (ap (all_at c.args.place) c.in-Some.is)
