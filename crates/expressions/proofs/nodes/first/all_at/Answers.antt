-- What is found is one thing alone.
use Rattle.std.proofs.Common.{ap}
use Rattle.typing.specs.Faults.{all_at}
use Rattle.expressions.proofs.Firsts.{first_alone}
use Rattle.expressions.proofs.nodes.first.all_at.Goals as goal

pub returns : goal.returns
returns c = first_alone _ _ (ap (all_at c.args.place) c.in_ok-broken.was)
