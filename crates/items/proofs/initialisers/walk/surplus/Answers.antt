use Rattle.items.proofs.initialisers.Unplaced.{surplus_of_value, surplus_of_nothing}
use Rattle.items.proofs.initialisers.walk.surplus.Goals as goal

pub returns-in-Some : goal.returns-in-Some
returns-in-Some g c = surplus_of_value c.args.checker.now.abi c.args.place c.args.parts.now c.args.context.now _ c.in-Some.value.now c.surplus_value.result c.in-Some.ensures.leads c.surplus_value.ensures

pub returns-in-None : goal.returns-in-None
returns-in-None g c = rw c.unwanted.ensures (surplus_of_nothing c.args.checker.now.abi c.args.place c.args.parts.now c.args.context.now c.in-None.ensures.none)
