-- A context in front of the first item is begun as C has it.
use Rattle.items.proofs.BegunInC.{begins}
use Rattle.items.proofs.beginning.begin.Goals as goal

pub returns-in-Ok : goal.returns-in-Ok
returns-in-Ok c = begins c.args.abi c.args.strict c.args.bodied.now c.args.defined.now c.set_up.new.context c.in-Ok.ensures.declares c.in-Ok.ensures.handed
