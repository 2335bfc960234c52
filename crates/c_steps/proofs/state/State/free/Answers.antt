-- A release keeps how many blocks there are.
use Rattle.bytes_core.specs.Release.{freed}
use Rattle.c_steps.proofs.Kept.{kept_by}
use Rattle.c_steps.proofs.Lengths.{length_freed}
use Rattle.c_steps.proofs.state.State.free.Goals as goal

pub invariant_of-self : goal.invariant_of-self
invariant_of-self g c =
    kept_by c.free.result c.self.inside.memory (freed c.self.inside.memory c.args.at) c.free.new.self
    c.self.inside.operands c.self.inside.frame c.self.inside.callers c.self.inside.statics c.free.ensures.freed c.free.ensures.err (length_freed c.self.inside.memory c.args.at) c.self.invariant
