-- A copy keeps how many blocks there are.
use Rattle.bytes_core.specs.Access.{bytes_at}
use Rattle.bytes_core.specs.Copying.{copied}
use Rattle.c_steps.proofs.Kept.{kept_by_copy}
use Rattle.c_steps.proofs.Lengths.{length_written}
use Rattle.c_steps.proofs.state.State.copy.Goals as goal

pub invariant_of-self : goal.invariant_of-self
invariant_of-self g c =
    kept_by_copy c.copy.result c.self.inside.memory (copied c.self.inside.memory c.args.to c.args.from c.args.count) c.copy.new.self
    c.self.inside.operands c.self.inside.frame c.self.inside.callers c.self.inside.statics c.copy.ensures.copied c.copy.ensures.fault c.copy.ensures.err
    (length_written c.self.inside.memory c.args.to (bytes_at c.self.inside.memory c.args.from c.args.count)) c.self.invariant
