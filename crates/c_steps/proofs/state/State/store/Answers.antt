-- A store keeps how many blocks there are.
use Rattle.std.proofs.Common.{take}
use Rattle.bytes_core.specs.Access.{stored}
use Rattle.bytes_core.specs.Value.{word_bytes}
use Rattle.c_steps.proofs.Kept.{kept_by}
use Rattle.c_steps.proofs.Lengths.{length_written}
use Rattle.c_steps.proofs.state.State.store.Goals as goal

pub invariant_of-self : goal.invariant_of-self
invariant_of-self g c =
    kept_by c.store.result c.self.inside.memory (stored c.self.inside.memory c.args.at c.args.size c.args.word) c.store.new.self
    c.self.inside.operands c.self.inside.frame c.self.inside.callers c.self.inside.statics c.store.ensures.stored c.store.ensures.err
    (length_written c.self.inside.memory c.args.at (take c.args.size (word_bytes c.args.word))) c.self.invariant
