-- A fill keeps how many blocks there are.
use Rattle.std.proofs.Common.{replicate}
use Rattle.bytes_core.specs.declared.byte.Byte.TheVariants.{Num}
use Rattle.bytes_core.specs.Access.{filled}
use Rattle.c_steps.proofs.Kept.{kept_by}
use Rattle.c_steps.proofs.Lengths.{length_written}
use Rattle.c_steps.proofs.state.State.fill.Goals as goal

pub invariant_of-self : goal.invariant_of-self
invariant_of-self g c =
    kept_by c.fill.result c.self.inside.memory (filled c.self.inside.memory c.args.at c.args.value c.args.count) c.fill.new.self
    c.self.inside.operands c.self.inside.frame c.self.inside.callers c.self.inside.statics c.fill.ensures.filled c.fill.ensures.err
    (length_written c.self.inside.memory c.args.at (replicate c.args.count (Num c.args.value))) c.self.invariant
