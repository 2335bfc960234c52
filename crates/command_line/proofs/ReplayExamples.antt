-- The words of the examples ask for what stands beside them.
use Rattle.std.proofs.Common.{refl}
use Rattle.command_line.specs.ReplayExamples.{ExamplesHold}

pub examples_hold : ExamplesHold
examples_hold = refl
