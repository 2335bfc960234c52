-- The graphs that are written out hold by computation.
use Rattle.std.proofs.Common.{refl}
use Rattle.lowering.specs.Graphs.{AreWritten}

pub are_written : AreWritten
are_written = record {
  returns = refl;
  tests = refl;
  counts = refl;
  allocates = refl;
  lets_go = refl;
  loops = refl;
  head = refl;
}
