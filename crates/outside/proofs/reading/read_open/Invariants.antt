use Rattle.std.proofs.Common.{◌≡◌, ◌≤◌, ◌-◌, ◌++◌, ℕ, List, true, false, IsTrue, length}
use Rattle.outside.proofs.reading.read_open.Given as goal

abbrev pub invariant-pieces : goal.invariant-pieces
invariant-pieces g l = record {
  ready : g.F.Files.ready l.files ≡ true;
  unfailed : g.F.Files.failed l.files ≡ false;
  later : g.F.Files.faults l.fn.files ≤ g.F.Files.faults l.files;
  openings : g.F.Files.openings l.files ≡ g.F.Files.openings l.fn.files;
  begun : g.F.Files.begun l.files ≡ g.F.Files.begun l.fn.files;
  tells : g.F.Files.tells l.files ≡ g.F.Files.tells l.fn.files;
  kept : (other : List ℕ) → g.F.Files.bytes_of l.files other ≡ g.F.Files.bytes_of l.fn.files other;
  whole : IsTrue (g.F.Files.tells l.fn.files) → g.F.Files.left l.fn.files ≡ l.bytes.items ++ g.F.Files.left l.files;
  within : length l.bytes.items ≤ l.limit;
}

abbrev pub decreases-pieces : goal.decreases-pieces
decreases-pieces g l = l.limit - length l.bytes.items
