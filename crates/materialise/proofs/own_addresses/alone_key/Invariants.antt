use Rattle.std.proofs.Common.{◌≡◌, ◌+◌, ◌<◌, length}
use Rattle.materialise.specs.Splitting.{alone_at}
use Rattle.materialise.proofs.own_addresses.alone_key.Given as goal

abbrev pub invariant-loop-left : goal.invariant-loop-left
invariant-loop-left l = record {
  key : alone_at l.own l.from l.at ≡ alone_at l.left l.place l.at;
  few : l.place + length l.left < 4294967296;
}

abbrev pub decreases-loop-left : goal.decreases-loop-left
decreases-loop-left l = length l.left
