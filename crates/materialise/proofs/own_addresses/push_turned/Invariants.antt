use Rattle.std.proofs.Common.{◌≡◌, ◌++◌, ◌+◌, ◌<◌, map, length}
use Rattle.graph.specs.Renaming.{values_from}
use Rattle.materialise.specs.SplitFirst.{at_region}
use Rattle.materialise.proofs.own_addresses.push_turned.Given as goal

abbrev pub invariant-loop-left : goal.invariant-loop-left
invariant-loop-left l = record {
  values : l.fn.values ++ values_from l.from (map (λ entry. at_region l.region entry.value) l.own) ≡ l.values ++ values_from l.key (map (λ entry. at_region l.region entry.value) l.left);
  few : l.key + length l.left < 4294967296;
}

abbrev pub decreases-loop-left : goal.decreases-loop-left
decreases-loop-left l = length l.left
