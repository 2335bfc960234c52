use Rattle.std.proofs.Common.{◌≡◌, ◌++◌, length, map}
use Rattle.materialise.specs.Splitting.{alone_edge}
use Rattle.materialise.proofs.own_addresses.push_alone.Given as goal

abbrev pub invariant-loop-left : goal.invariant-loop-left
invariant-loop-left l = l.fn.kept ++ map (alone_edge l.own l.from) l.edges ≡ l.kept ++ map (alone_edge l.own l.from) l.left

abbrev pub decreases-loop-left : goal.decreases-loop-left
decreases-loop-left l = length l.left
