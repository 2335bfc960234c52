-- The registers so far and those that are left.
use Rattle.std.proofs.Common.{◌≡◌, ◌++◌, drop}
use Rattle.lowering.specs.Placing.{registers_left}
use Rattle.lower.proofs.placing.jumps.push_left.Given as goal

abbrev pub invariant-loop-one : goal.invariant-loop-one
invariant-loop-one l = l.left ++ registers_left (drop l.one-index l.stands) l.kept ≡ l.fn.left ++ registers_left l.stands l.kept
