use Rattle.std.proofs.Common.{◌≡◌, take, length}
use Rattle.flow.specs.Marked.{AreOuts}
use Rattle.flow.proofs.outs.outs_of.Given as goal

abbrev pub invariant-loop-at : goal.invariant-loop-at
invariant-loop-at l = (length l.outs.items ≡ l.points) × AreOuts (take l.at l.edges) l.outs.items
