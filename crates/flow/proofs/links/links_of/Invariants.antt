use Rattle.flow.specs.Counting.{AreLinks}
use Rattle.flow.proofs.links.links_of.Given as goal

abbrev pub invariant-loop-at : goal.invariant-loop-at
invariant-loop-at l = AreLinks l.edges l.points l.at l.first.items l.next.items
