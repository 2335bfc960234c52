use Rattle.driver.specs.Looping.{OnEdge}
use Rattle.driver.proofs.expanding.add_post.Given as goal

abbrev pub invariant-loop-which : goal.invariant-loop-which
invariant-loop-which l = OnEdge l.flow l.limits l.work l.at l.point l.number l.edge l.post l.which
