use Rattle.driver.proofs.Left.{one_left}
use Rattle.driver.proofs.leaving.left_graphs.Goals as goal

pub loop-graph-preserved : goal.loop-graph-preserved
loop-graph-preserved c = one_left c.loop-graph.yielded c.loop-graph.left c.push.new.self c.in-Some.graph c.in_ok-left_graph.field-0 c.loop-graph.invariant c.in_ok-left_graph.ensures c.in_ok-push.ensures.ok
