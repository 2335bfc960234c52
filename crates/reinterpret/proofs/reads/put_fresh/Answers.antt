use Rattle.reinterpret.proofs.ReadReady.{fit_value, more_graph, more_held}
use Rattle.reinterpret.proofs.reads.put_fresh.Goals as goal

pub put-requires-clause-graph : goal.put-requires-clause-graph
put-requires-clause-graph c =
    more_graph c.args.graph.now c.in-Ok.parts c.in-Ok-with_value.more c.args.value c.requires.graph (fit_value c.args.graph.now c.args.value c.requires.sized c.requires.leads c.requires.held) c.in-Ok.ensures.ok c.in-Ok-with_value.ensures

pub put-requires-clause-value : goal.put-requires-clause-value
put-requires-clause-value c =
    more_held c.args.graph.now c.in-Ok.parts c.in-Ok-with_value.more c.args.value c.value_count-key.result c.requires.graph (fit_value c.args.graph.now c.args.value c.requires.sized c.requires.leads c.requires.held) c.in-Ok.ensures.ok c.in-Ok-with_value.ensures
    c.value_count-key.ensures.count
