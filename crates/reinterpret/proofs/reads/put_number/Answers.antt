use Rattle.reinterpret.proofs.ReadReady.{number_more, number_graph, number_held_in}
use Rattle.reinterpret.proofs.reads.put_number.Goals as goal

pub write_object-requires-clause-graph : goal.write_object-requires-clause-graph
write_object-requires-clause-graph c = number_more c.args.graph.now c.in-Ok.parts c.in-Ok-with_value.more c.args.size c.requires.graph c.requires.size c.in-Ok.ensures.ok c.in-Ok-with_value.ensures

pub put-requires-clause-graph : goal.put-requires-clause-graph
put-requires-clause-graph c =
    number_graph c.args.graph.now c.in-Ok.parts c.in-Ok-with_value.more c.in-Ok-write_object.written c.args.size c.args.key c.args.from c.value_count-fresh.result c.requires.graph c.requires.size c.in-Ok.ensures.ok c.in-Ok-with_value.ensures
    c.value_count-fresh.ensures.count c.requires.room c.in-Ok-write_object.ensures

pub put-requires-clause-value : goal.put-requires-clause-value
put-requires-clause-value c =
    number_held_in c.args.graph.now c.in-Ok.parts c.in-Ok-with_value.more c.in-Ok-write_object.written c.args.size c.args.key c.args.from c.value_count-fresh.result c.requires.graph c.in-Ok.ensures.ok c.in-Ok-with_value.ensures
    c.value_count-fresh.ensures.count c.requires.room c.in-Ok-write_object.ensures
