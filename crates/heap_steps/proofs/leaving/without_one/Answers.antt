use Rattle.std.proofs.Common.{sym, ◌∙◌, ap}
use Rattle.graph.specs.Maps.{storage_of}
use Rattle.heap_steps.proofs.LeaveReady.{gone_ready, there_ready, one_ready}
use Rattle.heap_steps.proofs.leaving.without_one.Goals as goal

pub with_dead-requires-clause-graph : goal.with_dead-requires-clause-graph
with_dead-requires-clause-graph c = gone_ready c.args.variable c.args.parts c.in-Ok.gone c.requires.graph c.in-Ok.ensures

pub with_dead-requires-clause-there : goal.with_dead-requires-clause-there
with_dead-requires-clause-there c =
    there_ready c.args.variable c.in-Some.key c.args.parts c.in-Ok.gone c.requires.graph
    (ap (λ variables. storage_of variables c.args.variable) (sym c.as_slice.ensures) ∙ sym c.in-Some.ensures) c.in-Ok.ensures

pub returns-in-Ok : goal.returns-in-Ok
returns-in-Ok c =
    one_ready c.args.variable c.in-Some.key c.args.parts c.in-Ok.gone c.with_dead.result c.requires.graph
    (ap (λ variables. storage_of variables c.args.variable) (sym c.as_slice.ensures) ∙ sym c.in-Some.ensures) c.in-Ok.ensures c.with_dead.ensures
