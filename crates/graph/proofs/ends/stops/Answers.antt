use Rattle.std.proofs.Common.{ap, ◌∙◌, not}
use Rattle.graph.proofs.Following.{stops_from, last_stops, last_runs}
use Rattle.graph.proofs.ends.stops.Goals as goal

pub returns-in_default-go-clause-stops : goal.returns-in_default-go-clause-stops
returns-in_default-go-clause-stops c = λ _.
    stops_from c.args.parts.now c.len-count.result c.args.start c.in-Some.one c.in-Some.ensures.runs (c.go-2.ensures.stops c.in_default-go.is)

pub returns-clause-stops : goal.returns-clause-stops
returns-clause-stops c = λ is.
    stops_from c.args.parts.now c.len-count.result c.args.start c.in-Some.one c.in-Some.ensures.runs
    (stops_from c.args.parts.now c.len-count.result c.in-Some.one c.in-Some-go.two c.in-Some-go.ensures.runs
    (last_stops c.args.parts.now c.in-Some-go.two c.go-3.result c.go-3.ensures.stops (c.is_none.ensures ∙ ap not is)))

pub returns-clause-runs : goal.returns-clause-runs
returns-clause-runs c = λ is.
    last_runs c.args.parts.now c.len-count.result c.args.start c.in-Some.one c.in-Some-go.two c.go-3.result c.len-count.ensures
    c.in-Some.ensures.runs c.in-Some-go.ensures.runs c.go-3.ensures.runs (c.is_none.ensures ∙ ap not is)
