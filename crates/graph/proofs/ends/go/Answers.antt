use Rattle.std.proofs.Common.{sym, ◌∙◌}
use Rattle.graph.proofs.Following.{stops_from, stops_here, followed_more}
use Rattle.graph.proofs.ends.go.Goals as goal

pub returns-then-is_known-clause-stops : goal.returns-then-is_known-clause-stops
returns-then-is_known-clause-stops c = λ _.
    stops_from c.args.parts.now c.loop.counter c.args.start c.loop.end c.loop.invariant (c.requires.known c.loop.end (sym c.is_known.ensures ∙ c.if-is_known.true))

pub returns-in-None-clause-stops : goal.returns-in-None-clause-stops
returns-in-None-clause-stops c = λ _.
    stops_from c.args.parts.now c.loop.counter c.args.start c.loop.end c.loop.invariant (stops_here c.args.parts.now c.loop.end (sym c.next_end.ensures ∙ c.in-None.is))

pub loop-preserved : goal.loop-preserved
loop-preserved c = followed_more c.args.parts.now c.loop.counter c.args.start c.loop.end c.loop.invariant ∙ sym c.next_end.ensures ∙ c.in-Some.is
