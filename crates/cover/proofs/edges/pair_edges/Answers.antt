use Rattle.std.proofs.Common.{rules, sym, ◌∙◌}
use Rattle.graph.specs.Nodes.{node_of}
use Rattle.cover.proofs.Links.{links_none_as, links_next_as}
use Rattle.cover.proofs.edges.pair_edges.Goals as goal

pub returns-in-None : goal.returns-in-None
returns-in-None c = links_none_as _ _ c.args.found.now c.loop-at.found c.args.one c.args.other c.args.object.now c.args.with.now c.edges_of-edges.result.now c.loop-at.at _ c.edges_of-edges.ensures c.loop-at.invariant (search rules)
    c.requires.reached c.requires.stands c.requires.with_stands c.requires.live (sym c.held_in.ensures ∙ c.in-None.is)

pub loop-at-preserved : goal.loop-at-preserved
loop-at-preserved c = links_next_as _ _ c.args.found.now c.loop-at.found c.pair_value.new.found (node_of c.args.with.now) c.edges_of-edges.result.now (node_of c.args.object.now).edges c.loop-at.at _ c.in-Some.held c.in_ok-pair_value.field-0
    c.edges_of-edges.ensures c.loop-at.invariant (sym c.held_in.ensures ∙ c.in-Some.is) c.in_ok-pair_value.ensures (search rules)
