use Rattle.std.proofs.Common.{rules, sym, ◌∙◌}
use Rattle.graph.specs.Meaning.{maps_of}
use Rattle.cover.proofs.Queue.{next-reached, prev-reached, ends-linked-as}
use Rattle.cover.proofs.worklist.pair_ends.Goals as goal

pub pair_value-requires-clause-reached : goal.pair_value-requires-clause-reached
pair_value-requires-clause-reached c = next-reached (maps_of c.args.wide.now) (maps_of c.args.narrow.now) c.args.one c.args.other c.args.object.now c.args.with.now c.in-Some.links c.in-Some-links.others c.content_of-next.result
    c.requires.reached c.requires.stands c.requires.with_stands (sym c.links.ensures ∙ c.in-Some.is) (sym c.links-2.ensures ∙ c.in-Some-links.is) c.content_of-next.ensures

pub pair_value-requires-2-clause-reached : goal.pair_value-requires-2-clause-reached
pair_value-requires-2-clause-reached c = prev-reached (maps_of c.args.wide.now) (maps_of c.args.narrow.now) c.args.one c.args.other c.args.object.now c.args.with.now c.in-Some.links c.in-Some-links.others c.content_of-prev.result
    c.requires.reached c.requires.stands c.requires.with_stands (sym c.links.ensures ∙ c.in-Some.is) (sym c.links-2.ensures ∙ c.in-Some-links.is) c.content_of-prev.ensures

pub returns : goal.returns
returns c = ends-linked-as (maps_of c.args.wide.now) (maps_of c.args.narrow.now) c.args.found.now c.pair_value.new.found c.pair_value-2.new.found c.args.object.now c.args.with.now c.in-Some.links c.in-Some-links.others
    c.content_of-next.result c.content_of-prev.result c.in_ok-pair_value.field-0 c.in_ok-fine.fine (sym c.links.ensures ∙ c.in-Some.is) (sym c.links-2.ensures ∙ c.in-Some-links.is) c.content_of-next.ensures c.content_of-prev.ensures (search rules)
    c.in_ok-pair_value.ensures c.in_ok-fine.ensures
