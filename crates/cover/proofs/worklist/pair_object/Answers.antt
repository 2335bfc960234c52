use Rattle.std.proofs.Common.{rules, sym, ◌∙◌}
use Rattle.graph.specs.Meaning.{maps_of}
use Rattle.cover.proofs.Queue.{object-linked}
use Rattle.cover.proofs.worklist.pair_object.Goals as goal

pub returns : goal.returns
returns c = object-linked (maps_of c.args.wide.now) (maps_of c.args.narrow.now) c.args.found.now c.pair_ends.new.found c.pair_contents.new.found c.args.one c.in-Some.other c.in-Some-object.object.now c.in-Some-object-2.with.now
    c.in_ok-pair_ends.field-0 c.in_ok-fine.fine (sym c.partner.ensures ∙ c.in-Some.is) (search rules) (search rules) (search rules) c.in_ok-pair_ends.ensures c.in_ok-fine.ensures
