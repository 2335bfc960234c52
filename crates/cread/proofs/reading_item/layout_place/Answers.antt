use Rattle.cread.proofs.FoundItems.{layout_within, layout_placed}
use Rattle.cread.proofs.reading_item.layout_place.Goals as goal

pub place_of-requires : goal.place_of-requires
place_of-requires c = layout_within c.args.t.now c.args.from c.args.to c.first_layout.result c.in-Some.number c.requires.numbered c.first_layout.ensures.first c.in-Some.is

pub returns-in-Some-clause-found : goal.returns-in-Some-clause-found
returns-in-Some-clause-found c =
    layout_placed c.args.t.now c.args.from c.args.to c.first_layout.result c.in-Some.number c.place_of.result c.first_layout.ensures.first c.in-Some.is c.place_of.ensures
