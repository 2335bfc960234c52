use Rattle.cread.proofs.FoundItems.{construct_there, construct_placed}
use Rattle.cread.proofs.reading_item.construct_place.Goals as goal

pub place_in-requires : goal.place_in-requires
place_in-requires c = construct_there c.args.row.now c.in_ok-found.field-0 c.in-Some.found c.in_ok-found.ensures.first c.in-Some.is

pub returns-in-Some-clause-found : goal.returns-in-Some-clause-found
returns-in-Some-clause-found c =
    construct_placed c.args.row.now c.in_ok-found.field-0 c.in-Some.found c.place_in.result c.in_ok-found.ensures.first c.in-Some.is c.place_in.ensures
