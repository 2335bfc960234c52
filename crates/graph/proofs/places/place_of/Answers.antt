use Rattle.std.proofs.Common.{Ok, Err}
use Rattle.graph.proofs.ByHalves.{place_searched}
use Rattle.graph.proofs.places.place_of.Goals as goal

pub returns-in-Ok : goal.returns-in-Ok
returns-in-Ok c = place_searched c.args.keys.now c.args.key (Ok c.in-Ok.place) c.requires.ascending c.in-Ok.ensures.position

pub returns-in-Err : goal.returns-in-Err
returns-in-Err c = place_searched c.args.keys.now c.args.key (Err c.in-Err.field-0) c.requires.ascending c.in-Err.ensures.position
