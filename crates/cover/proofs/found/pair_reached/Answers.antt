use Rattle.cover.proofs.Go.{object_goes}
use Rattle.cover.proofs.found.pair_reached.Goals as goal

pub returns-clause-goes : goal.returns-clause-goes
returns-clause-goes c = object_goes _ _ c.args.found.now c.pair_objects.new.found c.args.one c.args.other c.in_ok-fine.fine c.requires.sound c.requires.reached c.in_ok-fine.ensures.both c.in_ok-fine.ensures.pairs c.in_ok-fine.ensures.counted
