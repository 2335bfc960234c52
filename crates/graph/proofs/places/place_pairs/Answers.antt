use Rattle.std.proofs.Common.{add-one}
use Rattle.graph.specs.Renaming.{place_among, renamed_pair}
use Rattle.graph.proofs.PlaceAmong.{changed_more}
use Rattle.graph.proofs.places.place_pairs.Goals as goal

pub loop-pair-preserved : goal.loop-pair-preserved
loop-pair-preserved c =
    rw (add-one, c.place_of.ensures, c.place_of-in-loop-pair.ensures, c.loop-pair.invariant)
    (changed_more (renamed_pair (place_among c.args.keys.now)) c.args.pairs.now c.loop-pair.pair-index _ c.loop-pair-test.true)
