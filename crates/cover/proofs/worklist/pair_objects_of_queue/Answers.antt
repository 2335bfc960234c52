use Rattle.std.proofs.Common.{rules}
use Rattle.graph.specs.Meaning.{maps_of}
use Rattle.cover.proofs.Queue.{queue-next-as, queue-end}
use Rattle.cover.proofs.worklist.pair_objects_of_queue.Goals as goal

pub loop-at-preserved : goal.loop-at-preserved
loop-at-preserved c = queue-next-as (maps_of c.args.wide.now) (maps_of c.args.narrow.now) c.args.found.now c.loop-at.found c.pair_object.new.found c.loop-at.at c.queued-one.result 0 c.in_ok-pair_object.field-0
    c.loop-at.invariant (search rules) c.queued-one.ensures (search rules) c.in_ok-pair_object.ensures

pub returns : goal.returns
returns c = queue-end (maps_of c.args.wide.now) (maps_of c.args.narrow.now) c.args.found.now c.loop-at.found c.loop-at.at c.loop-at.invariant (search rules)
