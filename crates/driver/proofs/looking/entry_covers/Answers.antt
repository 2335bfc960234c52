use Rattle.std.proofs.Common.{rules}
use Rattle.driver.proofs.Counted.{other_count_there}
use Rattle.driver.proofs.looking.entry_covers.Goals as goal

pub returns-then-count_in-live : goal.returns-then-count_in-live
returns-then-count_in-live c = other_count_there c.args.work.now.trail c.args.work.now.counts.items c.as_slice.result.now c.args.number c.args.graph.now c.count_in.result c.args.live c.requires.counted c.requires.live
    c.as_slice.ensures.value c.count_in.ensures (search rules)
