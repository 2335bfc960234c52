use Rattle.std.proofs.Common.{rules}
use Rattle.driver.proofs.Slotted.{same_point}
use Rattle.driver.proofs.looking.peer_covers.Goals as goal

pub returns : goal.returns
returns c = same_point c.args.work.now.trail c.as_slice.result.now c.args.number c.args.point c.point_of.result c.args.graph.now c.in_ok-covers.covers c.as_slice.ensures c.point_of.ensures (search rules) c.in_ok-covers.ensures
