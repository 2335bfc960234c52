use Rattle.std.proofs.Common.{rules, refl}
use Rattle.driver.proofs.Booked.{kept_there}
use Rattle.driver.proofs.adding.add_kept.Goals as goal

pub returns : goal.returns
returns c = kept_there c.args.budget c.args.work.now _ c.args.point c.slot_of-slot.result c.mark_in-mark.result c.live_count-live.result c.in_ok-cells.cells c.args.cause c.args.graph (search rules)
    c.requires.booked c.requires.room (search rules) (search rules) (search rules) (search rules) (search rules) (search rules) (search rules) (search rules) (search rules) (search rules) refl refl refl
