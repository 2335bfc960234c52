use Rattle.std.proofs.Common.{refl}
use Rattle.driver.proofs.Rested.{on_rest_noted}
use Rattle.driver.proofs.resting.tell_post.Goals as goal

pub returns : goal.returns
returns c = on_rest_noted c.args.flow.now c.args.limits.now c.args.work.now _ c.args.at c.args.which c.args.point c.args.number c.args.edge.now c.args.post.now c.as_slice.result.now
    c.note_kinds.new.warnings c.requires.so_far c.requires.stands c.requires.leads c.requires.post c.as_slice.ensures c.in_ok-note_kinds.ensures refl
