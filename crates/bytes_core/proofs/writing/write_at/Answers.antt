use Rattle.std.proofs.Common.{refl}
use Rattle.bytes_core.proofs.Kept.{IsMemory-written, room_there}
use Rattle.bytes_core.proofs.Indexed.{heads_kept}
use Rattle.bytes_core.proofs.writing.write_at.Goals as goal

pub returns-clause-memory : goal.returns-clause-memory
returns-clause-memory c = λ valid names.
    let inside = rw c.as_slice.ensures.value at c.in_ok-spot.ensures.stands in
    let room = rw c.as_slice.ensures.value at c.in_ok-spot.ensures.room in
    rw c.overwrite_block.ensures
    (IsMemory-written c.args.blocks.now.items c.in_ok-spot.spot.block c.in_ok-spot.spot.from c.index_mut.result.now c.args.written.now valid inside c.index_mut.ensures.value
    (room_there c.args.blocks.now.items c.in_ok-spot.spot.block c.in_ok-spot.spot.from _ c.index_mut.result.now room inside c.index_mut.ensures.value) names)

pub returns-clause-heads : goal.returns-clause-heads
returns-clause-heads c =
    let inside = rw c.as_slice.ensures.value at c.in_ok-spot.ensures.stands in
    rw c.overwrite_block.ensures (heads_kept c.args.blocks.now.items c.in_ok-spot.spot.block c.index_mut.result.now _ inside c.index_mut.ensures.value refl)
