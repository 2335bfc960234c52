use Rattle.std.proofs.Common.{refl, length, replicate}
use Rattle.std.proofs.lemmas.List.{length-replicate}
use Rattle.std.proofs.lemmas.List.Elements.{All-replicate}
use Rattle.bytes_core.specs.declared.byte.Byte.TheVariants.{Num}
use Rattle.bytes_core.specs.Valid.{NamesBelow}
use Rattle.bytes_core.proofs.Kept.{IsMemory-written, room_there}
use Rattle.bytes_core.proofs.Indexed.{heads_kept}
use Rattle.bytes_core.proofs.writing.fill_some.Goals as goal

pub returns-clause-memory : goal.returns-clause-memory
returns-clause-memory c = λ valid.
    let inside = rw c.as_slice.ensures.value at c.in_ok-spot.ensures.stands in
    let room = rw c.as_slice.ensures.value at c.in_ok-spot.ensures.room in
    rw c.overfill_block.ensures
    (IsMemory-written c.args.blocks.now.items c.in_ok-spot.spot.block c.in_ok-spot.spot.from c.index_mut.result.now (replicate c.args.count (Num c.args.number)) valid inside c.index_mut.ensures.value
    (rw length-replicate
    (room_there c.args.blocks.now.items c.in_ok-spot.spot.block c.in_ok-spot.spot.from c.args.count c.index_mut.result.now room inside c.index_mut.ensures.value))
    (All-replicate (NamesBelow (length c.args.blocks.now.items)) c.args.count (Num c.args.number) tt))

pub returns-clause-heads : goal.returns-clause-heads
returns-clause-heads c =
    let inside = rw c.as_slice.ensures.value at c.in_ok-spot.ensures.stands in
    rw c.overfill_block.ensures (heads_kept c.args.blocks.now.items c.in_ok-spot.spot.block c.index_mut.result.now _ inside c.index_mut.ensures.value refl)
