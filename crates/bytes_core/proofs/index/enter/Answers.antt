use Rattle.std.proofs.Common.{sym, arith}
use Rattle.bytes_core.specs.Indexed.{heads, live_bases}
use Rattle.bytes_core.proofs.Indexed.{IsIndexed-more, heap-le, base_free, length_bases}
use Rattle.bytes_core.proofs.index.enter.Goals as goal

pub count_heap-requires : goal.count_heap-requires
count_heap-requires c =
    let index = c.args.index.now in
    let most = heap-le c.args.blocks.now index.live.numbers.items index.live.places.items index.bases index.heap c.requires.indexed in
    let few = c.requires.few in
    omega (arith, most, few)

pub returns-clause-ok : goal.returns-clause-ok
returns-clause-ok c =
    let index = c.args.index.now in
    let memory = c.args.blocks.now in
    let block = c.args.block.now in
    let begins = c.in_ok-note_base.ensures.ok (live_bases (heads memory)) (sym (length_bases memory)) c.requires.indexed.begins
    (λ lives. base_free memory index.bases block c.requires.indexed.begins c.requires.apart lives) in
    rw (c.count_in.ensures.numbers, c.count_in.ensures.places, c.make_room.ensures.numbers, c.make_room.ensures.places, c.count_heap.ensures)
    (IsIndexed-more memory block index.live.numbers.items index.live.places.items index.bases c.note_base.new.bases index.heap c.requires.indexed begins)
