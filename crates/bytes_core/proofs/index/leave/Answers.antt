use Rattle.std.proofs.Common.{◌≡◌, Some, refl, length}
use Rattle.std.specs.Prelude.{slice_get}
use Rattle.std.proofs.lemmas.Option.{slice_get_read}
use Rattle.bytes_core.specs.Indexed.{heads, live_bases}
use Rattle.bytes_core.proofs.Indexed.{IsIndexed-fewer, heap_share-le, base_at}
use Rattle.bytes_core.proofs.index.leave.Goals as goal

pub discount_heap-requires : goal.discount_heap-requires
discount_heap-requires c =
    let index = c.args.index.now in
    heap_share-le c.args.blocks.now c.args.number c.index-blocks-number.result index.live.numbers.items index.live.places.items index.bases index.heap
    (slice_get_read c.args.blocks.now (length c.args.blocks.now) c.args.number c.index-blocks-number.result refl c.requires.stands c.index-blocks-number.is) c.requires.indexed

pub returns : goal.returns
returns c =
    let index = c.args.index.now in
    let stands : slice_get c.args.blocks.now c.args.number ≡ Some c.index-blocks-number.result =
    slice_get_read c.args.blocks.now (length c.args.blocks.now) c.args.number c.index-blocks-number.result refl c.requires.stands c.index-blocks-number.is in
    IsIndexed-fewer c.args.blocks.now c.args.number c.index-blocks-number.result index.live.numbers.items index.live.places.items
    c.count_out.new.live.numbers.items c.count_out.new.live.places.items index.bases c.forget_base.new.bases index.heap c.discount_heap.new.heap stands c.requires.indexed
    c.count_out.ensures (c.forget_base.ensures (live_bases (heads c.args.blocks.now)) c.args.number (base_at c.args.blocks.now c.args.number c.index-blocks-number.result stands) c.requires.indexed.begins)
    c.discount_heap.ensures
