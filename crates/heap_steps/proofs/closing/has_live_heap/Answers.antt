use Rattle.std.proofs.Common.{◌<◌, length, sym, ap, ◌∙◌, arith}
use Rattle.std.specs.Option.{option_copied}
use Rattle.heap_steps.specs.Closing.{is_live_heap}
use Rattle.heap_steps.proofs.Loose.{none_more, some_here}
use Rattle.heap_steps.proofs.Unmarked.{object_below}
use Rattle.heap_steps.proofs.closing.has_live_heap.Goals as goal

pub unreachable-requires : goal.unreachable-requires
unreachable-requires c =
    let count = c.object_count-count.ensures.count in
    let test = c.loop-key-test.true in
    let below : c.loop-key.key < length c.args.graph.now.objects = omega arith in
    object_below c.args.graph.now c.object_count-count.ensures.graph c.loop-key.key below (sym c.object.ensures ∙ ap option_copied c.in-None.is)

pub returns-then-is_live_heap : goal.returns-then-is_live_heap
returns-then-is_live_heap c =
    sym (some_here c.args.graph.now c.object_count-count.ensures.graph is_live_heap c.loop-key.key c.in-Some.object.now
    (sym c.object.ensures ∙ ap option_copied c.in-Some.is) (sym c.is_live_heap.ensures ∙ c.if-is_live_heap.true))

pub loop-key-preserved : goal.loop-key-preserved
loop-key-preserved c =
    let count = c.object_count-count.ensures.count in
    let test = c.loop-key-test.true in
    let below : c.loop-key.key < length c.args.graph.now.objects = omega arith in
    none_more c.args.graph.now c.object_count-count.ensures.graph is_live_heap c.loop-key.key c.in-Some.object.now
    (sym c.object.ensures ∙ ap option_copied c.in-Some.is) below c.loop-key.invariant (sym c.is_live_heap.ensures ∙ c.if-is_live_heap.false)
