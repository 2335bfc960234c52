use Rattle.std.proofs.Common.{◌<◌, not, length, sym, ap, ◌∙◌, arith}
use Rattle.std.specs.Option.{option_copied}
use Rattle.graph.specs.declared.object.Object.{Object}
use Rattle.heap_steps.specs.Closing.{has_a_block}
use Rattle.heap_steps.proofs.Loose.{none_more, some_here}
use Rattle.heap_steps.proofs.Unmarked.{object_below}
use Rattle.transfer.proofs.ending.some_may_be_empty.Goals as goal

pub unreachable-requires : goal.unreachable-requires
unreachable-requires c =
    let count = c.object_count-count.ensures.count in
    let test = c.loop-key-test.true in
    let below : c.loop-key.key < length c.args.graph.now.objects = omega arith in
    object_below c.args.graph.now c.object_count-count.ensures.graph c.loop-key.key below (sym c.object.ensures ∙ ap option_copied c.in-None.is)

pub returns-then-may_be_empty : goal.returns-then-may_be_empty
returns-then-may_be_empty c =
    sym (some_here c.args.graph.now c.object_count-count.ensures.graph (λ (object : Object). not (has_a_block object.shape)) c.loop-key.key c.in-Some.object.now
    (sym c.object.ensures ∙ ap option_copied c.in-Some.is) (sym c.may_be_empty.ensures ∙ c.if-may_be_empty.true))

pub loop-key-preserved : goal.loop-key-preserved
loop-key-preserved c =
    let count = c.object_count-count.ensures.count in
    let test = c.loop-key-test.true in
    let below : c.loop-key.key < length c.args.graph.now.objects = omega arith in
    none_more c.args.graph.now c.object_count-count.ensures.graph (λ (object : Object). not (has_a_block object.shape)) c.loop-key.key c.in-Some.object.now
    (sym c.object.ensures ∙ ap option_copied c.in-Some.is) below c.loop-key.invariant (sym c.may_be_empty.ensures ∙ c.if-may_be_empty.false)
