use Rattle.std.proofs.Common.{◌<◌, length, sym, ap, ◌∙◌, arith}
use Rattle.std.specs.Option.{option_copied}
use Rattle.graph.specs.declared.object.Object.{Object}
use Rattle.graph.specs.Nodes.{node_of}
use Rattle.heap_steps.specs.Unreached.{has_loose_byte}
use Rattle.heap_steps.proofs.Loose.{edges_inside, none_more, some_here}
use Rattle.heap_steps.proofs.Unmarked.{object_below}
use Rattle.heap_steps.proofs.anywhere.some_loose.Goals as goal

pub unreachable-requires : goal.unreachable-requires
unreachable-requires c =
    let count = c.object_count-count.ensures.count in
    let test = c.loop-key-test.true in
    let below : c.loop-key.key < length c.args.graph.now.objects = omega arith in
    object_below c.args.graph.now c.object_count-count.ensures.graph c.loop-key.key below (sym c.object.ensures ∙ ap option_copied c.in-None.is)

pub is_loose-requires : goal.is_loose-requires
is_loose-requires c = record { inside = edges_inside c.args.graph.now c.object_count-count.ensures.graph c.loop-key.key c.in-Some.object.now (sym c.object.ensures ∙ ap option_copied c.in-Some.is) }

pub returns-then-branch : goal.returns-then-branch
returns-then-branch c =
    sym (some_here c.args.graph.now c.object_count-count.ensures.graph (λ (object : Object). has_loose_byte (node_of object).edges 0 (node_of object).plane) c.loop-key.key c.in-Some.object.now
    (sym c.object.ensures ∙ ap option_copied c.in-Some.is) (sym c.in_ok-is_loose-in-Some.ensures ∙ c.if-branch.true))

pub loop-key-preserved : goal.loop-key-preserved
loop-key-preserved c =
    let count = c.object_count-count.ensures.count in
    let test = c.loop-key-test.true in
    let below : c.loop-key.key < length c.args.graph.now.objects = omega arith in
    none_more c.args.graph.now c.object_count-count.ensures.graph (λ (object : Object). has_loose_byte (node_of object).edges 0 (node_of object).plane) c.loop-key.key c.in-Some.object.now
    (sym c.object.ensures ∙ ap option_copied c.in-Some.is) below c.loop-key.invariant (sym c.in_ok-is_loose-in-Some.ensures ∙ c.if-branch.false)
