use Rattle.std.proofs.Common.{◌<◌, length, sym, ap, ◌∙◌, arith}
use Rattle.std.specs.Option.{option_copied}
use Rattle.graph.specs.declared.object.Object.{Object}
use Rattle.graph.specs.Nodes.{node_of}
use Rattle.heap_steps.specs.Unreached.{edges_hold_any}
use Rattle.heap_steps.proofs.Loose.{none_more, some_here}
use Rattle.heap_steps.proofs.Unmarked.{object_below}
use Rattle.heap_steps.proofs.anywhere.objects_hold_any.Goals as goal

pub unreachable-requires : goal.unreachable-requires
unreachable-requires c =
    let count = c.object_count-count.ensures.count in
    let test = c.loop-key-test.true in
    let below : c.loop-key.key < length c.args.graph.now.objects = omega arith in
    object_below c.args.graph.now c.object_count-count.ensures.graph c.loop-key.key below (sym c.object.ensures ∙ ap option_copied c.in-None.is)

pub returns-then-holds_any : goal.returns-then-holds_any
returns-then-holds_any c =
    sym (some_here c.args.graph.now c.object_count-count.ensures.graph (λ (object : Object). edges_hold_any c.args.graph.now (node_of object).edges) c.loop-key.key c.in-Some.object.now
    (sym c.object.ensures ∙ ap option_copied c.in-Some.is) (sym c.holds_any.ensures ∙ c.if-holds_any.true))

pub loop-key-preserved : goal.loop-key-preserved
loop-key-preserved c =
    let count = c.object_count-count.ensures.count in
    let test = c.loop-key-test.true in
    let below : c.loop-key.key < length c.args.graph.now.objects = omega arith in
    none_more c.args.graph.now c.object_count-count.ensures.graph (λ (object : Object). edges_hold_any c.args.graph.now (node_of object).edges) c.loop-key.key c.in-Some.object.now
    (sym c.object.ensures ∙ ap option_copied c.in-Some.is) below c.loop-key.invariant (sym c.holds_any.ensures ∙ c.if-holds_any.false)
