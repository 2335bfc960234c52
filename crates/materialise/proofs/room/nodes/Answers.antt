use Rattle.std.proofs.Common.{ℕ, ◌+◌, ◌<◌, length, sym, ap, ◌∙◌, arith}
use Rattle.std.specs.Option.{option_copied}
use Rattle.materialise.proofs.SplitSteps.{object_below, counted_more, counted_all, few_counted}
use Rattle.materialise.proofs.room.nodes.Goals as goal

pub unreachable-requires : goal.unreachable-requires
unreachable-requires c =
    let count = c.object_count-count.ensures.count in
    let test = c.loop-key-test.true in
    let below : c.loop-key.key < length c.args.graph.now.objects = omega arith in
    object_below c.args.graph.now c.object_count-count.ensures.graph c.loop-key.key below (sym c.object.ensures ∙ ap option_copied c.in-None.is)

pub loop-key-preserved : goal.loop-key-preserved
loop-key-preserved c =
    let count = c.object_count-count.ensures.count in
    let test = c.loop-key-test.true in
    let below : c.loop-key.key < length c.args.graph.now.objects = omega arith in
    ap (λ (n : ℕ). c.loop-key.total + n) c.nodes_of.ensures
    ∙ counted_more c.args.graph.now c.object_count-count.ensures.graph c.loop-key.key c.in-Some.object.now c.loop-key.total (sym c.object.ensures ∙ ap option_copied c.in-Some.is) below c.loop-key.invariant

pub overflow_add-total : goal.overflow_add-total
overflow_add-total c =
    let few = few_counted c.args.graph.now c.loop-key.key c.loop-key.total c.object_count-count.ensures.graph c.loop-key.invariant in omega arith

pub returns-clause-nodes : goal.returns-clause-nodes
returns-clause-nodes c =
    counted_all c.args.graph.now c.loop-key.key c.loop-key.total (let count = c.object_count-count.ensures.count in omega arith) c.loop-key.invariant

pub returns-clause-few : goal.returns-clause-few
returns-clause-few c = few_counted c.args.graph.now c.loop-key.key c.loop-key.total c.object_count-count.ensures.graph c.loop-key.invariant
