use Rattle.std.proofs.Common.{ℕ, ◌<◌, Bool, ◌∷◌, ◌++◌, [], length, sym, ap, ◌∙◌, arith}
use Rattle.std.specs.Prelude.{if◌then◌else◌}
use Rattle.std.specs.Option.{option_copied}
use Rattle.heap_steps.specs.Unreached.{is_unmarked_object}
use Rattle.heap_steps.proofs.Unmarked.{object_below, unmarked_more}
use Rattle.heap_steps.proofs.lost.unmarked.Goals as goal

pub unreachable-requires : goal.unreachable-requires
unreachable-requires c =
    let count = c.object_count-count.ensures.count in
    let test = c.loop-key-test.true in
    let below : c.loop-key.key < length c.args.graph.now.objects = omega arith in
    object_below c.args.graph.now c.object_count-count.ensures.graph c.loop-key.key below (sym c.object.ensures ∙ ap option_copied c.in-None.is)

pub loop-key-preserved : goal.loop-key-preserved
loop-key-preserved c =
    let count = c.object_count-count.ensures.count in
    let test = c.loop-key-test.true in
    let below : c.loop-key.key < length c.args.graph.now.objects = omega arith in
    unmarked_more c.args.graph.now c.object_count-count.ensures.graph c.args.marks.now c.loop-key.key c.in-Some.object.now c.loop-key.keys c.push_if.new.keys
    (sym c.object.ensures ∙ ap option_copied c.in-Some.is) below c.loop-key.invariant
    (c.in_ok-push_if-in-Some.ensures
    ∙ ap (λ (b : Bool). if b then c.loop-key.keys ++ c.loop-key.key ∷ [] else c.loop-key.keys)
    (c.is_unmarked.ensures ∙ ap (λ (n : ℕ). is_unmarked_object n c.args.marks.now c.loop-key.key c.in-Some.object.now) c.object_count-count.ensures.count))
