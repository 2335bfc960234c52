use Rattle.std.proofs.Common.{◌≡◌, ◌<◌, false, length, get_or, Some, sym, ap, ◌∙◌, arith}
use Rattle.std.specs.Prelude.{slice_get}
use Rattle.std.specs.Option.{option_copied}
use Rattle.std.proofs.lemmas.Option.{slice_get-get_or, slice_get_within}
use Rattle.graph.proofs.AllMarked.{marked_left}
use Rattle.graph.proofs.addressed.dead_and_marked.Goals as goal

pub loop-key-preserved : goal.loop-key-preserved
loop-key-preserved c =
    let object = c.in-Some.object.now in
    let stands : slice_get c.args.objects.now c.loop-key.key ≡ Some object = sym c.get.ensures ∙ ap option_copied c.in-Some.is in
    let within : c.loop-key.key < length c.args.marks.now = let low = slice_get_within c.args.objects.now c.loop-key.key object stands in omega (arith, low, c.requires) in
    let marked : slice_get c.args.marks.now c.loop-key.key ≡ Some (get_or c.args.marks.now c.loop-key.key false) = slice_get-get_or c.args.marks.now c.loop-key.key false within in
    let step = marked_left c.args.objects.now c.args.marks.now c.loop-key.key object (get_or c.args.marks.now c.loop-key.key false) stands marked in
    (omega (arith, c.loop-key.invariant.0, step, c.one_if_both-count.ensures.value), omega (arith, c.loop-key.invariant.1, c.one_if_both-count.ensures.most))
