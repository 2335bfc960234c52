use Rattle.std.proofs.Common.{◌≡◌, Some, sym, ap, ◌∙◌, arith}
use Rattle.std.specs.Prelude.{slice_get}
use Rattle.std.specs.Option.{option_copied}
use Rattle.graph.proofs.AllMarked.{dead_left}
use Rattle.graph.proofs.addressed.dead.Goals as goal

pub loop-key-preserved : goal.loop-key-preserved
loop-key-preserved c =
    let object = c.in-Some.object.now in
    let stands : slice_get c.args.objects.now c.loop-key.key ≡ Some object = sym c.get.ensures ∙ ap option_copied c.in-Some.is in
    let step = dead_left c.args.objects.now c.loop-key.key object stands in
    (omega (arith, c.loop-key.invariant.0, step, c.one_if_dead-count.ensures.value), omega (arith, c.loop-key.invariant.1, c.one_if_dead-count.ensures.most))
