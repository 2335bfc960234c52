use Rattle.std.proofs.Common.{◌<◌, length, arith}
use Rattle.fold.proofs.Entries.{folds_step}
use Rattle.fold.proofs.candidates.push_all.Goals as goal

pub loop-key-preserved : goal.loop-key-preserved
loop-key-preserved c =
    let count = c.object_count-key-end.ensures.count in
    let test = c.loop-key-test.true in
    let below : c.loop-key.key < length c.args.graph.now.objects = omega arith in
    folds_step c.args.graph.now c.loop-key.key c.object_count-key-end.ensures.graph.keys.objects below _ _ _ c.loop-key.invariant c.in_ok-push_from.ensures
