use Rattle.std.proofs.Common.{◌<◌, length, arith}
use Rattle.fold.specs.Holders.{holds_third}
use Rattle.fold.proofs.Entries.{any_here, any_there}
use Rattle.fold.proofs.holders.objects_hold.Goals as goal

pub returns-then-stands_third : goal.returns-then-stands_third
returns-then-stands_third c =
    let count = c.object_count-home-end.ensures.count in
    let test = c.loop-home-test.true in
    let below : c.loop-home.home < length c.args.graph.now.objects = omega arith in
    any_here (holds_third c.args.graph.now c.args.fold.now c.args.key c.args.link c.args.place) c.args.graph.now.objects c.loop-home.home c.object_count-home-end.ensures.graph.keys.objects below _ _ c.loop-home.invariant
    c.stands_third.ensures c.if-stands_third.true

pub loop-home-preserved : goal.loop-home-preserved
loop-home-preserved c =
    let count = c.object_count-home-end.ensures.count in
    let test = c.loop-home-test.true in
    let below : c.loop-home.home < length c.args.graph.now.objects = omega arith in
    any_there (holds_third c.args.graph.now c.args.fold.now c.args.key c.args.link c.args.place) c.args.graph.now.objects c.loop-home.home c.object_count-home-end.ensures.graph.keys.objects below _ _ c.loop-home.invariant
    c.stands_third.ensures c.if-stands_third.false
