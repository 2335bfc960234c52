-- One initialiser after the other.
use Rattle.std.proofs.Common.{◌+◌, drop}
use Rattle.std.proofs.lemmas.List.{drop_all}
use Rattle.expressions.proofs.Loops.{next_item}
use Rattle.c_text.proofs.statics.Static.{static_next, static_end}
use Rattle.c_text.proofs.statics.statics.keep_static.Goals as goal

pub loop-set-preserved : goal.loop-set-preserved
loop-set-preserved c = λ n p stands.
    static_next p c.set-item.result (drop c.loop-set.set-index c.args.sets.now) (drop (c.loop-set.set-index + 1) c.args.sets.now) c.loop-set.kept c.keep_if_static.new.kept _
    (next_item c.args.sets.now c.loop-set.set-index c.set-item.result c.loop-set-test.true c.set-item.is) (c.in_ok-keep_if_static.ensures n p stands) (c.loop-set.invariant n p stands)

pub returns : goal.returns
returns c = λ n p stands.
    static_end p (drop c.loop-set.set-index c.args.sets.now) c.loop-set.kept _ (drop_all c.loop-set.set-index c.args.sets.now c.loop-set-test.false) (c.loop-set.invariant n p stands)
