use Rattle.std.proofs.Common.{◌∙◌, arith}
use Rattle.cbuild.proofs.Made.{made_no_more, made_in_the_end}
use Rattle.cbuild.proofs.builder.Builder.build_all.Goals as goal

pub returns-then-not-turn : goal.returns-then-not-turn
returns-then-not-turn c =
    made_no_more c.args.row.now c.args.events.now _ c.loop-index.index c.loop-index.self c.build_first.new.self c.in_ok-turn.turn.made c.in_ok-turn.ensures.made c.if-not-turn.true
    ∙ c.loop-index.invariant

pub returns : goal.returns
returns c = made_in_the_end c.args.row.now c.args.events.now c.loop-index.index c.loop-index.self (omega (arith, c.loop-index-test.false)) ∙ c.loop-index.invariant
