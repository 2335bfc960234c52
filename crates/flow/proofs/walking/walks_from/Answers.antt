-- Where all is counted, the last step says so.
use Rattle.std.proofs.Common.{subst}
use Rattle.flow.specs.declared.counting.Turn.{Turn}
use Rattle.flow.specs.declared.counting.Turn.TheVariants.{Counted}
use Rattle.flow.specs.Counting.{AfterTurn}
use Rattle.flow.proofs.walking.walks_from.Goals as goal

pub returns-in-Counted : goal.returns-in-Counted
returns-in-Counted c =
    let told : AfterTurn c.args.edges.now c.args.point (Counted c.in-Counted.number)
    c.take_turn.new.search.marks.items c.take_turn.new.search.earlier.items c.take_turn.new.search.visit
    = subst (λ (t : Turn). AfterTurn c.args.edges.now c.args.point t
    c.take_turn.new.search.marks.items c.take_turn.new.search.earlier.items c.take_turn.new.search.visit) c.in-Counted.is
    (c.in_ok-take_turn.ensures.keeps c.args.point c.loop-search.invariant.known) in
    c.answer_of.ensures c.args.edges.now c.args.point told.0 told.1 told.2
