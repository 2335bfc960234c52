use Rattle.std.proofs.Common.{rules, ◌<◌, List, Option, Err, sym, ◌∙◌, ap, subst}
use Rattle.std.specs.Prelude.{IfSome}
use Rattle.graph.specs.declared.parts.Parts.{Parts}
use Rattle.settle.specs.Parted.{AreParted}
use Rattle.settle.proofs.Loop.{loop_done, loop_done_falls, loop_split, loop_split_falls, loop_large, loop_end}
use Rattle.settle.proofs.Measure.{turns}
use Rattle.settle.proofs.Turns.{AreSettled}
use Rattle.settle.proofs.settling.settle_all.Goals as goal

pub returns-in-Err-clause-large : goal.returns-in-Err-clause-large
returns-in-Err-clause-large c = λ is.
    loop_large c.args.registers.now c.args.left.now.items c.loop-graph.done c.loop-graph.left.items c.pop.new.self.items c.in-Some.graph c.first_cases.ensures.graph c.in-Some.ensures.items c.loop-graph.invariant
    (c.in-Err.ensures.large.0 (ap Err is))

pub loop-graph-smaller-in-Ok : goal.loop-graph-smaller-in-Ok
loop-graph-smaller-in-Ok c =
    loop_done_falls c.args.registers.now c.args.left.now.items c.loop-graph.done c.loop-graph.left.items c.pop.new.self.items c.in-Some.graph c.first_cases.ensures.graph c.in-Some.ensures.items c.loop-graph.invariant

pub loop-graph-preserved-in-Ok : goal.loop-graph-preserved-in-Ok
loop-graph-preserved-in-Ok c =
    subst (λ (done : List Parts). AreSettled c.args.registers.now c.args.left.now.items done c.pop.new.self.items) (sym c.in-Ok.ensures.ok)
    (loop_done c.args.registers.now c.args.left.now.items c.loop-graph.done c.loop-graph.left.items c.pop.new.self.items c.in-Some.graph c.first_cases.ensures.graph c.in-Some.ensures.items c.loop-graph.invariant
    (sym c.in-Ok-None.field-0-is ∙ c.in-Ok-None.ensures.ok))

pub loop-graph-smaller : goal.loop-graph-smaller
loop-graph-smaller c =
    subst (λ (left : List Parts). turns c.args.registers.now left < turns c.args.registers.now c.loop-graph.left.items) (sym c.in-Ok-push_back.ensures)
    (loop_split_falls c.args.registers.now c.args.left.now.items c.loop-graph.done c.loop-graph.left.items c.pop.new.self.items c.in-Some.graph c.first_cases.ensures.graph c.in-Some.ensures.items c.loop-graph.invariant
    c.in-Ok-Some.cases (sym c.in-Ok-Some.field-0-is ∙ c.in-Ok-Some.ensures.ok) c.in-Ok-Some.ensures.within)

pub loop-graph-preserved : goal.loop-graph-preserved
loop-graph-preserved c =
    subst (λ (left : List Parts). AreSettled c.args.registers.now c.args.left.now.items c.loop-graph.done left) (sym c.in-Ok-push_back.ensures)
    (loop_split c.args.registers.now c.args.left.now.items c.loop-graph.done c.loop-graph.left.items c.pop.new.self.items c.in-Some.graph c.first_cases.ensures.graph c.in-Some.ensures.items c.loop-graph.invariant
    c.in-Ok-Some.cases (sym c.in-Ok-Some.field-0-is ∙ c.in-Ok-Some.ensures.ok) c.in-Ok-Some.ensures.within
    (subst (λ (found : Option (List Parts)). IfSome found (AreParted c.in-Some.graph)) c.in-Ok-Some.field-0-is c.in-Ok-Some.ensures.parted))

pub returns-clause-parted : goal.returns-clause-parted
returns-clause-parted c = λ parts at_first.
    loop_end (AreParted parts) c.loop-graph.done c.loop-graph.left.items (search (rules, c.in_default.ensures)) (c.loop-graph.invariant.parted parts at_first)
