-- A program and its graph meet the same faults.
use Rattle.std.proofs.Common.{sym, ◌∙◌}
use Rattle.lowering.proofs.Law.{graphs_meet}
use Rattle.lower.proofs.program.lower.Goals as goal

pub returns-else-not-branch-2-clause-meets : goal.returns-else-not-branch-2-clause-meets
returns-else-not-branch-2-clause-meets c = λ n p stands items abi strict.
    graphs_meet p c.in-Some.flow (sym (c.in_ok-graph_of.ensures n p stands items abi strict) ∙ c.in-Some.is)
    (c.in_ok-is_well_formed-in-Some.ensures.0 c.if-not-branch.false)
