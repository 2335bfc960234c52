-- A body that has no edge.
use Rattle.lowering.specs.Clauses.{clause_in}
use Rattle.lower.proofs.LoopsLead.{passes_at_head}
use Rattle.lower.proofs.placing.loops.is_at_head.Goals as goal

pub returns-in-None-test : goal.returns-in-None-test
returns-in-None-test c = λ p.
    passes_at_head p c.args.test.now c.args.next.now _ c.args.body.now (clause_in c.read_clause.result) c.passes.result c.in-None-test.is c.in-Some.is (c.read_clause.ensures p)
    (c.passes.ensures p)
