-- What the body is.
use Rattle.lower.specs.Built.{made_of}
use Rattle.lowering.specs.Clauses.{clause_in}
use Rattle.lower.proofs.LoopsLead.{declared_fails, not_declared}
use Rattle.lower.proofs.placing.loops.unless_declared.Goals as goal

pub returns-then-is_declaration : goal.returns-then-is_declaration
returns-then-is_declaration c = λ p.
    declared_fails p c.args.body.now (made_of c.args.builder.now) (made_of c.fail.new.self) (clause_in c.read_clause.result) c.is_declaration.result (c.read_clause.ensures p)
    (c.is_declaration.ensures p) c.if-is_declaration.true c.fail.ensures

pub returns-else-is_declaration : goal.returns-else-is_declaration
returns-else-is_declaration c = λ p.
    not_declared p c.args.body.now (made_of c.args.builder.now) (clause_in c.read_clause.result) c.is_declaration.result (c.read_clause.ensures p)
    (c.is_declaration.ensures p) c.if-is_declaration.false
