use Rattle.cconstructs.proofs.First.{answer_exact}
use Rattle.cconstructs.proofs.constructs.first_construct.Goals as goal

pub returns-clause-first : goal.returns-clause-first
returns-clause-first c = answer_exact c.args.row.now c.in_ok-first_of_row.field-0 c.in_ok-first_of_row.ensures
