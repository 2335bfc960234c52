-- What is told is read off what stands in the row of the expression.
use Rattle.std.proofs.Common.{None, Some, sym, ap, ◌∙◌}
use Rattle.c_machine.specs.Trees.{standing}
use Rattle.c_text.proofs.RowsFound.{entity_is}
use Rattle.c_text.proofs.typed_text.TypedText.standing.Goals as goal

pub returns-in-None-clause-is : goal.returns-in-None-clause-is
returns-in-None-clause-is c = λ n p expr name stands same.
    ap (standing p name) (entity_is n c.args.self.now p expr c.args.number None stands same (sym c.row.ensures.found ∙ c.in-None.is))

pub returns-in-Some-clause-is : goal.returns-in-Some-clause-is
returns-in-Some-clause-is c = λ n p expr name stands same.
    c.standing_of.ensures.is n p name
    ∙ ap (standing p name) (entity_is n c.args.self.now p expr c.args.number (Some c.in-Some.row) stands same (sym c.row.ensures.found ∙ c.in-Some.is))
