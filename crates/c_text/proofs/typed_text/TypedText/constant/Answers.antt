-- It stands in the row of the expression.
use Rattle.std.proofs.Common.{None, Some, sym, ◌∙◌}
use Rattle.c_text.proofs.RowsFound.{constant_is}
use Rattle.c_text.proofs.typed_text.TypedText.constant.Goals as goal

pub returns-in-None : goal.returns-in-None
returns-in-None c = λ n p expr stands same. constant_is n c.args.self.now p expr c.args.number None stands same (sym c.row.ensures.found ∙ c.in-None.is)

pub returns-in-Some : goal.returns-in-Some
returns-in-Some c = λ n p expr stands same.
    constant_is n c.args.self.now p expr c.args.number (Some c.in-Some.row) stands same (sym c.row.ensures.found ∙ c.in-Some.is)
