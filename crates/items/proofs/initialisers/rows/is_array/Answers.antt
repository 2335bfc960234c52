use Rattle.std.proofs.Common.{ap, ◌∙◌}
use Rattle.std.specs.Prelude.{Option, option_map}
use Rattle.typing.specs.Initialisers.{is_array_row}
use Rattle.items.specs.declared.initialisers.rows.Row.{Row}
use Rattle.items.specs.initialisers.Constants.{row_at}
use Rattle.items.proofs.initialisers.Constants.{array_there, array_not}
use Rattle.items.proofs.initialisers.rows.is_array.Goals as goal

pub returns-in-Array : goal.returns-in-Array
returns-in-Array c = λ n agrees. ap (λ (row : Option Row). is_array_row (option_map (row_at n) row)) c.in-Some.is
    ∙ array_there c.args.context.now c.in-Some.row.ctype c.in_ok-shape_of.field-0 c.in_ok-shape_of.ensures.below c.in_ok-shape_of.ensures.is n agrees c.in-Array.field-0 c.in-Array.field-1 c.in-Array.is

pub returns-in_default-2 : goal.returns-in_default-2
returns-in_default-2 c = λ n agrees. ap (λ (row : Option Row). is_array_row (option_map (row_at n) row)) c.in-Some.is
    ∙ array_not c.args.context.now c.in-Some.row.ctype c.in_ok-shape_of.field-0 c.in_ok-shape_of.ensures.below c.in_ok-shape_of.ensures.is n agrees c.in_default-2.not-Array
