use Rattle.std.proofs.Common.{ap, ◌∙◌}
use Rattle.std.specs.Prelude.{Option, option_map}
use Rattle.typing.specs.Initialisers.{is_pointer_row}
use Rattle.items.specs.declared.initialisers.rows.Row.{Row}
use Rattle.items.specs.initialisers.Constants.{row_at}
use Rattle.items.proofs.initialisers.Constants.{pointer_there, pointer_not}
use Rattle.items.proofs.initialisers.rows.is_pointer.Goals as goal

pub returns-in-Pointer : goal.returns-in-Pointer
returns-in-Pointer c = λ n agrees. ap (λ (row : Option Row). is_pointer_row (option_map (row_at n) row)) c.in-Some.is
    ∙ pointer_there c.args.context.now c.in-Some.row.ctype c.in_ok-shape_of.field-0 c.in_ok-shape_of.ensures.below c.in_ok-shape_of.ensures.is n agrees c.in-Pointer.field-0 c.in-Pointer.is

pub returns-in_default-2 : goal.returns-in_default-2
returns-in_default-2 c = λ n agrees. ap (λ (row : Option Row). is_pointer_row (option_map (row_at n) row)) c.in-Some.is
    ∙ pointer_not c.args.context.now c.in-Some.row.ctype c.in_ok-shape_of.field-0 c.in_ok-shape_of.ensures.below c.in_ok-shape_of.ensures.is n agrees c.in_default-2.not-Pointer
