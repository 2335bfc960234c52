-- The row of a name says which object it declares.
use Rattle.std.proofs.Common.{None, Some, Option, option_map, sym, ap, ◌∙◌}
use Rattle.typing.specs.Outcomes.{ObjectRow}
use Rattle.c_machine.specs.Program.{automatic_row}
use Rattle.c_machine.specs.Trees.{object_of}
use Rattle.c_text.specs.Kept.{kept_object}
use Rattle.c_text.proofs.ObjectsFound.{object_is}
use Rattle.c_text.proofs.typed_text.TypedText.automatic.Goals as goal

pub returns-in-None : goal.returns-in-None
returns-in-None c = λ n p stands.
    ap (λ (found : Option ObjectRow). kept_object (option_map (object_of p) (automatic_row found)))
    (object_is n c.args.self.now p c.args.token None stands (sym c.object_row.ensures.is ∙ c.in-None.is))

pub returns-in-Some : goal.returns-in-Some
returns-in-Some c = λ n p stands.
    c.automatic_alone.ensures n p stands
    ∙ ap (λ (found : Option ObjectRow). kept_object (option_map (object_of p) (automatic_row found)))
    (object_is n c.args.self.now p c.args.token (Some c.in-Some.row) stands (sym c.object_row.ensures.is ∙ c.in-Some.is))
