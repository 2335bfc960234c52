-- The row of a name that has no linkage says it.
use Rattle.std.proofs.Common.{None, Some, Option, ◌||◌, false, sym, ap, ◌∙◌}
use Rattle.typing.specs.Outcomes.{ObjectRow}
use Rattle.c_machine.specs.Program.{is_linked_in, is_fixed_row}
use Rattle.c_text.proofs.ObjectsFound.{object_is, fixed_is_static}
use Rattle.c_text.proofs.typed_text.TypedText.is_static.Goals as goal

pub returns-in-None : goal.returns-in-None
returns-in-None c = λ n p stands.
    fixed_is_static (is_linked_in p.handed c.args.token) false (sym (c.is_linked.ensures n p stands) ∙ c.if-is_linked.false)
    ∙ ap (λ (found : Option ObjectRow). is_linked_in p.handed c.args.token || is_fixed_row found)
    (object_is n c.args.self.now p c.args.token None stands (sym c.object_row.ensures.is ∙ c.in-None.is))

pub returns-in-Some : goal.returns-in-Some
returns-in-Some c = λ n p stands.
    fixed_is_static (is_linked_in p.handed c.args.token) c.in-Some.row.fixed (sym (c.is_linked.ensures n p stands) ∙ c.if-is_linked.false)
    ∙ ap (λ (found : Option ObjectRow). is_linked_in p.handed c.args.token || is_fixed_row found)
    (object_is n c.args.self.now p c.args.token (Some c.in-Some.row) stands (sym c.object_row.ensures.is ∙ c.in-Some.is))
