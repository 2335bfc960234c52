-- The object of a row is one of them, or not.
use Rattle.std.proofs.Common.{◌∷◌, map, reverse, sym, ap, ◌∙◌}
use Rattle.expressions.specs.declared.handed_row.HandedRow.{HandedRow}
use Rattle.expressions.specs.Numbers.{handed_at}
use Rattle.c_machine.specs.Program.{fixed_in}
use Rattle.c_text.specs.Fixed.{fixed_by}
use Rattle.c_text.specs.Objects.{object_by}
use Rattle.c_text.proofs.FixedInOrder.{put_here}
use Rattle.c_text.proofs.Following.{then_ok}
use Rattle.c_text.proofs.typed_text.TypedText.put_row.Goals as goal

pub returns-in-Object : goal.returns-in-Object
returns-in-Object c = then_ok _ _ c.put_object.result
    (λ made. λ n p rest stands is.
    made n p stands
    ∙ put_here p (object_by n (record { token = c.in-Object.token; ctype = c.in-Object.ctype; fixed = c.in-Object.fixed; zeroed = c.in-Object.zeroed }))
    (fixed_in p.handed c.args.outside rest) (reverse c.args.rows.now.items) _ is
    ∙ ap (λ (row : HandedRow). map (fixed_by p) (fixed_in p.handed c.args.outside (handed_at n row ∷ rest))) (sym c.in-Object.is))
    c.put_object.ensures
