-- What is pushed was put in order.
use Rattle.std.proofs.Common.{List, map, Option, ap, ◌∙◌, subst}
use Rattle.c_machine.specs.declared.object.Object.{Object}
use Rattle.c_machine.specs.Program.{fixed_in}
use Rattle.c_text.specs.declared.fixed_object.FixedObject.{FixedObject}
use Rattle.c_text.specs.Kept.{IsPushed}
use Rattle.c_text.proofs.FixedInOrder.{sizes_are}
use Rattle.c_text.proofs.Following.{on_ok}
use Rattle.c_text.proofs.typed_text.TypedText.push_fixed.Goals as goal

pub returns : goal.returns
returns c = on_ok _ _ c.push_objects.result
    (λ whole pushed. λ n p stands.
    subst (λ (sizes : List (Option Object)). IsPushed c.args.objects.now.items sizes whole c.push_objects.new.objects.items)
    (ap (map (λ (row : FixedObject). row.object)) (c.in_ok-gather_fixed.ensures n p stands) ∙ sizes_are p (fixed_in p.handed c.args.outside p.handed))
    pushed)
    c.push_objects.ensures
