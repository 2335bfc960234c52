-- The objects are those that are declared.
use Rattle.std.proofs.Common.{false, List, ◌++◌, length, ap, ◌∙◌}
use Rattle.c_machine.specs.declared.object.Object.{Object}
use Rattle.c_machine.specs.Trees.{text_of}
use Rattle.lower.specs.Built.{made_of}
use Rattle.lowering.specs.Placing.{named_from, objects_of, with_objects}
use Rattle.lowering.proofs.Onward.{if_ok}
use Rattle.lower.proofs.placing.objects.named_of.Goals as goal

pub returns : goal.returns
returns c = if_ok c.named.result
    (λ names is. λ p reads.
    let same = c.as_slice.ensures ∙ c.in_ok-push_objects_of.ensures p reads ∙ ap (λ (empty : List Object). empty ++ objects_of (text_of p) c.args.stmt.now) c.new-objects.ensures in (
      is.0 ∙ ap (λ (objects : List Object). named_from (length c.args.builder.now.variables) objects) same,
      is.1 ∙ ap (λ (objects : List Object). with_objects false objects (made_of c.args.builder.now)) same,
    ))
    c.named.ensures
