-- What is broken at the head of a function, in the order in which it is asked.
use Rattle.std.proofs.Common.{◌≡◌, ◌∙◌, ap}
use Rattle.std.specs.Prelude.{◌||◌}
use Rattle.typing.specs.FileNames.{is_twice}
use Rattle.typing.specs.Heads.{definition_of_head}
use Rattle.expressions.specs.FileScope.{definition_at}
use Rattle.expressions.specs.Language.{definition_by_now}
use Rattle.items.proofs.heads.HeadFaults.{again_other, again_twice, head_judged}
use Rattle.items.proofs.heads.broken.head_fault.Goals as goal
use Rattle.items.proofs.heads.broken.head_fault.Goals.{then-other, else-other}

pub returns : goal.returns
returns c =
    let twice = is_twice (definition_at c.definition_by_now-before.result) (definition_of_head c.args.head.bodied) in
    let other = c.is_other_around-other.result in
    let again : c.if-other.again ≡ (other || twice) = elim c.if-other.branch [
      | then-other w ↦ again_other other c.if-other.again twice w.again-is w.if-other.true
      | else-other w ↦ again_twice other c.if-other.again twice
          (w.again-is ∙ (w.is_twice-again.ensures ∙ ap (λ d. is_twice (definition_at c.definition_by_now-before.result) d) w.definition_of_head.ensures)) w.if-other.false
    ] in
    head_judged c.args.context.now c.args.head c.args.name.now c.args.params.now c.args.types.now
    c.as_slice-text.result.now other c.if-other.again c.is_some-array.result c.has_struct-struct_there.result c.definition_by_now-before.result c.least-found.result c.found_of_parameters.result c.item.result
    c.function_fault-here.result c.first_of_parameters.result c.first_of.result c.body_fault-bodied.result c.main_fault-of_main.result c.first_of-2.result c.first_of-3.result
    c.as_slice-text.ensures c.is_other_around-other.ensures (c.definition_by_now-before.ensures ∙ ap definition_by_now c.linked.ensures.is) again
    c.least-found.ensures c.found_of_parameters.ensures c.is_some-array.ensures c.item.ensures.is
    c.function_fault-here.ensures c.first_of_parameters.ensures c.first_of.ensures c.has_struct-struct_there.ensures c.body_fault-bodied.ensures c.main_fault-of_main.ensures
    c.first_of-2.ensures c.first_of-3.ensures
