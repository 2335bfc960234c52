-- What is told of its definition.
use Rattle.std.proofs.Common.{sym, ◌∙◌}
use Rattle.lowering.specs.Calls.{are_sized_as}
use Rattle.lowering.proofs.CalledParts.{defined_is}
use Rattle.lowering.proofs.called.defined_called.Goals as goal

pub returns-in-Some-2 : goal.returns-in-Some-2
returns-in-Some-2 c = defined_is _ c.text-text.result.now _ _ _ _ c.in-Some-2.objects.items _ _ c.text-text.ensures c.in_ok-params.ensures
    (λ n p stands. c.defined_parameters.ensures.types n p stands)
    (λ n p stands. rw c.in-Some-2.is at (c.in_ok-parameter_objects.ensures n p stands))
    (c.are_sized-sized.ensures ∙ (λ i. are_sized_as (c.as_slice.ensures i) (c.as_slice-in-Some-2.ensures.value i)))
    (λ n p stands. sym c.in-Some.is ∙ c.defined_result.ensures n p stands)
