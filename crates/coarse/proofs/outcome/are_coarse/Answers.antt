use Rattle.std.proofs.Common.{◌∙◌}
use Rattle.coarse.proofs.Told.{answer_told}
use Rattle.coarse.proofs.outcome.are_coarse.Goals as goal

pub returns-in-Ok : goal.returns-in-Ok
returns-in-Ok c =
    answer_told c.args.parts.now c.requires c.args.limit c.as_slice.result.now c.as_slice-in-Ok.result.now c.goes_any.result
    (c.as_slice.ensures.value ∙ c.in-Ok.ensures) c.as_slice-in-Ok.ensures c.goes_any.ensures
