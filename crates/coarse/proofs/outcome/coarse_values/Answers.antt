use Rattle.std.proofs.Common.{◌∙◌}
use Rattle.coarse.proofs.Told.{values_done}
use Rattle.coarse.proofs.outcome.coarse_values.Goals as goal

pub returns : goal.returns
returns c =
    values_done c.args.parts.now c.requires.graph c.args.limit c.as_slice.result.now c.as_slice-2.result.now c.args.values.now c.coarsen_values.new.done
    (c.as_slice.ensures.value ∙ c.in_ok-marks.ensures) c.as_slice-2.ensures c.requires.empty c.in_ok-coarsen_values.ensures
