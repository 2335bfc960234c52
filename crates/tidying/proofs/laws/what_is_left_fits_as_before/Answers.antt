use Rattle.tidying.proofs.Fits.{tidied_fits}
use Rattle.tidying.proofs.laws.what_is_left_fits_as_before.Goals as goal

pub returns : goal.returns
returns c = λ parts graph. tidied_fits parts graph
