use Rattle.coarse.proofs.Fits.{fits_left}
use Rattle.coarse.proofs.laws.what_is_left_fits_as_before.Goals as goal

pub returns : goal.returns
returns c = λ limit parts. fits_left limit parts
