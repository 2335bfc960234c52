use Rattle.typing.proofs.environment.Visible.{visible_found}
use Rattle.typing.proofs.environment.laws.found_is_what_is_visible.Goals as goal

pub returns : goal.returns
returns g c = visible_found _
