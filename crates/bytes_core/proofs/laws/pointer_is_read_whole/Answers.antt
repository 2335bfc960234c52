use Rattle.bytes_core.proofs.Pointers.{pointer_read_whole}
use Rattle.bytes_core.proofs.laws.pointer_is_read_whole.Goals as goal

pub returns : goal.returns
returns c = pointer_read_whole
