use Rattle.c_machine.proofs.TreesRead.{trees_are_read}
use Rattle.c_machine.proofs.laws.trees_are_read_form_by_form.Goals as goal

pub returns : goal.returns
returns c = trees_are_read
