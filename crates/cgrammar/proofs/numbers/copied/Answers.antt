use Rattle.cgrammar.proofs.NameTables.{copies_same}
use Rattle.cgrammar.proofs.numbers.copied.Goals as goal

pub returns : goal.returns
returns c = copies_same c.args.table.now.entries c.in_ok-clone.field-0.entries c.in_ok-clone.ensures.cases
