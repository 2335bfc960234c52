use Rattle.std.proofs.Common.{◌∙◌}
use Rattle.cgrammar.proofs.NameTables.{value-map}
use Rattle.cgrammar.proofs.numbers.number_in.Goals as goal

pub returns : goal.returns
returns c = c.copied.ensures ∙ (c.get.ensures.value ∙ value-map (λ v. v.items) c.args.name.now c.args.table.now.entries)
