use Rattle.std.proofs.Common.{sym, ◌∙◌}
use Rattle.std.proofs.lemmas.List.Folds.{list_all-map}
use Rattle.flow.specs.Standing.{any, stands_as_asked}
use Rattle.flow.proofs.reading.all_stand.Goals as goal

pub returns : goal.returns
returns c = c.each_stands.ensures ∙ sym (list_all-map (stands_as_asked c.args.widths.now) any c.args.registers.now)
