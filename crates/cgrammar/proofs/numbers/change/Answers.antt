use Rattle.std.proofs.Common.{◌∙◌, sym}
use Rattle.cgrammar.proofs.Bounded.{change-map, change_none}
use Rattle.cgrammar.proofs.NameTables.{value-map}
use Rattle.cgrammar.proofs.numbers.change.Goals as goal

pub returns-in-Some : goal.returns-in-Some
returns-in-Some c =
    rw (c.get_mut.follows.holds c.args.number).0 (change-map (λ v. v.items) c.args.name.now c.args.number c.args.table.now.entries)

pub returns-in_default : goal.returns-in_default
returns-in_default c =
    rw c.get_mut.follows.holds-at-none (change_none c.args.name.now c.args.number _
    (sym (c.in_default.ensures.value ∙ value-map (λ v. v.items) c.args.name.now c.args.table.now.entries)))
