use Rattle.std.proofs.Common.{◌∙◌, ap, sym}
use Rattle.typing.specs.environment.Names.{changed}
use Rattle.typing.proofs.environment.Tables.{change-map, change_none, value-map}
use Rattle.typing.proofs.environment.names.Names.change.Goals as goal
use Rattle.typing.proofs.environment.names.Names.change.Goals.{in-Some, in_default}

pub returns : goal.returns
returns g c = elim c.match-get_mut.branch [
  | in-Some w ↦ rw (w.self-inside-is, (c.get_mut.follows.holds c.args.value).0) (change-map (λ v. v.items) c.args.name.now c.args.value c.self.inside.table.entries ∙ ap (changed c.args.name.now c.args.value) c.self.view_is)
  | in_default w ↦ rw (w.self-inside-is, c.get_mut.follows.holds-at-none) (change_none c.args.name.now c.args.value _
      (sym (w.in_default.ensures.value ∙ value-map (λ v. v.items) c.args.name.now c.self.inside.table.entries)) ∙ ap (changed c.args.name.now c.args.value) c.self.view_is)
]
