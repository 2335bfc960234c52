use Rattle.std.proofs.Common.{◌∙◌, ap, map, ℕ, List}
use Rattle.typing.specs.environment.Names.{with_value}
use Rattle.typing.proofs.environment.Tables.{put-map, shown}
use Rattle.typing.proofs.environment.names.Names.put.Goals as goal

pub returns-clause-ok : goal.returns-clause-ok
returns-clause-ok g c =
    ap (map (shown (λ v. v.items))) c.in_ok-insert.ensures.entries
    ∙ (put-map (λ v. v.items) c.in_ok-copy.copy c.args.value c.self.inside.table.entries
    ∙ (ap (λ (n : List ℕ). with_value n c.args.value (map (shown (λ v. v.items)) c.self.inside.table.entries)) c.in_ok-copy.ensures.items
    ∙ ap (with_value c.args.name.now c.args.value) c.self.view_is))
