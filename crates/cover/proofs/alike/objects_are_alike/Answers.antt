use Rattle.std.proofs.Common.{rules, sym, ◌∙◌}
use Rattle.graph.specs.Meaning.{maps_of}
use Rattle.cover.proofs.Settling.{alike-clash}
use Rattle.cover.proofs.alike.objects_are_alike.Goals as goal

pub returns-then-not-look_alike_at : goal.returns-then-not-look_alike_at
returns-then-not-look_alike_at c = alike-clash (maps_of c.args.wide.now) (maps_of c.args.narrow.now) c.args.found.now c.requires.finished c.loop-at.at c.in-Some.with c.look_alike_at.result (sym c.partner.ensures ∙ c.in-Some.is) c.look_alike_at.ensures (search rules)
