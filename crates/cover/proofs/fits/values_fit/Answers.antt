use Rattle.std.proofs.Common.{rules, sym, ◌∙◌}
use Rattle.graph.specs.Meaning.{maps_of}
use Rattle.cover.proofs.Settling.{fits-clash}
use Rattle.cover.proofs.fits.values_fit.Goals as goal

pub returns-then-not-fits : goal.returns-then-not-fits
returns-then-not-fits c = fits-clash (maps_of c.args.wide.now) (maps_of c.args.narrow.now) c.args.found.now c.requires.finished c.loop-at.at c.in-Some.content c.fits.result (sym c.content_with.ensures ∙ c.in-Some.is) c.fits.ensures (search rules)
