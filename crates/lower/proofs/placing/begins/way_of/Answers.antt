-- A statement goes the way of its clause.
use Rattle.std.proofs.Common.{sym, ap, ◌∙◌}
use Rattle.c_machine.specs.Trees.{text_of}
use Rattle.lower.specs.Around.{around_of}
use Rattle.lowering.specs.Placing.{way_by, way_of}
use Rattle.lower.proofs.placing.begins.way_of.Goals as goal

pub returns-in-Does : goal.returns-in-Does
returns-in-Does c = λ p reads.
    c.way_by.ensures p reads
    ∙ ap (way_by (text_of p) (around_of c.args.around.now) c.args.standing.now) (c.read_clause.ensures p ∙ ap (text_of p).clause c.get.ensures)
    ∙ ap (way_of (text_of p) (around_of c.args.around.now) c.args.standing.now) (sym c.in-Does.is)
