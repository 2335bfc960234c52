use Rattle.cconstructs.proofs.LayoutExact.{layout_exact, none_exact}
use Rattle.cconstructs.proofs.layout.first_layout.Goals as goal

pub returns-clause-first : goal.returns-clause-first
returns-clause-first c = layout_exact c.args.t.now c.args.from c.args.to c.layout_found.result c.layout_found.ensures

pub returns-clause-none : goal.returns-clause-none
returns-clause-none c = none_exact c.args.t.now c.args.from c.args.to c.layout_found.result c.layout_found.ensures
