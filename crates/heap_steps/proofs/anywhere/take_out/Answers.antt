use Rattle.std.proofs.Common.{refl}
use Rattle.heap_steps.proofs.Loose.{item_get, item_none, loose_at_place, loose_beyond}
use Rattle.heap_steps.proofs.anywhere.take_out.Goals as goal

pub returns-in-None : goal.returns-in-None
returns-in-None c = record {
  same = loose_beyond c.args.edges.now c.args.place c.args.taken.now (item_none c.args.edges.now c.args.place c.get.result c.get.ensures.lookup c.in-None.is);
  long = refl;
}

pub returns-in-Some-clause-same : goal.returns-in-Some-clause-same
returns-in-Some-clause-same c =
    loose_at_place c.args.edges.now c.args.place c.in-Some.edge.now c.args.taken.now c.fill.new.self
    (item_get c.args.edges.now c.args.place c.get.result c.in-Some.edge c.get.ensures.lookup c.in-Some.is) c.requires.inside c.fill.ensures
