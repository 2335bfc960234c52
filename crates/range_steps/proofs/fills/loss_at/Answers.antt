use Rattle.std.proofs.Common.{◌≡◌, true, List, sym, subst}
use Rattle.std.specs.List.{list_all}
use Rattle.graph.specs.declared.edges.HasValue.{HasValue}
use Rattle.graph.specs.WellFormed.{lies_in}
use Rattle.changes.proofs.Entries.{room_small}
use Rattle.changes.proofs.Led.{edges_small}
use Rattle.range_steps.proofs.fills.loss_at.Goals as goal

pub cuts_none-requires-clause-range : goal.cuts_none-requires-clause-range
cuts_none-requires-clause-range c = room_small c.args.graph.now c.args.key c.args.from c.args.length c.requires.graph c.requires.room

pub cuts_none-requires-clause-inside : goal.cuts_none-requires-clause-inside
cuts_none-requires-clause-inside c =
    subst (λ (edges : List HasValue). list_all (lies_in 65536) edges ≡ true) (sym c.as_slice.ensures)
    (edges_small c.args.graph.now c.args.key c.args.from c.args.length c.in-Some.object.now c.requires.graph c.requires.room (sym c.in-Some.ensures))
