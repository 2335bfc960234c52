use Rattle.std.proofs.Common.{◌≡◌, true, List, sym, subst}
use Rattle.std.specs.List.{list_all}
use Rattle.graph.specs.declared.edges.HasValue.{HasValue}
use Rattle.graph.specs.WellFormed.{lies_in}
use Rattle.range_steps.proofs.Ranged.{range_edges}
use Rattle.range_steps.proofs.losses.cuts_none_of.Goals as goal

pub cuts_none-requires-clause-inside : goal.cuts_none-requires-clause-inside
cuts_none-requires-clause-inside c =
    subst (λ (edges : List HasValue). list_all (lies_in 65536) edges ≡ true) (sym c.as_slice.ensures) (range_edges c.args.object.now c.args.from c.args.count c.requires.range)
