-- The source is that of the program.
use Rattle.std.proofs.Common.{refl, sym, subst}
use Rattle.lowering.specs.Source.{Source, IsSource}
use Rattle.lowering.proofs.Onward.{if_ok}
use Rattle.lower.proofs.SourceRead.{levels_are}
use Rattle.lower.proofs.graph.graph_over.Goals as goal

pub returns : goal.returns
returns c = if_ok c.graph_from.result
    (λ flow is. λ n p stands are_functions are_sets are_nodes are_objects is_abi is_strict.
    is p
    (subst (λ (source : Source). IsSource source p) (sym c.of-source.ensures)
    (record {
      reads = (n, stands);
      functions = are_functions;
      levels = levels_are p c.args.objects.now c.in_ok-levels.levels _ _ are_objects are_nodes refl c.in_ok-levels.ensures;
    }))
    are_objects (sym are_sets) is_abi is_strict)
    c.graph_from.ensures
