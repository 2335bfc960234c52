-- The functions, the static objects and their initialisers are those of the program.
use Rattle.std.proofs.Common.{sym, ap, map, ◌∙◌}
use Rattle.c_machine.specs.Program.{functions_in}
use Rattle.c_machine.specs.Trees.{nodes_in, object_of, static_rows}
use Rattle.lowering.proofs.Onward.{if_ok}
use Rattle.lower.proofs.FunctionsTold.{all_told}
use Rattle.lower.proofs.graph.graph_of.Goals as goal

pub returns : goal.returns
returns c = if_ok c.graph_over.result
    (λ flow is. λ n p stands are_items is_abi is_strict.
    is n p stands (c.in_ok-functions.ensures ∙ ap functions_in (sym are_items)) (c.in_ok-found.ensures.sets n p stands are_items) (c.in_ok-found.ensures.nodes ∙ ap nodes_in (sym are_items))
    (sym (all_told _ c.in_ok-static_objects.field-0 c.in-Some.objects (map (object_of p) (static_rows p)) c.as_slice.result.now c.in-Some.is (c.in_ok-static_objects.ensures n p stands)
    c.as_slice.ensures.value))
    is_abi is_strict)
    c.graph_over.ensures
