-- All parts make the graph.
use Rattle.std.proofs.Common.{sym, ap, ◌∙◌}
use Rattle.lower.specs.Built.{made_of}
use Rattle.lowering.proofs.Onward.{if_ok}
use Rattle.lower.proofs.GraphMade.{graph_is}
use Rattle.lower.proofs.graph.graph_from.Goals as goal

pub returns : goal.returns
returns c = if_ok c.graph_where.result
    (λ flow is. λ p reads are_objects are_sets is_abi is_strict.
    graph_is p flow c.args.abi c.args.objects.now c.as_slice.result.now _ (made_of c.new-builder.result) (made_of c.objects.new.self)
    (record { made = made_of c.place_all.new.builder; functions = c.place_all.new.placed }) c.push_initials.new.initials _ c.in_ok-whole.whole c.in_ok-main.main are_objects
    (are_sets ∙ sym c.as_slice.ensures) is_abi c.in_ok-statics.ensures c.new-builder.ensures c.in_ok-objects.ensures (c.in_ok-main.ensures p reads is_strict).0
    (c.in_ok-main.ensures p reads is_strict).1 c.new-initials.ensures (c.in_ok-whole.ensures p reads are_objects) (is p is_strict))
    c.graph_where.ensures
