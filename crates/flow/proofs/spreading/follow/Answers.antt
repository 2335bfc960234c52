use Rattle.std.proofs.Common.{◌<◌, sym, arith, length}
use Rattle.std.specs.Prelude.{Contains}
use Rattle.std.proofs.lemmas.List.Elements.{All-contains}
use Rattle.flow.specs.declared.flow_graph.FlowEdge.{FlowEdge}
use Rattle.flow.proofs.OwningLaws.{end_more}
use Rattle.flow.proofs.spreading.follow.Goals as goal

pub returns : goal.returns
returns c =
    let there : Contains c.args.flow.now.edges c.index-edges-at.result =
    (c.args.at, rw c.as_slice-edges.ensures at c.if-at-edges.false, sym (rw c.as_slice-edges.ensures at c.index-edges-at.is)) in
    let free = rw (c.owner_at.ensures, c.as_slice-else-not-is_open.ensures.value) at c.if-owner_at-ne0.false in
    let ends = All-contains (λ (edge : FlowEdge). (edge.from < c.args.flow.now.points) × (edge.to < c.args.flow.now.points))
    c.args.flow.now.edges c.index-edges-at.result c.requires.range.edges there in
    let below : c.index-edges-at.result.to < length c.args.owners.now.items = omega (arith, ends.1, c.requires.owned.points) in
    rw c.own.ensures
    (end_more c.args.flow.now (length c.args.flow.now.functions) c.args.owners.now.items c.index-edges-at.result c.requires.owned there below free)
