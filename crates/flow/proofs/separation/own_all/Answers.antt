use Rattle.std.proofs.Common.{◌≡◌, ◌<◌, sym, true, arith, length}
use Rattle.std.specs.Prelude.{Contains}
use Rattle.std.proofs.lemmas.List.Elements.{All-contains}
use Rattle.flow.specs.declared.flow_graph.FlowEdge.{FlowEdge}
use Rattle.flow.specs.Owning.{is_open}
use Rattle.flow.proofs.OwningLaws.{two_owners, end_more}
use Rattle.flow.proofs.separation.own_all.Goals as goal

pub returns-then-owner_at-ne0-clause-two : goal.returns-then-owner_at-ne0-clause-two
returns-then-owner_at-ne0-clause-two c =
    let there : Contains c.args.flow.now.edges c.index-edges-at.result =
    (c.in-Some.at, rw c.as_slice-edges.ensures at c.in-Some.ensures.0, sym (rw c.as_slice-edges.ensures at c.index-edges-at.is)) in
    let leads_on : is_open c.loop-at.owners.items c.index-edges-at.result ≡ true =
    rw (c.as_slice.ensures.value, sym c.index-edges-at.is) at (c.in-Some.ensures.1 c.index-edges-at.result) in
    let noted = rw (c.owner_at.ensures, c.as_slice-in-Some.ensures.value) at c.if-owner_at-ne0.true in
    λ false. two_owners c.args.flow.now (length c.args.flow.now.functions) c.loop-at.owners.items c.index-edges-at.result c.loop-at.invariant there leads_on noted

pub loop-at-preserved : goal.loop-at-preserved
loop-at-preserved c =
    let there : Contains c.args.flow.now.edges c.index-edges-at.result =
    (c.in-Some.at, rw c.as_slice-edges.ensures at c.in-Some.ensures.0, sym (rw c.as_slice-edges.ensures at c.index-edges-at.is)) in
    let free = rw (c.owner_at.ensures, c.as_slice-in-Some.ensures.value) at c.if-owner_at-ne0.false in
    let ends = All-contains (λ (edge : FlowEdge). (edge.from < c.args.flow.now.points) × (edge.to < c.args.flow.now.points))
    c.args.flow.now.edges c.index-edges-at.result c.requires.range.edges there in
    let below : c.index-edges-at.result.to < length c.loop-at.owners.items = omega (arith, ends.1, c.loop-at.invariant.points) in
    rw c.own.ensures
    (end_more c.args.flow.now (length c.args.flow.now.functions) c.loop-at.owners.items c.index-edges-at.result c.loop-at.invariant there below free)
