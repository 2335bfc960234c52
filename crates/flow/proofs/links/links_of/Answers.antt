-- The links of the edges so far, and of one more.
use Rattle.std.proofs.Common.{◌≡◌, ◌<◌, Some, slice_get, refl, rules}
use Rattle.std.proofs.lemmas.Option.{slice_get_read}
use Rattle.flow.proofs.LinkLaws.{links_more}
use Rattle.flow.proofs.links.links_of.Goals as goal

pub loop-at-preserved : goal.loop-at-preserved
loop-at-preserved c =
    let here : slice_get c.args.edges.now c.loop-at.at ≡ Some c.index-edges-at.result =
    slice_get_read c.args.edges.now _ c.loop-at.at c.index-edges-at.result refl c.loop-at-test.true c.index-edges-at.is in
    let below : c.index-edges-at.result.from < c.args.points = search (rules, c.requires c.loop-at.at c.index-edges-at.result c.loop-at-test.true) in
    rw (c.in_ok-link.ensures.next, c.in_ok-link.ensures.first)
    (links_more c.args.edges.now c.args.points c.loop-at.at c.index-edges-at.result c.loop-at.first.items c.loop-at.next.items here below c.loop-at.invariant)
