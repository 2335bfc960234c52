-- What is noted with one edge more.
use Rattle.std.proofs.Common.{◌≡◌, ◌<◌, ◌∙◌, length, get_or, Some, slice_get, refl, sym, rules}
use Rattle.std.proofs.lemmas.List.{length-set}
use Rattle.std.proofs.lemmas.Option.{slice_get_read, get_or_from_slice_get}
use Rattle.flow.specs.declared.outs.Out.TheVariants.{Nothing}
use Rattle.flow.proofs.MarkingLaws.{outs_more}
use Rattle.flow.proofs.outs.outs_of.Goals as goal

pub loop-at-preserved : goal.loop-at-preserved
loop-at-preserved c =
    let here : slice_get c.args.edges.now c.loop-at.at ≡ Some c.index-edges-at.result =
    slice_get_read c.args.edges.now _ c.loop-at.at c.index-edges-at.result refl c.loop-at-test.true c.index-edges-at.is in
    let below : c.index-edges-at.result.from < length c.loop-at.outs.items = search rules in
    let old : get_or c.loop-at.outs.items c.index-edges-at.result.from Nothing ≡ c.index.result.now =
    get_or_from_slice_get c.loop-at.outs.items c.index-edges-at.result.from c.index.result.now Nothing
    (slice_get_read c.loop-at.outs.items _ c.index-edges-at.result.from c.index.result.now refl below c.index.ensures) in (
      length-set c.loop-at.outs.items c.index-edges-at.result.from c.noted.result ∙ c.loop-at.invariant.0,
      rw (c.noted.ensures, sym old)
          (outs_more c.args.edges.now c.loop-at.at c.index-edges-at.result c.loop-at.outs.items here below c.loop-at.invariant.1),
    )
