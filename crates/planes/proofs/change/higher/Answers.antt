use Rattle.std.proofs.Common.{ltb, ap, ◌∙◌, sym, w8}
use lib.Lanes.{sel_l, chunk}
use Rattle.std.proofs.lemmas.Simd.{tops_compared, length-chunk}
use Rattle.planes.proofs.Lanes.{is_higher}
use Rattle.planes.proofs.change.higher.Goals as goal

pub returns : goal.returns
returns c =
    let left = chunk c.args.at 32 c.args.bytes.now in
    let right = chunk c.args.at 32 c.args.others.now in
    ap (λ ms. sel_l ms right left) (tops_compared w8 ltb left right)
    ∙ is_higher left right (length-chunk c.args.at 32 c.args.bytes.now c.requires.bytes ∙ sym (length-chunk c.args.at 32 c.args.others.now c.requires.others))
