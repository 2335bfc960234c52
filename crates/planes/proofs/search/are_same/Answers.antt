use Rattle.std.proofs.Common.{◌≡◌, ap, sym, ◌∙◌, length}
use lib.Lanes.{chunk}
use Rattle.std.proofs.lemmas.Simd.{length-chunk}
use Rattle.planes.specs.Lanes.{same_front}
use Rattle.planes.proofs.Lanes.{is_same}
use Rattle.planes.proofs.search.are_same.Goals as goal

pub returns : goal.returns
returns c =
    let long : length c.lanes.result ≡ 32 = ap length c.lanes.ensures ∙ length-chunk c.args.at 32 c.args.bytes.now c.requires in
    let same : same_front c.args.class c.lanes.result ≡ same_front c.args.class (chunk c.args.at 32 c.args.bytes.now) = ap (same_front c.args.class) c.lanes.ensures in
    let both = is_same c.args.class c.lanes.result long in
    (λ none. sym same ∙ both.0 none, λ all. both.1 (same ∙ all))
