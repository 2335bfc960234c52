use Rattle.std.proofs.Common.{◌≡◌, ltb, eqb, ap, ◌∙◌, sym, length}
use lib.Lanes.{chunk}
use Rattle.std.proofs.lemmas.Simd.{length-chunk}
use Rattle.planes.specs.Lanes.{are_at_most}
use Rattle.planes.proofs.Lanes.{compared, is_below}
use Rattle.planes.proofs.search.are_below.Goals as goal

pub returns : goal.returns
returns c =
    let left = c.lanes.result in
    let right = c.lanes-2.result in
    let left_long : length left ≡ 32 = ap length c.lanes.ensures ∙ length-chunk c.args.at 32 c.args.left.now c.requires.left in
    let right_long : length right ≡ 32 = ap length c.lanes-2.ensures ∙ length-chunk c.args.at 32 c.args.right.now c.requires.right in
    ap (λ m. eqb m 0) (compared ltb right left left_long right_long)
    ∙ is_below left right (left_long ∙ sym right_long)
    ∙ ap (λ xs. are_at_most xs right) c.lanes.ensures
    ∙ ap (λ ys. are_at_most (chunk c.args.at 32 c.args.left.now) ys) c.lanes-2.ensures
