-- The block of the `for` stands around its body.
use Rattle.std.proofs.Common.{◌≡◌, ℕ, ◌+◌, length, add-one, ap, ◌∙◌, arith}
use Rattle.lower.specs.Around.{around_of}
use Rattle.lowering.specs.Placing.{within}
use Rattle.lower.proofs.placing.loops.turning_for.Goals as goal

pub returns-in-Some : goal.returns-in-Some
returns-in-Some c = λ names.
    let one_more : c.in-Some.inner ≡ c.len-outer.result + 1 = omega (arith, c.in-Some.ensures) in
    c.loop_around.ensures (around_of c.args.around.now) (within names (around_of c.args.around.now)) c.len-outer.ensures
    (one_more ∙ ap (λ (count : ℕ). count + 1) c.len-outer.ensures ∙ add-one (length c.args.around.now.scopes))
