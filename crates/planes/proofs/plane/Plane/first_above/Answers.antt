use Rattle.std.proofs.Common.{refl, ◌≡◌, ◌+◌, ◌∙◌, ap, drop, length, arith, length-drop}
use Rattle.std.specs.Prelude.{nat_le}
use Rattle.std.proofs.lemmas.List.Sums.{prefix_len-le-length}
use Rattle.planes.specs.Lanes.{low_front}
use Rattle.planes.proofs.Fronts.{first_above_is, some_above, none_above}
use Rattle.planes.proofs.Ranges.{rest_low}
use Rattle.planes.proofs.plane.Plane.first_above.Goals as goal

pub overflow_add-at : goal.overflow_add-at
overflow_add-at c =
    let same = c.deref.ensures.value ∙ c.self.view_is in
    let front : c.low_front.result ≡ low_front c.args.class (drop c.args.from c.args.self.now) = rest_low c.args.class c.args.from c.low_front.result c.deref.result.now c.args.self.now c.low_front.ensures same in
    omega (arith, prefix_len-le-length (λ other. nat_le other c.args.class) (drop c.args.from c.args.self.now), length-drop c.args.from c.args.self.now, c.self.invariant.most, ap length c.self.view_is)

pub returns-then-at-len-clause-none : goal.returns-then-at-len-clause-none
returns-then-at-len-clause-none c =
    let same = c.deref.ensures.value ∙ c.self.view_is in
    let front = rest_low c.args.class c.args.from c.low_front.result c.deref.result.now c.args.self.now c.low_front.ensures same in (
      λ none. absurd (cc),
      λ all. absurd (some_above c.args.self.now c.args.from c.args.class _ (ap (λ n. c.args.from + n) front) (omega (arith, ap length c.self.view_is)) all),
    )

pub returns-then-at-len-clause-found : goal.returns-then-at-len-clause-found
returns-then-at-len-clause-found c =
    let same = c.deref.ensures.value ∙ c.self.view_is in
    let front = rest_low c.args.class c.args.from c.low_front.result c.deref.result.now c.args.self.now c.low_front.ensures same in
    first_above_is c.args.self.now c.args.from c.args.class _ (ap (λ n. c.args.from + n) front) (omega (arith, ap length c.self.view_is))

pub returns-else-at-len-clause-none : goal.returns-else-at-len-clause-none
returns-else-at-len-clause-none c =
    let same = c.deref.ensures.value ∙ c.self.view_is in
    let front = rest_low c.args.class c.args.from c.low_front.result c.deref.result.now c.args.self.now c.low_front.ensures same in
    (λ none. none_above c.args.self.now c.args.from c.args.class _ (ap (λ n. c.args.from + n) front) (omega (arith, ap length c.self.view_is)) c.requires.from, λ all. refl)
