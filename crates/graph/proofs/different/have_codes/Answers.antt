use Rattle.std.proofs.Common.{List, IsPermutation, ap, sym, ◌∙◌, subst, nat_lt}
use Rattle.graph.specs.declared.parts.Pair.{Pair}
use Rattle.graph.specs.PairCodes.{pair_code}
use Rattle.graph.specs.Points.{neighbours}
use Rattle.graph.proofs.InOrder.{different_sorted}
use Rattle.graph.proofs.different.have_codes.Goals as goal

pub returns-in-Ok : goal.returns-in-Ok
returns-in-Ok c = λ pass.
    different_sorted c.args.pairs.now c.sort_unstable_by_key.new.self.items
    (subst (λ (pairs : List Pair). IsPermutation pairs c.sort_unstable_by_key.new.self.items) c.in-Ok.ensures.items c.sort_unstable_by_key.ensures.permutation)
    (ap (λ (pairs : List Pair). neighbours (λ one other. nat_lt (pair_code one) (pair_code other)) pairs) (sym c.as_slice.ensures.value) ∙ sym c.codes_ascend.ensures.codes ∙ pass)
