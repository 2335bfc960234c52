use Rattle.std.proofs.Common.{◌≡◌, ℕ, subst, sym, ◌∙◌, true, arith}
use Rattle.std.specs.List.{list_all}
use Rattle.graph.specs.WellFormed.{lies_in}
use Rattle.heap_steps.proofs.Loose.{loose_left, loose_end}
use Rattle.heap_steps.proofs.anywhere.has_loose_byte.Goals as goal

pub take_out-requires : goal.take_out-requires
take_out-requires c = record { inside = subst (λ (n : ℕ). list_all (lies_in n) c.args.edges.now ≡ true) (sym c.loop-place.invariant.long) c.requires.inside }

pub loop-place-preserved : goal.loop-place-preserved
loop-place-preserved c = record {
  same = c.take_out.ensures.same ∙ c.loop-place.invariant.same;
  long = c.take_out.ensures.long ∙ c.loop-place.invariant.long;
}

pub returns : goal.returns
returns c =
    c.is_some.ensures ∙ loose_left c.loop-place.taken c.first_above.result c.first_above.ensures.none
    ∙ sym (loose_end c.args.edges.now c.loop-place.place c.loop-place.taken (omega arith)) ∙ c.loop-place.invariant.same
