-- How many nodes a graph has in which the last node of a segment is a region.
use Rattle.std.proofs.Common.{◌≡◌, ℕ, ◌+◌, ◌^◌, Bool, true, false, ◌&&◌, map, length, nat_lt, Option, Some, refl, sym, ◌∙◌, ap, arith}
use Rattle.std.specs.Prelude.{if◌then◌else◌}
use Rattle.std.specs.Option.{option_map_or}
use Rattle.std.proofs.lemmas.List.Sums.{sum_by_push}
use Rattle.graph.specs.declared.object.Links.{Links}
use Rattle.graph.specs.declared.object.Shape.{Shape}
use Rattle.graph.specs.declared.object.Shape.TheVariants.{Region as RegionShape, Segment}
use Rattle.graph.specs.declared.parts.Parts.{Parts}
use Rattle.graph.specs.Nodes.{links_in}
use Rattle.graph.specs.WellFormed.{nodes_of, nodes, is_within_limits}
use Rattle.graph.specs.Whole.{IsGraph}
use Rattle.graph.proofs.Tests.{and_right}
use Rattle.changes.specs.Parts.{replaced}
use Rattle.materialise.specs.Dropped.{links_at}
use Rattle.materialise.specs.SplitFirst.{rest_behind}
use Rattle.materialise.specs.SplitLast.{rest_before, split_last}
use Rattle.materialise.specs.WithOne.{is_twofold}
use Rattle.materialise.proofs.FinalThere.{region, owned, rest, new_region, later, split_is}
use Rattle.materialise.proofs.LastSplit.{twofold_segment}
use Rattle.materialise.proofs.SplitCounts.{nodes_in, nodes_replaced, nodes_rest}
use Rattle.materialise.proofs.SplitThere.{IsSegmentAt, links_are, segment_at}

-- the rest has as many nodes, whichever end it was left at
rest_counts : (behind before : ℕ) (shape : Shape) (links : Links) → links_in shape ≡ Some links → nodes_of (rest_before behind shape) + 1 ≡ nodes_of shape + (if nat_lt links.least 2 then 1 else 0)
rest_counts behind before shape links linked = ap (λ (n : ℕ). n + 1) (same shape) ∙ nodes_rest before shape links linked
  where
    same : (shape : Shape) → nodes_of (rest_before behind shape) ≡ nodes_of (rest_behind before shape)
    same RegionShape = refl
    same (Segment twofold head next prev back least next_value prev_value node) = refl

module _ (parts : Parts) (graph : IsGraph parts) (key : ℕ) (at : IsSegmentAt parts key) where
  pub nodes_now : nodes (later parts graph key at) ≡ nodes parts + (if nat_lt at.links.least 2 then 1 else 0)
  nodes_now =
      let more = sum_by_push nodes_in (map (replaced key (rest parts graph key at)) parts.objects) (record { key = region parts graph key at; object = new_region parts graph key at }) in
      let left = nodes_replaced parts graph key at.object (rest parts graph key at) at.stands in
      let one = rest_counts (owned parts graph key at + 1) (owned parts graph key at + 1) at.object.shape at.links at.linked in
      omega (arith, more, left, one)

  pub split_nodes : nodes (split_last key parts) ≡ nodes parts + (if nat_lt (option_map_or (λ (links : Links). links.least) (links_at parts key) 0) 2 then 1 else 0)
  split_nodes =
      ap nodes (split_is parts graph key at) ∙ nodes_now
      ∙ ap (λ (o : Option Links). nodes parts + (if nat_lt (option_map_or (λ (links : Links). links.least) o 0) 2 then 1 else 0)) (sym (links_are parts key at))

  pub limits_now : is_within_limits (split_last key parts) ≡ nat_lt (nodes parts + (if nat_lt at.links.least 2 then 1 else 0)) (2 ^ 30)
  limits_now =
      ap is_within_limits (split_is parts graph key at)
      ∙ ap (λ (n : ℕ). nat_lt n (2 ^ 30) && nat_lt (length parts.unequal) (2 ^ 30)) nodes_now
      ∙ ap (λ (b : Bool). nat_lt (nodes parts + (if nat_lt at.links.least 2 then 1 else 0)) (2 ^ 30) && b) (and_right (nat_lt (nodes parts) (2 ^ 30)) (nat_lt (length parts.unequal) (2 ^ 30)) graph.within_limits)
      ∙ with_true (nat_lt (nodes parts + (if nat_lt at.links.least 2 then 1 else 0)) (2 ^ 30))
    where
      with_true : (b : Bool) → (b && true) ≡ b
      with_true true = refl
      with_true false = refl

pub split_limits : (parts : Parts) (key : ℕ) → IsGraph parts → is_twofold parts key ≡ true →
    nat_lt (nodes parts + (if nat_lt (option_map_or (λ (links : Links). links.least) (links_at parts key) 0) 2 then 1 else 0)) 1073741824 ≡ is_within_limits (split_last key parts)
split_limits parts key graph is =
    let at = segment_at parts key (twofold_segment parts key is) in
    ap (λ (o : Option Links). nat_lt (nodes parts + (if nat_lt (option_map_or (λ (links : Links). links.least) o 0) 2 then 1 else 0)) 1073741824) (links_are parts key at) ∙ sym (limits_now parts graph key at)
