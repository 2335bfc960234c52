-- A graph in which no object more may stand is large, unless dead objects stand in it that nothing addresses.
use Rattle.std.proofs.Common.{◌≡◌, ℕ, ◌+◌, ◌^◌, ◌<◌, ◌≤◌, Bool, true, false, not, ◌&&◌, ◌||◌, List, [], ◌∷◌, length, nat_le, nat_lt, ◌⊎◌, inl, inr, refl, sym, ◌∙◌, ap, le-leb, ltb-true, ltb-false, arith}
use Rattle.std.specs.Prelude.{sum_by, if◌then◌else◌}
use Rattle.std.specs.List.{list_all, filter}
use Rattle.std.proofs.lemmas.Bool.{false≢true, or_left, or_right}
use Rattle.std.proofs.lemmas.List.Sums.{sum_by-cons}
use Rattle.graph.specs.declared.object.Shape.{Shape}
use Rattle.graph.specs.declared.object.Shape.TheVariants.{Region, Segment}
use Rattle.graph.specs.declared.parts.KeyedObject.{KeyedObject}
use Rattle.graph.specs.declared.parts.Parts.{Parts}
use Rattle.graph.specs.Large.{live_nodes_of, live_nodes, is_addressed, addressed_dead, is_large}
use Rattle.graph.specs.Nodes.{is_region}
use Rattle.graph.specs.WellFormed.{says_nothing, nodes_of, nodes}
use Rattle.graph.specs.Whole.{IsGraph}
use Rattle.graph.proofs.Tests.{and_left, and_right}
use Rattle.block_steps.specs.Blocks.{has_room, dead_are_addressed}

-- each dead object counts for one node
dead_count : (addressed : ℕ → Bool) (objects : List KeyedObject) → list_all (λ (entry : KeyedObject). entry.object.live || addressed entry.key) objects ≡ true →
    list_all (λ (entry : KeyedObject). entry.object.live || (is_region entry.object.shape && says_nothing entry.object.edges entry.object.plane)) objects ≡ true →
    sum_by (λ (entry : KeyedObject). nodes_of entry.object.shape) objects ≤ sum_by (λ (entry : KeyedObject). live_nodes_of entry.object) objects + length (filter (λ (entry : KeyedObject). not entry.object.live && addressed entry.key) objects)
dead_count addressed [] all bare = omega arith
dead_count addressed (first ∷ rest) all bare =
    let later = dead_count addressed rest (and_right (first.object.live || addressed first.key) (list_all (λ (entry : KeyedObject). entry.object.live || addressed entry.key) rest) all)
    (and_right (first.object.live || (is_region first.object.shape && says_nothing first.object.edges first.object.plane)) (list_all (λ (entry : KeyedObject). entry.object.live || (is_region entry.object.shape && says_nothing entry.object.edges entry.object.plane)) rest) bare) in
    by_life first.object.live refl later
  where
    here : (first.object.live || addressed first.key) ≡ true
    here = and_left (first.object.live || addressed first.key) (list_all (λ (entry : KeyedObject). entry.object.live || addressed entry.key) rest) all

    region : (first.object.live || (is_region first.object.shape && says_nothing first.object.edges first.object.plane)) ≡ true
    region = and_left (first.object.live || (is_region first.object.shape && says_nothing first.object.edges first.object.plane)) (list_all (λ (entry : KeyedObject). entry.object.live || (is_region entry.object.shape && says_nothing entry.object.edges entry.object.plane)) rest) bare

    one_node : (shape : Shape) → is_region shape ≡ true → nodes_of shape ≡ 1
    one_node Region is = refl
    one_node (Segment twofold head next prev back least next_value prev_value node) is = absurd (false≢true is)

    sum : sum_by (λ (entry : KeyedObject). nodes_of entry.object.shape) (first ∷ rest) ≡ nodes_of first.object.shape + sum_by (λ (entry : KeyedObject). nodes_of entry.object.shape) rest
    sum = sum_by-cons (λ (entry : KeyedObject). nodes_of entry.object.shape) first rest

    live_sum : sum_by (λ (entry : KeyedObject). live_nodes_of entry.object) (first ∷ rest) ≡ live_nodes_of first.object + sum_by (λ (entry : KeyedObject). live_nodes_of entry.object) rest
    live_sum = sum_by-cons (λ (entry : KeyedObject). live_nodes_of entry.object) first rest

    by_life : (b : Bool) → first.object.live ≡ b →
        sum_by (λ (entry : KeyedObject). nodes_of entry.object.shape) rest ≤ sum_by (λ (entry : KeyedObject). live_nodes_of entry.object) rest + length (filter (λ (entry : KeyedObject). not entry.object.live && addressed entry.key) rest) →
        sum_by (λ (entry : KeyedObject). nodes_of entry.object.shape) (first ∷ rest)
        ≤ sum_by (λ (entry : KeyedObject). live_nodes_of entry.object) (first ∷ rest) + length (filter (λ (entry : KeyedObject). not entry.object.live && addressed entry.key) (first ∷ rest))
    by_life true live later =
        let counts : live_nodes_of first.object ≡ nodes_of first.object.shape = ap (λ (b : Bool). if b then nodes_of first.object.shape else 0) live in
        let same : length (filter (λ (entry : KeyedObject). not entry.object.live && addressed entry.key) (first ∷ rest)) ≡ length (filter (λ (entry : KeyedObject). not entry.object.live && addressed entry.key) rest) =
        ap (λ (b : Bool). length (if not b && addressed first.key then first ∷ filter (λ (entry : KeyedObject). not entry.object.live && addressed entry.key) rest else filter (λ (entry : KeyedObject). not entry.object.live && addressed entry.key) rest)) live in
        let a = sum in let b = live_sum in omega arith
    by_life false dead later =
        let is : addressed first.key ≡ true = ap (λ (b : Bool). b || addressed first.key) (sym dead) ∙ here in
        let one : nodes_of first.object.shape ≡ 1 = one_node first.object.shape (and_left (is_region first.object.shape) (says_nothing first.object.edges first.object.plane) (ap (λ (b : Bool). b || (is_region first.object.shape && says_nothing first.object.edges first.object.plane)) (sym dead) ∙ region)) in
        let more : length (filter (λ (entry : KeyedObject). not entry.object.live && addressed entry.key) (first ∷ rest)) ≡ 1 + length (filter (λ (entry : KeyedObject). not entry.object.live && addressed entry.key) rest) =
        ap (λ (b : Bool). length (if not b && addressed first.key then first ∷ filter (λ (entry : KeyedObject). not entry.object.live && addressed entry.key) rest else filter (λ (entry : KeyedObject). not entry.object.live && addressed entry.key) rest)) dead
        ∙ ap (λ (b : Bool). length (if b then first ∷ filter (λ (entry : KeyedObject). not entry.object.live && addressed entry.key) rest else filter (λ (entry : KeyedObject). not entry.object.live && addressed entry.key) rest)) is ∙ omega arith in
        let a = sum in let b = live_sum in omega arith

-- so there are many live nodes, or many dead objects that are addressed
pub large_or_many : (parts : Parts) (count : ℕ) → IsGraph parts → dead_are_addressed parts ≡ true → has_room parts count ≡ false → (is_large 134217728 parts ≡ true) ⊎ (33554432 ≤ count)
large_or_many parts count graph all full = by_live (nat_le 134217728 (live_nodes parts)) refl (nat_le 134217728 (addressed_dead parts)) refl
  where
    many : nodes parts ≤ live_nodes parts + addressed_dead parts
    many = dead_count (is_addressed parts) parts.objects all graph.well_formed.dead_objects_are_bare

    not_le : (one other : ℕ) → nat_le one other ≡ false → other < one
    not_le one other is = by_test (nat_lt other one) refl
      where
        by_test : (b : Bool) → nat_lt other one ≡ b → other < one
        by_test true less = ltb-true other one less
        by_test false more = let m = ltb-false other one more in absurd (false≢true (sym is ∙ le-leb one other m))

    by_live : (b : Bool) → nat_le 134217728 (live_nodes parts) ≡ b → (c : Bool) → nat_le 134217728 (addressed_dead parts) ≡ c → (is_large 134217728 parts ≡ true) ⊎ (33554432 ≤ count)
    by_live true live c dead = inl (or_left (nat_le 134217728 (live_nodes parts)) (nat_le 134217728 (addressed_dead parts) || nat_le 134217728 (length parts.unequal)) live)
    by_live false live true dead = inl (or_right (nat_le 134217728 (live_nodes parts)) (nat_le 134217728 (addressed_dead parts) || nat_le 134217728 (length parts.unequal)) (or_left (nat_le 134217728 (addressed_dead parts)) (nat_le 134217728 (length parts.unequal)) dead))
    by_live false live false dead =
        let few = not_le 134217728 (live_nodes parts) live in let few_dead = not_le 134217728 (addressed_dead parts) dead in
        let over = ltb-false (nodes parts + count) (2 ^ 30) full in let m = many in inr (omega arith)

pub large_one : (parts : Parts) → IsGraph parts → dead_are_addressed parts ≡ true → has_room parts 1 ≡ false → is_large 134217728 parts ≡ true
large_one parts graph all full = by_cases (large_or_many parts 1 graph all full)
  where
    by_cases : (is_large 134217728 parts ≡ true) ⊎ (33554432 ≤ 1) → is_large 134217728 parts ≡ true
    by_cases (inl is) = is
    by_cases (inr most) = absurd (omega arith)
