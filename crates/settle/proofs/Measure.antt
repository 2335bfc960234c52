-- The loop ends: a graph that is split gives two graphs at most, with fewer splits left.
use Rattle.std.proofs.Common.{◌≡◌, ℕ, zero, suc, ◌+◌, ◌<◌, ◌≤◌, Bool, true, false, not, List, [], ◌∷◌, ◌++◌, map, reverse, length, nat_eq, Option, None, Some, refl, ◌∙◌, ap, subst, arith}
use Rattle.std.specs.Prelude.{sum_by, if◌then◌else◌}
use Rattle.std.specs.Option.{option_map_or}
use Rattle.std.proofs.lemmas.List.{reverse-append}
use Rattle.std.proofs.lemmas.List.Sums.{sum_by-cons, sum_by-append, sum_by_push}
use Rattle.std.proofs.lemmas.Option.{same_Some, none-some}
use Rattle.graph.specs.declared.object.Links.{Links}
use Rattle.graph.specs.declared.value.Target.TheVariants.{Region, First, Last, Each}
use Rattle.graph.specs.declared.value.Value.{Value}
use Rattle.graph.specs.declared.value.Value.TheVariants.{Const, Number, Any, Address}
use Rattle.graph.specs.declared.parts.Parts.{Parts}
use Rattle.graph.specs.Renaming.{numbered}
use Rattle.graph.specs.WellFormed.{is_within_limits}
use Rattle.graph.specs.Whole.{IsGraph}
use Rattle.materialise.specs.Dropped.{links_at, dropped}
use Rattle.materialise.specs.SplitFirst.{split_first}
use Rattle.materialise.specs.SplitLast.{split_last}
use Rattle.settle.specs.Parted.{is_beyond}
use Rattle.settle.specs.Settled.{cases_of, first_cases, splits_left}
use Rattle.settle.proofs.Case.{EachOf}
use Rattle.settle.proofs.Fuel.{IsLess, each_less, each_map, each_both, none_any, first_naming}
use Rattle.settle.proofs.Turns.{within_not}

-- three to a power
abbrev pub power : ℕ → ℕ
power zero = 1
power (suc count) = power count + power count + power count

power_positive : (count : ℕ) → 0 < power count
power_positive zero = omega arith
power_positive (suc count) = let less = power_positive count in omega arith

power_grows : (one other : ℕ) → one ≤ other → power one ≤ power other
power_grows zero other below = power_positive other
power_grows (suc one) zero below = absurd (omega arith)
power_grows (suc one) (suc other) below = let less = power_grows one other (omega arith) in omega arith

-- two of a lower power are less
power_twice : (one other : ℕ) → one < other → power one + power one < power other
power_twice one zero below = absurd (omega arith)
power_twice one (suc other) below =
    let grows = power_grows one other (omega arith) in
    let positive = power_positive other in
    omega arith

abbrev pub weight : List ℕ → Parts → ℕ
weight registers parts = power (splits_left registers parts)

-- what falls with each turn
abbrev pub turns : List ℕ → List Parts → ℕ
turns registers left = sum_by (weight registers) left

pub done_falls : (registers : List ℕ) (rest : List Parts) (graph : Parts) → turns registers rest < turns registers (rest ++ graph ∷ [])
done_falls registers rest graph =
    let more = sum_by_push (weight registers) rest graph in
    let positive = power_positive (splits_left registers graph) in
    omega arith

-- a segment has two cases at most
by_links : (gone split : Parts) (found : Option Links) → length (option_map_or (λ (links : Links). if nat_eq links.least 0 then gone ∷ split ∷ [] else split ∷ []) found []) ≤ 2
by_links gone split None = omega arith
by_links gone split (Some links) = by_least (nat_eq links.least 0)
  where
    by_least : (b : Bool) → length (if b then gone ∷ split ∷ [] else split ∷ []) ≤ 2
    by_least true = omega arith
    by_least false = omega arith

pub two_cases : (parts : Parts) (value : Value) (cases : List Parts) → cases_of parts value ≡ Some cases → length cases ≤ 2
two_cases parts (Const number size) cases is = absurd (none-some cases is)
two_cases parts (Number size) cases is = absurd (none-some cases is)
two_cases parts Any cases is = absurd (none-some cases is)
two_cases parts (Address key offset Region) cases is = absurd (none-some cases is)
two_cases parts (Address key offset First) cases is = subst (λ (xs : List Parts). length xs ≤ 2) (same_Some _ _ is) (by_links (dropped key parts) (split_first key parts) (links_at parts key))
two_cases parts (Address key offset Last) cases is = subst (λ (xs : List Parts). length xs ≤ 2) (same_Some _ _ is) (by_links (dropped key parts) (split_last key parts) (links_at parts key))
two_cases parts (Address key offset Each) cases is = absurd (none-some cases is)

sum_reverse : (f : Parts → ℕ) (xs : List Parts) → sum_by f (reverse xs) ≡ sum_by f xs
sum_reverse f [] = refl
sum_reverse f (x ∷ xs) =
    let later = sum_reverse f xs in
    let more = sum_by-cons f x xs in
    let last = sum_by_push f (reverse xs) x in
    ap (sum_by f) (reverse-append (x ∷ []) xs) ∙ omega arith

-- two graphs at most with fewer splits left weigh less
two_less : (registers : List ℕ) (bound : ℕ) (cases : List Parts) → length cases ≤ 2 → EachOf (λ case. splits_left registers (numbered case) < bound) cases → sum_by (weight registers) (map numbered cases) < power bound
two_less registers bound [] few each = power_positive bound
two_less registers bound (one ∷ []) few each =
    let less = power_twice (splits_left registers (numbered one)) bound each.0 in
    omega arith
two_less registers bound (one ∷ (other ∷ [])) few each = by_most (weight registers (numbered one)) (weight registers (numbered other)) (power bound) (power_twice (splits_left registers (numbered one)) bound each.0) (power_twice (splits_left registers (numbered other)) bound each.1.0)
  where
    by_most : (first second whole : ℕ) → first + first < whole → second + second < whole → 0 + first + second < whole
    by_most first second whole low high = omega arith
two_less registers bound (one ∷ (other ∷ (more ∷ rest))) few each = absurd (omega arith)

pub split_falls : (registers : List ℕ) (rest : List Parts) (graph : Parts) (cases found : List Parts) → IsGraph graph → first_cases graph registers ≡ Some cases → found ≡ map numbered cases → is_beyond (Some cases) ≡ false →
    turns registers (rest ++ reverse found) < turns registers (rest ++ graph ∷ [])
split_falls registers rest graph cases found whole is are within =
    let naming = first_naming graph registers cases is in
    let less = two_less registers (splits_left registers graph) cases (two_cases graph naming.value cases naming.has)
    (each_map (λ case. IsLess registers graph case × (not (is_within_limits case) ≡ false)) (λ (case : Parts). splits_left registers (numbered case) < splits_left registers graph)
    (λ case both. (both.0 (within_not case both.1)).1) cases
    (each_both (IsLess registers graph) (λ (case : Parts). not (is_within_limits case) ≡ false) cases (each_less graph registers cases whole is) (none_any (λ case. not (is_within_limits case)) cases within))) in
    let more = sum_by_push (weight registers) rest graph in
    let cut = sum_by-append (weight registers) rest (reverse found) in
    let back = sum_reverse (weight registers) found in
    let same : sum_by (weight registers) found ≡ sum_by (weight registers) (map numbered cases) = ap (sum_by (weight registers)) are in
    omega arith
