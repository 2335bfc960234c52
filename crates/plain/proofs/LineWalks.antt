-- The walks along a line of points, where the edge of each number leads from the point of that number to the next one, and no other edge leaves one.
use Rattle.std.proofs.Common.{◌≡◌, ℕ, zero, suc, ◌+◌, ◌<◌, ◌≤◌, List, [], ◌∷◌, map, length, refl, sym, ap, subst, arith}
use Rattle.std.specs.Prelude.{Contains}
use Rattle.flow.specs.declared.flow_graph.FlowEdge.{FlowEdge}
use Rattle.flow.specs.Walks.{IsStep, IsWalk, AreDistinct, IsNumberOfWalks}

-- The walks from a point, of at most so many steps.

abbrev walks_of : ℕ → ℕ → List (List ℕ)
walks_of zero number = [] ∷ []
walks_of (suc more) number = [] ∷ map (λ (walk : List ℕ). number ∷ walk) (walks_of more (suc number))

contains_map : (number : ℕ) (walks : List (List ℕ)) (walk : List ℕ) → Contains walks walk → Contains (map (λ (w : List ℕ). number ∷ w) walks) (number ∷ walk)
contains_map number [] walk (place, below, is) = absurd (omega arith)
contains_map number (first ∷ rest) walk (zero, below, is) = (zero, omega arith, ap (λ (w : List ℕ). number ∷ w) is)
contains_map number (first ∷ rest) walk (suc place, below, is) =
    let later = contains_map number rest walk (place, omega arith, is) in (suc later.0, let less = later.1 in omega arith, later.2)

record IsLonger (number : ℕ) (walks : List (List ℕ)) (walk : List ℕ) : Type 0 where
  rest : List ℕ
  same : walk ≡ number ∷ rest
  among : Contains walks rest

of_map : (number : ℕ) (walks : List (List ℕ)) (walk : List ℕ) → Contains (map (λ (w : List ℕ). number ∷ w) walks) walk → IsLonger number walks walk
of_map number [] walk (place, below, is) = absurd (omega arith)
of_map number (first ∷ rest) walk (zero, below, is) = record { rest = first; same = sym is; among = (zero, omega arith, refl) }
of_map number (first ∷ rest) walk (suc place, below, is) =
    let later = of_map number rest walk (place, omega arith, is) in
    let (at, less, there) = later.among in
    record { rest = later.rest; same = later.same; among = (suc at, omega arith, there) }

abbrev later_of : List ℕ → List ℕ
later_of [] = []
later_of (first ∷ rest) = rest

none_empty : (number : ℕ) (walks : List (List ℕ)) → Contains (map (λ (w : List ℕ). number ∷ w) walks) [] → ⊥
none_empty number walks among = let longer = of_map number walks [] among in absurd (let same = longer.same in cc)

distinct_map : (number : ℕ) (walks : List (List ℕ)) → AreDistinct walks → AreDistinct (map (λ (w : List ℕ). number ∷ w) walks)
distinct_map number [] distinct = tt
distinct_map number (first ∷ rest) (new, distinct) = (
  λ among.
      let longer = of_map number rest (number ∷ first) among in
      new (subst (λ (w : List ℕ). Contains rest w) (sym (ap later_of longer.same)) longer.among),
  distinct_map number rest distinct,
)

of_walks : (first : List ℕ) (rest : List (List ℕ)) (walk : List ℕ) → Contains rest walk → Contains (first ∷ rest) walk
of_walks first rest walk (place, below, is) = (suc place, omega arith, is)

distinct_walks : (more number : ℕ) → AreDistinct (walks_of more number)
distinct_walks zero number = (λ (place, below, is). absurd (omega arith), tt)
distinct_walks (suc more) number = (none_empty number (walks_of more (suc number)), distinct_map number (walks_of more (suc number)) (distinct_walks more (suc number)))

module _ (edges : List FlowEdge) (point : ℕ → ℕ) (last : ℕ) (only : (at number to : ℕ) → at ≤ last → IsStep edges (point at) number to → (number ≡ at) × ((to ≡ point (suc at)) × (at < last)))
    (there : (at : ℕ) → at < last → IsStep edges (point at) at (point (suc at))) where
  all_walks : (more at : ℕ) (walk : List ℕ) (to : ℕ) → at + more ≡ last → IsWalk edges (point at) walk to → Contains (walks_of more at) walk
  all_walks zero at [] to enough is = (zero, omega arith, refl)
  all_walks (suc more) at [] to enough is = (zero, omega arith, refl)
  all_walks zero at (first ∷ rest) to enough (middle, step, later) = let (same, (next, less)) = only at first middle (omega (arith, enough)) step in absurd (omega (arith, enough, less))
  all_walks (suc more) at (first ∷ rest) to enough (middle, step, later) =
      let (same, (next, less)) = only at first middle (omega (arith, enough)) step in
      let behind : Contains (walks_of more (suc at)) rest = all_walks more (suc at) rest to (omega (arith, enough)) (subst (λ (p : ℕ). IsWalk edges p rest to) next later) in
      subst (λ (n : ℕ). Contains (walks_of (suc more) at) (n ∷ rest)) (sym same)
      (of_walks [] (map (λ (w : List ℕ). at ∷ w) (walks_of more (suc at))) (at ∷ rest) (contains_map at (walks_of more (suc at)) rest behind))

  each_walks : (more at : ℕ) (walk : List ℕ) → at + more ≡ last → Contains (walks_of more at) walk → (to : ℕ) × IsWalk edges (point at) walk to
  each_walks zero at walk enough (zero, below, is) = (point at, subst (λ (w : List ℕ). IsWalk edges (point at) w (point at)) is refl)
  each_walks zero at walk enough (suc place, below, is) = absurd (omega arith)
  each_walks (suc more) at walk enough (zero, below, is) = (point at, subst (λ (w : List ℕ). IsWalk edges (point at) w (point at)) is refl)
  each_walks (suc more) at walk enough (suc place, below, is) =
      let longer = of_map at (walks_of more (suc at)) walk (place, omega arith, is) in
      let (to, later) = each_walks more (suc at) longer.rest (omega (arith, enough)) longer.among in
      (to, subst (λ (w : List ℕ). IsWalk edges (point at) w to) (sym longer.same) (point (suc at), there at (omega (arith, enough)), later))

  pub line_walks : IsNumberOfWalks edges (point 0) (length (walks_of last 0))
  line_walks = record {
    walks = walks_of last 0;
    are_all = record { each = λ walk among. each_walks last 0 walk (omega arith) among; all = λ walk to is. all_walks last 0 walk to (omega arith) is; once = distinct_walks last 0 };
    count = refl;
  }
