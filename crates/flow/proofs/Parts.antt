-- All walks from a point, put together edge by edge.
use Rattle.std.proofs.Common.{◌≡◌, ℕ, zero, suc, ◌<◌, ◌≤◌, ◌⊎◌, inl, inr, List, [], ◌∷◌, ◌++◌, map, length, refl, sym, ap, subst, ◌∙◌, arith, Bool, true, false, Some}
use Rattle.std.specs.Prelude.{Contains, slice_get, IsTrue, if◌then◌else◌}
use Rattle.std.proofs.lemmas.List.Elements.{Contains-append_left, Contains-append_right, Contains-append_cases}
use Rattle.std.proofs.lemmas.Option.{slice_get_within}
use Rattle.std.proofs.lemmas.Bool.{cases_eq, false≢true}
use Rattle.flow.specs.declared.flow_graph.FlowEdge.{FlowEdge}
use Rattle.flow.specs.Walks.{goes_from, IsStep, IsWalk, AreDistinct, AreAllWalks}
use Rattle.flow.specs.Counting.{is_way_from, last_below, BeginsFrom, ArePart}

-- what a list of one more item contains
Contains-first : {X : Type 0} (x : X) (xs : List X) → Contains (x ∷ xs) x
Contains-first x xs = (0, omega arith, refl)

Contains-later : {X : Type 0} (y : X) (xs : List X) (x : X) → Contains xs x → Contains (y ∷ xs) x
Contains-later y xs x (k, below, is) = (suc k, omega arith, is)

Contains-cases : {X : Type 0} (y : X) (xs : List X) (x : X) → Contains (y ∷ xs) x → (y ≡ x) ⊎ Contains xs x
Contains-cases y xs x (zero, below, is) = inl is
Contains-cases y xs x (suc k, below, is) = inr (k, omega arith, is)

Contains-none : {X : Type 0} (x : X) → Contains [] x → ⊥
Contains-none x (k, below, is) = omega arith

-- the walks that go along an edge first
Contains-map : (number : ℕ) (walks : List (List ℕ)) (rest : List ℕ) → Contains walks rest → Contains (map (λ walk. number ∷ walk) walks) (number ∷ rest)
Contains-map number [] rest within = absurd (Contains-none rest within)
Contains-map number (walk ∷ walks) rest within = by_cases (Contains-cases walk walks rest within) (Contains-map number walks rest)
  where
    by_cases : (walk ≡ rest) ⊎ Contains walks rest →
        (Contains walks rest → Contains (map (λ walk. number ∷ walk) walks) (number ∷ rest)) →
        Contains (map (λ walk. number ∷ walk) (walk ∷ walks)) (number ∷ rest)
    by_cases (inl is) onward = (0, omega arith, ap (λ (w : List ℕ). number ∷ w) is)
    by_cases (inr later) onward = Contains-later (number ∷ walk) (map (λ walk. number ∷ walk) walks) (number ∷ rest) (onward later)

pub record GoesFirst (number : ℕ) (walks : List (List ℕ)) (walk : List ℕ) : Type 0 where
  pub rest : List ℕ
  pub is : walk ≡ number ∷ rest
  pub within : Contains walks rest

Contains-map_cases : (number : ℕ) (walks : List (List ℕ)) (walk : List ℕ) → Contains (map (λ walk. number ∷ walk) walks) walk → GoesFirst number walks walk
Contains-map_cases number [] walk within = absurd (Contains-none walk within)
Contains-map_cases number (first ∷ walks) walk within =
    by_cases (Contains-cases (number ∷ first) (map (λ walk. number ∷ walk) walks) walk within) (Contains-map_cases number walks walk)
  where
    by_cases : (number ∷ first ≡ walk) ⊎ Contains (map (λ walk. number ∷ walk) walks) walk →
        (Contains (map (λ walk. number ∷ walk) walks) walk → GoesFirst number walks walk) → GoesFirst number (first ∷ walks) walk
    by_cases (inl is) onward = record { rest = first; is = sym is; within = Contains-first first walks }
    by_cases (inr later) onward =
        let found = onward later in
        record { rest = found.rest; is = found.is; within = Contains-later first walks found.rest found.within }

AreDistinct-map : (number : ℕ) (walks : List (List ℕ)) → AreDistinct walks → AreDistinct (map (λ walk. number ∷ walk) walks)
AreDistinct-map number [] once = tt
AreDistinct-map number (walk ∷ walks) (new, once) = (not_again, AreDistinct-map number walks once)
  where
    not_again : Contains (map (λ walk. number ∷ walk) walks) (number ∷ walk) → ⊥
    not_again within =
        let found = Contains-map_cases number walks (number ∷ walk) within in
        let is : number ∷ walk ≡ number ∷ found.rest = found.is in
        let same : walk ≡ found.rest = cc in
        new (subst (λ (w : List ℕ). Contains walks w) (sym same) found.within)

AreDistinct-append : (one other : List (List ℕ)) → AreDistinct one → AreDistinct other →
    ((walk : List ℕ) → Contains one walk → Contains other walk → ⊥) → AreDistinct (one ++ other)
AreDistinct-append [] other once once' apart = once'
AreDistinct-append (walk ∷ one) other (new, once) once' apart =
    (not_again, AreDistinct-append one other once once' (λ w within within'. apart w (Contains-later walk one w within) within'))
  where
    not_again : Contains (one ++ other) walk → ⊥
    not_again within = by_cases (Contains-append_cases one other walk within)
      where
        by_cases : Contains one walk ⊎ Contains other walk → ⊥
        by_cases (inl again) = new again
        by_cases (inr again) = apart walk (Contains-first walk one) again

-- a step's number is that of an edge
IsStep-below : (edges : List FlowEdge) (from number to : ℕ) → IsStep edges from number to → number < length edges
IsStep-below edges from number to step = slice_get_within edges number step.edge step.stands

-- no walk begins behind the last edge
pub ArePart-none : (edges : List FlowEdge) (point : ℕ) → ArePart edges point (length edges) []
ArePart-none edges point = record {
  each = λ walk within. absurd (Contains-none walk within);
  all = λ walk begins. absurd (behind walk begins);
  once = tt;
}
  where
    behind : (walk : List ℕ) → BeginsFrom edges point (length edges) walk → ⊥
    behind [] begins = begins
    behind (number ∷ rest) (least, (to, (middle, step, walk))) =
        let below : number < length edges = IsStep-below edges point number middle step in omega arith

-- a step says that walks may go along its edge
IsStep-way : (edges : List FlowEdge) (from number to : ℕ) → IsStep edges from number to → is_way_from from (slice_get edges number) ≡ true
IsStep-way edges from number to step = rw (step.stands) (step.goes)

-- an edge that no walk from the point goes along is passed over
ArePart-pass : (edges : List FlowEdge) (point count : ℕ) (walks : List (List ℕ)) →
    is_way_from point (slice_get edges count) ≡ false → ArePart edges point (suc count) walks → ArePart edges point count walks
ArePart-pass edges point count walks no_way part = record {
  each = λ walk within. fewer walk (part.each walk within);
  all = λ walk begins. part.all walk (more walk begins);
  once = part.once;
}
  where
    fewer : (walk : List ℕ) → BeginsFrom edges point (suc count) walk → BeginsFrom edges point count walk
    fewer [] begins = begins
    fewer (number ∷ rest) (least, walk) = (omega arith, walk)

    more : (walk : List ℕ) → BeginsFrom edges point count walk → BeginsFrom edges point (suc count) walk
    more [] begins = begins
    more (number ∷ rest) (least, (to, (middle, step, walk))) = (above (cases_eq number count), (to, (middle, step, walk)))
      where
        above : (number ≡ count) ⊎ (number ≡ count → ⊥) → suc count ≤ number
        above (inl is) = absurd (false≢true (sym no_way ∙ (ap (λ (k : ℕ). is_way_from point (slice_get edges k)) (sym is) ∙ IsStep-way edges point number middle step)))
        above (inr is_not) = omega arith

-- so are all down to the last one that some walk from the point goes along
pub ArePart-last : (edges : List FlowEdge) (point count : ℕ) (walks : List (List ℕ)) →
    ArePart edges point count walks → ArePart edges point (last_below edges point count) walks
ArePart-last edges point zero walks part = part
ArePart-last edges point (suc count) walks part = by_cases (is_way_from point (slice_get edges count)) refl (ArePart-last edges point count walks)
  where
    by_cases : (way : Bool) → is_way_from point (slice_get edges count) ≡ way →
        (ArePart edges point count walks → ArePart edges point (last_below edges point count) walks) →
        ArePart edges point (if way then suc count else last_below edges point count) walks
    by_cases true is onward = part
    by_cases false is onward = onward (ArePart-pass edges point count walks is part)

-- the walks that go along one edge more
pub ArePart-more : (edges : List FlowEdge) (point count : ℕ) (edge : FlowEdge) (walks onward : List (List ℕ)) →
    slice_get edges count ≡ Some edge → IsTrue (goes_from point edge) →
    ArePart edges point (suc count) walks → AreAllWalks edges edge.to onward →
    ArePart edges point count (walks ++ map (λ walk. count ∷ walk) onward)
ArePart-more edges point count edge walks onward stands goes part all = record {
  each = λ walk within. from_either walk (Contains-append_cases walks (map (λ walk. count ∷ walk) onward) walk within);
  all = is_there;
  once = AreDistinct-append walks (map (λ walk. count ∷ walk) onward) part.once (AreDistinct-map count onward all.once) apart;
}
  where
    fewer : (walk : List ℕ) → BeginsFrom edges point (suc count) walk → BeginsFrom edges point count walk
    fewer [] begins = begins
    fewer (number ∷ rest) (least, walk) = (omega arith, walk)

    along : (walk : List ℕ) → GoesFirst count onward walk → BeginsFrom edges point count walk
    along walk first =
        let (to, onward_walk) = all.each first.rest first.within in
        subst (λ (w : List ℕ). BeginsFrom edges point count w) (sym first.is)
        (omega arith, (to, (edge.to, record { edge = edge; stands = stands; goes = goes; leads = refl }, onward_walk)))

    from_either : (walk : List ℕ) → Contains walks walk ⊎ Contains (map (λ walk. count ∷ walk) onward) walk → BeginsFrom edges point count walk
    from_either walk (inl within) = fewer walk (part.each walk within)
    from_either walk (inr within) = along walk (Contains-map_cases count onward walk within)

    is_there : (walk : List ℕ) → BeginsFrom edges point count walk → Contains (walks ++ map (λ walk. count ∷ walk) onward) walk
    is_there [] begins = absurd begins
    is_there (number ∷ rest) (least, (to, (middle, step, walk))) = by_number (cases_eq number count)
      where
        same_edge : number ≡ count → edge.to ≡ middle
        same_edge is =
            let here : slice_get edges number ≡ Some step.edge = step.stands in
            let there : slice_get edges number ≡ Some edge = ap (λ (k : ℕ). slice_get edges k) is ∙ stands in
            let one : edge ≡ step.edge = cc in
            ap (λ (e : FlowEdge). e.to) one ∙ step.leads

        by_number : (number ≡ count) ⊎ (number ≡ count → ⊥) → Contains (walks ++ map (λ walk. count ∷ walk) onward) (number ∷ rest)
        by_number (inl is) =
            let within : Contains onward rest = all.all rest to (subst (λ (p : ℕ). IsWalk edges p rest to) (sym (same_edge is)) walk) in
            let found : Contains (walks ++ map (λ walk. count ∷ walk) onward) (count ∷ rest) = Contains-append_right walks (map (λ walk. count ∷ walk) onward) (count ∷ rest) (Contains-map count onward rest within) in
            subst (λ (k : ℕ). Contains (walks ++ map (λ walk. count ∷ walk) onward) (k ∷ rest)) (sym is) found
        by_number (inr is_not) =
            Contains-append_left walks (map (λ walk. count ∷ walk) onward) (number ∷ rest) (part.all (number ∷ rest) (omega arith, (to, (middle, step, walk))))

    apart : (walk : List ℕ) → Contains walks walk → Contains (map (λ walk. count ∷ walk) onward) walk → ⊥
    apart walk within within' =
        let first = Contains-map_cases count onward walk within' in
        let begins : BeginsFrom edges point (suc count) (count ∷ first.rest) = subst (λ (w : List ℕ). BeginsFrom edges point (suc count) w) first.is (part.each walk within) in
        let least : suc count ≤ count = begins.0 in
        omega arith

-- with the walk of no edge these are all
pub AreAllWalks-parts : (edges : List FlowEdge) (point : ℕ) (walks : List (List ℕ)) →
    ArePart edges point 0 walks → AreAllWalks edges point ([] ∷ walks)
AreAllWalks-parts edges point walks part = record {
  each = λ walk within. from_either walk (Contains-cases [] walks walk within);
  all = is_there;
  once = (λ within. part.each [] within, part.once);
}
  where
    to_end : (walk : List ℕ) → BeginsFrom edges point 0 walk → (to : ℕ) × IsWalk edges point walk to
    to_end [] begins = absurd begins
    to_end (number ∷ rest) (least, walk) = walk

    from_either : (walk : List ℕ) → ([] ≡ walk) ⊎ Contains walks walk → (to : ℕ) × IsWalk edges point walk to
    from_either walk (inl is) = subst (λ (w : List ℕ). (to : ℕ) × IsWalk edges point w to) is (point, refl)
    from_either walk (inr within) = to_end walk (part.each walk within)

    is_there : (walk : List ℕ) (to : ℕ) → IsWalk edges point walk to → Contains ([] ∷ walks) walk
    is_there [] to walk = Contains-first [] walks
    is_there (number ∷ rest) to walk = Contains-later [] walks (number ∷ rest) (part.all (number ∷ rest) (omega arith, (to, walk)))
