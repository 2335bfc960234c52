-- The cases of a segment, by its first node.
use Rattle.std.proofs.Common.{◌≡◌, ℕ, zero, suc, Bool, true, false, List, [], ◌∷◌, ◌++◌, map, nat_eq, Option, None, Some, refl, sym, subst, arith}
use Rattle.std.specs.Prelude.{◌↔◌, is_some, if◌then◌else◌}
use Rattle.std.specs.List.{All}
use Rattle.std.specs.Option.{option_map_or}
use Rattle.std.proofs.lemmas.Bool.{false≢true}
use Rattle.graph.specs.declared.object.Links.{Links}
use Rattle.graph.specs.declared.parts.Parts.{Parts}
use Rattle.graph.specs.Meaning.{StandsFor}
use Rattle.graph.specs.Renaming.{numbered}
use Rattle.graph.specs.State.{State}
use Rattle.graph.specs.WellFormed.{IsWellFormed, HasAscendingKeys, is_within_limits}
use Rattle.graph.specs.Whole.{IsGraph}
use Rattle.graph.proofs.OwnPlaces.{graph_numbered}
use Rattle.changes.specs.Posted.{SomeStandsFor}
use Rattle.materialise.specs.Dropped.{links_at, dropped}
use Rattle.materialise.specs.Empty.{may_be_empty}
use Rattle.materialise.specs.Kept.{HoldsAsBefore}
use Rattle.materialise.specs.SplitFirst.{split_first, first_nodes}
use Rattle.materialise.specs.WithOne.{is_segment, HaveOffsets}
use Rattle.materialise.proofs.Emptiable.{may_be}
use Rattle.materialise.proofs.FirstAll.{all_cases}
use Rattle.materialise.proofs.FirstCase.{is_split}
use Rattle.materialise.proofs.Held.{dropped_holds}
use Rattle.materialise.proofs.NumberedCases.{numbered_cases}
use Rattle.materialise.proofs.SplitGraph.{split_graph, split_holds}
use Rattle.materialise.proofs.SplitThere.{segment_at}

pub cases_are : (parts : Parts) (key : ℕ) → is_segment parts key ≡ true →
    (if may_be_empty parts key then numbered (dropped key parts) ∷ [] else []) ++ numbered (split_first key parts) ∷ [] ≡ map numbered (first_nodes key parts)
cases_are parts key is = by_links (links_at parts key) is
  where
    by_least : (b : Bool) → (if b then numbered (dropped key parts) ∷ [] else []) ++ numbered (split_first key parts) ∷ [] ≡ map numbered (if b then dropped key parts ∷ split_first key parts ∷ [] else split_first key parts ∷ [])
    by_least true = refl
    by_least false = refl

    by_links : (found : Option Links) → is_some found ≡ true →
        (if option_map_or (λ links. nat_eq links.least 0) found false then numbered (dropped key parts) ∷ [] else []) ++ numbered (split_first key parts) ∷ []
        ≡ map numbered (option_map_or (λ (links : Links). if nat_eq links.least 0 then dropped key parts ∷ split_first key parts ∷ [] else split_first key parts ∷ []) found [])
    by_links None is = absurd (false≢true is)
    by_links (Some links) is = by_least (nat_eq links.least 0)

module _ (parts : Parts) (graph : IsGraph parts) (key : ℕ) (is : is_segment parts key ≡ true) (few : is_within_limits (split_first key parts) ≡ true) where
  whole : IsGraph (split_first key parts)
  whole = split_graph parts graph key (segment_at parts key is) few

  pub split_form : IsWellFormed (split_first key parts)
  split_form = whole.well_formed

  pub split_ascending : HasAscendingKeys (split_first key parts)
  split_ascending = whole.ascending

  one : HoldsAsBefore parts (numbered (split_first key parts))
  one = subst (λ (p : Parts). HoldsAsBefore parts p) (sym (graph_numbered (split_first key parts) whole)) (split_holds parts graph key (segment_at parts key is))

  by_empty : (b : Bool) → may_be_empty parts key ≡ b → All (HoldsAsBefore parts) ((if b then numbered (dropped key parts) ∷ [] else []) ++ numbered (split_first key parts) ∷ [])
  by_empty true empty zero d within = dropped_holds parts graph key (may_be parts key empty)
  by_empty true empty (suc zero) d within = one
  by_empty true empty (suc (suc k)) d within = absurd (omega arith)
  by_empty false empty zero d within = one
  by_empty false empty (suc k) d within = absurd (omega arith)

  -- each names and holds what the graph did
  pub cases_hold : All (HoldsAsBefore parts) (map numbered (first_nodes key parts))
  cases_hold = subst (λ (graphs : List Parts). All (HoldsAsBefore parts) graphs) (cases_are parts key is) (by_empty (may_be_empty parts key) refl)

  -- together they stand for the states that the graph stands for
  pub cases_mean : HaveOffsets parts.values → (state : State) → (StandsFor parts state ↔ SomeStandsFor (map numbered (first_nodes key parts)) state)
  cases_mean offsets state =
      let all = all_cases parts graph key (is_split parts key is) offsets state in
      let same = numbered_cases parts graph key (split_first key parts) split_ascending split_form state in
      (λ stands. same.0 (all.0 stands), λ some. all.1 (same.1 some))
