-- The cases of a segment, numbered anew, stand for the same states.
use Rattle.std.proofs.Common.{◌≡◌, ℕ, zero, suc, ◌<◌, Bool, true, false, List, [], ◌∷◌, map, nat_eq, Option, None, Some, refl, sym, subst, arith}
use Rattle.std.specs.Prelude.{◌↔◌, slice_index_or, if◌then◌else◌}
use Rattle.std.specs.Option.{option_map_or}
use Rattle.graph.specs.declared.object.Links.{Links}
use Rattle.graph.specs.declared.parts.Parts.{Parts}
use Rattle.graph.specs.Meaning.{StandsFor}
use Rattle.graph.specs.Renaming.{numbered}
use Rattle.graph.specs.State.{State}
use Rattle.graph.specs.WellFormed.{IsWellFormed, HasAscendingKeys}
use Rattle.graph.specs.Whole.{IsGraph}
use Rattle.graph.proofs.Numbered.{numbering_keeps}
use Rattle.changes.specs.Posted.{SomeStandsFor}
use Rattle.materialise.specs.Dropped.{links_at, dropped}
use Rattle.materialise.specs.Empty.{may_be_empty}
use Rattle.materialise.proofs.Emptiable.{may_be}
use Rattle.materialise.proofs.Formed.{dropped_form, dropped_ascending}

module _ (parts : Parts) (graph : IsGraph parts) (key : ℕ) (split : Parts) (ascending : HasAscendingKeys split) (form : IsWellFormed split) (state : State) where
  abbrev pub Keeps : Parts → Type 0
  Keeps after = StandsFor (numbered after) state ↔ StandsFor after state

  abbrev pub in_cases : Bool → List Parts
  in_cases b = if b then dropped key parts ∷ split ∷ [] else split ∷ []

  one : Keeps split
  one = numbering_keeps split state ascending form

  gone : may_be_empty parts key ≡ true → Keeps (dropped key parts)
  gone empty = numbering_keeps (dropped key parts) state (dropped_ascending parts graph key (may_be parts key empty)) (dropped_form parts graph key (may_be parts key empty))

  by_least : (b : Bool) → (b ≡ true → Keeps (dropped key parts)) → (SomeStandsFor (in_cases b) state ↔ SomeStandsFor (map numbered (in_cases b)) state)
  by_least false none = (λ found. on found found.among.0 found.among.1 found.among.2, λ found. back found found.among.0 found.among.1 found.among.2)
    where
      on : (found : SomeStandsFor (split ∷ []) state) (place : ℕ) → place < 1 → slice_index_or (split ∷ []) place found.graph ≡ found.graph → SomeStandsFor (numbered split ∷ []) state
      on found zero below same = record { graph = numbered split; among = (0, omega arith, refl); stands = one.1 (subst (λ (p : Parts). StandsFor p state) (sym same) found.stands) }
      on found (suc place) below same = absurd (omega arith)

      back : (found : SomeStandsFor (numbered split ∷ []) state) (place : ℕ) → place < 1 → slice_index_or (numbered split ∷ []) place found.graph ≡ found.graph → SomeStandsFor (split ∷ []) state
      back found zero below same = record { graph = split; among = (0, omega arith, refl); stands = one.0 (subst (λ (p : Parts). StandsFor p state) (sym same) found.stands) }
      back found (suc place) below same = absurd (omega arith)
  by_least true none = (λ found. on found found.among.0 found.among.1 found.among.2, λ found. back found found.among.0 found.among.1 found.among.2)
    where
      on : (found : SomeStandsFor (dropped key parts ∷ split ∷ []) state) (place : ℕ) → place < 2 → slice_index_or (dropped key parts ∷ split ∷ []) place found.graph ≡ found.graph →
          SomeStandsFor (numbered (dropped key parts) ∷ numbered split ∷ []) state
      on found zero below same = record { graph = numbered (dropped key parts); among = (0, omega arith, refl); stands = (none refl).1 (subst (λ (p : Parts). StandsFor p state) (sym same) found.stands) }
      on found (suc zero) below same = record { graph = numbered split; among = (1, omega arith, refl); stands = one.1 (subst (λ (p : Parts). StandsFor p state) (sym same) found.stands) }
      on found (suc (suc place)) below same = absurd (omega arith)

      back : (found : SomeStandsFor (numbered (dropped key parts) ∷ numbered split ∷ []) state) (place : ℕ) → place < 2 → slice_index_or (numbered (dropped key parts) ∷ numbered split ∷ []) place found.graph ≡ found.graph →
          SomeStandsFor (dropped key parts ∷ split ∷ []) state
      back found zero below same = record { graph = dropped key parts; among = (0, omega arith, refl); stands = (none refl).0 (subst (λ (p : Parts). StandsFor p state) (sym same) found.stands) }
      back found (suc zero) below same = record { graph = split; among = (1, omega arith, refl); stands = one.0 (subst (λ (p : Parts). StandsFor p state) (sym same) found.stands) }
      back found (suc (suc place)) below same = absurd (omega arith)

  abbrev pub cases_of : Option Links → List Parts
  cases_of found = option_map_or (λ (links : Links). if nat_eq links.least 0 then dropped key parts ∷ split ∷ [] else split ∷ []) found []

  by_links : (found : Option Links) → (option_map_or (λ (links : Links). nat_eq links.least 0) found false ≡ true → Keeps (dropped key parts)) →
      (SomeStandsFor (cases_of found) state ↔ SomeStandsFor (map numbered (cases_of found)) state)
  by_links None none = (λ some. some, λ some. some)
  by_links (Some links) none = by_least (nat_eq links.least 0) none

  pub numbered_cases : SomeStandsFor (cases_of (links_at parts key)) state ↔ SomeStandsFor (map numbered (cases_of (links_at parts key))) state
  numbered_cases = by_links (links_at parts key) gone
