-- The cases of a segment that is linked both ways, without nodes and with a last one, stand for all states that the graph stands for, and for no others.
use Rattle.std.proofs.Common.{◌≡◌, ℕ, zero, suc, ◌<◌, ◌≤◌, Bool, true, false, List, [], ◌∷◌, length, nat_eq, Option, refl, sym, ◌∙◌, ap, subst, eq-eqb, eqb-true, arith}
use Rattle.std.specs.Prelude.{◌↔◌, slice_index_or, if◌then◌else◌}
use Rattle.std.specs.Option.{option_and_then, option_map_or}
use Rattle.std.proofs.lemmas.Bool.{false≢true}
use Rattle.graph.specs.declared.object.Links.{Links}
use Rattle.graph.specs.declared.object.Object.{Object}
use Rattle.graph.specs.declared.parts.Parts.{Parts}
use Rattle.graph.specs.Nodes.{links_in}
use Rattle.graph.specs.State.{State}
use Rattle.graph.specs.Whole.{IsGraph}
use Rattle.graph.specs.Meaning.{HasBlocksAs, own_offset, StandsFor}
use Rattle.graph.specs.Maps.{value_at}
use Rattle.changes.specs.Posted.{SomeStandsFor}
use Rattle.materialise.specs.Dropped.{dropped}
use Rattle.materialise.specs.SplitLast.{split_last, last_nodes}
use Rattle.materialise.specs.WithOne.{is_twofold, has_head, HaveOffsets}
use Rattle.materialise.proofs.Emptiable.{MayBeEmpty}
use Rattle.materialise.proofs.FirstCase.{IsSplit, object}
use Rattle.materialise.proofs.FirstForm.{lives}
use Rattle.materialise.proofs.LastSplit.{with_one}
use Rattle.materialise.proofs.Without.{without}

module _ (parts : Parts) (graph : IsGraph parts) (key : ℕ) (split : IsSplit parts key) (offsets : HaveOffsets parts.values) (both : is_twofold parts key ≡ true) (small : has_head parts key ≡ true) (state : State) where
  abbrev cases : Bool → List Parts
  cases b = if b then dropped key parts ∷ split_last key parts ∷ [] else split_last key parts ∷ []

  cases_are : last_nodes key parts ≡ cases (nat_eq split.links.least 0)
  cases_are =
      ap (λ (o : Option Object). option_map_or (λ (links : Links). if nat_eq links.least 0 then dropped key parts ∷ split_last key parts ∷ [] else split_last key parts ∷ []) (option_and_then (λ (object : Object). links_in object.shape) o) [])
      split.stands

  may : nat_eq split.links.least 0 ≡ true → MayBeEmpty parts key
  may is = record { object = object parts graph key split; links = split.links; stands = split.stands; linked = refl; least = eqb-true _ _ is }

  -- a segment that has no node may have none
  least_none : (stands : StandsFor parts state) → stands.given.blocks key ≡ [] → nat_eq split.links.least 0 ≡ true
  least_none stands none =
      let has = subst (λ (b : Bool). HasBlocksAs b state.memory (object parts graph key split) stands.given.word (λ value. own_offset (value_at parts.values value)) (stands.given.blocks key)) (lives parts graph key split)
      (stands.meets.objects key (object parts graph key split) split.stands) in
      let enough : split.links.least ≤ length (stands.given.blocks key) = has.0 in
      let long : length (stands.given.blocks key) ≡ 0 = ap length none in
      eq-eqb split.links.least 0 (omega arith)

  some_on : StandsFor parts state → SomeStandsFor (last_nodes key parts) state
  some_on stands = subst (λ (graphs : List Parts). SomeStandsFor graphs state) (sym cases_are) (by_blocks (stands.given.blocks key) refl)
    where
      by_least : (b : Bool) → StandsFor (split_last key parts) state → SomeStandsFor (cases b) state
      by_least true split = record { graph = split_last key parts; among = (1, omega arith, refl); stands = split }
      by_least false split = record { graph = split_last key parts; among = (0, omega arith, refl); stands = split }

      by_empty : (b : Bool) → nat_eq split.links.least 0 ≡ b → stands.given.blocks key ≡ [] → SomeStandsFor (cases b) state
      by_empty true is none = record { graph = dropped key parts; among = (0, omega arith, refl); stands = (without parts graph.well_formed key (may is) state).1 (record { given = stands.given; meets = stands.meets; empty = none }) }
      by_empty false is none = absurd (false≢true (sym is ∙ least_none stands none))

      by_blocks : (blocks : List ℕ) → stands.given.blocks key ≡ blocks → SomeStandsFor (cases (nat_eq split.links.least 0)) state
      by_blocks [] none = by_empty (nat_eq split.links.least 0) refl none
      by_blocks (number ∷ rest) is =
          by_least (nat_eq split.links.least 0)
          ((with_one parts graph key split offsets both small state).1 (record { given = stands.given; meets = stands.meets; one = λ none. some_row (sym is ∙ none) }))
        where
          some_row : number ∷ rest ≡ [] → ⊥
          some_row none = let long : suc (length rest) ≡ 0 = ap length none in omega arith

  some_back : SomeStandsFor (last_nodes key parts) state → StandsFor parts state
  some_back some = by_least (nat_eq split.links.least 0) refl (subst (λ (graphs : List Parts). SomeStandsFor graphs state) cases_are some)
    where
      from_split : StandsFor (split_last key parts) state → StandsFor parts state
      from_split stands = let one = (with_one parts graph key split offsets both small state).0 stands in record { given = one.given; meets = one.meets }

      from_dropped : nat_eq split.links.least 0 ≡ true → StandsFor (dropped key parts) state → StandsFor parts state
      from_dropped is stands = let none = (without parts graph.well_formed key (may is) state).0 stands in record { given = none.given; meets = none.meets }

      by_least : (b : Bool) → nat_eq split.links.least 0 ≡ b → SomeStandsFor (cases b) state → StandsFor parts state
      by_least false is found = by_place found.among.0 found.among.1 found.among.2
        where
          by_place : (place : ℕ) → place < 1 → slice_index_or (split_last key parts ∷ []) place found.graph ≡ found.graph → StandsFor parts state
          by_place zero below same = from_split (subst (λ (p : Parts). StandsFor p state) (sym same) found.stands)
          by_place (suc place) below same = absurd (omega arith)
      by_least true is found = by_place found.among.0 found.among.1 found.among.2
        where
          by_place : (place : ℕ) → place < 2 → slice_index_or (dropped key parts ∷ split_last key parts ∷ []) place found.graph ≡ found.graph → StandsFor parts state
          by_place zero below same = from_dropped is (subst (λ (p : Parts). StandsFor p state) (sym same) found.stands)
          by_place (suc zero) below same = from_split (subst (λ (p : Parts). StandsFor p state) (sym same) found.stands)
          by_place (suc (suc place)) below same = absurd (omega arith)

  pub all_cases : StandsFor parts state ↔ SomeStandsFor (last_nodes key parts) state
  all_cases = (some_on, some_back)
