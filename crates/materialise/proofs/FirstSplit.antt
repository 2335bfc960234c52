-- The graph in which the first node of a segment is a region stands for exactly the states for which the graph stands with a node of the segment.
use Rattle.std.proofs.Common.{◌≡◌, ℕ, List, [], ◌∷◌, refl, sym, ◌∙◌, subst}
use Rattle.std.specs.Prelude.{◌↔◌}
use Rattle.graph.specs.declared.parts.Parts.{Parts}
use Rattle.graph.specs.State.{State}
use Rattle.graph.specs.Whole.{IsGraph}
use Rattle.graph.specs.Meaning.{StandsFor}
use Rattle.materialise.specs.SplitFirst.{split_first}
use Rattle.materialise.specs.WithOne.{HaveOffsets, StandsWithOne}
use Rattle.materialise.proofs.FirstBack.{given, blocks_key, meets_back}
use Rattle.materialise.proofs.FirstCase.{IsSplit, after, after_is}
use Rattle.materialise.proofs.FirstMeans.{given', meets_on}

abbrev IsRow : List ℕ → Type 0
IsRow [] = ⊥
IsRow (number ∷ rest) = Unit {0}

pub some_row : (blocks : List ℕ) (number : ℕ) (rest : List ℕ) → blocks ≡ number ∷ rest → blocks ≡ [] → ⊥
some_row blocks number rest is none = subst (λ (row : List ℕ). IsRow row) (sym is ∙ none) tt

module _ (parts : Parts) (graph : IsGraph parts) (key : ℕ) (split : IsSplit parts key) (offsets : HaveOffsets parts.values) (state : State) where
  there : StandsWithOne parts key state → StandsFor (split_first key parts) state
  there stands = subst (λ (p : Parts). StandsFor p state) (sym (after_is parts graph key split)) (by_blocks (stands.given.blocks key) refl)
    where
      by_blocks : (blocks : List ℕ) → stands.given.blocks key ≡ blocks → StandsFor (after parts graph key split) state
      by_blocks [] is = absurd (stands.one is)
      by_blocks (number ∷ rest) is = record {
        given = given' parts graph key split offsets state stands.given stands.meets number rest is;
        meets = meets_on parts graph key split offsets state stands.given stands.meets number rest is;
      }

  back : StandsFor (split_first key parts) state → StandsWithOne parts key state
  back stands =
      let behind = subst (λ (p : Parts). StandsFor p state) (after_is parts graph key split) stands in record {
        given = given parts graph key split offsets state behind.given behind.meets;
        meets = meets_back parts graph key split offsets state behind.given behind.meets;
        one = some_row _ _ _ (blocks_key parts graph key split offsets state behind.given behind.meets);
      }

  pub with_one : StandsFor (split_first key parts) state ↔ StandsWithOne parts key state
  with_one = (back, there)
