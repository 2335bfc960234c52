-- The graph in which the last node of a segment is a region stands for exactly the states for which the graph stands with a node of the segment.
use Rattle.std.proofs.Common.{◌≡◌, ℕ, ◌^◌, ◌<◌, List, [], ◌∷◌, ◌++◌, true, false, nat_lt, ltb-true, refl, sym, ◌∙◌, ap, subst}
use Rattle.std.specs.Prelude.{◌↔◌, Option}
use Rattle.std.specs.Option.{option_and_then, option_map_or}
use Rattle.graph.specs.declared.object.Links.{Links}
use Rattle.graph.specs.declared.object.Object.{Object}
use Rattle.graph.specs.declared.parts.Parts.{Parts}
use Rattle.graph.specs.Nodes.{links_in}
use Rattle.graph.specs.State.{State}
use Rattle.graph.specs.Whole.{IsGraph}
use Rattle.graph.specs.Meaning.{StandsFor}
use Rattle.graph.proofs.Sent.{passes-some}
use Rattle.materialise.specs.Dropped.{links_at}
use Rattle.materialise.specs.SplitLast.{split_last}
use Rattle.materialise.specs.WithOne.{is_segment, is_twofold, has_head, HaveOffsets, StandsWithOne}
use Rattle.materialise.proofs.FirstCase.{IsSplit}
use Rattle.materialise.proofs.FirstSplit.{some_row}
use Rattle.materialise.proofs.LastBack.{one_block, given, blocks_key, meets_back}
use Rattle.materialise.proofs.LastCase.{after_is}
use Rattle.materialise.proofs.LastMeans.{given', meets_on}

pub twofold_segment : (parts : Parts) (key : ℕ) → is_twofold parts key ≡ true → is_segment parts key ≡ true
twofold_segment parts key is = passes-some (λ (links : Links). links.twofold) (links_at parts key) is

-- a row that is not empty has a last one
pub record HasLast (row : List ℕ) : Type 0 where
  pub rest : List ℕ
  pub number : ℕ
  pub is : row ≡ rest ++ number ∷ []

has_last : (row : List ℕ) → (row ≡ [] → ⊥) → HasLast row
has_last [] some = absurd (some refl)
has_last (number ∷ []) some = record { rest = []; number = number; is = refl }
has_last (number ∷ (next ∷ rest)) some =
    let later = has_last (next ∷ rest) (some_row (next ∷ rest) next rest refl) in
    record { rest = number ∷ later.rest; number = later.number; is = ap (λ (row : List ℕ). number ∷ row) later.is }

not_empty : (rest : List ℕ) (number : ℕ) → rest ++ number ∷ [] ≡ [] → ⊥
not_empty [] number none = some_row (number ∷ []) number [] refl none
not_empty (first ∷ rest) number none = some_row (first ∷ (rest ++ number ∷ [])) first (rest ++ number ∷ []) refl none

module _ (parts : Parts) (graph : IsGraph parts) (key : ℕ) (split : IsSplit parts key) (offsets : HaveOffsets parts.values) (is_both : is_twofold parts key ≡ true) (is_small : has_head parts key ≡ true) (state : State) where
  twofold : split.links.twofold ≡ true
  twofold = sym (ap (λ (o : Option Object). option_map_or (λ (links : Links). links.twofold) (option_and_then (λ (object : Object). links_in object.shape) o) false) split.stands) ∙ is_both

  small : split.links.head < 2 ^ 63
  small =
      ltb-true split.links.head (2 ^ 63)
      (sym (ap (λ (o : Option Object). option_map_or (λ (links : Links). nat_lt links.head (2 ^ 63)) (option_and_then (λ (object : Object). links_in object.shape) o) false) split.stands) ∙ is_small)

  there : StandsWithOne parts key state → StandsFor (split_last key parts) state
  there stands =
      let last = has_last (stands.given.blocks key) stands.one in
      subst (λ (p : Parts). StandsFor p state) (sym (after_is parts graph key split)) (record {
        given = given' parts graph key split offsets state stands.given stands.meets twofold small last.rest last.number last.is;
        meets = meets_on parts graph key split offsets state stands.given stands.meets twofold small last.rest last.number last.is;
      })

  back : StandsFor (split_last key parts) state → StandsWithOne parts key state
  back stands =
      let behind = subst (λ (p : Parts). StandsFor p state) (after_is parts graph key split) stands in record {
        given = given parts graph key split offsets state behind.given behind.meets twofold small;
        meets = meets_back parts graph key split offsets state behind.given behind.meets twofold small;
        one = λ none. not_empty (behind.given.blocks key) (one_block parts graph key split offsets state behind.given behind.meets twofold small).0 (sym (blocks_key parts graph key split offsets state behind.given behind.meets twofold small) ∙ none);
      }

  pub with_one : StandsFor (split_last key parts) state ↔ StandsWithOne parts key state
  with_one = (back, there)
