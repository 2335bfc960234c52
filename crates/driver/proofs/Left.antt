-- What is left of posts.
use Rattle.std.proofs.Common.{◌≡◌, ℕ, zero, suc, List, [], ◌∷◌, ◌++◌, map, Some, refl, sym, ◌∙◌, ap, subst}
use Rattle.std.specs.Prelude.{slice_get}
use Rattle.std.proofs.lemmas.List.Elements.{All-nil, All-push}
use Rattle.graph.specs.declared.parts.Parts.{Parts}
use Rattle.graph.specs.declared.post.Post.{Post}
use Rattle.graph.specs.Whole.{IsGraph}
use Rattle.flow.specs.declared.flow_graph.Flow.{Flow}
use Rattle.flow.specs.declared.flow_graph.FlowEdge.{FlowEdge}
use Rattle.tidying.specs.Fits.{FitsAs}
use Rattle.tidying.specs.Tidied.{tidied}
use Rattle.tidying.proofs.Fits.{tidied_fits}
use Rattle.transfer.specs.Fitting.{FitsAt, FitAt}
use Rattle.transfer.proofs.Runs.{same_kinds}
use Rattle.trail.proofs.Sound.{same_some, at_number}
use Rattle.driver.specs.Leaving.{IsWhatIsLeft, AreLeft, IsLeft, IsPostOf}

pub none_left : AreLeft [] []
none_left = record { same = refl; are = All-nil IsGraph }

map_on : (graphs : List Parts) (graph : Parts) → map tidied (graphs ++ graph ∷ []) ≡ map tidied graphs ++ tidied graph ∷ []
map_on [] graph = refl
map_on (first ∷ rest) graph = ap (λ (gs : List Parts). tidied first ∷ gs) (map_on rest graph)

pub one_left : (graphs left after : List Parts) (graph one : Parts) → AreLeft graphs left → IsWhatIsLeft graph one → after ≡ left ++ one ∷ [] → AreLeft (graphs ++ graph ∷ []) after
one_left graphs left after graph one so here is = record {
  same = is ∙ (ap (λ (g : Parts). left ++ g ∷ []) here.same ∙ (ap (λ (gs : List Parts). gs ++ tidied graph ∷ []) so.same ∙ sym (map_on graphs graph)));
  are = All-push IsGraph graphs graph so.are here.is;
}

pub kinds_left : (flow : Flow) (edge : FlowEdge) (parts : Parts) (one other : Post) → IsPostOf flow edge parts one → IsPostOf flow edge parts other → one.kinds ≡ other.kinds
kinds_left flow edge parts one other is also = is.left.kinds ∙ (same_kinds flow edge parts is.whole also.whole is.is also.is ∙ sym also.left.kinds)

-- a graph that is left, and the whole one
pub record IsOne (graphs : List Parts) (place : ℕ) (left : Parts) : Type 0 where
  pub graph : Parts
  pub there : slice_get graphs place ≡ Some graph
  pub is : left ≡ tidied graph

pub one_of : (graphs : List Parts) (place : ℕ) (left : Parts) → slice_get (map tidied graphs) place ≡ Some left → IsOne graphs place left
one_of [] place left there = absurd cc
one_of (first ∷ rest) zero left there = record { graph = first; there = refl; is = sym (same_some (tidied first) left there) }
one_of (first ∷ rest) (suc place) left there = let later = one_of rest place left there in record { graph = later.graph; there = later.there; is = later.is }

pub left_there : (graphs : List Parts) (place : ℕ) (graph : Parts) → slice_get graphs place ≡ Some graph → slice_get (map tidied graphs) place ≡ Some (tidied graph)
left_there [] place graph there = absurd cc
left_there (first ∷ rest) zero graph there = ap (λ (g : Parts). Some (tidied g)) (same_some first graph there)
left_there (first ∷ rest) (suc place) graph there = left_there rest place graph there

fits_one : (flow : Flow) (point : ℕ) (graph : Parts) → IsGraph graph → FitsAt flow point graph → FitsAt flow point (tidied graph)
fits_one flow point graph graph_is fits =
    let same : FitsAs graph (tidied graph) = tidied_fits graph graph_is in record {
      variables = λ variable. same.variables variable ∙ fits.variables variable;
      registers = λ register. same.registers register ∙ fits.registers register;
      ports = same.without_ports fits.ports;
    }

pub fits_left : (flow : Flow) (point : ℕ) (whole post : Post) → IsLeft whole post → FitAt flow point whole.graphs → FitAt flow point post.graphs
fits_left flow point whole post left fits = record {
  each = λ place parts there.
      let one : IsOne whole.graphs place parts = one_of whole.graphs place parts (sym (ap (λ (gs : List Parts). slice_get gs place) left.graphs.same) ∙ there) in
      subst (λ (g : Parts). FitsAt flow point g) (sym one.is)
      (fits_one flow point one.graph (at_number IsGraph whole.graphs place one.graph left.graphs.are one.there) (fits.each place one.graph one.there));
}
