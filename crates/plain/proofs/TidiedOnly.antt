-- What a graph shows it shows without what nothing holds.
use Rattle.std.proofs.Common.{◌≡◌, ℕ, Bool, true, false, List, [], ◌∷◌, Option, refl, sym, ◌∙◌, ap, subst}
use Rattle.std.specs.Prelude.{IsTrue, Some}
use Rattle.std.specs.List.{list_all}
use Rattle.std.specs.Option.{option_map_or}
use Rattle.graph.specs.declared.edges.HasValue.{HasValue}
use Rattle.graph.specs.declared.object.Object.{Object}
use Rattle.graph.specs.declared.object.Shape.{Shape}
use Rattle.graph.specs.declared.object.Shape.TheVariants.{Region, Segment}
use Rattle.graph.specs.declared.parts.KeyedObject.{KeyedObject}
use Rattle.graph.specs.declared.parts.KeyedValue.{KeyedValue}
use Rattle.graph.specs.declared.parts.Parts.{Parts}
use Rattle.graph.specs.declared.value.Value.{Value}
use Rattle.graph.specs.Closed.{OnEdges}
use Rattle.graph.specs.Maps.{object_at}
use Rattle.graph.specs.Nodes.{is_region, node_in, own_node}
use Rattle.graph.specs.State.{State}
use Rattle.graph.specs.Unheld.{with_only, MayGo}
use Rattle.graph.specs.WellFormed.{IsWellFormed, passes_at, is_within_limits}
use Rattle.graph.proofs.Closed.{segment_edges}
use Rattle.graph.proofs.Found.{IsSome-holds}
use Rattle.graph.proofs.Tests.{and_left, and_right, and_both}
use Rattle.graph.proofs.Unheld.{found_staying, was_there, what_nothing_holds_may_go}
use Rattle.plain.specs.Marks.{Marks}
use Rattle.plain.specs.Shown.{is_sure, may_show, IsShownBy, IsShown}

module _ (values objects : ℕ → Bool) (parts : Parts) where
  abbrev only : Parts
  only = with_only values objects parts

  object_was : (key : ℕ) (object : Object) → object_at only.objects key ≡ Some object → object_at parts.objects key ≡ Some object
  object_was key object is = was_there (λ (entry : KeyedObject). entry.key) (λ entry. entry.object) objects parts.objects key object is

  -- a value that stays passes the tests that it passed
  passes_only : (test : Value → Bool) (key : ℕ) → values key ≡ true → passes_at parts test key ≡ true → passes_at only test key ≡ true
  passes_only test key stay passes =
      ap (λ (o : Option Value). option_map_or test o false) (found_staying (λ (entry : KeyedValue). entry.key) (λ entry. entry.value) values parts.values key stay) ∙ passes

  edges_only : (test : Value → Bool) (edges : List HasValue) → OnEdges (λ value. IsTrue (values value)) edges →
      list_all (λ (edge : HasValue). passes_at parts test edge.value) edges ≡ true → list_all (λ (edge : HasValue). passes_at only test edge.value) edges ≡ true
  edges_only test [] stay all = refl
  edges_only test (edge ∷ rest) stay all =
      and_both (passes_at only test edge.value) (list_all (λ (edge : HasValue). passes_at only test edge.value) rest)
      (passes_only test edge.value stay.0 (and_left (passes_at parts test edge.value) (list_all (λ (edge : HasValue). passes_at parts test edge.value) rest) all))
      (edges_only test rest stay.1 (and_right (passes_at parts test edge.value) (list_all (λ (edge : HasValue). passes_at parts test edge.value) rest) all))

  module _ (form : IsWellFormed parts) (limits : is_within_limits parts ≡ true) (may : MayGo values objects parts) where
    -- the values of an object's own edges stay, of which a segment has none
    own_stay : (key : ℕ) (object : Object) → object_at parts.objects key ≡ Some object → OnEdges (λ value. IsTrue (values value)) object.edges
    own_stay key object is = by_shape object.shape refl (may.named key object is).0
      where
        by_shape : (shape : Shape) → object.shape ≡ shape → OnEdges (λ value. IsTrue (values value)) (node_in shape (own_node object)).edges → OnEdges (λ value. IsTrue (values value)) object.edges
        by_shape Region same all = all
        by_shape (Segment twofold head next prev back least next_value prev_value node) same all =
            subst (λ (edges : List HasValue). OnEdges (λ value. IsTrue (values value)) edges) (sym (segment_edges parts form key object is (ap is_region same))) tt

    pub only_shown : (state : State) (marks : Marks) → IsShown parts state marks → IsShown only state marks
    only_shown state marks shown =
        let by : IsShownBy parts state marks shown.given = shown.by in
        let said = (what_nothing_holds_may_go values objects parts state form limits may).onward shown.given by.meets in
        record {
          given = said.0;
          by = record {
            meets = said.1;
            marked = λ key number place object is live blocks within.
                by.marked key number place object (object_was key object is) live (sym (said.2.blocks key (IsSome-holds _ _ is)) ∙ blocks) within;
            tight = λ key place object is. by.tight key place object (object_was key object is);
            edges = λ key object is. edges_only is_sure object.edges (own_stay key object (object_was key object is)) (by.edges key object (object_was key object is));
            registers = λ register key held. passes_only (may_show (marks.input register)) key (may.registers register key held) (by.registers register key held);
          };
        }
