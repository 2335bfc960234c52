-- The scope of variables is left, and back, where the graph's objects are regions: each state has room for a block more.
use Rattle.std.proofs.Common.{◌≡◌, ℕ, Bool, true, false, ◌&&◌, List, [], ◌∷◌, map, length, nat_eq, nat_lt, None, refl, sym, ◌∙◌, ap, subst}
use Rattle.std.specs.Prelude.{if◌then◌else◌}
use Rattle.std.specs.List.{list_all}
use Rattle.graph.specs.declared.object.Object.{Object}
use Rattle.graph.specs.declared.parts.KeyedObject.{KeyedObject}
use Rattle.graph.specs.declared.parts.Parts.{Parts}
use Rattle.graph.specs.declared.post.Post.{Post}
use Rattle.graph.specs.AlikeStates.{AreAlikeStates}
use Rattle.graph.specs.Meaning.{StandsFor}
use Rattle.graph.specs.Nodes.{is_region}
use Rattle.graph.specs.State.{State, IsState}
use Rattle.graph.specs.Whole.{IsGraph}
use Rattle.graph.proofs.AlikeStates.{states_behind, state_alike_itself}
use Rattle.graph.proofs.Tests.{and_left, and_right, and_both}
use Rattle.changes.specs.Dying.{died}
use Rattle.changes.specs.Parts.{replaced}
use Rattle.changes.specs.FollowingAlike.{FollowsAlike}
use Rattle.changes.specs.Posted.{IsPost, SomeStandsFor}
use Rattle.changes.proofs.DeadAlike.{same_number, below}
use Rattle.heap_steps.specs.Leaving.{EndsScope, LeavesScope, MayLeave, without_one, left, leave_post}
use Rattle.heap_steps.specs.Regions.{AreRegions, IsExactOfRegions}
use Rattle.heap_steps.proofs.EndedAlike.{all_alike}
use Rattle.heap_steps.proofs.EndedOne.{region}
use Rattle.heap_steps.proofs.Left.{stored, middle_is, middle_graph, rest_may, begun_one, all_state}
use Rattle.heap_steps.proofs.LeaveMeans.{behind_graph, behind_stands}
use Rattle.heap_steps.proofs.Looked.{looked_exact, none_lost}
use Rattle.heap_steps.proofs.RegionRoom.{room_base, regions_have_room}

-- a region in an object's place leaves regions
pub replaced_regions : (key : ℕ) (object : Object) → is_region object.shape ≡ true → (objects : List KeyedObject) → AreRegions objects → AreRegions (map (replaced key object) objects)
replaced_regions key object region_is [] all = refl
replaced_regions key object region_is (first ∷ rest) all =
    and_both (is_region (replaced key object first).object.shape) (list_all (λ (entry : KeyedObject). is_region entry.object.shape) (map (replaced key object) rest))
    (by_test (nat_eq first.key key))
    (replaced_regions key object region_is rest (and_right (is_region first.object.shape) (list_all (λ (entry : KeyedObject). is_region entry.object.shape) rest) all))
  where
    by_test : (b : Bool) → is_region (if b then object else first.object).shape ≡ true
    by_test true = region_is
    by_test false = and_left (is_region first.object.shape) (list_all (λ (entry : KeyedObject). is_region entry.object.shape) rest) all

middle_regions : (variable : ℕ) (rest : List ℕ) (parts : Parts) (graph : IsGraph parts) (may : MayLeave parts (variable ∷ rest)) → AreRegions parts.objects → AreRegions (without_one variable parts).objects
middle_regions variable rest parts graph may all =
    let store = stored variable rest parts graph may in
    subst (λ (p : Parts). AreRegions p.objects) (sym (middle_is variable rest parts graph may))
    (replaced_regions store.key (died store.object) (ap is_region (region variable store.key store.object parts graph store.named store.stands)) parts.objects all)

-- a state from which the scope is left to one that is alike
pub record IsBegunThere (parts : Parts) (which : List ℕ) (one : State) : Type 0 where
  pub state : State
  pub next' : State
  pub is : IsState state
  pub stands : StandsFor parts state
  pub ends : EndsScope which state next'
  pub there : ℕ → ℕ
  pub back : ℕ → ℕ
  pub paired : ℕ → Bool
  pub alike : AreAlikeStates there back paired one next'

pub regions_begun : (which : List ℕ) (parts : Parts) → IsGraph parts → MayLeave parts which → AreRegions parts.objects → (one : State) → IsState one → StandsFor (left which parts) one → IsBegunThere parts which one
regions_begun [] parts graph may all one is stands = record {
  state = one;
  next' = one;
  is = is;
  stands = stands;
  ends = record { memory = refl; registers = λ register. refl; variables = λ at. refl; ports = refl; roots = refl };
  there = λ number. number;
  back = λ number. number;
  paired = λ number. nat_lt number (length one.memory);
  alike = state_alike_itself one is;
}
regions_begun (variable ∷ rest) parts graph may all one is stands =
    let now_regions = middle_regions variable rest parts graph may all in
    let now_graph = middle_graph variable rest parts graph may in
    let later = regions_begun rest (without_one variable parts) now_graph (rest_may variable rest parts graph may) now_regions one is stands in
    let store = stored variable rest parts graph may in
    let first = begun_one variable store.key store.object parts graph store.named store.stands later.state later.is
    (room_base (without_one variable parts) now_graph now_regions later.state later.stands.given later.is later.stands.meets)
    (regions_have_room (without_one variable parts) now_graph now_regions later.state later.stands.given later.is later.stands.meets)
    (subst (λ (p : Parts). StandsFor p later.state) (middle_is variable rest parts graph may) later.stands) in
    let again = all_alike same_number same_number (below (length later.state.memory)) rest later.state first.next' later.next' first.alike later.ends in record {
      state = first.state;
      next' = again.next';
      is = first.is;
      stands = first.stands_for;
      ends = (first.next', first.ends, again.steps);
      there = λ number. later.there number;
      back = λ number. later.back number;
      paired = λ number. later.paired number && nat_lt (later.there number) (length later.state.memory);
      alike = states_behind later.there later.back same_number same_number later.paired (below (length later.state.memory)) one later.next' again.next' later.alike again.alike;
    }

module _ (which : List ℕ) (parts : Parts) (graph : IsGraph parts) (may : MayLeave parts which) (all : AreRegions parts.objects) where
  regions_exact : (leave_post parts which).loss ≡ None → (next : State) → IsState next → SomeStandsFor (leave_post parts which).graphs next → FollowsAlike parts (LeavesScope which) next
  regions_exact loss next is some =
      let exact = looked_exact (left which parts) (behind_graph which parts graph may) loss next some in
      let begun = regions_begun which parts graph may all next is exact.stands in
      let begun_behind = behind_stands which parts graph may begun.state begun.next' begun.stands begun.ends in record {
        state = begun.state;
        next' = begun.next';
        is = begun.is;
        stands = begun.stands;
        steps = record {
          ends = begun.ends;
          none = none_lost (left which parts) (behind_graph which parts graph may) exact.none begun.next' begun_behind.given (all_state which begun.state begun.next' begun.is begun.ends) begun_behind.meets;
        };
        there = begun.there;
        back = begun.back;
        paired = begun.paired;
        alike = begun.alike;
      }

pub leave_regions : (which : List ℕ) (parts : Parts) (post : Post) → IsGraph parts → MayLeave parts which → IsPost (leave_post parts which) post → IsExactOfRegions parts (LeavesScope which) post
leave_regions which parts post graph may is = record {
  exact = λ none all after next among is_state stands.
      regions_exact which parts graph may all (sym is.loss ∙ none) next is_state (subst (λ (graphs : List Parts). SomeStandsFor graphs next) is.graphs (record { graph = after; among = among; stands = stands }));
}
