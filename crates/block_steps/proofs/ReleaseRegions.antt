-- A release in a graph of regions is exact in each state: behind it there is room for the block that died.
use Rattle.std.proofs.Common.{◌≡◌, ℕ, true, List, [], ◌∷◌, sym, ◌∙◌, ap, subst, Some}
use Rattle.std.specs.Prelude.{Contains}
use Rattle.bytes_core.specs.Release.{is_heap}
use Rattle.graph.specs.declared.object.Object.{Object}
use Rattle.graph.specs.declared.object.Shape.TheVariants.{Region as RegionShape}
use Rattle.graph.specs.declared.parts.Parts.{Parts}
use Rattle.graph.specs.declared.post.Post.{Post}
use Rattle.graph.specs.Maps.{object_at}
use Rattle.graph.specs.Meaning.{StandsFor}
use Rattle.graph.specs.Nodes.{is_region}
use Rattle.graph.specs.State.{State, IsState}
use Rattle.graph.specs.Whole.{IsGraph}
use Rattle.changes.specs.Dying.{died}
use Rattle.changes.specs.Parts.{with_object, without_registers}
use Rattle.changes.specs.Posted.{IsPost}
use Rattle.changes.specs.Reaching.{is_address_held}
use Rattle.changes.proofs.Died.{graph_died}
use Rattle.changes.proofs.RegisterForm.{graph_without}
use Rattle.heap_steps.specs.Regions.{AreRegions, IsExactOfRegions}
use Rattle.heap_steps.proofs.LeftRegions.{replaced_regions}
use Rattle.heap_steps.proofs.RegionRoom.{room_base, regions_have_room}
use Rattle.block_steps.specs.Releasing.{Releases, release_post}
use Rattle.block_steps.proofs.ReleaseExact.{IsPlaceFound, release_exact}

module _ (parts : Parts) (graph : IsGraph parts) (at : ℕ) (all : AreRegions parts.objects) where
  place_behind : (next : State) → IsState next → (key : ℕ) (object : Object) → object_at parts.objects key ≡ Some object → object.shape ≡ RegionShape → object.live ≡ true → is_heap object.kind ≡ true →
      StandsFor (without_registers (at ∷ []) (with_object key (died object) parts)) next → IsPlaceFound next.memory
  place_behind next is key object there region live heap stands = record {
    base = room_base (without_registers (at ∷ []) (with_object key (died object) parts)) behind_graph behind_regions next stands.given is stands.meets;
    place = regions_have_room (without_registers (at ∷ []) (with_object key (died object) parts)) behind_graph behind_regions next stands.given is stands.meets;
  }
    where
      behind_graph : IsGraph (without_registers (at ∷ []) (with_object key (died object) parts))
      behind_graph = graph_without (at ∷ []) (with_object key (died object) parts) (graph_died parts key object graph there region live heap)

      behind_regions : AreRegions (without_registers (at ∷ []) (with_object key (died object) parts)).objects
      behind_regions = replaced_regions key (died object) (ap is_region region) parts.objects all

pub release_regions : (parts : Parts) (at : ℕ) (given : Post) → IsGraph parts → is_address_held parts at ≡ true → IsPost (release_post parts at) given → IsExactOfRegions parts (Releases at) given
release_regions parts at given graph address is = record {
  exact = λ none all after next among is_state stands.
      release_exact parts graph at address after next (sym is.loss ∙ none) (subst (λ (graphs : List Parts). Contains graphs after) is.graphs among) is_state stands (place_behind parts graph at all next is_state);
}
