-- Each example is computed.
use Rattle.std.proofs.Common.{◌≡◌, ℕ, true, false, Option, Some, refl, subst}
use Rattle.std.specs.Option.{option_map_or}
use Rattle.std.proofs.lemmas.Bool.{false≢true}
use Rattle.graph.specs.declared.object.Links.{Links}
use Rattle.graph.specs.declared.object.Object.{Object}
use Rattle.graph.specs.declared.parts.KeyedObject.{KeyedObject}
use Rattle.graph.specs.Maps.{object_at}
use Rattle.graph.specs.Nodes.{links_in}
use Rattle.graph.specs.WellFormed.{ComesToAnEnd, IsWellFormed}
use Rattle.graph.proofs.Found.{found-all}
use Rattle.graph.proofs.AllPlaced.{HasPlaces-entries}
use Rattle.graph.proofs.Numbered.{ascending_from}
use Rattle.block_steps.specs.ReleaseExamples.{contents, example, AreReleases}

-- no object is a segment
no_links : (links : Option Links) (found : Links) → option_map_or (λ (links : Links). false) links true ≡ true → links ≡ Some found → ⊥
no_links links found none is = false≢true (subst (λ (o : Option Links). option_map_or (λ (links : Links). false) o true ≡ true) is none)

no_segment : (key : ℕ) (object : Object) (links : Links) → object_at example.objects key ≡ Some object → links_in object.shape ≡ Some links → ⊥
no_segment key object links stands is =
    no_links (links_in object.shape) links
    (found-all (λ (entry : KeyedObject). entry.key) (λ entry. entry.object) (λ object. option_map_or (λ (links : Links). false) (links_in object.shape) true) example.objects key object refl stands) is

ends : ComesToAnEnd example
ends = record {
  ranks = record { first = λ key. 0; last = λ key. 0 };
  next = λ key object links stands is none. absurd (no_segment key object links stands is);
  prev = λ key object links stands is none. absurd (no_segment key object links stands is);
}

well_formed : IsWellFormed example
well_formed = record {
  edges_hold_values = refl;
  edges_are_at_home = refl;
  registers_hold_values = refl;
  ports_are_values = refl;
  addresses_lead_to_objects = refl;
  variables_have_storage = refl;
  storage_is_distinct = refl;
  variables_ascend = refl;
  registers_ascend = refl;
  objects_are_small = refl;
  planes_are_as_long = refl;
  dead_objects_are_bare = refl;
  segments_are_allocated = refl;
  edges_lie_inside = refl;
  edges_are_in_order = refl;
  edges_have_their_sizes = refl;
  edges_have_their_classes = refl;
  edges_are_not_zero = refl;
  links_lie_inside = refl;
  links_are_in_order = refl;
  links_have_no_edge = refl;
  links_may_be_pointers = refl;
  links_lead_on = refl;
  links_back_fit = refl;
  comes_to_an_end = ends;
  values_are_sized = refl;
  pairs_may_be_unequal = refl;
  pairs_are_different = refl;
}

pub are_releases : AreReleases
are_releases = record {
  graph = record { well_formed = well_formed; within_limits = refl; ascending = ascending_from contents; keys = HasPlaces-entries contents };
  null = refl;
  plain = refl;
  live = refl;
  second_byte = refl;
  twice = refl;
  second_byte_twice = refl;
  local = refl;
  number = refl;
  not_null = refl;
  any = refl;
}
