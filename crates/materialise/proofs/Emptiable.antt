-- A segment that may have no nodes.
use Rattle.std.proofs.Common.{◌≡◌, ℕ, true, false, nat_eq, Option, None, Some, refl, eqb-true}
use Rattle.std.specs.Option.{option_and_then, option_map_or}
use Rattle.std.proofs.lemmas.Bool.{false≢true}
use Rattle.graph.specs.declared.object.Links.{Links}
use Rattle.graph.specs.declared.object.Object.{Object}
use Rattle.graph.specs.declared.parts.Parts.{Parts}
use Rattle.graph.specs.Maps.{object_at}
use Rattle.graph.specs.Nodes.{links_in}
use Rattle.materialise.specs.Empty.{may_be_empty}

-- the segment and its links
pub record MayBeEmpty (parts : Parts) (key : ℕ) : Type 0 where
  pub object : Object
  pub links : Links
  pub stands : object_at parts.objects key ≡ Some object
  pub linked : links_in object.shape ≡ Some links
  pub least : links.least ≡ 0

pub may_be : (parts : Parts) (key : ℕ) → may_be_empty parts key ≡ true → MayBeEmpty parts key
may_be parts key is = by_object (object_at parts.objects key) refl is
  where
    by_links : (object : Object) → object_at parts.objects key ≡ Some object → (found : Option Links) → links_in object.shape ≡ found → option_map_or (λ (links : Links). nat_eq links.least 0) found false ≡ true → MayBeEmpty parts key
    by_links object stands None linked is = absurd (false≢true is)
    by_links object stands (Some links) linked is = record { object = object; links = links; stands = stands; linked = linked; least = eqb-true _ _ is }

    by_object : (found : Option Object) → object_at parts.objects key ≡ found → option_map_or (λ (links : Links). nat_eq links.least 0) (option_and_then (λ (object : Object). links_in object.shape) found) false ≡ true → MayBeEmpty parts key
    by_object None stands is = absurd (false≢true is)
    by_object (Some object) stands is = by_links object stands (links_in object.shape) refl is
