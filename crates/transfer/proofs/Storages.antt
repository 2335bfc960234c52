-- The storage of each variable that a graph names is a live object; it keeps its size where objects do.
use Rattle.std.proofs.Common.{◌≡◌, ℕ, true, false, not, Option, Some, sym, ◌∙◌, ap, subst}
use Rattle.std.specs.Option.{option_map_or}
use Rattle.std.proofs.lemmas.Option.{same_Some}
use Rattle.bytes_core.specs.Release.{is_heap}
use Rattle.graph.specs.declared.object.Object.{Object}
use Rattle.graph.specs.declared.parts.Named.{Named}
use Rattle.graph.specs.declared.parts.Parts.{Parts}
use Rattle.graph.specs.Maps.{object_at, storage_of}
use Rattle.graph.specs.WellFormed.{is_storage}
use Rattle.graph.specs.Whole.{IsGraph}
use Rattle.graph.proofs.Found.{Holds-some, found-all}
use Rattle.graph.proofs.Sent.{passes-some}
use Rattle.graph.proofs.Tests.{and_left}
use Rattle.flow.specs.declared.flow_graph.Flow.{Flow}
use Rattle.transfer.specs.Fitting.{HasStorages}
use Rattle.transfer.proofs.KeptObjects.{KeepsObjects}

pub record IsLiveAt (parts : Parts) (key : ℕ) : Type 0 where
  pub object : Object
  pub is : object_at parts.objects key ≡ Some object
  pub live : object.live ≡ true

pub storage_there : (parts : Parts) (variable key : ℕ) → IsGraph parts → storage_of parts.variables variable ≡ Some key → IsLiveAt parts key
storage_there parts variable key graph stored =
    let passes = found-all (λ (named : Named). named.variable) (λ named. named.object) (λ at. option_map_or is_storage (object_at parts.objects at) false) parts.variables variable key graph.well_formed.variables_have_storage stored in
    let found = Holds-some (object_at parts.objects key) (passes-some is_storage (object_at parts.objects key) passes) in
    record {
      object = found.item;
      is = found.is;
      live = and_left found.item.live (not (is_heap found.item.kind)) (subst (λ (o : Option Object). option_map_or is_storage o false ≡ true) found.is passes);
    }

-- where variables have the same storage
pub storages_kept : (flow : Flow) (parts after : Parts) → IsGraph parts → KeepsObjects parts after → ((variable : ℕ) → storage_of after.variables variable ≡ storage_of parts.variables variable) → HasStorages flow parts → HasStorages flow after
storages_kept flow parts after graph keeps same has = record {
  sizes = λ variable key object stored there.
      let was_stored = sym (same variable) ∙ stored in
      let was = storage_there parts variable key graph was_stored in
      let now = keeps.sizes key was.object was.is in
      ap (λ (o : Object). o.size) (same_Some _ _ (sym there ∙ now.is)) ∙ now.size_is ∙ has.sizes variable key was.object was_stored was.is;
}
