-- Objects stay where a graph changes: each has its size, and is a region where it was one.
use Rattle.std.proofs.Common.{◌≡◌, ℕ, Bool, true, false, List, [], ◌∷◌, map, length, nat_eq, Some, refl, sym, ◌∙◌, ap, eqb-true, eq-eqb}
use Rattle.std.specs.Prelude.{option_map}
use Rattle.std.specs.List.{list_all}
use Rattle.std.proofs.lemmas.Bool.{false≢true}
use Rattle.std.proofs.lemmas.Option.{same_Some}
use Rattle.graph.specs.declared.object.Object.{Object}
use Rattle.graph.specs.declared.object.Shape.{Shape}
use Rattle.graph.specs.declared.object.Shape.TheVariants.{Region as RegionShape, Segment}
use Rattle.graph.specs.declared.parts.KeyedObject.{KeyedObject}
use Rattle.graph.specs.declared.parts.Parts.{Parts}
use Rattle.graph.specs.Maps.{object_at}
use Rattle.graph.specs.Nodes.{is_region}
use Rattle.graph.specs.Sizes.{is_zero}
use Rattle.graph.specs.WellFormed.{passes_at}
use Rattle.graph.proofs.Found.{IsSome-holds, found-all}
use Rattle.graph.proofs.Tests.{and_left, and_right, and_both}
use Rattle.changes.specs.Merging.{merged, merged_object, merged_shape, merged_entry}
use Rattle.changes.specs.Parts.{with_object, with_object_more}
use Rattle.changes.proofs.Appended.{found_before}
use Rattle.changes.proofs.KeptForm.{all_replaced}
use Rattle.changes.proofs.MergedMeets.{objects_merged}
use Rattle.changes.proofs.Objects.{replaced-here, replaced-other}
use Rattle.changes.proofs.RangeForm.{all_append}

-- all objects are regions
abbrev pub are_regions : Parts → Bool
are_regions parts = list_all (λ entry. is_region entry.object.shape) parts.objects

-- the object with a key is there, of this size
pub record HasSize (parts : Parts) (key size : ℕ) : Type 0 where
  pub object : Object
  pub is : object_at parts.objects key ≡ Some object
  pub size_is : object.size ≡ size

pub record KeepsObjects (parts after : Parts) : Type 0 where
  pub regions : are_regions parts ≡ true → are_regions after ≡ true
  pub sizes : (key : ℕ) (object : Object) → object_at parts.objects key ≡ Some object → HasSize after key object.size

pub keeps_same : (parts after : Parts) → after.objects ≡ parts.objects → KeepsObjects parts after
keeps_same parts after same = record {
  regions = λ all. ap (list_all (λ (entry : KeyedObject). is_region entry.object.shape)) same ∙ all;
  sizes = λ key object stands. record { object = object; is = ap (λ (os : List KeyedObject). object_at os key) same ∙ stands; size_is = refl };
}

pub keeps_then : (parts middle after : Parts) → KeepsObjects parts middle → KeepsObjects middle after → KeepsObjects parts after
keeps_then parts middle after first then = record {
  regions = λ all. then.regions (first.regions all);
  sizes = λ key object stands.
      let found = first.sizes key object stands in
      let behind = then.sizes key found.object found.is in
      record { object = behind.object; is = behind.is; size_is = behind.size_is ∙ found.size_is };
}

-- another object at a key, of the same size and shape
pub keeps_object : (parts : Parts) (key : ℕ) (old new : Object) → object_at parts.objects key ≡ Some old → new.size ≡ old.size → new.shape ≡ old.shape → KeepsObjects parts (with_object key new parts)
keeps_object parts key old new stands size_same shape_same = record {
  regions = λ all. all_replaced (λ at object. is_region object.shape) key new parts.objects
      (ap is_region shape_same ∙ found-all (λ (entry : KeyedObject). entry.key) (λ entry. entry.object) (λ object. is_region object.shape) parts.objects key old all stands) all;
  sizes = λ at object there. by_key at object there (nat_eq at key) refl;
}
  where
    by_key : (at : ℕ) (object : Object) → object_at parts.objects at ≡ Some object → (b : Bool) → nat_eq at key ≡ b → HasSize (with_object key new parts) at object.size
    by_key at object there true is = record {
      object = new;
      is = ap (object_at (with_object key new parts).objects) (eqb-true _ _ is) ∙ replaced-here key new parts.objects (IsSome-holds _ _ stands);
      size_is = size_same ∙ ap (λ (o : Object). o.size) (same_Some _ _ (sym stands ∙ ap (object_at parts.objects) (sym (eqb-true _ _ is)) ∙ there));
    }
    by_key at object there false is = record { object = object; is = replaced-other key new parts.objects at (λ same. false≢true (sym is ∙ eq-eqb at key same)) ∙ there; size_is = refl }

-- a region more
pub keeps_more : (parts : Parts) (new : Object) → is_region new.shape ≡ true → KeepsObjects parts (with_object_more new parts)
keeps_more parts new region = record {
  regions = λ all. all_append (λ (entry : KeyedObject). is_region entry.object.shape) parts.objects (record { key = length parts.objects; object = new } ∷ []) all (and_both (is_region new.shape) true region refl);
  sizes = λ key object stands. record {
    object = object;
    is = found_before (λ (entry : KeyedObject). entry.key) (λ entry. entry.object) parts.objects (record { key = length parts.objects; object = new }) key (IsSome-holds _ _ stands) ∙ stands;
    size_is = refl;
  };
}

-- one value in place of another
pub keeps_merged : (kept gone : ℕ) (parts : Parts) → KeepsObjects parts (merged kept gone parts)
keeps_merged kept gone parts = record {
  regions = λ all. regions_merged parts.objects all;
  sizes = λ key object stands. record {
    object = merged_object zeros kept gone object;
    is = objects_merged zeros kept gone parts.objects key ∙ ap (option_map (merged_object zeros kept gone)) stands;
    size_is = refl;
  };
}
  where
    zeros : Bool
    zeros = passes_at parts is_zero kept

    region_merged : (shape : Shape) → is_region shape ≡ true → is_region (merged_shape zeros kept gone shape) ≡ true
    region_merged RegionShape region = refl
    region_merged (Segment twofold head next prev back least next_value prev_value node) region = region

    regions_merged : (entries : List KeyedObject) → list_all (λ (entry : KeyedObject). is_region entry.object.shape) entries ≡ true →
        list_all (λ (entry : KeyedObject). is_region entry.object.shape) (map (merged_entry zeros kept gone) entries) ≡ true
    regions_merged [] all = refl
    regions_merged (first ∷ rest) all =
        and_both (is_region (merged_shape zeros kept gone first.object.shape)) (list_all (λ (entry : KeyedObject). is_region entry.object.shape) (map (merged_entry zeros kept gone) rest))
        (region_merged first.object.shape (and_left (is_region first.object.shape) (list_all (λ (entry : KeyedObject). is_region entry.object.shape) rest) all))
        (regions_merged rest (and_right (is_region first.object.shape) (list_all (λ (entry : KeyedObject). is_region entry.object.shape) rest) all))
