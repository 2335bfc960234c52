-- What stands at the keys of a graph with another object.
use Rattle.std.proofs.Common.{◌≡◌, ◌≢◌, ℕ, Bool, true, false, List, [], ◌∷◌, map, nat_eq, Option, Some, refl, sym, ◌∙◌, ap, eqb-true}
use Rattle.std.specs.Prelude.{IsSome, if◌then◌else◌}
use Rattle.std.proofs.lemmas.Bool.{false≢true}
use Rattle.graph.specs.declared.object.Object.{Object}
use Rattle.graph.specs.declared.parts.KeyedObject.{KeyedObject}
use Rattle.graph.specs.declared.parts.Parts.{Parts}
use Rattle.graph.specs.Maps.{object_at}
use Rattle.graph.specs.Meaning.{ends_in, ends_of, maps_of}
use Rattle.graph.proofs.Found.{IsSome-holds}
use Rattle.changes.specs.Parts.{replaced, with_object}
use Rattle.changes.proofs.Change.{AgreeBut}

pub eqb-miss : (one other : ℕ) → one ≢ other → nat_eq one other ≡ false
eqb-miss one other differ = by_test (nat_eq one other) refl
  where
    by_test : (b : Bool) → nat_eq one other ≡ b → nat_eq one other ≡ false
    by_test true is = absurd (differ (eqb-true _ _ is))
    by_test false is = is

pub replaced-other : (key : ℕ) (object : Object) (entries : List KeyedObject) (at : ℕ) → at ≢ key → object_at (map (replaced key object) entries) at ≡ object_at entries at
replaced-other key object [] at differ = refl
replaced-other key object (first ∷ rest) at differ = by_test (nat_eq first.key at) refl (replaced-other key object rest at differ)
  where
    by_test : (b : Bool) → nat_eq first.key at ≡ b → object_at (map (replaced key object) rest) at ≡ object_at rest at →
        (if b then Some (if nat_eq first.key key then object else first.object) else object_at (map (replaced key object) rest) at) ≡ (if b then Some first.object else object_at rest at)
    by_test true is later = ap (λ (b : Bool). Some (if b then object else first.object)) (eqb-miss first.key key (λ same. differ (sym (eqb-true _ _ is) ∙ same)))
    by_test false is later = later

pub replaced-here : (key : ℕ) (object : Object) (entries : List KeyedObject) → IsSome (object_at entries key) → object_at (map (replaced key object) entries) key ≡ Some object
replaced-here key object [] some = absurd (false≢true some)
replaced-here key object (first ∷ rest) some = by_test (nat_eq first.key key) some (λ later. replaced-here key object rest later)
  where
    by_test : (b : Bool) → IsSome (if b then Some first.object else object_at rest key) → (IsSome (object_at rest key) → object_at (map (replaced key object) rest) key ≡ Some object) →
        (if b then Some (if b then object else first.object) else object_at (map (replaced key object) rest) key) ≡ Some object
    by_test true some later = refl
    by_test false some later = later some

-- an object of the same shape at the key of another one
pub with_object-agrees : (key : ℕ) (old object : Object) (parts : Parts) → object_at parts.objects key ≡ Some old → object.shape ≡ old.shape → AgreeBut key (maps_of parts) (maps_of (with_object key object parts))
with_object-agrees key old object parts stands shape = record {
  objects = λ at differ. replaced-other key object parts.objects at differ;
  here = IsSome-holds _ _ stands;
  here' = IsSome-holds _ _ now;
  ends = λ word.
      ap (λ (o : Option Object). ends_of (λ at. o) word key) now
      ∙ ap (λ s. ends_in s word) shape
      ∙ sym (ap (λ (o : Option Object). ends_of (λ at. o) word key) stands);
  values = λ at. refl;
  variables = λ at. refl;
  registers = λ at. refl;
  ports = refl;
  unequal = refl;
}
  where
    now : object_at (map (replaced key object) parts.objects) key ≡ Some object
    now = replaced-here key object parts.objects (IsSome-holds _ _ stands)
