-- What stays fits as before.
use Rattle.std.proofs.Common.{◌≡◌, ℕ, suc, Bool, true, false, cond, List, [], ◌∷◌, map, Option, None, Some, refl, sym, ◌∙◌, ap, subst}
use Rattle.std.specs.Prelude.{slice_get, option_map, is_some, IsSome}
use Rattle.std.specs.List.{filter, list_all}
use Rattle.std.specs.Option.{option_and_then}
use Rattle.std.proofs.lemmas.List.Folds.{list_all-map}
use Rattle.graph.specs.declared.object.Shape.{Shape}
use Rattle.graph.specs.declared.object.Shape.TheVariants.{Region, Segment}
use Rattle.graph.specs.declared.value.Value.{Value}
use Rattle.graph.specs.declared.value.Value.TheVariants.{Const, Number, Any, Address}
use Rattle.graph.specs.declared.parts.Held.{Held}
use Rattle.graph.specs.declared.parts.KeyedObject.{KeyedObject}
use Rattle.graph.specs.declared.parts.KeyedValue.{KeyedValue}
use Rattle.graph.specs.declared.parts.Named.{Named}
use Rattle.graph.specs.declared.parts.Parts.{Parts}
use Rattle.graph.specs.Closed.{IsClosed}
use Rattle.graph.specs.Laws.{IsRenaming}
use Rattle.graph.specs.Maps.{value_at, storage_of, held_by}
use Rattle.graph.specs.Meaning.{maps_of}
use Rattle.graph.specs.Nodes.{is_region}
use Rattle.graph.specs.Renaming.{renamed, renamed_shape, renamed_object, renamed_value, object_place, value_place}
use Rattle.graph.specs.Sizes.{value_size}
use Rattle.graph.specs.Unheld.{with_only}
use Rattle.graph.specs.Whole.{IsGraph}
use Rattle.graph.proofs.Closed.{closed_of}
use Rattle.graph.proofs.Found.{Holds-some, found-changed}
use Rattle.graph.proofs.Numbered.{IsRenaming-places, numbered-renamed}
use Rattle.graph.proofs.Sent.{value_sent}
use Rattle.graph.proofs.Tests.{and_left, and_right, and_both}
use Rattle.graph.proofs.Unheld.{found_staying}
use Rattle.tidying.specs.Fits.{size_at, FitsAs}
use Rattle.tidying.specs.Held.{stays, object_stays}
use Rattle.tidying.specs.Tidied.{tidied}
use Rattle.tidying.proofs.Kept.{kept_ascending}
use Rattle.tidying.proofs.MayGo.{may_go}

size_renamed : (objects : ℕ → ℕ) (value : Value) → value_size (renamed_value objects value) ≡ value_size value
size_renamed objects (Const number size) = refl
size_renamed objects (Number size) = refl
size_renamed objects Any = refl
size_renamed objects (Address object offset target) = refl

region_renamed : (values : ℕ → ℕ) (shape : Shape) → is_region (renamed_shape values shape) ≡ is_region shape
region_renamed values Region = refl
region_renamed values (Segment twofold head next prev back least next_value prev_value node) = refl

some_map : {A B : Type 0} (f : A → B) (o : Option A) → is_some (option_map f o) ≡ is_some o
some_map f None = refl
some_map f (Some x) = refl

all_filter : {X : Type 0} (test stay : X → Bool) (xs : List X) → list_all test xs ≡ true → list_all test (filter stay xs) ≡ true
all_filter test stay [] all = refl
all_filter {X} test stay (x ∷ xs) all = by_stay (stay x) (all_filter test stay xs (and_right (test x) (list_all test xs) all))
  where
    by_stay : (b : Bool) → list_all test (filter stay xs) ≡ true → list_all test (cond b (x ∷ filter stay xs) (filter stay xs)) ≡ true
    by_stay true later = and_both (test x) (list_all test (filter stay xs)) (and_left (test x) (list_all test xs) all) later
    by_stay false later = later

all_agree : {X : Type 0} (test other : X → Bool) → ((x : X) → other x ≡ test x) → (xs : List X) → list_all test xs ≡ true → list_all other xs ≡ true
all_agree test other agree [] all = refl
all_agree test other agree (x ∷ xs) all =
    and_both (other x) (list_all other xs) (agree x ∙ and_left (test x) (list_all test xs) all) (all_agree test other agree xs (and_right (test x) (list_all test xs) all))

map_each : {A B C : Type 0} (f : A → B) (g : B → C) (h : A → C) (xs : List A) → ((place : ℕ) (x : A) → slice_get xs place ≡ Some x → g (f x) ≡ h x) → map g (map f xs) ≡ map h xs
map_each f g h [] same = refl
map_each {A} {B} {C} f g h (x ∷ xs) same =
    ap (λ (y : C). y ∷ map g (map f xs)) (same 0 x refl) ∙ ap (λ (ys : List C). h x ∷ ys) (map_each f g h xs (λ place y is. same (suc place) y is))

module _ (parts : Parts) (graph : IsGraph parts) where
  abbrev kept : Parts
  kept = with_only (stays parts) (object_stays parts) parts

  abbrev of_objects : ℕ → ℕ
  of_objects = object_place kept

  abbrev of_values : ℕ → ℕ
  of_values = value_place kept

  abbrev after : Parts
  after = renamed of_objects of_values kept

  pub tidied_is : tidied parts ≡ after
  tidied_is = numbered-renamed kept (kept_ascending parts graph)

  renaming : IsRenaming of_objects of_values kept
  renaming = IsRenaming-places kept

  closed : IsClosed (maps_of parts)
  closed = closed_of parts graph.well_formed

  pub value_kept : (key : ℕ) → stays parts key ≡ true → value_at kept.values key ≡ value_at parts.values key
  value_kept key stay = found_staying (λ (entry : KeyedValue). entry.key) (λ entry. entry.value) (stays parts) parts.values key stay

  size_sent : (key : ℕ) → stays parts key ≡ true → IsSome (value_at parts.values key) → size_at after (of_values key) ≡ size_at parts key
  size_sent key stay some =
      let held = Holds-some (value_at parts.values key) some in
      ap (option_map value_size) (value_sent of_objects of_values kept renaming key held.item (value_kept key stay ∙ held.is))
      ∙ ap Some (size_renamed of_objects held.item)
      ∙ sym (ap (option_map value_size) held.is)

  by_held : (register : ℕ) (found : Option ℕ) → held_by parts.registers register ≡ found → option_and_then (size_at after) (option_map of_values found) ≡ option_and_then (size_at parts) found
  by_held register None is = refl
  by_held register (Some key) is = size_sent key ((may_go parts graph.well_formed).registers register key is) (closed.registers register key is)

  fits : FitsAs parts after
  fits = record {
    variables = λ variable.
        ap is_some (found-changed (λ (named : Named). named.variable) (λ named. named.object) (λ (named : Named). named.variable) (λ named. named.object)
        (λ named. record { variable = named.variable; object = of_objects named.object }) of_objects (λ _. refl) (λ _. refl) parts.variables variable)
        ∙ some_map of_objects (storage_of parts.variables variable);
    registers = λ register.
        ap (option_and_then (size_at after)) (found-changed (λ (held : Held). held.register) (λ held. held.value) (λ (held : Held). held.register) (λ held. held.value)
        (λ held. record { register = held.register; value = of_values held.value }) of_values (λ _. refl) (λ _. refl) parts.registers register)
        ∙ by_held register (held_by parts.registers register) refl;
    ports = map_each of_values (size_at after) (size_at parts) parts.ports (λ place port is. size_sent port ((may_go parts graph.well_formed).ports place port is) (closed.ports place port is));
    without_ports = λ none. ap (map of_values) none;
    regions = λ all.
        list_all-map (λ (entry : KeyedObject). is_region entry.object.shape) (λ (entry : KeyedObject). record { key = of_objects entry.key; object = renamed_object of_values entry.object }) kept.objects
        ∙ all_agree (λ (entry : KeyedObject). is_region entry.object.shape) (λ (entry : KeyedObject). is_region (renamed_shape of_values entry.object.shape)) (λ entry. region_renamed of_values entry.object.shape) kept.objects
        (all_filter (λ (entry : KeyedObject). is_region entry.object.shape) (λ (entry : KeyedObject). object_stays parts entry.key) parts.objects all);
  }

  pub tidied_fits : FitsAs parts (tidied parts)
  tidied_fits = subst (λ (p : Parts). FitsAs parts p) (sym tidied_is) fits
