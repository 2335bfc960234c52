-- What stands at a key stands, with keys sent on, at the key that this one is sent to.
use Rattle.std.proofs.Common.{◌≡◌, ℕ, Bool, true, false, Option, None, Some, refl}
use Rattle.std.specs.Prelude.{IsSome}
use Rattle.std.specs.Option.{option_map_or}
use Rattle.std.proofs.lemmas.Bool.{false≢true}
use Rattle.graph.specs.declared.object.Object.{Object}
use Rattle.graph.specs.declared.value.Value.{Value}
use Rattle.graph.specs.declared.parts.KeyedObject.{KeyedObject}
use Rattle.graph.specs.declared.parts.KeyedValue.{KeyedValue}
use Rattle.graph.specs.declared.parts.Parts.{Parts}
use Rattle.graph.specs.Maps.{object_at, value_at}
use Rattle.graph.specs.Renaming.{renamed, renamed_object, renamed_value}
use Rattle.graph.specs.Laws.{IsRenaming}
use Rattle.graph.proofs.Found.{found-renamed, back_in, back_in-there, back_in-same}

pub passes-some : {A : Type 0} (test : A → Bool) (o : Option A) → option_map_or test o false ≡ true → IsSome o
passes-some test None passes = absurd (false≢true passes)
passes-some test (Some x) passes = refl

module _ (of_objects of_values : ℕ → ℕ) (parts : Parts) (renaming : IsRenaming of_objects of_values parts) where
  abbrev other : Parts
  other = renamed of_objects of_values parts

  pub object_sent : (key : ℕ) (object : Object) → object_at parts.objects key ≡ Some object → object_at other.objects (of_objects key) ≡ Some (renamed_object of_values object)
  object_sent key object stands =
      found-renamed (λ (entry : KeyedObject). entry.key) (λ entry. entry.object) (λ (entry : KeyedObject). entry.key) (λ entry. entry.object)
      (λ entry. record { key = of_objects entry.key; object = renamed_object of_values entry.object }) of_objects (renamed_object of_values) (λ _. refl) (λ _. refl)
      parts.objects key object renaming.objects stands

  pub value_sent : (key : ℕ) (value : Value) → value_at parts.values key ≡ Some value → value_at other.values (of_values key) ≡ Some (renamed_value of_objects value)
  value_sent key value stands =
      found-renamed (λ (entry : KeyedValue). entry.key) (λ entry. entry.value) (λ (entry : KeyedValue). entry.key) (λ entry. entry.value)
      (λ entry. record { key = of_values entry.key; value = renamed_value of_objects entry.value }) of_values (renamed_value of_objects) (λ _. refl) (λ _. refl)
      parts.values key value renaming.values stands

  -- the old keys of new ones
  abbrev pub old_object : ℕ → ℕ
  old_object key = back_in (λ (entry : KeyedObject). entry.key) (λ entry. entry.object) of_objects parts.objects key

  pub object_back : (key : ℕ) → IsSome (object_at other.objects key) → IsSome (object_at parts.objects (old_object key)) × (of_objects (old_object key) ≡ key)
  object_back key some =
      back_in-there (λ (entry : KeyedObject). entry.key) (λ entry. entry.object) (λ (entry : KeyedObject). entry.key) (λ entry. entry.object)
      (λ entry. record { key = of_objects entry.key; object = renamed_object of_values entry.object }) of_objects (renamed_object of_values) (λ _. refl) (λ _. refl)
      parts.objects key some

  pub object_same : (key : ℕ) → IsSome (object_at parts.objects key) → old_object (of_objects key) ≡ key
  object_same key some =
      back_in-same (λ (entry : KeyedObject). entry.key) (λ entry. entry.object) (λ (entry : KeyedObject). entry.key) (λ entry. entry.object)
      (λ entry. record { key = of_objects entry.key; object = renamed_object of_values entry.object }) of_objects (renamed_object of_values) (λ _. refl) (λ _. refl)
      parts.objects key renaming.objects some
