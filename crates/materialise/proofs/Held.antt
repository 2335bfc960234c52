-- A graph without a segment names and holds what the graph did.
use Rattle.std.proofs.Common.{◌≡◌, ℕ, suc, List, [], ◌∷◌, map, Option, None, Some, refl, sym, ◌∙◌, ap, subst}
use Rattle.std.specs.Prelude.{slice_get, option_map, is_some, IsSome}
use Rattle.std.specs.Option.{option_and_then}
use Rattle.graph.specs.declared.value.Value.{Value}
use Rattle.graph.specs.declared.value.Value.TheVariants.{Const, Number, Any, Address}
use Rattle.graph.specs.declared.parts.Held.{Held}
use Rattle.graph.specs.declared.parts.Named.{Named}
use Rattle.graph.specs.declared.parts.Parts.{Parts}
use Rattle.graph.specs.Closed.{IsClosed}
use Rattle.graph.specs.Laws.{IsRenaming}
use Rattle.graph.specs.Maps.{value_at, storage_of, held_by}
use Rattle.graph.specs.Meaning.{maps_of}
use Rattle.graph.specs.Renaming.{numbered, renamed, renamed_value, object_place, value_place}
use Rattle.graph.specs.Sizes.{value_size}
use Rattle.graph.specs.Whole.{IsGraph}
use Rattle.graph.proofs.Closed.{closed_of}
use Rattle.graph.proofs.Found.{Holds-some, found-changed}
use Rattle.graph.proofs.Numbered.{IsRenaming-places, numbered-renamed}
use Rattle.graph.proofs.Sent.{value_sent}
use Rattle.materialise.specs.Dropped.{dropped}
use Rattle.materialise.specs.Kept.{size_at, HoldsAsBefore}
use Rattle.materialise.proofs.Case.{after, dropped_is, value_there}
use Rattle.materialise.proofs.Emptiable.{MayBeEmpty}
use Rattle.materialise.proofs.Emptied.{emptied, emptied_size}
use Rattle.materialise.proofs.Formed.{ascending_now}

size_renamed : (objects : ℕ → ℕ) (value : Value) → value_size (renamed_value objects value) ≡ value_size value
size_renamed objects (Const number size) = refl
size_renamed objects (Number size) = refl
size_renamed objects Any = refl
size_renamed objects (Address object offset target) = refl

some_map : {A B : Type 0} (f : A → B) (o : Option A) → is_some (option_map f o) ≡ is_some o
some_map f None = refl
some_map f (Some x) = refl

map_each : {A B C : Type 0} (f : A → B) (g : B → C) (h : A → C) (xs : List A) → ((place : ℕ) (x : A) → slice_get xs place ≡ Some x → g (f x) ≡ h x) → map g (map f xs) ≡ map h xs
map_each f g h [] same = refl
map_each {A} {B} {C} f g h (x ∷ xs) same =
    ap (λ (y : C). y ∷ map g (map f xs)) (same 0 x refl) ∙ ap (λ (ys : List C). h x ∷ ys) (map_each f g h xs (λ place y is. same (suc place) y is))

module _ (parts : Parts) (graph : IsGraph parts) (key : ℕ) (may : MayBeEmpty parts key) where
  abbrev left : Parts
  left = after parts graph.well_formed key may

  abbrev of_objects : ℕ → ℕ
  of_objects = object_place left

  abbrev of_values : ℕ → ℕ
  of_values = value_place left

  abbrev behind : Parts
  behind = renamed of_objects of_values left

  renaming : IsRenaming of_objects of_values left
  renaming = IsRenaming-places left

  closed : IsClosed (maps_of parts)
  closed = closed_of parts graph.well_formed

  size_sent : (at : ℕ) → IsSome (value_at parts.values at) → size_at behind (of_values at) ≡ size_at parts at
  size_sent at some =
      let held = Holds-some (value_at parts.values at) some in
      ap (option_map value_size)
      (value_sent of_objects of_values left renaming at (emptied parts graph.well_formed key may held.item) (value_there parts graph.well_formed key may at ∙ ap (option_map (emptied parts graph.well_formed key may)) held.is))
      ∙ ap Some (size_renamed of_objects (emptied parts graph.well_formed key may held.item) ∙ emptied_size parts graph.well_formed key may held.item)
      ∙ sym (ap (option_map value_size) held.is)

  by_held : (register : ℕ) (found : Option ℕ) → held_by parts.registers register ≡ found → option_and_then (size_at behind) (option_map of_values found) ≡ option_and_then (size_at parts) found
  by_held register None is = refl
  by_held register (Some at) is = size_sent at (closed.registers register at is)

  holds : HoldsAsBefore parts behind
  holds = record {
    variables = λ variable.
        ap is_some (found-changed (λ (named : Named). named.variable) (λ named. named.object) (λ (named : Named). named.variable) (λ named. named.object)
        (λ named. record { variable = named.variable; object = of_objects named.object }) of_objects (λ _. refl) (λ _. refl) parts.variables variable)
        ∙ some_map of_objects (storage_of parts.variables variable);
    registers = λ register.
        ap (option_and_then (size_at behind)) (found-changed (λ (held : Held). held.register) (λ held. held.value) (λ (held : Held). held.register) (λ held. held.value)
        (λ held. record { register = held.register; value = of_values held.value }) of_values (λ _. refl) (λ _. refl) parts.registers register)
        ∙ by_held register (held_by parts.registers register) refl;
    ports = map_each of_values (size_at behind) (size_at parts) parts.ports (λ place port is. size_sent port (closed.ports place port is));
  }

  pub dropped_holds : HoldsAsBefore parts (numbered (dropped key parts))
  dropped_holds = subst (λ (p : Parts). HoldsAsBefore parts p) (sym (ap numbered (dropped_is parts graph.well_formed key may) ∙ numbered-renamed left (ascending_now parts graph key may))) holds
