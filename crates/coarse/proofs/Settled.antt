-- What is left is coarse, and a coarse graph stays.
use Rattle.std.proofs.Common.{◌≡◌, ℕ, Bool, true, false, not, ◌&&◌, List, refl, sym, ◌∙◌, ap}
use Rattle.std.specs.Prelude.{slice_get, Some, if◌then◌else◌}
use Rattle.std.specs.List.{list_any}
use Rattle.std.proofs.lemmas.Bool.{false≢true}
use Rattle.std.proofs.lemmas.Map.Keys.{any_passes_from_place}
use Rattle.graph.specs.declared.value.Value.{Value}
use Rattle.graph.specs.declared.value.Value.TheVariants.{Const, Number, Any, Address}
use Rattle.graph.specs.declared.parts.KeyedValue.{KeyedValue}
use Rattle.graph.specs.declared.parts.Parts.{Parts}
use Rattle.coarse.specs.Beyond.{is_beyond, forgotten}
use Rattle.coarse.specs.Spared.{is_spared}
use Rattle.coarse.specs.Coarsened.{is_to_go, coarsened_value, coarsened, is_coarse}
use Rattle.coarse.proofs.Entries.{map_own, any_map, any_none}

module _ (limit : ℕ) (parts : Parts) where
  -- what is left of a value does not go any more
  forgotten_is_none : (value : Value) → is_beyond limit (forgotten value) ≡ false
  forgotten_is_none (Const number size) = refl
  forgotten_is_none (Number size) = refl
  forgotten_is_none Any = refl
  forgotten_is_none (Address object offset target) = refl

  left_stays : (key : ℕ) (value : Value) → is_to_go limit parts key (coarsened_value limit parts key value) ≡ false
  left_stays key value = by_test (is_to_go limit parts key value) refl
    where
      by_test : (goes : Bool) → is_to_go limit parts key value ≡ goes → is_to_go limit parts key (if goes then forgotten value else value) ≡ false
      by_test true is = ap (λ (b : Bool). b && not (is_spared parts key)) (forgotten_is_none value)
      by_test false is = is

  pub settled : is_coarse limit (coarsened limit parts) ≡ true
  settled =
      ap not
      (any_map (λ (entry : KeyedValue). is_to_go limit parts entry.key entry.value) (λ (entry : KeyedValue). (let e : KeyedValue = record { key = entry.key; value = coarsened_value limit parts entry.key entry.value } in e)) parts.values
      ∙ any_none (λ (entry : KeyedValue). is_to_go limit parts entry.key (coarsened_value limit parts entry.key entry.value)) parts.values (λ entry. left_stays entry.key entry.value))

  not_true : (b : Bool) → not b ≡ true → b ≡ false
  not_true false is = refl
  not_true true is = absurd (false≢true is)

  pub coarse_stays : is_coarse limit parts ≡ true → coarsened limit parts ≡ parts
  coarse_stays coarse =
      ap (λ (values : List KeyedValue). record parts { values = values })
      (map_own (λ (entry : KeyedValue). (let e : KeyedValue = record { key = entry.key; value = coarsened_value limit parts entry.key entry.value } in e)) parts.values same)
    where
      none : list_any (λ (entry : KeyedValue). is_to_go limit parts entry.key entry.value) parts.values ≡ false
      none = not_true (list_any (λ (entry : KeyedValue). is_to_go limit parts entry.key entry.value) parts.values) coarse

      same : (place : ℕ) (entry : KeyedValue) → slice_get parts.values place ≡ Some entry → (let e : KeyedValue = record { key = entry.key; value = coarsened_value limit parts entry.key entry.value } in e) ≡ entry
      same place entry is = ap (λ (value : Value). (let e : KeyedValue = record { key = entry.key; value = value } in e)) (by_test (is_to_go limit parts entry.key entry.value) refl)
        where
          by_test : (goes : Bool) → is_to_go limit parts entry.key entry.value ≡ goes → (if goes then forgotten entry.value else entry.value) ≡ entry.value
          by_test true goes = absurd (false≢true (sym none ∙ any_passes_from_place (λ (entry : KeyedValue). is_to_go limit parts entry.key entry.value) parts.values place entry is goes))
          by_test false goes = refl
