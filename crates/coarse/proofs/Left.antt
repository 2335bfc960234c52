-- What is left of a value passes the tests that ask for no constant.
use Rattle.std.proofs.Common.{◌≡◌, ℕ, Bool, true, false, ◌&&◌, not, Option, None, Some, refl, ◌∙◌, ap}
use Rattle.std.specs.Prelude.{option_map, is_some, if◌then◌else◌}
use Rattle.std.specs.Option.{option_map_or}
use Rattle.graph.specs.declared.value.Value.{Value}
use Rattle.graph.specs.declared.value.Value.TheVariants.{Const, Number, Any, Address}
use Rattle.graph.specs.declared.parts.KeyedValue.{KeyedValue}
use Rattle.graph.specs.declared.parts.Parts.{Parts}
use Rattle.graph.specs.Maps.{value_at}
use Rattle.graph.specs.Sizes.{value_size}
use Rattle.graph.specs.WellFormed.{passes_at, has_value}
use Rattle.coarse.specs.Beyond.{is_beyond, forgotten}
use Rattle.coarse.specs.Spared.{is_spared}
use Rattle.coarse.specs.Coarsened.{is_to_go, coarsened_value, coarsened}
use Rattle.coarse.proofs.Entries.{found_by_key}

-- a number of a size passes a test where a constant of the size does
abbrev pub Forgets : (Value → Bool) → Type 0
Forgets test = (number size : ℕ) → test (Const number size) ≡ true → test (Number size) ≡ true

forgotten_passes : (test : Value → Bool) → Forgets test → (value : Value) → test value ≡ true → test (forgotten value) ≡ true
forgotten_passes test forgets (Const number size) passes = forgets number size passes
forgotten_passes test forgets (Number size) passes = passes
forgotten_passes test forgets Any passes = passes
forgotten_passes test forgets (Address object offset target) passes = passes

pub and_false : (b : Bool) → (b && false) ≡ false
and_false true = refl
and_false false = refl

module _ (limit : ℕ) (parts : Parts) where
  -- what holds of a value and of what is left of it when it goes
  pub either : (P : Value → Type 0) (key : ℕ) (value : Value) → P value → P (forgotten value) → P (coarsened_value limit parts key value)
  either P key value stays goes = elim (is_to_go limit parts key value) as (λ (b : Bool). P (if b then forgotten value else value)) [ true ↦ goes | false ↦ stays ]

  pub left_passes : (test : Value → Bool) → Forgets test → (key : ℕ) (value : Value) → test value ≡ true → test (coarsened_value limit parts key value) ≡ true
  left_passes test forgets key value passes = either (λ v. test v ≡ true) key value passes (forgotten_passes test forgets value passes)

  -- a value that is spared stays
  pub spared_stays : (key : ℕ) (value : Value) → is_spared parts key ≡ true → coarsened_value limit parts key value ≡ value
  spared_stays key value spared =
      ap (λ (b : Bool). if b then forgotten value else value) (ap (λ (b : Bool). is_beyond limit value && not b) spared ∙ and_false (is_beyond limit value))

  -- what is left at each key
  pub value_left : (key : ℕ) → value_at (coarsened limit parts).values key ≡ option_map (coarsened_value limit parts key) (value_at parts.values key)
  value_left key =
      found_by_key (λ (entry : KeyedValue). entry.key) (λ entry. entry.value) (λ entry. record { key = entry.key; value = coarsened_value limit parts entry.key entry.value })
      (coarsened_value limit parts) (λ entry. refl) (λ entry. refl) parts.values key

  pub passes_left : (test : Value → Bool) → Forgets test → (key : ℕ) → passes_at parts test key ≡ true → passes_at (coarsened limit parts) test key ≡ true
  passes_left test forgets key passes = ap (λ (o : Option Value). option_map_or test o false) (value_left key) ∙ by_found (value_at parts.values key) passes
    where
      by_found : (found : Option Value) → option_map_or test found false ≡ true → option_map_or test (option_map (coarsened_value limit parts key) found) false ≡ true
      by_found None passes = passes
      by_found (Some value) passes = left_passes test forgets key value passes

  pub passes_spared : (test : Value → Bool) (key : ℕ) → is_spared parts key ≡ true → passes_at parts test key ≡ true → passes_at (coarsened limit parts) test key ≡ true
  passes_spared test key spared passes = ap (λ (o : Option Value). option_map_or test o false) (value_left key) ∙ by_found (value_at parts.values key) passes
    where
      by_found : (found : Option Value) → option_map_or test found false ≡ true → option_map_or test (option_map (coarsened_value limit parts key) found) false ≡ true
      by_found None passes = passes
      by_found (Some value) passes = ap test (spared_stays key value spared) ∙ passes

  pub has_left : (key : ℕ) → has_value parts key ≡ true → has_value (coarsened limit parts) key ≡ true
  has_left key has = ap is_some (value_left key) ∙ by_found (value_at parts.values key) has
    where
      by_found : (found : Option Value) → is_some found ≡ true → is_some (option_map (coarsened_value limit parts key) found) ≡ true
      by_found None has = has
      by_found (Some value) has = refl

  forgotten_size : (value : Value) → value_size (forgotten value) ≡ value_size value
  forgotten_size (Const number size) = refl
  forgotten_size (Number size) = refl
  forgotten_size Any = refl
  forgotten_size (Address object offset target) = refl

  pub size_left : (key : ℕ) (value : Value) → value_size (coarsened_value limit parts key value) ≡ value_size value
  size_left key value = either (λ v. value_size v ≡ value_size value) key value refl (forgotten_size value)

-- what passes one test passes a weaker one
pub passes_weaker : (parts : Parts) (one other : Value → Bool) → ((value : Value) → one value ≡ true → other value ≡ true) → (key : ℕ) → passes_at parts one key ≡ true → passes_at parts other key ≡ true
passes_weaker parts one other implies key passes = by_found (value_at parts.values key) passes
  where
    by_found : (found : Option Value) → option_map_or one found false ≡ true → option_map_or other found false ≡ true
    by_found None passes = passes
    by_found (Some value) passes = implies value passes
