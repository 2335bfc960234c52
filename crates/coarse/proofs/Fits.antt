-- What is left fits as before.
use Rattle.std.proofs.Common.{◌≡◌, ℕ, List, [], ◌∷◌, map, Option, None, Some, refl, ◌∙◌, ap}
use Rattle.std.specs.Prelude.{option_map}
use Rattle.std.specs.Option.{option_and_then}
use Rattle.graph.specs.declared.value.Value.{Value}
use Rattle.graph.specs.declared.parts.Parts.{Parts}
use Rattle.graph.specs.Maps.{value_at, held_by}
use Rattle.graph.specs.Sizes.{value_size}
use Rattle.tidying.specs.Fits.{size_at, FitsAs}
use Rattle.coarse.specs.Coarsened.{coarsened_value, coarsened}
use Rattle.coarse.proofs.Left.{value_left, size_left}

module _ (limit : ℕ) (parts : Parts) where
  size_at_left : (key : ℕ) → size_at (coarsened limit parts) key ≡ size_at parts key
  size_at_left key = ap (option_map value_size) (value_left limit parts key) ∙ by_found (value_at parts.values key)
    where
      by_found : (found : Option Value) → option_map value_size (option_map (coarsened_value limit parts key) found) ≡ option_map value_size found
      by_found None = refl
      by_found (Some value) = ap Some (size_left limit parts key value)

  held_left : (found : Option ℕ) → option_and_then (size_at (coarsened limit parts)) found ≡ option_and_then (size_at parts) found
  held_left None = refl
  held_left (Some key) = size_at_left key

  ports_left : (ports : List ℕ) → map (size_at (coarsened limit parts)) ports ≡ map (size_at parts) ports
  ports_left [] = refl
  ports_left (port ∷ rest) = ap (λ (s : Option ℕ). s ∷ map (size_at (coarsened limit parts)) rest) (size_at_left port) ∙ ap (λ (ss : List (Option ℕ)). size_at parts port ∷ ss) (ports_left rest)

  pub fits_left : FitsAs parts (coarsened limit parts)
  fits_left = record {
    variables = λ variable. refl;
    registers = λ register. held_left (held_by parts.registers register);
    ports = ports_left parts.ports;
    without_ports = λ none. none;
    regions = λ regions. regions;
  }
