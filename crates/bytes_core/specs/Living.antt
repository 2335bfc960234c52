-- Which blocks of a memory live, as a list of their numbers. So what goes over the live blocks goes over no dead one.
use Rattle.std.specs.Prelude.{◌≡◌, ℕ, Bool, true, false, List, [], ◌∷◌, ◌++◌, length, map, nat_eq, slice_get, Option, None, Some, if◌then◌else◌}
use Rattle.std.specs.Option.{option_to_list}
use Rattle.bytes_core.specs.declared.block.Block.{Block}
use Rattle.bytes_core.specs.Placement.{are_compatible}

-- for each block whether it lives
abbrev pub lives : List Block → List Bool
lives memory = map (λ block. block.live) memory

-- the numbers are those of the live blocks, in any order, each once; and for each block there is a number, by which
-- a live one stands among them
pub record AreLive (alive : List Bool) (numbers places : List ℕ) : Type 0 where
  pub size : length places ≡ length alive
  pub listed : (number : ℕ) → slice_get alive number ≡ Some true → (place : ℕ) × (slice_get places number ≡ Some place) × (slice_get numbers place ≡ Some number)
  pub alone : (place number : ℕ) → slice_get numbers place ≡ Some number → (slice_get alive number ≡ Some true) × (slice_get places number ≡ Some place)

-- whether this number stands at a place
abbrev pub stands_there : Option ℕ → ℕ → Bool
stands_there None number = false
stands_there (Some found) number = nat_eq found number

-- a place, if this number stands there
abbrev pub own_place : List ℕ → ℕ → Option ℕ → Option ℕ
own_place numbers number None = None
own_place numbers number (Some place) = if stands_there (slice_get numbers place) number then Some place else None

-- the place of a block among the live ones, if it lives
abbrev pub place_of : List ℕ → List ℕ → ℕ → Option ℕ
place_of numbers places number = own_place numbers number (slice_get places number)

-- the places of those of some blocks that live
abbrev pub places_of : List ℕ → List ℕ → List ℕ → List ℕ
places_of numbers places [] = []
places_of numbers places (number ∷ rest) = option_to_list (place_of numbers places number) ++ places_of numbers places rest

-- whether a block may stand in one memory with another, if there is one
abbrev pub fits_there : Block → Option Block → Bool
fits_there block None = true
fits_there block (Some other) = are_compatible block other
