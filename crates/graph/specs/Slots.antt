-- What a slab holds at a list of its keys.
use Rattle.std.specs.Prelude.{◌≢◌, ℕ, List, Option, None, IsSome, slice_index_or}
use Rattle.std.specs.List.{filter_map, All, AllPairs}

-- what the slots hold at a key
abbrev pub slot_at : {T : Type 0} → List (Option T) → ℕ → Option T
slot_at slots key = slice_index_or slots key None

-- what the slots hold at these keys, in the order of the keys
abbrev pub held_at : {T : Type 0} → List (Option T) → List ℕ → List T
held_at slots keys = filter_map (slot_at slots) keys

-- the slots hold something at each of these keys
abbrev pub AreHeld : {T : Type 0} → List (Option T) → List ℕ → Type 0
AreHeld slots keys = All (λ key. IsSome (slot_at slots key)) keys

-- no key stands twice among them
abbrev pub AreApart : List ℕ → Type 0
AreApart keys = AllPairs (λ one other. one ≢ other) keys
