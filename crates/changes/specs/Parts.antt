-- Changes of a graph's parts, each of one of them.
use Rattle.std.specs.Prelude.{ℕ, Bool, false, ◌||◌, not, List, [], ◌∷◌, ◌++◌, map, length, nat_eq, nat_lt, Option, None, Some, if◌then◌else◌}
use Rattle.std.specs.List.{filter}
use Rattle.graph.specs.declared.object.Object.{Object}
use Rattle.graph.specs.declared.value.Value.{Value}
use Rattle.graph.specs.declared.parts.KeyedObject.{KeyedObject}
use Rattle.graph.specs.declared.parts.Parts.{Parts}

-- another object at a key
abbrev pub replaced : ℕ → Object → KeyedObject → KeyedObject
replaced key object entry = record { key = entry.key; object = if nat_eq entry.key key then object else entry.object }

abbrev pub with_object : ℕ → Object → Parts → Parts
with_object key object parts = record parts { objects = map (replaced key object) parts.objects }

-- an object more, or a value, behind all others: its key is how many there were
abbrev pub with_object_more : Object → Parts → Parts
with_object_more object parts = record parts { objects = parts.objects ++ record { key = length parts.objects; object = object } ∷ [] }

abbrev pub with_value : Value → Parts → Parts
with_value value parts = record parts { values = parts.values ++ record { key = length parts.values; value = value } ∷ [] }

-- a register is among these
abbrev pub is_among : List ℕ → ℕ → Bool
is_among [] register = false
is_among (first ∷ rest) register = nat_eq first register || is_among rest register

-- what registers hold where these hold nothing
abbrev pub emptied : {A : Type 0} → List ℕ → (ℕ → Option A) → ℕ → Option A
emptied gone registers register = if is_among gone register then None else registers register

-- what registers hold where one holds something else
abbrev pub put : {A : Type 0} → ℕ → A → (ℕ → Option A) → ℕ → Option A
put into item registers register = if nat_eq register into then Some item else registers register

-- a graph whose registers, but for these, hold what they held
abbrev pub without_registers : List ℕ → Parts → Parts
without_registers gone parts = record parts { registers = filter (λ held. not (is_among gone held.register)) parts.registers }

-- a graph of which one register holds the value with a key, and the others what they held
abbrev pub with_register : ℕ → ℕ → Parts → Parts
with_register into key parts = record parts {
  registers = filter (λ held. nat_lt held.register into) parts.registers ++ record { register = into; value = key } ∷ filter (λ held. nat_lt into held.register) parts.registers;
}
