-- The parts of a graph seen as finite maps: what stands at a key, if anything does.
--
-- The first entry counts; in the parts of a graph no key stands twice.
use Rattle.std.specs.Prelude.{ℕ, List, [], ◌∷◌, Option, None, Some, nat_eq, if◌then◌else◌}
use Rattle.graph.specs.declared.object.Object.{Object}
use Rattle.graph.specs.declared.value.Value.{Value}
use Rattle.graph.specs.declared.parts.KeyedObject.{KeyedObject}
use Rattle.graph.specs.declared.parts.KeyedValue.{KeyedValue}
use Rattle.graph.specs.declared.parts.Named.{Named}
use Rattle.graph.specs.declared.parts.Held.{Held}

-- what the first entry with a key holds
abbrev pub found_at : {Entry Item : Type 0} → (Entry → ℕ) → (Entry → Item) → List Entry → ℕ → Option Item
found_at key item [] at = None
found_at key item (first ∷ rest) at = if nat_eq (key first) at then Some (item first) else found_at key item rest at

-- the object with a key
abbrev pub object_at : List KeyedObject → ℕ → Option Object
object_at entries key = found_at (λ (entry : KeyedObject). entry.key) (λ entry. entry.object) entries key

-- the value with a key
abbrev pub value_at : List KeyedValue → ℕ → Option Value
value_at entries key = found_at (λ (entry : KeyedValue). entry.key) (λ entry. entry.value) entries key

-- the key of the object that is a variable's storage
abbrev pub storage_of : List Named → ℕ → Option ℕ
storage_of entries variable = found_at (λ (named : Named). named.variable) (λ named. named.object) entries variable

-- the key of the value that a register holds
abbrev pub held_by : List Held → ℕ → Option ℕ
held_by entries register = found_at (λ (held : Held). held.register) (λ held. held.value) entries register
