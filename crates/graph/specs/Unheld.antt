-- What nothing holds: values and objects that may go, and a graph without them.
use Rattle.std.specs.Prelude.{◌≡◌, ℕ, Bool, true, ◌&&◌, ℤ, slice_get, Some, IsSome, IsTrue}
use Rattle.std.specs.List.{filter}
use Rattle.graph.specs.declared.object.Object.{Object}
use Rattle.graph.specs.declared.value.Target.{Target}
use Rattle.graph.specs.declared.value.Value.TheVariants.{Const, Address}
use Rattle.graph.specs.declared.parts.Pair.{Pair}
use Rattle.graph.specs.declared.parts.Parts.{Parts}
use Rattle.graph.specs.Closed.{OnNamed}
use Rattle.graph.specs.Maps.{object_at, value_at, held_by}
use Rattle.graph.specs.Nodes.{own_node}
use Rattle.graph.specs.Meaning.{Assignment, Meets, maps_of}
use Rattle.graph.specs.State.{State}
use Rattle.graph.specs.WellFormed.{IsWellFormed, HasAscendingKeys, is_within_limits}

-- the parts with these values and objects alone, and with the pairs of which both values stay
abbrev pub with_only : (ℕ → Bool) → (ℕ → Bool) → Parts → Parts
with_only values objects parts = record {
  objects = filter (λ entry. objects entry.key) parts.objects;
  values = filter (λ entry. values entry.key) parts.values;
  variables = parts.variables;
  registers = parts.registers;
  ports = parts.ports;
  unequal = filter (λ pair. values pair.left && values pair.right) parts.unequal;
}

-- all others may go: nothing that stays holds them
pub record MayGo (values objects : ℕ → Bool) (parts : Parts) : Type 0 where
  -- the values of edges and links, of registers and of ports stay
  pub named : (key : ℕ) (object : Object) → object_at parts.objects key ≡ Some object → OnNamed (λ value. IsTrue (values value)) object.shape (own_node object)
  pub registers : (register value : ℕ) → held_by parts.registers register ≡ Some value → IsTrue (values value)
  pub ports : (place value : ℕ) → slice_get parts.ports place ≡ Some value → IsTrue (values value)
  -- a constant tells something of a value with which it makes a pair, so it stays where that one does
  pub left_constants : (place : ℕ) (pair : Pair) (number size : ℕ) → slice_get parts.unequal place ≡ Some pair → value_at parts.values pair.left ≡ Some (Const number size) →
      IsTrue (values pair.right) → IsTrue (values pair.left)
  pub right_constants : (place : ℕ) (pair : Pair) (number size : ℕ) → slice_get parts.unequal place ≡ Some pair → value_at parts.values pair.right ≡ Some (Const number size) →
      IsTrue (values pair.left) → IsTrue (values pair.right)
  -- live objects stay, and those whose address stays
  pub live : (key : ℕ) (object : Object) → object_at parts.objects key ≡ Some object → object.live ≡ true → IsTrue (objects key)
  pub addresses : (value key : ℕ) (offset : ℤ) (target : Target) → value_at parts.values value ≡ Some (Address key offset target) → IsTrue (values value) → IsTrue (objects key)

-- the same words at the values of these parts, and the same blocks at their objects
pub record AreKept (parts : Parts) (given other : Assignment) : Type 0 where
  pub words : (key : ℕ) → IsSome (value_at parts.values key) → other.word key ≡ given.word key
  pub blocks : (key : ℕ) → IsSome (object_at parts.objects key) → other.blocks key ≡ given.blocks key

-- both say the same of a state, with the same words and blocks for what stays
pub record SayTheSame (parts kept : Parts) (state : State) : Type 0 where
  pub onward : (given : Assignment) → Meets (maps_of parts) state given → (other : Assignment) × Meets (maps_of kept) state other × AreKept kept given other
  pub backward : (given : Assignment) → Meets (maps_of kept) state given → (other : Assignment) × Meets (maps_of parts) state other × AreKept kept given other

abbrev pub WhatNothingHoldsMayGo : Type 0
WhatNothingHoldsMayGo = (values objects : ℕ → Bool) (parts : Parts) (state : State) → IsWellFormed parts → IsTrue (is_within_limits parts) → MayGo values objects parts →
    SayTheSame parts (with_only values objects parts) state

-- what stays is well formed
abbrev pub WhatStaysIsAGraph : Type 0
WhatStaysIsAGraph = (values objects : ℕ → Bool) (parts : Parts) → HasAscendingKeys parts → IsWellFormed parts → MayGo values objects parts →
    IsWellFormed (with_only values objects parts) × HasAscendingKeys (with_only values objects parts)

-- and holds no more than before
abbrev pub WhatStaysIsWithinLimits : Type 0
WhatStaysIsWithinLimits = (values objects : ℕ → Bool) (parts : Parts) → IsTrue (is_within_limits parts) → IsTrue (is_within_limits (with_only values objects parts))
