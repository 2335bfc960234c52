-- What nothing holds may go.
use Rattle.std.proofs.Common.{◌≡◌, ℕ, suc, Bool, true, false, ◌&&◌, ◌||◌, not, List, [], ◌∷◌, nat_eq, Option, None, Some, ℤ, refl, ◌∙◌, ap, eq-eqb, ◌⊎◌, inl, inr}
use Rattle.std.specs.Prelude.{slice_get}
use Rattle.std.specs.List.{list_any}
use Rattle.std.specs.Option.{option_map_or}
use Rattle.std.proofs.lemmas.Bool.{false≢true}
use Rattle.graph.specs.declared.edges.HasValue.{HasValue}
use Rattle.graph.specs.declared.object.Object.{Object}
use Rattle.graph.specs.declared.object.Shape.{Shape}
use Rattle.graph.specs.declared.object.Shape.TheVariants.{Region, Segment}
use Rattle.graph.specs.declared.value.Target.{Target}
use Rattle.graph.specs.declared.value.Value.{Value}
use Rattle.graph.specs.declared.value.Value.TheVariants.{Const, Address}
use Rattle.graph.specs.declared.parts.Held.{Held}
use Rattle.graph.specs.declared.parts.KeyedObject.{KeyedObject}
use Rattle.graph.specs.declared.parts.KeyedValue.{KeyedValue}
use Rattle.graph.specs.declared.parts.Pair.{Pair}
use Rattle.graph.specs.declared.parts.Parts.{Parts}
use Rattle.graph.specs.Closed.{OnEdges, OnEnds, OnNamed}
use Rattle.graph.specs.Large.{leads_to}
use Rattle.graph.specs.Maps.{object_at, value_at, held_by}
use Rattle.graph.specs.Nodes.{own_node, node_of}
use Rattle.graph.specs.Sizes.{is_constant}
use Rattle.graph.specs.Unheld.{MayGo}
use Rattle.graph.specs.WellFormed.{IsWellFormed, passes_at, is_unequal_pair, may_be_unequal, are_numbers}
use Rattle.graph.proofs.Closed.{passes-at}
use Rattle.graph.proofs.Tests.{and_left, and_right, and_both}
use Rattle.tidying.specs.Held.{is_linked, is_stored, is_held, tells_of, stays, object_stays}
use Rattle.tidying.proofs.Tests.{or_left, or_right, or_split, any_at, any_found}

on_edges : (P : ℕ → Type 0) (edges : List HasValue) → ((place : ℕ) (edge : HasValue) → slice_get edges place ≡ Some edge → P edge.value) → OnEdges P edges
on_edges P [] all = tt
on_edges P (edge ∷ rest) all = (all 0 edge refl, on_edges P rest (λ place other is. all (suc place) other is))

on_ends : (P : ℕ → Type 0) (shape : Shape) → ((value : ℕ) → is_linked value shape ≡ true → P value) → OnEnds P shape
on_ends P Region all = tt
on_ends P (Segment twofold head next prev back least next_value prev_value node) all = (
  all next_value (or_left (nat_eq next_value next_value) (nat_eq prev_value next_value) (eq-eqb next_value next_value refl)),
  all prev_value (or_right (nat_eq next_value prev_value) (nat_eq prev_value prev_value) (eq-eqb prev_value prev_value refl)),
)

-- no pair is of two constants
not_constants : (one other : Option Value) → option_map_or (λ left. option_map_or (may_be_unequal left) other false) one false ≡ true → option_map_or is_constant one false ≡ true → option_map_or is_constant other false ≡ true → ⊥
not_constants None other unequal left right = false≢true left
not_constants (Some one) None unequal left right = false≢true right
not_constants (Some one) (Some other) unequal left right =
    never (is_constant one) (is_constant other) left right (and_right (are_numbers one other 4 || are_numbers one other 8) (not (is_constant one && is_constant other)) unequal)
  where
    never : (a b : Bool) → a ≡ true → b ≡ true → not (a && b) ≡ true → ⊥
    never true true a_is b_is neither = false≢true neither
    never true false a_is b_is neither = false≢true b_is
    never false b a_is b_is neither = false≢true a_is

module _ (parts : Parts) (well : IsWellFormed parts) where
  held_stays : (value : ℕ) → is_held parts value ≡ true → stays parts value ≡ true
  held_stays value held = or_left (is_held parts value) (passes_at parts is_constant value && list_any (tells_of parts value) parts.unequal) held

  abbrev behind_objects : ℕ → Bool
  behind_objects value = list_any (λ (held : Held). nat_eq held.value value) parts.registers || list_any (λ port. nat_eq port value) parts.ports

  stored_stays : (key : ℕ) (object : Object) → object_at parts.objects key ≡ Some object → (value : ℕ) → is_stored value object ≡ true → stays parts value ≡ true
  stored_stays key object is value stored =
      held_stays value
      (or_left (list_any (λ (entry : KeyedObject). is_stored value entry.object) parts.objects) (behind_objects value)
      (any_found (λ (entry : KeyedObject). entry.key) (λ entry. entry.object) (λ entry. is_stored value entry.object) parts.objects key object is
      (λ entry _ same. ap (is_stored value) same ∙ stored)))

  behind_stays : (value : ℕ) → behind_objects value ≡ true → stays parts value ≡ true
  behind_stays value is = held_stays value (or_right (list_any (λ (entry : KeyedObject). is_stored value entry.object) parts.objects) (behind_objects value) is)

  named : (key : ℕ) (object : Object) → object_at parts.objects key ≡ Some object → OnNamed (λ value. stays parts value ≡ true) object.shape (own_node object)
  named key object is = (
    on_edges (λ value. stays parts value ≡ true) (node_of object).edges
        (λ place edge there. stored_stays key object is edge.value
        (or_left (list_any (λ (other : HasValue). nat_eq other.value edge.value) (node_of object).edges) (is_linked edge.value object.shape)
        (any_at (λ (other : HasValue). nat_eq other.value edge.value) (node_of object).edges place edge there (eq-eqb edge.value edge.value refl)))),
    on_ends (λ value. stays parts value ≡ true) object.shape
        (λ value linked. stored_stays key object is value (or_right (list_any (λ (other : HasValue). nat_eq other.value value) (node_of object).edges) (is_linked value object.shape) linked)),
  )

  registers : (register value : ℕ) → held_by parts.registers register ≡ Some value → stays parts value ≡ true
  registers register value is =
      behind_stays value
      (or_left (list_any (λ (held : Held). nat_eq held.value value) parts.registers) (list_any (λ port. nat_eq port value) parts.ports)
      (any_found (λ (held : Held). held.register) (λ held. held.value) (λ held. nat_eq held.value value) parts.registers register value is (λ held _ same. eq-eqb held.value value same)))

  pub register_stays : (place : ℕ) (held : Held) → slice_get parts.registers place ≡ Some held → stays parts held.value ≡ true
  register_stays place held is =
      behind_stays held.value
      (or_left (list_any (λ (other : Held). nat_eq other.value held.value) parts.registers) (list_any (λ port. nat_eq port held.value) parts.ports)
      (any_at (λ (other : Held). nat_eq other.value held.value) parts.registers place held is (eq-eqb held.value held.value refl)))

  ports : (place value : ℕ) → slice_get parts.ports place ≡ Some value → stays parts value ≡ true
  ports place value is =
      behind_stays value
      (or_right (list_any (λ (held : Held). nat_eq held.value value) parts.registers) (list_any (λ port. nat_eq port value) parts.ports)
      (any_at (λ port. nat_eq port value) parts.ports place value is (eq-eqb value value refl)))

  constant_at : (key number size : ℕ) → value_at parts.values key ≡ Some (Const number size) → passes_at parts is_constant key ≡ true
  constant_at key number size is = ap (λ (o : Option Value). option_map_or is_constant o false) is

  told_stays : (value place : ℕ) (pair : Pair) → slice_get parts.unequal place ≡ Some pair → passes_at parts is_constant value ≡ true → tells_of parts value pair ≡ true → stays parts value ≡ true
  told_stays value place pair is constant tells =
      or_right (is_held parts value) (passes_at parts is_constant value && list_any (tells_of parts value) parts.unequal)
      (and_both (passes_at parts is_constant value) (list_any (tells_of parts value) parts.unequal) constant (any_at (tells_of parts value) parts.unequal place pair is tells))

  -- of a pair with a constant the other value stays only where it is held
  other_held : (value : ℕ) → (passes_at parts is_constant value ≡ true → ⊥) → stays parts value ≡ true → is_held parts value ≡ true
  other_held value never stay = by_case (or_split (is_held parts value) (passes_at parts is_constant value && list_any (tells_of parts value) parts.unequal) stay)
    where
      by_case : (is_held parts value ≡ true) ⊎ ((passes_at parts is_constant value && list_any (tells_of parts value) parts.unequal) ≡ true) → is_held parts value ≡ true
      by_case (inl held) = held
      by_case (inr told) = absurd (never (and_left (passes_at parts is_constant value) (list_any (tells_of parts value) parts.unequal) told))

  unequal_at : (place : ℕ) (pair : Pair) → slice_get parts.unequal place ≡ Some pair → passes_at parts (λ one. passes_at parts (may_be_unequal one) pair.right) pair.left ≡ true
  unequal_at place pair is =
      and_right (not (nat_eq pair.left pair.right)) (passes_at parts (λ one. passes_at parts (may_be_unequal one) pair.right) pair.left)
      (passes-at (is_unequal_pair parts) parts.unequal place pair is well.pairs_may_be_unequal)

  left_constants : (place : ℕ) (pair : Pair) (number size : ℕ) → slice_get parts.unequal place ≡ Some pair → value_at parts.values pair.left ≡ Some (Const number size) →
      stays parts pair.right ≡ true → stays parts pair.left ≡ true
  left_constants place pair number size is constant stay =
      let left = constant_at pair.left number size constant in
      let held = other_held pair.right (λ right. not_constants (value_at parts.values pair.left) (value_at parts.values pair.right) (unequal_at place pair is) left right) stay in
      told_stays pair.left place pair is left
      (or_left (nat_eq pair.left pair.left && is_held parts pair.right) (nat_eq pair.right pair.left && is_held parts pair.left)
      (and_both (nat_eq pair.left pair.left) (is_held parts pair.right) (eq-eqb pair.left pair.left refl) held))

  right_constants : (place : ℕ) (pair : Pair) (number size : ℕ) → slice_get parts.unequal place ≡ Some pair → value_at parts.values pair.right ≡ Some (Const number size) →
      stays parts pair.left ≡ true → stays parts pair.right ≡ true
  right_constants place pair number size is constant stay =
      let right = constant_at pair.right number size constant in
      let held = other_held pair.left (λ left. not_constants (value_at parts.values pair.left) (value_at parts.values pair.right) (unequal_at place pair is) left right) stay in
      told_stays pair.right place pair is right
      (or_right (nat_eq pair.left pair.right && is_held parts pair.right) (nat_eq pair.right pair.right && is_held parts pair.left)
      (and_both (nat_eq pair.right pair.right) (is_held parts pair.left) (eq-eqb pair.right pair.right refl) held))

  abbrev has_life : ℕ → KeyedObject → Bool
  has_life key entry = entry.object.live && nat_eq entry.key key

  abbrev is_address : ℕ → KeyedValue → Bool
  is_address key entry = stays parts entry.key && leads_to key entry.value

  live : (key : ℕ) (object : Object) → object_at parts.objects key ≡ Some object → object.live ≡ true → object_stays parts key ≡ true
  live key object is lives =
      or_left (list_any (has_life key) parts.objects) (list_any (is_address key) parts.values)
      (any_found (λ (entry : KeyedObject). entry.key) (λ entry. entry.object) (has_life key) parts.objects key object is
      (λ entry here same. and_both entry.object.live (nat_eq entry.key key) (ap (λ (o : Object). o.live) same ∙ lives) (eq-eqb entry.key key here)))

  addresses : (value key : ℕ) (offset : ℤ) (target : Target) → value_at parts.values value ≡ Some (Address key offset target) → stays parts value ≡ true → object_stays parts key ≡ true
  addresses value key offset target is stay =
      or_right (list_any (has_life key) parts.objects) (list_any (is_address key) parts.values)
      (any_found (λ (entry : KeyedValue). entry.key) (λ entry. entry.value) (is_address key) parts.values value (Address key offset target) is
      (λ entry here same. and_both (stays parts entry.key) (leads_to key entry.value) (ap (stays parts) here ∙ stay) (ap (leads_to key) same ∙ eq-eqb key key refl)))

  pub may_go : MayGo (stays parts) (object_stays parts) parts
  may_go = record {
    named = named;
    registers = registers;
    ports = ports;
    left_constants = left_constants;
    right_constants = right_constants;
    live = live;
    addresses = addresses;
  }
