-- Parts of a graph have their places for keys, so that to number them changes nothing.
use Rattle.std.proofs.Common.{◌≡◌, ℕ, zero, suc, ◌+◌, Bool, true, false, List, [], ◌∷◌, map, Option, Some, nat_eq, refl, sym, ap, subst, ◌∙◌, arith, eqb-true, eq-eqb, ne_eqb}
use Rattle.std.specs.Prelude.{IsSome, slice_get}
use Rattle.std.specs.Option.{option_map_or}
use Rattle.std.proofs.lemmas.Bool.{false≢true}
use Rattle.std.proofs.lemmas.Option.{none-some, same_Some}
use Rattle.graph.specs.declared.edges.HasValue.{HasValue}
use Rattle.graph.specs.declared.object.Object.{Object}
use Rattle.graph.specs.declared.object.Shape.{Shape}
use Rattle.graph.specs.declared.object.Shape.TheVariants.{Region, Segment}
use Rattle.graph.specs.declared.template.Node.{Node}
use Rattle.graph.specs.declared.value.Value.{Value}
use Rattle.graph.specs.declared.value.Value.TheVariants.{Const, Number, Any, Address}
use Rattle.graph.specs.declared.parts.Held.{Held}
use Rattle.graph.specs.declared.parts.KeyedObject.{KeyedObject}
use Rattle.graph.specs.declared.parts.KeyedValue.{KeyedValue}
use Rattle.graph.specs.declared.parts.Named.{Named}
use Rattle.graph.specs.declared.parts.Pair.{Pair}
use Rattle.graph.specs.declared.parts.Parts.{Parts}
use Rattle.graph.specs.Closed.{OnEdges, OnNamed}
use Rattle.graph.specs.Maps.{found_at, object_at, value_at}
use Rattle.graph.specs.Nodes.{own_node}
use Rattle.graph.specs.Renaming.{renamed, renamed_edge, renamed_node, renamed_shape, renamed_object, renamed_value, renamed_pair, place_among, object_place, value_place, numbered}
use Rattle.graph.specs.WellFormed.{passes_at, may_be_held, is_storage, target_fits, leads_to_object, is_unequal_pair}
use Rattle.graph.specs.Whole.{IsGraph}
use Rattle.graph.proofs.Closed.{passes-at, named_there, own_edges_there, pair_there}
use Rattle.graph.proofs.Found.{found-here, found-later, IsSome-holds}
use Rattle.graph.proofs.Numbered.{numbered-renamed}
use Rattle.graph.proofs.Sent.{passes-some}

place_first : (first at : ℕ) (rest : List ℕ) → nat_eq at first ≡ true → place_among (first ∷ rest) at ≡ 0
place_first first at rest is = rw is refl

place_later : (first at : ℕ) (rest : List ℕ) → nat_eq at first ≡ false → place_among (first ∷ rest) at ≡ 1 + place_among rest at
place_later first at rest is = rw is refl

module _ {Entry Item : Type 0} (key : Entry → ℕ) (item : Entry → Item) where
  -- where keys go up one by one, a key that is there is its place
  own_place : (from : ℕ) (entries : List Entry) → ((place : ℕ) (entry : Entry) → slice_get entries place ≡ Some entry → key entry ≡ from + place) →
      (at : ℕ) → IsSome (found_at key item entries at) → from + place_among (map key entries) at ≡ at
  own_place from [] places at some = absurd (false≢true some)
  own_place from (first ∷ rest) places at some =
      by_test (nat_eq (key first) at) refl
      (λ there. own_place (from + 1) rest (λ place entry stands. places (suc place) entry stands ∙ (let e : from + suc place ≡ (from + 1) + place = omega arith in e)) at there)
    where
      here : key first ≡ from
      here = places 0 first refl ∙ (let e : from + 0 ≡ from = omega arith in e)

      by_test : (hit : Bool) → nat_eq (key first) at ≡ hit → (IsSome (found_at key item rest at) → (from + 1) + place_among (map key rest) at ≡ at) → from + place_among (map key (first ∷ rest)) at ≡ at
      by_test true is rest_does =
          let same : key first ≡ at = eqb-true (key first) at is in
          let none : place_among (map key (first ∷ rest)) at ≡ 0 = place_first (key first) at (map key rest) (eq-eqb at (key first) (sym same)) in
          let begins = here in
          omega (arith, same, none, begins)
      by_test false is rest_does =
          let other : nat_eq at (key first) ≡ false = ne_eqb at (key first) (λ same. false≢true (sym is ∙ eq-eqb (key first) at (sym same))) in
          let later : place_among (map key (first ∷ rest)) at ≡ 1 + place_among (map key rest) at = place_later (key first) at (map key rest) other in
          let others : (from + 1) + place_among (map key rest) at ≡ at = rest_does (subst (λ (o : Option Item). IsSome o) (found-later key item first rest at is) some) in
          omega (arith, later, others)

  -- and each entry is found by its key
  own_found : (from : ℕ) (entries : List Entry) → ((place : ℕ) (entry : Entry) → slice_get entries place ≡ Some entry → key entry ≡ from + place) →
      (place : ℕ) (entry : Entry) → slice_get entries place ≡ Some entry → found_at key item entries (key entry) ≡ Some (item entry)
  own_found from [] places place entry stands = absurd (none-some entry stands)
  own_found from (first ∷ rest) places zero entry stands =
      let same : first ≡ entry = same_Some first entry stands in
      ap (λ e. found_at key item (first ∷ rest) (key e)) (sym same) ∙ found-here key item first rest (key first) (eq-eqb (key first) (key first) refl) ∙ ap (λ e. Some (item e)) same
  own_found from (first ∷ rest) places (suc place) entry stands =
      let here : key first ≡ from + 0 = places 0 first refl in
      let there : key entry ≡ from + suc place = places (suc place) entry stands in
      let other : nat_eq (key first) (key entry) ≡ false = ne_eqb (key first) (key entry) (λ same. absurd (omega (arith, same, here, there))) in
      found-later key item first rest (key entry) other
      ∙ own_found (from + 1) rest (λ place entry stands. places (suc place) entry stands ∙ (let e : from + suc place ≡ (from + 1) + place = omega arith in e)) place entry stands

-- what changes no item changes no list
map_own : {X : Type 0} (f : X → X) (items : List X) → ((place : ℕ) (item : X) → slice_get items place ≡ Some item → f item ≡ item) → map f items ≡ items
map_own f [] same = refl
map_own f (first ∷ rest) same =
    ap (λ x. x ∷ map f rest) (same 0 first refl) ∙ ap (λ xs. first ∷ xs) (map_own f rest (λ place item stands. same (suc place) item stands))

module _ (values : ℕ → ℕ) (There : ℕ → Type 0) (own : (key : ℕ) → There key → values key ≡ key) where
  edges_own : (edges : List HasValue) → OnEdges There edges → map (renamed_edge values) edges ≡ edges
  edges_own [] all = refl
  edges_own (edge ∷ rest) all =
      ap (λ (value : ℕ). (let e : HasValue = record edge { value = value } in e) ∷ map (renamed_edge values) rest) (own edge.value all.0)
      ∙ ap (λ (es : List HasValue). edge ∷ es) (edges_own rest all.1)

  shape_own : (shape : Shape) (node : Node) → OnNamed There shape node → renamed_shape values shape ≡ shape
  shape_own Region own_bytes all = refl
  shape_own (Segment twofold head next prev back least next_value prev_value node) own_bytes all =
      ap (λ (value : ℕ). Segment twofold head next prev back least value (values prev_value) (renamed_node values node)) (own next_value all.1.0)
      ∙ ap (λ (value : ℕ). Segment twofold head next prev back least next_value value (renamed_node values node)) (own prev_value all.1.1)
      ∙ ap (λ (edges : List HasValue). Segment twofold head next prev back least next_value prev_value (record node { edges = edges })) (edges_own node.edges all.0)

  object_own : (object : Object) → OnNamed There object.shape (own_node object) → OnEdges There object.edges → renamed_object values object ≡ object
  object_own object named edges =
      ap (λ (shape : Shape). (let o : Object = record object { shape = shape; edges = map (renamed_edge values) object.edges } in o)) (shape_own object.shape (own_node object) named)
      ∙ ap (λ (own_edges : List HasValue). (let o : Object = record object { edges = own_edges } in o)) (edges_own object.edges edges)

module _ (parts : Parts) (graph : IsGraph parts) where
  object_same : (key : ℕ) → IsSome (object_at parts.objects key) → object_place parts key ≡ key
  object_same key there =
      (let e : object_place parts key ≡ 0 + object_place parts key = omega arith in e)
      ∙ own_place (λ (entry : KeyedObject). entry.key) (λ entry. entry.object) 0 parts.objects (λ place entry stands. graph.keys.objects place entry stands ∙ (let e : place ≡ 0 + place = omega arith in e)) key there

  value_same : (key : ℕ) → IsSome (value_at parts.values key) → value_place parts key ≡ key
  value_same key there =
      (let e : value_place parts key ≡ 0 + value_place parts key = omega arith in e)
      ∙ own_place (λ (entry : KeyedValue). entry.key) (λ entry. entry.value) 0 parts.values (λ place entry stands. graph.keys.values place entry stands ∙ (let e : place ≡ 0 + place = omega arith in e)) key there

  abbrev IsThere : ℕ → Type 0
  IsThere key = IsSome (value_at parts.values key)

  entry_same : (place : ℕ) (entry : KeyedObject) → slice_get parts.objects place ≡ Some entry →
      (let e : KeyedObject = record { key = object_place parts entry.key; object = renamed_object (value_place parts) entry.object } in e) ≡ entry
  entry_same place entry stands =
      let found : object_at parts.objects entry.key ≡ Some entry.object =
      own_found (λ (entry : KeyedObject). entry.key) (λ entry. entry.object) 0 parts.objects (λ place entry stands. graph.keys.objects place entry stands ∙ (let e : place ≡ 0 + place = omega arith in e)) place entry stands in
      ap (λ (key : ℕ). (let e : KeyedObject = record { key = key; object = renamed_object (value_place parts) entry.object } in e))
      (object_same entry.key (IsSome-holds (object_at parts.objects entry.key) entry.object found))
      ∙ ap (λ (object : Object). (let e : KeyedObject = record { key = entry.key; object = object } in e))
      (object_own (value_place parts) IsThere value_same entry.object (named_there parts graph.well_formed entry.key entry.object found) (own_edges_there parts graph.well_formed entry.key entry.object found))

  address_same : (value : Value) → leads_to_object parts value ≡ true → renamed_value (object_place parts) value ≡ value
  address_same (Const number size) leads = refl
  address_same (Number size) leads = refl
  address_same Any leads = refl
  address_same (Address object offset target) leads =
      ap (λ (key : ℕ). Address key offset target) (object_same object (passes-some (λ found. target_fits target found.shape) (object_at parts.objects object) leads))

  keyed_same : (place : ℕ) (entry : KeyedValue) → slice_get parts.values place ≡ Some entry →
      (let e : KeyedValue = record { key = value_place parts entry.key; value = renamed_value (object_place parts) entry.value } in e) ≡ entry
  keyed_same place entry stands =
      let found : value_at parts.values entry.key ≡ Some entry.value =
      own_found (λ (entry : KeyedValue). entry.key) (λ entry. entry.value) 0 parts.values (λ place entry stands. graph.keys.values place entry stands ∙ (let e : place ≡ 0 + place = omega arith in e)) place entry stands in
      ap (λ (key : ℕ). (let e : KeyedValue = record { key = key; value = renamed_value (object_place parts) entry.value } in e))
      (value_same entry.key (IsSome-holds (value_at parts.values entry.key) entry.value found))
      ∙ ap (λ (value : Value). (let e : KeyedValue = record { key = entry.key; value = value } in e))
      (address_same entry.value (passes-at (λ (entry : KeyedValue). leads_to_object parts entry.value) parts.values place entry stands graph.well_formed.addresses_lead_to_objects))

  named_same : (place : ℕ) (named : Named) → slice_get parts.variables place ≡ Some named → (let n : Named = record { variable = named.variable; object = object_place parts named.object } in n) ≡ named
  named_same place named stands =
      ap (λ (key : ℕ). (let n : Named = record { variable = named.variable; object = key } in n))
      (object_same named.object (passes-some is_storage (object_at parts.objects named.object)
      (passes-at (λ (named : Named). option_map_or is_storage (object_at parts.objects named.object) false) parts.variables place named stands graph.well_formed.variables_have_storage)))

  held_same : (place : ℕ) (held : Held) → slice_get parts.registers place ≡ Some held → (let h : Held = record { register = held.register; value = value_place parts held.value } in h) ≡ held
  held_same place held stands =
      ap (λ (key : ℕ). (let h : Held = record { register = held.register; value = key } in h))
      (value_same held.value (passes-some may_be_held (value_at parts.values held.value)
      (passes-at (λ (held : Held). passes_at parts may_be_held held.value) parts.registers place held stands graph.well_formed.registers_hold_values)))

  port_same : (place port : ℕ) → slice_get parts.ports place ≡ Some port → value_place parts port ≡ port
  port_same place port stands =
      value_same port (passes-some may_be_held (value_at parts.values port) (passes-at (passes_at parts may_be_held) parts.ports place port stands graph.well_formed.ports_are_values))

  pair_same : (place : ℕ) (pair : Pair) → slice_get parts.unequal place ≡ Some pair → renamed_pair (value_place parts) pair ≡ pair
  pair_same place pair stands =
      let both = pair_there parts graph.well_formed pair (passes-at (is_unequal_pair parts) parts.unequal place pair stands graph.well_formed.pairs_may_be_unequal) in
      ap (λ (key : ℕ). (let p : Pair = record { left = key; right = value_place parts pair.right } in p)) (value_same pair.left both.0)
      ∙ ap (λ (key : ℕ). (let p : Pair = record { left = pair.left; right = key } in p)) (value_same pair.right both.1)

  pub graph_numbered : numbered parts ≡ parts
  graph_numbered =
      numbered-renamed parts graph.ascending
      ∙ ap (λ (objects : List KeyedObject). (let p : Parts = record (renamed (object_place parts) (value_place parts) parts) { objects = objects } in p))
      (map_own (λ (entry : KeyedObject). (let e : KeyedObject = record { key = object_place parts entry.key; object = renamed_object (value_place parts) entry.object } in e)) parts.objects entry_same)
      ∙ ap (λ (values : List KeyedValue). (let p : Parts = record (renamed (object_place parts) (value_place parts) parts) { objects = parts.objects; values = values } in p))
      (map_own (λ (entry : KeyedValue). (let e : KeyedValue = record { key = value_place parts entry.key; value = renamed_value (object_place parts) entry.value } in e)) parts.values keyed_same)
      ∙ ap (λ (variables : List Named). (let p : Parts = record parts { variables = variables; registers = (renamed (object_place parts) (value_place parts) parts).registers; ports = map (value_place parts) parts.ports; unequal = map (renamed_pair (value_place parts)) parts.unequal } in p))
      (map_own (λ (named : Named). (let n : Named = record { variable = named.variable; object = object_place parts named.object } in n)) parts.variables named_same)
      ∙ ap (λ (registers : List Held). (let p : Parts = record parts { registers = registers; ports = map (value_place parts) parts.ports; unequal = map (renamed_pair (value_place parts)) parts.unequal } in p))
      (map_own (λ (held : Held). (let h : Held = record { register = held.register; value = value_place parts held.value } in h)) parts.registers held_same)
      ∙ ap (λ (ports : List ℕ). (let p : Parts = record parts { ports = ports; unequal = map (renamed_pair (value_place parts)) parts.unequal } in p))
      (map_own (value_place parts) parts.ports port_same)
      ∙ ap (λ (unequal : List Pair). (let p : Parts = record parts { unequal = unequal } in p))
      (map_own (renamed_pair (value_place parts)) parts.unequal pair_same)
