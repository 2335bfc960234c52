-- With other keys, the same objects are addressed.
use Rattle.std.proofs.Common.{◌≡◌, ℕ, Bool, true, false, ◌||◌, List, [], ◌∷◌, map, nat_eq, Option, Some, refl, sym, ◌∙◌, ap, eqb-true, eq-eqb, ne_eqb}
use Rattle.std.specs.Prelude.{slice_get, IsSome}
use Rattle.std.specs.List.{list_any}
use Rattle.std.specs.Option.{option_map_or}
use Rattle.std.proofs.lemmas.Bool.{false≢true}
use Rattle.graph.specs.declared.edges.HasValue.{HasValue}
use Rattle.graph.specs.declared.object.Object.{Object}
use Rattle.graph.specs.declared.object.Shape.{Shape}
use Rattle.graph.specs.declared.object.Shape.TheVariants.{Region, Segment}
use Rattle.graph.specs.declared.template.Node.{Node}
use Rattle.graph.specs.declared.value.Value.{Value}
use Rattle.graph.specs.declared.value.Value.TheVariants.{Const, Number, Any, Address}
use Rattle.graph.specs.declared.parts.Held.{Held}
use Rattle.graph.specs.declared.parts.KeyedObject.{KeyedObject}
use Rattle.graph.specs.declared.parts.KeyedValue.{KeyedValue}
use Rattle.graph.specs.declared.parts.Parts.{Parts}
use Rattle.graph.specs.Closed.{OnEdges, OnEnds}
use Rattle.graph.specs.Large.{leads_to, holds_address, is_addressed}
use Rattle.graph.specs.Laws.{IsRenaming}
use Rattle.graph.specs.Maps.{object_at, value_at}
use Rattle.graph.specs.Nodes.{own_node, node_in, node_of, back_edges, link_edges}
use Rattle.graph.specs.Renaming.{renamed, renamed_edge, renamed_node, renamed_shape, renamed_object, renamed_value}
use Rattle.graph.specs.WellFormed.{IsWellFormed, passes_at, may_be_held, leads_to_object, target_fits}
use Rattle.graph.proofs.Closed.{passes-at, closed_of, named_there}
use Rattle.graph.proofs.Found.{Holds-some, found-all}
use Rattle.graph.proofs.Sent.{passes-some, value_sent}
use Rattle.tidying.proofs.Told.{any_same}

pub any_map : {X Y : Type 0} (test : Y → Bool) (f : X → Y) (xs : List X) → list_any test (map f xs) ≡ list_any (λ x. test (f x)) xs
any_map test f [] = refl
any_map test f (x ∷ xs) = ap (λ (b : Bool). test (f x) || b) (any_map test f xs)

-- tests that agree at the values of edges
pub any_edges : (P : ℕ → Type 0) (test other : ℕ → Bool) → ((key : ℕ) → P key → test key ≡ other key) → (edges : List HasValue) → OnEdges P edges →
    list_any (λ (edge : HasValue). test edge.value) edges ≡ list_any (λ (edge : HasValue). other edge.value) edges
any_edges P test other agree [] on = refl
any_edges P test other agree (edge ∷ rest) on =
    ap (λ (b : Bool). b || list_any (λ (edge : HasValue). test edge.value) rest) (agree edge.value on.0)
    ∙ ap (λ (b : Bool). other edge.value || b) (any_edges P test other agree rest on.1)

on_back : (P : ℕ → Type 0) (twofold : Bool) (prev prev_value : ℕ) → P prev_value → OnEdges P (back_edges twofold prev prev_value)
on_back P true prev prev_value holds = (holds, tt)
on_back P false prev prev_value holds = tt

pub on_links : (P : ℕ → Type 0) (shape : Shape) → OnEnds P shape → OnEdges P (link_edges shape)
on_links P Region on = tt
on_links P (Segment twofold head next prev back least next_value prev_value node) on = (on.0, on_back P twofold prev prev_value on.1)

edges_renamed : (values : ℕ → ℕ) (shape : Shape) (own : Node) → (node_in (renamed_shape values shape) (renamed_node values own)).edges ≡ map (renamed_edge values) (node_in shape own).edges
edges_renamed values Region own = refl
edges_renamed values (Segment twofold head next prev back least next_value prev_value node) own = refl

links_renamed : (values : ℕ → ℕ) (shape : Shape) → link_edges (renamed_shape values shape) ≡ map (renamed_edge values) (link_edges shape)
links_renamed values Region = refl
links_renamed values (Segment true head next prev back least next_value prev_value node) = refl
links_renamed values (Segment false head next prev back least next_value prev_value node) = refl

same_number : (one other one' other' : ℕ) → (one ≡ other → one' ≡ other') → (one' ≡ other' → one ≡ other) → nat_eq one' other' ≡ nat_eq one other
same_number one other one' other' there back = by_test (nat_eq one other) refl
  where
    by_test : (b : Bool) → nat_eq one other ≡ b → nat_eq one' other' ≡ nat_eq one other
    by_test true is = eq-eqb one' other' (there (eqb-true one other is)) ∙ sym is
    by_test false is = ne_eqb one' other' (λ same. false≢true (sym is ∙ eq-eqb one other (back same))) ∙ sym is

-- what an object holds, by its edges and its links
pub holds_by : (parts other : Parts) (P : ℕ → Type 0) (key new : ℕ) (values : ℕ → ℕ) → ((value : ℕ) → P value → passes_at other (leads_to new) (values value) ≡ passes_at parts (leads_to key) value) →
    (object : Object) → OnEdges P (node_of object).edges → OnEnds P object.shape → holds_address other new (renamed_object values object) ≡ holds_address parts key object
holds_by parts other P key new values agree object on_node on_shape =
    ap (λ (edges : List HasValue). list_any (λ (edge : HasValue). passes_at other (leads_to new) edge.value) edges || list_any (λ (link : HasValue). passes_at other (leads_to new) link.value) (link_edges (renamed_shape values object.shape)))
    (edges_renamed values object.shape (own_node object))
    ∙ ap (λ (links : List HasValue). list_any (λ (edge : HasValue). passes_at other (leads_to new) edge.value) (map (renamed_edge values) (node_of object).edges) || list_any (λ (link : HasValue). passes_at other (leads_to new) link.value) links)
    (links_renamed values object.shape)
    ∙ ap (λ (b : Bool). b || list_any (λ (link : HasValue). passes_at other (leads_to new) link.value) (map (renamed_edge values) (link_edges object.shape)))
    (any_map (λ (edge : HasValue). passes_at other (leads_to new) edge.value) (renamed_edge values) (node_of object).edges
    ∙ any_edges P (λ value. passes_at other (leads_to new) (values value)) (λ value. passes_at parts (leads_to key) value) agree (node_of object).edges on_node)
    ∙ ap (λ (b : Bool). list_any (λ (edge : HasValue). passes_at parts (leads_to key) edge.value) (node_of object).edges || b)
    (any_map (λ (link : HasValue). passes_at other (leads_to new) link.value) (renamed_edge values) (link_edges object.shape)
    ∙ any_edges P (λ value. passes_at other (leads_to new) (values value)) (λ value. passes_at parts (leads_to key) value) agree (link_edges object.shape) (on_links P object.shape on_shape))

module _ (of_objects of_values : ℕ → ℕ) (parts : Parts) (renaming : IsRenaming of_objects of_values parts) (well : IsWellFormed parts)
    (found : (place : ℕ) (entry : KeyedObject) → slice_get parts.objects place ≡ Some entry → object_at parts.objects entry.key ≡ Some entry.object) where
  abbrev other : Parts
  other = renamed of_objects of_values parts

  abbrev IsThere : ℕ → Type 0
  IsThere key = IsSome (value_at parts.values key)

  register_there : (place : ℕ) (entry : Held) → slice_get parts.registers place ≡ Some entry → IsThere entry.value
  register_there place entry is =
      passes-some may_be_held (value_at parts.values entry.value) (passes-at (λ (held : Held). passes_at parts may_be_held held.value) parts.registers place entry is well.registers_hold_values)

  leads_sent : (key : ℕ) → IsSome (object_at parts.objects key) → (value : Value) → leads_to_object parts value ≡ true → leads_to (of_objects key) (renamed_value of_objects value) ≡ leads_to key value
  leads_sent key there (Const number size) leads = refl
  leads_sent key there (Number size) leads = refl
  leads_sent key there Any leads = refl
  leads_sent key there (Address object offset target) leads =
      same_number object key (of_objects object) (of_objects key) (ap of_objects)
      (renaming.objects.same object key (passes-some (λ found. target_fits target found.shape) (object_at parts.objects object) leads) there)

  passes_sent : (key : ℕ) → IsSome (object_at parts.objects key) → (value : ℕ) → IsThere value → passes_at other (leads_to (of_objects key)) (of_values value) ≡ passes_at parts (leads_to key) value
  passes_sent key there value some =
      let is = Holds-some (value_at parts.values value) some in
      ap (λ (o : Option Value). option_map_or (leads_to (of_objects key)) o false) (value_sent of_objects of_values parts renaming value is.item is.is)
      ∙ leads_sent key there is.item
      (found-all (λ (entry : KeyedValue). entry.key) (λ entry. entry.value) (leads_to_object parts) parts.values value is.item well.addresses_lead_to_objects is.is)
      ∙ sym (ap (λ (o : Option Value). option_map_or (leads_to key) o false) is.is)

  abbrev object_tells : ℕ → KeyedObject → Bool
  object_tells key entry = holds_address parts key entry.object

  pub addressed_sent : (key : ℕ) → IsSome (object_at parts.objects key) → is_addressed other (of_objects key) ≡ is_addressed parts key
  addressed_sent key there =
      let objects : list_any (λ (entry : KeyedObject). holds_address other (of_objects key) entry.object) other.objects ≡ list_any (object_tells key) parts.objects =
      any_map (λ (entry : KeyedObject). holds_address other (of_objects key) entry.object) (λ (entry : KeyedObject). record { key = of_objects entry.key; object = renamed_object of_values entry.object }) parts.objects
      ∙ any_same (λ (entry : KeyedObject). holds_address other (of_objects key) (renamed_object of_values entry.object)) (object_tells key) parts.objects
      (λ place entry is.
      let named = named_there parts well entry.key entry.object (found place entry is) in
      holds_by parts other IsThere key (of_objects key) of_values (passes_sent key there) entry.object named.0 named.1) in
      let registers : list_any (λ (entry : Held). passes_at other (leads_to (of_objects key)) entry.value) other.registers ≡ list_any (λ (entry : Held). passes_at parts (leads_to key) entry.value) parts.registers =
      any_map (λ (entry : Held). passes_at other (leads_to (of_objects key)) entry.value) (λ (entry : Held). record { register = entry.register; value = of_values entry.value }) parts.registers
      ∙ any_same (λ (entry : Held). passes_at other (leads_to (of_objects key)) (of_values entry.value)) (λ (entry : Held). passes_at parts (leads_to key) entry.value) parts.registers
      (λ place entry is. passes_sent key there entry.value (register_there place entry is)) in
      let ports : list_any (passes_at other (leads_to (of_objects key))) other.ports ≡ list_any (passes_at parts (leads_to key)) parts.ports =
      any_map (passes_at other (leads_to (of_objects key))) of_values parts.ports
      ∙ any_same (λ port. passes_at other (leads_to (of_objects key)) (of_values port)) (passes_at parts (leads_to key)) parts.ports
      (λ place port is. passes_sent key there port ((closed_of parts well).ports place port is)) in
      ap (λ (b : Bool). b || (list_any (λ (entry : Held). passes_at other (leads_to (of_objects key)) entry.value) other.registers || list_any (passes_at other (leads_to (of_objects key))) other.ports)) objects
      ∙ ap (λ (b : Bool). list_any (object_tells key) parts.objects || (b || list_any (passes_at other (leads_to (of_objects key))) other.ports)) registers
      ∙ ap (λ (b : Bool). list_any (object_tells key) parts.objects || (list_any (λ (entry : Held). passes_at parts (leads_to key) entry.value) parts.registers || b)) ports
