-- Other keys, one to one, keep what a graph stands for.
use Rattle.std.proofs.Common.{◌≡◌, ℕ, true, false, not, List, [], ◌∷◌, map, Option, None, Some, nat_eq, refl, sym, ◌∙◌, ap, subst}
use Rattle.std.specs.Prelude.{IsSome, option_map, ◌↔◌}
use Rattle.std.specs.List.{list_all}
use Rattle.std.specs.Option.{option_map_or}
use Rattle.graph.specs.declared.edges.HasValue.{HasValue}
use Rattle.graph.specs.declared.object.Object.{Object}
use Rattle.graph.specs.declared.object.Shape.{Shape}
use Rattle.graph.specs.declared.object.Shape.TheVariants.{Region, Segment}
use Rattle.graph.specs.declared.template.Node.{Node}
use Rattle.graph.specs.declared.value.Value.{Value}
use Rattle.graph.specs.declared.value.Value.TheVariants.{Const, Number, Any, Address}
use Rattle.graph.specs.declared.parts.KeyedObject.{KeyedObject}
use Rattle.graph.specs.declared.parts.KeyedValue.{KeyedValue}
use Rattle.graph.specs.declared.parts.Named.{Named}
use Rattle.graph.specs.declared.parts.Held.{Held}
use Rattle.graph.specs.declared.parts.Pair.{Pair}
use Rattle.graph.specs.declared.parts.Parts.{Parts}
use Rattle.graph.specs.Maps.{object_at, value_at, storage_of, held_by}
use Rattle.graph.specs.Renaming.{renamed, renamed_edge, renamed_node, renamed_shape, renamed_object, renamed_value, renamed_pair}
use Rattle.graph.specs.WellFormed.{IsWellFormed, passes_at, may_be_held, leads_to_object, is_storage, is_unequal_pair, may_be_unequal, target_fits}
use Rattle.graph.specs.State.{State}
use Rattle.graph.specs.Meaning.{maps_of, StandsFor}
use Rattle.graph.specs.Nodes.{own_node}
use Rattle.graph.specs.Closed.{OnEdges, OnNamed, IsClosed}
use Rattle.graph.specs.Laws.{IsRenaming}
use Rattle.graph.specs.Handed.{IsHandedOn, RenamingHandsOn}
use Rattle.graph.proofs.Tests.{and_left, and_right}
use Rattle.graph.proofs.Found.{Holds-some, IsSome-holds, WasFound-renamed, found-changed, found-all, back_in, back_in-same}
use Rattle.graph.proofs.Sent.{passes-some, object_sent as object_goes, value_sent as value_goes, object_back as object_comes_back, object_same as object_is_same}
use Rattle.graph.proofs.Closed.{closed_of, own_edges_there}
use Rattle.graph.proofs.Reformed.{renaming_keeps_form}
use Rattle.graph.proofs.Pulled.{IsSent, pulled, Meets-pulled}

module _ (of_objects of_values : ℕ → ℕ) (parts : Parts) (renaming : IsRenaming of_objects of_values parts) where
  -- the old keys of new ones
  abbrev pub old_object : ℕ → ℕ
  old_object key = back_in (λ (entry : KeyedObject). entry.key) (λ entry. entry.object) of_objects parts.objects key

  abbrev pub old_value : ℕ → ℕ
  old_value key = back_in (λ (entry : KeyedValue). entry.key) (λ entry. entry.value) of_values parts.values key

  abbrev pub other : Parts
  other = renamed of_objects of_values parts

  object_sent : (key : ℕ) (object : Object) → object_at parts.objects key ≡ Some object → object_at other.objects (of_objects key) ≡ Some (renamed_object of_values object)
  object_sent key object stands = object_goes of_objects of_values parts renaming key object stands

  value_sent : (key : ℕ) (value : Value) → value_at parts.values key ≡ Some value → value_at other.values (of_values key) ≡ Some (renamed_value of_objects value)
  value_sent key value stands = value_goes of_objects of_values parts renaming key value stands

  object_back : (key : ℕ) → IsSome (object_at other.objects key) → IsSome (object_at parts.objects (old_object key)) × (of_objects (old_object key) ≡ key)
  object_back key some = object_comes_back of_objects of_values parts renaming key some

  object_same : (key : ℕ) → IsSome (object_at parts.objects key) → old_object (of_objects key) ≡ key
  object_same key some = object_is_same of_objects of_values parts renaming key some

  value_same : (key : ℕ) → IsSome (value_at parts.values key) → old_value (of_values key) ≡ key
  value_same key some =
      back_in-same (λ (entry : KeyedValue). entry.key) (λ entry. entry.value) (λ (entry : KeyedValue). entry.key) (λ entry. entry.value)
      (λ entry. record { key = of_values entry.key; value = renamed_value of_objects entry.value }) of_values (renamed_value of_objects) (λ _. refl) (λ _. refl)
      parts.values key renaming.values some

  variable_sent : (variable : ℕ) → storage_of other.variables variable ≡ option_map of_objects (storage_of parts.variables variable)
  variable_sent variable =
      found-changed (λ (named : Named). named.variable) (λ named. named.object) (λ (named : Named). named.variable) (λ named. named.object)
      (λ named. record { variable = named.variable; object = of_objects named.object }) of_objects (λ _. refl) (λ _. refl) parts.variables variable

  register_sent : (register : ℕ) → held_by other.registers register ≡ option_map of_values (held_by parts.registers register)
  register_sent register =
      found-changed (λ (held : Held). held.register) (λ held. held.value) (λ (held : Held). held.register) (λ held. held.value)
      (λ held. record { register = held.register; value = of_values held.value }) of_values (λ _. refl) (λ _. refl) parts.registers register

  module _ (well_formed : IsWellFormed parts) where
    closed : IsClosed (maps_of parts)
    closed = closed_of parts well_formed

    -- from the old keys to the new ones
    sent : IsSent (maps_of parts) (maps_of other) of_objects of_values old_object
    sent = record {
      closed = closed_of parts well_formed;
      objects = object_sent;
      values = value_sent;
      same = object_same;
      all = object_back;
      variables = variable_sent;
      registers = register_sent;
      ports = refl;
      unequal = refl;
    }

    pub StandsFor-old : (state : State) → StandsFor other state → StandsFor parts state
    StandsFor-old state stands = record {
      given = _;
      meets = Meets-pulled (maps_of parts) (maps_of other) of_objects of_values old_object sent state stands.given stands.meets;
    }

    edges_kept : (edges : List HasValue) → OnEdges (λ key. IsSome (value_at parts.values key)) edges → map (renamed_edge old_value) (map (renamed_edge of_values) edges) ≡ edges
    edges_kept [] all = refl
    edges_kept (edge ∷ rest) all =
        let one : renamed_edge old_value (renamed_edge of_values edge) ≡ edge =
        ap (λ (value : ℕ). record edge { value = value }) (value_same edge.value all.0) in
        let others = edges_kept rest all.1 in
        rw (one, others) refl

    node_kept : (node : Node) → OnEdges (λ key. IsSome (value_at parts.values key)) node.edges → renamed_node old_value (renamed_node of_values node) ≡ node
    node_kept node all = ap (λ (edges : List HasValue). record node { edges = edges }) (edges_kept node.edges all)

    shape_kept : (shape : Shape) (own : Node) → OnNamed (λ key. IsSome (value_at parts.values key)) shape own → renamed_shape old_value (renamed_shape of_values shape) ≡ shape
    shape_kept Region own all = refl
    shape_kept (Segment twofold head next prev back least next_value prev_value node) own (edges, (after, before)) =
        ap (λ (key : ℕ). Segment twofold head next prev back least key (old_value (of_values prev_value)) (renamed_node old_value (renamed_node of_values node))) (value_same next_value after)
        ∙ ap (λ (key : ℕ). Segment twofold head next prev back least next_value key (renamed_node old_value (renamed_node of_values node))) (value_same prev_value before)
        ∙ ap (λ (n : Node). Segment twofold head next prev back least next_value prev_value n) (node_kept node edges)

    object_kept : (key : ℕ) (object : Object) → object_at parts.objects key ≡ Some object → renamed_object old_value (renamed_object of_values object) ≡ object
    object_kept key object stands =
        ap (λ (shape : Shape). record object { shape = shape; edges = map (renamed_edge old_value) (map (renamed_edge of_values) object.edges) })
        (shape_kept object.shape (own_node object) (closed.objects key object stands))
        ∙ ap (λ (edges : List HasValue). record object { edges = edges }) (edges_kept object.edges (own_edges_there parts well_formed key object stands))

    value_kept : (value : Value) → leads_to_object parts value ≡ true → renamed_value old_object (renamed_value of_objects value) ≡ value
    value_kept (Const number size) leads = refl
    value_kept (Number size) leads = refl
    value_kept Any leads = refl
    value_kept (Address object offset target) leads =
        ap (λ (key : ℕ). Address key offset target) (object_same object (passes-some (λ found. target_fits target found.shape) (object_at parts.objects object) leads))

    objects_from_new : (key : ℕ) (object : Object) → object_at other.objects key ≡ Some object → object_at parts.objects (old_object key) ≡ Some (renamed_object old_value object)
    objects_from_new key object stands =
        let was = WasFound-renamed (λ (entry : KeyedObject). entry.key) (λ entry. entry.object) (λ (entry : KeyedObject). entry.key) (λ entry. entry.object)
        (λ entry. record { key = of_objects entry.key; object = renamed_object of_values entry.object }) of_objects (renamed_object of_values) (λ _. refl) (λ _. refl)
        parts.objects key object stands in
        let key_is : old_object key ≡ was.old_key = ap old_object (sym was.new_key) ∙ object_same was.old_key (IsSome-holds _ _ was.stands) in
        ap (object_at parts.objects) key_is ∙ was.stands ∙ ap Some (sym (object_kept was.old_key was.old was.stands) ∙ ap (renamed_object old_value) was.new)

    values_from_new : (key : ℕ) (value : Value) → value_at other.values key ≡ Some value → value_at parts.values (old_value key) ≡ Some (renamed_value old_object value)
    values_from_new key value stands =
        let was = WasFound-renamed (λ (entry : KeyedValue). entry.key) (λ entry. entry.value) (λ (entry : KeyedValue). entry.key) (λ entry. entry.value)
        (λ entry. record { key = of_values entry.key; value = renamed_value of_objects entry.value }) of_values (renamed_value of_objects) (λ _. refl) (λ _. refl)
        parts.values key value stands in
        let key_is : old_value key ≡ was.old_key = ap old_value (sym was.new_key) ∙ value_same was.old_key (IsSome-holds _ _ was.stands) in
        let leads = found-all (λ (entry : KeyedValue). entry.key) (λ entry. entry.value) (leads_to_object parts) parts.values was.old_key was.old
        well_formed.addresses_lead_to_objects was.stands in
        ap (value_at parts.values) key_is ∙ was.stands ∙ ap Some (sym (value_kept was.old leads) ∙ ap (renamed_value old_object) was.new)

    keys_kept : (keys : List ℕ) → list_all (passes_at parts may_be_held) keys ≡ true → keys ≡ map old_value (map of_values keys)
    keys_kept [] all = refl
    keys_kept (key ∷ rest) all =
        let one : old_value (of_values key) ≡ key =
        value_same key (passes-some may_be_held (value_at parts.values key) (and_left (passes_at parts may_be_held key) (list_all (passes_at parts may_be_held) rest) all)) in
        let others : rest ≡ map old_value (map of_values rest) = keys_kept rest (and_right (passes_at parts may_be_held key) (list_all (passes_at parts may_be_held) rest) all) in
        rw (one, ← others) refl

    pair_kept : (pair : Pair) → is_unequal_pair parts pair ≡ true → renamed_pair old_value (renamed_pair of_values pair) ≡ pair
    pair_kept pair unequal =
        let both = and_right (not (nat_eq pair.left pair.right)) (passes_at parts (λ one. passes_at parts (may_be_unequal one) pair.right) pair.left) unequal in
        let held = Holds-some (value_at parts.values pair.left) (passes-some (λ one. passes_at parts (may_be_unequal one) pair.right) (value_at parts.values pair.left) both) in
        let right = subst (λ (o : Option Value). option_map_or (λ one. passes_at parts (may_be_unequal one) pair.right) o false ≡ true) held.is both in
        let left_is : old_value (of_values pair.left) ≡ pair.left = value_same pair.left (IsSome-holds _ _ held.is) in
        let right_is : old_value (of_values pair.right) ≡ pair.right = value_same pair.right (passes-some (may_be_unequal held.item) (value_at parts.values pair.right) right) in
        ap (λ (left : ℕ). record { left = left; right = old_value (of_values pair.right) }) left_is ∙ ap (λ (right : ℕ). record { left = pair.left; right = right }) right_is

    pairs_kept : (pairs : List Pair) → list_all (is_unequal_pair parts) pairs ≡ true → pairs ≡ map (renamed_pair old_value) (map (renamed_pair of_values) pairs)
    pairs_kept [] all = refl
    pairs_kept (pair ∷ rest) all =
        let one : renamed_pair old_value (renamed_pair of_values pair) ≡ pair = pair_kept pair (and_left (is_unequal_pair parts pair) (list_all (is_unequal_pair parts) rest) all) in
        let others : rest ≡ map (renamed_pair old_value) (map (renamed_pair of_values) rest) = pairs_kept rest (and_right (is_unequal_pair parts pair) (list_all (is_unequal_pair parts) rest) all) in
        sym (ap (λ (p : Pair). p ∷ map (renamed_pair old_value) (map (renamed_pair of_values) rest)) one ∙ ap (λ (ps : List Pair). pair ∷ ps) (sym others))

    option_kept : (back rename : ℕ → ℕ) (o : Option ℕ) → ((key : ℕ) → o ≡ Some key → back (rename key) ≡ key) → o ≡ option_map back (option_map rename o)
    option_kept back rename None same = refl
    option_kept back rename (Some key) same = ap Some (sym (same key refl))

    variables_from_new : (variable : ℕ) → storage_of parts.variables variable ≡ option_map old_object (storage_of other.variables variable)
    variables_from_new variable =
        option_kept old_object of_objects (storage_of parts.variables variable)
        (λ key stands. object_same key (passes-some is_storage (object_at parts.objects key)
        (found-all (λ (named : Named). named.variable) (λ named. named.object) (λ key. option_map_or is_storage (object_at parts.objects key) false) parts.variables variable key
        well_formed.variables_have_storage stands)))
        ∙ ap (option_map old_object) (sym (variable_sent variable))

    registers_from_new : (register : ℕ) → held_by parts.registers register ≡ option_map old_value (held_by other.registers register)
    registers_from_new register =
        option_kept old_value of_values (held_by parts.registers register)
        (λ key stands. value_same key (passes-some may_be_held (value_at parts.values key) (found-all (λ (held : Held). held.register) (λ held. held.value) (passes_at parts may_be_held) parts.registers register key well_formed.registers_hold_values stands)))
        ∙ ap (option_map old_value) (sym (register_sent register))

    -- and back
    sent_back : IsSent (maps_of other) (maps_of parts) old_object old_value of_objects
    sent_back = record {
      closed = closed_of other (renaming_keeps_form of_objects of_values parts renaming well_formed);
      objects = objects_from_new;
      values = values_from_new;
      same = λ key some. (object_back key some).1;
      all = λ key some. (let held = Holds-some (object_at parts.objects key) some in IsSome-holds _ _ (object_sent key held.item held.is), object_same key some);
      variables = variables_from_new;
      registers = registers_from_new;
      ports = keys_kept parts.ports well_formed.ports_are_values;
      unequal = pairs_kept parts.unequal well_formed.pairs_may_be_unequal;
    }

    pub StandsFor-new : (state : State) → StandsFor parts state → StandsFor other state
    StandsFor-new state stands = record {
      given = _;
      meets = Meets-pulled (maps_of other) (maps_of parts) old_object old_value of_objects sent_back state stands.given stands.meets;
    }

    pub handed_on : (state : State) → IsHandedOn of_objects of_values parts state
    handed_on state = record {
      onward = λ given meets. (
        pulled old_object old_value of_objects given,
        Meets-pulled (maps_of other) (maps_of parts) old_object old_value of_objects sent_back state given meets,
        record { words = λ key some. ap given.word (value_same key some); blocks = λ key some. ap given.blocks (object_same key some) },
      );
      backward = λ given meets. (
        pulled of_objects of_values old_object given,
        Meets-pulled (maps_of parts) (maps_of other) of_objects of_values old_object sent state given meets,
        record { words = λ key some. refl; blocks = λ key some. refl },
      );
    }

pub renaming_hands_on : RenamingHandsOn
renaming_hands_on of_objects of_values parts state renaming well_formed = handed_on of_objects of_values parts renaming well_formed state

-- one to one, new keys keep what a graph stands for
pub renaming_keeps : (of_objects of_values : ℕ → ℕ) (parts : Parts) (state : State) → IsRenaming of_objects of_values parts → IsWellFormed parts →
    (StandsFor (renamed of_objects of_values parts) state ↔ StandsFor parts state)
renaming_keeps of_objects of_values parts state renaming well_formed =
    (StandsFor-old of_objects of_values parts renaming well_formed state, StandsFor-new of_objects of_values parts renaming well_formed state)
