-- What the post of a read says, together.
use Rattle.std.proofs.Common.{◌≡◌, ◌≢◌, ℕ, Bool, true, false, not, ◌&&◌, List, [], ◌∷◌, length, take, drop, nat_eq, nat_lt, Option, None, Some, refl, sym, ◌∙◌, ap, subst, eq-eqb, eqb-true}
use Rattle.std.specs.Prelude.{IsSome, Contains, option_map, if◌then◌else◌}
use Rattle.std.specs.List.{list_all}
use Rattle.std.specs.Option.{option_map_or}
use Rattle.std.proofs.lemmas.Bool.{false≢true}
use Rattle.graph.specs.declared.object.Object.{Object}
use Rattle.graph.specs.declared.object.Shape.TheVariants.{Region as RegionShape}
use Rattle.graph.specs.declared.parts.Held.{Held}
use Rattle.graph.specs.declared.parts.KeyedValue.{KeyedValue}
use Rattle.graph.specs.declared.parts.Parts.{Parts}
use Rattle.graph.specs.declared.post.Post.{Post}
use Rattle.graph.specs.declared.value.Target.TheVariants.{Region, First, Last, Each}
use Rattle.graph.specs.declared.value.Value.{Value}
use Rattle.graph.specs.declared.value.Value.TheVariants.{Const, Number, Any, Address}
use Rattle.graph.specs.Maps.{object_at, value_at, held_by}
use Rattle.graph.specs.Meaning.{maps_of}
use Rattle.graph.specs.Sizes.{value_size, is_scalar_size}
use Rattle.graph.specs.WellFormed.{IsWellFormed, passes_at, may_stand_in, may_be_held, target_fits, leads_to_object, are_ascending}
use Rattle.graph.specs.Whole.{IsGraph}
use Rattle.graph.proofs.Found.{found-all}
use Rattle.changes.specs.Parts.{emptied, without_registers, with_object, with_value}
use Rattle.changes.specs.Posted.{Posted, IsPost, SomeStandsFor}
use Rattle.changes.specs.Ranges.{meets_none, written_object}
use Rattle.changes.specs.Reaching.{reach_of, is_address_held}
use Rattle.changes.proofs.RangeForm.{fit_now, graph_written}
use Rattle.changes.proofs.Reached.{only_one, reach_graph, IsRoomAt, room_at}
use Rattle.changes.proofs.RegisterForm.{graph_without, graph_with}
use Rattle.changes.proofs.Value.{still}
use Rattle.changes.proofs.ValueForm.{IsFitValue, value_new, has_one_more, graph_with_value}
use Rattle.changes.specs.Following.{SomeFaults}
use Rattle.changes.specs.Following.{StepMeans, life}
use Rattle.reinterpret.specs.Means.{ReadTail}
use Rattle.reinterpret.specs.Reading.{value_of, readable, are_class, unknown, one_graph, with_fresh, read_by, value_read, read_post}
use Rattle.reinterpret.specs.States.{Reads, FaultsReading}
use Rattle.reinterpret.specs.Writing.{edge_at}
use Rattle.reinterpret.proofs.Into.{into_held}
use Rattle.reinterpret.proofs.Loaded.{value_of_passes}
use Rattle.reinterpret.proofs.ReadSound.{readable_is, fresh_fit, zero_fit, read_sound, read_kinds}
use Rattle.reinterpret.proofs.ReadExact.{target, target_value, post, read_follows}
use Rattle.changes.proofs.Accesses.{lives_replaced, kinds_ascend, kinds_met, all_kinds_met}
use Rattle.changes.specs.AnyWords.{MeetsListed}
use Rattle.changes.proofs.Shown.{IsShown}

-- what stands in a region may be held by a register
pub region_held : (parts : Parts) (key : ℕ) (object : Object) (at : ℕ) (value : Value) → IsWellFormed parts → object_at parts.objects key ≡ Some object → object.shape ≡ RegionShape → value_at parts.values at ≡ Some value → may_stand_in key value ≡ true → may_be_held value ≡ true
region_held parts key object at (Const number size) form stands region is may = refl
region_held parts key object at (Number size) form stands region is may = refl
region_held parts key object at Any form stands region is may = refl
region_held parts key object at (Address other offset Region) form stands region is may = refl
region_held parts key object at (Address other offset First) form stands region is may = refl
region_held parts key object at (Address other offset Last) form stands region is may = refl
region_held parts key object at (Address other offset Each) form stands region is may =
    let leads = found-all (λ (entry : KeyedValue). entry.key) (λ entry. entry.value) (leads_to_object parts) parts.values at (Address other offset Each) form.addresses_lead_to_objects is in
    let here = ap (object_at parts.objects) (eqb-true other key may) ∙ stands in
    absurd (false≢true (ap (target_fits Each) (sym region) ∙ subst (λ (o : Option Object). option_map_or (λ found. target_fits Each found.shape) o false ≡ true) here leads))

-- the tail of a graph in which the register gets a value
tail_into : (parts one : Parts) (gone : List ℕ) (into size key : ℕ) (value : Value) → IsGraph one → one.registers ≡ parts.registers → one.ports ≡ parts.ports → one.variables ≡ parts.variables → one.unequal ≡ parts.unequal →
    ((at : ℕ) → option_map life (object_at one.objects at) ≡ option_map life (object_at parts.objects at)) → ((at : ℕ) → IsSome (value_at parts.values at) → value_at one.values at ≡ value_at parts.values at) →
    value_at one.values key ≡ Some value → value_size value ≡ size → may_be_held value ≡ true → ReadTail parts gone into size (with_fresh gone into key one)
tail_into parts one gone into size key value graph registers ports variables unequal lives values is sized held = record {
  keeps = record {
    graph = graph_with into key (without_registers gone one) (ap (λ (o : Option Value). option_map_or may_be_held o false) is ∙ held) (graph_without gone one graph);
    ports = ports;
    variables = variables;
    unequal = unequal;
    lives = lives;
    values = values;
  };
  registers = λ register differ. into_held gone into key one register ∙ other register (nat_eq register into) refl differ ∙ ap (λ (rs : List Held). emptied gone (held_by rs) register) registers;
  key = key;
  value = value;
  held = into_held gone into key one into ∙ ap (λ (b : Bool). if b then Some key else emptied gone (held_by one.registers) into) (eq-eqb into into refl);
  is = is;
  size_is = sized;
}
  where
    other : (register : ℕ) (b : Bool) → nat_eq register into ≡ b → register ≢ into → (if b then Some key else emptied gone (held_by one.registers) register) ≡ emptied gone (held_by one.registers) register
    other register true same differ = absurd (differ (eqb-true _ _ same))
    other register false apart differ = refl

module _ (parts : Parts) (graph : IsGraph parts) (at size : ℕ) (pointer : Bool) (into : ℕ) (address : is_address_held parts at ≡ true) (scalar : is_scalar_size size ≡ true) (whole : pointer ≡ true → size ≡ 8) where
  abbrev gone : List ℕ
  gone = at ∷ []

  abbrev onward : ℕ → Object → ℕ → Posted
  onward = value_read parts gone into size pointer

  silent : (key from : ℕ) (object : Object) → (onward key object from).kinds ≡ []
  silent key from object = by_edge (readable parts pointer (value_of object.edges from size))
    where
      by_bytes : (a b : Bool) → (if a then one_graph (with_fresh gone into (length parts.values) (with_value (Const 0 size) parts)) None
          else (if b then one_graph (with_fresh gone into (length parts.values) (with_object key (written_object object (edge_at from size (length parts.values)) (Number size)) (with_value (Number size) parts))) None
          else one_graph (with_fresh gone into (length parts.values) (with_value (unknown pointer size (take size (drop from object.plane))) parts)) (Some 3))).kinds ≡ []
      by_bytes true b = refl
      by_bytes false true = refl
      by_bytes false false = refl

      by_edge : (found : Option ℕ) → (read_by found parts gone into size pointer key object from).kinds ≡ []
      by_edge (Some value) = refl
      by_edge None = by_bytes (are_class 0 object.plane from size) (are_class 1 object.plane from size && meets_none from size object.edges)

  read_faults : (kind : ℕ) → IsShown parts (target parts graph at size pointer into address scalar whole).0 size kind → SomeFaults parts (FaultsReading at size kind)
  read_faults kind shown = record {
    state = shown.state;
    is = shown.is;
    stands = record { given = shown.given; meets = shown.meets };
    faults = record {
      to = shown.given.word (target parts graph at size pointer into address scalar whole).0;
      address = shown.meets.registers at ∙ ap (option_map shown.given.word) (target parts graph at size pointer into address scalar whole).1;
      fault = shown.fault;
    };
  }

  read_met : (kind : ℕ) → (read_post parts at size pointer into).loss ≢ Some 4 → Contains (read_post parts at size pointer into).kinds kind → SomeFaults parts (FaultsReading at size kind)
  read_met kind precise listed =
      let is = post parts graph at size pointer into address scalar whole in
      read_faults kind
      (kinds_met parts graph (target parts graph at size pointer into address scalar whole).0 size (target_value parts graph at size pointer into address scalar whole) onward silent kind
      (λ any. precise (ap (λ (p : Posted). p.loss) is ∙ any)) (subst (λ (p : Posted). Contains p.kinds kind) is listed))

  -- through any word too, where with an object a region lives and the graph may have one object more
  pub read_listed : (given : Post) → IsPost (read_post parts at size pointer into) given → MeetsListed parts (λ kind. FaultsReading at size kind) given
  read_listed given is = record {
    met = λ place kind listed.
        let post_is = post parts graph at size pointer into address scalar whole in
        read_faults kind
        (all_kinds_met parts graph (target parts graph at size pointer into address scalar whole).0 size (target_value parts graph at size pointer into address scalar whole) onward silent kind place
        (subst (λ (p : Posted). Contains p.kinds kind) post_is (subst (λ (kinds : List ℕ). Contains kinds kind) is.kinds listed)));
  }

  more_tail : (value : Value) → IsFitValue parts value → value_size value ≡ size → ReadTail parts gone into size (with_fresh gone into (length parts.values) (with_value value parts))
  more_tail value fit sized =
      tail_into parts (with_value value parts) gone into size (length parts.values) value (graph_with_value value parts graph fit) refl refl refl refl (λ key. refl)
      (still (length parts.values) value (maps_of parts) (maps_of (with_value value parts)) (has_one_more value parts graph fit.held)) (value_new value parts graph) sized fit.held

  room_tail : (key from : ℕ) (object : Object) → object_at parts.objects key ≡ Some object → IsRoomAt parts (target parts graph at size pointer into address scalar whole).0 size key from object → (after : Parts) → Contains (onward key object from).graphs after → ReadTail parts gone into size after
  room_tail key from object stands room after among = by_edge (readable parts pointer (value_of object.edges from size)) refl among
    where
      moved : (one : Parts) → Contains (one ∷ []) after → ReadTail parts gone into size one → ReadTail parts gone into size after
      moved one among tail = subst (ReadTail parts gone into size) (only_one one after among) tail

      unknown_size : (b : Bool) → (pointer && b) ≡ (pointer && b) → value_size (if pointer && b then Any else Number size) ≡ size
      unknown_size b same = by_kind pointer refl b
        where
          by_kind : (p : Bool) → pointer ≡ p → (b : Bool) → value_size (if p && b then Any else Number size) ≡ size
          by_kind true is true = sym (whole is)
          by_kind true is false = refl
          by_kind false is b = refl

      unknown_tail : ReadTail parts gone into size (with_fresh gone into (length parts.values) (with_value (unknown pointer size (take size (drop from object.plane))) parts))
      unknown_tail = more_tail (unknown pointer size (take size (drop from object.plane))) (fresh_fit parts pointer size (take size (drop from object.plane)) scalar)
          (unknown_size (not (list_all (λ class. nat_lt class 2) (take size (drop from object.plane)))) refl)

      numbers_tail : ReadTail parts gone into size (with_fresh gone into (length parts.values) (with_object key (written_object object (edge_at from size (length parts.values)) (Number size)) (with_value (Number size) parts)))
      numbers_tail =
          let fit : IsFitValue parts (Number size) = record { sized = scalar; leads = refl; held = refl } in
          let more = with_value (Number size) parts in
          let object' = written_object object (edge_at from size (length parts.values)) (Number size) in
          tail_into parts (with_object key object' more) gone into size (length parts.values) (Number size)
          (graph_written more key object (edge_at from size (length parts.values)) (Number size) (graph_with_value (Number size) parts graph fit) stands room.region room.live room.room (value_new (Number size) parts graph) refl refl)
          refl refl refl refl (lives_replaced key object object' more stands refl)
          (still (length parts.values) (Number size) (maps_of parts) (maps_of more) (has_one_more (Number size) parts graph refl)) (value_new (Number size) parts graph) refl refl

      by_bytes : (a b c : Bool) → Contains (if a then one_graph (with_fresh gone into (length parts.values) (with_value (Const 0 size) parts)) None
          else (if b && c then one_graph (with_fresh gone into (length parts.values) (with_object key (written_object object (edge_at from size (length parts.values)) (Number size)) (with_value (Number size) parts))) None
          else one_graph (with_fresh gone into (length parts.values) (with_value (unknown pointer size (take size (drop from object.plane))) parts)) (Some 3))).graphs after → ReadTail parts gone into size after
      by_bytes true b c among = moved (with_fresh gone into (length parts.values) (with_value (Const 0 size) parts)) among (more_tail (Const 0 size) (zero_fit parts size scalar) refl)
      by_bytes false true true among = moved (with_fresh gone into (length parts.values) (with_object key (written_object object (edge_at from size (length parts.values)) (Number size)) (with_value (Number size) parts))) among numbers_tail
      by_bytes false true false among = moved (with_fresh gone into (length parts.values) (with_value (unknown pointer size (take size (drop from object.plane))) parts)) among unknown_tail
      by_bytes false false c among = moved (with_fresh gone into (length parts.values) (with_value (unknown pointer size (take size (drop from object.plane))) parts)) among unknown_tail

      by_edge : (found : Option ℕ) → readable parts pointer (value_of object.edges from size) ≡ found → Contains (read_by found parts gone into size pointer key object from).graphs after → ReadTail parts gone into size after
      by_edge None read among = by_bytes (are_class 0 object.plane from size) (are_class 1 object.plane from size) (meets_none from size object.edges) among
      by_edge (Some value_key) read among =
          let fit = fit_now parts graph.well_formed key object stands room.region room.live in
          let found = readable_is parts pointer object.edges from size value_key fit.sizes read in
          let home = value_of_passes (λ edge. passes_at parts (may_stand_in key) edge.value) object.edges from size value_key found.is fit.home in
          let may = subst (λ (o : Option Value). option_map_or (may_stand_in key) o false ≡ true) found.stands home in
          moved (with_fresh gone into value_key parts) among
          (tail_into parts parts gone into size value_key found.value graph refl refl refl refl (λ at. refl) (λ at some. refl) found.stands found.size_is
          (region_held parts key object value_key found.value graph.well_formed stands room.region found.stands may))

  read_tail : (after : Parts) → Contains (read_post parts at size pointer into).graphs after → ReadTail parts gone into size after
  read_tail after among =
      let reached = reach_graph parts (reach_of parts (target parts graph at size pointer into address scalar whole).0 size) onward after (subst (λ (p : Posted). Contains p.graphs after) (post parts graph at size pointer into address scalar whole) among) in
      let value = target_value parts graph at size pointer into address scalar whole in
      room_tail reached.key reached.from reached.object reached.stands
      (room_at parts (target parts graph at size pointer into address scalar whole).0 size reached.key reached.from reached.object value.value graph.well_formed value.is value.names reached.is reached.stands) after reached.among

  pub read_means : (given : Post) → IsPost (read_post parts at size pointer into) given → StepMeans parts (Reads at size pointer into) (λ kind. FaultsReading at size kind) (ReadTail parts gone into size) given
  read_means given is = record {
    sound = λ state next is_state stands steps precise.
        subst (λ (graphs : List Parts). SomeStandsFor graphs next) (sym is.graphs) (read_sound parts graph at size pointer into scalar whole address state next is_state stands steps (λ any. precise (is.loss ∙ any)));
    exact = λ after next none among is_state stands.
        read_follows parts graph at size pointer into address scalar whole after next (sym is.loss ∙ none) (subst (λ (graphs : List Parts). Contains graphs after) is.graphs among) is_state stands;
    kinds = λ state kind stands faults. subst (λ (kinds : List ℕ). Contains kinds kind) (sym is.kinds) (read_kinds parts graph at size pointer into scalar whole address state kind stands faults);
    met = λ kind precise listed. read_met kind (λ any. precise (is.loss ∙ any)) (subst (λ (kinds : List ℕ). Contains kinds kind) is.kinds listed);
    ascending = ap are_ascending (is.kinds ∙ ap (λ (p : Posted). p.kinds) (post parts graph at size pointer into address scalar whole))
        ∙ kinds_ascend parts (reach_of parts (target parts graph at size pointer into address scalar whole).0 size) onward silent;
    tail = λ after among. read_tail after (subst (λ (graphs : List Parts). Contains graphs after) is.graphs among);
  }
