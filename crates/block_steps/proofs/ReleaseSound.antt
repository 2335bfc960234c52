-- The graph of a release's post stands for each state that follows, but through any word; and each fault that is met is listed.
use Rattle.std.proofs.Common.{◌≡◌, ◌≢◌, ℕ, Bool, true, false, ◌&&◌, List, [], ◌∷◌, set, ℤ, pos, nat_eq, Option, None, Some, refl, sym, ◌∙◌, ap, subst, ◌⊎◌, inl, inr, arith}
use Rattle.std.specs.Prelude.{slice_get, Contains, option_map, if◌then◌else◌}
use Rattle.std.specs.Ordering.{int_eq}
use Rattle.std.proofs.lemmas.Option.{same_Some, none-some}
use Rattle.bytes_core.specs.declared.block.Block.{Block}
use Rattle.bytes_core.specs.declared.word.Word.{Word}
use Rattle.bytes_core.specs.declared.word.Word.TheVariants.{To}
use Rattle.bytes_core.specs.Fault.{double_free, invalid_free}
use Rattle.bytes_core.specs.Release.{is_heap, free_fault, freed, without}
use Rattle.graph.specs.declared.object.Object.{Object}
use Rattle.graph.specs.declared.parts.Parts.{Parts}
use Rattle.graph.specs.declared.value.Target.{Target}
use Rattle.graph.specs.declared.value.Target.TheVariants.{Region}
use Rattle.graph.specs.declared.value.Value.{Value}
use Rattle.graph.specs.declared.value.Value.TheVariants.{Const, Number, Any, Address}
use Rattle.graph.specs.Maps.{object_at, value_at, held_by}
use Rattle.graph.specs.Sizes.{value_size}
use Rattle.graph.specs.State.{State, IsState}
use Rattle.graph.specs.WellFormed.{IsWellFormed}
use Rattle.graph.specs.Whole.{IsGraph}
use Rattle.graph.specs.Meaning.{maps_of, Assignment, Meets, StandsFor}
use Rattle.changes.specs.Dying.{died}
use Rattle.changes.specs.Following.{Leaves}
use Rattle.changes.specs.Parts.{emptied, with_object, without_registers}
use Rattle.changes.specs.Posted.{Posted, on_held, on_object, SomeStandsFor}
use Rattle.changes.specs.Reaching.{is_excluded, is_address_held, names_no_segment}
use Rattle.changes.proofs.Died.{dead, died_meets}
use Rattle.changes.proofs.Emptied.{emptied_meets}
use Rattle.changes.proofs.Held.{IsHeldAs, held_as, IsAddress, address_at}
use Rattle.changes.proofs.Meeting.{region_target, has_block, word_of}
use Rattle.changes.proofs.Region.{with_block}
use Rattle.changes.proofs.RegistersChanged.{without_agrees, held_without, registers_changed, emptied-words}
use Rattle.block_steps.specs.Releasing.{Releases, FaultsReleasing, with_null, only_graph, object_released, value_released, release_post, IsRegionFound}
use Rattle.block_steps.proofs.ReleaseFault.{object_fault, region_of, one_of_two, constant_fault, address_fault}
use Rattle.block_steps.proofs.ReleaseNumber.{null_meets, excluded_faults}

-- the post where the register holds a value
pub release_held : (parts : Parts) (at key : ℕ) (value : Value) → held_by parts.registers at ≡ Some key → value_at parts.values key ≡ Some value → release_post parts at ≡ value_released parts (at ∷ []) key (Some value)
release_held parts at key value held is =
    ap (λ (o : Option ℕ). on_held o (λ key. value_released parts (at ∷ []) key (value_at parts.values key))) held
    ∙ ap (value_released parts (at ∷ []) key) is

-- the post of an address
pub address_released : (parts : Parts) (gone : List ℕ) (key object : ℕ) (offset : ℤ) (found : Object) → object_at parts.objects object ≡ Some found →
    value_released parts gone key (Some (Address object offset Region)) ≡ object_released parts gone object offset found
address_released parts gone key object offset found is = ap (λ (o : Option Object). on_object o (object_released parts gone object offset)) is

-- a release of a block that is there
pub freed_is : (memory : List Block) (number : ℕ) (offset : ℤ) (block : Block) → slice_get memory number ≡ Some block → freed memory (To number offset) ≡ set memory number (dead block)
freed_is memory number offset block there = ap (without memory number) there

-- where a graph is all that comes
pub only_stands : (posted : Posted) (graph : Parts) (next : State) → posted ≡ only_graph graph → StandsFor graph next → SomeStandsFor posted.graphs next
only_stands posted graph next is stands = record { graph = graph; among = subst (λ (p : Posted). Contains p.graphs graph) (sym is) (0, omega arith, refl); stands = stands }

-- the tests of an object
pub record IsReleasable (object : Object) (offset : ℤ) : Type 0 where
  pub here : (is_heap object.kind && int_eq offset (pos 0)) ≡ true
  pub live : object.live ≡ true

pub releasable : (object : Object) (offset : ℤ) → object_fault object offset ≡ None → IsReleasable object offset
releasable object offset none = by_tests (is_heap object.kind && int_eq offset (pos 0)) refl object.live refl none
  where
    by_tests : (b : Bool) → (is_heap object.kind && int_eq offset (pos 0)) ≡ b → (c : Bool) → object.live ≡ c → (if b then (if c then None else Some double_free) else Some invalid_free) ≡ None → IsReleasable object offset
    by_tests true here true live none = record { here = here; live = live }
    by_tests true here false dies none = absurd (none-some double_free (sym none))
    by_tests false elsewhere c live none = absurd (none-some invalid_free (sym none))

pub released_is : (parts : Parts) (gone : List ℕ) (key : ℕ) (offset : ℤ) (object : Object) → IsReleasable object offset →
    object_released parts gone key offset object ≡ only_graph (without_registers gone (with_object key (died object) parts))
released_is parts gone key offset object may =
    ap (λ (b : Bool). if b then (if object.live then only_graph (without_registers gone (with_object key (died object) parts)) else record { graphs = []; kinds = double_free ∷ []; loss = None }) else record { graphs = []; kinds = invalid_free ∷ []; loss = None }) may.here
    ∙ ap (λ (b : Bool). if b then only_graph (without_registers gone (with_object key (died object) parts)) else record { graphs = []; kinds = double_free ∷ []; loss = None }) may.live

-- the fault of a release is listed
pub object_listed : (parts : Parts) (gone : List ℕ) (key : ℕ) (offset : ℤ) (object : Object) (kind : ℕ) → object_fault object offset ≡ Some kind → Contains (object_released parts gone key offset object).kinds kind
object_listed parts gone key offset object kind is = by_tests (is_heap object.kind && int_eq offset (pos 0)) object.live is
  where
    by_tests : (b c : Bool) → (if b then (if c then None else Some double_free) else Some invalid_free) ≡ Some kind →
        Contains (if b then (if c then only_graph (without_registers gone (with_object key (died object) parts)) else record { graphs = []; kinds = double_free ∷ []; loss = None }) else record { graphs = []; kinds = invalid_free ∷ []; loss = None }).kinds kind
    by_tests true true is = absurd (none-some kind is)
    by_tests true false is = (0, omega arith, same_Some _ _ is)
    by_tests false c is = (0, omega arith, same_Some _ _ is)

module _ (parts : Parts) (graph : IsGraph parts) (at : ℕ) (address : is_address_held parts at ≡ true) where
  abbrev form : IsWellFormed parts
  form = graph.well_formed

  abbrev gone : List ℕ
  gone = at ∷ []

  -- an object that dies is one whose block does
  pub released_meets : (state next : State) (given : Assignment) (key object number : ℕ) (offset : ℤ) (found : Object) (block : Block) → Meets (maps_of parts) state given → object_at parts.objects object ≡ Some found →
      given.blocks object ≡ number ∷ [] → slice_get state.memory number ≡ Some block → block.kind ≡ found.kind → given.word key ≡ To number offset →
      Leaves (freed state.memory (given.word key)) (emptied gone state.registers) state next → Meets (maps_of (without_registers gone (with_object object (died found) parts))) next given
  released_meets state next given key object number offset found block meets is blocks there kind word leaves =
      registers_changed (maps_of after) (maps_of (without_registers gone after)) middle next given (without_agrees gone after)
      (record { memory = leaves.memory ∙ ap (freed state.memory) word ∙ freed_is state.memory number offset block there; variables = leaves.variables; ports = leaves.ports; roots = leaves.roots })
      (λ register. leaves.registers register ∙ emptied-words given.word gone (held_by parts.registers) state.registers register (meets.registers register) ∙ ap (option_map given.word) (sym (held_without gone after register)))
      (died_meets parts object found is state given number block meets blocks there kind)
    where
      after : Parts
      after = with_object object (died found) parts

      middle : State
      middle = with_block state number (dead block)

  pub release_sound : (state next : State) → IsState state → StandsFor parts state → Releases at state next → (release_post parts at).loss ≢ Some 4 → SomeStandsFor (release_post parts at).graphs next
  release_sound state next is stands releases precise = by_value target_value.value target_value.is target_value.names target_value.size
    where
      given : Assignment
      given = stands.given

      target : IsHeldAs parts given at releases.to
      target = held_as parts state given at releases.to stands.meets releases.address

      target_value : IsAddress parts target.key
      target_value = address_at parts at target.key target.held address

      register : state.registers at ≡ Some (given.word target.key)
      register = releases.address ∙ ap Some (sym target.word_is)

      allowed : free_fault state.memory (given.word target.key) ≡ None
      allowed = ap (free_fault state.memory) target.word_is ∙ releases.allowed

      leaves : Leaves (freed state.memory (given.word target.key)) (emptied gone state.registers) state next
      leaves = subst (λ (w : Word). Leaves (freed state.memory w) (emptied gone state.registers) state next) (sym target.word_is) releases.leaves

      null : (number size : ℕ) → value_at parts.values target.key ≡ Some (Const number size) → (b : Bool) → nat_eq number 0 ≡ b → (if b then None else Some invalid_free) ≡ None → SomeStandsFor (release_post parts at).graphs next
      null number size stands' false differ none = absurd (none-some invalid_free (sym none))
      null number size stands' true same none =
          only_stands (release_post parts at) (without_registers gone parts) next
          (release_held parts at target.key (Const number size) target.held stands' ∙ ap (λ (b : Bool). if b then only_graph (without_registers gone parts) else record { graphs = []; kinds = invalid_free ∷ []; loss = None }) same)
          (record {
            given = given;
            meets = emptied_meets gone parts graph state next given
                (subst (λ (memory : List Block). Leaves memory (emptied gone state.registers) state next) (ap (freed state.memory) (stands.meets.values target.key (Const number size) stands')) leaves) stands.meets;
          })

      object : (key : ℕ) (offset : ℤ) → value_at parts.values target.key ≡ Some (Address key offset Region) → SomeStandsFor (release_post parts at).graphs next
      object key offset stands' =
          only_stands (release_post parts at) (without_registers gone (with_object key (died region.found) parts)) next
          (release_held parts at target.key (Address key offset Region) target.held stands' ∙ address_released parts gone target.key key offset region.found region.is ∙ released_is parts gone key offset region.found may)
          (let has = has_block parts state given form stands.meets target.key 0 key region.found region.is may.live region.region in
          record {
            given = given;
            meets = released_meets state next given target.key key has.number offset region.found has.at_number.block stands.meets region.is has.blocks has.at_number.there has.at_number.node.kind
                (word_of parts state given form stands.meets target.key 0 key has.number offset stands' has.blocks) leaves;
          })
        where
          region : IsRegionFound parts key
          region = region_of parts target.key key offset form stands'

          may : IsReleasable region.found offset
          may = releasable region.found offset (sym (address_fault parts form state given is stands.meets at target.key register key offset region.found stands' region.is region.region) ∙ allowed)

      number : value_at parts.values target.key ≡ Some (Number 8) → SomeStandsFor (release_post parts at).graphs next
      number stands' = by_test (is_excluded parts target.key 0) refl
        where
          by_test : (b : Bool) → is_excluded parts target.key 0 ≡ b → SomeStandsFor (release_post parts at).graphs next
          by_test true excluded = absurd (excluded_faults parts graph target.key stands' state given stands.meets excluded allowed)
          by_test false free = record {
            graph = without_registers gone (with_null target.key parts);
            among = subst (λ (p : Posted). Contains p.graphs (without_registers gone (with_null target.key parts))) (sym (release_held parts at target.key (Number 8) target.held stands'))
                (subst (λ (b : Bool). Contains (if b then [] else without_registers gone (with_null target.key parts) ∷ []) (without_registers gone (with_null target.key parts))) (sym free) (0, omega arith, refl));
            stands = let met = null_meets parts graph target.key stands' at state next given stands.meets allowed leaves in record { given = met.0; meets = met.1 };
          }

      by_value : (value : Value) → value_at parts.values target.key ≡ Some value → names_no_segment value ≡ true → value_size value ≡ 8 → SomeStandsFor (release_post parts at).graphs next
      by_value (Const number size) stands' names sized =
          null number size stands' (nat_eq number 0) refl (sym (constant_fault parts form state given is stands.meets at target.key register number size stands') ∙ allowed)
      by_value (Number size) stands' names sized = number (stands' ∙ ap (λ (n : ℕ). Some (Number n)) sized)
      by_value Any stands' names sized = absurd (precise (ap (λ (p : Posted). p.loss) (release_held parts at target.key Any target.held stands')))
      by_value (Address key offset t) stands' names sized = object key offset (stands' ∙ ap (λ (t : Target). Some (Address key offset t)) (region_target key offset t names))

  pub release_kinds : (state : State) (kind : ℕ) → IsState state → StandsFor parts state → FaultsReleasing at kind state → Contains (release_post parts at).kinds kind
  release_kinds state kind is stands faults = by_value target_value.value target_value.is target_value.names
    where
      given : Assignment
      given = stands.given

      target : IsHeldAs parts given at faults.to
      target = held_as parts state given at faults.to stands.meets faults.address

      target_value : IsAddress parts target.key
      target_value = address_at parts at target.key target.held address

      register : state.registers at ≡ Some (given.word target.key)
      register = faults.address ∙ ap Some (sym target.word_is)

      fault : free_fault state.memory (given.word target.key) ≡ Some kind
      fault = ap (free_fault state.memory) target.word_is ∙ faults.fault

      listed : (value : Value) → value_at parts.values target.key ≡ Some value → Contains (value_released parts gone target.key (Some value)).kinds kind → Contains (release_post parts at).kinds kind
      listed value stands' there = subst (λ (p : Posted). Contains p.kinds kind) (sym (release_held parts at target.key value target.held stands')) there

      plain : (b : Bool) → (if b then None else Some invalid_free) ≡ Some kind → Contains (if b then only_graph (without_registers gone parts) else record { graphs = []; kinds = invalid_free ∷ []; loss = None }).kinds kind
      plain true none = absurd (none-some kind none)
      plain false some = (0, omega arith, same_Some _ _ some)

      plain_listed : (b : Bool) → (if b then None else Some invalid_free) ≡ Some kind → Contains (invalid_free ∷ []) kind
      plain_listed true none = absurd (none-some kind none)
      plain_listed false some = (0, omega arith, same_Some _ _ some)

      any : (kind ≡ double_free) ⊎ (kind ≡ invalid_free) → Contains (double_free ∷ invalid_free ∷ []) kind
      any (inl first) = (0, omega arith, sym first)
      any (inr second) = (1, omega arith, sym second)

      object : (key : ℕ) (offset : ℤ) → value_at parts.values target.key ≡ Some (Address key offset Region) → Contains (release_post parts at).kinds kind
      object key offset stands' =
          let region = region_of parts target.key key offset form stands' in
          listed (Address key offset Region) stands'
          (subst (λ (p : Posted). Contains p.kinds kind) (sym (address_released parts gone target.key key offset region.found region.is))
          (object_listed parts gone key offset region.found kind (sym (address_fault parts form state given is stands.meets at target.key register key offset region.found stands' region.is region.region) ∙ fault)))

      by_value : (value : Value) → value_at parts.values target.key ≡ Some value → names_no_segment value ≡ true → Contains (release_post parts at).kinds kind
      by_value (Const number size) stands' names =
          listed (Const number size) stands' (plain (nat_eq number 0) (sym (constant_fault parts form state given is stands.meets at target.key register number size stands') ∙ fault))
      by_value (Number size) stands' names =
          let has = stands.meets.values target.key (Number size) stands' in
          listed (Number size) stands' (plain_listed (nat_eq has.0 0) (ap (free_fault state.memory) (sym has.1) ∙ fault))
      by_value Any stands' names = listed Any stands' (any (one_of_two state.memory (given.word target.key) kind fault))
      by_value (Address key offset t) stands' names = object key offset (stands' ∙ ap (λ (t : Target). Some (Address key offset t)) (region_target key offset t names))
