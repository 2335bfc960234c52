-- The scope of variables is left: their objects die, one after the other.
use Rattle.std.proofs.Common.{◌≡◌, ℕ, suc, ◌+◌, ◌≤◌, Bool, true, false, not, ◌||◌, ◌&&◌, List, [], ◌∷◌, ◌++◌, map, length, nat_eq, nat_lt, None, Some, ◌⊎◌, refl, sym, ◌∙◌, ap, subst, arith}
use Rattle.std.specs.Prelude.{is_some, if◌then◌else◌}
use Rattle.std.specs.List.{list_all}
use Rattle.std.proofs.lemmas.Bool.{false≢true}
use Rattle.bytes_core.specs.declared.block.BlockKind.{BlockKind}
use Rattle.graph.specs.declared.object.Object.{Object}
use Rattle.graph.specs.declared.parts.Parts.{Parts}
use Rattle.graph.specs.AlikeStates.{AreAlikeStates}
use Rattle.graph.specs.DeadBlocks.{dead_block, with_memory}
use Rattle.graph.specs.Maps.{object_at, storage_of}
use Rattle.graph.specs.Meaning.{Assignment, Meets, StandsFor, maps_of}
use Rattle.graph.specs.State.{State, IsState}
use Rattle.graph.specs.WellFormed.{are_distinct}
use Rattle.graph.specs.Whole.{IsGraph}
use Rattle.graph.proofs.AllThere.{all_blocks_may_be_there}
use Rattle.graph.proofs.AlikeStates.{states_behind, state_alike_itself}
use Rattle.graph.proofs.Closed.{closed_of}
use Rattle.graph.proofs.Found.{Holds-some}
use Rattle.graph.proofs.Tests.{and_left, and_right, and_both}
use Rattle.changes.specs.Following.{Leaves}
use Rattle.changes.specs.Parts.{emptied}
use Rattle.changes.proofs.Below.{AreThere}
use Rattle.changes.proofs.Emptied.{leaves_state}
use Rattle.changes.proofs.DeadAlike.{dead_alike, same_number, below}
use Rattle.changes.proofs.RegistersChanged.{registers_changed}
use Rattle.heap_steps.specs.Leaving.{without_block, EndsOne, EndsScope, CanLieAt, HasRoomFor, MayLeave, without_one, left}
use Rattle.heap_steps.proofs.EndedAlike.{all_alike}
use Rattle.heap_steps.proofs.EndedOne.{one_state, one_is, ended, ended_graph, ended_meets, before, before_meets, before_state, behind, ends_so, differs, room_still}
use Rattle.heap_steps.proofs.VariableGone.{storage_gone}

-- the storage of a variable
pub record IsStored (variable : ℕ) (parts : Parts) : Type 0 where
  pub key : ℕ
  pub named : storage_of parts.variables variable ≡ Some key
  pub object : Object
  pub stands : object_at parts.objects key ≡ Some object

stored_at : (variable : ℕ) (parts : Parts) → IsGraph parts → is_some (storage_of parts.variables variable) ≡ true → IsStored variable parts
stored_at variable parts graph some =
    let key = Holds-some (storage_of parts.variables variable) some in
    let object = Holds-some (object_at parts.objects key.item) ((closed_of parts graph.well_formed).variables variable key.item key.is) in
    record { key = key.item; named = key.is; object = object.item; stands = object.is }

module _ (variable : ℕ) (rest : List ℕ) (parts : Parts) (graph : IsGraph parts) (may : MayLeave parts (variable ∷ rest)) where
  pub stored : IsStored variable parts
  stored = stored_at variable parts graph (and_left (is_some (storage_of parts.variables variable)) (list_all (λ variable. is_some (storage_of parts.variables variable)) rest) may.named)

  abbrev middle : Parts
  middle = without_one variable parts

  pub middle_is : middle ≡ ended variable stored.key stored.object parts graph stored.named stored.stands
  middle_is = one_is variable stored.key stored.object parts graph stored.named stored.stands

  pub middle_graph : IsGraph middle
  middle_graph = subst IsGraph (sym middle_is) (ended_graph variable stored.key stored.object parts graph stored.named stored.stands)

  pub storage_middle : (at : ℕ) → storage_of middle.variables at ≡ emptied (variable ∷ []) (storage_of parts.variables) at
  storage_middle at = ap (λ (p : Parts). storage_of p.variables at) middle_is ∙ storage_gone variable parts graph at

  still_named : (others : List ℕ) → list_all (λ other. not (nat_eq variable other)) others ≡ true → list_all (λ other. is_some (storage_of parts.variables other)) others ≡ true → list_all (λ other. is_some (storage_of middle.variables other)) others ≡ true
  still_named [] differ some = refl
  still_named (other ∷ others) differ some =
      and_both (is_some (storage_of middle.variables other)) (list_all (λ other. is_some (storage_of middle.variables other)) others)
      (ap is_some (storage_middle other) ∙ by_test (nat_eq variable other) refl)
      (still_named others (and_right (not (nat_eq variable other)) (list_all (λ other. not (nat_eq variable other)) others) differ) (and_right (is_some (storage_of parts.variables other)) (list_all (λ other. is_some (storage_of parts.variables other)) others) some))
    where
      by_test : (b : Bool) → nat_eq variable other ≡ b → is_some (if b || false then None else storage_of parts.variables other) ≡ true
      by_test true same = absurd (false≢true (sym (ap not same) ∙ and_left (not (nat_eq variable other)) (list_all (λ other. not (nat_eq variable other)) others) differ))
      by_test false same = and_left (is_some (storage_of parts.variables other)) (list_all (λ other. is_some (storage_of parts.variables other)) others) some

  pub rest_may : MayLeave middle rest
  rest_may = record {
    distinct = and_right (list_all (λ other. not (nat_eq variable other)) rest) (are_distinct rest) may.distinct;
    named = still_named rest (and_left (list_all (λ other. not (nat_eq variable other)) rest) (are_distinct rest) may.distinct)
        (and_right (is_some (storage_of parts.variables variable)) (list_all (λ variable. is_some (storage_of parts.variables variable)) rest) may.named);
  }

  middle_meets : (state next : State) (given : Assignment) → Meets (maps_of parts) state given → EndsOne variable state next → Meets (maps_of middle) next given
  middle_meets state next given meets ends =
      subst (λ (p : Parts). Meets (maps_of p) next given) (sym middle_is) (ended_meets variable stored.key stored.object parts graph stored.named stored.stands state next given meets ends)

pub all_graph : (which : List ℕ) (parts : Parts) → IsGraph parts → MayLeave parts which → IsGraph (left which parts)
all_graph [] parts graph may = graph
all_graph (variable ∷ rest) parts graph may = all_graph rest (without_one variable parts) (middle_graph variable rest parts graph may) (rest_may variable rest parts graph may)

-- There, with the same words and blocks.

pub same_meets : (parts : Parts) (state next : State) (given : Assignment) → Meets (maps_of parts) state given → Leaves state.memory state.registers state next → Meets (maps_of parts) next given
same_meets parts state next given meets leaves =
    registers_changed (maps_of parts) (maps_of parts) state next given (record { objects = λ at. refl; values = λ at. refl; variables = λ at. refl; ports = refl; unequal = refl })
    (record { memory = leaves.memory; variables = leaves.variables; ports = leaves.ports; roots = leaves.roots }) (λ register. leaves.registers register ∙ meets.registers register) meets

pub all_meets : (which : List ℕ) (parts : Parts) → IsGraph parts → MayLeave parts which → (state next : State) (given : Assignment) → Meets (maps_of parts) state given → EndsScope which state next → Meets (maps_of (left which parts)) next given
all_meets [] parts graph may state next given meets leaves = same_meets parts state next given meets leaves
all_meets (variable ∷ rest) parts graph may state next given meets (middle_state, first, later) =
    all_meets rest (without_one variable parts) (middle_graph variable rest parts graph may) (rest_may variable rest parts graph may) middle_state next given
    (middle_meets variable rest parts graph may state middle_state given meets first) later

-- the state behind is one
pub all_state : (which : List ℕ) (state next : State) → IsState state → EndsScope which state next → IsState next
all_state [] state next is leaves = leaves_state state.registers state next is leaves is.registers
all_state (variable ∷ rest) state next is (middle_state, first, later) = all_state rest middle_state next (one_state variable state middle_state is first) later

-- each scope that may be left is left
pub record IsLeft (which : List ℕ) (state : State) : Type 0 where
  pub next : State
  pub ends : EndsScope which state next

pub all_left : (which : List ℕ) (state : State) → IsLeft which state
all_left [] state = record { next = state; ends = record { memory = refl; registers = λ register. refl; variables = λ at. refl; ports = refl; roots = refl } }
all_left (variable ∷ rest) state = more (all_left rest middle_state)
  where
    middle_state : State
    middle_state = record { memory = without_block (state.variables variable) state.memory; variables = emptied (variable ∷ []) state.variables; registers = state.registers; ports = state.ports; roots = state.roots }

    more : IsLeft rest (record { memory = without_block (state.variables variable) state.memory; variables = emptied (variable ∷ []) state.variables; registers = state.registers; ports = state.ports; roots = state.roots }) → IsLeft (variable ∷ rest) state
    more later = record { next = later.next; ends = (middle_state, record { memory = refl; variables = λ at. refl; registers = λ at. refl; ports = refl; roots = refl }, later.ends) }

-- And back, where there is room.

-- a state from which the scope is left to one that is alike, with room for so many blocks more
pub record IsBegun (parts : Parts) (which : List ℕ) (count : ℕ) (one : State) : Type 0 where
  pub state : State
  pub next' : State
  pub is : IsState state
  pub stands : StandsFor parts state
  pub ends : EndsScope which state next'
  pub there : ℕ → ℕ
  pub back : ℕ → ℕ
  pub paired : ℕ → Bool
  pub alike : AreAlikeStates there back paired one next'
  pub room : HasRoomFor count state.memory

module _ (variable key : ℕ) (object : Object) (parts : Parts) (graph : IsGraph parts) (named : storage_of parts.variables variable ≡ Some key) (stands : object_at parts.objects key ≡ Some object)
    (one : State) (is_one : IsState one) (base : ℕ) (lie : CanLieAt one.memory base) where
  -- one variable stands again, and what can lie beside its block still can
  pub record IsBegunOne : Type 0 where
    pub state : State
    pub next' : State
    pub is : IsState state
    pub stands_for : StandsFor parts state
    pub ends : EndsOne variable state next'
    pub alike : AreAlikeStates same_number same_number (below (length one.memory)) one next'
    pub still : (other : ℕ) → CanLieAt one.memory other → (other + 65536 ≤ base) ⊎ (base + 65536 ≤ other) → CanLieAt state.memory other

  begun_in : (kinds : List BlockKind) (given : Assignment) → IsState (with_memory (one.memory ++ map dead_block kinds) one) → Meets (maps_of (ended variable key object parts graph named stands)) (with_memory (one.memory ++ map dead_block kinds) one) given →
      AreThere (ended variable key object parts graph named stands) (with_memory (one.memory ++ map dead_block kinds) one) given → IsBegunOne
  begun_in kinds given is meets there = record {
    state = before variable key object parts graph named stands one is_one kinds given is meets there base lie;
    next' = behind variable key object parts graph named stands one is_one kinds given is meets there base lie;
    is = before_state variable key object parts graph named stands one is_one kinds given is meets there base lie;
    stands_for = record { given = given; meets = before_meets variable key object parts graph named stands one is_one kinds given is meets there base lie };
    ends = ends_so variable key object parts graph named stands one is_one kinds given is meets there base lie;
    alike = dead_alike one (behind variable key object parts graph named stands one is_one kinds given is meets there base lie) is_one (differs variable key object parts graph named stands one is_one kinds given is meets there base lie);
    still = room_still variable key object parts graph named stands one is_one kinds given is meets there base lie;
  }

  pub begun_one : StandsFor (ended variable key object parts graph named stands) one → IsBegunOne
  begun_one stands_for =
      let all = all_blocks_may_be_there (ended variable key object parts graph named stands) one stands_for.given is_one stands_for.meets in
      begun_in all.more.kinds all.given (subst IsState all.more.is all.is)
      (subst (λ (s : State). Meets (maps_of (ended variable key object parts graph named stands)) s all.given) all.more.is all.meets)
      (subst (λ (s : State). AreThere (ended variable key object parts graph named stands) s all.given) all.more.is all.there)

pub all_begun : (which : List ℕ) (count : ℕ) (parts : Parts) → IsGraph parts → MayLeave parts which → (one : State) → IsState one → StandsFor (left which parts) one → HasRoomFor (count + length which) one.memory → IsBegun parts which count one
all_begun [] count parts graph may one is stands room = record {
  state = one;
  next' = one;
  is = is;
  stands = stands;
  ends = record { memory = refl; registers = λ register. refl; variables = λ at. refl; ports = refl; roots = refl };
  there = λ number. number;
  back = λ number. number;
  paired = λ number. nat_lt number (length one.memory);
  alike = state_alike_itself one is;
  room = subst (λ (n : ℕ). HasRoomFor n one.memory) (let e : count + 0 ≡ count = omega arith in e) room;
}
all_begun (variable ∷ rest) count parts graph may one is stands room =
    let later = all_begun rest (suc count) (without_one variable parts) (middle_graph variable rest parts graph may) (rest_may variable rest parts graph may) one is stands
    (subst (λ (n : ℕ). HasRoomFor n one.memory) (let e : count + suc (length rest) ≡ suc count + length rest = omega arith in e) room) in
    let store = stored variable rest parts graph may in
    let first = begun_one variable store.key store.object parts graph store.named store.stands later.state later.is (later.room.bases count) (later.room.place count (omega arith))
    (subst (λ (p : Parts). StandsFor p later.state) (middle_is variable rest parts graph may) later.stands) in
    let again = all_alike same_number same_number (below (length later.state.memory)) rest later.state first.next' later.next' first.alike later.ends in record {
      state = first.state;
      next' = again.next';
      is = first.is;
      stands = first.stands_for;
      ends = (first.next', first.ends, again.steps);
      there = λ number. later.there number;
      back = λ number. later.back number;
      paired = λ number. later.paired number && nat_lt (later.there number) (length later.state.memory);
      alike = states_behind later.there later.back same_number same_number later.paired (below (length later.state.memory)) one later.next' again.next' later.alike again.alike;
      room = record {
        bases = later.room.bases;
        place = λ number under. first.still (later.room.bases number) (later.room.place number (omega arith)) (later.room.apart number count under (omega arith));
        apart = λ one' other before_it under. later.room.apart one' other before_it (omega arith);
      };
    }
