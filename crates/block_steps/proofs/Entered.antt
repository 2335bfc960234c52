-- Variables that begin to stand, one after the other: the graph behind.
use Rattle.std.proofs.Common.{◌≡◌, ℕ, zero, suc, ◌+◌, ◌^◌, ◌<◌, ◌≤◌, Bool, true, false, not, ◌&&◌, ◌||◌, List, [], ◌∷◌, ◌++◌, length, nat_eq, nat_le, nat_lt, replicate, Option, Some, None, refl, sym, ◌∙◌, ap, subst, eq-eqb, eqb-true, leb-true, length-append, arith}
use Rattle.std.specs.Prelude.{is_none, slice_get, if◌then◌else◌}
use Rattle.std.specs.List.{list_all, list_any}
use Rattle.std.proofs.lemmas.Bool.{false≢true}
use Rattle.std.proofs.lemmas.Option.{same_Some, none-some}
use Rattle.bytes_core.specs.declared.block.BlockKind.TheVariants.{Local}
use Rattle.graph.specs.declared.parts.Held.{Held}
use Rattle.graph.specs.declared.parts.KeyedObject.{KeyedObject}
use Rattle.graph.specs.declared.parts.Parts.{Parts}
use Rattle.graph.specs.Maps.{storage_of}
use Rattle.graph.specs.Meaning.{StandsFor, maps_of}
use Rattle.graph.specs.Nodes.{node_of}
use Rattle.graph.specs.State.{State, IsState}
use Rattle.graph.specs.WellFormed.{are_distinct, passes_at, nodes}
use Rattle.graph.specs.Whole.{IsGraph}
use Rattle.graph.proofs.AlikeStates.{states_behind, state_alike_itself}
use Rattle.graph.proofs.Found.{IsSome-holds}
use Rattle.graph.proofs.Tests.{and_left, and_right, and_both}
use Rattle.changes.specs.Following.{Leaves}
use Rattle.changes.specs.FollowingAlike.{FollowsAlike}
use Rattle.changes.specs.Parts.{is_among, put, with_object_more}
use Rattle.changes.proofs.RegistersChanged.{registers_changed}
use Rattle.heap_steps.specs.Unreached.{has_loose_byte, is_any, edges_hold_any, may_lead_anywhere}
use Rattle.block_steps.specs.Blocks.{new_object}
use Rattle.block_steps.specs.Entering.{Enters, MayEnter, HasStorage, EnterTail, with_entered_one, with_entered}
use Rattle.block_steps.proofs.EnteredOne.{entered_graph, entered_storage, enter_sound, enter_follows}
use Rattle.block_steps.proofs.EntersAlike.{all_alike, one_state}
use Rattle.block_steps.proofs.ObjectForm.{object_before, object_new, nodes_more}

none_is : (found : Option ℕ) → is_none found ≡ true → found ≡ None
none_is None none = refl
none_is (Some item) none = absurd (false≢true none)

module _ (variable size : ℕ) (rest sizes : List ℕ) (parts : Parts) (graph : IsGraph parts) (may : MayEnter parts (variable ∷ rest) (size ∷ sizes)) (all_room : nodes parts + suc (length rest) < 2 ^ 30) where
  first_small : size ≤ 65536
  first_small = leb-true size 65536 (and_left (nat_le size 65536) (list_all (λ size. nat_le size 65536) sizes) may.small)

  first_room : nodes parts + 1 < 2 ^ 30
  first_room = omega arith

  first_unnamed : storage_of parts.variables variable ≡ None
  first_unnamed = none_is (storage_of parts.variables variable) (and_left (is_none (storage_of parts.variables variable)) (list_all (λ variable. is_none (storage_of parts.variables variable)) rest) may.unnamed)

  abbrev behind : Parts
  behind = with_entered_one variable size parts

  behind_graph : IsGraph behind
  behind_graph = entered_graph variable size parts graph first_small first_room first_unnamed

  storage_behind : (at : ℕ) → storage_of behind.variables at ≡ put variable (length parts.objects) (storage_of parts.variables) at
  storage_behind = entered_storage variable size parts graph first_small first_room first_unnamed

  still_unnamed : (others : List ℕ) → list_all (λ other. not (nat_eq variable other)) others ≡ true → list_all (λ other. is_none (storage_of parts.variables other)) others ≡ true → list_all (λ other. is_none (storage_of behind.variables other)) others ≡ true
  still_unnamed [] differ none = refl
  still_unnamed (other ∷ others) differ none =
      and_both (is_none (storage_of behind.variables other)) (list_all (λ other. is_none (storage_of behind.variables other)) others)
      (ap is_none (storage_behind other) ∙ by_test (nat_eq other variable) refl)
      (still_unnamed others (and_right (not (nat_eq variable other)) (list_all (λ other. not (nat_eq variable other)) others) differ) (and_right (is_none (storage_of parts.variables other)) (list_all (λ other. is_none (storage_of parts.variables other)) others) none))
    where
      by_test : (b : Bool) → nat_eq other variable ≡ b → is_none (if b then Some (length parts.objects) else storage_of parts.variables other) ≡ true
      by_test true same =
          absurd (false≢true (sym (ap not (eq-eqb variable other (sym (eqb-true _ _ same)))) ∙ and_left (not (nat_eq variable other)) (list_all (λ other. not (nat_eq variable other)) others) differ))
      by_test false same = and_left (is_none (storage_of parts.variables other)) (list_all (λ other. is_none (storage_of parts.variables other)) others) none

  rest_may : MayEnter behind rest sizes
  rest_may = record {
    many = let many : suc (length sizes) ≡ suc (length rest) = may.many in omega arith;
    small = and_right (nat_le size 65536) (list_all (λ size. nat_le size 65536) sizes) may.small;
    distinct = and_right (list_all (λ other. not (nat_eq variable other)) rest) (are_distinct rest) may.distinct;
    unnamed = still_unnamed rest (and_left (list_all (λ other. not (nat_eq variable other)) rest) (are_distinct rest) may.distinct)
        (and_right (is_none (storage_of parts.variables variable)) (list_all (λ variable. is_none (storage_of parts.variables variable)) rest) may.unnamed);
  }

  rest_room : nodes behind + length rest < 2 ^ 30
  rest_room = let more : nodes behind ≡ nodes parts + 1 = nodes_more Local size false parts graph in omega arith

no_sizes : {P : Type 0} (variable : ℕ) (rest : List ℕ) (parts : Parts) → MayEnter parts (variable ∷ rest) [] → P
no_sizes variable rest parts may = absurd (let many : 0 ≡ suc (length rest) = may.many in omega arith)

-- a graph behind is a graph
pub all_graph : (which sizes : List ℕ) (parts : Parts) → IsGraph parts → MayEnter parts which sizes → nodes parts + length which < 2 ^ 30 → IsGraph (with_entered which sizes parts)
all_graph [] sizes parts graph may room = graph
all_graph (variable ∷ rest) [] parts graph may room = no_sizes variable rest parts may
all_graph (variable ∷ rest) (size ∷ sizes) parts graph may room =
    all_graph rest sizes (with_entered_one variable size parts) (behind_graph variable size rest sizes parts graph may room) (rest_may variable size rest sizes parts graph may room) (rest_room variable size rest sizes parts graph may room)

-- there
same_state : (parts : Parts) (state next : State) → StandsFor parts state → Leaves state.memory state.registers state next → StandsFor parts next
same_state parts state next stands leaves = record {
  given = stands.given;
  meets = registers_changed (maps_of parts) (maps_of parts) state next stands.given (record { objects = λ at. refl; values = λ at. refl; variables = λ at. refl; ports = refl; unequal = refl })
      (record { memory = leaves.memory; variables = leaves.variables; ports = leaves.ports; roots = leaves.roots })
      (λ register. leaves.registers register ∙ (let meets = stands.meets in meets.registers register)) stands.meets;
}

pub all_sound : (which sizes : List ℕ) (parts : Parts) → IsGraph parts → MayEnter parts which sizes → nodes parts + length which < 2 ^ 30 → (state next : State) → IsState state → StandsFor parts state → Enters which sizes state next → StandsFor (with_entered which sizes parts) next
all_sound [] sizes parts graph may room state next is stands leaves = same_state parts state next stands leaves
all_sound (variable ∷ rest) [] parts graph may room state next is stands none = absurd none
all_sound (variable ∷ rest) (size ∷ sizes) parts graph may room state next is stands (middle, first, later) =
    all_sound rest sizes (with_entered_one variable size parts) (behind_graph variable size rest sizes parts graph may room) (rest_may variable size rest sizes parts graph may room) (rest_room variable size rest sizes parts graph may room) middle next
    (one_state variable size state middle is first)
    (enter_sound variable size parts graph (first_small variable size rest sizes parts graph may room) (first_room variable size rest sizes parts graph may room) (first_unnamed variable size rest sizes parts graph may room) state middle is stands first) later

-- Nothing leads anywhere behind, where nothing did before.

any_append : {X : Type 0} (test : X → Bool) (xs : List X) (last : X) → list_any test xs ≡ false → test last ≡ false → list_any test (xs ++ last ∷ []) ≡ false
any_append test [] last none fails = ap (λ (b : Bool). b || false) fails
any_append test (first ∷ rest) last none fails = by_first (test first) none (λ later. any_append test rest last later fails)
  where
    by_first : (b : Bool) → (b || list_any test rest) ≡ false → (list_any test rest ≡ false → list_any test (rest ++ last ∷ []) ≡ false) → (b || list_any test (rest ++ last ∷ [])) ≡ false
    by_first true none' onward = absurd (false≢true (sym none'))
    by_first false none' onward = onward none'

either_none : (one other : Bool) → (one || other) ≡ false → (one ≡ false) × (other ≡ false)
either_none true other none = absurd (false≢true (sym none))
either_none false other none = (refl, none)

both_none : (one other : Bool) → one ≡ false → other ≡ false → (one || other) ≡ false
both_none one other first second = ap (λ (b : Bool). b || other) first ∙ second

-- bytes of class 1 are no parts of pointers
numbers_tight : (count place : ℕ) → has_loose_byte [] place (replicate count 1) ≡ false
numbers_tight zero place = refl
numbers_tight (suc count) place = numbers_tight count (place + 1)

pub bound_still : (variable size : ℕ) (parts : Parts) → may_lead_anywhere parts ≡ false → may_lead_anywhere (with_entered_one variable size parts) ≡ false
bound_still variable size parts bound =
    both_none (list_any loose more.objects) (list_any holds more.objects || (list_any (λ (held : Held). passes_at parts is_any held.value) parts.registers || list_any (passes_at parts is_any) parts.ports))
    (any_append loose parts.objects last first.0 (numbers_tight size 0))
    (both_none (list_any holds more.objects) (list_any (λ (held : Held). passes_at parts is_any held.value) parts.registers || list_any (passes_at parts is_any) parts.ports)
    (any_append holds parts.objects last second.0 refl) second.1)
  where
    loose : KeyedObject → Bool
    loose entry = has_loose_byte (node_of entry.object).edges 0 (node_of entry.object).plane

    holds : KeyedObject → Bool
    holds entry = edges_hold_any parts (node_of entry.object).edges

    last : KeyedObject
    last = record { key = length parts.objects; object = new_object Local size false }

    more : Parts
    more = with_object_more (new_object Local size false) parts

    first : (list_any loose parts.objects ≡ false) × ((list_any holds parts.objects || (list_any (λ (held : Held). passes_at parts is_any held.value) parts.registers || list_any (passes_at parts is_any) parts.ports)) ≡ false)
    first = either_none (list_any loose parts.objects) (list_any holds parts.objects || (list_any (λ (held : Held). passes_at parts is_any held.value) parts.registers || list_any (passes_at parts is_any) parts.ports)) bound

    second : (list_any holds parts.objects ≡ false) × ((list_any (λ (held : Held). passes_at parts is_any held.value) parts.registers || list_any (passes_at parts is_any) parts.ports) ≡ false)
    second = either_none (list_any holds parts.objects) (list_any (λ (held : Held). passes_at parts is_any held.value) parts.registers || list_any (passes_at parts is_any) parts.ports) first.1

-- and back

pub none_follows : (sizes : List ℕ) (parts : Parts) (next : State) → IsState next → StandsFor parts next → FollowsAlike parts (Enters [] sizes) next
none_follows sizes parts next is stands = record {
  state = next;
  next' = next;
  is = is;
  stands = stands;
  steps = record { memory = refl; registers = λ register. refl; variables = λ at. refl; ports = refl; roots = refl };
  there = λ number. number;
  back = λ number. number;
  paired = λ number. nat_lt number (length next.memory);
  alike = state_alike_itself next is;
}

pub all_follows : (which sizes : List ℕ) (parts : Parts) → IsGraph parts → MayEnter parts which sizes → nodes parts + length which < 2 ^ 30 → may_lead_anywhere parts ≡ false → (next : State) → IsState next → StandsFor (with_entered which sizes parts) next →
    FollowsAlike parts (Enters which sizes) next
all_follows [] sizes parts graph may room bound next is stands = none_follows sizes parts next is stands
all_follows (variable ∷ rest) [] parts graph may room bound next is stands = no_sizes variable rest parts may
all_follows (variable ∷ rest) (size ∷ sizes) parts graph may room bound next is stands =
    let later = all_follows rest sizes (with_entered_one variable size parts) (behind_graph variable size rest sizes parts graph may room) (rest_may variable size rest sizes parts graph may room) (rest_room variable size rest sizes parts graph may room) (bound_still variable size parts bound) next is stands in
    let first = enter_follows variable size parts graph (first_small variable size rest sizes parts graph may room) (first_room variable size rest sizes parts graph may room) (first_unnamed variable size rest sizes parts graph may room) bound later.state later.is later.stands in
    let again = all_alike rest sizes first.there first.back first.paired later.state first.next' later.next' first.alike later.steps in record {
      state = first.state;
      next' = again.next';
      is = first.is;
      stands = first.stands;
      steps = (first.next', first.steps, again.steps);
      there = λ number. again.there (later.there number);
      back = λ number. later.back (again.back number);
      paired = λ number. later.paired number && again.paired (later.there number);
      alike = states_behind later.there later.back again.there again.back later.paired again.paired next later.next' again.next' later.alike again.alike;
    }

-- What is left of the graph.

put_miss : (variable key at : ℕ) (found : ℕ → Option ℕ) → nat_eq variable at ≡ false → put variable key found at ≡ found at
put_miss variable key at found differ = ap (λ (b : Bool). if b then Some key else found at) (by_test (nat_eq at variable) refl)
  where
    by_test : (b : Bool) → nat_eq at variable ≡ b → nat_eq at variable ≡ false
    by_test true same = absurd (false≢true (sym differ ∙ eq-eqb variable at (sym (eqb-true _ _ same))))
    by_test false is = is

not_among : (variable : ℕ) (rest : List ℕ) → list_all (λ other. not (nat_eq variable other)) rest ≡ true → is_among rest variable ≡ false
not_among variable [] differ = refl
not_among variable (other ∷ rest) differ =
    both_none (nat_eq other variable) (is_among rest variable) (by_test (nat_eq other variable) refl)
    (not_among variable rest (and_right (not (nat_eq variable other)) (list_all (λ other. not (nat_eq variable other)) rest) differ))
  where
    by_test : (b : Bool) → nat_eq other variable ≡ b → nat_eq other variable ≡ false
    by_test true same =
        absurd (false≢true (sym (ap not (eq-eqb variable other (sym (eqb-true _ _ same)))) ∙ and_left (not (nat_eq variable other)) (list_all (λ other. not (nat_eq variable other)) rest) differ))
    by_test false is = is

tail_more : (variable size : ℕ) (rest sizes : List ℕ) (parts : Parts) (graph : IsGraph parts) (may : MayEnter parts (variable ∷ rest) (size ∷ sizes)) (room : nodes parts + suc (length rest) < 2 ^ 30) (after : Parts) →
    EnterTail (with_entered_one variable size parts) rest sizes after → EnterTail parts (variable ∷ rest) (size ∷ sizes) after
tail_more variable size rest sizes parts graph may room after later = record {
  graph = later.graph;
  ports = later.ports;
  registers = later.registers;
  values = later.values;
  unequal = later.unequal;
  objects = λ key object stands. later.objects key object (object_before Local size false parts graph key (IsSome-holds _ _ stands) ∙ stands);
  others = λ other differ. let both = either_none (nat_eq variable other) (is_among rest other) differ in
      later.others other both.1 ∙ storage_behind variable size rest sizes parts graph may room other ∙ put_miss variable (length parts.objects) other (storage_of parts.variables) both.0;
  entered = entered_at;
}
  where
    longer : length (with_entered_one variable size parts).objects ≡ length parts.objects + 1
    longer = length-append parts.objects (record { key = length parts.objects; object = new_object Local size false } ∷ [])

    entered_at : (place its its_size : ℕ) → slice_get (variable ∷ rest) place ≡ Some its → slice_get (size ∷ sizes) place ≡ Some its_size → HasStorage after its (length parts.objects + place) its_size
    entered_at zero its its_size is sized =
        subst (λ (v : ℕ). HasStorage after v (length parts.objects + 0) its_size) (same_Some _ _ is)
        (subst (λ (n : ℕ). HasStorage after variable (length parts.objects + 0) n) (same_Some _ _ sized)
        (subst (λ (n : ℕ). HasStorage after variable n size) (let e : length parts.objects ≡ length parts.objects + 0 = omega arith in e)
        (record {
          stored = later.others variable (not_among variable rest (and_left (list_all (λ other. not (nat_eq variable other)) rest) (are_distinct rest) may.distinct))
              ∙ storage_behind variable size rest sizes parts graph may room variable
              ∙ ap (λ (b : Bool). if b then Some (length parts.objects) else storage_of parts.variables variable) (eq-eqb variable variable refl);
          object = later.objects (length parts.objects) (new_object Local size false) (object_new Local size false parts graph);
        })))
    entered_at (suc place) its its_size is sized =
        subst (λ (n : ℕ). HasStorage after its n its_size)
        (let l = longer in let e : length (with_entered_one variable size parts).objects + place ≡ length parts.objects + suc place = omega arith in e)
        (later.entered place its its_size is sized)

pub all_tail : (which sizes : List ℕ) (parts : Parts) → IsGraph parts → MayEnter parts which sizes → nodes parts + length which < 2 ^ 30 → EnterTail parts which sizes (with_entered which sizes parts)
all_tail [] sizes parts graph may room = record {
  graph = graph;
  ports = refl;
  registers = refl;
  values = refl;
  unequal = refl;
  objects = λ key object stands. stands;
  others = λ variable differ. refl;
  entered = λ place variable size is sized. absurd (none-some variable is);
}
all_tail (variable ∷ rest) [] parts graph may room = no_sizes variable rest parts may
all_tail (variable ∷ rest) (size ∷ sizes) parts graph may room =
    tail_more variable size rest sizes parts graph may room (with_entered rest sizes (with_entered_one variable size parts))
    (all_tail rest sizes (with_entered_one variable size parts) (behind_graph variable size rest sizes parts graph may room) (rest_may variable size rest sizes parts graph may room) (rest_room variable size rest sizes parts graph may room))
