-- The static variables of a flow graph, made one after the other: the graph, and the states for which it stands.
use Rattle.std.proofs.Common.{◌≡◌, ℕ, zero, suc, ◌+◌, ◌^◌, ◌<◌, ◌≤◌, Bool, true, false, not, ◌&&◌, ◌||◌, List, [], ◌∷◌, length, nat_eq, nat_lt, Option, Some, None, refl, sym, ◌∙◌, ap, subst, eq-eqb, eqb-true, ltb-true, ltb-false, lt-ltb, leb-true, length-append, arith}
use Rattle.std.specs.Prelude.{IsTrue, is_some, option_map, slice_get, if◌then◌else◌}
use Rattle.std.specs.List.{list_all, fold}
use Rattle.std.specs.Option.{option_map_or}
use Rattle.std.proofs.lemmas.Bool.{false≢true}
use Rattle.std.proofs.lemmas.Option.{same_Some, none-some}
use Rattle.bytes_core.specs.declared.block.BlockKind.TheVariants as storage
use Rattle.bytes_core.specs.Placement.{new_block, is_new_block, placed}
use Rattle.choices.specs.declared.choice.Choice.{Choice}
use Rattle.choices.specs.declared.choice.Choice.TheVariants.{None as NoBlock, Block as NewBlock, Input as GivenInput}
use Rattle.graph.specs.State as graphs
use Rattle.graph.specs.declared.object.Object.{Object}
use Rattle.graph.specs.declared.object.Shape.{Shape}
use Rattle.graph.specs.declared.object.Shape.TheVariants.{Region as RegionShape, Segment}
use Rattle.graph.specs.declared.parts.KeyedObject.{KeyedObject}
use Rattle.graph.specs.declared.parts.Named.{Named}
use Rattle.graph.specs.declared.parts.Parts.{Parts}
use Rattle.graph.specs.Maps.{object_at, storage_of}
use Rattle.graph.specs.Meaning.{StandsFor}
use Rattle.graph.specs.Nodes.{is_region}
use Rattle.graph.specs.WellFormed.{nodes, nodes_of, is_storage}
use Rattle.graph.specs.Whole.{IsGraph}
use Rattle.graph.proofs.Found.{found-all}
use Rattle.graph.proofs.Tests.{and_left, and_right, and_both, list_all-implies}
use Rattle.changes.specs.Parts.{put}
use Rattle.changes.proofs.Appended.{found_new, found_else, found_next}
use Rattle.changes.proofs.RangeForm.{all_append}
use Rattle.flow.specs.declared.flow_graph.Flow.{Flow}
use Rattle.flow.specs.declared.flow_graph.Variable.{Variable}
use Rattle.flow.specs.Holding.{Owned, block_of, put_owned}
use Rattle.flow.specs.Machine.{State, Outcome, Ended, size_in, or_else, block_here, with_memory, with_new_block}
use Rattle.flow.specs.Runs.{with_statics}
use Rattle.flow.specs.Valid.{IsFlow, is_fixed, is_object_size}
use Rattle.flow.proofs.Ascending.{All-at}
use Rattle.flow.proofs.Outcomes.{Leaves}
use Rattle.edge_steps.specs.Seen.{seen}
use Rattle.block_steps.specs.Blocks.{new_object}
use Rattle.transfer.specs.Fitting.{HasStorages}
use Rattle.transfer.specs.Start.{with_static}
use Rattle.transfer.specs.Start as start
use Rattle.transfer.proofs.KeptObjects.{are_regions}
use Rattle.transfer.proofs.StaticMade.{MakesStatic, static_state, static_graph_is, static_storage, static_sound}
use Rattle.transfer.proofs.Widths.{eqb_turned}

-- A graph of regions counts each object once.

counted : (entries : List KeyedObject) (count : ℕ) → list_all (λ (entry : KeyedObject). is_region entry.object.shape) entries ≡ true →
    fold (λ count (entry : KeyedObject). count + nodes_of entry.object.shape) count entries ≡ count + length entries
counted [] count all = omega arith
counted (first ∷ rest) count all =
    ap (λ (n : ℕ). fold (λ count (entry : KeyedObject). count + nodes_of entry.object.shape) (count + n) rest) (one first.object.shape (and_left (is_region first.object.shape) (list_all (λ (entry : KeyedObject). is_region entry.object.shape) rest) all))
    ∙ counted rest (count + 1) (and_right (is_region first.object.shape) (list_all (λ (entry : KeyedObject). is_region entry.object.shape) rest) all) ∙ omega arith
  where
    one : (shape : Shape) → is_region shape ≡ true → nodes_of shape ≡ 1
    one RegionShape region = refl
    one (Segment twofold head next prev back least next_value prev_value node) region = absurd (false≢true region)

pub nodes_regions : (parts : Parts) → are_regions parts ≡ true → nodes parts ≡ length parts.objects
nodes_regions parts all = counted parts.objects 0 all ∙ (let same : 0 + length parts.objects ≡ length parts.objects = omega arith in same)

-- What stands so far: the static ones among the variables below a number.
pub record AreStatics (flow : Flow) (number : ℕ) (parts : Parts) : Type 0 where
  pub graph : IsGraph parts
  pub regions : are_regions parts ≡ true
  pub storages : HasStorages flow parts
  pub registers : parts.registers ≡ []
  pub ports : parts.ports ≡ []
  pub below : list_all (λ (named : Named). nat_lt named.variable number) parts.variables ≡ true
  pub named : (variable : ℕ) → is_some (storage_of parts.variables variable) ≡ (nat_lt variable number && is_fixed flow variable)

lt_more : (one number : ℕ) → nat_lt one (number + 1) ≡ (nat_eq one number || nat_lt one number)
lt_more one number = by_tests (nat_lt one (number + 1)) refl (nat_eq one number) refl (nat_lt one number) refl
  where
    by_tests : (a : Bool) → nat_lt one (number + 1) ≡ a → (b : Bool) → nat_eq one number ≡ b → (c : Bool) → nat_lt one number ≡ c → a ≡ (b || c)
    by_tests true a_is true b_is c c_is = refl
    by_tests true a_is false b_is true c_is = refl
    by_tests true a_is false b_is false c_is =
        let less = ltb-true one (number + 1) a_is in let most = ltb-false one number c_is in absurd (false≢true (sym b_is ∙ eq-eqb one number (omega arith)))
    by_tests false a_is true b_is c c_is = let over = ltb-false one (number + 1) a_is in let same = eqb-true one number b_is in absurd (omega arith)
    by_tests false a_is false b_is true c_is = let over = ltb-false one (number + 1) a_is in let less = ltb-true one number c_is in absurd (omega arith)
    by_tests false a_is false b_is false c_is = refl

lt_itself : (number : ℕ) → nat_lt number number ≡ false
lt_itself number = by_test (nat_lt number number) refl
  where
    by_test : (b : Bool) → nat_lt number number ≡ b → nat_lt number number ≡ false
    by_test true is = let less = ltb-true number number is in absurd (omega arith)
    by_test false is = is

still_below : (number : ℕ) (variables : List Named) → list_all (λ (named : Named). nat_lt named.variable number) variables ≡ true → list_all (λ (named : Named). nat_lt named.variable (number + 1)) variables ≡ true
still_below number variables all =
    list_all-implies (λ (named : Named). nat_lt named.variable number) (λ named. nat_lt named.variable (number + 1)) (λ named is. let less = ltb-true named.variable number is in lt-ltb _ _ (omega arith)) variables all

-- The next variable.
module _ (flow : Flow) (number : ℕ) (parts : Parts) (are : AreStatics flow number parts) (variable : Variable) (stands : slice_get flow.variables number ≡ Some variable) where
  pub unnamed : storage_of parts.variables number ≡ None
  unnamed = by_found (storage_of parts.variables number) (are.named number ∙ ap (λ (b : Bool). b && is_fixed flow number) (lt_itself number))
    where
      by_found : (found : Option ℕ) → is_some found ≡ false → found ≡ None
      by_found None none = refl
      by_found (Some key) none = absurd (false≢true (sym none))

  size_is : variable.size ≡ size_in flow number
  size_is = sym (ap (λ (o : Option Variable). option_map_or (λ (v : Variable). v.size) o 0) stands)

  fixed_is : is_fixed flow number ≡ variable.fixed
  fixed_is = ap (λ (o : Option Variable). option_map_or (λ (v : Variable). v.fixed) o false) stands

  -- it is none of them
  pub others_next : variable.fixed ≡ false → AreStatics flow (number + 1) parts
  others_next loose = record {
    graph = are.graph;
    regions = are.regions;
    storages = are.storages;
    registers = are.registers;
    ports = are.ports;
    below = still_below number parts.variables are.below;
    named = λ at. are.named at ∙ by_key at (nat_eq at number) refl ∙ ap (λ (b : Bool). b && is_fixed flow at) (sym (lt_more at number));
  }
    where
      by_key : (at : ℕ) (b : Bool) → nat_eq at number ≡ b → (nat_lt at number && is_fixed flow at) ≡ ((b || nat_lt at number) && is_fixed flow at)
      by_key at true same =
          ap (λ (n : ℕ). nat_lt n number && is_fixed flow at) (eqb-true _ _ same) ∙ ap (λ (b : Bool). b && is_fixed flow at) (lt_itself number)
          ∙ sym (ap (is_fixed flow) (eqb-true _ _ same) ∙ fixed_is ∙ loose)
      by_key at false differ = refl

  module _ (small : variable.size ≤ 65536) (few : length parts.objects + 1 < 2 ^ 30) (fixed : variable.fixed ≡ true) where
    pub room : nodes parts + 1 < 2 ^ 30
    room = let count = nodes_regions parts are.regions in omega arith

    abbrev next : Parts
    next = with_static number variable.size parts

    abbrev last : KeyedObject
    last = record { key = length parts.objects; object = new_object storage.Static variable.size true }

    next_graph : IsGraph next
    next_graph = static_graph_is number variable.size parts are.graph small room unnamed are.below

    next_storage : (at : ℕ) → storage_of next.variables at ≡ put number (length parts.objects) (storage_of parts.variables) at
    next_storage = static_storage number variable.size parts are.graph small room unnamed are.below

    pub static_next : AreStatics flow (number + 1) next
    static_next = record {
      graph = next_graph;
      regions = all_append (λ (entry : KeyedObject). is_region entry.object.shape) parts.objects (last ∷ []) are.regions refl;
      storages = record { sizes = λ at key object stored there. by_key at key object there (nat_eq at number) refl (sym (next_storage at) ∙ stored) };
      registers = are.registers;
      ports = are.ports;
      below = all_append (λ (named : Named). nat_lt named.variable (number + 1)) parts.variables (record { variable = number; object = length parts.objects } ∷ []) (still_below number parts.variables are.below)
          (and_both (nat_lt number (number + 1)) true (lt-ltb _ _ (omega arith)) refl);
      named = λ at. ap (λ (o : Option ℕ). is_some o) (next_storage at) ∙ now at (nat_eq at number) refl ∙ ap (λ (b : Bool). b && is_fixed flow at) (sym (lt_more at number));
    }
      where
        now : (at : ℕ) (b : Bool) → nat_eq at number ≡ b → is_some (if b then Some (length parts.objects) else storage_of parts.variables at) ≡ ((b || nat_lt at number) && is_fixed flow at)
        now at true same = sym (ap (is_fixed flow) (eqb-true _ _ same) ∙ fixed_is ∙ fixed)
        now at false differ = are.named at

        by_key : (at key : ℕ) (object : Object) → object_at next.objects key ≡ Some object → (b : Bool) → nat_eq at number ≡ b → (if b then Some (length parts.objects) else storage_of parts.variables at) ≡ Some key → object.size ≡ size_in flow at
        by_key at key object there true same stored =
            ap (λ (o : Object). o.size) (same_Some _ _ (sym there ∙ ap (object_at next.objects) (sym (same_Some _ _ stored))
            ∙ found_new (λ (entry : KeyedObject). entry.key) (λ entry. entry.object) parts.objects last are.graph.keys.objects refl))
            ∙ size_is ∙ ap (size_in flow) (sym (eqb-true _ _ same))
        by_key at key object there false differ stored = by_place (nat_eq key (length parts.objects)) refl
          where
            by_place : (b : Bool) → nat_eq key (length parts.objects) ≡ b → object.size ≡ size_in flow at
            by_place false apart =
                are.storages.sizes at key object stored
                (sym (found_else (λ (entry : KeyedObject). entry.key) (λ entry. entry.object) parts.objects last key (λ same. false≢true (sym apart ∙ eq-eqb key (length parts.objects) same))) ∙ there)
            by_place true same =
                absurd (false≢true (sym (ap (λ (o : Option Object). option_map_or is_storage o false) (ap (object_at parts.objects) (eqb-true _ _ same)
                ∙ found_next (λ (entry : KeyedObject). entry.key) (λ entry. entry.object) parts.objects are.graph.keys.objects))
                ∙ found-all (λ (named : Named). named.variable) (λ named. named.object) (λ at. option_map_or is_storage (object_at parts.objects at) false) parts.variables at key are.graph.well_formed.variables_have_storage stored))

-- The loop.

pub objects_more : (number : ℕ) (variables : List Variable) (parts : Parts) → length parts.objects ≤ length (start.with_statics number variables parts).objects
objects_more number [] parts = omega arith
objects_more number (variable ∷ rest) parts = by_kind variable.fixed (λ parts. objects_more (number + 1) rest parts)
  where
    by_kind : (b : Bool) → ((parts : Parts) → length parts.objects ≤ length (start.with_statics (number + 1) rest parts).objects) →
        length parts.objects ≤ length (start.with_statics (number + 1) rest (if b then with_static number variable.size parts else parts)).objects
    by_kind true onward =
        let more = onward (with_static number variable.size parts) in
        let long = length-append parts.objects (record { key = length parts.objects; object = new_object storage.Static variable.size true } ∷ []) in omega arith
    by_kind false onward = onward parts

-- the variables from a number on
abbrev pub IsRest : Flow → ℕ → List Variable → Type 0
IsRest flow number rest = (place : ℕ) (variable : Variable) → slice_get rest place ≡ Some variable → slice_get flow.variables (number + place) ≡ Some variable

pub rest_first : (flow : Flow) (number : ℕ) (variable : Variable) (rest : List Variable) → IsRest flow number (variable ∷ rest) → slice_get flow.variables number ≡ Some variable
rest_first flow number variable rest is = subst (λ (n : ℕ). slice_get flow.variables n ≡ Some variable) (let same : number + zero ≡ number = omega arith in same) (is zero variable refl)

pub rest_later : (flow : Flow) (number : ℕ) (variable : Variable) (rest : List Variable) → IsRest flow number (variable ∷ rest) → IsRest flow (number + 1) rest
rest_later flow number variable rest is place other there =
    subst (λ (n : ℕ). slice_get flow.variables n ≡ Some other) (let same : number + suc place ≡ number + 1 + place = omega arith in same) (is (suc place) other there)

pub small_at : (flow : Flow) (number : ℕ) (variable : Variable) → IsFlow flow → slice_get flow.variables number ≡ Some variable → variable.size ≤ 65536
small_at flow number variable valid there = leb-true variable.size 65536 (All-at (λ (v : Variable). IsTrue (is_object_size v.size)) flow.variables number variable there valid.variable_sizes)

-- the graph
pub statics_graph : (flow : Flow) (number : ℕ) (variables : List Variable) (parts : Parts) → IsFlow flow → IsRest flow number variables → length (start.with_statics number variables parts).objects < 2 ^ 30 →
    AreStatics flow number parts → AreStatics flow (number + length variables) (start.with_statics number variables parts)
statics_graph flow number [] parts valid rest_is few are = subst (λ (n : ℕ). AreStatics flow n parts) (let same : number ≡ number + zero = omega arith in same) are
statics_graph flow number (variable ∷ rest) parts valid rest_is few are =
    subst (λ (n : ℕ). AreStatics flow n (start.with_statics number (variable ∷ rest) parts)) (let same : number + 1 + length rest ≡ number + suc (length rest) = omega arith in same)
    (by_kind variable.fixed refl few (λ parts few are. statics_graph flow (number + 1) rest parts valid (rest_later flow number variable rest rest_is) few are))
  where
    there : slice_get flow.variables number ≡ Some variable
    there = rest_first flow number variable rest rest_is

    by_kind : (b : Bool) → variable.fixed ≡ b → length (start.with_statics (number + 1) rest (if b then with_static number variable.size parts else parts)).objects < 2 ^ 30 →
        ((parts : Parts) → length (start.with_statics (number + 1) rest parts).objects < 2 ^ 30 → AreStatics flow (number + 1) parts → AreStatics flow (number + 1 + length rest) (start.with_statics (number + 1) rest parts)) →
        AreStatics flow (number + 1 + length rest) (start.with_statics (number + 1) rest (if b then with_static number variable.size parts else parts))
    by_kind true fixed few onward =
        onward (with_static number variable.size parts) few
        (static_next flow number parts are variable there (small_at flow number variable valid there)
        (let more = objects_more (number + 1) rest (with_static number variable.size parts) in
        let long = length-append parts.objects (record { key = length parts.objects; object = new_object storage.Static variable.size true } ∷ []) in omega arith) fixed)
    by_kind false loose few onward = onward parts few (others_next flow number parts are variable there loose)

-- The states.

-- a state in which no frame has something, for which the graph stands
pub record IsMade (parts : Parts) (state : State) : Type 0 where
  pub is : graphs.IsState (seen [] state)
  pub stands : StandsFor parts (seen [] state)
  pub variables : state.frame.variables ≡ []
  pub registers : state.frame.registers ≡ []
  pub callers : state.callers ≡ []
  pub outer : state.outer ≡ []

pub block_put : (new : Owned) (owned : List Owned) (variable : ℕ) → block_of owned new.variable ≡ None → block_of (put_owned new owned) variable ≡ put new.variable new.block (block_of owned) variable
block_put new [] variable none = ap (λ (b : Bool). if b then Some new.block else None) (eqb_turned new.variable variable)
block_put new (first ∷ rest) variable none = by_order (nat_lt new.variable first.variable) (nat_eq first.variable new.variable) refl none (λ later. block_put new rest variable later)
  where
    behind : (here : Bool) → nat_eq variable new.variable ≡ here → (same : Bool) → nat_eq first.variable variable ≡ same → nat_eq first.variable new.variable ≡ false →
        (if same then Some first.block else (if here then Some new.block else block_of rest variable)) ≡ (if here then Some new.block else (if same then Some first.block else block_of rest variable))
    behind true is true same_is differ = absurd (false≢true (sym differ ∙ eq-eqb first.variable new.variable (eqb-true _ _ same_is ∙ eqb-true _ _ is)))
    behind true is false same_is differ = refl
    behind false is same same_is differ = refl

    by_order : (below same : Bool) → nat_eq first.variable new.variable ≡ same → (if same then Some first.block else block_of rest new.variable) ≡ None →
        (block_of rest new.variable ≡ None → block_of (put_owned new rest) variable ≡ put new.variable new.block (block_of rest) variable) →
        block_of (if below then new ∷ first ∷ rest else first ∷ put_owned new rest) variable ≡ put new.variable new.block (block_of (first ∷ rest)) variable
    by_order true same is none later = ap (λ (b : Bool). if b then Some new.block else block_of (first ∷ rest) variable) (eqb_turned new.variable variable)
    by_order false true is none later = absurd (none-some first.block (sym none))
    by_order false false is none later =
        ap (λ (o : Option ℕ). if nat_eq first.variable variable then Some first.block else o) (later none)
        ∙ behind (nat_eq variable new.variable) refl (nat_eq first.variable variable) refl is

-- what a state without a frame shows of its variables
pub shown : (state : State) → state.frame.variables ≡ [] → (at : ℕ) → block_here state at ≡ block_of state.statics at
shown state none at = ap (λ (vs : List Owned). or_else (block_of vs at) (block_of state.statics at)) none

module _ (flow : Flow) (number : ℕ) (parts : Parts) (are : AreStatics flow number parts) (variable : Variable) (there : slice_get flow.variables number ≡ Some variable) (small : variable.size ≤ 65536)
    (few : length parts.objects + 1 < 2 ^ 30) (fixed : variable.fixed ≡ true) (state : State) (made : IsMade parts state) (base : ℕ) (contents : List ℕ)
    (right : (is_new_block state.memory storage.Static variable.size base contents && (not true || list_all (nat_eq 0) contents)) ≡ true) where
  abbrev after : State
  after = with_memory (placed state.memory (new_block storage.Static base contents)) state

  abbrev behind : State
  behind = record after { statics = put_owned (record { variable = number; block = length state.memory }) after.statics }

  none_yet : block_of state.statics number ≡ None
  none_yet = sym (shown state made.variables number) ∙ by_found (block_here state number)
      (made.stands.meets.variables number ∙ ap (option_map made.stands.given.blocks) (unnamed flow number parts are variable there))
    where
      by_found : (found : Option ℕ) → option_map (λ (n : ℕ). n ∷ []) found ≡ None → found ≡ None
      by_found None none = refl
      by_found (Some block) none = absurd (none-some _ (sym none))

  makes : MakesStatic number variable.size (seen [] state) (seen [] behind)
  makes = record {
    block = record {
      base = base;
      contents = contents;
      new = and_left (is_new_block state.memory storage.Static variable.size base contents) (not true || list_all (nat_eq 0) contents) right;
      zeros = and_right (is_new_block state.memory storage.Static variable.size base contents) (not true || list_all (nat_eq 0) contents) right;
      is = refl;
    };
    variables_are = λ at. shown behind made.variables at ∙ block_put (record { variable = number; block = length state.memory }) state.statics at none_yet
        ∙ ap (λ (o : Option ℕ). if nat_eq at number then Some (length state.memory) else o) (sym (shown state made.variables at));
    registers_are = λ register. refl;
    ports = refl;
    roots = refl;
  }

  made_next : IsMade (with_static number variable.size parts) behind
  made_next = record {
    is = static_state number variable.size (seen [] state) (seen [] behind) made.is makes;
    stands = static_sound number variable.size parts are.graph small (room flow number parts are variable there small few fixed) (unnamed flow number parts are variable there) are.below (seen [] state) (seen [] behind) made.is made.stands makes;
    variables = made.variables;
    registers = made.registers;
    callers = made.callers;
    outer = made.outer;
  }

pub statics_sound : (flow : Flow) (number : ℕ) (variables : List Variable) (parts : Parts) (state : State) (choices : List Choice) → IsFlow flow → IsRest flow number variables →
    length (start.with_statics number variables parts).objects < 2 ^ 30 → AreStatics flow number parts → IsMade parts state → Leaves (with_statics number variables state choices) (IsMade (start.with_statics number variables parts))
statics_sound flow number [] parts state choices valid rest_is few are made = made
statics_sound flow number (variable ∷ rest) parts state choices valid rest_is few are made =
    by_kind variable.fixed refl few (λ parts state choices few are made. statics_sound flow (number + 1) rest parts state choices valid (rest_later flow number variable rest rest_is) few are made)
  where
    there : slice_get flow.variables number ≡ Some variable
    there = rest_first flow number variable rest rest_is

    small : variable.size ≤ 65536
    small = small_at flow number variable valid there

    onward : State → ℕ → List Choice → Outcome
    onward after block more = with_statics (number + 1) rest (record after { statics = put_owned (record { variable = number; block = block }) after.statics }) more

    by_choice : (fixed : variable.fixed ≡ true) → length (start.with_statics (number + 1) rest (with_static number variable.size parts)).objects < 2 ^ 30 → ((parts : Parts) (state : State) (choices : List Choice) → length (start.with_statics (number + 1) rest parts).objects < 2 ^ 30 → AreStatics flow (number + 1) parts → IsMade parts state →
        Leaves (with_statics (number + 1) rest state choices) (IsMade (start.with_statics (number + 1) rest parts))) → (choices : List Choice) →
        Leaves (with_new_block storage.Static variable.size true state choices onward) (IsMade (start.with_statics (number + 1) rest (with_static number variable.size parts)))
    by_choice fixed few later [] = tt
    by_choice fixed few later (NoBlock ∷ choices) = tt
    by_choice fixed few later (GivenInput input ∷ choices) = tt
    by_choice fixed few later (NewBlock base contents ∷ choices) = by_test (is_new_block state.memory storage.Static variable.size base contents && (not true || list_all (nat_eq 0) contents)) refl
      where
        one_more : length parts.objects + 1 < 2 ^ 30
        one_more =
            let more = objects_more (number + 1) rest (with_static number variable.size parts) in
            let long = length-append parts.objects (record { key = length parts.objects; object = new_object storage.Static variable.size true } ∷ []) in omega arith

        by_test : (b : Bool) → (is_new_block state.memory storage.Static variable.size base contents && (not true || list_all (nat_eq 0) contents)) ≡ b →
            Leaves (if b then onward (with_memory (placed state.memory (new_block storage.Static base contents)) state) (length state.memory) choices else Ended) (IsMade (start.with_statics (number + 1) rest (with_static number variable.size parts)))
        by_test false is = tt
        by_test true is =
            later (with_static number variable.size parts)
            (record (with_memory (placed state.memory (new_block storage.Static base contents)) state) { statics = put_owned (record { variable = number; block = length state.memory }) state.statics }) choices
            few (static_next flow number parts are variable there small one_more fixed) (made_next flow number parts are variable there small one_more fixed state made base contents is)

    by_kind : (b : Bool) → variable.fixed ≡ b → length (start.with_statics (number + 1) rest (if b then with_static number variable.size parts else parts)).objects < 2 ^ 30 → ((parts : Parts) (state : State) (choices : List Choice) → length (start.with_statics (number + 1) rest parts).objects < 2 ^ 30 → AreStatics flow (number + 1) parts → IsMade parts state →
        Leaves (with_statics (number + 1) rest state choices) (IsMade (start.with_statics (number + 1) rest parts))) →
        Leaves (if b then with_new_block storage.Static variable.size true state choices onward else with_statics (number + 1) rest state choices) (IsMade (start.with_statics (number + 1) rest (if b then with_static number variable.size parts else parts)))
    by_kind true fixed few later = by_choice fixed few later choices
    by_kind false loose few later = later parts state choices few (others_next flow number parts are variable there loose) made
