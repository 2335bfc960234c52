-- The start graph is a graph that fits main's entry, and stands for each state in which a run begins.
use Rattle.std.proofs.Common.{◌≡◌, ℕ, zero, suc, ◌+◌, ◌^◌, ◌<◌, ◌≤◌, Bool, true, false, not, ◌&&◌, ◌||◌, List, [], ◌∷◌, map, length, nat_eq, nat_le, nat_lt, Option, Some, None, ◌⊎◌, inl, inr, refl, sym, ◌∙◌, ap, subst, eq-eqb, eqb-true, ltb-true, lt-ltb, le-leb, length-append, arith}
use Rattle.std.specs.Prelude.{IsTrue, is_some, is_none, option_map, slice_get, All, Contains, if◌then◌else◌}
use Rattle.std.specs.List.{list_all, list_any, fold}
use Rattle.std.specs.Option.{option_map_or, option_and_then}
use Rattle.std.proofs.lemmas.Bool.{false≢true}
use Rattle.std.proofs.lemmas.List.{length-map}
use Rattle.std.proofs.lemmas.List.Elements.{All-nil, All-head, All-tail}
use Rattle.std.proofs.lemmas.Option.{none-some, slice_get_within}
use Rattle.cbase.specs.declared.place.Place.{Place}
use Rattle.bytes_core.specs.Placement.{is_placed}
use Rattle.bytes_core.specs.Valid.{NamesBelow}
use Rattle.bytes_core.specs.declared.word.Word.TheVariants.{Plain}
use Rattle.bytes_core.specs.declared.block.BlockKind.TheVariants.{Static, Local}
use Rattle.choices.specs.declared.choice.Choice.{Choice}
use Rattle.graph.specs.State as graphs
use Rattle.graph.specs.declared.object.Object.{Object}
use Rattle.graph.specs.declared.object.Shape.{Shape}
use Rattle.graph.specs.declared.object.Shape.TheVariants.{Region as RegionShape, Segment}
use Rattle.graph.specs.declared.parts.KeyedObject.{KeyedObject}
use Rattle.graph.specs.declared.parts.Parts.{Parts}
use Rattle.graph.specs.DeadBlocks as dead
use Rattle.graph.specs.declared.parts.Held.{Held}
use Rattle.graph.specs.Maps.{object_at, value_at, storage_of, held_by}
use Rattle.graph.specs.Sizes.{value_size}
use Rattle.graph.specs.Meaning.{StandsFor}
use Rattle.graph.specs.WellFormed.{nodes, nodes_of}
use Rattle.graph.specs.WellFormed as well
use Rattle.graph.specs.Whole.{IsGraph, no_parts}
use Rattle.graph.proofs.Tests.{and_left, and_right, and_both}
use Rattle.changes.specs.Parts.{replaced}
use Rattle.changes.specs.Ranges.{written_object}
use Rattle.reinterpret.specs.Writing.{edge_at}
use Rattle.flow.specs.declared.flow_graph.Flow.{Flow}
use Rattle.flow.specs.declared.flow_graph.FlowFunction.{FlowFunction}
use Rattle.flow.specs.declared.flow_graph.Initial.{Initial}
use Rattle.flow.specs.declared.flow_graph.Variable.{Variable}
use Rattle.flow.specs.Holding.{Owned, block_of, size_of, emptied_widths}
use Rattle.flow.specs.declared.flow_graph.Width.{Width}
use Rattle.flow.specs.InRange.{entry_of}
use Rattle.flow.specs.Machine.{State, Outcome, Went, Barred, Waits, Ended, Faulted, size_in, with_memory, entered}
use Rattle.flow.specs.Runs.{blank, parameters_of}
use Rattle.flow.specs.Runs as runs
use Rattle.flow.specs.Standing.{stands_at, with_variables}
use Rattle.flow.specs.Valid.{IsFlow, is_fixed, is_local, is_parameter, is_initial, is_object_size, is_scalar_size}
use Rattle.flow.specs.Valid as flows
use Rattle.flow.proofs.Ascending.{All-at}
use Rattle.flow.proofs.Outcomes.{Leaves, Leaves-weaker, Leaves-then}
use Rattle.heap_steps.specs.Regions.{AreRegions}
use Rattle.heap_steps.proofs.Listed.{Contains-first, Contains-later, Contains-cases, Contains-none}
use Rattle.block_steps.specs.Blocks.{new_object}
use Rattle.block_steps.specs.Entering.{MayEnter, Enters, EnterTail, with_entered_one, with_entered}
use Rattle.block_steps.proofs.Entered.{all_sound, all_tail}
use Rattle.edge_steps.specs.Seen.{seen}
use Rattle.edge_steps.proofs.Entered.{AreNew, there_enter}
use Rattle.edge_steps.proofs.Outcomes.{IsRight}
use Rattle.transfer.specs.Fitting.{FitsAt, FitsWith}
use Rattle.transfer.specs.Start.{AreNamed, with_static, with_statics, initial_value, with_scalar, object_found, with_initial, with_initials, static_graph, start_graph}
use Rattle.transfer.proofs.Behind.{enter_fits}
use Rattle.transfer.proofs.EdgeObjects.{keeps_entered}
use Rattle.transfer.proofs.InitialWritten.{named_after, initial_stands, initial_state}
use Rattle.transfer.proofs.StaticLoop.{AreStatics, IsMade, nodes_regions, statics_graph, statics_sound, shown}
use Rattle.transfer.proofs.Widths.{any_with}

-- Nothing at all is a graph.

nothing_graph : IsGraph no_parts
nothing_graph = record {
  well_formed = record {
    edges_hold_values = refl;
    edges_are_at_home = refl;
    registers_hold_values = refl;
    ports_are_values = refl;
    addresses_lead_to_objects = refl;
    variables_have_storage = refl;
    storage_is_distinct = refl;
    variables_ascend = refl;
    registers_ascend = refl;
    objects_are_small = refl;
    planes_are_as_long = refl;
    dead_objects_are_bare = refl;
    segments_are_allocated = refl;
    edges_lie_inside = refl;
    edges_are_in_order = refl;
    edges_have_their_sizes = refl;
    edges_have_their_classes = refl;
    edges_are_not_zero = refl;
    links_lie_inside = refl;
    links_are_in_order = refl;
    links_have_no_edge = refl;
    links_may_be_pointers = refl;
    links_lead_on = refl;
    links_back_fit = refl;
    comes_to_an_end = record {
      ranks = record { first = λ key. 0; last = λ key. 0 };
      next = λ key object links stands linked least. absurd (none-some object stands);
      prev = λ key object links stands linked least. absurd (none-some object stands);
    };
    values_are_sized = refl;
    pairs_may_be_unequal = refl;
    pairs_are_different = refl;
  };
  within_limits = refl;
  ascending = record { objects = λ i j d before below. absurd (omega arith); values = λ i j d before below. absurd (omega arith) };
  keys = record { objects = λ place entry stands. absurd (none-some entry stands); values = λ place entry stands. absurd (none-some entry stands) };
}

pub nothing_named : (flow : Flow) → AreStatics flow 0 no_parts
nothing_named flow = record {
  graph = nothing_graph;
  regions = refl;
  storages = record { sizes = λ variable key object stored there. absurd (none-some key stored) };
  registers = refl;
  ports = refl;
  below = refl;
  named = λ variable. by_test variable (nat_lt variable 0) refl;
}
  where
    by_test : (variable : ℕ) (b : Bool) → nat_lt variable 0 ≡ b → false ≡ (b && is_fixed flow variable)
    by_test variable true is = let less = ltb-true variable 0 is in absurd (omega arith)
    by_test variable false is = refl

pub nothing_made : (point : ℕ) → IsMade no_parts (blank point)
nothing_made point = record {
  is = record {
    memory = record { placed = All-nil (λ block. IsTrue (is_placed block)); apart = λ i j d before below. absurd (omega arith); named = All-nil (λ block. All (NamesBelow 0) block.bytes) };
    bytes = All-nil (λ block. All graphs.IsByte block.bytes);
    variables = λ variable number stands. absurd (none-some number stands);
    registers = λ register word stands. absurd (none-some word stands);
    ports = All-nil (graphs.IsWordBelow 0);
    roots = All-nil (graphs.IsLedTo []);
  };
  stands = record {
    given = record { word = λ key. Plain 0; blocks = λ key. []; owner = λ number. 0; place = λ number. 0 };
    meets = record {
      values = λ key value stands. absurd (none-some value stands);
      objects = λ key object stands. absurd (none-some object stands);
      owners = λ key place number some stands. absurd (false≢true some);
      places = λ key place number some stands. absurd (false≢true some);
      used = λ number block stands live. absurd (none-some block stands);
      variables = λ variable. refl;
      registers = λ register. refl;
      ports = refl;
      rooted = λ place port stands. absurd (none-some port stands);
      unequal = λ place pair stands. absurd (none-some pair stands);
    };
  };
  variables = refl;
  registers = refl;
  callers = refl;
  outer = refl;
}

-- How many objects there are.

some_nodes : (shape : Shape) → 1 ≤ nodes_of shape
some_nodes RegionShape = omega arith
some_nodes (Segment twofold head next prev back least next_value prev_value node) = omega arith

at_least : (entries : List KeyedObject) (count : ℕ) → count + length entries ≤ fold (λ count (entry : KeyedObject). count + nodes_of entry.object.shape) count entries
at_least [] count = omega arith
at_least (first ∷ rest) count =
    let one = some_nodes first.object.shape in let later = at_least rest (count + nodes_of first.object.shape) in omega arith

few_objects : (parts : Parts) → IsGraph parts → length parts.objects < 2 ^ 30
few_objects parts graph =
    let few = ltb-true (nodes parts) (2 ^ 30) (and_left (nat_lt (nodes parts) (2 ^ 30)) (nat_lt (length parts.unequal) (2 ^ 30)) graph.within_limits) in
    let most : 0 + length parts.objects ≤ nodes parts = at_least parts.objects 0 in omega arith

entered_objects : (which sizes : List ℕ) (parts : Parts) → length sizes ≡ length which → length (with_entered which sizes parts).objects ≡ length parts.objects + length which
entered_objects [] sizes parts many = omega arith
entered_objects (variable ∷ rest) [] parts many = absurd (let no : 0 ≡ suc (length rest) = many in omega arith)
entered_objects (variable ∷ rest) (size ∷ sizes) parts many =
    entered_objects rest sizes (with_entered_one variable size parts) (let same : suc (length sizes) ≡ suc (length rest) = many in omega arith)
    ∙ (let long = length-append parts.objects (record { key = length parts.objects; object = new_object Local size false } ∷ []) in omega arith)

statics_named : (flow : Flow) (parts : Parts) → AreStatics flow (length flow.variables) parts → AreNamed flow parts
statics_named flow parts are = record {
  graph = are.graph;
  regions = are.regions;
  storages = are.storages;
  registers = are.registers;
  ports = are.ports;
  named = λ variable. are.named variable ∙ by_found variable (slice_get flow.variables variable) refl;
}
  where
    by_found : (variable : ℕ) (found : Option Variable) → slice_get flow.variables variable ≡ found → (nat_lt variable (length flow.variables) && is_fixed flow variable) ≡ is_fixed flow variable
    by_found variable None is =
        ap (λ (o : Option Variable). nat_lt variable (length flow.variables) && option_map_or (λ (v : Variable). v.fixed) o false) is ∙ and_false (nat_lt variable (length flow.variables))
        ∙ sym (ap (λ (o : Option Variable). option_map_or (λ (v : Variable). v.fixed) o false) is)
      where
        and_false : (b : Bool) → (b && false) ≡ false
        and_false true = refl
        and_false false = refl
    by_found variable (Some found) is = ap (λ (b : Bool). b && is_fixed flow variable) (lt-ltb _ _ (slice_get_within flow.variables variable found is))

-- What static variables hold.

initial_objects : (scalar : Initial) (parts : Parts) → length (with_initial scalar parts).objects ≡ length parts.objects
initial_objects scalar parts = by_found (storage_of parts.variables scalar.variable)
  where
    by_object : (key : ℕ) (found : Option Object) → length (with_scalar (Some key) found scalar (initial_value parts scalar.size scalar.word) parts).objects ≡ length parts.objects
    by_object key None = refl
    by_object key (Some object) = length-map parts.objects (replaced key (written_object object (edge_at scalar.at scalar.size (length parts.values)) (initial_value parts scalar.size scalar.word)))

    by_found : (found : Option ℕ) → length (with_scalar found (object_found parts found) scalar (initial_value parts scalar.size scalar.word) parts).objects ≡ length parts.objects
    by_found None = refl
    by_found (Some key) = by_object key (object_at parts.objects key)

initials_objects : (initials : List Initial) (parts : Parts) → length (with_initials initials parts).objects ≡ length parts.objects
initials_objects [] parts = refl
initials_objects (first ∷ rest) parts = initials_objects rest (with_initial first parts) ∙ initial_objects first parts

pub initials_named : (flow : Flow) (initials : List Initial) (parts : Parts) → All (λ scalar. IsTrue (is_initial flow scalar)) initials → AreNamed flow parts → AreNamed flow (with_initials initials parts)
initials_named flow [] parts right are = are
initials_named flow (first ∷ rest) parts right are =
    initials_named flow rest (with_initial first parts) (All-tail (λ scalar. IsTrue (is_initial flow scalar)) first rest right)
    (named_after flow parts are first (All-head (λ scalar. IsTrue (is_initial flow scalar)) first rest right))

-- a state for which a graph stands
pub record IsBegun (parts : Parts) (state : graphs.State) : Type 0 where
  pub is : graphs.IsState state
  pub stands : StandsFor parts state

initials_begun : (flow : Flow) (statics : List Owned) (initials : List Initial) (parts : Parts) (state : graphs.State) → All (λ scalar. IsTrue (is_initial flow scalar)) initials → AreNamed flow parts →
    ((at : ℕ) → state.variables at ≡ block_of statics at) → IsBegun parts state → IsBegun (with_initials initials parts) (dead.with_memory (runs.with_initials statics initials state.memory) state)
initials_begun flow statics [] parts state right are shown begun = begun
initials_begun flow statics (first ∷ rest) parts state right are shown begun =
    let valid = All-head (λ scalar. IsTrue (is_initial flow scalar)) first rest right in
    initials_begun flow statics rest (with_initial first parts) (dead.with_memory (runs.with_initial statics first state.memory) state) (All-tail (λ scalar. IsTrue (is_initial flow scalar)) first rest right)
    (named_after flow parts are first valid) shown
    (record {
      is = initial_state flow parts are first valid state statics shown begun.stands.given begun.stands.meets begun.is;
      stands = initial_stands flow parts are first valid state statics shown begun.stands.given begun.stands.meets;
    })

-- Main's parameters.

small_size : (flow : Flow) (variable : ℕ) → All (λ v. IsTrue (is_object_size v.size)) flow.variables → nat_le (size_in flow variable) 65536 ≡ true
small_size flow variable all = by_found (slice_get flow.variables variable) refl
  where
    by_found : (found : Option Variable) → slice_get flow.variables variable ≡ found → nat_le (option_map_or (λ (v : Variable). v.size) found 0) 65536 ≡ true
    by_found None is = le-leb 0 65536 (omega arith)
    by_found (Some found) is = All-at (λ (v : Variable). IsTrue (is_object_size v.size)) flow.variables variable found is all

small_sizes : (flow : Flow) (variables : List ℕ) → All (λ v. IsTrue (is_object_size v.size)) flow.variables → list_all (λ size. nat_le size 65536) (map (size_in flow) variables) ≡ true
small_sizes flow [] all = refl
small_sizes flow (first ∷ rest) all =
    and_both (nat_le (size_in flow first) 65536) (list_all (λ size. nat_le size 65536) (map (size_in flow) rest)) (small_size flow first all) (small_sizes flow rest all)

none_equal : (first : ℕ) (rest : List ℕ) → not (list_any (nat_eq first) rest) ≡ list_all (λ other. not (nat_eq first other)) rest
none_equal first [] = refl
none_equal first (other ∷ rest) = by_test (nat_eq first other) (none_equal first rest)
  where
    by_test : (b : Bool) → not (list_any (nat_eq first) rest) ≡ list_all (λ other. not (nat_eq first other)) rest →
        not (b || list_any (nat_eq first) rest) ≡ (not b && list_all (λ other. not (nat_eq first other)) rest)
    by_test true later = refl
    by_test false later = later

distinct_same : (variables : List ℕ) → flows.are_distinct variables ≡ well.are_distinct variables
distinct_same [] = refl
distinct_same (first ∷ rest) = ap (λ (b : Bool). b && flows.are_distinct rest) (none_equal first rest) ∙ ap (λ (b : Bool). list_all (λ other. not (nat_eq first other)) rest && b) (distinct_same rest)

not_there : (flow : Flow) (parts : Parts) (variable : ℕ) → AreNamed flow parts → is_local flow variable ≡ true → is_none (storage_of parts.variables variable) ≡ true
not_there flow parts variable are local = by_storage (storage_of parts.variables variable) (are.named variable ∙ by_found (slice_get flow.variables variable) local)
  where
    by_found : (found : Option Variable) → option_map_or (λ (v : Variable). not v.fixed) found false ≡ true → option_map_or (λ (v : Variable). v.fixed) found false ≡ false
    by_found None local = absurd (false≢true local)
    by_found (Some found) local = by_fixed found.fixed local
      where
        by_fixed : (b : Bool) → not b ≡ true → b ≡ false
        by_fixed true local = absurd (false≢true local)
        by_fixed false local = refl

    by_storage : (found : Option ℕ) → is_some found ≡ false → is_none found ≡ true
    by_storage None none = refl
    by_storage (Some key) none = absurd (false≢true (sym none))

none_there : (flow : Flow) (parts : Parts) (variables : List ℕ) → AreNamed flow parts → list_all (is_parameter flow) variables ≡ true → list_all (λ variable. is_none (storage_of parts.variables variable)) variables ≡ true
none_there flow parts [] are all = refl
none_there flow parts (first ∷ rest) are all =
    and_both (is_none (storage_of parts.variables first)) (list_all (λ variable. is_none (storage_of parts.variables variable)) rest)
    (not_there flow parts first are (and_left (is_local flow first) (is_scalar_size (size_in flow first)) (and_left (is_parameter flow first) (list_all (is_parameter flow) rest) all)))
    (none_there flow parts rest are (and_right (is_parameter flow first) (list_all (is_parameter flow) rest) all))

pub are_new : (variables : List ℕ) → flows.are_distinct variables ≡ true → AreNew variables []
are_new [] distinct = tt
are_new (first ∷ rest) distinct =
    (refl, not_any (list_any (nat_eq first) rest) (and_left (not (list_any (nat_eq first) rest)) (flows.are_distinct rest) distinct), are_new rest (and_right (not (list_any (nat_eq first) rest)) (flows.are_distinct rest) distinct))
  where
    not_any : (b : Bool) → not b ≡ true → b ≡ false
    not_any true is = absurd (false≢true is)
    not_any false is = refl

-- what is reached rightly is left so
right_leaves : (Steps : State → Type 0) (Faults : ℕ → Type 0) (place : Place) (outcome : Outcome) → IsRight Steps Faults place outcome → Leaves outcome Steps
right_leaves Steps Faults place (Went next choices) right = right
right_leaves Steps Faults place Barred right = tt
right_leaves Steps Faults place Waits right = tt
right_leaves Steps Faults place Ended right = tt
right_leaves Steps Faults place (Faulted kind other) right = tt

-- the static variables
objects_most : (number : ℕ) (variables : List Variable) (parts : Parts) → length (with_statics number variables parts).objects ≤ length parts.objects + length variables
objects_most number [] parts = omega arith
objects_most number (variable ∷ rest) parts = by_kind variable.fixed (λ parts. objects_most (number + 1) rest parts)
  where
    by_kind : (b : Bool) → ((parts : Parts) → length (with_statics (number + 1) rest parts).objects ≤ length parts.objects + length rest) →
        length (with_statics (number + 1) rest (if b then with_static number variable.size parts else parts)).objects ≤ length parts.objects + suc (length rest)
    by_kind true onward =
        let more = onward (with_static number variable.size parts) in
        let long = length-append parts.objects (record { key = length parts.objects; object = new_object Static variable.size true } ∷ []) in omega arith
    by_kind false onward = let more = onward parts in omega arith

pub rest_of : (flow : Flow) (place : ℕ) (variable : Variable) → slice_get flow.variables place ≡ Some variable → slice_get flow.variables (0 + place) ≡ Some variable
rest_of flow place variable there = subst (λ (n : ℕ). slice_get flow.variables n ≡ Some variable) (let same : place ≡ 0 + place = omega arith in same) there

pub statics_are_named : (flow : Flow) → IsFlow flow → length (with_statics 0 flow.variables no_parts).objects < 2 ^ 30 → AreNamed flow (with_statics 0 flow.variables no_parts)
statics_are_named flow valid few =
    statics_named flow (with_statics 0 flow.variables no_parts)
    (subst (λ (n : ℕ). AreStatics flow n (with_statics 0 flow.variables no_parts)) (let same : 0 + length flow.variables ≡ length flow.variables = omega arith in same)
    (statics_graph flow 0 flow.variables no_parts valid (rest_of flow) few (nothing_named flow)))

pub few_variables : (flow : Flow) → length flow.variables < 33554432 → length (with_statics 0 flow.variables no_parts).objects < 2 ^ 30
few_variables flow few = let most : length (with_statics 0 flow.variables no_parts).objects ≤ 0 + length flow.variables = objects_most 0 flow.variables no_parts in omega arith

pub static_graph_named : (flow : Flow) → IsFlow flow → length flow.variables < 33554432 → AreNamed flow (static_graph flow)
static_graph_named flow valid few = initials_named flow flow.initial (with_statics 0 flow.variables no_parts) valid.initials (statics_are_named flow valid (few_variables flow few))

pub parameters_of_main : (flow : Flow) → IsFlow flow → (flows.are_distinct (parameters_of flow flow.main) && list_all (is_parameter flow) (parameters_of flow flow.main)) ≡ true
parameters_of_main flow valid = by_found (slice_get flow.functions flow.main) refl
  where
    by_found : (found : Option FlowFunction) → slice_get flow.functions flow.main ≡ found →
        (flows.are_distinct (option_map_or (λ (f : FlowFunction). f.parameters) found []) && list_all (is_parameter flow) (option_map_or (λ (f : FlowFunction). f.parameters) found [])) ≡ true
    by_found None is = refl
    by_found (Some function) is = All-at (λ (f : FlowFunction). IsTrue (flows.are_distinct f.parameters && list_all (is_parameter flow) f.parameters)) flow.functions flow.main function is valid.parameters

pub parameters_may_enter : (flow : Flow) → IsFlow flow → (parts : Parts) → AreNamed flow parts → MayEnter parts (parameters_of flow flow.main) (map (size_in flow) (parameters_of flow flow.main))
parameters_may_enter flow valid parts are = record {
  many = length-map (parameters_of flow flow.main) (size_in flow);
  small = small_sizes flow (parameters_of flow flow.main) valid.variable_sizes;
  distinct = sym (distinct_same (parameters_of flow flow.main)) ∙ and_left (flows.are_distinct (parameters_of flow flow.main)) (list_all (is_parameter flow) (parameters_of flow flow.main)) (parameters_of_main flow valid);
  unnamed = none_there flow parts (parameters_of flow flow.main) are (and_right (flows.are_distinct (parameters_of flow flow.main)) (list_all (is_parameter flow) (parameters_of flow flow.main)) (parameters_of_main flow valid));
}

module _ (flow : Flow) (valid : IsFlow flow) (graph : IsGraph (start_graph flow)) where
  abbrev pub parameters : List ℕ
  parameters = parameters_of flow flow.main

  abbrev pub sizes : List ℕ
  sizes = map (size_in flow) parameters

  abbrev pub statics : Parts
  statics = with_statics 0 flow.variables no_parts

  many : length sizes ≡ length parameters
  many = length-map parameters (size_in flow)

  count : length (start_graph flow).objects ≡ length statics.objects + length parameters
  count = entered_objects parameters sizes (static_graph flow) many ∙ ap (λ (n : ℕ). n + length parameters) (initials_objects flow.initial statics)

  pub few_statics : length statics.objects < 2 ^ 30
  few_statics = let few = few_objects (start_graph flow) graph in let is = count in omega arith

  statics_are : AreNamed flow statics
  statics_are = statics_are_named flow valid few_statics

  pub static_named : AreNamed flow (static_graph flow)
  static_named = initials_named flow flow.initial statics valid.initials statics_are

  pub room : nodes (static_graph flow) + length parameters < 2 ^ 30
  room =
      let few = few_objects (start_graph flow) graph in let is = count in
      let nodes_are = nodes_regions (static_graph flow) static_named.regions in let same = initials_objects flow.initial statics in omega arith

  parameters_right : (flows.are_distinct parameters && list_all (is_parameter flow) parameters) ≡ true
  parameters_right = parameters_of_main flow valid

  may_enter : MayEnter (static_graph flow) parameters sizes
  may_enter = parameters_may_enter flow valid (static_graph flow) static_named

  start_tail : EnterTail (static_graph flow) parameters sizes (start_graph flow)
  start_tail = all_tail parameters sizes (static_graph flow) static_named.graph may_enter room

  -- The states.

  nowhere : Place
  nowhere = record { file = 0; line = 0; column = 0; at = 0 }

  enters : (state : State) (choices : List Choice) → state.frame.variables ≡ [] → Leaves (entered flow parameters state choices) (λ next. Enters parameters sizes (seen [] state) (seen [] next))
  enters state choices none =
      right_leaves (λ next. Enters parameters sizes (seen [] state) (seen [] next)) (λ kind. ⊥) nowhere (entered flow parameters state choices)
      (there_enter flow [] (λ register. 0) state.point nowhere state choices parameters
      (subst (AreNew parameters) (sym none) (are_new parameters (and_left (flows.are_distinct parameters) (list_all (is_parameter flow) parameters) parameters_right))))

  starts : (state : State) (choices : List Choice) → IsMade statics state →
      Leaves (entered flow parameters (with_memory (runs.with_initials state.statics flow.initial state.memory) state) choices) (λ next. StandsFor (start_graph flow) (seen [] next))
  starts state choices made =
      Leaves-weaker (entered flow parameters begun choices) (λ next. Enters parameters sizes (seen [] begun) (seen [] next)) (λ next. StandsFor (start_graph flow) (seen [] next))
      (λ next enters. all_sound parameters sizes (static_graph flow) static_named.graph may_enter room (seen [] begun) (seen [] next) holds.is holds.stands enters)
      (enters begun choices made.variables)
    where
      begun : State
      begun = with_memory (runs.with_initials state.statics flow.initial state.memory) state

      holds : IsBegun (static_graph flow) (seen [] begun)
      holds = initials_begun flow state.statics flow.initial statics (seen [] state) valid.initials statics_are (shown state made.variables) (record { is = made.is; stands = made.stands })

  pub start_leaves : (choices : List Choice) → Leaves (runs.start flow choices) (λ state. StandsFor (start_graph flow) (seen [] state))
  start_leaves choices =
      Leaves-then (runs.with_statics 0 flow.variables (blank (entry_of flow flow.main)) choices)
      (λ state more. entered flow (parameters_of flow flow.main) (with_memory (runs.with_initials state.statics flow.initial state.memory) state) more)
      (IsMade statics) (λ state. StandsFor (start_graph flow) (seen [] state))
      (statics_sound flow 0 flow.variables no_parts (blank (entry_of flow flow.main)) choices valid (rest_of flow) few_statics (nothing_named flow) (nothing_made (entry_of flow flow.main)))
      (λ state more made. starts state more made)

  -- What stands at main's entry.

  begins_with : FitsWith flow (record { variables = []; registers = [] }) (static_graph flow)
  begins_with = record {
    variables = λ variable. static_named.named variable ∙ sym (or_false (is_fixed flow variable));
    registers = λ register. ap (λ (hs : List Held). option_and_then (λ key. option_map value_size (value_at (static_graph flow).values key)) (held_by hs register)) static_named.registers;
    ports = static_named.ports;
  }
    where
      or_false : (b : Bool) → (b || false) ≡ b
      or_false true = refl
      or_false false = refl

  stands_with : FitsWith flow (record { variables = with_variables parameters []; registers = emptied_widths [] [] }) (start_graph flow)
  stands_with =
      enter_fits flow (record { variables = []; registers = [] }) (static_graph flow) (start_graph flow) static_named.graph begins_with parameters start_tail

  any_in : (numbers : List ℕ) (number : ℕ) → list_any (nat_eq number) numbers ≡ true → Contains numbers number
  any_in [] number is = absurd (false≢true is)
  any_in (first ∷ rest) number is = by_first (nat_eq number first) refl is (λ later. any_in rest number later)
    where
      by_first : (b : Bool) → nat_eq number first ≡ b → (b || list_any (nat_eq number) rest) ≡ true → (list_any (nat_eq number) rest ≡ true → Contains rest number) → Contains (first ∷ rest) number
      by_first true same is later = subst (λ (n : ℕ). Contains (first ∷ rest) n) (sym (eqb-true _ _ same)) (Contains-first first rest)
      by_first false differ is later = Contains-later first number rest (later is)

  in_any : (numbers : List ℕ) (number : ℕ) → Contains numbers number → list_any (nat_eq number) numbers ≡ true
  in_any [] number there = absurd (Contains-none number there)
  in_any (first ∷ rest) number there = by_cases (Contains-cases first number rest there) (λ later. in_any rest number later)
    where
      or_true : (b : Bool) → (b || true) ≡ true
      or_true true = refl
      or_true false = refl

      by_cases : (first ≡ number) ⊎ Contains rest number → (Contains rest number → list_any (nat_eq number) rest ≡ true) → list_any (nat_eq number) (first ∷ rest) ≡ true
      by_cases (inl same) later = ap (λ (b : Bool). b || list_any (nat_eq number) rest) (eq-eqb number first (sym same))
      by_cases (inr among) later = ap (λ (b : Bool). nat_eq number first || b) (later among) ∙ or_true (nat_eq number first)

  same_truth : (one other : Bool) → (one ≡ true → other ≡ true) → (other ≡ true → one ≡ true) → one ≡ other
  same_truth true other there back = sym (there refl)
  same_truth false true there back = absurd (false≢true (back refl))
  same_truth false false there back = refl

  pub start_regions : AreRegions (start_graph flow).objects
  start_regions = (keeps_entered parameters sizes (static_graph flow)).regions static_named.regions

  pub start_fits : FitsAt flow (entry_of flow flow.main) (start_graph flow)
  start_fits = by_found (slice_get flow.functions flow.main) refl
    where
      at_entry : (function : FlowFunction) → slice_get flow.functions flow.main ≡ Some function → entry_of flow flow.main ≡ function.entry
      at_entry function is = ap (λ (o : Option FlowFunction). option_map_or (λ (f : FlowFunction). f.entry) o 0) is

      parameters_are : (function : FlowFunction) → slice_get flow.functions flow.main ≡ Some function → parameters ≡ function.parameters
      parameters_are function is = ap (λ (o : Option FlowFunction). option_map_or (λ (f : FlowFunction). f.parameters) o []) is

      by_found : (found : Option FlowFunction) → slice_get flow.functions flow.main ≡ found → FitsAt flow (entry_of flow flow.main) (start_graph flow)
      by_found None is = absurd (let main = valid.in_range.main in none_within flow.functions flow.main main is)
        where
          none_within : (functions : List FlowFunction) (number : ℕ) → number < length functions → slice_get functions number ≡ None → ⊥
          none_within [] number less none = absurd (omega arith)
          none_within (first ∷ rest) zero less none = none-some first (sym none)
          none_within (first ∷ rest) (suc number) less none = none_within rest number (omega arith) none
      by_found (Some function) is = record {
        variables = λ variable. stands_with.variables variable ∙ ap (λ (b : Bool). is_fixed flow variable || b) (stood variable);
        registers = λ register. stands_with.registers register ∙ sym (ap (λ (ws : List Width). size_of ws register) bare);
        ports = stands_with.ports;
      }
        where
          bare : (stands_at flow (entry_of flow flow.main)).registers ≡ []
          bare = ap (λ (n : ℕ). (stands_at flow n).registers) (at_entry function is) ∙ All-at (λ (f : FlowFunction). (stands_at flow f.entry).registers ≡ []) flow.functions flow.main function is valid.entry_registers

          both : (variable : ℕ) → (Contains (stands_at flow function.entry).variables variable → Contains function.parameters variable) × (Contains function.parameters variable → Contains (stands_at flow function.entry).variables variable)
          both = All-at (λ (f : FlowFunction). (variable : ℕ) → (Contains (stands_at flow f.entry).variables variable → Contains f.parameters variable) × (Contains f.parameters variable → Contains (stands_at flow f.entry).variables variable))
              flow.functions flow.main function is valid.entry_variables

          or_false : (b : Bool) → (b || false) ≡ b
          or_false true = refl
          or_false false = refl

          stood : (variable : ℕ) → list_any (nat_eq variable) (with_variables parameters []) ≡ list_any (nat_eq variable) (stands_at flow (entry_of flow flow.main)).variables
          stood variable =
              any_with parameters [] variable ∙ or_false (list_any (nat_eq variable) parameters) ∙ ap (list_any (nat_eq variable)) (parameters_are function is)
              ∙ same_truth (list_any (nat_eq variable) function.parameters) (list_any (nat_eq variable) (stands_at flow function.entry).variables)
              (λ any. in_any (stands_at flow function.entry).variables variable ((both variable).1 (any_in function.parameters variable any)))
              (λ any. in_any function.parameters variable ((both variable).0 (any_in (stands_at flow function.entry).variables variable any)))
              ∙ ap (λ (n : ℕ). list_any (nat_eq variable) (stands_at flow n).variables) (sym (at_entry function is))
