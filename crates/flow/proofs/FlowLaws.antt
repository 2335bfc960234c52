-- What holds of a flow graph, put together from what is told of its parts.
use Rattle.std.proofs.Common.{◌≡◌, ◌≢◌, ℕ, ◌<◌, ◌⊎◌, inl, inr, List, [], ◌∷◌, length, map, refl, sym, Bool, true, false, not, nat_eq, nat_lt, Some, arith}
use Rattle.std.specs.Prelude.{All, Contains, IsTrue, slice_index_or}
use Rattle.std.specs.List.{list_all, list_any, Any}
use Rattle.std.proofs.lemmas.Bool.{cases_Bool, eq-eqb, eqb-true, ltb-true, lt-ltb, and_parts, and_from, or_cases, or_left, or_right, both_ways, not-true, not_from_false, false_from_ne_true}
use Rattle.std.proofs.lemmas.List.Elements.{All-weaker, All-contains, Contains-get_or}
use Rattle.std.proofs.lemmas.List.Folds.{list_any_at, list_any_none, Any-from_list_any}
use Rattle.std.proofs.lemmas.List.Sums.{AllPass-from_list_all, list_all-from_AllPass}
use Rattle.std.proofs.lemmas.Map.Views.{Contains-from_any}
use Rattle.flow.specs.declared.flow_graph.Flow.{Flow}
use Rattle.flow.specs.declared.flow_graph.FlowEdge.{FlowEdge}
use Rattle.flow.specs.declared.flow_graph.FlowFunction.{FlowFunction}
use Rattle.flow.specs.InRange.{IsInRange}
use Rattle.flow.specs.Standing.{stands_at, stands_after}
use Rattle.flow.specs.Walks.{is_return}
use Rattle.flow.specs.Valid.{is_object_size, is_initial, is_close, is_call_of, exit_of, names_what_is_there, has_sizes, calls_rightly, reads_what_stands, tests_one_size, has_scope, HasReturn, AreSeparate, IsFlow}
use Rattle.flow.specs.Deciding.{is_right_edge, has_right_variables, has_right_registers, is_right_standing, are_among, has_right_parameters, has_right_entry, is_right_function, are_apart, closes_once, is_right_alone}
use Rattle.flow.proofs.ScalarLaws.{pairs_told, told_pairs}

-- a test that holds of each item, and a fact that follows from it or gives it
all_told : {X : Type 0} (p : X → Bool) (P : X → Type 0) → ((x : X) → p x ≡ true → P x) → (xs : List X) → list_all p xs ≡ true → All P xs
all_told p P each xs h = All-weaker (λ x. p x ≡ true) P each xs (AllPass-from_list_all p xs h)

told_all : {X : Type 0} (p : X → Bool) (P : X → Type 0) → ((x : X) → P x → p x ≡ true) → (xs : List X) → All P xs → list_all p xs ≡ true
told_all p P each xs h = list_all-from_AllPass p xs (All-weaker P (λ x. p x ≡ true) each xs h)

-- numbers that are all among others
among_told : (those numbers : List ℕ) → are_among those numbers ≡ true → (number : ℕ) → Contains numbers number → Contains those number
among_told those numbers h number there =
    Contains-from_any (λ x y e. eqb-true x y e) number those
    (All-contains (λ one. list_any (nat_eq one) those ≡ true) numbers number (AllPass-from_list_all (λ one. list_any (nat_eq one) those) numbers h) there)

any_from_contains : (numbers : List ℕ) (number : ℕ) → Contains numbers number → list_any (nat_eq number) numbers ≡ true
any_from_contains numbers number (at, below, is) = list_any_at (nat_eq number) numbers at number below (eq-eqb _ _ (sym is))

told_among : (those numbers : List ℕ) → ((number : ℕ) → Contains numbers number → Contains those number) → are_among those numbers ≡ true
told_among those numbers h =
    list_all-from_AllPass (λ one. list_any (nat_eq one) those) numbers
    (λ k d below. any_from_contains those _ (h _ (contains_at numbers k d below)))
  where
    contains_at : (xs : List ℕ) (k d : ℕ) → k < length xs → Contains xs (slice_index_or xs k d)
    contains_at xs k d below = Contains-get_or xs k d below

-- a list of no items
no_items : {X : Type 0} (xs : List X) → nat_eq (length xs) 0 ≡ true → xs ≡ []
no_items [] h = refl
no_items (first ∷ rest) h = let none : length (first ∷ rest) ≡ 0 = eqb-true _ _ h in absurd (omega arith)

items_none : {X : Type 0} (xs : List X) → xs ≡ [] → nat_eq (length xs) 0 ≡ true
items_none [] is = refl
items_none (first ∷ rest) is = cc

-- main is not called where an edge closes
once_told : (flow : Flow) → closes_once flow ≡ true → All (λ edge. IsTrue (is_close edge.instr) → All (λ other. is_call_of flow.main other.instr ≡ false) flow.edges) flow.edges
once_told flow h = λ k d below closes. by_test (or_cases _ _ h) (list_any_at (λ (edge : FlowEdge). is_close edge.instr) flow.edges k d below closes)
  where
    by_test : (not (list_any (λ edge. is_close edge.instr) flow.edges) ≡ true)
        ⊎ (not (list_any (λ edge. is_call_of flow.main edge.instr) flow.edges) ≡ true) →
        list_any (λ edge. is_close edge.instr) flow.edges ≡ true → All (λ other. is_call_of flow.main other.instr ≡ false) flow.edges
    by_test (inl none) some = absurd (both_ways _ (not-true _ none) some)
    by_test (inr none) some = λ k d below. false_from_ne_true _
        (λ called. both_ways _ (not-true _ none) (list_any_at (λ (edge : FlowEdge). is_call_of flow.main edge.instr) flow.edges k d below called))

told_once : (flow : Flow) → All (λ edge. IsTrue (is_close edge.instr) → All (λ other. is_call_of flow.main other.instr ≡ false) flow.edges) flow.edges → closes_once flow ≡ true
told_once flow h = by_test (cases_Bool (list_any (λ edge. is_close edge.instr) flow.edges))
  where
    by_test : (list_any (λ edge. is_close edge.instr) flow.edges ≡ true) ⊎ (list_any (λ edge. is_close edge.instr) flow.edges ≡ false) → closes_once flow ≡ true
    by_test (inr none) = or_left _ _ (not_from_false _ none)
    by_test (inl some) = found (Any-from_list_any (λ edge. is_close edge.instr) flow.edges some)
      where
        found : Any (λ edge. is_close edge.instr ≡ true) flow.edges → closes_once flow ≡ true
        found (at, edge, below, is, closes) = or_right _ _ (not_from_false _
            (list_any_none (λ other. is_call_of flow.main other.instr) flow.edges
            (All-contains (λ one. IsTrue (is_close one.instr) → All (λ other. is_call_of flow.main other.instr ≡ false) flow.edges)
            flow.edges edge h (at, below, is) closes)))

-- the parts put together
pub flow_told : (flow : Flow) → IsInRange flow → is_right_alone flow ≡ true →
    All (λ edge. IsTrue (is_close edge.instr) → exit_of flow flow.main ≡ Some edge.to) flow.edges →
    All (λ edge. stands_after flow edge.instr (stands_at flow edge.from) ≡ stands_at flow edge.to) flow.edges →
    All (λ function. All (λ edge. edge.to ≢ function.entry) flow.edges) flow.functions →
    All (λ edge. IsTrue (is_return edge.instr) → Contains (map (λ function. function.exit) flow.functions) edge.from) flow.edges →
    All (HasReturn flow) flow.functions → AreSeparate flow → IsFlow flow
flow_told flow in_range alone closes leads entries returns exits separate =
    let p0 = and_parts (list_all (λ head. nat_lt head flow.points) flow.heads) _ alone in
    let p1 = and_parts (nat_eq (length flow.stands) flow.points) _ p0.1 in
    let p2 = and_parts (list_all (is_right_standing flow) flow.stands) _ p1.1 in
    let p3 = and_parts (list_all (λ variable. is_object_size variable.size) flow.variables) _ p2.1 in
    let p4 = and_parts (list_all (is_initial flow) flow.initial) _ p3.1 in
    let p5 = and_parts (are_apart flow.initial) _ p4.1 in
    let p6 = and_parts (list_all (is_right_function flow) flow.functions) _ p5.1 in
    let p7 = and_parts (list_all (is_right_edge flow) flow.edges) (closes_once flow) p6.1 in
    record {
      in_range = in_range;
      names = all_told (is_right_edge flow) (λ edge. IsTrue (names_what_is_there flow edge.instr)) (λ edge h. (edge_parts edge h).0) flow.edges p7.0;
      heads = all_told (λ head. nat_lt head flow.points) (λ head. head < flow.points) (λ head h. ltb-true head flow.points h) flow.heads p0.0;
      each_point = eqb-true (length flow.stands) flow.points p1.0;
      standing_variables = all_told (is_right_standing flow) (λ standing. IsTrue (has_right_variables flow standing))
          (λ standing h. (and_parts (has_right_variables flow standing) (has_right_registers standing) h).0) flow.stands p2.0;
      standing_registers = all_told (is_right_standing flow) (λ standing. IsTrue (has_right_registers standing))
          (λ standing h. (and_parts (has_right_variables flow standing) (has_right_registers standing) h).1) flow.stands p2.0;
      variable_sizes = AllPass-from_list_all (λ variable. is_object_size variable.size) flow.variables p3.0;
      sizes = all_told (is_right_edge flow) (λ edge. IsTrue (has_sizes edge.instr)) (λ edge h. (edge_parts edge h).1) flow.edges p7.0;
      initials = AllPass-from_list_all (is_initial flow) flow.initial p4.0;
      initials_apart = pairs_told flow.initial p5.0;
      parameters = all_told (is_right_function flow) (λ function. IsTrue (has_right_parameters flow function))
          (λ function h. (and_parts (has_right_parameters flow function) (has_right_entry flow function) h).0) flow.functions p6.0;
      calls = all_told (is_right_edge flow) (λ edge. IsTrue (calls_rightly flow edge.instr)) (λ edge h. (edge_parts edge h).2) flow.edges p7.0;
      reads = all_told (is_right_edge flow) (λ edge. IsTrue (reads_what_stands flow (stands_at flow edge.from) edge.instr)) (λ edge h. (edge_parts edge h).3) flow.edges p7.0;
      tests = all_told (is_right_edge flow) (λ edge. IsTrue (tests_one_size (stands_at flow edge.from) edge.instr)) (λ edge h. (edge_parts edge h).4) flow.edges p7.0;
      scopes = all_told (is_right_edge flow) (λ edge. IsTrue (has_scope flow (stands_at flow edge.from) edge.instr)) (λ edge h. (edge_parts edge h).5) flow.edges p7.0;
      leads = leads;
      entry_variables = all_told (is_right_function flow)
          (λ function. (variable : ℕ) → (Contains (stands_at flow function.entry).variables variable → Contains function.parameters variable)
          × (Contains function.parameters variable → Contains (stands_at flow function.entry).variables variable))
          (λ function h variable. (entry_parts function h).0 variable) flow.functions p6.0;
      entry_registers = all_told (is_right_function flow) (λ function. (stands_at flow function.entry).registers ≡ [])
          (λ function h. (entry_parts function h).1) flow.functions p6.0;
      entries = entries;
      exits = exits;
      returns = returns;
      separate = separate;
      closes = closes;
      closes_once = once_told flow p7.1;
    }
  where
    edge_parts : (edge : FlowEdge) → is_right_edge flow edge ≡ true →
        IsTrue (names_what_is_there flow edge.instr) × IsTrue (has_sizes edge.instr) × IsTrue (calls_rightly flow edge.instr)
        × IsTrue (reads_what_stands flow (stands_at flow edge.from) edge.instr) × IsTrue (tests_one_size (stands_at flow edge.from) edge.instr)
        × IsTrue (has_scope flow (stands_at flow edge.from) edge.instr)
    edge_parts edge h =
        let p0 = and_parts (names_what_is_there flow edge.instr) _ h in
        let p1 = and_parts (has_sizes edge.instr) _ p0.1 in
        let p2 = and_parts (calls_rightly flow edge.instr) _ p1.1 in
        let p3 = and_parts (reads_what_stands flow (stands_at flow edge.from) edge.instr) _ p2.1 in
        let p4 = and_parts (tests_one_size (stands_at flow edge.from) edge.instr) _ p3.1 in
        (p0.0, p1.0, p2.0, p3.0, p4.0, p4.1)

    entry_parts : (function : FlowFunction) → is_right_function flow function ≡ true →
        ((variable : ℕ) → (Contains (stands_at flow function.entry).variables variable → Contains function.parameters variable)
        × (Contains function.parameters variable → Contains (stands_at flow function.entry).variables variable))
        × ((stands_at flow function.entry).registers ≡ [])
    entry_parts function h =
        let p0 = and_parts (has_right_parameters flow function) (has_right_entry flow function) h in
        let p1 = and_parts (are_among function.parameters (stands_at flow function.entry).variables) _ p0.1 in
        let p2 = and_parts (are_among (stands_at flow function.entry).variables function.parameters) _ p1.1 in (
          λ variable. (
            among_told function.parameters (stands_at flow function.entry).variables p1.0 variable,
            among_told (stands_at flow function.entry).variables function.parameters p2.0 variable,
          ),
          no_items (stands_at flow function.entry).registers p2.1,
        )

-- and taken apart
pub told_alone : (flow : Flow) → IsFlow flow → is_right_alone flow ≡ true
told_alone flow h =
    and_from _ _ (told_all (λ head. nat_lt head flow.points) (λ head. head < flow.points) (λ head k. lt-ltb head flow.points k) flow.heads h.heads)
    (and_from _ _ (eq-eqb (length flow.stands) flow.points h.each_point)
    (and_from _ _ (list_all-from_AllPass (is_right_standing flow) flow.stands
    (λ k d below. and_from _ _ (h.standing_variables k d below) (h.standing_registers k d below)))
    (and_from _ _ (list_all-from_AllPass (λ variable. is_object_size variable.size) flow.variables h.variable_sizes)
    (and_from _ _ (list_all-from_AllPass (is_initial flow) flow.initial h.initials)
    (and_from _ _ (told_pairs flow.initial h.initials_apart)
    (and_from _ _ (list_all-from_AllPass (is_right_function flow) flow.functions
    (λ k d below. and_from _ _ (h.parameters k d below) (entry k d below)))
    (and_from _ _ (list_all-from_AllPass (is_right_edge flow) flow.edges
    (λ k d below. and_from _ _ (h.names k d below) (and_from _ _ (h.sizes k d below) (and_from _ _ (h.calls k d below)
    (and_from _ _ (h.reads k d below) (and_from _ _ (h.tests k d below) (h.scopes k d below)))))))
    (told_once flow h.closes_once))))))))
  where
    entry : (k : ℕ) (d : FlowFunction) → k < length flow.functions → has_right_entry flow (slice_index_or flow.functions k d) ≡ true
    entry k d below = and_from _ _
        (told_among (slice_index_or flow.functions k d).parameters (stands_at flow (slice_index_or flow.functions k d).entry).variables
        (λ variable. (h.entry_variables k d below variable).0))
        (and_from _ _
        (told_among (stands_at flow (slice_index_or flow.functions k d).entry).variables (slice_index_or flow.functions k d).parameters
        (λ variable. (h.entry_variables k d below variable).1))
        (items_none (stands_at flow (slice_index_or flow.functions k d).entry).registers (h.entry_registers k d below)))
