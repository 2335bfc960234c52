-- All that `IsFlow` asks of a graph, by tests that are worked out.
use Rattle.std.proofs.Common.{◌≡◌, ◌≢◌, ℕ, zero, suc, ◌+◌, ◌<◌, ◌⊎◌, inl, inr, List, [], ◌∷◌, length, map, refl, sym, ap, subst, ◌∙◌, arith, Bool, true, false, not, ◌&&◌, ◌||◌, nat_eq, nat_lt, nat_le, Some, All}
use Rattle.std.specs.Prelude.{IsTrue, Contains, filter, slice_get, slice_index_or}
use Rattle.std.specs.List.{list_all, list_any}
use Rattle.std.proofs.lemmas.Bool.{and_parts, not-true, eqb-true, ltb-true, or_cases, both_ways, eq-eqb}
use Rattle.std.proofs.lemmas.List.Elements.{All-nil, All-cons, All-weaker, All-contains}
use Rattle.std.proofs.lemmas.Option.{none-some}
use Rattle.cbase.specs.declared.place.TheConstants.Place.{NONE}
use Rattle.flow.specs.declared.instruction.Instr.TheVariants as i
use Rattle.flow.specs.declared.flow_graph.Flow.{Flow}
use Rattle.flow.specs.declared.flow_graph.FlowEdge.{FlowEdge}
use Rattle.flow.specs.declared.flow_graph.FlowFunction.{FlowFunction}
use Rattle.flow.specs.Standing.{stands_at, stands_after}
use Rattle.flow.specs.Valid.{IsFlow, HasReturn, Reached, Here, Along, is_close, is_local, is_scalar_size, is_object_size, has_sizes, ascend, names_what_is_there, are_distinct, is_parameter, calls_rightly, reads_what_stands, tests_one_size, has_scope, edges_out, exit_of, is_call_of, returns_what_stands}
use Rattle.flow.specs.Walks.{is_return}
use Rattle.flow.proofs.Ascending.{Among, Contains-among}

-- the first edge out of a function's exit
abbrev no_edge : FlowEdge
no_edge = record { from = 0; to = 0; instr = i.Close; place = NONE }

abbrev first_out : Flow → FlowFunction → FlowEdge
first_out flow function = slice_index_or (edges_out flow function.exit) 0 no_edge

-- how many functions are entered at a point or before it: functions stand one behind the other
abbrev side : Flow → ℕ → ℕ
side flow point = length (filter (λ function. nat_le function.entry point) flow.functions)

abbrev are_numbered : Flow → ℕ → List FlowFunction → Bool
are_numbered flow number [] = true
are_numbered flow number (function ∷ rest) =
    nat_eq (side flow function.entry) (suc number) && (nat_eq (side flow function.exit) (suc number) && are_numbered flow (suc number) rest)

-- what `IsFlow` asks, as tests, of a graph without static values and without an edge that closes
pub record IsTested (flow : Flow) : Type 0 where
  pub edges : list_all (λ edge. nat_lt edge.from flow.points && nat_lt edge.to flow.points) flow.edges ≡ true
  pub functions : list_all (λ function. nat_lt function.entry flow.points && nat_lt function.exit flow.points) flow.functions ≡ true
  pub main : nat_lt flow.main (length flow.functions) ≡ true
  pub names : list_all (λ edge. names_what_is_there flow edge.instr) flow.edges ≡ true
  pub heads : list_all (λ head. nat_lt head flow.points) flow.heads ≡ true
  pub each_point : length flow.stands ≡ flow.points
  pub standing_variables : list_all (λ standing. ascend standing.variables && list_all (is_local flow) standing.variables) flow.stands ≡ true
  pub standing_registers : list_all (λ standing. ascend (map (λ width. width.register) standing.registers)
      && list_all (λ width. is_scalar_size width.size) standing.registers) flow.stands ≡ true
  pub variable_sizes : list_all (λ variable. is_object_size variable.size) flow.variables ≡ true
  pub sizes : list_all (λ edge. has_sizes edge.instr) flow.edges ≡ true
  pub initial : flow.initial ≡ []
  pub parameters : list_all (λ function. are_distinct function.parameters && list_all (is_parameter flow) function.parameters) flow.functions ≡ true
  pub calls : list_all (λ edge. calls_rightly flow edge.instr) flow.edges ≡ true
  pub reads : list_all (λ edge. reads_what_stands flow (stands_at flow edge.from) edge.instr) flow.edges ≡ true
  pub tests : list_all (λ edge. tests_one_size (stands_at flow edge.from) edge.instr) flow.edges ≡ true
  pub scopes : list_all (λ edge. has_scope flow (stands_at flow edge.from) edge.instr) flow.edges ≡ true
  pub leads : map (λ edge. stands_after flow edge.instr (stands_at flow edge.from)) flow.edges ≡ map (λ edge. stands_at flow edge.to) flow.edges
  pub entry_variables : map (λ function. (stands_at flow function.entry).variables) flow.functions ≡ map (λ function. function.parameters) flow.functions
  pub entry_registers : map (λ function. (stands_at flow function.entry).registers) flow.functions ≡ map (λ function. []) flow.functions
  pub entries : list_all (λ function. list_all (λ edge. not (nat_eq edge.to function.entry)) flow.edges) flow.functions ≡ true
  pub exits : map (λ function. edges_out flow function.exit) flow.functions ≡ map (λ function. first_out flow function ∷ []) flow.functions
  pub exits_return : list_all (λ function. returns_what_stands (first_out flow function).instr (stands_at flow function.exit).registers) flow.functions ≡ true
  pub exit_variables : map (λ function. (stands_at flow function.exit).variables) flow.functions ≡ map (λ function. []) flow.functions
  pub exits_end : map (λ function. edges_out flow (first_out flow function).to) flow.functions ≡ map (λ function. []) flow.functions
  pub returns : list_all (λ edge. not (is_return edge.instr) || list_any (nat_eq edge.from) (map (λ function. function.exit) flow.functions)) flow.edges ≡ true
  pub numbered : are_numbered flow 0 flow.functions ≡ true
  pub sides : list_all (λ edge. nat_eq (side flow edge.from) (side flow edge.to)) flow.edges ≡ true
  pub closes : list_all (λ edge. not (is_close edge.instr)) flow.edges ≡ true

-- what is true of each
all_true : {A : Type 0} (test : A → Bool) (xs : List A) → list_all test xs ≡ true → All (λ x. IsTrue (test x)) xs
all_true test [] is = All-nil (λ x. IsTrue (test x))
all_true test (x ∷ xs) is = let parts = and_parts (test x) (list_all test xs) is in All-cons (λ x. IsTrue (test x)) x xs parts.0 (all_true test xs parts.1)

all_where : {A : Type 0} (test : A → Bool) (P : A → Type 0) → ((x : A) → test x ≡ true → P x) → (xs : List A) → list_all test xs ≡ true → All P xs
all_where test P shows xs is = All-weaker (λ x. IsTrue (test x)) P shows xs (all_true test xs is)

all_equal : {A B : Type 0} (f g : A → B) (xs : List A) → map f xs ≡ map g xs → All (λ x. f x ≡ g x) xs
all_equal f g [] is = All-nil (λ x. f x ≡ g x)
all_equal f g (x ∷ xs) is = All-cons (λ x. f x ≡ g x) x xs (ap (λ items. slice_index_or items 0 (f x)) is) (all_equal f g xs (ap tail is))
  where
    tail : {B : Type 0} → List B → List B
    tail [] = []
    tail (first ∷ rest) = rest

all_four : {A : Type 0} (P Q R S : A → Type 0) (xs : List A) → All P xs → All Q xs → All R xs → All S xs → All (λ x. P x × (Q x × (R x × S x))) xs
all_four P Q R S xs p q r s = λ k d less. (p k d less, (q k d less, (r k d less, s k d less)))

contains_any : (xs : List ℕ) (x : ℕ) → list_any (nat_eq x) xs ≡ true → Contains xs x
contains_any xs x is = Contains-among xs x (among xs is)
  where
    among : (xs : List ℕ) → list_any (nat_eq x) xs ≡ true → Among xs x
    among [] is = absurd cc
    among (y ∷ ys) is = elim (or_cases (nat_eq x y) (list_any (nat_eq x) ys) is) [ inl here ↦ inl (sym (eqb-true x y here)) | inr more ↦ inr (among ys more) ]

-- a function's entry and exit lie on its side, and so does what is reached from its entry
numbered_so : (flow : Flow) (number : ℕ) (functions : List FlowFunction) → are_numbered flow number functions ≡ true → (index : ℕ) (function : FlowFunction) →
    slice_get functions index ≡ Some function → (side flow function.entry ≡ suc (number + index)) × (side flow function.exit ≡ suc (number + index))
numbered_so flow number [] is index function stands = absurd (none-some function stands)
numbered_so flow number (one ∷ rest) is zero function stands =
    let parts = and_parts (nat_eq (side flow one.entry) (suc number)) (nat_eq (side flow one.exit) (suc number) && are_numbered flow (suc number) rest) is in
    let more = and_parts (nat_eq (side flow one.exit) (suc number)) (are_numbered flow (suc number) rest) parts.1 in
    let same : one ≡ function = cc in
    subst (λ (it : FlowFunction). (side flow it.entry ≡ suc (number + 0)) × (side flow it.exit ≡ suc (number + 0))) same
    (eqb-true (side flow one.entry) (suc number) parts.0 ∙ omega arith, eqb-true (side flow one.exit) (suc number) more.0 ∙ omega arith)
numbered_so flow number (one ∷ rest) is (suc index) function stands =
    let parts = and_parts (nat_eq (side flow one.entry) (suc number)) (nat_eq (side flow one.exit) (suc number) && are_numbered flow (suc number) rest) is in
    let more = and_parts (nat_eq (side flow one.exit) (suc number)) (are_numbered flow (suc number) rest) parts.1 in
    let found = numbered_so flow (suc number) rest more.1 index function stands in
    (found.0 ∙ omega arith, found.1 ∙ omega arith)

one_side : (flow : Flow) → All (λ edge. side flow edge.from ≡ side flow edge.to) flow.edges → (from point : ℕ) → Reached flow from point → side flow from ≡ side flow point
one_side flow sides from point Here = refl
one_side flow sides from point (Along middle edge reached there is) =
    one_side flow sides from middle reached ∙ ap (side flow) (sym is) ∙ All-contains (λ edge. side flow edge.from ≡ side flow edge.to) flow.edges edge sides there

-- a graph that passes the tests keeps all of `IsFlow`
pub flow_tested : (flow : Flow) → IsTested flow → IsFlow flow
flow_tested flow tested = record {
  in_range = record {
    edges = all_where (λ edge. nat_lt edge.from flow.points && nat_lt edge.to flow.points) (λ edge. (edge.from < flow.points) × (edge.to < flow.points))
        (λ edge is. both edge.from edge.to is) flow.edges tested.edges;
    functions = all_where (λ function. nat_lt function.entry flow.points && nat_lt function.exit flow.points) (λ function. (function.entry < flow.points) × (function.exit < flow.points))
        (λ function is. both function.entry function.exit is) flow.functions tested.functions;
    main = ltb-true flow.main (length flow.functions) tested.main;
  };
  names = all_true (λ edge. names_what_is_there flow edge.instr) flow.edges tested.names;
  heads = all_where (λ head. nat_lt head flow.points) (λ head. head < flow.points) (λ head is. ltb-true head flow.points is) flow.heads tested.heads;
  each_point = tested.each_point;
  standing_variables = all_true (λ standing. ascend standing.variables && list_all (is_local flow) standing.variables) flow.stands tested.standing_variables;
  standing_registers = all_true (λ standing. ascend (map (λ width. width.register) standing.registers) && list_all (λ width. is_scalar_size width.size) standing.registers) flow.stands tested.standing_registers;
  variable_sizes = all_true (λ variable. is_object_size variable.size) flow.variables tested.variable_sizes;
  sizes = all_true (λ edge. has_sizes edge.instr) flow.edges tested.sizes;
  initials = λ k d less. absurd (none_there k less);
  initials_apart = λ one other d less below. absurd (none_there other below);
  parameters = all_true (λ function. are_distinct function.parameters && list_all (is_parameter flow) function.parameters) flow.functions tested.parameters;
  calls = all_true (λ edge. calls_rightly flow edge.instr) flow.edges tested.calls;
  reads = all_true (λ edge. reads_what_stands flow (stands_at flow edge.from) edge.instr) flow.edges tested.reads;
  tests = all_true (λ edge. tests_one_size (stands_at flow edge.from) edge.instr) flow.edges tested.tests;
  scopes = all_true (λ edge. has_scope flow (stands_at flow edge.from) edge.instr) flow.edges tested.scopes;
  leads = all_equal (λ edge. stands_after flow edge.instr (stands_at flow edge.from)) (λ edge. stands_at flow edge.to) flow.edges tested.leads;
  entry_variables = All-weaker (λ function. (stands_at flow function.entry).variables ≡ function.parameters)
      (λ function. (variable : ℕ) → (Contains (stands_at flow function.entry).variables variable → Contains function.parameters variable)
      × (Contains function.parameters variable → Contains (stands_at flow function.entry).variables variable))
      (λ function is variable. (subst (λ (variables : List ℕ). Contains variables variable) is, subst (λ (variables : List ℕ). Contains variables variable) (sym is))) flow.functions
      (all_equal (λ function. (stands_at flow function.entry).variables) (λ function. function.parameters) flow.functions tested.entry_variables);
  entry_registers = all_equal (λ function. (stands_at flow function.entry).registers) (λ function. []) flow.functions tested.entry_registers;
  entries = all_where (λ function. list_all (λ edge. not (nat_eq edge.to function.entry)) flow.edges) (λ function. All (λ edge. edge.to ≢ function.entry) flow.edges)
      (λ function is. all_where (λ edge. not (nat_eq edge.to function.entry)) (λ edge. edge.to ≢ function.entry) (λ edge not_there same. both_ways (nat_eq edge.to function.entry)
      (not-true (nat_eq edge.to function.entry) not_there) (eq-eqb edge.to function.entry same)) flow.edges is) flow.functions tested.entries;
  exits = All-weaker
      (λ function. (edges_out flow function.exit ≡ first_out flow function ∷ []) × (IsTrue (returns_what_stands (first_out flow function).instr (stands_at flow function.exit).registers)
      × (((stands_at flow function.exit).variables ≡ []) × (edges_out flow (first_out flow function).to ≡ [])))) (HasReturn flow)
      (λ function parts. record { edge = first_out flow function; only = parts.0; returns = parts.1.0; variables = parts.1.1.0; ends = parts.1.1.1 }) flow.functions
      (all_four (λ function. edges_out flow function.exit ≡ first_out flow function ∷ []) (λ function. IsTrue (returns_what_stands (first_out flow function).instr (stands_at flow function.exit).registers))
      (λ function. (stands_at flow function.exit).variables ≡ []) (λ function. edges_out flow (first_out flow function).to ≡ []) flow.functions
      (all_equal (λ function. edges_out flow function.exit) (λ function. first_out flow function ∷ []) flow.functions tested.exits)
      (all_true (λ function. returns_what_stands (first_out flow function).instr (stands_at flow function.exit).registers) flow.functions tested.exits_return)
      (all_equal (λ function. (stands_at flow function.exit).variables) (λ function. []) flow.functions tested.exit_variables)
      (all_equal (λ function. edges_out flow (first_out flow function).to) (λ function. []) flow.functions tested.exits_end));
  returns = all_where (λ edge. not (is_return edge.instr) || list_any (nat_eq edge.from) (map (λ function. function.exit) flow.functions))
      (λ edge. IsTrue (is_return edge.instr) → Contains (map (λ function. function.exit) flow.functions) edge.from)
      (λ edge is returns. returned edge (or_cases (not (is_return edge.instr)) (list_any (nat_eq edge.from) (map (λ function. function.exit) flow.functions)) is) returns) flow.edges tested.returns;
  separate = record {
    points = λ one other point function second stands stands' reached reached'.
        same_number one other ((numbered one function stands).0) ((numbered other second stands').0) (side_same function.entry point reached) (side_same second.entry point reached');
    exits = λ one other function second stands stands' reached.
        same_number one other ((numbered one function stands).0) ((numbered other second stands').1) (side_same function.entry second.exit reached) refl;
  };
  closes = all_where (λ edge. not (is_close edge.instr)) (λ edge. IsTrue (is_close edge.instr) → exit_of flow flow.main ≡ Some edge.to)
      (λ edge is closes. absurd (both_ways (is_close edge.instr) (not-true (is_close edge.instr) is) closes)) flow.edges tested.closes;
  closes_once = all_where (λ edge. not (is_close edge.instr)) (λ edge. IsTrue (is_close edge.instr) → All (λ other. is_call_of flow.main other.instr ≡ false) flow.edges)
      (λ edge is closes. absurd (both_ways (is_close edge.instr) (not-true (is_close edge.instr) is) closes)) flow.edges tested.closes;
}
  where
    both : (one other : ℕ) → (nat_lt one flow.points && nat_lt other flow.points) ≡ true → (one < flow.points) × (other < flow.points)
    both one other is = let parts = and_parts (nat_lt one flow.points) (nat_lt other flow.points) is in (ltb-true one flow.points parts.0, ltb-true other flow.points parts.1)

    none_there : (k : ℕ) → k < length flow.initial → ⊥
    none_there k less = let none : length flow.initial ≡ 0 = ap length tested.initial in omega arith

    returned : (edge : FlowEdge) → (not (is_return edge.instr) ≡ true) ⊎ (list_any (nat_eq edge.from) (map (λ function. function.exit) flow.functions) ≡ true) →
        IsTrue (is_return edge.instr) → Contains (map (λ function. function.exit) flow.functions) edge.from
    returned edge (inl no_return) returns = absurd (both_ways (is_return edge.instr) (not-true (is_return edge.instr) no_return) returns)
    returned edge (inr there) returns = contains_any (map (λ function. function.exit) flow.functions) edge.from there

    side_same : (from point : ℕ) → Reached flow from point → side flow from ≡ side flow point
    side_same = one_side flow (all_where (λ edge. nat_eq (side flow edge.from) (side flow edge.to)) (λ edge. side flow edge.from ≡ side flow edge.to)
        (λ edge is. eqb-true (side flow edge.from) (side flow edge.to) is) flow.edges tested.sides)

    numbered : (index : ℕ) (function : FlowFunction) → slice_get flow.functions index ≡ Some function → (side flow function.entry ≡ suc index) × (side flow function.exit ≡ suc index)
    numbered index function stands = let found = numbered_so flow 0 flow.functions tested.numbered index function stands in (found.0 ∙ omega arith, found.1 ∙ omega arith)

    same_number : {a b c : ℕ} (one other : ℕ) → a ≡ suc one → b ≡ suc other → a ≡ c → b ≡ c → one ≡ other
    same_number one other is is' same same' = omega arith
