-- A worked program with a function that calls itself: `void f(void) { f(); } int main(void) { f(); }`.
use Rattle.std.proofs.Common.{◌≡◌, ◌≢◌, ℕ, zero, suc, ◌<◌, List, [], ◌∷◌, refl, sym, ap, ◌∙◌, arith, false, true, Bool, not, ◌||◌, ◌&&◌, Some, None, Option, slice_index_or, map, nat_eq, nat_lt, subst, inl, inr, ◌⊎◌}
use Rattle.std.specs.Prelude.{IsTrue, All, Contains, slice_get, ◌↔◌}
use Rattle.std.specs.List.{list_all}
use Rattle.std.proofs.lemmas.Bool.{and_parts, not-true, eqb-true, or_cases, both_ways, eq-eqb, ne_eqb, false≢true}
use Rattle.std.proofs.lemmas.List.Elements.{All-nil, All-cons, All-weaker, All-from_recursion, All-contains}
use Rattle.std.proofs.lemmas.Option.{none-some, same_Some}
use Rattle.cbase.specs.declared.abi.Abi.TheVariants.{Lp64}
use Rattle.cbase.specs.declared.place.Place.{Place}
use Rattle.cbase.specs.declared.place.TheConstants.Place.{NONE}
use Rattle.choices.specs.declared.choice.Choice.{Choice}
use Rattle.typing.specs.ctypes.Integers.{int}
use Rattle.c_machine.specs.declared.kind.Kind.TheVariants.{Integer, Void}
use Rattle.c_machine.specs.Run.{Leads}
use Rattle.c_machine.specs.Calls.{body_tasks}
use Rattle.c_machine.specs.Text.{Standing, BodyStands, Form, Name as NameForm, Known, Call, Clause, Eval, Braces, Function, Text}
use Rattle.flow.specs.declared.instruction.Instr.{Instr}
use Rattle.flow.specs.declared.instruction.Instr.TheVariants as i
use Rattle.flow.specs.declared.flow_graph.Flow.{Flow}
use Rattle.flow.specs.declared.flow_graph.FlowEdge.{FlowEdge}
use Rattle.flow.specs.declared.flow_graph.FlowFunction.{FlowFunction}
use Rattle.flow.specs.declared.flow_graph.Standing.{Standing as FlowStanding}
use Rattle.flow.specs.Memories.{HasInitialOffset}
use Rattle.flow.specs.Standing.{stands_at, stands_after}
use Rattle.flow.specs.Valid.{IsFlow, Reached, Here, Along, HasReturn, is_close, is_local, is_scalar_size, is_object_size, has_sizes, ascend, names_what_is_there, are_distinct, is_parameter, calls_rightly, reads_what_stands, tests_one_size, has_scope, is_initial, exit_of, is_call_of}
use Rattle.flow.specs.Walks.{is_return}
use Rattle.simulation.specs.Functions.{IsFunctionLowered}
use Rattle.simulation.specs.Laws.{GraphLeads}
use Rattle.simulation.specs.Lowered.{Lowered, Passes, Executes, Values, Calls, Finishes, EndsMain, EndsVoid, Makes, Returns}
use Rattle.simulation.specs.Running.{Setting, Gives, GivesNothing}
use Rattle.simulation.specs.Slots.{KnownAs, InRegister}
use Rattle.simulation.specs.Starting.{IsProgramLowered}
use Rattle.simulation.proofs.Starting.{programs_meet}

-- the program
abbrev form : ℕ → Form ℕ ℕ
form number = slice_index_or (Call 1 [] ∷ NameForm ∷ []) number (Known None)

abbrev stands_for : ℕ → Standing
stands_for number = BodyStands 0

abbrev clause : ℕ → Clause ℕ ℕ ℕ
clause number = Eval (Some 0)

abbrev main : Function ℕ
main = record { is_main = true; params = []; result = Integer int; body = 0 ∷ []; close = NONE }

abbrev called : Function ℕ
called = record { is_main = false; params = []; result = Void; body = 0 ∷ []; close = NONE }

abbrev text : Text
text = record {
  Expr = ℕ;
  Stmt = ℕ;
  Init = ℕ;
  form = form;
  place = λ number. NONE;
  kind = λ number. Void;
  stands = stands_for;
  clause = clause;
  first = λ number. NONE;
  last = λ number. NONE;
  initialiser = λ init. Braces [];
  token = λ place. place.at;
  automatic = λ place. None;
  store = λ place expr. None;
  statics = [];
  sets = [];
  enough = 0;
  functions = called ∷ main ∷ [];
  main = Some main;
  strict = false;
}

-- its graph
abbrev along : ℕ → ℕ → Instr → FlowEdge
along from to instr = record { from = from; to = to; instr = instr; place = NONE }

abbrev edges : List FlowEdge
edges =
    along 0 1 (i.Enter []) ∷
    along 1 2 (i.Call 1 [] None) ∷
    along 2 3 (i.Finish []) ∷
    along 3 4 (i.Number 9 0 4) ∷
    along 4 5 (i.Leave []) ∷
    along 5 6 (i.Return (Some 9)) ∷
    along 7 8 (i.Enter []) ∷
    along 8 9 (i.Call 1 [] None) ∷
    along 9 10 (i.Finish []) ∷
    along 10 11 (i.Leave []) ∷
    along 11 12 (i.Return None) ∷ []

abbrev main_function : FlowFunction
main_function = record { entry = 0; exit = 5; parameters = [] }

abbrev called_function : FlowFunction
called_function = record { entry = 7; exit = 11; parameters = [] }

abbrev functions : List FlowFunction
functions = main_function ∷ called_function ∷ []

abbrev stands_so : List FlowStanding
stands_so =
    record { variables = []; registers = [] } ∷
    record { variables = []; registers = [] } ∷
    record { variables = []; registers = [] } ∷
    record { variables = []; registers = [] } ∷
    record { variables = []; registers = record { register = 9; size = 4 } ∷ [] } ∷
    record { variables = []; registers = record { register = 9; size = 4 } ∷ [] } ∷
    record { variables = []; registers = [] } ∷
    record { variables = []; registers = [] } ∷
    record { variables = []; registers = [] } ∷
    record { variables = []; registers = [] } ∷
    record { variables = []; registers = [] } ∷
    record { variables = []; registers = [] } ∷
    record { variables = []; registers = [] } ∷ []

abbrev flow : Flow
flow = record {
  points = 13;
  edges = edges;
  functions = functions;
  variables = [];
  initial = [];
  heads = [];
  main = 0;
  stands = stands_so;
  abi = Lp64;
  strict = false;
}

-- what is true of each
all_true : {A : Type 0} (test : A → Bool) (xs : List A) → list_all test xs ≡ true → All (λ x. IsTrue (test x)) xs
all_true test [] is = All-nil (λ x. IsTrue (test x))
all_true test (x ∷ xs) is = let parts = and_parts (test x) (list_all test xs) is in All-cons (λ x. IsTrue (test x)) x xs parts.0 (all_true test xs parts.1)

one_alone : {A : Type 0} (P : A → Type 0) (x : A) → P x → All P (x ∷ [])
one_alone P x is = All-cons P x [] is (All-nil P)

only_first : {A : Type 0} (number : ℕ) (first found : A) → slice_get (first ∷ []) number ≡ Some found → number ≡ 0
only_first zero first found stands = refl
only_first (suc number) first found stands = absurd (none-some found stands)

not_closed : (edge : FlowEdge) → IsTrue (not (is_close edge.instr)) → IsTrue (is_close edge.instr) → ⊥
not_closed edge is closes = both_ways (is_close edge.instr) (not-true (is_close edge.instr) is) closes

two_alone : {A : Type 0} (P : A → Type 0) (x y : A) → P x → P y → All P (x ∷ y ∷ [])
two_alone P x y is is' = All-cons P x (y ∷ []) is (one_alone P y is')

returns_so : (edge : FlowEdge) → IsTrue (not (is_return edge.instr) || (nat_eq edge.from 5 || nat_eq edge.from 11)) → IsTrue (is_return edge.instr) → Contains (5 ∷ 11 ∷ []) edge.from
returns_so edge is returns = by_case (or_cases (not (is_return edge.instr)) (nat_eq edge.from 5 || nat_eq edge.from 11) is)
  where
    by_place : (nat_eq edge.from 5 ≡ true) ⊎ (nat_eq edge.from 11 ≡ true) → Contains (5 ∷ 11 ∷ []) edge.from
    by_place (inl there) = (0, omega arith, sym (eqb-true edge.from 5 there))
    by_place (inr there) = (1, omega arith, sym (eqb-true edge.from 11 there))

    by_case : (not (is_return edge.instr) ≡ true) ⊎ ((nat_eq edge.from 5 || nat_eq edge.from 11) ≡ true) → Contains (5 ∷ 11 ∷ []) edge.from
    by_case (inl no_return) = absurd (both_ways (is_return edge.instr) (not-true (is_return edge.instr) no_return) returns)
    by_case (inr there) = by_place (or_cases (nat_eq edge.from 5) (nat_eq edge.from 11) there)

leads_on : (edge : FlowEdge) → IsTrue (not (nat_eq edge.to 0)) → edge.to ≢ 0
leads_on edge is same = both_ways (nat_eq edge.to 0) (not-true (nat_eq edge.to 0) is) (eq-eqb edge.to 0 same)

leads_on' : (edge : FlowEdge) → IsTrue (not (nat_eq edge.to 7)) → edge.to ≢ 7
leads_on' edge is same = both_ways (nat_eq edge.to 7) (not-true (nat_eq edge.to 7) is) (eq-eqb edge.to 7 same)

-- no edge leads from the one function to the other
abbrev same_bool : Bool → Bool → Bool
same_bool true other = other
same_bool false other = not other

same_side : (edge : FlowEdge) → IsTrue (same_bool (nat_lt edge.from 7) (nat_lt edge.to 7)) → nat_lt edge.to 7 ≡ nat_lt edge.from 7
same_side edge is = by_sides (nat_lt edge.from 7) (nat_lt edge.to 7) is
  where
    by_sides : (one other : Bool) → IsTrue (same_bool one other) → other ≡ one
    by_sides true true is' = refl
    by_sides true false is' = is'
    by_sides false true is' = sym is'
    by_sides false false is' = refl

on_side : (from point : ℕ) → Reached flow from point → nat_lt point 7 ≡ nat_lt from 7
on_side from point Here = refl
on_side from point (Along before edge reached stands starts) =
    All-contains (λ one. nat_lt one.to 7 ≡ nat_lt one.from 7) edges edge
    (All-weaker (λ one. IsTrue (same_bool (nat_lt one.from 7) (nat_lt one.to 7))) (λ one. nat_lt one.to 7 ≡ nat_lt one.from 7) same_side edges
    (all_true (λ one. same_bool (nat_lt one.from 7) (nat_lt one.to 7)) edges refl)) stands
    ∙ (ap (λ (k : ℕ). nat_lt k 7) starts ∙ on_side from before reached)

-- which of the two a function is, its entry tells
side_of : (number : ℕ) (function : FlowFunction) → slice_get functions number ≡ Some function → (nat_lt function.entry 7 ≡ nat_eq number 0) × (nat_lt function.exit 7 ≡ nat_eq number 0) × (number < 2)
side_of zero function stands = (ap (λ (one : FlowFunction). nat_lt one.entry 7) (sym (same_Some main_function function stands)), ap (λ (one : FlowFunction). nat_lt one.exit 7) (sym (same_Some main_function function stands)), omega arith)
side_of (suc zero) function stands = (ap (λ (one : FlowFunction). nat_lt one.entry 7) (sym (same_Some called_function function stands)), ap (λ (one : FlowFunction). nat_lt one.exit 7) (sym (same_Some called_function function stands)), omega arith)
side_of (suc (suc number)) function stands = absurd (none-some function stands)

same_number : (one other : ℕ) → one < 2 → other < 2 → nat_eq one 0 ≡ nat_eq other 0 → one ≡ other
same_number zero zero less less' same = refl
same_number zero (suc other) less less' same =
    let differ : nat_eq (suc other) 0 ≡ false = ne_eqb (suc other) 0 (λ at. absurd (omega arith)) in absurd (false≢true (sym differ ∙ sym same))
same_number (suc one) zero less less' same =
    let differ : nat_eq (suc one) 0 ≡ false = ne_eqb (suc one) 0 (λ at. absurd (omega arith)) in absurd (false≢true (sym differ ∙ same))
same_number (suc one) (suc other) less less' same = omega arith

pub is_flow : IsFlow flow
is_flow = record {
  in_range = record {
    edges = All-from_recursion (λ edge. (edge.from < 13) × (edge.to < 13)) edges ((omega arith, omega arith), ((omega arith, omega arith), ((omega arith, omega arith), ((omega arith, omega arith), ((omega arith, omega arith), ((omega arith, omega arith), ((omega arith, omega arith), ((omega arith, omega arith), ((omega arith, omega arith), ((omega arith, omega arith), ((omega arith, omega arith), tt)))))))))));
    functions = two_alone (λ one. (one.entry < 13) × (one.exit < 13)) main_function called_function (omega arith, omega arith) (omega arith, omega arith);
    main = omega arith;
  };
  names = all_true (λ edge. names_what_is_there flow edge.instr) edges refl;
  heads = All-nil (λ one. one < 13);
  each_point = refl;
  standing_variables = all_true (λ standing. ascend standing.variables && list_all (is_local flow) standing.variables) stands_so refl;
  standing_registers = all_true (λ standing. ascend (map (λ width. width.register) standing.registers) && list_all (λ width. is_scalar_size width.size) standing.registers) stands_so refl;
  variable_sizes = all_true (λ variable. is_object_size variable.size) flow.variables refl;
  sizes = all_true (λ edge. has_sizes edge.instr) edges refl;
  initials = All-nil (λ scalar. IsTrue (is_initial flow scalar));
  initials_apart = λ i j d less below. absurd (omega arith);
  parameters = all_true (λ function. are_distinct function.parameters && list_all (is_parameter flow) function.parameters) functions refl;
  calls = all_true (λ edge. calls_rightly flow edge.instr) edges refl;
  reads = all_true (λ edge. reads_what_stands flow (stands_at flow edge.from) edge.instr) edges refl;
  tests = all_true (λ edge. tests_one_size (stands_at flow edge.from) edge.instr) edges refl;
  scopes = all_true (λ edge. has_scope flow (stands_at flow edge.from) edge.instr) edges refl;
  leads = All-from_recursion (λ edge. stands_after flow edge.instr (stands_at flow edge.from) ≡ stands_at flow edge.to) edges (refl, (refl, (refl, (refl, (refl, (refl, (refl, (refl, (refl, (refl, (refl, tt)))))))))));
  entry_variables = two_alone (λ one. (variable : ℕ) →
      (Contains (stands_at flow one.entry).variables variable → Contains one.parameters variable)
      × (Contains one.parameters variable → Contains (stands_at flow one.entry).variables variable)) main_function called_function
      (λ variable. (λ is. is, λ is. is)) (λ variable. (λ is. is, λ is. is));
  entry_registers = two_alone (λ one. (stands_at flow one.entry).registers ≡ []) main_function called_function refl refl;
  entries = two_alone (λ one. All (λ edge. edge.to ≢ one.entry) flow.edges) main_function called_function
      (All-weaker (λ edge. IsTrue (not (nat_eq edge.to 0))) (λ edge. edge.to ≢ 0) leads_on edges (all_true (λ edge. not (nat_eq edge.to 0)) edges refl))
      (All-weaker (λ edge. IsTrue (not (nat_eq edge.to 7))) (λ edge. edge.to ≢ 7) leads_on' edges (all_true (λ edge. not (nat_eq edge.to 7)) edges refl));
  exits = two_alone (HasReturn flow) main_function called_function
      (record { edge = along 5 6 (i.Return (Some 9)); only = refl; returns = refl; variables = refl; ends = refl })
      (record { edge = along 11 12 (i.Return None); only = refl; returns = refl; variables = refl; ends = refl });
  returns = All-weaker (λ edge. IsTrue (not (is_return edge.instr) || (nat_eq edge.from 5 || nat_eq edge.from 11))) (λ edge. IsTrue (is_return edge.instr) → Contains (5 ∷ 11 ∷ []) edge.from) returns_so edges
      (all_true (λ edge. not (is_return edge.instr) || (nat_eq edge.from 5 || nat_eq edge.from 11)) edges refl);
  separate = record {
    points = λ one other point function second stands stands' reached reached'.
        let here = side_of one function stands in
        let there = side_of other second stands' in
        same_number one other here.2 there.2 (sym here.0 ∙ (sym (on_side function.entry point reached) ∙ (on_side second.entry point reached' ∙ there.0)));
    exits = λ one other function second stands stands' reached.
        let here = side_of one function stands in
        let there = side_of other second stands' in
        same_number one other here.2 there.2 (sym here.0 ∙ (sym (on_side function.entry second.exit reached) ∙ there.1));
  };
  closes = All-weaker (λ edge. IsTrue (not (is_close edge.instr))) (λ edge. IsTrue (is_close edge.instr) → exit_of flow flow.main ≡ Some edge.to) (λ edge is closes. absurd (not_closed edge is closes)) edges
      (all_true (λ edge. not (is_close edge.instr)) edges refl);
  closes_once = All-weaker (λ edge. IsTrue (not (is_close edge.instr))) (λ edge. IsTrue (is_close edge.instr) → All (λ other. is_call_of flow.main other.instr ≡ false) flow.edges) (λ edge is closes. absurd (not_closed edge is closes)) edges
      (all_true (λ edge. not (is_close edge.instr)) edges refl);
}

-- the functions
abbrev number_of : ℕ → Option ℕ
number_of zero = Some 1
number_of (suc number) = None

abbrev setting : Setting
setting = record { statics = []; called = number_of; gives = λ number. GivesNothing }

-- a body: `f();` and the `}`
inside : (base : ℕ) → Lowered text flow setting (record { base = base; closes = false; gives = GivesNothing }) [] [] ([] ∷ []) (body_tasks text called base) [] 7
inside base =
    Passes 8 NONE refl (Executes 0 (Values 0 (Calls 0 1 called [] None 9 NONE refl refl tt refl refl refl refl
    (Finishes (KnownAs 0) NONE [] 10 refl refl refl refl
    (EndsVoid NONE base (Returns (KnownAs 0) None NONE NONE 11 12 refl refl refl refl refl))))))

begins : Lowered text flow setting (record { base = 0; closes = false; gives = Gives 4 true }) [] [] ([] ∷ []) (body_tasks text main 0) [] 0
begins =
    Passes 1 NONE refl (Executes 0 (Values 0 (Calls 0 1 called [] None 2 NONE refl refl tt refl refl refl refl
    (Finishes (KnownAs 0) NONE [] 3 refl refl refl refl
    (EndsMain (Integer int) NONE 0 (Makes 0 9 4 4 NONE refl refl (Returns (InRegister 9 4 true) (Some 9) NONE NONE 5 6 refl refl refl refl refl)))))))

function_lowered : (number called' : ℕ) (function : Function ℕ) → slice_get (called ∷ main ∷ []) number ≡ Some function → number_of number ≡ Some called' →
    IsFunctionLowered text flow setting number called' function
function_lowered zero called' function stands is =
    subst (λ (one : Function ℕ). IsFunctionLowered text flow setting zero called' one) (same_Some called function stands)
    (record {
      there = called_function;
      stands = ap (λ (k : ℕ). slice_get functions k) (sym (same_Some 1 called' is));
      names = [];
      parameters = refl;
      made = tt;
      new = refl;
      body = inside;
    })
function_lowered (suc number) called' function stands is = absurd (none-some called' is)

pub is_lowered : IsProgramLowered text flow setting main
is_lowered = record {
  statics = record {
    fixed = tt;
    steps = 0;
    enough = refl;
    written = λ made statics choices more is names. refl;
  };
  functions = function_lowered;
  begins = record {
    there = main_function;
    stands = refl;
    names = [];
    parameters = refl;
    made = tt;
    new = refl;
    gives = Gives 4 true;
    body = begins;
  };
}

pub both_meet : (choices : List Choice) (kind : ℕ) (place : Place) → Leads text choices kind place ↔ GraphLeads flow choices kind place
both_meet choices kind place = programs_meet text flow setting is_flow main is_lowered choices kind place refl (All-nil (λ scalar. HasInitialOffset scalar.word))
