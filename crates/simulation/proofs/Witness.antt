-- A worked program: `static int x; int main(void) { while (x) x = 1; }`. It belongs to a flow graph, so that the theorems are not about nothing.
use Rattle.std.proofs.Common.{◌≡◌, ◌≢◌, ℕ, zero, suc, ◌<◌, List, [], ◌∷◌, refl, sym, ◌∙◌, arith, false, true, Bool, not, ◌||◌, ◌&&◌, Some, None, slice_index_or, map, nat_eq, inl, inr, ◌⊎◌}
use Rattle.std.specs.Prelude.{IsTrue, All, Contains, slice_get, ◌↔◌}
use Rattle.std.specs.List.{list_all}
use Rattle.std.proofs.lemmas.Bool.{and_parts, not-true, eqb-true, or_cases, both_ways, eq-eqb}
use Rattle.std.proofs.lemmas.List.Elements.{All-nil, All-cons, All-weaker, All-from_recursion}
use Rattle.std.proofs.lemmas.Option.{none-some}
use Rattle.cbase.specs.declared.abi.Abi.TheVariants.{Lp64}
use Rattle.cbase.specs.declared.place.Place.{Place}
use Rattle.cbase.specs.declared.place.TheConstants.Place.{NONE}
use Rattle.bytes_core.specs.declared.block.Block.{Block}
use Rattle.bytes_core.specs.declared.word.Word.{Word}
use Rattle.bytes_core.specs.declared.word.Word.TheVariants.{Plain, To}
use Rattle.choices.specs.declared.choice.Choice.{Choice}
use Rattle.typing.specs.ctypes.Integers.{int}
use Rattle.c_machine.specs.declared.kind.Kind.TheVariants.{Integer}
use Rattle.c_machine.specs.declared.task.Task.TheVariants.{Execute, Test, Again, EndOfBody}
use Rattle.c_machine.specs.Run.{Leads}
use Rattle.c_machine.specs.State.{TaskIn}
use Rattle.c_machine.specs.Text.{ObjectStands, Form, Name as NameForm, Known, Assign, Clause, Eval, While, Braces, Function, Text}
use Rattle.c_machine.specs.Words.{as_kind}
use Rattle.flow.specs.declared.instruction.Instr.{Instr}
use Rattle.flow.specs.declared.instruction.Instr.TheVariants as i
use Rattle.flow.specs.declared.flow_graph.Flow.{Flow}
use Rattle.flow.specs.declared.flow_graph.FlowEdge.{FlowEdge}
use Rattle.flow.specs.declared.flow_graph.FlowFunction.{FlowFunction}
use Rattle.flow.specs.declared.flow_graph.Standing.{Standing as FlowStanding}
use Rattle.flow.specs.Memories.{HasInitialOffset}
use Rattle.flow.specs.Standing.{stands_at, stands_after}
use Rattle.flow.specs.Valid.{IsFlow, HasReturn, is_close, is_local, is_scalar_size, is_object_size, has_sizes, ascend, names_what_is_there, are_distinct, is_parameter, calls_rightly, reads_what_stands, tests_one_size, has_scope, is_initial, exit_of, is_call_of}
use Rattle.flow.specs.Walks.{is_return}
use Rattle.simulation.specs.Laws.{GraphLeads}
use Rattle.simulation.specs.Lowered.{Stop, First, Lowered, Ends, Loop, Passes, Executes, Tests, Values, Addresses, Statics, Loads, Asks, Branches, Numbers, Converts, Stores, Finishes, Repeats, EndsMain, Makes, Returns}
use Rattle.simulation.specs.Names.{Name}
use Rattle.simulation.specs.Running.{Setting, Running, Gives, GivesNothing}
use Rattle.simulation.specs.Slots.{Suits, Gone, InRegister}
use Rattle.simulation.specs.Starting.{IsProgramLowered}
use Rattle.simulation.proofs.Starting.{programs_meet}

-- the program
abbrev form : ℕ → Form ℕ ℕ
form number = slice_index_or (NameForm ∷ Assign None 2 3 ∷ NameForm ∷ Known (Some 1) ∷ []) number (Known None)

abbrev clause : ℕ → Clause ℕ ℕ ℕ
clause number = slice_index_or (While 0 NONE 1 ∷ Eval (Some 1) ∷ []) number (Eval None)

abbrev main : Function ℕ
main = record { is_main = true; params = []; result = Integer int; body = 0 ∷ []; close = NONE }

abbrev text : Text
text = record {
  Expr = ℕ;
  Stmt = ℕ;
  Init = ℕ;
  form = form;
  place = λ number. NONE;
  kind = λ number. Integer int;
  stands = λ number. ObjectStands 7;
  clause = clause;
  first = λ number. NONE;
  last = λ number. NONE;
  initialiser = λ init. Braces [];
  token = λ place. place.at;
  automatic = λ place. None;
  store = λ place expr. None;
  statics = record { token = Some 7; bytes = 4 } ∷ [];
  sets = [];
  enough = 1;
  functions = [];
  main = Some main;
  strict = false;
}

-- its graph
abbrev along : ℕ → ℕ → Instr → FlowEdge
along from to instr = record { from = from; to = to; instr = instr; place = NONE }

abbrev edges : List FlowEdge
edges =
    along 0 1 (i.Enter []) ∷
    along 1 2 (i.Address 0 0) ∷
    along 2 3 (i.Read 1 0 4 false) ∷
    along 3 4 (i.Number 2 0 4) ∷
    along 4 5 (i.IfSame 1 2) ∷
    along 4 6 (i.IfDifferent 1 2) ∷
    along 5 7 (i.Finish []) ∷
    along 7 8 (i.Number 9 0 4) ∷
    along 8 9 (i.Leave []) ∷
    along 9 10 (i.Return (Some 9)) ∷
    along 6 11 (i.Finish []) ∷
    along 11 12 (i.Address 3 0) ∷
    along 12 13 (i.Number 4 1 4) ∷
    along 13 14 (i.Write 3 4 4) ∷
    along 14 1 (i.Finish []) ∷ []

abbrev function : FlowFunction
function = record { entry = 0; exit = 9; parameters = [] }

abbrev stands_so : List FlowStanding
stands_so =
    record { variables = []; registers = [] } ∷
    record { variables = []; registers = [] } ∷
    record { variables = []; registers = record { register = 0; size = 8 } ∷ [] } ∷
    record { variables = []; registers = record { register = 1; size = 4 } ∷ [] } ∷
    record { variables = []; registers = record { register = 1; size = 4 } ∷ record { register = 2; size = 4 } ∷ [] } ∷
    record { variables = []; registers = [] } ∷
    record { variables = []; registers = [] } ∷
    record { variables = []; registers = [] } ∷
    record { variables = []; registers = record { register = 9; size = 4 } ∷ [] } ∷
    record { variables = []; registers = record { register = 9; size = 4 } ∷ [] } ∷
    record { variables = []; registers = [] } ∷
    record { variables = []; registers = [] } ∷
    record { variables = []; registers = record { register = 3; size = 8 } ∷ [] } ∷
    record { variables = []; registers = record { register = 3; size = 8 } ∷ record { register = 4; size = 4 } ∷ [] } ∷
    record { variables = []; registers = [] } ∷ []

abbrev flow : Flow
flow = record {
  points = 15;
  edges = edges;
  functions = function ∷ [];
  variables = record { size = 4; fixed = true } ∷ [];
  initial = [];
  heads = 1 ∷ [];
  main = 0;
  stands = stands_so;
  abi = Lp64;
  strict = false;
}

-- what is true of each
all_true : {A : Type 0} (test : A → Bool) (xs : List A) → list_all test xs ≡ true → All (λ x. IsTrue (test x)) xs
all_true test [] is = All-nil (λ x. IsTrue (test x))
all_true test (x ∷ xs) is = let parts = and_parts (test x) (list_all test xs) is in All-cons (λ x. IsTrue (test x)) x xs parts.0 (all_true test xs parts.1)

one_alone : {A : Type 0} (P : A → Type 0) (x : A) → P x → All P (x ∷ [])
one_alone P x is = All-cons P x [] is (All-nil P)

only_first : {A : Type 0} (number : ℕ) (first found : A) → slice_get (first ∷ []) number ≡ Some found → number ≡ 0
only_first zero first found stands = refl
only_first (suc number) first found stands = absurd (none-some found stands)

not_closed : (edge : FlowEdge) → IsTrue (not (is_close edge.instr)) → IsTrue (is_close edge.instr) → ⊥
not_closed edge is closes = both_ways (is_close edge.instr) (not-true (is_close edge.instr) is) closes

returns_so : (edge : FlowEdge) → IsTrue (not (is_return edge.instr) || nat_eq edge.from 9) → IsTrue (is_return edge.instr) → Contains (9 ∷ []) edge.from
returns_so edge is returns = by_case (or_cases (not (is_return edge.instr)) (nat_eq edge.from 9) is)
  where
    by_case : (not (is_return edge.instr) ≡ true) ⊎ (nat_eq edge.from 9 ≡ true) → Contains (9 ∷ []) edge.from
    by_case (inl no_return) = absurd (both_ways (is_return edge.instr) (not-true (is_return edge.instr) no_return) returns)
    by_case (inr there) = (0, omega arith, sym (eqb-true edge.from 9 there))

leads_on : (edge : FlowEdge) → IsTrue (not (nat_eq edge.to 0)) → edge.to ≢ 0
leads_on edge is same = both_ways (nat_eq edge.to 0) (not-true (nat_eq edge.to 0) is) (eq-eqb edge.to 0 same)

pub is_flow : IsFlow flow
is_flow = record {
  in_range = record {
    edges = All-from_recursion (λ edge. (edge.from < 15) × (edge.to < 15)) edges ((omega arith, omega arith), ((omega arith, omega arith), ((omega arith, omega arith), ((omega arith, omega arith), ((omega arith, omega arith), ((omega arith, omega arith), ((omega arith, omega arith), ((omega arith, omega arith), ((omega arith, omega arith), ((omega arith, omega arith), ((omega arith, omega arith), ((omega arith, omega arith), ((omega arith, omega arith), ((omega arith, omega arith), ((omega arith, omega arith), tt)))))))))))))));
    functions = one_alone (λ one. (one.entry < 15) × (one.exit < 15)) function (omega arith, omega arith);
    main = omega arith;
  };
  names = all_true (λ edge. names_what_is_there flow edge.instr) edges refl;
  heads = one_alone (λ one. one < 15) 1 (omega arith);
  each_point = refl;
  standing_variables = all_true (λ standing. ascend standing.variables && list_all (is_local flow) standing.variables) stands_so refl;
  standing_registers = all_true (λ standing. ascend (map (λ width. width.register) standing.registers) && list_all (λ width. is_scalar_size width.size) standing.registers) stands_so refl;
  variable_sizes = all_true (λ variable. is_object_size variable.size) flow.variables refl;
  sizes = all_true (λ edge. has_sizes edge.instr) edges refl;
  initials = All-nil (λ scalar. IsTrue (is_initial flow scalar));
  initials_apart = λ i j d less below. absurd (omega arith);
  parameters = all_true (λ function. are_distinct function.parameters && list_all (is_parameter flow) function.parameters) flow.functions refl;
  calls = all_true (λ edge. calls_rightly flow edge.instr) edges refl;
  reads = all_true (λ edge. reads_what_stands flow (stands_at flow edge.from) edge.instr) edges refl;
  tests = all_true (λ edge. tests_one_size (stands_at flow edge.from) edge.instr) edges refl;
  scopes = all_true (λ edge. has_scope flow (stands_at flow edge.from) edge.instr) edges refl;
  leads = All-from_recursion (λ edge. stands_after flow edge.instr (stands_at flow edge.from) ≡ stands_at flow edge.to) edges (refl, (refl, (refl, (refl, (refl, (refl, (refl, (refl, (refl, (refl, (refl, (refl, (refl, (refl, (refl, tt)))))))))))))));
  entry_variables = one_alone (λ one. (variable : ℕ) →
      (Contains (stands_at flow one.entry).variables variable → Contains one.parameters variable)
      × (Contains one.parameters variable → Contains (stands_at flow one.entry).variables variable)) function (λ variable. (λ is. is, λ is. is));
  entry_registers = one_alone (λ one. (stands_at flow one.entry).registers ≡ []) function refl;
  entries = one_alone (λ one. All (λ edge. edge.to ≢ one.entry) flow.edges) function (All-weaker (λ edge. IsTrue (not (nat_eq edge.to 0))) (λ edge. edge.to ≢ 0) leads_on edges (all_true (λ edge. not (nat_eq edge.to 0)) edges refl));
  exits = one_alone (HasReturn flow) function (record { edge = along 9 10 (i.Return (Some 9)); only = refl; returns = refl; variables = refl; ends = refl });
  returns = All-weaker (λ edge. IsTrue (not (is_return edge.instr) || nat_eq edge.from 9)) (λ edge. IsTrue (is_return edge.instr) → Contains (9 ∷ []) edge.from) returns_so edges
      (all_true (λ edge. not (is_return edge.instr) || nat_eq edge.from 9) edges refl);
  separate = record {
    points = λ one other point function' second stands stands' reached reached'. only_first one function function' stands ∙ sym (only_first other function second stands');
    exits = λ one other function' second stands stands' reached. only_first one function function' stands ∙ sym (only_first other function second stands');
  };
  closes = All-weaker (λ edge. IsTrue (not (is_close edge.instr))) (λ edge. IsTrue (is_close edge.instr) → exit_of flow flow.main ≡ Some edge.to) (λ edge is closes. absurd (not_closed edge is closes)) edges
      (all_true (λ edge. not (is_close edge.instr)) edges refl);
  closes_once = All-weaker (λ edge. IsTrue (not (is_close edge.instr))) (λ edge. IsTrue (is_close edge.instr) → All (λ other. is_call_of flow.main other.instr ≡ false) flow.edges) (λ edge is closes. absurd (not_closed edge is closes)) edges
      (all_true (λ edge. not (is_close edge.instr)) edges refl);
}

-- the objects, and main
abbrev statics : List Name
statics = record { token = Some 7; variable = 0 } ∷ []

abbrev setting : Setting
setting = record { statics = statics; called = λ number. None; gives = λ number. GivesNothing }

abbrev running : Running
running = record { base = 0; closes = false; gives = Gives 4 true }

abbrev end : List (TaskIn text)
end = EndOfBody true (Integer int) NONE 0 ∷ []

abbrev head : Stop text
head = record { scopes = [] ∷ []; tasks = Test 0 ∷ end; slots = []; point = 1 }

as_it_is : (memory : List Block) (word : Word) → Suits 4 true word → as_kind memory (Integer int) (Integer int) word ≡ word
as_it_is memory (Plain number) suits = refl
as_it_is memory (To block offset) suits = absurd suits.2

-- `x = 1;` and back to the head
turned : Lowered text flow setting running (head ∷ []) [] ([] ∷ []) (Execute 1 ∷ Again 0 0 ∷ end) [] 11
turned =
    Executes 1 (Values 1 (Addresses 2 (Statics 7 0 3 12 NONE refl refl refl refl refl
    (Values 3 (Numbers 1 4 4 13 NONE refl refl
    (Converts (Integer int) (Integer int) 4 4 true as_it_is
    (Stores (Integer int) NONE 4 3 4 4 8 14 false true refl refl refl refl
    (Finishes Gone NONE [] 1 refl refl refl refl
    (Repeats 0 0 (Ends First))))))))))

-- the `}` of main
ended : Lowered text flow setting running (head ∷ []) [] ([] ∷ []) end [] 7
ended = EndsMain (Integer int) NONE 0 (Makes 0 9 4 8 NONE refl refl (Returns (InRegister 9 4 true) (Some 9) NONE NONE 9 10 refl refl refl refl refl))

looped : Lowered text flow setting running [] [] ([] ∷ []) (Test 0 ∷ end) [] 1
looped =
    Loop (Tests 0 (Values 0 (Addresses 0 (Statics 7 0 0 2 NONE refl refl refl refl refl
    (Loads (Integer int) NONE false 4 0 8 1 3 refl refl refl refl
    (Asks 1 4 4 2 4 5 6 true NONE NONE NONE refl refl refl refl
    (Branches 0 false [] 7 refl refl refl ended)
    (Branches 0 true [] 11 refl refl refl turned)))))))

pub is_lowered : IsProgramLowered text flow setting main
is_lowered = record {
  statics = record {
    fixed = (refl, refl, refl, tt);
    steps = 0;
    enough = refl;
    written = λ made statics choices more is names. refl;
  };
  functions = λ number called function' stands is. absurd (none-some function' stands);
  begins = record {
    there = function;
    stands = refl;
    names = [];
    parameters = refl;
    made = tt;
    new = refl;
    gives = Gives 4 true;
    body = Passes 1 NONE refl (Executes 0 looped);
  };
}

pub both_meet : (choices : List Choice) (kind : ℕ) (place : Place) → Leads text choices kind place ↔ GraphLeads flow choices kind place
both_meet choices kind place = programs_meet text flow setting is_flow main is_lowered choices kind place refl (All-nil (λ scalar. HasInitialOffset scalar.word))
