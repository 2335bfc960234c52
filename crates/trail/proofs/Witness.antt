-- The program of two edges is safe.
use Rattle.std.proofs.Common.{◌≡◌, ℕ, zero, suc, ◌<◌, List, [], ◌∷◌, map, Bool, true, false, refl, sym, ap, subst, ◌∙◌, None, Some, take, arith}
use Rattle.std.specs.Prelude.{◌≢◌, ◌&&◌, nat_eq, if◌then◌else◌, slice_get, Contains, All, IsTrue}
use Rattle.std.specs.Option.{option_map}
use Rattle.std.proofs.lemmas.List.Elements.{All-nil, All-cons}
use Rattle.bytes_core.specs.declared.word.Word.{Word}
use Rattle.bytes_core.specs.declared.word.Word.TheVariants.{Plain}
use Rattle.graph.specs.declared.parts.Parts.{Parts}
use Rattle.graph.specs.declared.post.Post.{Post}
use Rattle.graph.specs.declared.value.Value.{Value}
use Rattle.graph.specs.declared.value.Value.TheVariants.{Const}
use Rattle.graph.specs.Maps.{value_at}
use Rattle.graph.specs.Meaning.{StandsFor, Assignment, Ends, HasWord, IsOwned, maps_of}
use Rattle.graph.specs.Whole.{no_parts}
use Rattle.flow.specs.declared.flow_graph.FlowEdge.{FlowEdge}
use Rattle.flow.specs.declared.flow_graph.FlowFunction.{FlowFunction}
use Rattle.flow.specs.Holding.{Held, width}
use Rattle.choices.specs.declared.choice.Choice.{Choice}
use Rattle.flow.specs.Machine.{State, Went, Faulted, at, with_value, step_along}
use Rattle.flow.specs.Memories.{HasInitialOffset}
use Rattle.flow.specs.Standing.{stands_at, stands_after}
use Rattle.flow.specs.Runs.{start, blank}
use Rattle.flow.specs.Valid.{IsFlow, AreSeparate, names_what_is_there, ascend, is_local, is_scalar_size, is_object_size, has_sizes, is_initial, are_distinct, is_parameter, calls_rightly, reads_what_stands, tests_one_size, has_scope, HasReturn, is_close, exit_of, is_call_of}
use Rattle.flow.specs.Walks.{is_return}
use Rattle.flow.specs.declared.flow_graph.Standing.{Standing}
use Rattle.std.specs.List.{list_all}
use Rattle.trail.specs.declared.trail.Cause.TheVariants.{Start, Step}
use Rattle.trail.specs.declared.trail.Entry.{Entry}
use Rattle.trail.specs.Seen.{seen, IsOf, HasNoCalls, is_ordinary, is_call}
use Rattle.trail.specs.Analysis.{IsSound, StandsAmong}
use Rattle.trail.specs.Trail.{IsHonest, AreHonest, IsDone, IsExpanded, IsClosed, IsClean, StandsAsStep, IsSettled, SettledKept}
use Rattle.trail.specs.Witness.{stands, first_edge, last_edge, main, seven, holds, post_of, for_seven, nothing_widened, first_entry, second_entry, trail_of, IsSevenSafe}
use Rattle.trail.proofs.Steps.{GoesFrom, goes_from}
use Rattle.trail.proofs.Sound.{same_some, safe_shown}

-- two numbers
pub by_two : {A : Type 0} (P : ℕ → A → Type 0) (one two : A) → P 0 one → P 1 two → (number : ℕ) (item : A) → slice_get (one ∷ two ∷ []) number ≡ Some item → P number item
by_two P one two p q zero item there = subst (P 0) (same_some one item there) p
by_two P one two p q (suc zero) item there = subst (P 1) (same_some two item there) q
by_two P one two p q (suc (suc number)) item there = absurd cc

pub both : {A : Type 0} (P : A → Type 0) (one two : A) → P one → P two → All P (one ∷ two ∷ [])
both P one two p q = All-cons P one (two ∷ []) p (All-cons P two [] q (All-nil P))

pub only : {A : Type 0} (P : A → Type 0) (one : A) → P one → All P (one ∷ [])
only P one p = All-cons P one [] p (All-nil P)

pub three : {A : Type 0} (P : A → Type 0) (one two last : A) → P one → P two → P last → All P (one ∷ two ∷ last ∷ [])
three P one two last p q r = All-cons P one (two ∷ last ∷ []) p (both P two last q r)

one_function : (number : ℕ) (function : FlowFunction) → slice_get (main ∷ []) number ≡ Some function → number ≡ 0
one_function zero function there = refl
one_function (suc number) function there = absurd cc

separate : AreSeparate seven
separate = record {
  points = λ one other point function second there there' reached reached'. one_function one function there ∙ sym (one_function other second there');
  exits = λ one other function second there there' reached. one_function one function there ∙ sym (one_function other second there');
}

on_edges : (P : FlowEdge → Type 0) → P first_edge → P last_edge → All P seven.edges
on_edges P p q = both P first_edge last_edge p q

on_main : (P : FlowFunction → Type 0) → P main → All P seven.functions
on_main P p = only P main p

on_stands : (P : Standing → Type 0) → P (stands []) → P (stands (record { register = 0; size = 4 } ∷ [])) → All P seven.stands
on_stands P p q = three P (stands []) (stands (record { register = 0; size = 4 } ∷ [])) (stands []) p q p

is_flow : IsFlow seven
is_flow = record {
  in_range = record {
    edges = on_edges (λ edge. (edge.from < 3) × (edge.to < 3)) (omega arith, omega arith) (omega arith, omega arith);
    functions = on_main (λ function. (function.entry < 3) × (function.exit < 3)) (omega arith, omega arith);
    main = omega arith;
  };
  names = on_edges (λ edge. IsTrue (names_what_is_there seven edge.instr)) refl refl;
  heads = All-nil (λ head. head < 3);
  each_point = refl;
  standing_variables = on_stands (λ standing. IsTrue (ascend standing.variables && list_all (is_local seven) standing.variables)) refl refl;
  standing_registers = on_stands (λ standing. IsTrue (ascend (map (λ width. width.register) standing.registers)
      && list_all (λ width. is_scalar_size width.size) standing.registers)) refl refl;
  variable_sizes = All-nil (λ variable. IsTrue (is_object_size variable.size));
  sizes = on_edges (λ edge. IsTrue (has_sizes edge.instr)) refl refl;
  initials = All-nil (λ scalar. IsTrue (is_initial seven scalar));
  initials_apart = λ i j d lt within. absurd (omega arith);
  parameters = on_main (λ function. IsTrue (are_distinct function.parameters && list_all (is_parameter seven) function.parameters)) refl;
  calls = on_edges (λ edge. IsTrue (calls_rightly seven edge.instr)) refl refl;
  reads = on_edges (λ edge. IsTrue (reads_what_stands seven (stands_at seven edge.from) edge.instr)) refl refl;
  tests = on_edges (λ edge. IsTrue (tests_one_size (stands_at seven edge.from) edge.instr)) refl refl;
  scopes = on_edges (λ edge. IsTrue (has_scope seven (stands_at seven edge.from) edge.instr)) refl refl;
  leads = on_edges (λ edge. stands_after seven edge.instr (stands_at seven edge.from) ≡ stands_at seven edge.to) refl refl;
  entry_variables = on_main (λ function. (variable : ℕ) →
      (Contains (stands_at seven function.entry).variables variable → Contains function.parameters variable)
      × (Contains function.parameters variable → Contains (stands_at seven function.entry).variables variable)) (λ variable. (λ x. x, λ x. x));
  entry_registers = on_main (λ function. (stands_at seven function.entry).registers ≡ []) refl;
  entries = on_main (λ function. All (λ edge. edge.to ≢ function.entry) seven.edges) (on_edges (λ edge. edge.to ≢ 0) (λ e. absurd cc) (λ e. absurd cc));
  exits = on_main (HasReturn seven) (record { edge = last_edge; only = refl; returns = refl; variables = refl; ends = refl });
  returns = on_edges (λ edge. IsTrue (is_return edge.instr) → Contains (map (λ function. function.exit) seven.functions) edge.from)
      (λ e. absurd cc) (λ e. (0, omega arith, refl));
  separate = separate;
  closes = on_edges (λ edge. IsTrue (is_close edge.instr) → exit_of seven seven.main ≡ Some edge.to) (λ e. absurd cc) (λ e. absurd cc);
  closes_once = on_edges (λ edge. IsTrue (is_close edge.instr) → All (λ other. is_call_of seven.main other.instr ≡ false) seven.edges) (λ e. absurd cc) (λ e. absurd cc);
}

calls : HasNoCalls seven
calls = on_edges (λ edge. is_call edge.instr ≡ false) refl refl

-- the graph without anything stands for the start
nothing : Assignment
nothing = record { word = λ key. Plain 7; blocks = λ key. []; owner = λ number. 0; place = λ number. 0 }

pub blank_stands : StandsFor no_parts (seen (blank 0))
unfolding nothing
blank_stands = record {
  given = nothing;
  meets = record {
    values = λ key value is. absurd cc;
    objects = λ key object is. absurd cc;
    owners = λ key place number is stands. absurd cc;
    places = λ key place number is stands. absurd cc;
    used = λ number block is live. absurd cc;
    variables = λ variable. refl;
    registers = λ register. refl;
    ports = refl;
    rooted = λ place port is. absurd cc;
    unequal = λ place pair is. absurd cc;
  };
}

begun : (graph : Parts) (state : State) (choices rest : List Choice) → graph ≡ no_parts → start seven choices ≡ Went state rest → StandsFor graph (seen state)
begun graph state choices rest is goes =
    let same : Went (blank 0) choices ≡ Went state rest = goes in
    let one : blank 0 ≡ state = cc in
    subst (λ (g : Parts). StandsFor g (seen state)) (sym is) (subst (λ (s : State). StandsFor no_parts (seen s)) one blank_stands)

-- behind the first edge register 0 holds 7
pub no_registers : (held : List Held) → map width held ≡ [] → held ≡ []
no_registers [] e = refl
no_registers (first ∷ rest) e = absurd cc

pub given_of : Word → (state : State) → StandsFor no_parts (seen state) → Assignment
given_of word state stands = record { word = λ key. word; blocks = stands.given.blocks; owner = stands.given.owner; place = stands.given.place }

const_word : (number size key count : ℕ) (blocks : ℕ → List ℕ) (ends : ℕ → Ends) (value : Value) → value_at (holds number size).values key ≡ Some value → HasWord count blocks ends value (Plain number)
const_word number size key count blocks ends value is = by_test (nat_eq 0 key) is
  where
    by_test : (test : Bool) → (if test then Some (Const number size) else None) ≡ Some value → HasWord count blocks ends value (Plain number)
    by_test true is = subst (λ (v : Value). HasWord count blocks ends v (Plain number)) (same_some (Const number size) value is) refl
    by_test false is = let e : None ≡ Some value = is in absurd cc

pub after_first : (number size : ℕ) (state : State) → state.frame.registers ≡ [] → StandsFor no_parts (seen state) →
    StandsFor (holds number size) (seen (at 1 (with_value 0 size (Plain number) state)))
unfolding given_of
after_first number size state none stands = record {
  given = given_of (Plain number) state stands;
  meets = record {
    values = λ key value is. const_word number size key _ _ _ value is;
    objects = λ key object is. absurd cc;
    owners = λ key place number is there. absurd cc;
    places = λ key place number is there. absurd cc;
    used = λ number block is live. let owned : IsOwned (maps_of no_parts) stands.given number = stands.meets.used number block is live in record { object = owned.object; block = owned.block };
    variables = stands.meets.variables;
    registers = λ register. by_register register;
    ports = refl;
    rooted = λ place port is. absurd cc;
    unequal = λ place pair is. absurd cc;
  };
}
  where
    by_test : (test : Bool) → option_map (λ (held : Held). held.word) (if test then Some (record { register = 0; size = size; word = Plain number }) else None)
        ≡ option_map (λ (key : ℕ). Plain number) (if test then Some 0 else None)
    by_test true = refl
    by_test false = refl

    by_register : (register : ℕ) → (seen (at 1 (with_value 0 size (Plain number) state))).registers register ≡ option_map (λ (key : ℕ). Plain number) ((maps_of (holds number size)).registers register)
    by_register register = subst (λ (held : List Held). (seen (at 1 (with_value 0 size (Plain number) (record state { frame = record state.frame { registers = held } })))).registers register
        ≡ option_map (λ (key : ℕ). Plain number) ((maps_of (holds number size)).registers register)) (sym none) (by_test (nat_eq 0 register))

stepped : (edge : FlowEdge) (graph : Parts) (post : Post) (state next : State) → edge ≡ first_edge → graph ≡ no_parts → post ≡ post_of (holds 7 4) →
    IsOf seven state → StandsFor graph (seen state) → (choices rest : List Choice) → step_along seven edge state choices ≡ Went next rest → StandsAmong post.graphs next
stepped edge graph post state next edge_is graph_is post_is is stands choices rest goes =
    let goes' : step_along seven first_edge state choices ≡ Went next rest = subst (λ (e : FlowEdge). step_along seven e state choices ≡ Went next rest) edge_is goes in
    let from : GoesFrom seven first_edge state choices (Went next rest) = goes_from seven first_edge state choices (Went next rest) (λ e. absurd cc) goes' in
    let went : Went (at 1 (with_value 0 4 (Plain 7) state)) choices ≡ Went next rest = from.comes in
    let one : at 1 (with_value 0 4 (Plain 7) state) ≡ next = cc in
    let widths : map width state.frame.registers ≡ [] = is.run.stands.frame.registers ∙ ap (λ (p : ℕ). (stands_at seven p).registers) (sym from.from) in
    let none : state.frame.registers ≡ [] = no_registers state.frame.registers widths in
    subst (λ (p : Post). StandsAmong p.graphs next) (sym post_is) (record {
      number = 0;
      graph = holds 7 4;
      there = refl;
      stands = subst (λ (s : State). StandsFor (holds 7 4) (seen s)) one (after_first 7 4 state none (subst (λ (g : Parts). StandsFor g (seen state)) graph_is stands));
    })

first_is : (number : ℕ) (edge : FlowEdge) → number ≡ 0 → slice_get seven.edges number ≡ Some edge → edge ≡ first_edge
first_is number edge is there = sym (same_some first_edge edge (sym (ap (slice_get seven.edges) is) ∙ there))

sound : IsSound for_seven nothing_widened seven
sound = record {
  start = λ graph state choices rest is goes. begun graph state choices rest is goes;
  steps = λ number edge graph post state next there ordinary fits is none of stands steps.
      stepped steps.edge graph post state next (first_is number steps.edge is.0 steps.stands) is.1 is.2 of stands steps.choices steps.rest steps.goes;
  faults = λ number edge graph post state kind there ordinary fits is of stands faults.
      no_fault faults.edge state kind (first_is number faults.edge is.0 faults.stands) faults.choices faults.faults;
  covers = λ point wide narrow state fits is stands. subst (λ (g : Parts). StandsFor g (seen state)) (sym is) stands;
  folds = λ point graph after state fits is stands. absurd is;
  coarsens = λ point graph after state fits is stands. absurd is;
}
  where
    no_fault : {A : Type 0} (edge : FlowEdge) (state : State) (kind : ℕ) → edge ≡ first_edge → (choices : List Choice) → step_along seven edge state choices ≡ Faulted kind edge.place → A
    no_fault edge state kind is choices faults =
        let faults' : step_along seven first_edge state choices ≡ Faulted kind edge.place = subst (λ (e : FlowEdge). step_along seven e state choices ≡ Faulted kind edge.place) is faults in
        let from : GoesFrom seven first_edge state choices (Faulted kind edge.place) = goes_from seven first_edge state choices (Faulted kind edge.place) (λ e. absurd cc) faults' in
        let none : Went (at 1 (with_value 0 4 (Plain 7) state)) choices ≡ Faulted kind edge.place = from.comes in
        absurd cc

honest : AreHonest for_seven nothing_widened seven (trail_of (holds 7 4))
honest = by_two (λ number entry. IsHonest for_seven nothing_widened seven (take number (trail_of (holds 7 4))) entry) first_entry (second_entry (holds 7 4))
    (record {
      fits = tt;
      made = (refl, refl);
      uncovered = λ kept number earlier there kept' point covers. absurd cc;
      reduced = λ kept head. tt;
      new = λ number earlier there same. absurd cc;
    })
    (record {
      fits = tt;
      made = record {
        earlier = first_entry;
        there = refl;
        kept = refl;
        edge = first_edge;
        stands = refl;
        ordinary = refl;
        leaves = refl;
        arrives = refl;
        post = post_of (holds 7 4);
        is = (refl, refl, refl);
        graph = refl;
        loss_is = refl;
      };
      uncovered = λ kept number earlier there kept' point covers. by_one number earlier there point;
      reduced = λ kept head. tt;
      new = λ number earlier there same. by_cause number earlier there same;
    })
  where
    by_one : (number : ℕ) (earlier : Entry) → slice_get (first_entry ∷ []) number ≡ Some earlier → earlier.point ≡ 1 → ⊥
    by_one zero earlier there point = let one : first_entry ≡ earlier = same_some first_entry earlier there in let e : 0 ≡ 1 = ap (λ (x : Entry). x.point) one ∙ point in absurd cc
    by_one (suc number) earlier there point = absurd cc

    by_cause : (number : ℕ) (earlier : Entry) → slice_get (first_entry ∷ []) number ≡ Some earlier → earlier.cause ≡ Step 0 0 0 None → ⊥
    by_cause zero earlier there same = let one : first_entry ≡ earlier = same_some first_entry earlier there in let e : Start ≡ Step 0 0 0 None = ap (λ (x : Entry). x.cause) one ∙ same in absurd cc
    by_cause (suc number) earlier there same = absurd cc

expanded_first : IsExpanded for_seven seven (trail_of (holds 7 4)) 0 first_entry
expanded_first = by_two (λ number edge. is_ordinary edge.instr ≡ true → edge.from ≡ 0 → IsDone for_seven seven (trail_of (holds 7 4)) 0 first_entry number edge) first_edge last_edge
    (λ ordinary from. record { post = post_of (holds 7 4); is = (refl, refl, refl); all = by_result })
    (λ ordinary from. absurd cc)
  where
    by_result : (result : ℕ) (graph : Parts) → slice_get (holds 7 4 ∷ []) result ≡ Some graph → StandsAsStep (trail_of (holds 7 4)) (Step 0 0 result None) 1 graph
    by_result zero graph there = record { number = 1; entry = second_entry (holds 7 4); there = refl; cause_is = refl; point_is = refl; graph_is = same_some (holds 7 4) graph there }
    by_result (suc result) graph there = absurd cc

closed : IsClosed for_seven seven (trail_of (holds 7 4))
closed = record {
  begins = (0, first_entry, refl, refl);
  settled = by_two (λ number entry. IsSettled for_seven (trail_of (holds 7 4)) number) first_entry (second_entry (holds 7 4)) (SettledKept 0 first_entry refl refl) (SettledKept 1 (second_entry (holds 7 4)) refl refl);
  expanded = by_two (λ number entry. entry.kept ≡ true → IsExpanded for_seven seven (trail_of (holds 7 4)) number entry) first_entry (second_entry (holds 7 4))
      (λ kept. expanded_first)
      (λ kept. by_two (λ number edge. is_ordinary edge.instr ≡ true → edge.from ≡ 1 → IsDone for_seven seven (trail_of (holds 7 4)) 1 (second_entry (holds 7 4)) number edge) first_edge last_edge
      (λ ordinary from. absurd cc) (λ ordinary from. absurd cc));
}

clean : IsClean for_seven seven (trail_of (holds 7 4))
clean at entry number kind there kept has = none has.post has.is.2 has.has
  where
    none : (post : Post) → post ≡ post_of (holds 7 4) → Contains post.kinds kind → ⊥
    none post is has = let (k, below, e) = subst (λ (p : Post). Contains p.kinds kind) is has in omega arith

pub seven_safe : IsSevenSafe
seven_safe = record {
  flow = is_flow;
  offsets = All-nil (λ scalar. HasInitialOffset scalar.word);
  calls = calls;
  sound = sound;
  honest = honest;
  closed = closed;
  clean = clean;
  safe = safe_shown for_seven nothing_widened seven (trail_of (holds 7 4)) is_flow (All-nil (λ scalar. HasInitialOffset scalar.word)) calls sound honest closed clean;
}
