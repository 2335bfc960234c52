-- The example is a valid flow graph.
use Rattle.std.proofs.Common.{◌≡◌, ℕ, zero, suc, ◌<◌, [], ◌∷◌, map, false, refl, sym, ◌∙◌, Some, arith}
use Rattle.std.specs.Prelude.{◌≢◌, ◌&&◌, slice_get, Contains, All, IsTrue}
use Rattle.std.specs.List.{list_all}
use Rattle.std.proofs.lemmas.List.Elements.{All-nil, All-cons}
use Rattle.flow.specs.declared.flow_graph.FlowEdge.{FlowEdge}
use Rattle.flow.specs.declared.flow_graph.FlowFunction.{FlowFunction}
use Rattle.flow.specs.declared.flow_graph.Standing.{Standing}
use Rattle.flow.specs.declared.flow_graph.Variable.{Variable}
use Rattle.flow.specs.declared.instruction.Instr.TheVariants.{Number, Address, Read, Write, Enter, Leave, Finish, Return}
use Rattle.flow.specs.Memories.{HasInitialOffset}
use Rattle.flow.specs.Standing.{stands_at, stands_after}
use Rattle.flow.specs.Valid.{IsFlow, AreSeparate, names_what_is_there, ascend, is_local, is_scalar_size, is_object_size, has_sizes, is_initial, are_distinct, is_parameter, calls_rightly, reads_what_stands, tests_one_size, has_scope, HasReturn, is_close, exit_of, is_call_of}
use Rattle.flow.specs.Walks.{is_return}
use Rattle.trail.specs.Seen.{HasNoCalls, is_call}
use Rattle.plain.specs.Example.{edge, standing, width, example, IsExamplePlain}
use Rattle.plain.proofs.ExamplePlain.{example_plain}
use Rattle.plain.proofs.ExampleWalks.{example_small, example_walks}

nine : {A : Type 0} (P : A → Type 0) (a b c d e f g h i : A) → P a → P b → P c → P d → P e → P f → P g → P h → P i → All P (a ∷ b ∷ c ∷ d ∷ e ∷ f ∷ g ∷ h ∷ i ∷ [])
nine P a b c d e f g h i pa pb pc pd pe pf pg ph pi =
    All-cons P a (b ∷ c ∷ d ∷ e ∷ f ∷ g ∷ h ∷ i ∷ []) pa (All-cons P b (c ∷ d ∷ e ∷ f ∷ g ∷ h ∷ i ∷ []) pb (All-cons P c (d ∷ e ∷ f ∷ g ∷ h ∷ i ∷ []) pc
    (All-cons P d (e ∷ f ∷ g ∷ h ∷ i ∷ []) pd (All-cons P e (f ∷ g ∷ h ∷ i ∷ []) pe (All-cons P f (g ∷ h ∷ i ∷ []) pf
    (All-cons P g (h ∷ i ∷ []) pg (All-cons P h (i ∷ []) ph (All-cons P i [] pi (All-nil P)))))))))

on_edges : (P : FlowEdge → Type 0) → P (edge 0 1 (Enter (0 ∷ []))) → P (edge 1 2 (Address 1 0)) → P (edge 2 3 (Number 2 5 4)) → P (edge 3 4 (Write 1 2 4)) →
    P (edge 4 5 (Finish [])) → P (edge 5 6 (Address 3 0)) → P (edge 6 7 (Read 0 3 4 false)) → P (edge 7 8 (Leave (0 ∷ []))) → P (edge 8 9 (Return (Some 0))) → All P example.edges
on_edges P = nine P (edge 0 1 (Enter (0 ∷ []))) (edge 1 2 (Address 1 0)) (edge 2 3 (Number 2 5 4)) (edge 3 4 (Write 1 2 4)) (edge 4 5 (Finish [])) (edge 5 6 (Address 3 0)) (edge 6 7 (Read 0 3 4 false)) (edge 7 8 (Leave (0 ∷ []))) (edge 8 9 (Return (Some 0)))

on_stands : (P : Standing → Type 0) → P (standing [] []) → P (standing (0 ∷ []) []) → P (standing (0 ∷ []) (width 1 8 ∷ [])) → P (standing (0 ∷ []) (width 1 8 ∷ width 2 4 ∷ [])) →
    P (standing (0 ∷ []) (width 3 8 ∷ [])) → P (standing (0 ∷ []) (width 0 4 ∷ [])) → P (standing [] (width 0 4 ∷ [])) → All P example.stands
on_stands P a b c d e f g =
    All-cons P (standing [] []) (standing (0 ∷ []) [] ∷ standing (0 ∷ []) (width 1 8 ∷ []) ∷ standing (0 ∷ []) (width 1 8 ∷ width 2 4 ∷ []) ∷ standing (0 ∷ []) [] ∷ standing (0 ∷ []) [] ∷ standing (0 ∷ []) (width 3 8 ∷ []) ∷ standing (0 ∷ []) (width 0 4 ∷ []) ∷ standing [] (width 0 4 ∷ []) ∷ standing [] [] ∷ []) a
    (nine P (standing (0 ∷ []) []) (standing (0 ∷ []) (width 1 8 ∷ [])) (standing (0 ∷ []) (width 1 8 ∷ width 2 4 ∷ [])) (standing (0 ∷ []) []) (standing (0 ∷ []) []) (standing (0 ∷ []) (width 3 8 ∷ [])) (standing (0 ∷ []) (width 0 4 ∷ [])) (standing [] (width 0 4 ∷ [])) (standing [] []) b c d b b e f g a)

on_main : (P : FlowFunction → Type 0) → P (record { entry = 0; exit = 8; parameters = [] }) → All P example.functions
on_main P p = All-cons P (record { entry = 0; exit = 8; parameters = [] }) [] p (All-nil P)

on_variables : (P : Variable → Type 0) → P (record { size = 4; fixed = false }) → All P example.variables
on_variables P p = All-cons P (record { size = 4; fixed = false }) [] p (All-nil P)

one_function : (number : ℕ) (function : FlowFunction) → slice_get example.functions number ≡ Some function → number ≡ 0
one_function zero function there = refl
one_function (suc number) function there = absurd cc

separate : AreSeparate example
separate = record {
  points = λ one other point function second there there' reached reached'. one_function one function there ∙ sym (one_function other second there');
  exits = λ one other function second there there' reached. one_function one function there ∙ sym (one_function other second there');
}

example_flow : IsFlow example
example_flow = record {
  in_range = record {
    edges = on_edges (λ edge. (edge.from < 10) × (edge.to < 10)) (omega arith, omega arith) (omega arith, omega arith) (omega arith, omega arith) (omega arith, omega arith) (omega arith, omega arith) (omega arith, omega arith) (omega arith, omega arith) (omega arith, omega arith) (omega arith, omega arith);
    functions = on_main (λ function. (function.entry < 10) × (function.exit < 10)) (omega arith, omega arith);
    main = omega arith;
  };
  names = on_edges (λ edge. IsTrue (names_what_is_there example edge.instr)) refl refl refl refl refl refl refl refl refl;
  heads = All-nil (λ head. head < 10);
  each_point = refl;
  standing_variables = on_stands (λ standing. IsTrue (ascend standing.variables && list_all (is_local example) standing.variables)) refl refl refl refl refl refl refl;
  standing_registers = on_stands (λ standing. IsTrue (ascend (map (λ width. width.register) standing.registers)
      && list_all (λ width. is_scalar_size width.size) standing.registers)) refl refl refl refl refl refl refl;
  variable_sizes = on_variables (λ variable. IsTrue (is_object_size variable.size)) refl;
  sizes = on_edges (λ edge. IsTrue (has_sizes edge.instr)) refl refl refl refl refl refl refl refl refl;
  initials = All-nil (λ scalar. IsTrue (is_initial example scalar));
  initials_apart = λ i j d lt within. absurd (omega arith);
  parameters = on_main (λ function. IsTrue (are_distinct function.parameters && list_all (is_parameter example) function.parameters)) refl;
  calls = on_edges (λ edge. IsTrue (calls_rightly example edge.instr)) refl refl refl refl refl refl refl refl refl;
  reads = on_edges (λ edge. IsTrue (reads_what_stands example (stands_at example edge.from) edge.instr)) refl refl refl refl refl refl refl refl refl;
  tests = on_edges (λ edge. IsTrue (tests_one_size (stands_at example edge.from) edge.instr)) refl refl refl refl refl refl refl refl refl;
  scopes = on_edges (λ edge. IsTrue (has_scope example (stands_at example edge.from) edge.instr)) refl refl refl refl refl refl refl refl refl;
  leads = on_edges (λ edge. stands_after example edge.instr (stands_at example edge.from) ≡ stands_at example edge.to) refl refl refl refl refl refl refl refl refl;
  entry_variables = on_main (λ function. (variable : ℕ) →
      (Contains (stands_at example function.entry).variables variable → Contains function.parameters variable)
      × (Contains function.parameters variable → Contains (stands_at example function.entry).variables variable)) (λ variable. (λ x. x, λ x. x));
  entry_registers = on_main (λ function. (stands_at example function.entry).registers ≡ []) refl;
  entries = on_main (λ function. All (λ edge. edge.to ≢ function.entry) example.edges) (on_edges (λ edge. edge.to ≢ 0) (λ e. absurd cc) (λ e. absurd cc) (λ e. absurd cc) (λ e. absurd cc) (λ e. absurd cc) (λ e. absurd cc) (λ e. absurd cc) (λ e. absurd cc) (λ e. absurd cc));
  exits = on_main (HasReturn example) (record { edge = edge 8 9 (Return (Some 0)); only = refl; returns = refl; variables = refl; ends = refl });
  returns = on_edges (λ edge. IsTrue (is_return edge.instr) → Contains (map (λ function. function.exit) example.functions) edge.from)
      (λ e. absurd cc) (λ e. absurd cc) (λ e. absurd cc) (λ e. absurd cc) (λ e. absurd cc) (λ e. absurd cc) (λ e. absurd cc) (λ e. absurd cc) (λ e. (0, omega arith, refl));
  separate = separate;
  closes = on_edges (λ edge. IsTrue (is_close edge.instr) → exit_of example example.main ≡ Some edge.to) (λ e. absurd cc) (λ e. absurd cc) (λ e. absurd cc) (λ e. absurd cc) (λ e. absurd cc) (λ e. absurd cc) (λ e. absurd cc) (λ e. absurd cc) (λ e. absurd cc);
  closes_once = on_edges (λ edge. IsTrue (is_close edge.instr) → All (λ other. is_call_of example.main other.instr ≡ false) example.edges) (λ e. absurd cc) (λ e. absurd cc) (λ e. absurd cc) (λ e. absurd cc) (λ e. absurd cc) (λ e. absurd cc) (λ e. absurd cc) (λ e. absurd cc) (λ e. absurd cc);
}

no_calls : HasNoCalls example
no_calls = on_edges (λ edge. is_call edge.instr ≡ false) refl refl refl refl refl refl refl refl refl

pub example_meets : IsExamplePlain
example_meets = record { valid = example_flow; offsets = All-nil (λ scalar. HasInitialOffset scalar.word); calls = no_calls; small = example_small; walks = example_walks; plain = example_plain }
