-- The program that reads at a null pointer has a flow graph.
use Rattle.std.proofs.Common.{◌≡◌, ℕ, zero, suc, ◌<◌, [], ◌∷◌, map, false, refl, sym, ◌∙◌, Some, arith}
use Rattle.std.specs.Prelude.{◌≢◌, ◌&&◌, slice_get, Contains, All, IsTrue}
use Rattle.std.specs.List.{list_all}
use Rattle.std.proofs.lemmas.List.Elements.{All-nil, All-cons}
use Rattle.flow.specs.declared.flow_graph.FlowEdge.{FlowEdge}
use Rattle.flow.specs.declared.flow_graph.FlowFunction.{FlowFunction}
use Rattle.flow.specs.declared.flow_graph.Standing.{Standing}
use Rattle.flow.specs.Standing.{stands_at, stands_after}
use Rattle.flow.specs.Valid.{IsFlow, AreSeparate, names_what_is_there, ascend, is_local, is_scalar_size, is_object_size, has_sizes, is_initial, are_distinct, is_parameter, calls_rightly, reads_what_stands, tests_one_size, has_scope, HasReturn, is_close, exit_of, is_call_of}
use Rattle.flow.specs.Walks.{is_return}
use Rattle.trail.specs.Seen.{HasNoCalls, is_call}
use Rattle.trail.specs.Witness.{stands, null_edge, read_edge, back_edge, null}
use Rattle.trail.proofs.Witness.{only, three}

on_edges : (P : FlowEdge → Type 0) → P null_edge → P read_edge → P back_edge → All P null.edges
on_edges P p q r = three P null_edge read_edge back_edge p q r

on_main : (P : FlowFunction → Type 0) → P (record { entry = 0; exit = 2; parameters = [] }) → All P null.functions
on_main P p = only P (record { entry = 0; exit = 2; parameters = [] }) p

on_stands : (P : Standing → Type 0) → P (stands []) → P (stands (record { register = 0; size = 8 } ∷ [])) → P (stands (record { register = 1; size = 4 } ∷ [])) → All P null.stands
on_stands P p q r =
    All-cons P (stands []) (stands (record { register = 0; size = 8 } ∷ []) ∷ stands (record { register = 1; size = 4 } ∷ []) ∷ stands [] ∷ []) p
    (three P (stands (record { register = 0; size = 8 } ∷ [])) (stands (record { register = 1; size = 4 } ∷ [])) (stands []) q r p)

one_function : (number : ℕ) (function : FlowFunction) → slice_get null.functions number ≡ Some function → number ≡ 0
one_function zero function there = refl
one_function (suc number) function there = absurd cc

separate : AreSeparate null
separate = record {
  points = λ one other point function second there there' reached reached'. one_function one function there ∙ sym (one_function other second there');
  exits = λ one other function second there there' reached. one_function one function there ∙ sym (one_function other second there');
}

pub is_flow : IsFlow null
is_flow = record {
  in_range = record {
    edges = on_edges (λ edge. (edge.from < 4) × (edge.to < 4)) (omega arith, omega arith) (omega arith, omega arith) (omega arith, omega arith);
    functions = on_main (λ function. (function.entry < 4) × (function.exit < 4)) (omega arith, omega arith);
    main = omega arith;
  };
  names = on_edges (λ edge. IsTrue (names_what_is_there null edge.instr)) refl refl refl;
  heads = All-nil (λ head. head < 4);
  each_point = refl;
  standing_variables = on_stands (λ standing. IsTrue (ascend standing.variables && list_all (is_local null) standing.variables)) refl refl refl;
  standing_registers = on_stands (λ standing. IsTrue (ascend (map (λ width. width.register) standing.registers)
      && list_all (λ width. is_scalar_size width.size) standing.registers)) refl refl refl;
  variable_sizes = All-nil (λ variable. IsTrue (is_object_size variable.size));
  sizes = on_edges (λ edge. IsTrue (has_sizes edge.instr)) refl refl refl;
  initials = All-nil (λ scalar. IsTrue (is_initial null scalar));
  initials_apart = λ i j d lt within. absurd (omega arith);
  parameters = on_main (λ function. IsTrue (are_distinct function.parameters && list_all (is_parameter null) function.parameters)) refl;
  calls = on_edges (λ edge. IsTrue (calls_rightly null edge.instr)) refl refl refl;
  reads = on_edges (λ edge. IsTrue (reads_what_stands null (stands_at null edge.from) edge.instr)) refl refl refl;
  tests = on_edges (λ edge. IsTrue (tests_one_size (stands_at null edge.from) edge.instr)) refl refl refl;
  scopes = on_edges (λ edge. IsTrue (has_scope null (stands_at null edge.from) edge.instr)) refl refl refl;
  leads = on_edges (λ edge. stands_after null edge.instr (stands_at null edge.from) ≡ stands_at null edge.to) refl refl refl;
  entry_variables = on_main (λ function. (variable : ℕ) →
      (Contains (stands_at null function.entry).variables variable → Contains function.parameters variable)
      × (Contains function.parameters variable → Contains (stands_at null function.entry).variables variable)) (λ variable. (λ x. x, λ x. x));
  entry_registers = on_main (λ function. (stands_at null function.entry).registers ≡ []) refl;
  entries = on_main (λ function. All (λ edge. edge.to ≢ function.entry) null.edges) (on_edges (λ edge. edge.to ≢ 0) (λ e. absurd cc) (λ e. absurd cc) (λ e. absurd cc));
  exits = on_main (HasReturn null) (record { edge = back_edge; only = refl; returns = refl; variables = refl; ends = refl });
  returns = on_edges (λ edge. IsTrue (is_return edge.instr) → Contains (map (λ function. function.exit) null.functions) edge.from)
      (λ e. absurd cc) (λ e. absurd cc) (λ e. (0, omega arith, refl));
  separate = separate;
  closes = on_edges (λ edge. IsTrue (is_close edge.instr) → exit_of null null.main ≡ Some edge.to) (λ e. absurd cc) (λ e. absurd cc) (λ e. absurd cc);
  closes_once = on_edges (λ edge. IsTrue (is_close edge.instr) → All (λ other. is_call_of null.main other.instr ≡ false) null.edges) (λ e. absurd cc) (λ e. absurd cc) (λ e. absurd cc);
}

pub calls : HasNoCalls null
calls = on_edges (λ edge. is_call edge.instr ≡ false) refl refl refl
