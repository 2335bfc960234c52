-- A program of two edges with a trail that shows it safe, and one with a trail whose error is met.
use Rattle.std.specs.Prelude.{◌≡◌, ℕ, true, false, List, [], ◌∷◌, None, Some, ◌⊎◌}
use Rattle.cbase.specs.declared.abi.Abi.TheVariants.{Lp64}
use Rattle.cbase.specs.declared.place.Place.{Place}
use Rattle.bytes_core.specs.Fault.{null_pointer_dereference}
use Rattle.graph.specs.declared.parts.Parts.{Parts}
use Rattle.graph.specs.declared.value.Value.TheVariants.{Const}
use Rattle.graph.specs.declared.post.Post.{Post}
use Rattle.graph.specs.Whole.{no_parts}
use Rattle.flow.specs.declared.instruction.Instr.TheVariants.{Number, Read, Return}
use Rattle.flow.specs.declared.flow_graph.Flow.{Flow}
use Rattle.flow.specs.declared.flow_graph.FlowEdge.{FlowEdge}
use Rattle.flow.specs.declared.flow_graph.FlowFunction.{FlowFunction}
use Rattle.flow.specs.declared.flow_graph.Standing.{Standing}
use Rattle.flow.specs.declared.flow_graph.Width.{Width}
use Rattle.flow.specs.Exclusive.{IsExclusive}
use Rattle.flow.specs.Runs.{RunFaults}
use Rattle.flow.specs.Valid.{IsFlow}
use Rattle.trail.specs.declared.trail.Cause.TheVariants.{Start, Step}
use Rattle.trail.specs.declared.trail.Entry.{Entry}
use Rattle.trail.specs.Seen.{HasNoCalls, seen}
use Rattle.trail.specs.Analysis.{Analysis, Widening, IsSound, Nearness, IsExact}
use Rattle.trail.specs.Theorems.{HaveOffsets}
use Rattle.trail.specs.Trail.{AreHonest, IsClosed, IsClean, AreTame, IsFaultTold, IsReal, HasKind}

abbrev pub here : ℕ → Place
here number = record { file = 0; line = 1; column = number; at = number }

-- int main(void) { return 7; }
abbrev pub stands : List Width → Standing
stands registers = record { variables = []; registers = registers }

abbrev pub first_edge : FlowEdge
first_edge = record { from = 0; to = 1; instr = Number 0 7 4; place = here 1 }

abbrev pub last_edge : FlowEdge
last_edge = record { from = 1; to = 2; instr = Return (Some 0); place = here 2 }

abbrev pub main : FlowFunction
main = record { entry = 0; exit = 1; parameters = [] }

abbrev pub seven : Flow
seven = record {
  points = 3;
  edges = first_edge ∷ last_edge ∷ [];
  functions = main ∷ [];
  variables = [];
  initial = [];
  heads = [];
  main = 0;
  stands = stands [] ∷ stands (record { register = 0; size = 4 } ∷ []) ∷ stands [] ∷ [];
  abi = Lp64;
  strict = false;
}

-- the graph in which register 0 holds a number
abbrev pub holds : ℕ → ℕ → Parts
holds number size = record no_parts {
  values = record { key = 0; value = Const number size } ∷ [];
  registers = record { register = 0; value = 0 } ∷ [];
}

abbrev pub post_of : Parts → Post
post_of graph = record { graphs = graph ∷ []; kinds = []; loss = None }

abbrev pub for_seven : Analysis
for_seven = record {
  fits = λ flow point graph. Unit {0};
  is_start = λ flow graph. graph ≡ no_parts;
  is_post = λ flow number graph post. (number ≡ 0) × (graph ≡ no_parts) × (post ≡ post_of (holds 7 4));
  covers = λ wide narrow. wide ≡ narrow;
}

-- without loops nothing is made of a graph at a loop head
abbrev pub nothing_widened : Widening
nothing_widened = record {
  is_fold = λ graph after. ⊥;
  is_coarse = λ graph after. ⊥;
  is_reduced = λ graph. Unit {0};
}

abbrev pub first_entry : Entry
first_entry = record { point = 0; cause = Start; graph = no_parts; kept = true }

abbrev pub second_entry : Parts → Entry
second_entry graph = record { point = 1; cause = Step 0 0 0 None; graph = graph; kept = true }

abbrev pub trail_of : Parts → List Entry
trail_of graph = first_entry ∷ second_entry graph ∷ []

-- all that the theorem asks for, and what it gives
pub record IsSevenSafe : Type 0 where
  pub flow : IsFlow seven
  pub offsets : HaveOffsets seven
  pub calls : HasNoCalls seven
  pub sound : IsSound for_seven nothing_widened seven
  pub honest : AreHonest for_seven nothing_widened seven (trail_of (holds 7 4))
  pub closed : IsClosed for_seven seven (trail_of (holds 7 4))
  pub clean : IsClean for_seven seven (trail_of (holds 7 4))
  pub safe : (kind : ℕ) (place : Place) → RunFaults seven kind place → ⊥

-- int main(void) { return *(int *)0; }
abbrev pub null_edge : FlowEdge
null_edge = record { from = 0; to = 1; instr = Number 0 0 8; place = here 1 }

abbrev pub read_edge : FlowEdge
read_edge = record { from = 1; to = 2; instr = Read 1 0 4 false; place = here 2 }

abbrev pub back_edge : FlowEdge
back_edge = record { from = 2; to = 3; instr = Return (Some 1); place = here 3 }

abbrev pub null : Flow
null = record {
  points = 4;
  edges = null_edge ∷ read_edge ∷ back_edge ∷ [];
  functions = record { entry = 0; exit = 2; parameters = [] } ∷ [];
  variables = [];
  initial = [];
  heads = [];
  main = 0;
  stands = stands [] ∷ stands (record { register = 0; size = 8 } ∷ []) ∷ stands (record { register = 1; size = 4 } ∷ []) ∷ stands [] ∷ [];
  abi = Lp64;
  strict = false;
}

abbrev pub fault_post : Post
fault_post = record { graphs = []; kinds = null_pointer_dereference ∷ []; loss = None }

abbrev pub for_null : Analysis
for_null = record {
  fits = λ flow point graph. Unit {0};
  is_start = λ flow graph. graph ≡ no_parts;
  is_post = λ flow number graph post. ((number ≡ 0) × (graph ≡ no_parts) × (post ≡ post_of (holds 0 8)))
      ⊎ ((number ≡ 1) × (graph ≡ holds 0 8) × (post ≡ fault_post));
  covers = λ wide narrow. wide ≡ narrow;
}

-- near where registers hold the same
abbrev pub same_registers : Nearness
same_registers = record { is = λ wanted state. (register : ℕ) → (seen state).registers register ≡ wanted.registers register; sharp = λ graph. Unit {0} }

pub record IsNullMet : Type 0 where
  pub flow : IsFlow null
  pub offsets : HaveOffsets null
  pub calls : HasNoCalls null
  pub exclusive : IsExclusive null
  pub exact : IsExact for_null same_registers null
  pub honest : AreHonest for_null nothing_widened null (trail_of (holds 0 8))
  pub real : IsReal (trail_of (holds 0 8)) 1
  pub has : HasKind for_null null (second_entry (holds 0 8)) 1 null_pointer_dereference
  pub met : RunFaults null null_pointer_dereference (here 2)

-- all that is asked for so that each fault is told, and what that gives
pub record IsNullTold : Type 0 where
  pub flow : IsFlow null
  pub offsets : HaveOffsets null
  pub calls : HasNoCalls null
  pub sound : IsSound for_null nothing_widened null
  pub honest : AreHonest for_null nothing_widened null (trail_of (holds 0 8))
  pub closed : IsClosed for_null null (trail_of (holds 0 8))
  pub tame : AreTame for_null null (trail_of (holds 0 8))
  pub told : (kind : ℕ) (place : Place) → RunFaults null kind place → IsFaultTold for_null null (trail_of (holds 0 8)) kind place
