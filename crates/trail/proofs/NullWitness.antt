-- The error of the program that reads at a null pointer is met.
use Rattle.std.proofs.Common.{◌≡◌, ℕ, zero, suc, ◌<◌, List, [], ◌∷◌, map, Bool, true, false, refl, sym, ap, subst, eqb-true, ◌∙◌, inl, inr, Option, None, Some, take, arith}
use Rattle.std.specs.Prelude.{nat_eq, if◌then◌else◌, slice_get, Contains, All, IsTrue}
use Rattle.std.specs.Option.{option_map}
use Rattle.std.proofs.lemmas.List.Elements.{All-nil}
use Rattle.bytes_core.specs.declared.word.Word.{Word}
use Rattle.bytes_core.specs.declared.word.Word.TheVariants.{Plain}
use Rattle.bytes_core.specs.Fault.{null_pointer_dereference}
use Rattle.bytes_core.specs.Placement.{is_placed}
use Rattle.bytes_core.specs.Valid.{NamesBelow, IsMemory}
use Rattle.graph.specs.declared.parts.Parts.{Parts}
use Rattle.graph.specs.declared.post.Post.{Post}
use Rattle.graph.specs.declared.value.Value.TheVariants.{Const}
use Rattle.graph.specs.Meaning.{StandsFor}
use Rattle.graph.specs.State as graphs
use Rattle.graph.specs.Whole.{no_parts}
use Rattle.flow.specs.declared.flow_graph.FlowEdge.{FlowEdge}
use Rattle.flow.specs.declared.flow_graph.Width.{Width}
use Rattle.flow.specs.Holding.{Held, width, held_by}
use Rattle.choices.specs.declared.choice.Choice.{Choice}
use Rattle.flow.specs.Machine.{State, Went, Barred, Faulted, at, with_value, step_along, execute}
use Rattle.flow.specs.Exclusive.{are_exclusive, IsExclusive}
use Rattle.flow.specs.Memories.{HasInitialOffset}
use Rattle.flow.specs.Standing.{stands_at}
use Rattle.flow.specs.Runs.{blank}
use Rattle.trail.specs.declared.trail.Cause.TheVariants.{Start, Step}
use Rattle.trail.specs.declared.trail.Entry.{Entry}
use Rattle.trail.specs.Seen.{seen, IsOf}
use Rattle.trail.specs.Analysis.{IsNear, IsBegun, GoesNear, IsLedTo, IsFaulting, IsExact}
use Rattle.trail.specs.Theorems.{HaveOffsets}
use Rattle.trail.specs.Trail.{IsHonest, AreHonest, IsReal, RealStart, RealStep, HasKind}
use Rattle.trail.specs.Witness.{here, null_edge, read_edge, back_edge, null, holds, post_of, fault_post, for_null, nothing_widened, same_registers, first_entry, second_entry, trail_of, IsNullMet}
use Rattle.trail.proofs.Sound.{same_some}
use Rattle.trail.proofs.Real.{error_met}
use Rattle.trail.proofs.Witness.{by_two, no_registers, blank_stands, after_first}
use Rattle.trail.proofs.NullFlow.{is_flow, calls}

-- the state behind the first edge
abbrev loaded : State
loaded = at 1 (with_value 0 8 (Plain 0) (blank 0))

abbrev null_held : Held
null_held = record { register = 0; size = 8; word = Plain 0 }

no_blocks : IsMemory []
no_blocks = record {
  placed = All-nil (λ block. IsTrue (is_placed block));
  apart = λ i j d below within. absurd (omega arith);
  named = All-nil (λ block. All (NamesBelow 0) block.bytes);
}

-- nothing is there but for words in registers, which are null
null_state : (registers : ℕ → Option Word) → ((register : ℕ) (word : Word) → registers register ≡ Some word → word ≡ Plain 0) →
    graphs.IsState (record { memory = []; variables = λ variable. None; registers = registers; ports = []; roots = [] })
null_state registers plain = record {
  memory = no_blocks;
  bytes = All-nil (λ block. All graphs.IsByte block.bytes);
  variables = λ variable number is. absurd cc;
  registers = λ register word is. subst (graphs.IsWordBelow 0) (sym (plain register word is)) (record { small = omega arith; named = tt });
  ports = All-nil (graphs.IsWordBelow 0);
  roots = All-nil (graphs.IsLedTo []);
}

blank_is : graphs.IsState (seen (blank 0))
blank_is = null_state (λ register. None) (λ register word is. absurd cc)

-- what register 0 holds, and no other one holds anything
abbrev only_word : ℕ → Option Word
only_word register = if nat_eq 0 register then Some (Plain 0) else None

one_held : (register : ℕ) → option_map (λ (held : Held). held.word) (held_by (null_held ∷ []) register) ≡ only_word register
one_held register = by_test (nat_eq 0 register)
  where
    by_test : (test : Bool) → option_map (λ (held : Held). held.word) (if test then Some null_held else None) ≡ (if test then Some (Plain 0) else None)
    by_test true = refl
    by_test false = refl

loaded_is : graphs.IsState (seen loaded)
loaded_is = null_state (seen loaded).registers (λ register word is. by_test (nat_eq 0 register) word (sym (one_held register) ∙ is))
  where
    by_test : (test : Bool) (word : Word) → (if test then Some (Plain 0) else None) ≡ Some word → word ≡ Plain 0
    by_test true word is = sym (same_some (Plain 0) word is)
    by_test false word is = absurd cc

-- so it is in each state that the second graph stands for
pub words_of : (state : graphs.State) → StandsFor (holds 0 8) state → (register : ℕ) → state.registers register ≡ only_word register
words_of state stands register = stands.meets.registers register ∙ by_test (nat_eq 0 register)
  where
    by_test : (test : Bool) → option_map stands.given.word (if test then Some 0 else None) ≡ (if test then Some (Plain 0) else None)
    by_test true = ap (λ (word : Word). Some word) (stands.meets.values 0 (Const 0 8) refl)
    by_test false = refl

-- behind the first edge the registers are these
abbrev rebuilt : ℕ → ℕ → Word → Held
rebuilt register size word = record { register = register; size = size; word = word }

pub only_null : (held : List Held) → map width held ≡ record { register = 0; size = 8 } ∷ [] → option_map (λ (one : Held). one.word) (held_by held 0) ≡ Some (Plain 0) → held ≡ null_held ∷ []
only_null [] widths word = absurd cc
only_null (first ∷ second ∷ rest) widths word = absurd cc
only_null (first ∷ []) widths word =
    let is : width first ≡ record { register = 0; size = 8 } = cc in
    let register : first.register ≡ 0 = ap (λ (w : Width). w.register) is in
    let size : first.size ≡ 8 = ap (λ (w : Width). w.size) is in
    let word' : option_map (λ (one : Held). one.word) (if nat_eq 0 0 then Some first else None) ≡ Some (Plain 0) =
    subst (λ (r : ℕ). option_map (λ (one : Held). one.word) (if nat_eq r 0 then Some first else None) ≡ Some (Plain 0)) register word in
    let plain : first.word ≡ Plain 0 = same_some first.word (Plain 0) word' in
    ap (λ (one : Held). one ∷ []) (same_held first register size plain)
  where
    same_held : (one : Held) → one.register ≡ 0 → one.size ≡ 8 → one.word ≡ Plain 0 → one ≡ null_held
    same_held one r s w =
        ap (λ (x : ℕ). rebuilt x one.size one.word) r ∙ (ap (λ (x : ℕ). rebuilt 0 x one.word) s ∙ ap (λ (x : Word). rebuilt 0 8 x) w)

-- behind the first edge a state of a run whose register 0 is null holds just that
registers_of : (state : State) → IsOf null state → state.point ≡ 1 → IsNear same_registers (seen loaded) state → state.frame.registers ≡ null_held ∷ []
registers_of state of point near =
    let widths : map width state.frame.registers ≡ record { register = 0; size = 8 } ∷ [] = of.run.stands.frame.registers ∙ ap (λ (p : ℕ). (stands_at null p).registers) point in
    only_null state.frame.registers widths (near 0)

-- what the edges come to
along_null : (state : State) (choices : List Choice) → state.point ≡ 0 → step_along null null_edge state choices ≡ Went (at 1 (with_value 0 8 (Plain 0) state)) choices
along_null state choices point = ap (λ (p : ℕ). if nat_eq 0 p then Went (at 1 (with_value 0 8 (Plain 0) state)) choices else Barred) point

pub along_read : (state : State) (choices : List Choice) → state.point ≡ 1 → state.frame.registers ≡ null_held ∷ [] → step_along null read_edge state choices ≡ Faulted null_pointer_dereference (here 2)
along_read state choices point registers =
    ap (λ (p : ℕ). if nat_eq 1 p then execute null read_edge.instr 2 (here 2) state choices else Barred) point
    ∙ ap (λ (held : List Held). execute null read_edge.instr 2 (here 2) (record state { frame = record state.frame { registers = held } }) choices) registers

-- one edge leads out of a point, or none
abbrev kept : Bool → FlowEdge → List FlowEdge → List FlowEdge
kept test edge rest = if test then edge ∷ rest else rest

exclusive : IsExclusive null
exclusive = record { each = λ point. by_tests point (nat_eq 0 point) (nat_eq 1 point) (nat_eq 2 point) refl refl refl }
  where
    by_tests : (point : ℕ) (first second third : Bool) → nat_eq 0 point ≡ first → nat_eq 1 point ≡ second → nat_eq 2 point ≡ third →
        IsTrue (are_exclusive (kept first null_edge (kept second read_edge (kept third back_edge []))))
    by_tests point true true third is is' is'' = let e : 0 ≡ point = eqb-true 0 point is in let e' : 1 ≡ point = eqb-true 1 point is' in absurd (omega arith)
    by_tests point true false true is is' is'' = let e : 0 ≡ point = eqb-true 0 point is in let e' : 2 ≡ point = eqb-true 2 point is'' in absurd (omega arith)
    by_tests point false true true is is' is'' = let e : 1 ≡ point = eqb-true 1 point is' in let e' : 2 ≡ point = eqb-true 2 point is'' in absurd (omega arith)
    by_tests point true false false is is' is'' = refl
    by_tests point false true false is is' is'' = refl
    by_tests point false false true is is' is'' = refl
    by_tests point false false false is is' is'' = refl

null_edge_is : (number : ℕ) (edge : FlowEdge) → number ≡ 0 → slice_get null.edges number ≡ Some edge → null_edge ≡ edge
null_edge_is number edge is there = same_some null_edge edge (sym (ap (slice_get null.edges) is) ∙ there)

read_edge_is : (number : ℕ) (edge : FlowEdge) → number ≡ 1 → slice_get null.edges number ≡ Some edge → read_edge ≡ edge
read_edge_is number edge is there = same_some read_edge edge (sym (ap (slice_get null.edges) is) ∙ there)

-- the empty state is near each one of the first graph
begins : (next : graphs.State) → StandsFor no_parts next → IsBegun same_registers null next
begins next stands = record { begun = blank 0; choices = []; goes = refl; near = λ register. sym (stands.meets.registers register) }

-- the first edge leads from it to each one of the second graph
loads : (next : graphs.State) → StandsFor (holds 0 8) next → IsLedTo same_registers null 0 null_edge no_parts next
loads next stands = record { before = seen (blank 0); is = blank_is; stands = blank_stands; goes = λ state of point near. from state of point }
  where
    from : (state : State) → IsOf null state → state.point ≡ 0 → GoesNear same_registers null 0 next state
    from state of point =
        let none : state.frame.registers ≡ [] = no_registers state.frame.registers (of.run.stands.frame.registers ∙ ap (λ (p : ℕ). (stands_at null p).registers) point) in
        record {
          gone = at 1 (with_value 0 8 (Plain 0) state);
          steps = record { edge = null_edge; stands = refl; choices = []; rest = []; goes = along_null state [] point };
          near = λ register. ap (λ (held : List Held). (seen (at 1 (with_value 0 8 (Plain 0) (record state { frame = record state.frame { registers = held } })))).registers register) none
              ∙ (one_held register ∙ sym (words_of next stands register));
        }

-- and the second one faults behind it
reads : IsFaulting same_registers null 1 read_edge (holds 0 8) null_pointer_dereference
reads = record {
  before = seen loaded;
  is = loaded_is;
  stands = after_first 0 8 (blank 0) refl blank_stands;
  faults = λ state of point near. record { edge = read_edge; stands = refl; choices = []; faults = along_read state [] point (registers_of state of point near) };
}

exact : IsExact for_null same_registers null
exact = record {
  start = λ graph next is fine stands. begins next (subst (λ (g : Parts). StandsFor g next) is stands);
  steps = λ number edge graph post result after next there fits sharp is loss result_is fine stands. elim is [
    | inl (number_is, graph_is, post_is) ↦
        let one : null_edge ≡ edge = null_edge_is number edge number_is there in
        let after_is : holds 0 8 ≡ after = only_result result after (sym (ap (λ (p : Post). slice_get p.graphs result) post_is) ∙ result_is) in
        subst (λ (g : Parts). IsLedTo same_registers null number edge g next) (sym graph_is)
        (subst (λ (n : ℕ). IsLedTo same_registers null n edge no_parts next) (sym number_is)
        (subst (λ (e : FlowEdge). IsLedTo same_registers null 0 e no_parts next) one
        (loads next (subst (λ (g : Parts). StandsFor g next) (sym after_is) stands))))
    | inr (number_is, graph_is, post_is) ↦ let none : slice_get {X = Parts} [] result ≡ Some after = sym (ap (λ (p : Post). slice_get p.graphs result) post_is) ∙ result_is in absurd (no_result result after none)
  ];
  begins = λ graph is. tt;
  leads = λ number edge graph post result after there fits sharp is none result_is. tt;
  faults = λ number edge graph post kind there fits sharp is has. elim is [
    | inl (number_is, graph_is, post_is) ↦ absurd (no_kind kind (subst (λ (p : Post). Contains p.kinds kind) post_is has))
    | inr (number_is, graph_is, post_is) ↦
        let one : read_edge ≡ edge = read_edge_is number edge number_is there in
        let kind_is : null_pointer_dereference ≡ kind = only_kind kind (subst (λ (p : Post). Contains p.kinds kind) post_is has) in
        subst (λ (g : Parts). IsFaulting same_registers null number edge g kind) (sym graph_is)
        (subst (λ (n : ℕ). IsFaulting same_registers null n edge (holds 0 8) kind) (sym number_is)
        (subst (λ (e : FlowEdge). IsFaulting same_registers null 1 e (holds 0 8) kind) one
        (subst (λ (k : ℕ). IsFaulting same_registers null 1 read_edge (holds 0 8) k) kind_is reads)))
  ];
}
  where
    only_result : (result : ℕ) (after : Parts) → slice_get (holds 0 8 ∷ []) result ≡ Some after → holds 0 8 ≡ after
    only_result zero after is = same_some (holds 0 8) after is
    only_result (suc result) after is = absurd cc

    no_result : (result : ℕ) (after : Parts) → slice_get {X = Parts} [] result ≡ Some after → ⊥
    no_result result after is = absurd cc

    no_kind : (kind : ℕ) → Contains {X = ℕ} [] kind → ⊥
    no_kind kind has = let below : has.0 < 0 = has.1 in omega arith

    only_kind : (kind : ℕ) → Contains (null_pointer_dereference ∷ []) kind → null_pointer_dereference ≡ kind
    only_kind kind (zero, below, is) = is
    only_kind kind (suc k, below, is) = absurd (omega arith)

pub honest : AreHonest for_null nothing_widened null (trail_of (holds 0 8))
honest = by_two (λ number entry. IsHonest for_null nothing_widened null (take number (trail_of (holds 0 8))) entry) first_entry (second_entry (holds 0 8))
    (record {
      fits = tt;
      made = (refl, refl);
      uncovered = λ kept number earlier there kept' point covers. absurd cc;
      reduced = λ kept head. tt;
      new = λ number earlier there same. absurd cc;
    })
    (record {
      fits = tt;
      made = record {
        earlier = first_entry;
        there = refl;
        kept = refl;
        edge = null_edge;
        stands = refl;
        ordinary = refl;
        leaves = refl;
        arrives = refl;
        post = post_of (holds 0 8);
        is = inl (refl, refl, refl);
        graph = refl;
        loss_is = refl;
      };
      uncovered = λ kept number earlier there kept' point covers. by_one number earlier there point;
      reduced = λ kept head. tt;
      new = λ number earlier there same. by_cause number earlier there same;
    })
  where
    by_one : (number : ℕ) (earlier : Entry) → slice_get (first_entry ∷ []) number ≡ Some earlier → earlier.point ≡ 1 → ⊥
    by_one zero earlier there point = let one : first_entry ≡ earlier = same_some first_entry earlier there in let e : 0 ≡ 1 = ap (λ (x : Entry). x.point) one ∙ point in absurd cc
    by_one (suc number) earlier there point = absurd cc

    by_cause : (number : ℕ) (earlier : Entry) → slice_get (first_entry ∷ []) number ≡ Some earlier → earlier.cause ≡ Step 0 0 0 None → ⊥
    by_cause zero earlier there same = let one : first_entry ≡ earlier = same_some first_entry earlier there in let e : Start ≡ Step 0 0 0 None = ap (λ (x : Entry). x.cause) one ∙ same in absurd cc
    by_cause (suc number) earlier there same = absurd cc

chain : IsReal (trail_of (holds 0 8)) 1
chain = RealStep 1 0 0 0 (second_entry (holds 0 8)) refl refl (RealStart 0 first_entry refl refl)

has : HasKind for_null null (second_entry (holds 0 8)) 1 null_pointer_dereference
has = record { edge = read_edge; stands = refl; leaves = refl; post = fault_post; is = inr (refl, refl, refl); has = (0, omega arith, refl) }

pub offsets : HaveOffsets null
offsets = All-nil (λ scalar. HasInitialOffset scalar.word)

pub null_met : IsNullMet
null_met = record {
  flow = is_flow;
  offsets = offsets;
  calls = calls;
  exclusive = exclusive;
  exact = exact;
  honest = honest;
  real = chain;
  has = has;
  met = error_met for_null nothing_widened same_registers null (trail_of (holds 0 8)) is_flow offsets calls exclusive exact honest 1 (second_entry (holds 0 8)) 1 null_pointer_dereference read_edge chain refl refl has;
}
