-- Variables that begin to stand, on a graph that shows a state.
use Rattle.std.proofs.Common.{◌≡◌, ℕ, suc, ◌≤◌, ◌<◌, ◌^◌, ◌+◌, Bool, true, false, not, List, [], ◌∷◌, map, length, nat_eq, nat_le, nat_lt, Option, None, Some, refl, sym, ◌∙◌, ap, subst, eqb-true, eq-eqb, leb-true, ltb-true, ltb-false, lt-ltb, arith, length-append}
use Rattle.std.specs.Prelude.{option_map, slice_get, is_none, if◌then◌else◌}
use Rattle.std.specs.List.{list_all}
use Rattle.std.proofs.lemmas.Bool.{false≢true}
use Rattle.bytes_core.specs.declared.block.BlockKind.TheVariants.{Local}
use Rattle.graph.specs.declared.object.Object.{Object}
use Rattle.graph.specs.declared.parts.KeyedObject.{KeyedObject}
use Rattle.graph.specs.declared.parts.Parts.{Parts}
use Rattle.graph.specs.DeadBlocks.{with_memory}
use Rattle.graph.specs.Maps.{storage_of}
use Rattle.graph.specs.Meaning.{maps_of, Assignment}
use Rattle.graph.specs.Nodes.{is_region}
use Rattle.graph.specs.State.{State, IsState}
use Rattle.graph.specs.WellFormed.{are_distinct, nodes}
use Rattle.graph.specs.Whole.{IsGraph}
use Rattle.graph.proofs.Found.{found-all}
use Rattle.graph.proofs.Tests.{and_left, and_right, and_both}
use Rattle.changes.specs.Parts.{put, with_object_more}
use Rattle.changes.proofs.Meeting.{has_block}
use Rattle.changes.proofs.RangeForm.{all_append}
use Rattle.flow.specs.declared.instruction.Instr.TheVariants.{Enter}
use Rattle.flow.specs.Machine.{size_in}
use Rattle.heap_steps.proofs.VariablesChanged.{variables_changed}
use Rattle.block_steps.specs.Blocks.{new_object, has_room}
use Rattle.block_steps.specs.Entering.{EntersOne, Enters, with_entered_one, with_entered, loss_entering, enter_post, MayEnter}
use Rattle.block_steps.proofs.EnteredOne.{entered_graph, entered_storage}
use Rattle.block_steps.proofs.EntersAlike.{one_state}
use Rattle.block_steps.proofs.ObjectForm.{nodes_more}
use Rattle.transfer.proofs.Asked.{entered_ready}
use Rattle.plain.specs.Marks.{Mark, Unwritten, Marks, with_new_blocks}
use Rattle.plain.specs.Shown.{IsShownBy, IsShown}
use Rattle.plain.specs.Laws.{GoesPlainlyInRoom}
use Rattle.plain.proofs.ClosePlain.{left_shown}
use Rattle.plain.proofs.FillPlain.{shown_as}
use Rattle.plain.proofs.FinishPlain.{leads_nowhere}
use Rattle.plain.proofs.Merged.{region_is}
use Rattle.plain.proofs.NewBlocks.{slice_below, with_block_marks, now, own_block, block_shown}
use Rattle.plain.proofs.Reaches.{plain_post}

-- marks of blocks that are not there do not matter
below_shown : (parts : Parts) (graph : IsGraph parts) → list_all (λ (entry : KeyedObject). is_region entry.object.shape) parts.objects ≡ true → (state : State) (marks : Marks) (given : Assignment) (new : Mark) → IsShownBy parts state marks given →
    IsShownBy parts state (with_block_marks (length state.memory) new marks) given
below_shown parts graph regions state marks given new shown = record {
  meets = shown.meets;
  marked = λ key number place object stands live blocks below.
      let has = has_block parts state given graph.well_formed shown.meets key 0 key object stands live
      (region_is object.shape (found-all (λ (entry : KeyedObject). entry.key) (λ entry. entry.object) (λ (o : Object). is_region o.shape) parts.objects key object regions stands)) in
      let same : has.number ≡ number = first_same has.number number (sym has.blocks ∙ blocks) in
      ap (λ (b : Bool). if b then marks.of number place else new) (lt-ltb number (length state.memory) (subst (λ (n : ℕ). n < length state.memory) same (slice_below state.memory has.number has.at_number.block has.at_number.there)))
      ∙ shown.marked key number place object stands live blocks below;
  tight = shown.tight;
  edges = shown.edges;
  registers = shown.registers;
}
  where
    first_same : (one other : ℕ) → one ∷ [] ≡ other ∷ [] → one ≡ other
    first_same one other same = some_same one other (ap (λ (ns : List ℕ). slice_get ns 0) same)
      where
        some_same : (one other : ℕ) → Some one ≡ Some other → one ≡ other
        some_same one other same = ap (λ (o : Option ℕ). option_or o) same
          where
            option_or : Option ℕ → ℕ
            option_or None = 0
            option_or (Some n) = n

-- One variable.

module _ (variable size : ℕ) (rest sizes : List ℕ) (parts : Parts) (graph : IsGraph parts) (may : MayEnter parts (variable ∷ rest) (size ∷ sizes)) (room : nodes parts + suc (length rest) < 2 ^ 30) where
  first_small : size ≤ 65536
  first_small = leb-true _ _ (and_left (nat_le size 65536) (list_all (λ size. nat_le size 65536) sizes) may.small)

  first_room : nodes parts + 1 < 2 ^ 30
  first_room = omega arith

  none_is : (found : Option ℕ) → is_none found ≡ true → found ≡ None
  none_is None none = refl
  none_is (Some key) none = absurd (false≢true none)

  first_unnamed : storage_of parts.variables variable ≡ None
  first_unnamed = none_is (storage_of parts.variables variable) (and_left (is_none (storage_of parts.variables variable)) (list_all (λ variable. is_none (storage_of parts.variables variable)) rest) may.unnamed)

  abbrev behind : Parts
  behind = with_entered_one variable size parts

  behind_graph : IsGraph behind
  behind_graph = entered_graph variable size parts graph first_small first_room first_unnamed

  storage_behind : (at : ℕ) → storage_of behind.variables at ≡ put variable (length parts.objects) (storage_of parts.variables) at
  storage_behind = entered_storage variable size parts graph first_small first_room first_unnamed

  still_unnamed : (others : List ℕ) → list_all (λ other. not (nat_eq variable other)) others ≡ true → list_all (λ other. is_none (storage_of parts.variables other)) others ≡ true → list_all (λ other. is_none (storage_of behind.variables other)) others ≡ true
  still_unnamed [] differ none = refl
  still_unnamed (other ∷ others) differ none =
      and_both (is_none (storage_of behind.variables other)) (list_all (λ other. is_none (storage_of behind.variables other)) others)
      (ap is_none (storage_behind other) ∙ by_test (nat_eq other variable) refl)
      (still_unnamed others (and_right (not (nat_eq variable other)) (list_all (λ other. not (nat_eq variable other)) others) differ) (and_right (is_none (storage_of parts.variables other)) (list_all (λ other. is_none (storage_of parts.variables other)) others) none))
    where
      by_test : (b : Bool) → nat_eq other variable ≡ b → is_none (if b then Some (length parts.objects) else storage_of parts.variables other) ≡ true
      by_test true same =
          absurd (false≢true (sym (ap not (eq-eqb variable other (sym (eqb-true _ _ same)))) ∙ and_left (not (nat_eq variable other)) (list_all (λ other. not (nat_eq variable other)) others) differ))
      by_test false same = and_left (is_none (storage_of parts.variables other)) (list_all (λ other. is_none (storage_of parts.variables other)) others) none

  rest_may : MayEnter behind rest sizes
  rest_may = record {
    many = let many : suc (length sizes) ≡ suc (length rest) = may.many in omega arith;
    small = and_right (nat_le size 65536) (list_all (λ size. nat_le size 65536) sizes) may.small;
    distinct = and_right (list_all (λ other. not (nat_eq variable other)) rest) (are_distinct rest) may.distinct;
    unnamed = still_unnamed rest (and_left (list_all (λ other. not (nat_eq variable other)) rest) (are_distinct rest) may.distinct)
        (and_right (is_none (storage_of parts.variables variable)) (list_all (λ variable. is_none (storage_of parts.variables variable)) rest) may.unnamed);
  }

  rest_room : nodes behind + length rest < 2 ^ 30
  rest_room = let more : nodes behind ≡ nodes parts + 1 = nodes_more Local size false parts graph in omega arith

  module _ (regions : list_all (λ (entry : KeyedObject). is_region entry.object.shape) parts.objects ≡ true) where
    rest_regions : list_all (λ (entry : KeyedObject). is_region entry.object.shape) behind.objects ≡ true
    rest_regions = all_append (λ (entry : KeyedObject). is_region entry.object.shape) parts.objects (record { key = length parts.objects; object = new_object Local size false } ∷ []) regions refl

    module _ (state next : State) (is : IsState state) (marks : Marks) (given : Assignment) (shown : IsShownBy parts state marks given) (steps : EntersOne variable size state next) where
      abbrev given' : Assignment
      given' = now Local size false parts graph regions state is marks given shown next.memory steps.block

      one_shown : IsShownBy behind next (with_block_marks (length state.memory) Unwritten marks) given'
      one_shown =
          let grown = block_shown Local size false parts graph regions state is marks given shown next.memory steps.block in record {
            meets = variables_changed (maps_of (with_object_more (new_object Local size false) parts)) (maps_of behind) (with_memory next.memory state) next given'
                (record { objects = λ at. refl; values = λ at. refl; registers = λ at. refl; ports = refl; unequal = refl })
                (record { memory = refl; registers = steps.registers_are; ports = steps.ports; roots = steps.roots })
                (λ at. ap (option_map (λ number. number ∷ [])) (steps.variables_are at) ∙ by_test at (nat_eq at variable) (grown.meets.variables at) ∙ ap (option_map given'.blocks) (sym (storage_behind at)))
                grown.meets;
            marked = grown.marked;
            tight = grown.tight;
            edges = grown.edges;
            registers = grown.registers;
          }
        where
          by_test : (at : ℕ) (b : Bool) → option_map (λ number. number ∷ []) (state.variables at) ≡ option_map given'.blocks (storage_of parts.variables at) →
              option_map (λ number. number ∷ []) (if b then Some (length state.memory) else state.variables at) ≡ option_map given'.blocks (if b then Some (length parts.objects) else storage_of parts.variables at)
          by_test at true other = ap Some (sym (own_block Local size false parts graph regions state is marks given shown next.memory steps.block))
          by_test at false other = other

      longer : length next.memory ≡ length state.memory + 1
      longer = ap length steps.block.is ∙ length-append state.memory _

      -- what is not written yet is so behind both
      twice : (block place : ℕ) → with_new_blocks (length state.memory) Unwritten marks.of block place ≡ with_new_blocks (length next.memory) Unwritten (with_new_blocks (length state.memory) Unwritten marks.of) block place
      twice block place = by_tests (nat_lt block (length next.memory)) refl (nat_lt block (length state.memory)) refl
        where
          by_tests : (a : Bool) → nat_lt block (length next.memory) ≡ a → (b : Bool) → nat_lt block (length state.memory) ≡ b →
              (if b then marks.of block place else Unwritten) ≡ (if a then (if b then marks.of block place else Unwritten) else Unwritten)
          by_tests true a_is b b_is = refl
          by_tests false a_is false b_is = refl
          by_tests false a_is true b_is = absurd (let low = ltb-true _ _ b_is in let high = ltb-false _ _ a_is in let l = longer in omega arith)

pub all_shown : (which sizes : List ℕ) (parts : Parts) → IsGraph parts → list_all (λ (entry : KeyedObject). is_region entry.object.shape) parts.objects ≡ true → MayEnter parts which sizes → nodes parts + length which < 2 ^ 30 →
    (state next : State) → IsState state → (marks : Marks) (given : Assignment) → IsShownBy parts state marks given → Enters which sizes state next → IsShown (with_entered which sizes parts) next (with_block_marks (length state.memory) Unwritten marks)
all_shown [] sizes parts graph regions may room state next is marks given shown leaves =
    record { given = given; by = left_shown parts state (with_block_marks (length state.memory) Unwritten marks) given (below_shown parts graph regions state marks given Unwritten shown) next leaves }
all_shown (variable ∷ rest) [] parts graph regions may room state next is marks given shown none = absurd none
all_shown (variable ∷ rest) (size ∷ sizes) parts graph regions may room state next is marks given shown (middle, first, later) =
    let found = all_shown rest sizes (with_entered_one variable size parts) (behind_graph variable size rest sizes parts graph may room) (rest_regions variable size rest sizes parts graph may room regions)
    (rest_may variable size rest sizes parts graph may room) (rest_room variable size rest sizes parts graph may room) middle next (one_state variable size state middle is first)
    (with_block_marks (length state.memory) Unwritten marks) (given' variable size rest sizes parts graph may room regions state middle is marks given shown first)
    (one_shown variable size rest sizes parts graph may room regions state middle is marks given shown first) later in
    record {
      given = found.given;
      by = shown_as (with_entered rest sizes (with_entered_one variable size parts)) next (with_block_marks (length middle.memory) Unwritten (with_block_marks (length state.memory) Unwritten marks)) (with_block_marks (length state.memory) Unwritten marks)
          found.given (twice variable size rest sizes parts graph may room regions state middle is marks given shown first) (λ register. refl) found.by;
    }

pub enter_plain : (variables : List ℕ) → GoesPlainlyInRoom (Enter variables)
enter_plain variables flow point parts post state marks step room =
    plain_post (Enters variables (map (size_in flow) variables)) state (with_block_marks (length state.memory) Unwritten marks) (enter_post parts variables (map (size_in flow) variables)) post step.posted (record {
      loss = by_variables variables;
      single = omega arith;
      shows = λ next steps. record {
        graph = with_entered variables (map (size_in flow) variables) parts;
        among = (0, omega arith, refl);
        shown = all_shown variables (map (size_in flow) variables) parts step.graph step.fits.regions (entered_ready flow point (Enter variables) parts step.may step.graph variables variables refl refl) few
            state next step.is marks step.shown.given step.shown.by steps;
      };
    })
  where
    few : nodes parts + length variables < 2 ^ 30
    few = ltb-true _ _ (true_is (has_room parts (length variables)) room)
      where
        true_is : (b : Bool) → not b ≡ false → b ≡ true
        true_is true is = refl
        true_is false is = sym is

    by_variables : (which : List ℕ) → loss_entering which parts ≡ None
    by_variables [] = refl
    by_variables (variable ∷ rest) = ap (λ (b : Bool). if b then Some 3 else None) (leads_nowhere parts step.graph step.fits.regions step.fits.ports state marks step.shown.given step.shown.by)
