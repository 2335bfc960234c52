-- A run keeps its memory a memory, to whose blocks all that a state has leads.
use Rattle.std.proofs.Common.{◌≡◌, ℕ, zero, suc, ◌<◌, ◌≤◌, List, [], ◌∷◌, length, take, Bool, true, false, refl, sym, subst, ◌∙◌, Option, None, Some, arith}
use Rattle.std.specs.Prelude.{◌&&◌, ◌||◌, not, if◌then◌else◌, nat_eq, nat_lt, slice_get, IsTrue, All}
use Rattle.std.specs.List.{list_all, list_any}
use Rattle.std.proofs.lemmas.Bool.{eqb-true, and_parts}
use Rattle.std.proofs.lemmas.List.Elements.{All-nil, All-cons, All-head, All-tail, All-filter, All-weaker}
use Rattle.std.proofs.lemmas.Option.{same_Some, none-some, slice_get_within}
use Rattle.cbase.specs.declared.place.Place.{Place}
use Rattle.choices.specs.declared.choice.Choice.{Choice}
use Rattle.choices.specs.declared.choice.Choice.TheVariants.{None as NoBlock, Block as NewBlock, Input as GivenInput}
use Rattle.bytes_core.specs.declared.byte.Byte.{Byte}
use Rattle.bytes_core.specs.declared.word.Word.{Word}
use Rattle.bytes_core.specs.declared.block.BlockKind.{BlockKind}
use Rattle.bytes_core.specs.declared.block.BlockKind.TheVariants as storage
use Rattle.bytes_core.specs.declared.block.Block.{Block}
use Rattle.bytes_core.specs.Value.{word_bytes}
use Rattle.bytes_core.specs.Placement.{new_block, is_new_block, placed}
use Rattle.bytes_core.specs.Access.{range_fault, stored, written_at}
use Rattle.bytes_core.specs.Copying.{copy_fault, first_fault, share_byte}
use Rattle.bytes_core.specs.Fault.{overlapping_copy}
use Rattle.bytes_core.specs.Laws.{LeadsTo}
use Rattle.bytes_core.specs.Valid.{NamesBelow}
use Rattle.bytes_core.proofs.Kept.{names_of_word, written_nothing}
use Rattle.bytes_core.proofs.Written.{accessible, length-stored}
use Rattle.flow.specs.declared.flow_graph.Flow.{Flow}
use Rattle.flow.specs.Holding.{Held, Owned, held_by, put, put_owned, emptied, block_of}
use Rattle.flow.specs.Machine.{Frame, Caller, State, Outcome, Ended, unless_fault, if_computed, with_new_block, with_variable, with_memory, entered, size_in, at}
use Rattle.flow.specs.Valid.{is_scalar_size}
use Rattle.flow.specs.Memories.{LeadsBelow, HasOffset, HasBlock, IsFrameOf, HasMemory}
use Rattle.flow.proofs.Outcomes.{Leaves}
use Rattle.flow.proofs.MemoryWords.{IsLarger, IsRight, Became, became_same, Reaches, written_right, block_made, word_offsets, word_names, leads_more}

-- what frames have in a larger memory
pub block_larger : (flow : Flow) (old new : List Block) (owned : Owned) → IsLarger old new → HasBlock flow old owned → HasBlock flow new owned
block_larger flow old new owned larger has =
    let after = larger.sizes owned.block has.block has.stands in
    record { block = after.0; stands = after.1; size = after.2 ∙ has.size }

pub owned_larger : (flow : Flow) (old new : List Block) (owned : List Owned) → IsLarger old new → All (HasBlock flow old) owned → All (HasBlock flow new) owned
owned_larger flow old new owned larger all = All-weaker (HasBlock flow old) (HasBlock flow new) (λ one. block_larger flow old new one larger) owned all

pub held_larger : (old new : List Block) (registers : List Held) → IsLarger old new → All (λ held. LeadsBelow (length old) held.word) registers →
    All (λ held. LeadsBelow (length new) held.word) registers
held_larger old new registers larger all =
    All-weaker (λ held. LeadsBelow (length old) held.word) (λ held. LeadsBelow (length new) held.word)
    (λ held. leads_more (length old) (length new) held.word larger.blocks) registers all

pub frame_larger : (flow : Flow) (old new : List Block) (frame : Frame) → IsLarger old new → IsFrameOf flow old frame → IsFrameOf flow new frame
frame_larger flow old new frame larger is = record {
  variables = owned_larger flow old new frame.variables larger is.variables;
  registers = held_larger old new frame.registers larger is.registers;
}

callers_larger : (flow : Flow) (old new : List Block) (callers : List Caller) → IsLarger old new → All (λ caller. IsFrameOf flow old caller.frame) callers →
    All (λ caller. IsFrameOf flow new caller.frame) callers
callers_larger flow old new callers larger all =
    All-weaker (λ caller. IsFrameOf flow old caller.frame) (λ caller. IsFrameOf flow new caller.frame) (λ caller. frame_larger flow old new caller.frame larger) callers all

outer_larger : (old new : List Block) (outer : List ℕ) → IsLarger old new → All (λ block. block < length old) outer → All (λ block. block < length new) outer
outer_larger old new outer larger all =
    All-weaker (λ block. block < length old) (λ block. block < length new) (λ block below. omega (arith, larger.blocks)) outer all

pub right_of : (flow : Flow) (state : State) → HasMemory flow state → IsRight state.memory
right_of flow state is = record { valid = is.memory; offsets = is.offsets }

-- a state with another frame, at another point, and a memory that its own became
pub moves : (flow : Flow) (to : ℕ) (state : State) (memory : List Block) (frame : Frame) → HasMemory flow state → Became state.memory memory → IsFrameOf flow memory frame →
    HasMemory flow (record state { point = to; frame = frame; memory = memory })
moves flow to state memory frame is became has = record {
  memory = became.right.valid;
  offsets = became.right.offsets;
  frame = has;
  callers = callers_larger flow state.memory memory state.callers became.larger is.callers;
  statics = owned_larger flow state.memory memory state.statics became.larger is.statics;
  fixed = is.fixed;
  outer = outer_larger state.memory memory state.outer became.larger is.outer;
}

-- registers
pub put_leads : (count : ℕ) (new : Held) (registers : List Held) → LeadsBelow count new.word → All (λ held. LeadsBelow count held.word) registers →
    All (λ held. LeadsBelow count held.word) (put new registers)
put_leads count new [] leads all = All-cons (λ held. LeadsBelow count held.word) new [] leads (All-nil (λ held. LeadsBelow count held.word))
put_leads count new (first ∷ rest) leads all = by_order (nat_lt new.register first.register) (nat_eq first.register new.register)
    (put_leads count new rest leads (All-tail (λ held. LeadsBelow count held.word) first rest all))
  where
    by_order : (less same : Bool) → All (λ held. LeadsBelow count held.word) (put new rest) →
        All (λ held. LeadsBelow count held.word) (if less then new ∷ first ∷ rest else (if same then new ∷ rest else first ∷ put new rest))
    by_order true same more = All-cons (λ held. LeadsBelow count held.word) new (first ∷ rest) leads all
    by_order false true more = All-cons (λ held. LeadsBelow count held.word) new rest leads (All-tail (λ held. LeadsBelow count held.word) first rest all)
    by_order false false more = All-cons (λ held. LeadsBelow count held.word) first (put new rest) (All-head (λ held. LeadsBelow count held.word) first rest all) more

pub emptied_leads : (count : ℕ) (gone : List ℕ) (registers : List Held) → All (λ held. LeadsBelow count held.word) registers → All (λ held. LeadsBelow count held.word) (emptied gone registers)
emptied_leads count gone registers all = All-filter (λ one. not (list_any (nat_eq one.register) gone)) (λ held. LeadsBelow count held.word) registers all

pub held_leads : (count : ℕ) (registers : List Held) (register : ℕ) (held : Held) → All (λ held. LeadsBelow count held.word) registers → held_by registers register ≡ Some held → LeadsBelow count held.word
held_leads count [] register held all is = absurd (none-some held is)
held_leads count (first ∷ rest) register held all is =
    by_test (nat_eq first.register register) is (held_leads count rest register held (All-tail (λ held. LeadsBelow count held.word) first rest all))
  where
    by_test : (here : Bool) → (if here then Some first else held_by rest register) ≡ Some held → (held_by rest register ≡ Some held → LeadsBelow count held.word) → LeadsBelow count held.word
    by_test true is more = subst (λ (held : Held). LeadsBelow count held.word) (same_Some first held is) (All-head (λ held. LeadsBelow count held.word) first rest all)
    by_test false is more = more is

-- variables
pub put_block : (flow : Flow) (memory : List Block) (new : Owned) (owned : List Owned) → HasBlock flow memory new → All (HasBlock flow memory) owned → All (HasBlock flow memory) (put_owned new owned)
put_block flow memory new [] has all = All-cons (HasBlock flow memory) new [] has (All-nil (HasBlock flow memory))
put_block flow memory new (first ∷ rest) has all = by_order (nat_lt new.variable first.variable) (put_block flow memory new rest has (All-tail (HasBlock flow memory) first rest all))
  where
    by_order : (less : Bool) → All (HasBlock flow memory) (put_owned new rest) → All (HasBlock flow memory) (if less then new ∷ first ∷ rest else first ∷ put_owned new rest)
    by_order true more = All-cons (HasBlock flow memory) new (first ∷ rest) has all
    by_order false more = All-cons (HasBlock flow memory) first (put_owned new rest) (All-head (HasBlock flow memory) first rest all) more

pub block_of_has : (flow : Flow) (memory : List Block) (owned : List Owned) (variable block : ℕ) → All (HasBlock flow memory) owned → block_of owned variable ≡ Some block →
    HasBlock flow memory (record { variable = variable; block = block })
block_of_has flow memory [] variable block all is = absurd (none-some block is)
block_of_has flow memory (first ∷ rest) variable block all is =
    by_test (nat_eq first.variable variable) refl is (block_of_has flow memory rest variable block (All-tail (HasBlock flow memory) first rest all))
  where
    by_test : (here : Bool) → nat_eq first.variable variable ≡ here → (if here then Some first.block else block_of rest variable) ≡ Some block →
        (block_of rest variable ≡ Some block → HasBlock flow memory (record { variable = variable; block = block })) → HasBlock flow memory (record { variable = variable; block = block })
    by_test true same is more =
        let here : HasBlock flow memory first = All-head (HasBlock flow memory) first rest all in
        subst (λ (v : ℕ). HasBlock flow memory (record { variable = v; block = block })) (eqb-true first.variable variable same)
        (subst (λ (b : ℕ). HasBlock flow memory (record { variable = first.variable; block = b })) (same_Some first.block block is)
        (record { block = here.block; stands = here.stands; size = here.size }))
    by_test false same is more = more is

pub block_below : (flow : Flow) (memory : List Block) (owned : Owned) → HasBlock flow memory owned → owned.block < length memory
block_below flow memory owned has = slice_get_within memory owned.block has.block has.stands

-- outcomes, with what led to them
pub Leaves-no_fault : (fault : Option ℕ) (place : Place) (outcome : Outcome) (P : State → Type 0) → (fault ≡ None → Leaves outcome P) → Leaves (unless_fault fault place outcome) P
Leaves-no_fault None place outcome P leaves = leaves refl
Leaves-no_fault (Some kind) place outcome P leaves = tt

pub Leaves-computed : (found : Option ℕ) (onward : ℕ → Outcome) (P : State → Type 0) → ((number : ℕ) → Leaves (onward number) P) → Leaves (if_computed found onward) P
Leaves-computed None onward P each = tt
Leaves-computed (Some number) onward P each = each number

pub Leaves-test : (test : Bool) (one : Outcome) (P : State → Type 0) → (test ≡ true → Leaves one P) → Leaves (if test then one else Ended) P
Leaves-test true one P leaves = leaves refl
Leaves-test false one P leaves = tt

pub leaves_new_block : (P : State → Type 0) (kind : BlockKind) (size : ℕ) (zeroed : Bool) (state : State) (choices : List Choice) (onward : State → ℕ → List Choice → Outcome) → IsRight state.memory →
    ((memory : List Block) (made : Block) (rest : List Choice) → Became state.memory memory → slice_get memory (length state.memory) ≡ Some made → length made.bytes ≡ size → IsTrue made.live →
    Leaves (onward (with_memory memory state) (length state.memory) rest) P) →
    Leaves (with_new_block kind size zeroed state choices onward) P
leaves_new_block P kind size zeroed state [] onward right each = tt
leaves_new_block P kind size zeroed state (NoBlock ∷ choices) onward right each = tt
leaves_new_block P kind size zeroed state (GivenInput number ∷ choices) onward right each = tt
leaves_new_block P kind size zeroed state (NewBlock base contents ∷ choices) onward right each =
    Leaves-test (is_new_block state.memory kind size base contents && (not zeroed || list_all (nat_eq 0) contents))
    (onward (with_memory (placed state.memory (new_block kind base contents)) state) (length state.memory) choices) P
    (λ fits.
    let new = (and_parts (is_new_block state.memory kind size base contents) (not zeroed || list_all (nat_eq 0) contents) fits).0 in
    let made = block_made state.memory kind size base contents right new in
    each (placed state.memory (new_block kind base contents)) (new_block kind base contents) choices made.became made.stands made.size_is refl)

-- variables are entered
pub with_variable_has : (flow : Flow) (variable : ℕ) (state : State) (memory : List Block) (made : Block) → HasMemory flow state → Became state.memory memory →
    slice_get memory (length state.memory) ≡ Some made → length made.bytes ≡ size_in flow variable → HasMemory flow (with_variable variable (length state.memory) (with_memory memory state))
with_variable_has flow variable state memory made is became stands size =
    moves flow state.point state memory (record state.frame { variables = put_owned (record { variable = variable; block = length state.memory }) state.frame.variables }) is became (record {
      variables = put_block flow memory (record { variable = variable; block = length state.memory }) state.frame.variables (record { block = made; stands = stands; size = size })
          (owned_larger flow state.memory memory state.frame.variables became.larger is.frame.variables);
      registers = held_larger state.memory memory state.frame.registers became.larger is.frame.registers;
    })

pub enters_keep : (flow : Flow) (variables : List ℕ) (state : State) (choices : List Choice) → HasMemory flow state → Leaves (entered flow variables state choices) (HasMemory flow)
enters_keep flow [] state choices is = is
enters_keep flow (variable ∷ rest) state choices is =
    leaves_new_block (HasMemory flow) storage.Local (size_in flow variable) false state choices
    (λ after block more. entered flow rest (with_variable variable block after) more) (right_of flow state is)
    (λ memory made more became stands size live. enters_keep flow rest (with_variable variable (length state.memory) (with_memory memory state)) more
    (with_variable_has flow variable state memory made is became stands size))

-- bytes that are stored
pub store_right : (memory : List Block) (at : Word) (size : ℕ) (word : Word) → IsRight memory → size ≤ 8 → Reaches memory at size → LeadsBelow (length memory) word → Became memory (stored memory at size word)
store_right memory at size word right small leads below =
    written_right memory at (take size (word_bytes word)) right
    (subst (λ (count : ℕ). Reaches memory at count) (sym (length-stored size word small)) leads)
    (names_of_word (length memory) size word (word_names (length memory) word below))
    (word_offsets (length memory) size word below)

pub scalar_small : (size : ℕ) → is_scalar_size size ≡ true → size ≤ 8
scalar_small size is = by_one (nat_eq size 1) refl is
  where
    by_four : (four : Bool) → nat_eq size 4 ≡ four → (four || nat_eq size 8) ≡ true → size ≤ 8
    by_four true same is = let here : size ≡ 4 = eqb-true size 4 same in omega arith
    by_four false same is = let here : size ≡ 8 = eqb-true size 8 is in omega arith

    by_two : (two : Bool) → nat_eq size 2 ≡ two → (two || (nat_eq size 4 || nat_eq size 8)) ≡ true → size ≤ 8
    by_two true same is = let here : size ≡ 2 = eqb-true size 2 same in omega arith
    by_two false same is = by_four (nat_eq size 4) refl is

    by_one : (one : Bool) → nat_eq size 1 ≡ one → (one || (nat_eq size 2 || (nat_eq size 4 || nat_eq size 8))) ≡ true → size ≤ 8
    by_one true same is = let here : size ≡ 1 = eqb-true size 1 same in omega arith
    by_one false same is = by_two (nat_eq size 2) refl is

-- a range that is written
pub range_right : (memory : List Block) (at : Word) (count : ℕ) (written : List Byte) → IsRight memory → range_fault memory at count ≡ None → length written ≤ count →
    All (NamesBelow (length memory)) written → All HasOffset written → Became memory (written_at memory at written)
range_right memory at zero [] right none long names offsets = subst (Became memory) (sym (written_nothing memory at)) (became_same memory right)
range_right memory at zero (first ∷ rest) right none long names offsets = absurd (omega arith)
range_right memory at (suc count) written right none long names offsets =
    let leads : LeadsTo memory at (suc count) = (accessible memory at (suc count)).0 none in
    written_right memory at written right (record {
      number = leads.number;
      from = leads.from;
      block = leads.block;
      is = leads.is;
      stands = leads.stands;
      room = omega (arith, leads.room);
    }) names offsets

pub copy_reaches : (memory : List Block) (to from : Word) (count : ℕ) (disjoint : Bool) → copy_fault memory to from count disjoint ≡ None → range_fault memory to count ≡ None
copy_reaches memory to from count disjoint none = by_source (range_fault memory from count) none
  where
    by_target : (target : Option ℕ) → first_fault target (if disjoint && share_byte to from count then Some overlapping_copy else None) ≡ None → target ≡ None
    by_target None none = refl
    by_target (Some kind) none = absurd (none-some kind (sym none))

    by_source : (source : Option ℕ) → first_fault source (first_fault (range_fault memory to count) (if disjoint && share_byte to from count then Some overlapping_copy else None)) ≡ None →
        range_fault memory to count ≡ None
    by_source None none = by_target (range_fault memory to count) none
    by_source (Some kind) none = absurd (none-some kind (sym none))
