-- The blocks of static variables are there before main's parameters are made, and no other byte gets a mark.
use Rattle.std.proofs.Common.{◌≡◌, ℕ, ◌+◌, ◌≤◌, Bool, true, false, ◌&&◌, ◌||◌, List, [], ◌∷◌, length, nat_eq, nat_lt, pos, Option, None, Some, refl, sym, ◌∙◌, ap, eqb-true, ltb-true, lt-ltb, arith, length-append}
use Rattle.std.specs.Prelude.{slice_get, if◌then◌else◌}
use Rattle.std.specs.List.{list_all, list_any}
use Rattle.std.specs.Option.{option_map_or}
use Rattle.std.proofs.lemmas.Bool.{false≢true}
use Rattle.std.proofs.lemmas.List.{length-set}
use Rattle.bytes_core.specs.declared.byte.Byte.{Byte}
use Rattle.bytes_core.specs.declared.block.Block.{Block}
use Rattle.bytes_core.specs.declared.block.BlockKind.TheVariants as storage
use Rattle.bytes_core.specs.declared.word.Word.TheVariants.{To}
use Rattle.bytes_core.specs.Access.{with_bytes, stored}
use Rattle.bytes_core.specs.Placement.{placed}
use Rattle.choices.specs.declared.choice.Choice.{Choice}
use Rattle.graph.proofs.Tests.{and_left, and_right, and_both, list_all-implies}
use Rattle.flow.specs.declared.flow_graph.Flow.{Flow}
use Rattle.flow.specs.declared.flow_graph.Initial.{Initial}
use Rattle.flow.specs.declared.flow_graph.Variable.{Variable}
use Rattle.flow.specs.Holding.{Owned, block_of, put_owned}
use Rattle.flow.specs.Machine.{State, entered, size_in, with_memory, with_new_block, with_variable}
use Rattle.flow.specs.Runs.{with_statics, with_initial, with_initials, initial_word}
use Rattle.flow.proofs.Outcomes.{Leaves, Leaves-new_block}
use Rattle.plain.specs.Marks.{Mark, is_in_range, marked_at, is_zero_in, written_mark}
use Rattle.plain.specs.PlainRuns.{with_initial_marks}
use Rattle.plain.specs.StartMarks.{with_initial_mark}
use Rattle.plain.proofs.StartStatics.{among_blocks}

abbrev pub are_below : ℕ → List Owned → Bool
are_below count statics = list_all (λ (owned : Owned). nat_lt owned.block count) statics

abbrev pub HasBelow : State → Type 0
HasBelow state = are_below (length state.memory) state.statics ≡ true

put_all : (p : Owned → Bool) (new : Owned) (owned : List Owned) → p new ≡ true → list_all p owned ≡ true → list_all p (put_owned new owned) ≡ true
put_all p new [] has all = and_both (p new) true has refl
put_all p new (first ∷ rest) has all = by_test (nat_lt new.variable first.variable) (put_all p new rest has (and_right (p first) (list_all p rest) all))
  where
    by_test : (b : Bool) → list_all p (put_owned new rest) ≡ true → list_all p (if b then new ∷ first ∷ rest else first ∷ put_owned new rest) ≡ true
    by_test true later = and_both (p new) (p first && list_all p rest) has all
    by_test false later = and_both (p first) (list_all p (put_owned new rest)) (and_left (p first) (list_all p rest) all) later

pub below_next : (number : ℕ) (state : State) (block : Block) → HasBelow state → are_below (length (placed state.memory block)) (put_owned (record { variable = number; block = length state.memory }) state.statics) ≡ true
below_next number state block below =
    let long : length (placed state.memory block) ≡ length state.memory + 1 = length-append state.memory (block ∷ []) in
    put_all (λ (owned : Owned). nat_lt owned.block (length (placed state.memory block))) (record { variable = number; block = length state.memory }) state.statics (lt-ltb _ _ (omega arith))
    (list_all-implies (λ (owned : Owned). nat_lt owned.block (length state.memory)) (λ (owned : Owned). nat_lt owned.block (length (placed state.memory block)))
    (λ owned is. lt-ltb _ _ (let less = ltb-true owned.block (length state.memory) is in let l = long in omega arith)) state.statics below)

pub statics_below : (number : ℕ) (variables : List Variable) (state : State) (choices : List Choice) → HasBelow state → Leaves (with_statics number variables state choices) HasBelow
statics_below number [] state choices below = below
statics_below number (variable ∷ rest) state choices below = by_kind variable.fixed (statics_below (number + 1) rest)
  where
    by_kind : (fixed : Bool) → ((state : State) (choices : List Choice) → HasBelow state → Leaves (with_statics (number + 1) rest state choices) HasBelow) →
        Leaves (if fixed
        then with_new_block storage.Static variable.size true state choices (λ after block more. with_statics (number + 1) rest
        (record after { statics = put_owned (record { variable = number; block = block }) after.statics }) more)
        else with_statics (number + 1) rest state choices) HasBelow
    by_kind true more = Leaves-new_block storage.Static variable.size true state choices
        (λ after block more. with_statics (number + 1) rest
        (record after { statics = put_owned (record { variable = number; block = block }) after.statics }) more) HasBelow
        (λ block choices.
        more (record state { memory = placed state.memory block; statics = put_owned (record { variable = number; block = length state.memory }) state.statics }) choices (below_next number state block below))
    by_kind false more = more state choices below

-- variables that are made change no static one
pub entered_statics : (flow : Flow) (variables : List ℕ) (state : State) (choices : List Choice) → Leaves (entered flow variables state choices) (λ next. next.statics ≡ state.statics)
entered_statics flow [] state choices = refl
entered_statics flow (variable ∷ rest) state choices =
    Leaves-new_block storage.Local (size_in flow variable) false state choices (λ after block more. entered flow rest (with_variable variable block after) more) (λ next. next.statics ≡ state.statics)
    (λ block choices. entered_statics flow rest (with_variable variable (length state.memory) (with_memory (placed state.memory block) state)) choices)

-- There are as many blocks once scalars stand.

long_with : (memory : List Block) (number from : ℕ) (found : Option Block) (bytes : List Byte) → length (with_bytes memory number found from bytes) ≡ length memory
long_with memory number from None bytes = refl
long_with memory number from (Some block) bytes = length-set memory number _

long_initial : (statics : List Owned) (first : Initial) (memory : List Block) → length (with_initial statics first memory) ≡ length memory
long_initial statics first memory = by_block (block_of statics first.variable)
  where
    by_block : (found : Option ℕ) → length (option_map_or (λ block. stored memory (To block (pos first.at)) first.size (initial_word statics first.word)) found memory) ≡ length memory
    by_block None = refl
    by_block (Some block) = long_with memory block first.at (slice_get memory block) _

pub long_initials : (statics : List Owned) (initials : List Initial) (memory : List Block) → length (with_initials statics initials memory) ≡ length memory
long_initials statics [] memory = refl
long_initials statics (first ∷ rest) memory = long_initials statics rest (with_initial statics first memory) ∙ long_initial statics first memory

-- Only bytes of their blocks get marks.

pub none_above : (statics : List Owned) (count block : ℕ) → are_below count statics ≡ true → count ≤ block → list_any (λ (owned : Owned). nat_eq owned.block block) statics ≡ false
none_above [] count block below above = refl
none_above (first ∷ rest) count block below above =
    by_test (nat_eq first.block block) refl
    ∙ none_above rest count block (and_right (nat_lt first.block count) (are_below count rest) below) above
  where
    by_test : (b : Bool) → nat_eq first.block block ≡ b → (b || list_any (λ (owned : Owned). nat_eq owned.block block) rest) ≡ list_any (λ (owned : Owned). nat_eq owned.block block) rest
    by_test false is = refl
    by_test true is = let same = eqb-true first.block block is in let less = ltb-true first.block count (and_left (nat_lt first.block count) (are_below count rest) below) in absurd (omega arith)

elsewhere_one : (statics : List Owned) (first : Initial) (marks : ℕ → ℕ → Mark) (block place : ℕ) → list_any (λ (owned : Owned). nat_eq owned.block block) statics ≡ false → with_initial_mark statics first marks block place ≡ marks block place
elsewhere_one statics first marks block place none = by_block (block_of statics first.variable) refl
  where
    new : ℕ → ℕ → Mark
    new = written_mark (is_zero_in first.size (initial_word statics first.word)) first.size

    by_block : (found : Option ℕ) → block_of statics first.variable ≡ found → option_map_or (λ number. marked_at (To number (pos first.at)) first.size new marks) found marks block place ≡ marks block place
    by_block None is = refl
    by_block (Some number) is = by_test (nat_eq block number) refl
      where
        by_test : (b : Bool) → nat_eq block number ≡ b → (if b && is_in_range first.at first.size place then new first.at place else marks block place) ≡ marks block place
        by_test false apart = refl
        by_test true same = absurd (false≢true (sym none ∙ among_blocks statics first.variable block (is ∙ ap Some (sym (eqb-true _ _ same)))))

pub elsewhere : (statics : List Owned) (initials : List Initial) (marks : ℕ → ℕ → Mark) (block place : ℕ) → list_any (λ (owned : Owned). nat_eq owned.block block) statics ≡ false → with_initial_marks statics initials marks block place ≡ marks block place
elsewhere statics [] marks block place none = refl
elsewhere statics (first ∷ rest) marks block place none = elsewhere statics rest (with_initial_mark statics first marks) block place none ∙ elsewhere_one statics first marks block place none
