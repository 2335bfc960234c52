-- What holds of the state that an outcome leaves, if it leaves one.
use Rattle.std.proofs.Common.{◌≡◌, ℕ, List, [], ◌∷◌, Bool, true, false, refl, Option, None, Some, subst}
use Rattle.std.specs.Prelude.{◌&&◌, ◌||◌, not, if◌then◌else◌, nat_eq, length}
use Rattle.std.specs.List.{list_all}
use Rattle.cbase.specs.declared.place.Place.{Place}
use Rattle.bytes_core.specs.declared.block.Block.{Block}
use Rattle.bytes_core.specs.declared.block.BlockKind.{BlockKind}
use Rattle.bytes_core.specs.Placement.{new_block, is_new_block, placed}
use Rattle.bytes_core.specs.Fault.{memory_lost}
use Rattle.bytes_core.specs.Loss.{is_lost}
use Rattle.flow.specs.Holding.{Held}
use Rattle.choices.specs.declared.choice.Choice.{Choice}
use Rattle.choices.specs.declared.choice.Choice.TheVariants.{None as NoBlock, Block as NewBlock, Input as GivenInput}
use Rattle.flow.specs.Machine.{State, Outcome, Went, Barred, Waits, Ended, Faulted, given, unless_fault, unless_lost, if_computed, with_new_block, with_memory, roots}
use Rattle.flow.specs.Runs.{then_go}

-- what the outcome leaves is such
abbrev pub Leaves : Outcome → (State → Type 0) → Type 0
Leaves (Went next rest) P = P next
Leaves Barred P = Unit {0}
Leaves Waits P = Unit {0}
Leaves Ended P = Unit {0}
Leaves (Faulted kind place) P = Unit {0}

pub left_state : (outcome : Outcome) (P : State → Type 0) (next : State) (rest : List Choice) → Leaves outcome P → outcome ≡ Went next rest → P next
left_state outcome P next rest leaves is = let Q : Outcome → Type 0 = λ o. Leaves o P in subst Q is leaves

pub Leaves-weaker : (outcome : Outcome) (P Q : State → Type 0) → ((next : State) → P next → Q next) → Leaves outcome P → Leaves outcome Q
Leaves-weaker (Went next rest) P Q weaker leaves = weaker next leaves
Leaves-weaker Barred P Q weaker leaves = tt
Leaves-weaker Waits P Q weaker leaves = tt
Leaves-weaker Ended P Q weaker leaves = tt
Leaves-weaker (Faulted kind place) P Q weaker leaves = tt

pub Leaves-then : (outcome : Outcome) (onward : State → List Choice → Outcome) (P Q : State → Type 0) → Leaves outcome P →
    ((next : State) (rest : List Choice) → P next → Leaves (onward next rest) Q) → Leaves (then_go outcome onward) Q
Leaves-then (Went next rest) onward P Q leaves each = each next rest leaves
Leaves-then Barred onward P Q leaves each = tt
Leaves-then Waits onward P Q leaves each = tt
Leaves-then Ended onward P Q leaves each = tt
Leaves-then (Faulted kind place) onward P Q leaves each = tt

pub Leaves-given : (found : Option Held) (onward : Held → Outcome) (P : State → Type 0) →
    ((held : Held) → found ≡ Some held → Leaves (onward held) P) → Leaves (given found onward) P
Leaves-given None onward P each = tt
Leaves-given (Some held) onward P each = each held refl

pub Leaves-unless_fault : (fault : Option ℕ) (place : Place) (outcome : Outcome) (P : State → Type 0) → Leaves outcome P → Leaves (unless_fault fault place outcome) P
Leaves-unless_fault None place outcome P leaves = leaves
Leaves-unless_fault (Some kind) place outcome P leaves = tt

pub Leaves-if_computed : (found : Option ℕ) (onward : ℕ → Outcome) (P : State → Type 0) →
    ((number : ℕ) → Leaves (onward number) P) → Leaves (if_computed found onward) P
Leaves-if_computed None onward P each = tt
Leaves-if_computed (Some number) onward P each = each number

pub Leaves-if : (test : Bool) (one other : Outcome) (P : State → Type 0) → Leaves one P → Leaves other P → Leaves (if test then one else other) P
Leaves-if true one other P leaves leaves' = leaves
Leaves-if false one other P leaves leaves' = leaves'

pub Leaves-unless_lost : (place : Place) (state : State) (choices : List Choice) (P : State → Type 0) → P state → Leaves (unless_lost place state choices) P
Leaves-unless_lost place state choices P is = Leaves-if (is_lost state.memory (roots state)) (Faulted memory_lost place) (Went state choices) P tt is

pub Leaves-new_block : (kind : BlockKind) (size : ℕ) (zeroed : Bool) (state : State) (choices : List Choice)
    (onward : State → ℕ → List Choice → Outcome) (P : State → Type 0) →
    ((block : Block) (rest : List Choice) → Leaves (onward (with_memory (placed state.memory block) state) (length state.memory) rest) P) →
    Leaves (with_new_block kind size zeroed state choices onward) P
Leaves-new_block kind size zeroed state [] onward P each = tt
Leaves-new_block kind size zeroed state (NoBlock ∷ choices) onward P each = tt
Leaves-new_block kind size zeroed state (GivenInput number ∷ choices) onward P each = tt
Leaves-new_block kind size zeroed state (NewBlock base contents ∷ choices) onward P each =
    Leaves-if (is_new_block state.memory kind size base contents && (not zeroed || list_all (nat_eq 0) contents))
    (onward (with_memory (placed state.memory (new_block kind base contents)) state) (length state.memory) choices) Ended P
    (each (new_block kind base contents) choices) tt
