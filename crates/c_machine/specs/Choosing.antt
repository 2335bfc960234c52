-- Steps that take a choice: exactly one, or they wait for it. One that is not of the form that is asked for ends the run.
use Rattle.std.specs.Prelude.{ℕ, ◌^◌, Bool, true, false, not, ◌&&◌, ◌||◌, List, [], ◌∷◌, ◌++◌, length, nat_eq, nat_lt, pos, Option, if◌then◌else◌}
use Rattle.std.specs.List.{list_all}
use Rattle.bytes_core.specs.declared.block.BlockKind.{BlockKind}
use Rattle.bytes_core.specs.declared.block.BlockKind.TheVariants as storage
use Rattle.bytes_core.specs.declared.word.Word.{Word}
use Rattle.bytes_core.specs.declared.word.Word.TheVariants.{Plain, To}
use Rattle.bytes_core.specs.Access.{stored}
use Rattle.bytes_core.specs.Placement.{new_block, is_new_block, placed}
use Rattle.choices.specs.declared.choice.Choice.{Choice}
use Rattle.choices.specs.declared.choice.Choice.TheVariants.{None, Block as NewBlock, Input}
use Rattle.c_machine.specs.declared.kind.Kind.TheVariants.{Integer, Pointer}
use Rattle.c_machine.specs.declared.kind.Kind.{Kind}
use Rattle.c_machine.specs.declared.object.Object.{Object}
use Rattle.c_machine.specs.declared.variable.Variable.{Variable}
use Rattle.c_machine.specs.State.{State, Frame, Outcome, Went, Waits, Ended, with_operand, with_memory}

-- a new block of a kind and size, and what is done with it: its base and its contents are a choice, of zeros alone where that is asked
abbrev pub with_block : {E S I : Type 0} → BlockKind → ℕ → Bool → State E S I → List Choice →
    (State E S I → ℕ → List Choice → Outcome E S I) → Outcome E S I
with_block kind size zeroed state [] onward = Waits
with_block kind size zeroed state (None ∷ choices) onward = Ended
with_block kind size zeroed state (Input number ∷ choices) onward = Ended
with_block kind size zeroed state (NewBlock base contents ∷ choices) onward =
    if is_new_block state.memory kind size base contents && (not zeroed || list_all (nat_eq 0) contents)
    then onward (with_memory (placed state.memory (new_block kind base contents)) state) (length state.memory) choices
    else Ended

-- an object of the innermost block, with any contents, and one that lives as long as the program runs, with zeros (C11 6.2.4, 6.7.9p10)
abbrev pub in_innermost : Variable → Frame → Frame
in_innermost variable [] = (variable ∷ []) ∷ []
in_innermost variable (scope ∷ scopes) = (scope ++ variable ∷ []) ∷ scopes

abbrev pub with_object : {E S I : Type 0} → Option ℕ → State E S I → ℕ → State E S I
with_object token state block = record state { frame = in_innermost (record { token = token; block = block }) state.frame }

abbrev pub with_static : {E S I : Type 0} → Option ℕ → State E S I → ℕ → State E S I
with_static token state block = record state { statics = state.statics ++ record { token = token; block = block } ∷ [] }

abbrev pub object_made : {E S I : Type 0} → Object → State E S I → List Choice → Outcome E S I
object_made object state choices =
    with_block storage.Local object.bytes false state choices (λ after block more. Went (with_object object.token after block) more)

-- a parameter is made as an object of the innermost block, and gets its argument, a value of its own type (6.9.1p9, p10)
abbrev pub parameter_made : {E S I : Type 0} → Object → Word → State E S I → List Choice → Outcome E S I
parameter_made object word state choices =
    with_block storage.Local object.bytes false state choices (λ after block more.
    Went (with_object object.token (with_memory (stored after.memory (To block (pos 0)) object.bytes word) after) block) more)

abbrev pub static_made : {E S I : Type 0} → Object → State E S I → List Choice → Outcome E S I
static_made object state choices =
    with_block storage.Static object.bytes true state choices (λ after block more. Went (with_static object.token after block) more)

-- an allocation answers null or a new block (7.22.3)
abbrev pub allocated : {E S I : Type 0} → ℕ → Bool → State E S I → List Choice → Outcome E S I
allocated size zeroed state (None ∷ choices) = Went (with_operand (Plain 0) state) choices
allocated size zeroed state choices =
    with_block storage.Heap size zeroed state choices (λ after block more. Went (with_operand (To block (pos 0)) after) more)

-- an input of a kind: any number of its bytes, of `_Bool` 0 or 1, for a pointer any plain number
abbrev pub count_of : Kind → ℕ
count_of (Integer of) = if of.truth then 2 else 256 ^ of.bytes
count_of (Pointer bytes) = 2 ^ 64
count_of other = 0

abbrev pub received : {E S I : Type 0} → Kind → State E S I → List Choice → Outcome E S I
received kind state [] = Waits
received kind state (None ∷ choices) = Ended
received kind state (NewBlock base contents ∷ choices) = Ended
received kind state (Input number ∷ choices) =
    if nat_lt number (count_of kind) then Went (with_operand (Plain number) state) choices else Ended
