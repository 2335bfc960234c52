-- Laws of the machine.
use Rattle.std.specs.Prelude.{◌≡◌, ℕ, ◌^◌, ◌<◌, true, false, ◌⊎◌, List, [], ◌∷◌, ◌++◌, slice_get, Contains}
use Rattle.bytes_core.specs.declared.block.Block.{Block}
use Rattle.bytes_core.specs.Loss.{is_lost}
use Rattle.bytes_core.specs.Marking.{is_heap_block}
use Rattle.choices.specs.declared.choice.Choice.{Choice}
use Rattle.typing.specs.declared.ctypes.kind.IntegerType.{IntegerType}
use Rattle.typing.specs.values.Values.{as_type}
use Rattle.c_machine.specs.Program.{Program}
use Rattle.c_machine.specs.State.{StateIn, Outcome, Went, Waits, Ended, Faulted, Stuck}
use Rattle.c_machine.specs.Run.{run, run_of}
use Rattle.c_machine.specs.Step.{step, without_objects}
use Rattle.c_machine.specs.Trees.{text_of}
use Rattle.c_machine.specs.Words.{integer_as}

-- what a step that goes on leaves of the choices is all of them, or all but the first; and one that waits has none to take
abbrev pub TakesOne : {E S I : Type 0} → List Choice → Outcome E S I → Type 0
TakesOne choices (Went next rest) = (rest ≡ choices) ⊎ ((first : Choice) × (choices ≡ first ∷ rest))
TakesOne choices Waits = choices ≡ []
TakesOne choices Ended = Unit {0}
TakesOne choices (Faulted kind place) = Unit {0}
TakesOne choices Stuck = Unit {0}

-- a step takes at most one choice, and waits only where there is none
abbrev pub DoStepsTakeOne : Type 0
DoStepsTakeOne = (p : Program) (state : StateIn (text_of p)) (choices : List Choice) → TakesOne choices (step (text_of p) state choices)

-- with more choices behind, what goes on leaves them too, and all else is as it was, but for what waits
abbrev pub LeavesMore : {E S I : Type 0} → List Choice → Outcome E S I → Outcome E S I → Type 0
LeavesMore more (Went next rest) after = after ≡ Went next (rest ++ more)
LeavesMore more Waits after = Unit {0}
LeavesMore more Ended after = after ≡ Ended
LeavesMore more (Faulted kind place) after = after ≡ Faulted kind place
LeavesMore more Stuck after = after ≡ Stuck

abbrev pub DoStepsLeaveMore : Type 0
DoStepsLeaveMore =
    (p : Program) (state : StateIn (text_of p)) (choices more : List Choice)
    → LeavesMore more (step (text_of p) state choices) (step (text_of p) state (choices ++ more))

-- so do runs, from any state and from the start
abbrev pub DoRunsLeaveMore : Type 0
DoRunsLeaveMore =
    (p : Program) (steps : ℕ) (state : StateIn (text_of p)) (choices more : List Choice)
    → LeavesMore more (run steps (text_of p) state choices) (run steps (text_of p) state (choices ++ more))

abbrev pub DoProgramsLeaveMore : Type 0
DoProgramsLeaveMore =
    (p : Program) (steps : ℕ) (choices more : List Choice)
    → LeavesMore more (run_of (text_of p) choices steps) (run_of (text_of p) (choices ++ more) steps)

-- where integers become ones of another type than `_Bool`, that a type is its own makes no difference to the rules between types (C11 6.3p2, 6.3.1.3)
abbrev pub DoConversionsAgree : Type 0
DoConversionsAgree = (from to : IntegerType) (bits : ℕ) → to.truth ≡ false → bits < 256 ^ from.bytes → integer_as from to bits ≡ as_type from to bits

-- what is lost before roots go and objects die is lost after it, where these are no heap blocks. So `break`, `continue` and `return` need no look of their
-- own: what is lost at their word, when what unfinished expressions hold has gone, is found as the first block is left, at the same word
abbrev pub AreObjects : List Block → List ℕ → Type 0
AreObjects memory [] = Unit {0}
AreObjects memory (number ∷ rest) = (is_heap_block (slice_get memory number) ≡ false) × AreObjects memory rest

abbrev pub DoesLossStay : Type 0
DoesLossStay =
    (memory : List Block) (roots fewer dying : List ℕ) → ((number : ℕ) → Contains fewer number → Contains roots number) → AreObjects memory dying
    → is_lost memory roots ≡ true → is_lost (without_objects dying memory) fewer ≡ true
