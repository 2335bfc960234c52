-- Runs of the flow machine: how they begin, what they come to, and the faults that they meet.
use Rattle.std.specs.Prelude.{◌≡◌, ℕ, zero, suc, ◌+◌, true, List, [], ◌∷◌, pos, Some, slice_get, if◌then◌else◌}
use Rattle.std.specs.Option.{option_map_or}
use Rattle.cbase.specs.declared.place.Place.{Place}
use Rattle.bytes_core.specs.declared.word.Word.{Word}
use Rattle.bytes_core.specs.declared.word.Word.TheVariants.{Plain, To}
use Rattle.bytes_core.specs.declared.block.BlockKind.TheVariants as storage
use Rattle.bytes_core.specs.declared.block.Block.{Block}
use Rattle.bytes_core.specs.Access.{stored}
use Rattle.flow.specs.declared.flow_graph.Flow.{Flow}
use Rattle.flow.specs.declared.flow_graph.FlowEdge.{FlowEdge}
use Rattle.flow.specs.declared.flow_graph.Variable.{Variable}
use Rattle.flow.specs.declared.flow_graph.Initial.{Initial}
use Rattle.flow.specs.declared.flow_graph.InitialWord.{InitialWord}
use Rattle.flow.specs.declared.flow_graph.InitialWord.TheVariants.{Number, Address}
use Rattle.flow.specs.Holding.{Owned, block_of, put_owned}
use Rattle.flow.specs.InRange.{entry_of}
use Rattle.choices.specs.declared.choice.Choice.{Choice}
use Rattle.flow.specs.Machine.{State, Outcome, Went, Barred, Waits, Ended, Faulted, with_memory, with_new_block, entered, step, step_along}

-- a state before anything is made
abbrev pub blank : ℕ → State
blank point = record { point = point; frame = record { variables = []; registers = [] }; callers = []; statics = []; memory = []; outer = [] }

-- goes on from what was made
abbrev pub then_go : Outcome → (State → List Choice → Outcome) → Outcome
then_go (Went state choices) onward = onward state choices
then_go Barred onward = Barred
then_go Waits onward = Waits
then_go Ended onward = Ended
then_go (Faulted kind place) onward = Faulted kind place

-- the static variables are made, in order, each with a choice of its own; the first is numbered `number`
abbrev pub with_statics : ℕ → List Variable → State → List Choice → Outcome
with_statics number [] state choices = Went state choices
with_statics number (variable ∷ rest) state choices =
    if variable.fixed
    then with_new_block storage.Static variable.size true state choices
    (λ after block more. with_statics (number + 1) rest
    (record after { statics = put_owned (record { variable = number; block = block }) after.statics }) more)
    else with_statics (number + 1) rest state choices

-- what a scalar holds at the start, once static variables have their blocks
abbrev pub initial_word : List Owned → InitialWord → Word
initial_word statics (Number number) = Plain number
initial_word statics (Address variable offset) = option_map_or (λ block. To block offset) (block_of statics variable) (Plain 0)

-- the memory after a scalar of a static variable has got what it holds at the start
abbrev pub with_initial : List Owned → Initial → List Block → List Block
with_initial statics initial memory =
    option_map_or (λ block. stored memory (To block (pos initial.at)) initial.size (initial_word statics initial.word))
    (block_of statics initial.variable) memory

abbrev pub with_initials : List Owned → List Initial → List Block → List Block
with_initials statics [] memory = memory
with_initials statics (first ∷ rest) memory = with_initials statics rest (with_initial statics first memory)

-- the parameters of a function
abbrev pub parameters_of : Flow → ℕ → List ℕ
parameters_of flow function = option_map_or (λ found. found.parameters) (slice_get flow.functions function) []

-- the start of a program's run: static variables are made, zero but for what they hold at the start, and then main's
-- parameters are, with any contents
abbrev pub start : Flow → List Choice → Outcome
start flow choices =
    then_go (with_statics 0 flow.variables (blank (entry_of flow flow.main)) choices)
    (λ state more. entered flow (parameters_of flow flow.main)
    (with_memory (with_initials state.statics flow.initial state.memory) state) more)

-- what stands after at most so many steps, with the choices taken in order
abbrev pub run : ℕ → Flow → State → List Choice → Outcome
run zero flow state choices = Went state choices
run (suc steps) flow state choices = then_go (step flow state choices) (run steps flow)

-- some run of the program comes to a fault of this kind at this place
pub record RunFaults (flow : Flow) (kind : ℕ) (place : Place) : Type 0 where
  pub choices : List Choice
  pub steps : ℕ
  pub faults : then_go (start flow choices) (run steps flow) ≡ Faulted kind place

-- with some choices the edge of this number leads from one state to another
pub record StepsTo (flow : Flow) (number : ℕ) (before after : State) : Type 0 where
  pub edge : FlowEdge
  pub stands : slice_get flow.edges number ≡ Some edge
  pub choices : List Choice
  pub rest : List Choice
  pub goes : step_along flow edge before choices ≡ Went after rest

-- with some choices the edge of this number meets a fault of this kind in a state, at its place
pub record FaultsAlong (flow : Flow) (number : ℕ) (before : State) (kind : ℕ) : Type 0 where
  pub edge : FlowEdge
  pub stands : slice_get flow.edges number ≡ Some edge
  pub choices : List Choice
  pub faults : step_along flow edge before choices ≡ Faulted kind edge.place
