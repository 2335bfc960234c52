-- States of the machine, and what a step comes to.
--
-- A state is a list of things to do, the operands that unfinished expressions hold, the objects of the function that runs and of its callers, the
-- objects that live as long as the program runs, and the memory. A step takes the first thing off the list: a tree makes room for its parts, and each
-- other thing does what it says. Each expression that is done leaves one operand, its value or its address. One without a value leaves 0, which holds no
-- block.
use Rattle.std.specs.Prelude.{ℕ, Bool, false, List, [], ◌∷◌, ◌++◌, map, nat_eq, Option, None, Some, if◌then◌else◌}
use Rattle.std.specs.List.{flat_map}
use Rattle.cbase.specs.declared.place.Place.{Place}
use Rattle.bytes_core.specs.declared.block.Block.{Block}
use Rattle.bytes_core.specs.declared.word.Word.{Word}
use Rattle.bytes_core.specs.declared.word.Word.TheVariants.{Plain, To}
use Rattle.choices.specs.declared.choice.Choice.{Choice}
use Rattle.c_machine.specs.declared.task.Task.{Task}
use Rattle.c_machine.specs.declared.variable.Variable.{Variable}
use Rattle.c_machine.specs.Text.{Text}

-- what is to be done in a program
abbrev pub TaskIn : Text → Type 0
TaskIn t = Task t.Expr t.Stmt t.Init

-- the objects of a block, in the order in which they were made; and those of a function, those of the innermost block first
abbrev pub Scope : Type 0
Scope = List Variable

abbrev pub Frame : Type 0
Frame = List Scope

-- the first thing to do and the operand that was computed last stand first, and the latest caller
pub record State (E S I : Type 0) : Type 0 where
  pub tasks : List (Task E S I)
  pub operands : List Word
  pub frame : Frame
  pub callers : List Frame
  pub statics : Scope
  pub memory : List Block

-- what a step or a run comes to
pub data Outcome (E S I : Type 0) : Type 0 where
  -- the state that it leaves, and the choices that are not taken yet
  Went : (next : State E S I) (choices : List Choice) → Outcome E S I
  -- a choice is asked for, and there is none left
  Waits : Outcome E S I
  -- the run is over, with no fault
  Ended : Outcome E S I
  -- the run is over with a fault of this kind
  Faulted : (kind : ℕ) (place : Place) → Outcome E S I
  -- no program of C comes there
  Stuck : Outcome E S I

-- those of a program
abbrev pub StateIn : Text → Type 0
StateIn t = State t.Expr t.Stmt t.Init

abbrev pub OutcomeIn : Text → Type 0
OutcomeIn t = Outcome t.Expr t.Stmt t.Init

-- a state with more to do first, with one more operand, with other operands, or with another memory
abbrev pub doing : {E S I : Type 0} → List (Task E S I) → State E S I → State E S I
doing tasks state = record state { tasks = tasks ++ state.tasks }

abbrev pub with_operand : {E S I : Type 0} → Word → State E S I → State E S I
with_operand word state = record state { operands = word ∷ state.operands }

abbrev pub with_memory : {E S I : Type 0} → List Block → State E S I → State E S I
with_memory memory state = record state { memory = memory }

-- goes on with the operand that was computed last
abbrev pub popped_of : {E S I : Type 0} → List Word → State E S I → (Word → State E S I → Outcome E S I) → Outcome E S I
popped_of [] state onward = Stuck
popped_of (word ∷ operands) state onward = onward word (record state { operands = operands })

abbrev pub popped : {E S I : Type 0} → State E S I → (Word → State E S I → Outcome E S I) → Outcome E S I
popped state onward = popped_of state.operands state onward

-- goes on, or meets a fault at the place
abbrev pub unless_fault : {E S I : Type 0} → Option ℕ → Place → Outcome E S I → Outcome E S I
unless_fault None place onward = onward
unless_fault (Some kind) place onward = Faulted kind place

-- the block of an object
abbrev pub is_named : Option ℕ → ℕ → Bool
is_named None token = false
is_named (Some name) token = nat_eq name token

abbrev pub block_in : Scope → ℕ → Option ℕ
block_in [] token = None
block_in (variable ∷ rest) token = if is_named variable.token token then Some variable.block else block_in rest token

abbrev pub objects_of : Frame → Scope
objects_of frame = flat_map (λ scope. scope) frame

abbrev pub block_of : {E S I : Type 0} → State E S I → ℕ → Option ℕ
block_of state token = block_in (objects_of state.frame ++ state.statics) token

-- the blocks of objects, and those that operands lead to
abbrev pub blocks_of : Scope → List ℕ
blocks_of scope = map (λ variable. variable.block) scope

abbrev pub led_to : List Word → List ℕ
led_to [] = []
led_to (Plain number ∷ rest) = led_to rest
led_to (To block offset ∷ rest) = block ∷ led_to rest

-- where chains of stored pointers start: at the live objects of all functions that run, at those that live as long as the program runs, and at what
-- unfinished expressions hold
abbrev pub roots : {E S I : Type 0} → State E S I → List ℕ
roots state =
    blocks_of (objects_of state.frame)
    ++ (blocks_of (flat_map objects_of state.callers) ++ (blocks_of state.statics ++ led_to state.operands))
