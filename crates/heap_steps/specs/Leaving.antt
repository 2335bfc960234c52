-- Variables whose scope is left: their storage ends (C11 6.2.4p2, 6.2.4p5), and lost blocks are looked for.
use Rattle.std.specs.Prelude.{◌≡◌, ◌≢◌, ℕ, ◌+◌, ◌≤◌, ◌<◌, true, not, List, [], ◌∷◌, length, slice_get, nat_eq, Option, None, Some, is_some, IsTrue, ◌⊎◌}
use Rattle.std.specs.List.{filter, list_all}
use Rattle.bytes_core.specs.declared.byte.Byte.{Byte}
use Rattle.bytes_core.specs.declared.block.Block.{Block}
use Rattle.bytes_core.specs.declared.block.BlockKind.{BlockKind}
use Rattle.bytes_core.specs.Placement.{can_be_placed}
use Rattle.bytes_core.specs.Release.{without}
use Rattle.graph.specs.declared.object.Object.{Object}
use Rattle.graph.specs.declared.parts.Parts.{Parts}
use Rattle.graph.specs.Maps.{object_at, storage_of}
use Rattle.graph.specs.State.{State}
use Rattle.graph.specs.WellFormed.{are_distinct}
use Rattle.graph.specs.Whole.{IsGraph}
use Rattle.changes.specs.Dying.{died}
use Rattle.changes.specs.Following.{Leaves}
use Rattle.changes.specs.Parts.{emptied, is_among, with_object}
use Rattle.changes.specs.Posted.{Posted}
use Rattle.heap_steps.specs.Looking.{looked}
use Rattle.heap_steps.specs.Steps.{LosesNone, LosesSome}

-- the memory after a block has died, if it is one
abbrev pub without_block : Option ℕ → List Block → List Block
without_block None memory = memory
without_block (Some number) memory = without memory number (slice_get memory number)

-- a variable stands no more, and its block is dead
pub record EndsOne (variable : ℕ) (state next : State) : Type 0 where
  pub memory : next.memory ≡ without_block (state.variables variable) state.memory
  pub variables : (at : ℕ) → next.variables at ≡ emptied (variable ∷ []) state.variables at
  pub registers : (register : ℕ) → next.registers register ≡ state.registers register
  pub ports : next.ports ≡ state.ports
  pub roots : next.roots ≡ state.roots

-- so it is of these, one after the other
abbrev pub EndsScope : List ℕ → State → State → Type 0
EndsScope [] state next = Leaves state.memory state.registers state next
EndsScope (variable ∷ rest) state next = (middle : State) × EndsOne variable state middle × EndsScope rest middle next

-- the scope of these variables is left, and no block is lost
pub record LeavesScope (which : List ℕ) (state next : State) : Type 0 where
  pub ends : EndsScope which state next
  pub none : LosesNone next

pub record FaultsLeaving (which : List ℕ) (kind : ℕ) (state : State) : Type 0 where
  pub next : State
  pub ends : EndsScope which state next
  pub some : LosesSome kind next

-- one more live block, wherever it is asked to lie, of at most 65,536 bytes
abbrev pub CanLieAt : List Block → ℕ → Type 0
CanLieAt memory base = (kind : BlockKind) (bytes : List Byte) → length bytes ≤ 65536 → IsTrue (can_be_placed memory (record { base = base; kind = kind; live = true; bytes = bytes }))

-- so many live blocks more of at most 65,536 bytes can be put into the memory
pub record HasRoomFor (count : ℕ) (memory : List Block) : Type 0 where
  pub bases : ℕ → ℕ
  pub place : (number : ℕ) → number < count → CanLieAt memory (bases number)
  pub apart : (one other : ℕ) → one < other → other < count → (bases one + 65536 ≤ bases other) ⊎ (bases other + 65536 ≤ bases one)

-- Graphs.

abbrev pub without_variable : ℕ → Parts → Parts
without_variable variable parts = record parts { variables = filter (λ named. not (nat_eq variable named.variable)) parts.variables }

-- a graph in which an object is dead
abbrev pub with_dead : ℕ → Option Object → Parts → Parts
with_dead key None parts = parts
with_dead key (Some object) parts = with_object key (died object) parts

abbrev pub with_dead_at : Option ℕ → Parts → Parts
with_dead_at None parts = parts
with_dead_at (Some key) parts = with_dead key (object_at parts.objects key) parts

abbrev pub without_one : ℕ → Parts → Parts
without_one variable parts = with_dead_at (storage_of parts.variables variable) (without_variable variable parts)

abbrev pub left : List ℕ → Parts → Parts
left [] parts = parts
left (variable ∷ rest) parts = left rest (without_one variable parts)

abbrev pub leave_post : Parts → List ℕ → Posted
leave_post parts which = looked (left which parts)

-- the variables are distinct, and the graph names each
pub record MayLeave (parts : Parts) (which : List ℕ) : Type 0 where
  pub distinct : are_distinct which ≡ true
  pub named : list_all (λ variable. is_some (storage_of parts.variables variable)) which ≡ true

-- what is left of a graph: all but the variables, and of their objects that they were there
pub record LeaveTail (parts : Parts) (which : List ℕ) (after : Parts) : Type 0 where
  pub graph : IsGraph after
  pub ports : after.ports ≡ parts.ports
  pub registers : after.registers ≡ parts.registers
  pub values : after.values ≡ parts.values
  pub unequal : after.unequal ≡ parts.unequal
  pub variables : (variable : ℕ) → storage_of after.variables variable ≡ emptied which (storage_of parts.variables) variable
  -- an object that is the storage of none of the variables stays
  pub objects : (key : ℕ) (object : Object) → object_at parts.objects key ≡ Some object → ((variable : ℕ) → is_among which variable ≡ true → storage_of parts.variables variable ≢ Some key) →
      object_at after.objects key ≡ Some object
  pub dead : (variable key : ℕ) (object : Object) → is_among which variable ≡ true → storage_of parts.variables variable ≡ Some key → object_at parts.objects key ≡ Some object →
      object_at after.objects key ≡ Some (died object)
