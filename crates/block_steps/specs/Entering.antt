-- Variables that begin to stand (C11 6.2.4p5).
use Rattle.std.specs.Prelude.{◌≡◌, ℕ, ◌+◌, true, false, List, [], ◌∷◌, ◌++◌, length, slice_get, nat_le, nat_lt, Option, None, Some, is_none}
use Rattle.std.specs.List.{filter, list_all}
use Rattle.bytes_core.specs.declared.block.BlockKind.TheVariants.{Local}
use Rattle.graph.specs.declared.object.Object.{Object}
use Rattle.graph.specs.declared.parts.Parts.{Parts}
use Rattle.graph.specs.Maps.{object_at, storage_of}
use Rattle.graph.specs.State.{State}
use Rattle.graph.specs.WellFormed.{are_distinct}
use Rattle.graph.specs.Whole.{IsGraph}
use Rattle.changes.specs.Following.{Leaves}
use Rattle.changes.specs.Parts.{is_among, put, with_object_more}
use Rattle.changes.specs.Posted.{Posted}
use Rattle.block_steps.specs.Blocks.{Makes, new_object, loss_beside}

-- a variable stands for a new block of automatic storage
abbrev pub EntersOne : ℕ → ℕ → State → State → Type 0
EntersOne variable size state next = Makes Local size false (put variable (length state.memory) state.variables) state.registers state next

-- so do these, one after the other, each with its size
abbrev pub Enters : List ℕ → List ℕ → State → State → Type 0
Enters [] sizes state next = Leaves state.memory state.registers state next
Enters (variable ∷ rest) [] state next = ⊥
Enters (variable ∷ rest) (size ∷ sizes) state next = (middle : State) × EntersOne variable size state middle × Enters rest sizes middle next

-- a graph of which the object with a key is the storage of a variable
abbrev pub with_storage : ℕ → ℕ → Parts → Parts
with_storage variable key parts = record parts {
  variables = filter (λ named. nat_lt named.variable variable) parts.variables ++ record { variable = variable; object = key } ∷ filter (λ named. nat_lt variable named.variable) parts.variables;
}

abbrev pub with_entered_one : ℕ → ℕ → Parts → Parts
with_entered_one variable size parts = with_storage variable (length parts.objects) (with_object_more (new_object Local size false) parts)

abbrev pub with_entered : List ℕ → List ℕ → Parts → Parts
with_entered [] sizes parts = parts
with_entered (variable ∷ rest) [] parts = parts
with_entered (variable ∷ rest) (size ∷ sizes) parts = with_entered rest sizes (with_entered_one variable size parts)

-- where no variable begins to stand no block is made
abbrev pub loss_entering : List ℕ → Parts → Option ℕ
loss_entering [] parts = None
loss_entering (variable ∷ rest) parts = loss_beside parts

abbrev pub enter_post : Parts → List ℕ → List ℕ → Posted
enter_post parts which sizes = record { graphs = with_entered which sizes parts ∷ []; kinds = []; loss = loss_entering which parts }

-- the object with a key is the storage of a variable: a new one of this size
pub record HasStorage (parts : Parts) (variable key size : ℕ) : Type 0 where
  pub stored : storage_of parts.variables variable ≡ Some key
  pub object : object_at parts.objects key ≡ Some (new_object Local size false)

-- what is left of a graph: all, and the new variables with their objects, in order
pub record EnterTail (parts : Parts) (which sizes : List ℕ) (after : Parts) : Type 0 where
  pub graph : IsGraph after
  pub ports : after.ports ≡ parts.ports
  pub registers : after.registers ≡ parts.registers
  pub values : after.values ≡ parts.values
  pub unequal : after.unequal ≡ parts.unequal
  pub objects : (key : ℕ) (object : Object) → object_at parts.objects key ≡ Some object → object_at after.objects key ≡ Some object
  pub others : (variable : ℕ) → is_among which variable ≡ false → storage_of after.variables variable ≡ storage_of parts.variables variable
  pub entered : (place variable size : ℕ) → slice_get which place ≡ Some variable → slice_get sizes place ≡ Some size → HasStorage after variable (length parts.objects + place) size

-- the variables may begin to stand: they are distinct, none is named, their sizes are small, and there is one for each
pub record MayEnter (parts : Parts) (which sizes : List ℕ) : Type 0 where
  pub many : length sizes ≡ length which
  pub small : list_all (λ size. nat_le size 65536) sizes ≡ true
  pub distinct : are_distinct which ≡ true
  pub unnamed : list_all (λ variable. is_none (storage_of parts.variables variable)) which ≡ true
