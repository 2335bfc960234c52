-- A graph that meets the premises of the laws of graphs: a variable leads to a list of two nodes, two registers hold numbers that differ, a
-- third one the address of a dead object, and nothing holds a number and another dead object.
use Rattle.std.specs.Prelude.{◌≡◌, ℕ, ◌+◌, ◌-◌, false, true, [], ◌∷◌, ◌++◌, length, replicate, nat_eq, nat_lt, pos, Option, None, Some, slice_get, if◌then◌else◌}
use Rattle.bytes_core.specs.declared.block.Block.{Block}
use Rattle.bytes_core.specs.declared.block.BlockKind.TheVariants.{Local, Heap, Static}
use Rattle.bytes_core.specs.declared.byte.Byte.{Byte}
use Rattle.bytes_core.specs.declared.byte.Byte.TheVariants.{Num}
use Rattle.bytes_core.specs.declared.word.Word.{Word}
use Rattle.bytes_core.specs.declared.word.Word.TheVariants.{Plain}
use Rattle.graph.specs.declared.contents.Contents.{Contents}
use Rattle.graph.specs.declared.object.Object.{Object}
use Rattle.graph.specs.declared.object.Shape.TheVariants.{Region as RegionShape, Segment}
use Rattle.graph.specs.declared.parts.Parts.{Parts}
use Rattle.graph.specs.declared.value.Target.TheVariants.{Region, First}
use Rattle.graph.specs.declared.value.Value.TheVariants.{Const, Number, Address}
use Rattle.graph.specs.Choices.{IsChoice, IsMadeWith}
use Rattle.graph.specs.DeadBlocks.{ChangesAbsent}
use Rattle.graph.specs.Laws.{IsRenaming}
use Rattle.graph.specs.Meaning.{HasBlocks}
use Rattle.graph.specs.Numbers.{AreSomeNumbers, AreNumbers, AreAmong, IsMadeWithNumbers, HasRoom}
use Rattle.graph.specs.State.{State, IsState}
use Rattle.graph.specs.Unheld.{MayGo, with_only}
use Rattle.graph.specs.Whole.{IsGraph, entries_of}

-- eight bytes that hold an address
abbrev pub holder : Object
holder = record { size = 8; kind = Local; live = true; shape = RegionShape; edges = record { at = 0; size = 8; value = 1 } ∷ []; plane = replicate 8 2 }

-- two nodes of sixteen bytes, of which the first eight lead to the next node
abbrev pub list_of_two : Object
list_of_two = record {
  size = 16;
  kind = Heap;
  live = true;
  shape = Segment false 0 0 0 0 2 0 0 (record { edges = []; plane = replicate 8 2 ++ replicate 8 1 });
  edges = [];
  plane = [];
}

abbrev pub dead_object : Object
dead_object = record { size = 8; kind = Heap; live = false; shape = RegionShape; edges = []; plane = [] }

abbrev pub contents : Contents
contents = record {
  objects = holder ∷ list_of_two ∷ dead_object ∷ dead_object ∷ [];
  values = Const 0 8 ∷ Address 1 (pos 0) First ∷ Number 4 ∷ Number 4 ∷ Address 2 (pos 0) Region ∷ Number 8 ∷ [];
  variables = record { variable = 0; object = 0 } ∷ [];
  registers = record { register = 0; value = 2 } ∷ record { register = 1; value = 3 } ∷ record { register = 2; value = 4 } ∷ [];
  ports = [];
  unequal = record { left = 2; right = 3 } ∷ [];
}

abbrev pub example : Parts
example = entries_of contents

-- a number that is given for one of its values, beside its constant
abbrev pub known : ℕ → Option ℕ
known key = if nat_eq key 0 then Some 0 else (if nat_eq key 2 then Some 7 else None)

abbrev pub null_word : ℕ → Word
null_word key = Plain 0

abbrev pub zero_byte : ℕ → ℕ → Byte
zero_byte key place = Num 0

-- it stands for a state with this number, and with room for one more block
pub record HasState : Type 0 where
  pub number : ℕ → ℕ
  pub numbers : AreNumbers example number
  pub among : AreAmong known number
  pub state : State
  pub is : IsState state
  pub made : IsMadeWithNumbers example number null_word zero_byte state
  pub room : HasRoom state.memory

-- numbers from a first one on go up by one, and down again
abbrev pub raised : ℕ → ℕ → ℕ
raised count number = if nat_lt number count then number else number + 1

abbrev pub lowered : ℕ → ℕ → ℕ
lowered count number = if nat_lt number count then number else number - 1

-- a block of eight zeros, and another one behind it, which lives or is hidden
abbrev pub zeros : Object
zeros = record { size = 8; kind = Local; live = true; shape = RegionShape; edges = []; plane = replicate 8 0 }

abbrev pub front : Block
front = record { base = 16; kind = Local; live = true; bytes = replicate 8 (Num 0) }

abbrev pub behind : Block
behind = record { base = 32; kind = Heap; live = true; bytes = Num 1 ∷ [] }

abbrev pub hidden : Block
hidden = record behind { live = false; kind = Static }

pub record MeetsPremises : Type 0 where
  -- it is a graph, so that it is well formed, within the limits, and each key is there
  pub graph : IsGraph example
  -- other keys
  pub renaming : IsRenaming (λ key. key + 1) (λ key. key + 1) example
  -- another memory beside an object's own block
  pub own_block : HasBlocks (front ∷ behind ∷ []) zeros null_word (λ key. None) (0 ∷ [])
  pub kept_block : (place number : ℕ) → slice_get (0 ∷ []) place ≡ Some number → slice_get (front ∷ hidden ∷ []) number ≡ slice_get (front ∷ behind ∷ []) number
  -- what nothing holds
  pub unheld : MayGo (λ key. nat_lt key 5) (λ key. nat_lt key 3) example
  pub fewer_objects : length (with_only (λ key. nat_lt key 5) (λ key. nat_lt key 3) example).objects ≡ 3
  pub fewer_values : length (with_only (λ key. nat_lt key 5) (λ key. nat_lt key 3) example).values ≡ 5
  -- what may be chosen
  pub choice : IsChoice example null_word zero_byte
  pub numbers : AreSomeNumbers example known
  -- a state, with a dead object of which only its number is known, and with room for one more block
  pub stands : HasState
  -- other numbers for blocks that are not there
  pub absent : (count : ℕ) → ChangesAbsent count (raised count) (lowered count)
  -- a segment with a first node to be split off
  pub nodes : (state : State) (made : IsMadeWith example null_word zero_byte state) → length (made.given.blocks 1) ≡ 2
