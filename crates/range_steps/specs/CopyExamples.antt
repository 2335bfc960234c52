-- What copies between a few objects come to.
--
-- Object 0 is a local one of 24 bytes: an address stands in its bytes 0 to 7, and a number in its bytes 8 to 11; its bytes 12 to 15 are
-- numbers of which no edge tells, and the others are 0. Object 1 is one of the heap, of 16 bytes: an address stands in its bytes 4 to 11,
-- and the others are 0. Object 2 is dead. Register 0 leads to the first byte of object 0, 1 to its byte 8, 2 to its byte 16, 3 to the first
-- byte of object 1 and 4 to the dead object; 5 holds null, 6 some number of eight bytes, and 7 and 8 hold each any word. A variable names
-- object 0.
use Rattle.std.specs.Prelude.{◌≡◌, ℕ, true, false, List, [], ◌∷◌, ◌++◌, map, replicate, pos, None, Some}
use Rattle.bytes_core.specs.declared.block.BlockKind.TheVariants.{Local, Heap}
use Rattle.graph.specs.declared.contents.Contents.{Contents}
use Rattle.graph.specs.declared.edges.HasValue.{HasValue}
use Rattle.graph.specs.declared.object.Object.{Object}
use Rattle.graph.specs.declared.object.Shape.TheVariants.{Region as RegionShape}
use Rattle.graph.specs.declared.parts.Held.{Held}
use Rattle.graph.specs.declared.parts.Parts.{Parts}
use Rattle.graph.specs.declared.value.Target.TheVariants.{Region}
use Rattle.graph.specs.declared.value.Value.TheVariants.{Const, Number, Any, Address}
use Rattle.graph.specs.Whole.{IsGraph, entries_of}
use Rattle.changes.specs.Parts.{without_registers}
use Rattle.changes.specs.Posted.{Posted}
use Rattle.range_steps.specs.Copying.{copy_post}

abbrev pub edge : ℕ → ℕ → ℕ → HasValue
edge at size value = record { at = at; size = size; value = value }

abbrev pub first_object : List HasValue → List ℕ → Object
first_object edges plane = record { size = 24; kind = Local; live = true; shape = RegionShape; edges = edges; plane = plane }

abbrev pub second_object : List HasValue → List ℕ → Object
second_object edges plane = record { size = 16; kind = Heap; live = true; shape = RegionShape; edges = edges; plane = plane }

abbrev pub first : Object
first = first_object (edge 0 8 4 ∷ edge 8 4 9 ∷ []) (replicate 8 2 ++ (replicate 8 1 ++ replicate 8 0))

abbrev pub second : Object
second = second_object (edge 4 8 4 ∷ []) (replicate 4 0 ++ (replicate 8 2 ++ replicate 4 0))

abbrev pub held : ℕ → Held
held register = record { register = register; value = register }

abbrev pub contents_of : Object → Object → Contents
contents_of one other = record {
  objects = one ∷ other ∷ record { size = 8; kind = Heap; live = false; shape = RegionShape; edges = []; plane = [] } ∷ [];
  values = Address 0 (pos 0) Region ∷ Address 0 (pos 8) Region ∷ Address 0 (pos 16) Region ∷ Address 1 (pos 0) Region ∷ Address 2 (pos 0) Region ∷ Const 0 8 ∷ Number 8 ∷ Any ∷ Any ∷ Number 4 ∷ [];
  variables = record { variable = 0; object = 0 } ∷ [];
  registers = map held (0 ∷ 1 ∷ 2 ∷ 3 ∷ 4 ∷ 5 ∷ 6 ∷ 7 ∷ 8 ∷ []);
  ports = [];
  unequal = [];
}

abbrev pub graph_of : Object → Object → Parts
graph_of one other = entries_of (contents_of one other)

abbrev pub example : Parts
example = graph_of first second

-- the post with one graph, in which the two objects are these, and with these kinds alone
abbrev pub becomes : ℕ → ℕ → Object → Object → Posted
becomes to from one other = record { graphs = without_registers (to ∷ from ∷ []) (graph_of one other) ∷ []; kinds = []; loss = None }

abbrev pub becomes_with_loss : ℕ → ℕ → Object → Object → Posted
becomes_with_loss to from one other = record { graphs = without_registers (to ∷ from ∷ []) (graph_of one other) ∷ []; kinds = []; loss = Some 3 }

abbrev pub faults : List ℕ → Posted
faults kinds = record { graphs = []; kinds = kinds; loss = None }

abbrev pub faults_anywhere : List ℕ → Posted
faults_anywhere kinds = record { graphs = []; kinds = kinds; loss = Some 4 }

pub record AreCopies : Type 0 where
  -- these make a graph
  pub graph : IsGraph example
  -- a copy of no byte is no access
  pub nothing : copy_post example 5 4 0 true ≡ becomes 5 4 first second
  -- edges and classes go along, and an edge that is covered whole goes without loss
  pub whole : copy_post example 3 0 12 true ≡ becomes 3 0 first (second_object (edge 0 8 4 ∷ edge 8 4 9 ∷ []) (replicate 8 2 ++ (replicate 4 1 ++ replicate 4 0)))
  -- of four bytes no edge tells, and they are no zeros
  pub bare : copy_post example 3 0 16 true ≡ becomes_with_loss 3 0 first (second_object (edge 0 8 4 ∷ edge 8 4 9 ∷ []) (replicate 8 2 ++ replicate 8 1))
  -- half of an address is copied: its bytes keep their class
  pub cut_source : copy_post example 3 0 4 true ≡ becomes_with_loss 3 0 first (second_object (edge 4 8 4 ∷ []) (replicate 12 2 ++ replicate 4 0))
  -- half of an address is written over: the other half keeps its class
  pub cut_target : copy_post example 3 2 8 true ≡ becomes_with_loss 3 2 first (second_object [] (replicate 8 0 ++ (replicate 4 2 ++ replicate 4 0)))
  -- zeros have no edge
  pub zeros : copy_post example 0 2 8 true ≡ becomes 0 2 (first_object (edge 8 4 9 ∷ []) (replicate 8 0 ++ (replicate 8 1 ++ replicate 8 0))) second
  -- all is read before it is written: the number of bytes 8 to 11 stands in bytes 16 to 19 then
  pub upward : copy_post example 1 0 12 false ≡ becomes 1 0 (first_object (edge 0 8 4 ∷ edge 8 8 4 ∷ edge 16 4 9 ∷ []) (replicate 16 2 ++ (replicate 4 1 ++ replicate 4 0))) second
  pub downward : copy_post example 0 1 12 false ≡ becomes_with_loss 0 1 (first_object (edge 0 4 9 ∷ []) (replicate 8 1 ++ (replicate 4 0 ++ (replicate 4 1 ++ replicate 8 0)))) second
  -- ranges that must be disjoint may touch, and share no byte
  pub overlaps : copy_post example 1 0 12 true ≡ faults (8 ∷ [])
  pub touches : copy_post example 1 0 8 true ≡ becomes 1 0 (first_object (edge 0 8 4 ∷ edge 8 8 4 ∷ []) (replicate 16 2 ++ replicate 8 0)) second
  -- the source is looked at first, and then the target, and then whether they overlap
  pub dead_source : copy_post example 5 4 8 true ≡ faults (3 ∷ [])
  pub null_target : copy_post example 5 3 8 true ≡ faults (1 ∷ [])
  pub past_source : copy_post example 5 2 9 true ≡ faults (2 ∷ [])
  pub past_target : copy_post example 2 1 12 true ≡ faults (2 ∷ [])
  pub number_target : copy_post example 6 0 8 true ≡ faults (1 ∷ 4 ∷ [])
  pub number_source : copy_post example 7 6 8 true ≡ faults (1 ∷ 4 ∷ [])
  -- through any word: kind 8 where both may be right
  pub any_source : copy_post example 3 7 8 true ≡ faults_anywhere (1 ∷ 2 ∷ 3 ∷ 4 ∷ 8 ∷ [])
  pub any_source_moved : copy_post example 3 7 8 false ≡ faults_anywhere (1 ∷ 2 ∷ 3 ∷ 4 ∷ [])
  pub any_to_dead : copy_post example 4 7 8 true ≡ faults_anywhere (1 ∷ 2 ∷ 3 ∷ 4 ∷ [])
  pub any_target : copy_post example 7 0 24 true ≡ faults_anywhere (1 ∷ 2 ∷ 3 ∷ 4 ∷ 8 ∷ [])
  pub both_any : copy_post example 7 8 24 true ≡ faults_anywhere (1 ∷ 2 ∷ 3 ∷ 4 ∷ 8 ∷ [])
  pub too_long : copy_post example 7 8 25 true ≡ faults_anywhere (1 ∷ 2 ∷ 3 ∷ 4 ∷ [])
  pub same_any : copy_post example 7 7 24 true ≡ faults_anywhere (1 ∷ 2 ∷ 3 ∷ 4 ∷ 8 ∷ [])
