-- What releases come to in one graph.
--
-- Object 0 is a local one of 24 bytes: a number stands in its bytes 0 to 7, and the address of object 1 in its bytes 8 to 15; the others are
-- 0. Object 1 is one of the heap, whose eight bytes hold the same number. Object 2 is a dead one of the heap. Register 0 leads to the first byte of
-- object 1, and 1 to its second one; 2 and 3 lead so to object 2. Register 4 holds the number that stands in the objects, and so does 10; 5
-- leads to object 0, 6 holds null, 7 the number 16, and 8 any word. Register 9 holds a number that is not 0, as a pair says. Two more pairs say that the
-- number in the objects is not 16, and not another number. A variable names object 0.
use Rattle.std.specs.Prelude.{◌≡◌, ℕ, true, false, List, [], ◌∷◌, ◌++◌, replicate, pos, None, Some}
use Rattle.bytes_core.specs.declared.block.BlockKind.TheVariants.{Local, Heap}
use Rattle.graph.specs.declared.contents.Contents.{Contents}
use Rattle.graph.specs.declared.edges.HasValue.{HasValue}
use Rattle.graph.specs.declared.object.Object.{Object}
use Rattle.graph.specs.declared.object.Shape.TheVariants.{Region as RegionShape}
use Rattle.graph.specs.declared.parts.Held.{Held}
use Rattle.graph.specs.declared.parts.Pair.{Pair}
use Rattle.graph.specs.declared.parts.Parts.{Parts}
use Rattle.graph.specs.declared.value.Target.TheVariants.{Region}
use Rattle.graph.specs.declared.value.Value.{Value}
use Rattle.graph.specs.declared.value.Value.TheVariants.{Const, Number, Any, Address}
use Rattle.graph.specs.Whole.{IsGraph, entries_of}
use Rattle.changes.specs.Parts.{without_registers}
use Rattle.changes.specs.Posted.{fault_only}
use Rattle.block_steps.specs.Releasing.{only_graph, release_post}

abbrev pub edge : ℕ → ℕ → HasValue
edge at value = record { at = at; size = 8; value = value }

abbrev pub local_object : List HasValue → List ℕ → Object
local_object edges plane = record { size = 24; kind = Local; live = true; shape = RegionShape; edges = edges; plane = plane }

abbrev pub heap_object : List HasValue → List ℕ → Object
heap_object edges plane = record { size = 8; kind = Heap; live = true; shape = RegionShape; edges = edges; plane = plane }

abbrev pub dead_object : Object
dead_object = record { size = 8; kind = Heap; live = false; shape = RegionShape; edges = []; plane = [] }

abbrev pub held : ℕ → ℕ → Held
held register value = record { register = register; value = value }

abbrev pub pair : ℕ → ℕ → Pair
pair left right = record { left = left; right = right }

abbrev pub values : List Value
values =
    Address 1 (pos 0) Region ∷ Address 1 (pos 1) Region ∷ Address 2 (pos 0) Region ∷ Address 2 (pos 1) Region ∷ Number 8 ∷ Address 0 (pos 0) Region ∷ Const 0 8 ∷ Const 16 8 ∷ Any ∷ Number 8
    ∷ Number 8 ∷ []

-- the graph in which objects 0 and 1 are these; the number in them has this key
abbrev pub contents_of : Object → Object → List Value → ℕ → List Pair → Contents
contents_of one other values number unequal = record {
  objects = one ∷ other ∷ dead_object ∷ [];
  values = values;
  variables = record { variable = 0; object = 0 } ∷ [];
  registers = held 0 0 ∷ held 1 1 ∷ held 2 2 ∷ held 3 3 ∷ held 4 number ∷ held 5 5 ∷ held 6 6 ∷ held 7 7 ∷ held 8 8 ∷ held 9 9 ∷ held 10 number ∷ [];
  ports = number ∷ [];
  unequal = unequal;
}

abbrev pub one : Object
one = local_object (edge 0 4 ∷ edge 8 0 ∷ []) (replicate 8 1 ++ (replicate 8 2 ++ replicate 8 0))

abbrev pub other : Object
other = heap_object (edge 0 4 ∷ []) (replicate 8 1)

abbrev pub contents : Contents
contents = contents_of one other values 4 (pair 9 6 ∷ pair 4 10 ∷ pair 4 7 ∷ [])

abbrev pub example : Parts
example = entries_of contents

-- object 1 is dead
abbrev pub freed : Parts
freed = entries_of (contents_of one dead_object values 4 (pair 9 6 ∷ pair 4 10 ∷ pair 4 7 ∷ []))

-- the number in the objects is 0: it is a value more
abbrev pub nulled : Parts
nulled =
    entries_of
    (contents_of (local_object (edge 8 0 ∷ []) (replicate 8 0 ++ (replicate 8 2 ++ replicate 8 0))) (heap_object [] (replicate 8 0)) (values ++ Const 0 8 ∷ []) 11 (pair 9 6 ∷ pair 11 10 ∷ []))

pub record AreReleases : Type 0 where
  -- these make a graph
  pub graph : IsGraph example
  pub null : release_post example 6 ≡ only_graph (without_registers (6 ∷ []) example)
  pub plain : release_post example 7 ≡ fault_only 6
  pub live : release_post example 0 ≡ only_graph (without_registers (0 ∷ []) freed)
  pub second_byte : release_post example 1 ≡ fault_only 6
  pub twice : release_post example 2 ≡ fault_only 5
  pub second_byte_twice : release_post example 3 ≡ fault_only 6
  pub local : release_post example 5 ≡ fault_only 6
  -- where the number is 0 no edge holds it, and it is not 16
  pub number : release_post example 4 ≡ record { graphs = without_registers (4 ∷ []) nulled ∷ []; kinds = 6 ∷ []; loss = None }
  pub not_null : release_post example 9 ≡ fault_only 6
  pub any : release_post example 8 ≡ record { graphs = []; kinds = 5 ∷ 6 ∷ []; loss = Some 4 }
