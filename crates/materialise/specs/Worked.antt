-- Graphs without a segment, and with its first node as a region, worked out by hand.
use Rattle.std.specs.Prelude.{◌≡◌, ℕ, false, true, List, [], ◌∷◌, ◌++◌, map, replicate, ℤ, pos}
use Rattle.bytes_core.specs.declared.block.BlockKind.TheVariants.{Local, Heap}
use Rattle.graph.specs.declared.edges.HasValue.{HasValue}
use Rattle.graph.specs.declared.object.Object.{Object}
use Rattle.graph.specs.declared.object.Shape.TheVariants.{Region as RegionShape, Segment}
use Rattle.graph.specs.declared.value.Target.TheVariants.{Region, First, Last, Each}
use Rattle.graph.specs.declared.value.Value.TheVariants.{Const, Address}
use Rattle.graph.specs.declared.parts.Parts.{Parts}
use Rattle.graph.specs.Renaming.{numbered}
use Rattle.graph.specs.Whole.{entries_of}
use Rattle.materialise.specs.Dropped.{dropped}
use Rattle.materialise.specs.SplitFirst.{first_nodes}

-- a segment of nodes of eight bytes, each of which leads to the next one; behind it lies value 1
abbrev pub singly : Object
singly = record { size = 8; kind = Heap; live = true; shape = Segment false 0 0 0 0 0 1 1 (record { edges = []; plane = replicate 8 2 }); edges = []; plane = [] }

-- the eight bytes of a variable
abbrev pub holder : List HasValue → ℕ → Object
holder edges class = record { size = 8; kind = Local; live = true; shape = RegionShape; edges = edges; plane = replicate 8 class }

-- a variable holds the address of the first node, at an offset; behind the segment lies 0
abbrev pub held : ℤ → Parts
held offset = entries_of (record {
  objects = singly ∷ holder (record { at = 0; size = 8; value = 0 } ∷ []) 2 ∷ [];
  values = Address 0 offset First ∷ Const 0 8 ∷ [];
  variables = record { variable = 0; object = 1 } ∷ [];
  registers = [];
  ports = [];
  unequal = [];
})

-- the segment is gone
abbrev pub gone : List HasValue → ℕ → ℕ → Parts
gone edges class number = entries_of (record {
  objects = holder edges class ∷ [];
  values = Const number 8 ∷ Const 0 8 ∷ [];
  variables = record { variable = 0; object = 0 } ∷ [];
  registers = [];
  ports = [];
  unequal = [];
})

-- nodes of sixteen bytes, linked both ways as the lists of sys/queue.h are: links back lead to offset 4 of the node before. Behind the segment lies its own last
-- node, at offset 12, and before it the variable's bytes, at offset 0
abbrev pub twofold : Object
twofold = record { size = 16; kind = Heap; live = true; shape = Segment true 8 0 8 4 0 1 2 (record { edges = []; plane = replicate 16 2 }); edges = []; plane = [] }

abbrev pub ringed : Parts
ringed = entries_of (record {
  objects = twofold ∷ holder (record { at = 0; size = 8; value = 0 } ∷ []) 2 ∷ [];
  values = Address 0 (pos 24) First ∷ Address 0 (pos 12) Last ∷ Address 1 (pos 0) Region ∷ [];
  variables = record { variable = 0; object = 1 } ∷ [];
  registers = [];
  ports = [];
  unequal = [];
})

-- the last node is what lies before, moved by 12 - 4, and the first one what lies behind, moved by 24 - 8 more
abbrev pub ring_gone : Parts
ring_gone = entries_of (record {
  objects = holder (record { at = 0; size = 8; value = 0 } ∷ []) 2 ∷ [];
  values = Address 0 (pos 24) Region ∷ Address 0 (pos 8) Region ∷ Address 0 (pos 0) Region ∷ [];
  variables = record { variable = 0; object = 0 } ∷ [];
  registers = [];
  ports = [];
  unequal = [];
})

pub record DroppedRows : Type 0 where
  -- at the place to which links lead the variable holds 0: its bytes have class 0, and no edge
  pub null : numbered (dropped 0 (held (pos 0))) ≡ gone [] 0 0
  -- at another one it holds a number
  pub number : numbered (dropped 0 (held (pos 4))) ≡ gone (record { at = 0; size = 8; value = 0 } ∷ []) 1 4
  -- through the other end
  pub through : numbered (dropped 0 ringed) ≡ ring_gone

-- the first node is a region: the variable holds its address, and it holds that of the first node of the rest, of which there may be none
abbrev pub first_held : ℤ → Parts
first_held offset = entries_of (record {
  objects = singly ∷ holder (record { at = 0; size = 8; value = 0 } ∷ []) 2
      ∷ record { size = 8; kind = Heap; live = true; shape = RegionShape; edges = record { at = 0; size = 8; value = 2 } ∷ []; plane = replicate 8 2 } ∷ [];
  values = Address 2 offset Region ∷ Const 0 8 ∷ Address 0 (pos 0) First ∷ [];
  variables = record { variable = 0; object = 1 } ∷ [];
  registers = [];
  ports = [];
  unequal = [];
})

-- linked both ways: the region holds what lay before the segment, and before the rest lies the region at offset 4. What lies behind is the last node of the rest
abbrev pub ring_first : Parts
ring_first = entries_of (record {
  objects = record { size = 16; kind = Heap; live = true; shape = Segment true 8 0 8 4 0 1 4 (record { edges = []; plane = replicate 16 2 }); edges = []; plane = [] }
      ∷ holder (record { at = 0; size = 8; value = 0 } ∷ []) 2
      ∷ record { size = 16; kind = Heap; live = true; shape = RegionShape; edges = record { at = 0; size = 8; value = 3 } ∷ record { at = 8; size = 8; value = 2 } ∷ []; plane = replicate 16 2 } ∷ [];
  values = Address 2 (pos 24) Region ∷ Address 0 (pos 12) Last ∷ Address 1 (pos 0) Region ∷ Address 0 (pos 8) First ∷ Address 2 (pos 4) Region ∷ [];
  variables = record { variable = 0; object = 1 } ∷ [];
  registers = [];
  ports = [];
  unequal = [];
})

-- two nodes at least, each of which holds its own address, at offset 16, in its last eight bytes; 0 lies before them, and behind
abbrev pub chain : ℕ → ℕ → Object
chain least before =
    record { size = 24; kind = Heap; live = true; shape = Segment true 8 0 8 4 least 1 before (record { edges = record { at = 16; size = 8; value = 2 } ∷ []; plane = replicate 24 2 }); edges = []; plane = [] }

abbrev pub chained : Parts
chained = entries_of (record {
  objects = chain 2 1 ∷ holder (record { at = 0; size = 8; value = 0 } ∷ []) 2 ∷ [];
  values = Address 0 (pos 8) First ∷ Const 0 8 ∷ Address 0 (pos 16) Each ∷ [];
  variables = record { variable = 0; object = 1 } ∷ [];
  registers = [];
  ports = [];
  unequal = [];
})

-- the region holds its own address, and as its link back 0, which has no edge
abbrev pub chain_first : Parts
chain_first = entries_of (record {
  objects = chain 1 5 ∷ holder (record { at = 0; size = 8; value = 0 } ∷ []) 2
      ∷ record {
        size = 24;
        kind = Heap;
        live = true;
        shape = RegionShape;
        edges = record { at = 0; size = 8; value = 4 } ∷ record { at = 16; size = 8; value = 3 } ∷ [];
        plane = replicate 8 2 ++ (replicate 8 0 ++ replicate 8 2);
      } ∷ [];
  values = Address 2 (pos 8) Region ∷ Const 0 8 ∷ Address 0 (pos 16) Each ∷ Address 2 (pos 16) Region ∷ Address 0 (pos 8) First ∷ Address 2 (pos 4) Region ∷ [];
  variables = record { variable = 0; object = 1 } ∷ [];
  registers = [];
  ports = [];
  unequal = [];
})

pub record FirstRows : Type 0 where
  -- a segment that may have no nodes: the graph without it, and the one with a first node
  pub cases : map numbered (first_nodes 0 (held (pos 0))) ≡ gone [] 0 0 ∷ first_held (pos 0) ∷ []
  -- linked both ways, links back at another place, and the other end behind
  pub both : map numbered (first_nodes 0 ringed) ≡ ring_gone ∷ ring_first ∷ []
  -- with own addresses, and two nodes at least
  pub own : map numbered (first_nodes 0 chained) ≡ chain_first ∷ []
