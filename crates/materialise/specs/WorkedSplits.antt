-- Graphs in which a node of a segment is a region, worked out by hand.
use Rattle.std.specs.Prelude.{◌≡◌, ℕ, false, true, List, [], ◌∷◌, replicate, pos}
use Rattle.bytes_core.specs.declared.block.BlockKind.TheVariants.{Heap}
use Rattle.graph.specs.declared.edges.HasValue.{HasValue}
use Rattle.graph.specs.declared.object.Object.{Object}
use Rattle.graph.specs.declared.object.Shape.{Shape}
use Rattle.graph.specs.declared.object.Shape.TheVariants.{Region as RegionShape, Segment}
use Rattle.graph.specs.declared.value.Target.TheVariants.{Region, First, Last, Each}
use Rattle.graph.specs.declared.value.Value.{Value}
use Rattle.graph.specs.declared.value.Value.TheVariants.{Const, Address}
use Rattle.graph.specs.declared.parts.Parts.{Parts}
use Rattle.graph.specs.Whole.{entries_of}
use Rattle.materialise.specs.SplitFirst.{split_first}
use Rattle.materialise.specs.SplitLast.{split_last}
use Rattle.materialise.specs.Worked.{holder, held, ringed}

-- an allocated object of this size and shape; nothing is said of its own bytes
abbrev pub allocated : ℕ → Shape → Object
allocated size shape = record { size = size; kind = Heap; live = true; shape = shape; edges = []; plane = [] }

-- a region of so many bytes of class 2
abbrev pub alone : ℕ → List HasValue → Object
alone size edges = record { size = size; kind = Heap; live = true; shape = RegionShape; edges = edges; plane = replicate size 2 }

-- a variable holds value 0; the segment is object 0, and the others stand behind the variable
abbrev pub beside : Object → List Object → List Value → Parts
beside segment others values = entries_of (record {
  objects = segment ∷ (holder (record { at = 0; size = 8; value = 0 } ∷ []) 2 ∷ others);
  values = values;
  variables = record { variable = 0; object = 1 } ∷ [];
  registers = [];
  ports = [];
  unequal = [];
})

-- nodes of sixteen bytes, each of which leads to the next one and holds its own address
abbrev pub owning : Shape
owning = Segment false 0 0 0 0 0 1 1 (record { edges = record { at = 8; size = 8; value = 2 } ∷ []; plane = replicate 16 2 })

abbrev pub linked : ℕ → ℕ → Shape
linked next_value prev_value = Segment true 8 0 8 4 0 next_value prev_value (record { edges = []; plane = replicate 16 2 })

pub record SplitRows : Type 0 where
  -- the variable holds the address of the region, which leads to the first node of the rest
  pub single : split_first 0 (held (pos 0))
      ≡ beside (allocated 8 (Segment false 0 0 0 0 0 1 1 (record { edges = []; plane = replicate 8 2 }))) (alone 8 (record { at = 0; size = 8; value = 2 } ∷ []) ∷ [])
      (Address 2 (pos 0) Region ∷ (Const 0 8 ∷ (Address 0 (pos 0) First ∷ [])))
  -- the region holds its own address
  pub own : split_first 0 (beside (allocated 16 owning) [] (Address 0 (pos 0) First ∷ (Const 0 8 ∷ (Address 0 (pos 0) Each ∷ []))))
      ≡ beside (allocated 16 owning) (alone 16 (record { at = 0; size = 8; value = 4 } ∷ (record { at = 8; size = 8; value = 3 } ∷ [])) ∷ [])
      (Address 2 (pos 0) Region ∷ (Const 0 8 ∷ (Address 0 (pos 0) Each ∷ (Address 2 (pos 0) Region ∷ (Address 0 (pos 0) First ∷ [])))))
  -- before the rest lies the region, at the place to which links back lead; behind it its own last node, as before
  pub first : split_first 0 ringed
      ≡ beside (allocated 16 (linked 1 4)) (alone 16 (record { at = 0; size = 8; value = 3 } ∷ (record { at = 8; size = 8; value = 2 } ∷ [])) ∷ [])
      (Address 2 (pos 24) Region ∷ (Address 0 (pos 12) Last ∷ (Address 1 (pos 0) Region ∷ (Address 0 (pos 8) First ∷ (Address 2 (pos 4) Region ∷ [])))))
  -- behind the rest lies the region, whose link is what lay behind the segment, its own address
  pub last : split_last 0 ringed
      ≡ beside (allocated 16 (linked 4 2)) (alone 16 (record { at = 0; size = 8; value = 1 } ∷ (record { at = 8; size = 8; value = 3 } ∷ [])) ∷ [])
      (Address 0 (pos 24) First ∷ (Address 2 (pos 12) Region ∷ (Address 1 (pos 0) Region ∷ (Address 0 (pos 4) Last ∷ (Address 2 (pos 8) Region ∷ [])))))
