-- Two neighbours that fold, worked out by hand.
use Rattle.std.specs.Prelude.{◌≡◌, ℕ, false, true, List, [], ◌∷◌, ◌++◌, replicate, pos}
use Rattle.bytes_core.specs.declared.block.BlockKind.TheVariants.{Local, Heap}
use Rattle.fold.specs.declared.fold.Fold.{Fold}
use Rattle.graph.specs.declared.edges.HasValue.{HasValue}
use Rattle.graph.specs.declared.object.Object.{Object}
use Rattle.graph.specs.declared.object.Shape.{Shape}
use Rattle.graph.specs.declared.object.Shape.TheVariants.{Region as RegionShape, Segment}
use Rattle.graph.specs.declared.value.Target.TheVariants.{Region, First, Last, Each}
use Rattle.graph.specs.declared.value.Value.{Value}
use Rattle.graph.specs.declared.value.Value.TheVariants.{Const, Address}
use Rattle.graph.specs.declared.parts.Named.{Named}
use Rattle.graph.specs.declared.parts.Parts.{Parts}
use Rattle.graph.specs.Points.{passes_all}
use Rattle.graph.specs.Renaming.{numbered}
use Rattle.graph.specs.Whole.{entries_of}
use Rattle.fold.specs.Candidates.{candidates}
use Rattle.fold.specs.Foldable.{has_neighbours}
use Rattle.fold.specs.Folded.{folded}

abbrev pub region : ℕ → List HasValue → List ℕ → Object
region size edges plane = record { size = size; kind = Heap; live = true; shape = RegionShape; edges = edges; plane = plane }

abbrev pub segment : ℕ → Shape → Object
segment size shape = record { size = size; kind = Heap; live = true; shape = shape; edges = []; plane = [] }

-- the eight bytes of a variable hold a value
abbrev pub holder : ℕ → Object
holder value = record { size = 8; kind = Local; live = true; shape = RegionShape; edges = record { at = 0; size = 8; value = value } ∷ []; plane = replicate 8 2 }

abbrev pub holding : List Object → List Value → List Named → Parts
holding objects values variables = entries_of (record { objects = objects; values = values; variables = variables; registers = []; ports = []; unequal = [] })

abbrev pub at_8 : ℕ → ℕ → HasValue
at_8 at value = record { at = at; size = 8; value = value }

-- Linked one way: a variable holds the region at 0, which holds at 0 the address of the region at 1, whose bytes are zeros.
abbrev pub one_way : Fold
one_way = record { first = 0; second = 1; twofold = false; head = 0; next = 0; prev = 0; back = 0 }

abbrev pub from_variable : Fold
from_variable = record { first = 2; second = 0; twofold = false; head = 0; next = 0; prev = 0; back = 0 }

abbrev pub two_regions : Parts
two_regions =
    holding (region 8 (at_8 0 1 ∷ []) (replicate 8 2) ∷ region 8 [] (replicate 8 0) ∷ holder 0 ∷ []) (Address 0 (pos 0) Region ∷ Address 1 (pos 0) Region ∷ [])
    (record { variable = 0; object = 2 } ∷ [])

-- a segment of two nodes at least, behind which 0 lies
abbrev pub one_segment : Parts
one_segment =
    holding (segment 8 (Segment false 0 0 0 0 2 1 1 (record { edges = []; plane = replicate 8 2 })) ∷ holder 0 ∷ []) (Address 0 (pos 0) First ∷ Const 0 8 ∷ []) (record { variable = 0; object = 1 } ∷ [])

-- another variable holds the second region
abbrev pub held_twice : Parts
held_twice =
    holding (region 8 (at_8 0 1 ∷ []) (replicate 8 2) ∷ region 8 [] (replicate 8 0) ∷ holder 0 ∷ holder 1 ∷ []) (Address 0 (pos 0) Region ∷ Address 1 (pos 0) Region ∷ [])
    (record { variable = 0; object = 2 } ∷ record { variable = 1; object = 3 } ∷ [])

-- Linked both ways, as the lists of sys/queue.h are: links lead to offset 0, links back to offset 8, where links stand; links back stand at 16. Each region holds its own address at 24.
abbrev pub both_ways : Fold
both_ways = record { first = 0; second = 1; twofold = true; head = 0; next = 8; prev = 16; back = 8 }

-- the first region holds 5 in its first byte, and the second one 7; the variable holds the first one
abbrev pub two_linked : Parts
two_linked =
    holding
    (region 32 (record { at = 0; size = 1; value = 3 } ∷ at_8 8 1 ∷ at_8 24 0 ∷ []) (1 ∷ (replicate 7 0 ++ (replicate 8 2 ++ (replicate 8 0 ++ replicate 8 2))))
    ∷ region 32 (record { at = 0; size = 1; value = 4 } ∷ at_8 16 2 ∷ at_8 24 1 ∷ []) (1 ∷ (replicate 7 0 ++ (replicate 8 0 ++ (replicate 8 2 ++ replicate 8 2)))) ∷ holder 0 ∷ [])
    (Address 0 (pos 0) Region ∷ Address 1 (pos 0) Region ∷ Address 0 (pos 8) Region ∷ Const 5 1 ∷ Const 7 1 ∷ []) (record { variable = 0; object = 2 } ∷ [])

-- each node holds some number in its first byte, and its own address; 0 lies behind the segment and before it
abbrev pub linked : Parts
linked =
    holding
    (segment 32 (Segment true 0 8 16 8 2 5 5 (record { edges = at_8 24 6 ∷ []; plane = 1 ∷ (replicate 7 0 ++ (replicate 8 2 ++ (replicate 8 2 ++ replicate 8 2))) })) ∷ holder 0 ∷ [])
    (Address 0 (pos 0) First ∷ Address 0 (pos 0) Last ∷ Address 0 (pos 8) First ∷ Const 5 1 ∷ Const 7 1 ∷ Const 0 8 ∷ Address 0 (pos 0) Each ∷ []) (record { variable = 0; object = 1 } ∷ [])

-- A segment behind a region, linked one way: the region's link is the address of its first node.
abbrev pub before_segment : Parts
before_segment =
    holding (region 8 (at_8 0 1 ∷ []) (replicate 8 2) ∷ segment 8 (Segment false 0 0 0 0 2 2 2 (record { edges = []; plane = replicate 8 2 })) ∷ holder 0 ∷ [])
    (Address 0 (pos 0) Region ∷ Address 1 (pos 0) First ∷ Const 0 8 ∷ []) (record { variable = 0; object = 2 } ∷ [])

abbrev pub three : Parts
three =
    holding (segment 8 (Segment false 0 0 0 0 3 1 2 (record { edges = []; plane = replicate 8 2 })) ∷ holder 0 ∷ []) (Address 0 (pos 0) First ∷ Const 0 8 ∷ Const 0 8 ∷ [])
    (record { variable = 0; object = 1 } ∷ [])

pub record FoldRows : Type 0 where
  -- links name the two regions, and the variable with the first one, which is not allocated; the regions are neighbours, and one segment of two nodes stands for them
  pub named : candidates two_regions ≡ one_way ∷ from_variable ∷ []
  pub neighbours : has_neighbours two_regions one_way ≡ true
  pub no_neighbours : has_neighbours two_regions from_variable ≡ false
  pub folds : numbered (folded one_way two_regions) ≡ one_segment
  pub makes_graph : passes_all (folded one_way two_regions) ≡ true
  -- held by another variable, the second region can not be given up
  pub held : passes_all (folded one_way held_twice) ≡ false
  -- linked both ways, with own addresses, and numbers that differ
  pub named_both : has_neighbours two_linked both_ways ≡ true
  pub folds_both : numbered (folded both_ways two_linked) ≡ linked
  pub makes_both : passes_all (folded both_ways two_linked) ≡ true
  -- a region counts for one node, a segment for its least number
  pub longer : numbered (folded one_way before_segment) ≡ three
