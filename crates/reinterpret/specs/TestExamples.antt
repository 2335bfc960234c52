-- Tests of two values, worked out by hand.
--
-- Register i holds value i. `a` (2) and `b` (3) are numbers of four bytes, `c` (5) one of one byte; 0 is null, 1 the constant 0 of four bytes, 4 and 12 are 3 in four bytes, 6 is 3 in one; 7 and 8 are the
-- addresses of the first bytes of two live objects, 9 that of the byte behind the first one, 10 that of a dead object, 11 any word.
use Rattle.std.specs.Prelude.{◌≡◌, ℕ, Bool, true, false, List, [], ◌∷◌, ◌++◌, replicate, pos, Option, None, Some}
use Rattle.bytes_core.specs.declared.block.BlockKind.TheVariants.{Local, Heap}
use Rattle.graph.specs.declared.edges.HasValue.{HasValue}
use Rattle.graph.specs.declared.object.Object.{Object}
use Rattle.graph.specs.declared.object.Shape.TheVariants.{Region as RegionShape}
use Rattle.graph.specs.declared.parts.Held.{Held}
use Rattle.graph.specs.declared.parts.Pair.{Pair}
use Rattle.graph.specs.declared.parts.Parts.{Parts}
use Rattle.graph.specs.declared.value.Target.TheVariants.{Region}
use Rattle.graph.specs.declared.value.Value.TheVariants.{Const, Number, Any, Address}
use Rattle.changes.specs.Parts.{without_registers}
use Rattle.changes.specs.Posted.{Posted}
use Rattle.reinterpret.specs.Testing.{equal_post}

-- eight bytes, of which the first four hold `a` and the last four `b`; and one byte that holds `c`
abbrev pub two_numbers : List HasValue → List ℕ → Object
two_numbers edges plane = record { size = 8; kind = Local; live = true; shape = RegionShape; edges = edges; plane = plane }

abbrev pub one_byte : ℕ → Object
one_byte value = record { size = 1; kind = Heap; live = true; shape = RegionShape; edges = record { at = 0; size = 1; value = value } ∷ []; plane = 1 ∷ [] }

abbrev pub dead_one : Object
dead_one = record { size = 8; kind = Heap; live = false; shape = RegionShape; edges = []; plane = [] }

abbrev pub held : ℕ → ℕ → Held
held register value = record { register = register; value = value }

abbrev pub numbers : ℕ → ℕ → List HasValue
numbers one other = record { at = 0; size = 4; value = one } ∷ record { at = 4; size = 4; value = other } ∷ []

-- the graph with these objects, ports and pairs, in which so many values stand for others in registers
abbrev pub graph_with : Object → Object → ℕ → ℕ → ℕ → List Pair → Parts
graph_with first last a b c pairs = record {
  objects = record { key = 0; object = first } ∷ record { key = 1; object = last } ∷ record { key = 2; object = dead_one } ∷ [];
  values = record { key = 0; value = Const 0 8 } ∷ record { key = 1; value = Const 0 4 } ∷ record { key = 2; value = Number 4 } ∷ record { key = 3; value = Number 4 } ∷ record { key = 4; value = Const 3 4 }
      ∷ record { key = 5; value = Number 1 } ∷ record { key = 6; value = Const 3 1 } ∷ record { key = 7; value = Address 0 (pos 0) Region } ∷ record { key = 8; value = Address 1 (pos 0) Region }
      ∷ record { key = 9; value = Address 0 (pos 8) Region } ∷ record { key = 10; value = Address 2 (pos 0) Region } ∷ record { key = 11; value = Any } ∷ record { key = 12; value = Const 3 4 } ∷ [];
  variables = [];
  registers = held 0 0 ∷ held 1 1 ∷ held 2 a ∷ held 3 b ∷ held 4 4 ∷ held 5 c ∷ held 6 6 ∷ held 7 7 ∷ held 8 8 ∷ held 9 9 ∷ held 10 10 ∷ held 11 11 ∷ held 12 12 ∷ [];
  ports = a ∷ b ∷ [];
  unequal = pairs;
}

abbrev pub example : List Pair → Parts
example pairs = graph_with (two_numbers (numbers 2 3) (replicate 8 1)) (one_byte 5) 2 3 5 pairs

abbrev pub pair : ℕ → ℕ → Pair
pair one other = record { left = one; right = other }

-- the graph goes on with the two registers emptied, or nothing does
abbrev pub onward : Parts → ℕ → ℕ → Option ℕ → Posted
onward parts left right loss = record { graphs = without_registers (left ∷ right ∷ []) parts ∷ []; kinds = []; loss = loss }

abbrev pub nothing : Option ℕ → Posted
nothing loss = record { graphs = []; kinds = []; loss = loss }

abbrev pub test : ℕ → ℕ → Bool → Posted
test left right same = equal_post (example []) left right same

pub record AreTests : Type 0 where
  pub equal_constants : test 4 12 true ≡ onward (example []) 4 12 None
  pub equal_constants_differ : test 4 12 false ≡ nothing None
  pub other_constants : test 4 1 true ≡ nothing None
  pub other_constants_differ : test 4 1 false ≡ onward (example []) 4 1 None
  pub number_itself : test 2 2 true ≡ onward (example []) 2 2 None
  pub number_differs_from_itself : test 2 2 false ≡ nothing None
  -- b is a wherever it was
  pub numbers_same : test 2 3 true ≡ onward (graph_with (two_numbers (numbers 2 2) (replicate 8 1)) (one_byte 5) 2 2 5 []) 2 3 None
  pub numbers_differ : test 2 3 false ≡ onward (example (pair 2 3 ∷ [])) 2 3 None
  pub noted_same : equal_post (example (pair 3 2 ∷ [])) 2 3 true ≡ nothing None
  pub noted_differ : equal_post (example (pair 3 2 ∷ [])) 2 3 false ≡ onward (example (pair 3 2 ∷ [])) 2 3 None
  -- a is 3, or 0, wherever it was
  pub number_and_constant : test 2 4 true ≡ onward (graph_with (two_numbers (numbers 4 3) (replicate 8 1)) (one_byte 5) 4 3 5 []) 2 4 None
  pub constant_and_number : test 4 2 true ≡ onward (graph_with (two_numbers (numbers 4 3) (replicate 8 1)) (one_byte 5) 4 3 5 []) 4 2 None
  pub number_and_zero : test 2 1 true ≡ onward (graph_with (two_numbers (record { at = 4; size = 4; value = 3 } ∷ []) (replicate 4 0 ++ replicate 4 1)) (one_byte 5) 1 3 5 []) 2 1 None
  pub number_differs_from_constant : test 2 4 false ≡ onward (example (pair 4 2 ∷ [])) 2 4 None
  -- a pair with a constant of another key tells as much
  pub excluded : equal_post (example (pair 2 12 ∷ [])) 2 4 true ≡ nothing None
  pub excluded_differs : equal_post (example (pair 2 12 ∷ [])) 2 4 false ≡ onward (example (pair 2 12 ∷ [])) 2 4 None
  -- pairs of the one are pairs of the other, each once, and none is of two constants
  pub pairs_move : equal_post (example (pair 3 1 ∷ [])) 2 3 true ≡ onward (graph_with (two_numbers (numbers 2 2) (replicate 8 1)) (one_byte 5) 2 2 5 (pair 2 1 ∷ [])) 2 3 None
  pub pairs_meet : equal_post (example (pair 3 1 ∷ pair 1 2 ∷ [])) 2 3 true ≡ onward (graph_with (two_numbers (numbers 2 2) (replicate 8 1)) (one_byte 5) 2 2 5 (pair 1 2 ∷ [])) 2 3 None
  pub pairs_go : equal_post (example (pair 2 1 ∷ [])) 2 4 true ≡ onward (graph_with (two_numbers (numbers 4 3) (replicate 8 1)) (one_byte 5) 4 3 5 []) 2 4 None
  -- of a byte no pair is noted
  pub byte_and_constant : test 5 6 true ≡ onward (graph_with (two_numbers (numbers 2 3) (replicate 8 1)) (one_byte 6) 2 3 6 []) 5 6 None
  pub byte_differs : test 5 6 false ≡ onward (example []) 5 6 (Some 5)
  -- null and an address inside a live object; two such addresses
  pub address_and_null : test 7 0 true ≡ nothing None
  pub null_differs_from_address : test 0 7 false ≡ onward (example []) 0 7 None
  pub address_itself : test 7 7 true ≡ onward (example []) 7 7 None
  pub addresses_same : test 7 8 true ≡ nothing None
  pub addresses_differ : test 7 8 false ≡ onward (example []) 7 8 None
  -- of other words nothing is known
  pub behind_one : test 9 8 true ≡ onward (example []) 9 8 (Some 4)
  pub behind_one_differs : test 9 8 false ≡ onward (example []) 9 8 (Some 4)
  pub dead_and_null : test 10 0 true ≡ onward (example []) 10 0 (Some 4)
  pub dead_itself : test 10 10 true ≡ onward (example []) 10 10 (Some 4)
  pub dead_differs_from_itself : test 10 10 false ≡ nothing (Some 4)
  pub any_and_null : test 11 0 true ≡ onward (example []) 11 0 (Some 4)
  pub any_differs : test 0 11 false ≡ onward (example []) 0 11 (Some 4)
