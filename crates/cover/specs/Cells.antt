-- Where the objects of variables hold constants, and a number by which graphs that hold the same constants there are found: where one
-- graph covers another one, the other one holds the constants of the first one at the same places.
use Rattle.std.specs.Prelude.{◌≡◌, ℕ, ◌+◌, ◌*◌, ◌%◌, Bool, true, false, ◌&&◌, List, [], ◌∷◌, ◌++◌, nat_lt, if◌then◌else◌, Option, None, Some}
use Rattle.graph.specs.declared.edges.HasValue.{HasValue}
use Rattle.graph.specs.declared.object.Object.{Object}
use Rattle.graph.specs.declared.parts.Named.{Named}
use Rattle.graph.specs.declared.parts.Parts.{Parts}
use Rattle.graph.specs.Meaning.{Maps, maps_of}
use Rattle.graph.specs.Nodes.{node_of}
use Rattle.cover.specs.declared.cells.Cell.{Cell}
use Rattle.cover.specs.declared.content.Content.{Content}
use Rattle.cover.specs.declared.content.Content.TheVariants.{Fixed, Leads, Kept}
use Rattle.cover.specs.Covers.{content, value_in, held_in}

abbrev pub is_constant : Content → Bool
is_constant (Fixed number size) = true
is_constant (Leads object offset target) = false
is_constant (Kept key) = false

-- the value with this key is a constant
abbrev pub holds_constant : Maps → Option ℕ → Bool
holds_constant maps None = false
holds_constant maps (Some key) = is_constant (content maps key)

-- among the first 64 bytes of an object, where an edge holds a constant
abbrev pub is_cell : Maps → Object → HasValue → Bool
is_cell maps object edge = nat_lt edge.at 64 && holds_constant maps (value_in (node_of object).edges edge.at edge.size)

abbrev pub cell_at : ℕ → HasValue → Cell
cell_at variable edge = record { variable = variable; at = edge.at; size = edge.size }

abbrev pub cells_of_edges : Maps → Object → ℕ → List HasValue → List Cell
cells_of_edges maps object variable [] = []
cells_of_edges maps object variable (edge ∷ rest) =
    if is_cell maps object edge then cell_at variable edge ∷ cells_of_edges maps object variable rest else cells_of_edges maps object variable rest

-- the cell of an edge is put in, if it is one
pub record PutsCell (maps : Maps) (object : Object) (variable : ℕ) (edge : HasValue) (before after : List Cell) : Type 0 where
  pub puts : (rest : List HasValue) → after ++ cells_of_edges maps object variable rest ≡ before ++ cells_of_edges maps object variable (edge ∷ rest)

abbrev pub cells_of_object : Maps → ℕ → Option Object → List Cell
cells_of_object maps variable None = []
cells_of_object maps variable (Some object) = cells_of_edges maps object variable (node_of object).edges

abbrev pub cells_of_variables : Maps → List Named → List Cell
cells_of_variables maps [] = []
cells_of_variables maps (named ∷ rest) = cells_of_object maps named.variable (maps.objects named.object) ++ cells_of_variables maps rest

-- the cells of a graph: where the objects of its variables hold constants
abbrev pub constant_cells : Parts → List Cell
constant_cells parts = cells_of_variables (maps_of parts) parts.variables

-- what a graph holds in a cell
abbrev pub held_of : Maps → Cell → Option Object → Option Content
held_of maps cell None = None
held_of maps cell (Some object) = held_in maps (node_of object) cell.at cell.size

abbrev pub held_behind : Maps → Cell → Option ℕ → Option Content
held_behind maps cell None = None
held_behind maps cell (Some key) = held_of maps cell (maps.objects key)

abbrev pub held_at : Maps → Cell → Option Content
held_at maps cell = held_behind maps cell (maps.variables cell.variable)

-- a number of what came so far and one number more
abbrev pub mixed : ℕ → ℕ → ℕ
mixed print number = (print * 48271 + number % 2147483647) % 2147483647

-- the number so far goes on with a constant, and with nothing else
abbrev pub mixed_with : ℕ → Option Content → Option ℕ
mixed_with print None = None
mixed_with print (Some (Fixed number size)) = Some (mixed print number)
mixed_with print (Some (Leads object offset target)) = None
mixed_with print (Some (Kept key)) = None

abbrev pub goes_on : Option ℕ → (ℕ → Option ℕ) → Option ℕ
goes_on None onward = None
goes_on (Some print) onward = onward print

abbrev pub print_from : Maps → List Cell → ℕ → Option ℕ
print_from maps [] print = Some print
print_from maps (cell ∷ rest) print = goes_on (mixed_with print (held_at maps cell)) (print_from maps rest)

-- the fingerprint of a graph at some cells: a number of the constants that it holds there; none where it holds something else in one of them
abbrev pub fingerprint : Parts → List Cell → Option ℕ
fingerprint parts cells = print_from (maps_of parts) cells 0
