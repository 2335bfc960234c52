-- Marks at the places of the objects whose addresses are held.
use Rattle.std.specs.Prelude.{ℕ, ◌+◌, Bool, true, false, not, ◌&&◌, List, [], ◌∷◌, length, replicate, slice_get, slice_set, Option, None, Some, if◌then◌else◌}
use Rattle.std.specs.List.{fold}
use Rattle.graph.specs.declared.contents.Contents.{Contents}
use Rattle.graph.specs.declared.edges.HasValue.{HasValue}
use Rattle.graph.specs.declared.object.Object.{Object}
use Rattle.graph.specs.declared.parts.Held.{Held}
use Rattle.graph.specs.declared.value.Value.{Value}
use Rattle.graph.specs.declared.value.Value.TheVariants.{Const, Number, Any, Address}
use Rattle.graph.specs.Nodes.{node_of, link_edges}

-- the object to which a value leads gets a mark
abbrev pub marked_by : Option Value → List Bool → List Bool
marked_by None marks = marks
marked_by (Some (Const number size)) marks = marks
marked_by (Some (Number size)) marks = marks
marked_by (Some Any) marks = marks
marked_by (Some (Address object offset target)) marks = slice_set marks object true

-- so do those of the value at a place, of the values of edges, of an object, of objects, of registers and of ports
abbrev pub marked : List Value → List Bool → ℕ → List Bool
marked values marks key = marked_by (slice_get values key) marks

abbrev pub marked_edges : List Value → List Bool → List HasValue → List Bool
marked_edges values marks edges = fold (λ marks (edge : HasValue). marked values marks edge.value) marks edges

abbrev pub marked_object : List Value → List Bool → Object → List Bool
marked_object values marks object = marked_edges values (marked_edges values marks (node_of object).edges) (link_edges object.shape)

abbrev pub marked_objects : List Value → List Bool → List Object → List Bool
marked_objects values marks objects = fold (λ marks (object : Object). marked_object values marks object) marks objects

abbrev pub marked_registers : List Value → List Bool → List Held → List Bool
marked_registers values marks registers = fold (λ marks (held : Held). marked values marks held.value) marks registers

abbrev pub marked_ports : List Value → List Bool → List ℕ → List Bool
marked_ports values marks ports = fold (λ marks (port : ℕ). marked values marks port) marks ports

-- the marks of all objects
abbrev pub marks_of : Contents → List Bool
marks_of contents =
    marked_ports contents.values
    (marked_registers contents.values (marked_objects contents.values (replicate (length contents.objects) false) contents.objects) contents.registers)
    contents.ports

-- how many objects are dead, and how many of them are marked
abbrev pub one_if_dead : Object → ℕ
one_if_dead object = if object.live then 0 else 1

abbrev pub one_if_both : Object → Bool → ℕ
one_if_both object mark = if not object.live && mark then 1 else 0

abbrev pub dead : List Object → ℕ
dead [] = 0
dead (object ∷ rest) = one_if_dead object + dead rest

abbrev pub dead_and_marked : List Object → List Bool → ℕ
dead_and_marked [] marks = 0
dead_and_marked (object ∷ rest) [] = 0
dead_and_marked (object ∷ rest) (mark ∷ marks) = one_if_both object mark + dead_and_marked rest marks
