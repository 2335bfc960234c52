-- The post of a read: what the register gets that it reads into.
use Rattle.std.specs.Prelude.{ℕ, Bool, true, ◌&&◌, not, List, [], ◌∷◌, length, take, drop, nat_eq, nat_lt, Option, None, Some, if◌then◌else◌}
use Rattle.std.specs.List.{list_all}
use Rattle.graph.specs.declared.edges.HasValue.{HasValue}
use Rattle.graph.specs.declared.object.Object.{Object}
use Rattle.graph.specs.declared.parts.Parts.{Parts}
use Rattle.graph.specs.declared.value.Value.{Value}
use Rattle.graph.specs.declared.value.Value.TheVariants.{Const, Number, Any, Address}
use Rattle.graph.specs.Maps.{held_by}
use Rattle.graph.specs.WellFormed.{passes_at}
use Rattle.changes.specs.Parts.{with_object, with_value, with_register, without_registers}
use Rattle.changes.specs.Posted.{Posted, on_held, on_reach}
use Rattle.changes.specs.Ranges.{meets_none, written_object}
use Rattle.changes.specs.Reaching.{reach_of}
use Rattle.reinterpret.specs.Writing.{edge_at}

-- the value that the edge of a place and size holds
abbrev pub value_of : List HasValue → ℕ → ℕ → Option ℕ
value_of [] from size = None
value_of (first ∷ rest) from size = if nat_eq first.at from && nat_eq first.size size then Some first.value else value_of rest from size

-- at a pointer type any value is read as it is, and at an integer type a number
abbrev pub may_be_read : Bool → Value → Bool
may_be_read pointer (Const number size) = true
may_be_read pointer (Number size) = true
may_be_read pointer Any = pointer
may_be_read pointer (Address object offset target) = pointer

abbrev pub readable : Parts → Bool → Option ℕ → Option ℕ
readable parts pointer None = None
readable parts pointer (Some key) = if passes_at parts (may_be_read pointer) key then Some key else None

-- all bytes of a range have a class
abbrev pub are_class : ℕ → List ℕ → ℕ → ℕ → Bool
are_class class plane from size = list_all (nat_eq class) (take size (drop from plane))

-- what is read where no edge tells it, and bytes are not known: at a pointer type any word, if one of the bytes may be part of a pointer, and
-- else a number
abbrev pub unknown : Bool → ℕ → List ℕ → Value
unknown pointer size range = if pointer && not (list_all (λ class. nat_lt class 2) range) then Any else Number size

abbrev pub one_graph : Parts → Option ℕ → Posted
one_graph graph loss = record { graphs = graph ∷ []; kinds = []; loss = loss }

-- a graph with one value more, which the register holds
abbrev pub with_fresh : List ℕ → ℕ → ℕ → Parts → Parts
with_fresh gone into key parts = with_register into key (without_registers gone parts)

-- a fresh number, which the object holds from then on
abbrev pub number_read : Parts → List ℕ → ℕ → ℕ → ℕ → Object → ℕ → Posted
number_read parts gone into size key object from =
    one_graph (with_fresh gone into (length parts.values) (with_object key (written_object object (edge_at from size (length parts.values)) (Number size)) (with_value (Number size) parts))) None

-- bytes that are known to be 0 are the constant 0. Bytes that are known to be numbers and of which no edge tells are a fresh number, which
-- the object holds from then on. Of others something is lost: loss 3
abbrev pub bytes_read : Parts → List ℕ → ℕ → ℕ → Bool → ℕ → Object → ℕ → Posted
bytes_read parts gone into size pointer key object from =
    if are_class 0 object.plane from size then one_graph (with_fresh gone into (length parts.values) (with_value (Const 0 size) parts)) None
    else (if are_class 1 object.plane from size && meets_none from size object.edges
    then one_graph (with_fresh gone into (length parts.values) (with_object key (written_object object (edge_at from size (length parts.values)) (Number size)) (with_value (Number size) parts))) None
    else one_graph (with_fresh gone into (length parts.values) (with_value (unknown pointer size (take size (drop from object.plane))) parts)) (Some 3))

abbrev pub read_by : Option ℕ → Parts → List ℕ → ℕ → ℕ → Bool → ℕ → Object → ℕ → Posted
read_by None parts gone into size pointer key object from = bytes_read parts gone into size pointer key object from
read_by (Some value) parts gone into size pointer key object from = one_graph (with_fresh gone into value parts) None

-- an edge of that place and size tells the value
abbrev pub value_read : Parts → List ℕ → ℕ → ℕ → Bool → ℕ → Object → ℕ → Posted
value_read parts gone into size pointer key object from =
    read_by (readable parts pointer (value_of object.edges from size)) parts gone into size pointer key object from

abbrev pub read_post : Parts → ℕ → ℕ → Bool → ℕ → Posted
read_post parts at size pointer into =
    on_held (held_by parts.registers at) (λ target. on_reach parts (reach_of parts target size) (value_read parts (at ∷ []) into size pointer))
