-- The post of a copy: the graph in which the target's range says what the source's said, as it was before.
use Rattle.std.specs.Prelude.{ℕ, zero, suc, ◌+◌, ◌-◌, Bool, true, false, ◌&&◌, ◌||◌, not, List, [], ◌∷◌, ◌++◌, map, take, drop, get_or, nat_eq, nat_lt, nat_le, None, Some, if◌then◌else◌}
use Rattle.std.specs.List.{filter, list_any}
use Rattle.bytes_core.specs.Fault.{overlapping_copy}
use Rattle.graph.specs.declared.edges.HasValue.{HasValue}
use Rattle.graph.specs.declared.object.Object.{Object}
use Rattle.graph.specs.declared.parts.Parts.{Parts}
use Rattle.graph.specs.Choices.{is_free}
use Rattle.graph.specs.Maps.{held_by}
use Rattle.changes.specs.declared.reach.Reach.{Reach}
use Rattle.changes.specs.declared.reach.Reach.TheVariants as to
use Rattle.changes.specs.Parts.{with_object, without_registers}
use Rattle.changes.specs.Posted.{Posted, fault_only, on_held, on_reach}
use Rattle.changes.specs.Ranges.{is_inside, cuts_none, with_range}
use Rattle.changes.specs.Reaching.{reach_of}

-- an edge of one range, as far behind the beginning of another
abbrev pub moved_edge : ℕ → ℕ → HasValue → HasValue
moved_edge from at edge = record { at = at + (edge.at - from); size = edge.size; value = edge.value }

-- the edges that lie whole in a range, moved to another one
abbrev pub moved_edges : List HasValue → ℕ → ℕ → ℕ → List HasValue
moved_edges edges from count at = map (moved_edge from at) (filter (is_inside from count) edges)

-- some of so many bytes from a place on may be other than 0 and stands in no edge
abbrev pub has_bare_byte : List HasValue → List ℕ → ℕ → ℕ → Bool
has_bare_byte edges plane from zero = false
has_bare_byte edges plane from (suc count) = (nat_lt 0 (get_or plane from 0) && is_free edges from) || has_bare_byte edges plane (from + 1) count

-- the target, of whose range is said what was said of the source's: the edges and the class of each byte
abbrev pub copied_object : Object → ℕ → Object → ℕ → ℕ → Object
copied_object source from target at count = with_range target at count (moved_edges source.edges from count at) (take count (drop from source.plane))

-- nothing that is known is lost: no edge is cut, and edges tell each byte of the source that may be other than 0. Where none does the two
-- bytes are equal, and the graph does not say so
abbrev pub copies_all : Object → ℕ → Object → ℕ → ℕ → Bool
copies_all source from target at count = (cuts_none from count source.edges && not (has_bare_byte source.edges source.plane from count)) && cuts_none at count target.edges

-- two ranges of one object share a byte
abbrev pub overlap : ℕ → ℕ → ℕ → ℕ → ℕ → Bool
overlap key from other at count = nat_eq key other && (nat_lt from (at + count) && nat_lt at (from + count))

-- a copy from bytes of one object to those of another, or of the same
abbrev pub object_written : Parts → List ℕ → Bool → ℕ → Object → ℕ → ℕ → Object → ℕ → Posted
object_written parts gone overlaps count source from key target at =
    if overlaps then fault_only overlapping_copy else record {
      graphs = without_registers gone (with_object key (copied_object source from target at count) parts) ∷ [];
      kinds = [];
      loss = if copies_all source from target at count then None else Some 3;
    }

abbrev pub object_copied : Parts → List ℕ → Bool → ℕ → ℕ → Object → ℕ → ℕ → Object → ℕ → Posted
object_copied parts gone disjoint count key source from other target at =
    object_written parts gone (disjoint && overlap other at key from count) count source from other target at

-- Through any word.

-- a live object has so many bytes
abbrev pub has_room : Parts → ℕ → Bool
has_room parts count = list_any (λ entry. entry.object.live && nat_le count entry.object.size) parts.objects

-- an access may meet no fault
abbrev pub may_be_right : Parts → ℕ → Reach → Bool
may_be_right parts count to.Nothing = false
may_be_right parts count (to.Fault kind) = false
may_be_right parts count (to.Number small) = false
may_be_right parts count (to.Anything live) = has_room parts count
may_be_right parts count (to.Room key from) = true

abbrev pub is_anywhere : Reach → Bool
is_anywhere to.Nothing = false
is_anywhere (to.Fault kind) = false
is_anywhere (to.Number small) = false
is_anywhere (to.Anything live) = true
is_anywhere (to.Room key from) = false

-- a source or a target that may be any word may overlap the other, where both may be right
abbrev pub may_overlap : Parts → ℕ → Reach → Reach → Bool
may_overlap parts count source target = (is_anywhere source || is_anywhere target) && (may_be_right parts count source && may_be_right parts count target)

-- with an overlap among the faults that may be met
abbrev pub with_overlap : Bool → Posted → Posted
with_overlap false posted = posted
with_overlap true posted = record { graphs = posted.graphs; kinds = posted.kinds ++ overlapping_copy ∷ []; loss = posted.loss }

-- The source is looked at first, and then the target. Where the source may be any word it meets each kind that the target may meet
-- behind it, as a target is looked at only where a live object has so many bytes.
abbrev pub copied_between : Parts → List ℕ → Bool → ℕ → Reach → Reach → Posted
copied_between parts gone disjoint count source target =
    with_overlap (disjoint && may_overlap parts count source target)
    (on_reach parts source (λ key object from. on_reach parts target (object_copied parts gone disjoint count key object from)))

-- a copy of no bytes is no access
abbrev pub copied_by : Parts → List ℕ → Bool → ℕ → ℕ → ℕ → Posted
copied_by parts gone disjoint zero source target = record { graphs = without_registers gone parts ∷ []; kinds = []; loss = None }
copied_by parts gone disjoint (suc more) source target =
    copied_between parts gone disjoint (suc more) (reach_of parts source (suc more)) (reach_of parts target (suc more))

abbrev pub copy_post : Parts → ℕ → ℕ → ℕ → Bool → Posted
copy_post parts to from length disjoint =
    on_held (held_by parts.registers to) (λ target. on_held (held_by parts.registers from) (λ source.
    copied_by parts (to ∷ from ∷ []) disjoint length source target))
